-- A label that grows: what reads known stays known, and it contains fewer states.
-- Assumes nothing.
use Prim.Native.Nat.{ℕ, ◌^◌, ◌<◌}
use mathlib.Core.Path.{◌≡◌, refl, sym, ap, ◌∙◌}
use mathlib.Core.Bool.{Bool, true, false}
use native.Mathlib.Decide.{ℕ_discrete}
use lib.IntN.{ℤ}
use Rattle.folder.specs.Pick.{implies}
use Rattle.folder.specs.Scan.{first_bad}
use Rattle.folder.proofs.ScanLaws.{found, stops-below, not-all}
use Rattle.folder.proofs.Decides.{implies-fails}
use Rattle.whole.specs.Order.{eq_z}
use Rattle.expressions.specs.Meaning.{State, value_of, number_in, truth_in}
use Rattle.expressions.specs.Reading.{has_bit, known_truth}
use Rattle.expressions.specs.Mentions.{carry_n, carry_t}
use Rattle.expressions.specs.ThreeWay.{Number, Truth}
use Rattle.expressions.proofs.Relabel.{number-grows, truth-grows}
use Rattle.model.specs.Model.{Model, bound}
use Rattle.model.specs.Chances.{InRange}
use Rattle.building.specs.Building.{Building, agrees}
use Rattle.building.specs.Moves.{tracking, wanted_t, wanted_n, truth_wants, number_wants, guards_want}
use Rattle.building.proofs.FirstLaws.{put-at, put_other, first-none, first-nowhere}
use Rattle.building.proofs.ReadLaws.{proper-by, truth-none, number-none}
use Rattle.std.specs.Prelude.{Some, None}

wants-no-truth : {r : Truth} (x : ℕ) (b : Bool) → r ≡ known_truth b → wanted_t (carry_t x r) ≡ None
wants-no-truth x true e = rw e refl
wants-no-truth x false e = rw e refl

wants-no-number : {r : Number} (x : ℕ) (z : ℤ) → r ≡ Some z → wanted_n (carry_n x r) ≡ None
wants-no-number x z e = rw e refl

module _ (M : Model) (B : Building) (n t : ℕ) (more : (v : ℕ) → has_bit (B.tracked n) v ≡ true → has_bit t v ≡ true) (small : t < 2 ^ M.variables) where
  abbrev T : Building
  T = tracking n t B

  module _ (i : ℕ) (low : B.tracked i < 2 ^ M.variables) (r : InRange M (B.state i)) (e : ℕ) where
    number-other : (i ≡ n → ⊥) → number_wants M T i e ≡ number_wants M B i e
    unfolding number_wants
    number-other d = rw (put_other n t B.tracked i d) refl

    truth-other : (i ≡ n → ⊥) → truth_wants M T i e ≡ truth_wants M B i e
    unfolding truth_wants
    truth-other d = rw (put_other n t B.tracked i d) refl

    module _ (q : i ≡ n) where
      grown-set : T.tracked i ≡ t
      grown-set = put-at n t B.tracked i q

      more-here : (v : ℕ) → has_bit (B.tracked i) v ≡ true → has_bit t v ≡ true
      more-here v b = more v (ap (λ (k : ℕ). has_bit (B.tracked k) v) (sym q) ∙ b)

      number_same : number_wants M B i e ≡ None → number_wants M T i e ≡ None
      unfolding number_wants
      number_same h =
          let z : ℤ = number_in M.entries (B.state i) e in
          let k = number-none M B i low r e h in
          let g = number-grows M.entries M.variables (bound M) (B.tracked i) t (B.state i) more-here e (proper-by M (B.tracked i) (B.state i) low r) (proper-by M t (B.state i) small r) z k in
          rw grown-set (wants-no-number _ z g)

      truth-same : truth_wants M B i e ≡ None → truth_wants M T i e ≡ None
      unfolding truth_wants
      truth-same h =
          let z : Bool = truth_in M.entries (B.state i) e in
          let k = truth-none M B i low r e h in
          let g = truth-grows M.entries M.variables (bound M) (B.tracked i) t (B.state i) more-here e (proper-by M (B.tracked i) (B.state i) low r) (proper-by M t (B.state i) small r) z k in
          rw grown-set (wants-no-truth _ z g)

    pub number-stays : number_wants M B i e ≡ None → number_wants M T i e ≡ None
    number-stays h = go (ℕ_discrete i n)
      where
        go : Dec (i ≡ n) → number_wants M T i e ≡ None
        go (yes q) = number_same q h
        go (no d) = number-other d ∙ h

    pub truth-stays : truth_wants M B i e ≡ None → truth_wants M T i e ≡ None
    truth-stays h = go (ℕ_discrete i n)
      where
        go : Dec (i ≡ n) → truth_wants M T i e ≡ None
        go (yes q) = truth-same q h
        go (no d) = truth-other d ∙ h

  pub guards-stay : (i : ℕ) → B.tracked i < 2 ^ M.variables → InRange M (B.state i) → guards_want M B i ≡ None → guards_want M T i ≡ None
  unfolding guards_want
  guards-stay i low r h = first-nowhere (λ c. truth_wants M T i (M.guard c)) M.commands (λ c l. truth-stays i low r (M.guard c) (first-none M.commands (λ c. truth_wants M B i (M.guard c)) h c l))

-- A label that tracks more contains no more states.
pub agrees-fewer : (M : Model) (t u : ℕ) (s r : State) → ((v : ℕ) → has_bit t v ≡ true → has_bit u v ≡ true) → agrees M t s r ≡ false → agrees M u s r ≡ false
unfolding agrees
agrees-fewer M t u s r more h =
    let ok : ℕ → Bool = λ v. implies (has_bit t v) (eq_z (value_of s v) (value_of r v)) in
    let l = stops-below ok M.variables h in
    let f = implies-fails (has_bit t (first_bad ok M.variables)) (eq_z (value_of s (first_bad ok M.variables)) (value_of r (first_bad ok M.variables))) ((found ok M.variables).broken l) in
    not-all (λ v. implies (has_bit u v) (eq_z (value_of s v) (value_of r v))) M.variables (first_bad ok M.variables) l (rw (more (first_bad ok M.variables) f.0, f.1) refl)
