-- The next move may be made; and where there is none, no rule is broken.
-- Assumes nothing.
use Rattle.std.specs.Prelude.{Option, None, Some}
use Prim.Native.Nat.{ℕ, ◌+◌, ◌<◌}
use mathlib.Core.Path.{◌≡◌, refl, ap, ◌∙◌, subst}
use mathlib.Core.Logic.{⊎_elim}
use mathlib.Core.Bool.{Bool, true, false}
use borrow.Author.Tests.{leb-true}
use lib.Dec.{leb}
use Rattle.mdp.specs.Kinds.{Kind}
use Rattle.folder.specs.Pick.{pick, implies}
use Rattle.folder.specs.Scan.{first_bad}
use Rattle.folder.proofs.ScanLaws.{found, stops-below}
use Rattle.folder.proofs.Decides.{and_both, implies-fails}
use Rattle.expressions.specs.Meaning.{truth_in}
use Rattle.expressions.specs.Reading.{has_bit}
use Rattle.expressions.specs.Right.{IsTruth}
use Rattle.model.specs.Model.{Model, first_record}
use Rattle.model.specs.Valid.{ModelRight}
use Rattle.model.proofs.Chances.{record-there}
use Rattle.building.specs.First.{◌orelse◌, given, onward, first}
use Rattle.building.specs.Building.{Building, enabled, births, is_open, child_by, contains}
use Rattle.building.specs.Length.{length_with}
use Rattle.building.specs.Moves.{Move, track, adopt, drop, cover_by, reach, expand, Limit, truth_wants, number_wants, guards_want, result_wants, results_want, expanded_wants, covered, adopted, repair_as, repair, waits, lowest_waiting, can_cover, lowest_cover, room, opening, growth, next_move}
use Rattle.building.specs.Kept.{Kept, Apt, may-track, may-adopt, may-drop, may-cover_by, may-reach, may-expand, Mended}
use Rattle.building.proofs.ReadLaws.{truth-wanted, number-wanted}
use Rattle.building.proofs.FirstLaws.{nothing, orelse-none, orelse-some, given-some, first-none, first_some, onward-some}

some_inj : {A : Type 0} {a b : A} → Some a ≡ Some b → a ≡ b
some_inj e = cc

waits-is : (κ : Kind) (n i : ℕ) → waits κ n ≡ Some i → (κ ≡ Kind.waiting) × (n ≡ i)
waits-is Kind.waiting n i e = (refl, cc)
waits-is Kind.expanded n i e = nothing e
waits-is Kind.covered n i e = nothing e
waits-is Kind.target n i e = nothing e

module _ (M : Model) (P : Limit) (X : ModelRight M) (B : Building) (K : Kept M P.most B) where
  abbrev Wants : ℕ → ℕ → Type 0
  Wants n v = (v < M.variables) × (has_bit (B.tracked n) v ≡ false)

  truth-wants : (n : ℕ) → n < B.nodes → (e : ℕ) → IsTruth M.entries e → (v : ℕ) → truth_wants M B n e ≡ Some v → Wants n v
  truth-wants n l e i v h = truth-wanted M B n (K.small n l) (K.states n l) X e v i h

  guards-wanted : (n : ℕ) → n < B.nodes → (v : ℕ) → guards_want M B n ≡ Some v → Wants n v
  unfolding guards_want
  guards-wanted n l v h =
      let p = first_some M.commands (λ c. truth_wants M B n (M.guard c)) v h in
      truth-wants n l (M.guard p.0) (X.commands p.0 p.1).guard v p.2

  result-wanted : (n : ℕ) → n < B.nodes → (c b v : ℕ) → c < M.commands → b < M.branches c → result_wants M B n c b ≡ Some v → Wants n v
  unfolding result_wants
  result-wanted n r c b v l k h =
      let p = first_some M.variables (λ w. given (has_bit (B.tracked (child_by M B n c b)) w) (number_wants M B n (M.assigned (first_record M c + b) w))) v h in
      let q = given-some (has_bit (B.tracked (child_by M B n c b)) p.0) (number_wants M B n (M.assigned (first_record M c + b) p.0)) v p.2 in
      number-wanted M B n (K.small n r) (K.states n r) X (M.assigned (first_record M c + b) p.0) v ((X.branches (first_record M c + b) (record-there M X c b l k)).number p.0 p.1) q.1

  results-wanted : (n : ℕ) → n < B.nodes → (v : ℕ) → results_want M B n ≡ Some v → Wants n v
  unfolding results_want
  results-wanted n l v h =
      let p = first_some M.commands (λ c. given (enabled M (B.state n) c) (first (M.branches c) (result_wants M B n c))) v h in
      let q = given-some (enabled M (B.state n) p.0) (first (M.branches p.0) (result_wants M B n p.0)) v p.2 in
      let r = first_some (M.branches p.0) (result_wants M B n p.0) v q.1 in
      result-wanted n l p.0 r.0 v p.1 r.1 r.2

  expanded-wanted : (n : ℕ) → n < B.nodes → (v : ℕ) → expanded_wants M B n ≡ Some v → Wants n v
  expanded-wanted n l v h =
      ⊎_elim (guards-wanted n l v)
      (λ h. ⊎_elim (truth-wants n l M.target X.target v) (results-wanted n l v) (orelse-some (truth_wants M B n M.target) (results_want M B n) v h))
      (orelse-some (guards_want M B n) (truth_wants M B n M.target orelse results_want M B n) v h)

  -- ---- a repair
  tracks-apt : (n : ℕ) → n < B.nodes → (o : Option ℕ) → ((v : ℕ) → o ≡ Some v → Wants n v) → (m : Move) → onward o (λ v. Some (track n v)) ≡ Some m → Apt M P B m
  tracks-apt n l o w m e =
      let p = onward-some o (λ v. Some (track n v)) m e in
      let q : track n p.0 ≡ m = some_inj p.2 in
      let h = w p.0 p.1 in
      subst (λ (x : Move). Apt M P B x) q (may-track l h.0 h.1)

  covered-apt : (n : ℕ) → n < B.nodes → B.kind n ≡ Kind.covered → (a b : Bool) → covered M B n ≡ a → adopted M B n ≡ b → (m : Move)
      → pick a (pick b None (Some (adopt n))) (Some (drop n)) ≡ Some m → Apt M P B m
  unfolding adopted
  covered-apt n l k true true p q m e = nothing e
  covered-apt n l k true false p q m e =
      let ok : ℕ → Bool = λ v. implies (has_bit (B.tracked (B.cover n)) v) (has_bit (B.tracked n) v) in
      let v : ℕ = first_bad ok M.variables in
      let s = stops-below ok M.variables q in
      let h = implies-fails (has_bit (B.tracked (B.cover n)) v) (has_bit (B.tracked n) v) ((found ok M.variables).broken s) in
      subst (λ (x : Move). Apt M P B x) (some_inj e) (may-adopt v l k s h.0 h.1)
  covered-apt n l k false b p q m e = subst (λ (x : Move). Apt M P B x) (some_inj e) (may-drop l k p)

  repair-as-apt : (n : ℕ) → n < B.nodes → (κ : Kind) → B.kind n ≡ κ → (m : Move) → repair_as M B n κ ≡ Some m → Apt M P B m
  repair-as-apt n l Kind.waiting k m e = nothing e
  repair-as-apt n l Kind.expanded k m e = tracks-apt n l (expanded_wants M B n) (expanded-wanted n l) m e
  repair-as-apt n l Kind.covered k m e = covered-apt n l k (covered M B n) (adopted M B n) refl refl m e
  repair-as-apt n l Kind.target k m e = tracks-apt n l (truth_wants M B n M.target) (truth-wants n l M.target X.target) m e

  repair-apt : (n : ℕ) → n < B.nodes → (m : Move) → repair M B n ≡ Some m → Apt M P B m
  repair-apt n l = repair-as-apt n l (B.kind n) refl

  -- ---- a growth
  module _ (n : ℕ) (l : n < B.nodes) (w : B.kind n ≡ Kind.waiting) (m : Move) where
    cover-apt : (c : ℕ) → lowest_cover M B n ≡ Some c → Some (cover_by n c) ≡ Some m → Apt M P B m
    unfolding lowest_cover
    cover-apt c h e =
        let p = first_some B.nodes (λ c. given (can_cover M B n c) (Some c)) c h in
        let q = given-some (can_cover M B n p.0) (Some p.0) c p.2 in
        let same : cover_by n p.0 ≡ m = ap (cover_by n) (some_inj q.1) ∙ some_inj e in
        let t = and_both (is_open (B.kind p.0)) (contains M B p.0 (B.state n)) q.0 in
        subst (λ (x : Move). Apt M P B x) same (may-cover_by l w p.1 t.0 t.1)

    opening-by : (t r : Bool) → truth_in M.entries (B.state n) M.target ≡ t → room M P B n ≡ r → pick t (Some (reach n)) (given r (Some (expand n))) ≡ Some m → Apt M P B m
    unfolding given
    opening-by true r p q e = subst (λ (x : Move). Apt M P B x) (some_inj e) (may-reach l w p)
    opening-by false true p q e =
        let h = and_both (leb (B.nodes + births M (B.state n)) P.most) (leb (length_with M B n) P.longest) q in
        subst (λ (x : Move). Apt M P B x) (some_inj e) (may-expand l w p (leb-true _ _ h.0) (leb-true _ _ h.1))
    opening-by false false p q e = nothing e

    opening-apt : opening M P B n ≡ Some m → Apt M P B m
    unfolding opening
    opening-apt e = opening-by _ _ refl refl e

    growth-apt : growth M P B n ≡ Some m → Apt M P B m
    growth-apt e =
        ⊎_elim (λ h. let p = onward-some (lowest_cover M B n) (λ c. Some (cover_by n c)) m h in cover-apt p.0 p.1 p.2) opening-apt
        (orelse-some (onward (lowest_cover M B n) (λ c. Some (cover_by n c))) (opening M P B n) m e)

  pub next-apt : (m : Move) → next_move M P B ≡ Some m → Apt M P B m
  unfolding next_move lowest_waiting
  next-apt m e =
      ⊎_elim (λ h. let p = first_some B.nodes (repair M B) m h in repair-apt p.0 p.1 m p.2)
      (λ h.
      let p = onward-some (lowest_waiting M B) (growth M P B) m h in
      let q = first_some B.nodes (λ n. waits (B.kind n) n) p.0 p.1 in
      let w = waits-is (B.kind q.0) q.0 p.0 q.2 in
      growth-apt p.0 (rw w.1 at q.1) (rw w.1 at w.0) m p.2)
      (orelse-some (first B.nodes (repair M B)) (onward (lowest_waiting M B) (growth M P B)) m e)

-- Nothing is left to do: no rule is broken.
pub none-mended : (M : Model) (P : Limit) (B : Building) → next_move M P B ≡ None → Mended M B
unfolding next_move
none-mended M P B e = first-none B.nodes (repair M B) (orelse-none (first B.nodes (repair M B)) (onward (lowest_waiting M B) (growth M P B)) e).0
