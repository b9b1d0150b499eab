-- How entries read in a node's label while a graph is built: what is known is so in the concrete state, what is unknown wants
-- a variable that is not tracked; and the graph's readings are these.
-- Assumes nothing.
use Prim.Native.Nat.{ℕ, ◌^◌, ◌<◌}
use mathlib.Core.Path.{◌≡◌, refl, sym, ap, ◌∙◌, subst}
use mathlib.Core.Bool.{Bool, true, false}
use lib.ListN.{get_or}
use lib.IntN.{ℤ, pos}
use Rattle.folder.specs.Pick.{pick}
use Rattle.folder.specs.Tab.{tab}
use Rattle.folder.proofs.TabLaws.{get_or-tab}
use Rattle.whole.proofs.Order.{to-⊑, from-⊑, ⊑_trans}
use Rattle.expressions.specs.Meaning.{State, value_of, number_in, truth_in}
use Rattle.expressions.specs.Reading.{has_bit, known_truth}
use Rattle.expressions.specs.Mentions.{carry_n, carry_t}
use Rattle.expressions.specs.Right.{IsNumber, IsTruth}
use Rattle.expressions.specs.Combinations.{Holds, Proper}
use Rattle.expressions.specs.States.{number_read, truth_read, lacked_by}
use Rattle.expressions.specs.ThreeWay.{Number, Truth}
use Rattle.expressions.proofs.Sound.{Says, SaysT}
use Rattle.expressions.proofs.States.{says-number, says_truth, number-misses, truth-misses}
use Rattle.expressions.proofs.Relabel.{number_same, truth-same}
use Rattle.model.specs.Model.{Model, bound}
use Rattle.model.specs.Chances.{InRange}
use Rattle.model.specs.Valid.{ModelRight}
use Rattle.model.proofs.Chances.{in_bounds}
use Rattle.graph.specs.Simulation.{Simulation}
use Rattle.graph.specs.Labels.{number_of, truth_of}
use Rattle.building.specs.Building.{Building, label_by, label_at, as_simulation}
use Rattle.building.specs.Moves.{wanted_t, wanted_n, truth_wants, number_wants}
use Rattle.building.proofs.FirstLaws.{nothing}
use Rattle.building.proofs.SetLaws.{bit-there}
use Rattle.std.specs.Prelude.{None, Some}

-- ---- wants
wants-truth : (r : Truth) (x v : ℕ) → wanted_t (carry_t x r) ≡ Some v → (r ≡ None) × (x ≡ v)
wants-truth (Some true) x v e = nothing e
wants-truth (Some false) x v e = nothing e
wants-truth None x v e = (refl, cc)

wants-number : (r : Number) (x v : ℕ) → wanted_n (carry_n x r) ≡ Some v → (r ≡ None) × (x ≡ v)
wants-number (Some z) x v e = nothing e
wants-number None x v e = (refl, cc)

known-by-truth : {r : Truth} {b : Bool} (x : ℕ) → SaysT r b → wanted_t (carry_t x r) ≡ None → r ≡ known_truth b
known-by-truth x SaysT.known-true e = refl
known-by-truth x SaysT.known-false e = refl
known-by-truth x SaysT.open-truth e = nothing (sym e)

known-by-number : {r : Number} {z : ℤ} (x : ℕ) → Says r z → wanted_n (carry_n x r) ≡ None → r ≡ Some z
known-by-number x Says.known e = refl
known-by-number x Says.open-number e = nothing (sym e)

-- ---- a label with a state's values
module _ (M : Model) (t : ℕ) (s : State) (small : t < 2 ^ M.variables) (r : InRange M s) where
  pub proper-by : Proper (label_by M t s)
  proper-by = record {
    ordered = λ v p. let h = in_bounds M s r v in from-⊑ (⊑_trans (to-⊑ h.low) (to-⊑ h.high));
    there = λ v b. bit-there t M.variables small v b;
    low = λ v b. (in_bounds M s r v).low;
    high = λ v b. (in_bounds M s r v).high;
  }

  pub holds-own : Holds (label_by M t s) s
  holds-own = record { long = r.long; low = λ v p. (in_bounds M s r v).low; high = λ v p. (in_bounds M s r v).high; agrees = λ v p b. refl }

module _ (M : Model) (B : Building) (n : ℕ) (small : B.tracked n < 2 ^ M.variables) (r : InRange M (B.state n)) where
  P : Proper (label_at M B n)
  P = proper-by M (B.tracked n) (B.state n) small r

  H : Holds (label_at M B n) (B.state n)
  H = holds-own M (B.tracked n) (B.state n) small r

  pub truth-none : (e : ℕ) → truth_wants M B n e ≡ None → truth_read M.entries (label_at M B n) e ≡ known_truth (truth_in M.entries (B.state n) e)
  unfolding truth_wants
  truth-none e h = known-by-truth (lacked_by M.entries (label_at M B n) e) (says_truth M.entries (label_at M B n) P e (B.state n) H) h

  pub number-none : (e : ℕ) → number_wants M B n e ≡ None → number_read M.entries (label_at M B n) e ≡ Some (number_in M.entries (B.state n) e)
  unfolding number_wants
  number-none e h = known-by-number (lacked_by M.entries (label_at M B n) e) (says-number M.entries (label_at M B n) P e (B.state n) H) h

  -- A variable that the label may want.
  abbrev pub Wanted : ℕ → Type 0
  Wanted v = (v < M.variables) × (has_bit (B.tracked n) v ≡ false)

  module _ (X : ModelRight M) (e v : ℕ) where
    pub truth-wanted : IsTruth M.entries e → truth_wants M B n e ≡ Some v → Wanted v
    unfolding truth_wants
    truth-wanted i h =
        let w = wants-truth (truth_read M.entries (label_at M B n) e) (lacked_by M.entries (label_at M B n) e) v h in
        let low = truth-misses M.entries (label_at M B n) P e X.entries i w.0 in
        subst Wanted w.1 (low.there, low.untracked)

    pub number-wanted : IsNumber M.entries e → number_wants M B n e ≡ Some v → Wanted v
    unfolding number_wants
    number-wanted i h =
        let w = wants-number (number_read M.entries (label_at M B n) e) (lacked_by M.entries (label_at M B n) e) v h in
        let low = number-misses M.entries (label_at M B n) P e X.entries i w.0 in
        subst Wanted w.1 (low.there, low.untracked)

  -- ---- the graph's readings
  module _ (value : ℕ → ℕ) where
    abbrev G : Simulation
    G = as_simulation M B value

    label_same : (v : ℕ) → has_bit (B.tracked n) v ≡ true → get_or (tab M.variables (G.label n)) v (pos 0) ≡ get_or (B.state n) v (pos 0)
    label_same v b =
        get_or-tab (pos 0) M.variables (G.label n) v (bit-there (B.tracked n) M.variables small v b)
        ∙ ap (λ (t : Bool). pick t (value_of (B.state n) v) (pos 0)) b

    pub reads-truth : (e : ℕ) → truth_of M G n e ≡ truth_read M.entries (label_at M B n) e
    reads-truth e = truth-same M.entries M.variables (bound M) (B.tracked n) (tab M.variables (G.label n)) (B.state n) label_same e

    pub reads-number : (e : ℕ) → number_of M G n e ≡ number_read M.entries (label_at M B n) e
    reads-number e = number_same M.entries M.variables (bound M) (B.tracked n) (tab M.variables (G.label n)) (B.state n) label_same e
