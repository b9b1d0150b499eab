-- What the flags and the state's row say of a node: how the guards, the target and the assigned entries of an accepted model
-- read in its label.
-- Assumes nothing.
use Prim.Native.Nat.{ℕ}
use mathlib.Core.Path.{◌≡◌, refl, sym, ap, ◌∙◌}
use mathlib.Core.Bool.{Bool, true, false, not, false≢true, and-true}
use mathlib.Core.List.{List}
use native.Mathlib.Omega.{arith}
use borrow.Author.Tests.{lt-ltb, le-ltb, eqb-true, ne_eqb}
use lib.Dec.{ltb, eqb}
use lib.ListN.{get_or}
use lib.IntN.{ℤ, pos}
use Rattle.folder.specs.Pick.{pick}
use Rattle.folder.specs.Contents.{body, field}
use Rattle.folder.proofs.ScanLaws.{stops-below}
use Rattle.whole.specs.Order.{eq_z}
use Rattle.expressions.specs.Limits.{no_variable}
use Rattle.expressions.specs.Meaning.{truth_in}
use Rattle.expressions.specs.Reading.{known_truth, is_known, is_true, is_false}
use Rattle.expressions.specs.Mentions.{missing, mentions, carry_t, lacked}
use Rattle.expressions.specs.Right.{IsNumber, IsTruth}
use Rattle.expressions.specs.ThreeWay.{Number, Truth}
use Rattle.expressions.proofs.Sound.{known_is, true-is, false-is}
use Rattle.expressions.proofs.States.{says-number, says_truth}
use Rattle.evaluate.specs.Settled.{as_number}
use Rattle.states.specs.Read.{is_known_number, reads_known}
use Rattle.states.proofs.Entries.{truth-back, entry-number, entry-truth}
use Rattle.states.proofs.Reading.{read_number, read-truth}
use Rattle.model.specs.Layout.{variable_count}
use Rattle.model.specs.Model.{Model, model_of}
use Rattle.graph.specs.Simulation.{Simulation, node_field, simulation_of}
use Rattle.graph.specs.Labels.{label_of, concrete_state, number_of, truth_of, reading_of}
use Rattle.graph.specs.Rules.{A1, A2}
use Rattle.graph.specs.Seconds.{open_guard, second19}
use Rattle.graph.proofs.Decided.{a2-decided}
use Rattle.expand.specs.Node.{NodeOf, StateSettled, GuardsSettled, MasksOf}
use Rattle.expand.specs.Tests.{holds_at}
use Rattle.expand.specs.Follow.{target_reads, RuleAnswer, TargetKept}
use Rattle.expand.proofs.Ready.{label-proper, own-holds}
use Rattle.std.specs.Prelude.{None, Some, Result, ⊤}

-- ---- the command at c, by the body of commands: e is its guard, and t what a test of the guard answers
pub at-guard : (test : ℕ → Bool) (m : List ℕ) (c : ℕ) {cs : List ℕ} {e : ℕ} {t : Bool} → cs ≡ body m 3 → e ≡ field 4 cs c 0 → t ≡ test e → t ≡ test ((model_of m).guard c)
at-guard test m c q p h = h ∙ ap test (p ∙ ap (λ (s : List ℕ). field 4 s c 0) q)

-- ---- readings of a known truth
known-truth : (t : Truth) → is_known t ≡ is_known_number (as_number t)
known-truth (Some true) = refl
known-truth (Some false) = refl
known-truth None = refl

module _ {m g : List ℕ} {n : ℕ} (node : NodeOf m g n) where
  abbrev M : Model
  M = model_of m

  abbrev G : Simulation
  G = simulation_of M g

  -- Whether it reads known, by the sort.
  pub truth-known : {e : ℕ} → IsTruth M.entries e → reads_known M.entries (label_of M G n) e ≡ is_known (truth_of M G n e)
  truth-known {e} i = ap is_known_number (read-truth M.entries (label_of M G n) e i) ∙ sym (known-truth (truth_of M G n e))

  pub number-known : {e : ℕ} → IsNumber M.entries e → reads_known M.entries (label_of M G n) e ≡ is_known_number (number_of M G n e)
  number-known {e} i = ap is_known_number (read_number M.entries (label_of M G n) e i)

  module _ (h : A1 M G n ≡ true) {state : List ℤ} (stated : StateSettled m g n state) where
    -- What reads known is what the state's row has.
    pub known-number : {e : ℕ} → IsNumber M.entries e → reads_known M.entries (label_of M G n) e ≡ true → number_of M G n e ≡ Some (get_or state e (pos 0))
    known-number {e} i k = go (number_of M G n e) refl (sym (number-known i) ∙ k)
      where
        go : (a : Number) → number_of M G n e ≡ a → is_known_number a ≡ true → a ≡ Some (get_or state e (pos 0))
        go (Some z) q b = ap Some (sym (stated.is e i.there ∙ entry-number M.entries (concrete_state M G n) e i ∙ known_is z (says-number M.entries (label_of M G n) (label-proper node h) e (concrete_state M G n) (own-holds node h)) q))
        go None q b = absurd (false≢true b)

    holds-is : {e : ℕ} → IsTruth M.entries e → holds_at state e ≡ truth_in M.entries (concrete_state M G n) e
    unfolding holds_at
    holds-is {e} i = ap (λ (z : ℤ). eq_z z (pos 1)) (stated.is e i.there ∙ entry-truth M.entries (concrete_state M G n) e i) ∙ truth-back (truth_in M.entries (concrete_state M G n) e)

    pub truth-of-known : {e : ℕ} → IsTruth M.entries e → is_known (truth_of M G n e) ≡ true → truth_of M G n e ≡ known_truth (holds_at state e)
    truth-of-known {e} i k = go (truth_of M G n e) refl k
      where
        go : (a : Truth) → truth_of M G n e ≡ a → is_known a ≡ true → a ≡ known_truth (holds_at state e)
        go (Some true) q b = ap known_truth (sym (holds-is i ∙ true-is (says_truth M.entries (label_of M G n) (label-proper node h) e (concrete_state M G n) (own-holds node h)) q))
        go (Some false) q b = ap known_truth (sym (holds-is i ∙ false-is (says_truth M.entries (label_of M G n) (label-proper node h) e (concrete_state M G n) (own-holds node h)) q))
        go None q b = absurd (false≢true b)

    -- Where A2 holds, so do the guards.
    pub guards-settled : A2 M G n ≡ true → G.kind n ≡ 1 → GuardsSettled m g n state
    guards-settled a k = record {
      is = λ c l.
          let i = (node.model.model.commands c l).guard in
          sym (ap is_true (truth-of-known i (not-unknown (truth_of M G n (M.guard c)) (((a2-decided M G n).yes a).guards k c l))) ∙ true-so (holds_at state (M.guard c)));
    }
      where
        true-so : (b : Bool) → is_true (known_truth b) ≡ b
        true-so true = refl
        true-so false = refl

        not-unknown : (t : Truth) → (t ≡ None → ⊥) → is_known t ≡ true
        not-unknown (Some true) d = refl
        not-unknown (Some false) d = refl
        not-unknown None d = absurd (d refl)

  -- ---- A2 and the second place of 19, by the node's kind
  -- What an unknown truth lacks, of the row of masks; a known one lacks none.
  pub lacks-is : {masks : List ℕ} → MasksOf m masks → {e : ℕ} → IsTruth M.entries e → is_known (truth_of M G n e) ≡ false
      → {vars set mask v : ℕ} → vars ≡ variable_count m → set ≡ node_field M g n 5 → mask ≡ get_or masks e 0 → v ≡ missing vars mask set → v ≡ lacked (reading_of M G n e)
  lacks-is masked {e} i k p q r s = s ∙ rw (p, q, r, masked.is e i.there) (go (truth_of M G n e) k)
    where
      go : (t : Truth) → is_known t ≡ false → missing M.variables (mentions M.entries e) (G.tracked n) ≡ lacked (carry_t (missing M.variables (mentions M.entries e) (G.tracked n)) t)
      go (Some true) b = absurd (false≢true (sym b))
      go (Some false) b = absurd (false≢true (sym b))
      go None b = refl

  pub definite-is : (e : ℕ) → is_known (truth_of M G n e) ≡ true → no_variable ≡ lacked (reading_of M G n e)
  definite-is e k = go (truth_of M G n e) k
    where
      go : (t : Truth) → is_known t ≡ true → no_variable ≡ lacked (carry_t (missing M.variables (mentions M.entries e) (G.tracked n)) t)
      go (Some true) b = refl
      go (Some false) b = refl
      go None b = absurd (false≢true b)

  -- The target.
  pub target-open : (due : Bool) → is_known (truth_of M G n M.target) ≡ false → false ≡ target_reads M G n due
  target-open due k = go due (truth_of M G n M.target) k
    where
      go : (d : Bool) (t : Truth) → is_known t ≡ false → false ≡ pick d (is_true t) (is_false t)
      go d (Some true) b = absurd (false≢true (sym b))
      go d (Some false) b = absurd (false≢true (sym b))
      go true None b = refl
      go false None b = refl

  pub target-known : (h : A1 M G n ≡ true) {state : List ℤ} → StateSettled m g n state → (due : Bool) → is_known (truth_of M G n M.target) ≡ true
      → target_reads M G n due ≡ pick due (holds_at state M.target) (not (holds_at state M.target))
  target-known h {state} s due k = rw (truth-of-known h s node.model.model.target k) (go due (holds_at state M.target))
    where
      go : (d b : Bool) → pick d (is_true (known_truth b)) (is_false (known_truth b)) ≡ pick d b (not b)
      go true true = refl
      go true false = refl
      go false true = refl
      go false false = refl

  module _ {kind : ℕ} (k : kind ≡ G.kind n) where
    -- An expanded node.
    module _ (e : kind ≡ 1) where
      pub a2-open : {v : ℕ} → (eqb (open_guard M G n) M.commands ≡ false) × (v ≡ lacked (reading_of M G n (M.guard (open_guard M G n)))) → (A2 M G n ≡ false) × (v ≡ second19 M G n)
      unfolding A2 second19
      a2-open h = (rw (sym k ∙ e, h.0) refl, h.1 ∙ rw (sym k ∙ e, below h.0) refl)
        where
          below : eqb (open_guard M G n) M.commands ≡ false → ltb (open_guard M G n) M.commands ≡ true
          below q = lt-ltb (open_guard M G n) M.commands (stops-below _ M.commands q)

      pub a2-closed : eqb (open_guard M G n) M.commands ≡ true → (r : Result ⊤ ℕ) → TargetKept M G n false r → RuleAnswer (A2 M G n) (second19 M G n) r
      unfolding A2 second19
      a2-closed q r h = rw (sym k ∙ e, q, le-ltb (open_guard M G n) M.commands (omega (arith, eqb-true _ _ q)), and-true) h

    pub a2-target : kind ≡ 3 → (r : Result ⊤ ℕ) → TargetKept M G n true r → RuleAnswer (A2 M G n) (second19 M G n) r
    unfolding A2 second19
    a2-target e r h = rw (sym k ∙ e) h

    pub a2-other : (kind ≡ 1 → ⊥) → (kind ≡ 3 → ⊥) → A2 M G n ≡ true
    unfolding A2
    a2-other f h = rw (ne_eqb (G.kind n) 1 (λ e. f (k ∙ e)), ne_eqb (G.kind n) 3 (λ e. h (k ∙ e))) refl
