-- The guards, as they are asked one after the other; and the target.
-- Assumes nothing.
use Prim.Native.Nat.{ℕ, ◌<◌}
use mathlib.Core.Path.{◌≡◌, refl, sym, ap, ◌∙◌}
use mathlib.Core.Bool.{Bool, true, false, not, beq}
use mathlib.Core.List.{List}
use native.Mathlib.Omega.{arith}
use borrow.Author.Tests.{eqb-true, ne_eqb}
use lib.Dec.{eqb}
use lib.ListN.{length}
use lib.IntN.{ℤ}
use Rattle.folder.specs.Pick.{pick}
use Rattle.folder.specs.Contents.{body, field}
use Rattle.folder.specs.Scan.{first_bad}
use Rattle.folder.proofs.ScanLaws.{Scanned, found, found-le, all_found}
use Rattle.expressions.specs.Mentions.{lacked}
use Rattle.expressions.specs.Reading.{is_known}
use Rattle.expressions.specs.Right.{IsTruth}
use Rattle.states.specs.Needed.{is_up}
use Rattle.model.specs.Model.{model_of}
use Rattle.graph.specs.Simulation.{simulation_of}
use Rattle.graph.specs.Labels.{truth_of, reading_of}
use Rattle.graph.specs.Rules.{A1}
use Rattle.graph.specs.Seconds.{open_guard}
use Rattle.expand.specs.Node.{NodeOf, LabelFlagged, LabelWidened, StateSettled, Askable}
use Rattle.expand.specs.Tests.{holds_at}
use Rattle.expand.specs.Follow.{target_reads}
use Rattle.expand.proofs.Readings.{truth-known, target-known}

-- After entries were asked.
pub read_again : {m g : List ℕ} {n : ℕ} {masks known₀ known : List ℕ} {state : List ℤ} → Askable m g n masks known₀ state → LabelFlagged m g n known → length known ≡ length known₀ → Askable m g n masks known state
read_again a f l = record {
  node = a.node;
  kept = a.kept;
  masked = a.masked;
  read = record { flagged = f; stated = a.read.stated; known-long = omega (arith, a.read.known-long); state-long = a.read.state-long };
}

module _ {m g : List ℕ} {n : ℕ} (node : NodeOf m g n) where
  -- What asking a truth answers.
  pub truth-answer : {e e' : ℕ} → IsTruth (model_of m).entries e' → e ≡ e' → {before after : List ℕ} → LabelWidened m g n e before after → {t : Bool} → t ≡ is_up after e → t ≡ is_known (truth_of (model_of m) (simulation_of (model_of m) g) n e')
  truth-answer i q w h = h ∙ w.decided ∙ rw q (truth-known node i)

  module _ (c : ℕ) {cs : List ℕ} {commands e : ℕ} (q : cs ≡ body m 3) (k : commands ≡ (model_of m).commands) (l : c < commands) (p : e ≡ field 4 cs c 0) where
    pub guard-is : e ≡ (model_of m).guard c
    guard-is = p ∙ ap (λ (b : List ℕ). field 4 b c 0) q

    pub guard-there : IsTruth (model_of m).entries e
    guard-there = rw guard-is (node.model.model.commands c (omega arith)).guard

    pub guard-answer : {before after : List ℕ} → LabelWidened m g n e before after → {t : Bool} → t ≡ is_up after e → t ≡ is_known (truth_of (model_of m) (simulation_of (model_of m) g) n ((model_of m).guard c))
    guard-answer w h = truth-answer (node.model.model.commands c (omega arith)).guard guard-is w h

    pub guard-unknown : {before after : List ℕ} → LabelWidened m g n e before after → {t : Bool} → t ≡ is_up after e → t ≡ is_known (truth_of (model_of m) (simulation_of (model_of m) g) n e)
    guard-unknown w h = truth-answer guard-there refl w h

    -- It is the first that does not read known.
    pub guards-open : c ≡ open_guard (model_of m) (simulation_of (model_of m) g) n → {v : ℕ} → v ≡ lacked (reading_of (model_of m) (simulation_of (model_of m) g) n e)
        → (eqb (open_guard (model_of m) (simulation_of (model_of m) g) n) (model_of m).commands ≡ false)
        × (v ≡ lacked (reading_of (model_of m) (simulation_of (model_of m) g) n ((model_of m).guard (open_guard (model_of m) (simulation_of (model_of m) g) n))))
    guards-open h i = (
      ne_eqb _ _ (λ q. omega arith),
      i ∙ ap (λ (j : ℕ). lacked (reading_of (model_of m) (simulation_of (model_of m) g) n j)) (guard-is ∙ ap (model_of m).guard h),
    )

  -- The guards before the first that is not flagged read known.
  pub flagged-known : {known : List ℕ} → LabelFlagged m g n known → {cs : List ℕ} {commands c : ℕ} → cs ≡ body m 3 → commands ≡ (model_of m).commands → c ≡ first_bad (λ i. is_up known (field 4 cs i 0)) commands
      → Scanned (λ i. is_known (truth_of (model_of m) (simulation_of (model_of m) g) n ((model_of m).guard i))) commands c
  flagged-known {known} f {cs} {commands} q k p = record {
    within = found-le _ commands p;
    passed = all_found _ _ (λ i l.
        let u : is_up known ((model_of m).guard i) ≡ true = rw (← ap (λ (b : List ℕ). field 4 b i 0) q) ((found (λ j. is_up known (field 4 cs j 0)) commands).before i (omega arith)) in
        let t = (node.model.model.commands i (omega (arith, found-le (λ j. is_up known (field 4 cs j 0)) commands p))).guard in
        sym (truth-known node t) ∙ f.sound _ t.there (eqb-true _ 1 u));
  }

  module _ {ts : List ℕ} {e : ℕ} (q : ts ≡ body m 0) (p : e ≡ field 4 ts 0 1) where
    pub target_is : e ≡ (model_of m).target
    target_is = p ∙ ap (λ (b : List ℕ). field 4 b 0 1) q

    pub target-there : IsTruth (model_of m).entries e
    target-there = rw target_is node.model.model.target

    pub target-answer : {before after : List ℕ} → LabelWidened m g n e before after → {t : Bool} → t ≡ is_up after e → t ≡ is_known (truth_of (model_of m) (simulation_of (model_of m) g) n (model_of m).target)
    target-answer w h = truth-answer node.model.model.target target_is w h

    pub answered : {before after : List ℕ} → LabelWidened m g n e before after → {t : Bool} → t ≡ is_up after e → t ≡ is_known (truth_of (model_of m) (simulation_of (model_of m) g) n e)
    answered w h = target-answer w h ∙ ap (λ (i : ℕ). is_known (truth_of (model_of m) (simulation_of (model_of m) g) n i)) (sym target_is)

    pub lacked-at : {v : ℕ} → v ≡ lacked (reading_of (model_of m) (simulation_of (model_of m) g) n e) → v ≡ lacked (reading_of (model_of m) (simulation_of (model_of m) g) n (model_of m).target)
    lacked-at h = h ∙ ap (λ (i : ℕ). lacked (reading_of (model_of m) (simulation_of (model_of m) g) n i)) target_is

  module _ (a : A1 (model_of m) (simulation_of (model_of m) g) n ≡ true) {state : List ℤ} (s : StateSettled m g n state) {ts : List ℕ} {e : ℕ} (q : ts ≡ body m 0) (p : e ≡ field 4 ts 0 1)
      (k : is_known (truth_of (model_of m) (simulation_of (model_of m) g) n (model_of m).target) ≡ true) (due : Bool) {h : Bool} (i : h ≡ holds_at state e) where
    pub due-is : beq h due ≡ target_reads (model_of m) (simulation_of (model_of m) g) n due
    due-is = same due h ∙ ap (λ (b : Bool). pick due b (not b)) (i ∙ ap (holds_at state) (target_is q p)) ∙ sym (target-known node a s due k)
      where
        same : (d b : Bool) → beq b d ≡ pick d b (not b)
        same true true = refl
        same true false = refl
        same false true = refl
        same false false = refl
