-- Before the loop: masks are filled, rows are blank, and the root stands alone.
-- Assumes nothing.
use Prim.Native.Nat.{ℕ, ◌+◌, ◌*◌, ◌<◌, ◌≤◌}
use mathlib.Core.Path.{◌≡◌, ap, ◌∙◌}
use mathlib.Core.List.{List}
use native.Mathlib.Nat.{mul-le-mul_left}
use native.Mathlib.Decide.{dec_lt}
use native.Mathlib.Omega.{arith}
use lib.ListN.{length, get_or, set, length-set, replicate, length-replicate, get_or-replicate, get_or-eq_default}
use lib.Seq.{get_or-set_same}
use Rattle.folder.specs.Contents.{body, count_of}
use Rattle.folder.specs.Fields.{field_limit}
use Rattle.folder.specs.Tab.{fill}
use Rattle.expressions.specs.Limits.{most_expressions}
use Rattle.expressions.specs.Entries.{entries_of}
use Rattle.expressions.specs.Mentions.{mentions}
use Rattle.mentions.specs.Masked.{Written}
use Rattle.mentions.proofs.Masks.{masked}
use Rattle.model.specs.Layout.{variable_count}
use Rattle.model.specs.Limits.{most_variables}
use Rattle.model.specs.Valid.{Valid}
use Rattle.model.proofs.Limits.{limits}
use Rattle.graph.specs.Limits.{least_bytes, most_bytes, most_nodes}
use Rattle.graph.specs.Simulation.{node_size}
use Rattle.put.specs.Put.{Stays}
use Rattle.held.specs.Held.{state_field}
use Rattle.nodes.proofs.Expanded.{variables-some}
use Rattle.wants.specs.Wants.{MasksOf}
use Rattle.work.specs.declared.Work.{Work}
use Rattle.work.specs.Working.{Working, Grown}
use Rattle.work.specs.Root.{Begun}
use Rattle.work.proofs.Alone.{Blank, Begins, working}

-- ---- rows of zeros
pub zeros-blank : Blank (replicate most_nodes 0)
zeros-blank = record { long = omega (arith, length-replicate {A = ℕ} most_nodes 0); zero = λ i. go i (dec_lt i most_nodes) }
  where
    go : (i : ℕ) → Dec (i < most_nodes) → ◌≡◌ {A = ℕ} (get_or (replicate most_nodes 0) i 0) 0
    go i (yes l) = get_or-replicate {A = ℕ} most_nodes i 0 0 l
    go i (no d) = get_or-eq_default (replicate most_nodes 0) 0 {n = i} (omega (arith, length-replicate {A = ℕ} most_nodes 0))

-- A row whose first element is put.
pub root-begins : (row : List ℕ) → most_nodes ≤ length row → Begins (set row 0 0)
root-begins row l = record { long = omega (arith, length-set row 0 0); zero = get_or-set_same row 0 0 0 (omega arith) }

module _ {m x : List ℕ} (valid : Valid m) (e : x ≡ body m 2) where
  pub masks-asked : Written (entries_of x) × ((count_of 8 x ≤ field_limit) × (count_of 8 x ≤ most_expressions))
  masks-asked = rw e (record { variables = variable_count m; few = (limits valid.folder).variables; right = valid.model.entries }, (omega (arith, (limits valid.folder).expressions), (limits valid.folder).expressions))

  pub masks-filled : (row₀ : List ℕ) {row : List ℕ} → row ≡ fill (count_of 8 x) (mentions (entries_of x)) row₀ → MasksOf m row
  masks-filled row₀ h = masked (entries_of (body m 2)) (count_of 8 (body m 2)) row₀ (rw (← e) h)

-- ---- the root
module _ {m : List ℕ} (valid : Valid m) {vars longest : ℕ} (v : vars ≡ variable_count m) (nb : List ℕ) (room : least_bytes + node_size (variable_count m) ≤ longest) (lent : longest ≤ least_bytes + length nb) where
  pub root-asked : (0 < vars) × (vars ≤ most_variables) × (node_size vars ≤ length nb)
  root-asked = rw v (variables-some valid, (limits valid.folder).variables, omega arith)

  module _ {y : List ℕ} (p : y ≡ body m 1) {new : List ℕ} (b : Begun vars y (state_field + vars + 1) nb new) where
    begun : Begun (variable_count m) (body m 1) (state_field + variable_count m + 1) nb new
    begun = rw (← v, ← p) b

    pub started : longest ≤ most_bytes → {marks reaches begins : List ℕ} → Blank marks → Blank reaches → Begins begins → (w : Work) → w.nodes ≡ 1 → w.len ≡ least_bytes + node_size vars
        → w.fresh ≡ most_nodes → w.low ≡ 0 → w.high ≡ 0 → w.next ≡ 0 → w.waiting ≡ 1 → Working m longest w new marks reaches begins
    started limit marks reaches begins w one len = working m valid nb new begun longest room lent limit marks reaches begins w one (len ∙ ap (λ (k : ℕ). least_bytes + node_size k) v)

    pub all-stays : {nodes len : ℕ} {end begins : List ℕ} → Grown m longest nodes len end begins → Stays 0 (node_size (variable_count m) * nodes) new end → Stays 0 (node_size (variable_count m) * nodes) nb end
    all-stays {nodes} g s = record {
      long = s.long ∙ begun.stays.long;
      below = λ j h. absurd (omega arith);
      past = λ j h. s.past j h ∙ begun.stays.past j (omega (arith, mul-le-mul_left (node_size (variable_count m)) g.held.kept.some));
    }
