-- The walk over the commands: their branch records and the children; and what an expansion costs.
-- Assumes nothing.
use Prim.Native.Nat.{ℕ, ◌+◌, ◌*◌, ◌<◌, ◌≤◌}
use mathlib.Core.Path.{◌≡◌, refl, ap, ◌∙◌}
use mathlib.Core.Bool.{Bool}
use mathlib.Core.List.{List}
use native.Mathlib.Nat.{le_trans, mul-le-mul_left}
use native.Mathlib.Omega.{arith}
use lib.IntN.{ℤ}
use Rattle.mdp.proofs.SumLaws.{sum_more, sum-next}
use Rattle.folder.specs.Pick.{pick}
use Rattle.folder.specs.Fields.{field_limit}
use Rattle.folder.specs.Contents.{field}
use Rattle.model.specs.Limits.{most_commands}
use Rattle.graph.specs.Simulation.{node_size, edge_bytes}
use Rattle.nodes.specs.Born.{on_in, records_in, children_in, edges_in}

-- r branch records are before command c, and k is its first child.
pub record Stepped (cs : List ℕ) (row : List ℤ) (child c r k : ℕ) : Type 0 where
  pub records : r ≡ records_in cs c
  pub children : k ≡ child + children_in cs row c

pub step_start : (cs : List ℕ) (row : List ℤ) (child : ℕ) → Stepped cs row child 0 0 child
step_start cs row child = record { records = refl; children = omega arith }

module _ {cs : List ℕ} {row : List ℤ} {child c r k : ℕ} (s : Stepped cs row child c r k) {on : Bool} {count more : ℕ} (p : count ≡ field 4 cs c 1) (q : on ≡ on_in cs row c) (e : more ≡ pick on count 0) where
  more-is : more ≡ pick (on_in cs row c) (field 4 cs c 1) 0
  more-is = e ∙ (λ i. pick (q i) (p i) 0)

  pub step-next : Stepped cs row child (c + 1) (r + count) (k + more)
  step-next =
      let w : children_in cs row c + more ≡ children_in cs row (c + 1) = sum-next c (λ i. pick (on_in cs row i) (field 4 cs i 1) 0) refl more-is in
      record { records = sum-next c (λ i. field 4 cs i 1) s.records p; children = omega (arith, s.children) }

  -- Command c's records and children are among all.
  module _ (commands : ℕ) (l : c < commands) where
    pub records-within : (most : ℕ) → records_in cs commands ≤ most → r + count ≤ most
    records-within most h = omega (arith, s.records, p, sum_more commands (λ i. field 4 cs i 1) c l)

    pub children-within : k + more ≤ child + children_in cs row commands
    children-within = omega (arith, more-is, s.children, sum_more commands (λ i. pick (on_in cs row i) (field 4 cs i 1) 0) c l)

    pub bytes-within : (vars n : ℕ) → node_size vars * (child + children_in cs row commands) ≤ n → node_size vars * (k + more) ≤ n
    bytes-within vars n h = le_trans (mul-le-mul_left (node_size vars) children-within) h

-- ---- the cost of an expansion, so far
pub record Costs (cs : List ℕ) (row : List ℤ) (c births bytes : ℕ) : Type 0 where
  pub born : births ≡ children_in cs row c
  pub long : bytes ≡ edges_in cs row c
  pub few : births ≤ field_limit * c
  pub short : bytes ≤ 4 * field_limit * c

pub costs-start : (cs : List ℕ) (row : List ℤ) → Costs cs row 0 0 0
costs-start cs row = record { born = refl; long = refl; few = omega arith; short = omega arith }

pub costs-next : {cs : List ℕ} {row : List ℤ} {c births bytes count x y : ℕ} {on : Bool} → Costs cs row c births bytes → on ≡ on_in cs row c → count ≡ field 4 cs c 1 → count < field_limit
    → x ≡ pick on count 0 → x ≤ count → y ≡ pick on (2 + 2 * count) 0 → y ≤ 2 + 2 * count → Costs cs row (c + 1) (births + x) (bytes + y)
costs-next {cs} {row} {c} {births} {bytes} {count} {x} {y} {on} s o e l p a q b = record {
  born = sum-next c (λ i. pick (on_in cs row i) (field 4 cs i 1) 0) s.born (p ∙ (λ i. pick (o i) (e i) 0));
  long = sum-next c (λ i. pick (on_in cs row i) (edge_bytes (field 4 cs i 1)) 0) s.long (q ∙ (λ i. pick (o i) (2 + 2 * e i) 0));
  few = omega (arith, s.few);
  short = omega (arith, s.short);
}
