-- Node records written field by field, and nodes one after the other.
-- Assumes nothing.
use Prim.Native.Nat.{ℕ, ◌+◌, ◌-◌, ◌*◌, ◌^◌, ◌%◌, ◌<◌, ◌≤◌}
use mathlib.Core.Path.{◌≡◌, sym, ap, ◌∙◌, subst}
use mathlib.Core.Bool.{true, false, ◌&&◌}
use mathlib.Core.List.{List}
use native.Mathlib.Nat.{mod-eq_of_lt, one-mul, mul-le-mul_left}
use native.Mathlib.Decide.{dec_lt}
use native.Mathlib.Omega.{arith}
use borrow.Author.Tests.{eq-eqb, ne_eqb, lt-leb, le-ltb, le-leb}
use lib.Dec.{leb, ltb}
use lib.ListN.{length}
use lib.IntN.{ℤ}
use Rattle.folder.specs.Fields.{field_limit}
use Rattle.folder.specs.Contents.{field}
use Rattle.folder.proofs.Decides.{at_most, below, ◌∧also◌}
use Rattle.model.specs.Limits.{most_variables}
use Rattle.graph.specs.Simulation.{node_size}
use Rattle.put.specs.Put.{unsigned, Stays}
use Rattle.put.proofs.PutLaws.{stays-none, stays_put, stays_then}
use Rattle.held.specs.Held.{parent_field, state_field, field_count, put_in, Whole}
use Rattle.held.proofs.FieldLaws.{bit-field, record-at, put-here, put-there, field_below}
use Rattle.nodes.specs.Born.{result_of, new_field, new_fields, Node, Family}

-- A field of a record that is there has room.
pub field_room : (vars n f long : ℕ) {size : ℕ} → size ≡ node_size vars → f < field_count vars → node_size vars * n + node_size vars ≤ long → size * n + 2 * f + 1 < long
field_room vars n f long e l h = rw e (omega arith)

-- A bit as the code shifts it.
pub bit_is : (v : ℕ) → v < most_variables → (1 * 2 ^ v % 2 ^ 64 ≡ 2 ^ v) × (1 * 2 ^ v % 2 ^ 64 < field_limit)
bit_is v l =
    let s : 2 ^ v < field_limit = bit-field v l in
    let e : 1 * 2 ^ v % 2 ^ 64 ≡ 2 ^ v = rw (one-mul (2 ^ v)) (mod-eq_of_lt (omega arith)) in
    (e, rw e s)

-- ---- a new node's fields
pub value-field : (vars f : ℕ) → (leb state_field f && ltb f (state_field + vars)) ≡ true → (state_field ≤ f) × (f < state_field + vars)
value-field vars f e = (at_most state_field f ∧also below f (state_field + vars)).yes e

module _ (vars : ℕ) (bs : List ℕ) (row : List ℤ) (r parent : ℕ) where
  module _ (f : ℕ) where
    pub new-parent : f ≡ parent_field → parent ≡ new_field vars bs row r parent f
    unfolding new_field
    new-parent e = rw (eq-eqb f parent_field e)

    module _ (d : f ≡ parent_field → ⊥) where
      pub new-value : (leb state_field f && ltb f (state_field + vars)) ≡ true → unsigned (result_of vars bs row r (f - state_field)) ≡ new_field vars bs row r parent f
      unfolding new_field
      new-value e = rw (ne_eqb f parent_field d, e)

      pub new-blank : (leb state_field f && ltb f (state_field + vars)) ≡ false → 0 ≡ new_field vars bs row r parent f
      unfolding new_field
      new-blank e = rw (ne_eqb f parent_field d, e)

  -- The same by place.
  pub new-state : (v : ℕ) → v < vars → new_field vars bs row r parent (state_field + v) ≡ unsigned (result_of vars bs row r v)
  new-state v l =
      let e : state_field + v - state_field ≡ v = omega arith in
      sym (new-value (state_field + v) (λ q. omega arith) ((at_most state_field (state_field + v) ∧also below (state_field + v) (state_field + vars)).no (omega arith, omega arith)))
      ∙ ap (λ (w : ℕ). unsigned (result_of vars bs row r w)) e

  pub new-low : (f : ℕ) → f < state_field → (f ≡ parent_field → ⊥) → new_field vars bs row r parent f ≡ 0
  new-low f l d = sym (new-blank f d (rw (lt-leb state_field f l)))

  pub new-hint : new_field vars bs row r parent (state_field + vars) ≡ 0
  new-hint = sym (new-blank (state_field + vars) (λ q. omega arith) (rw (le-leb state_field (state_field + vars) (omega arith), le-ltb (state_field + vars) (state_field + vars) (omega arith))))

-- ---- a node
module _ (vars : ℕ) (bs : List ℕ) (row : List ℤ) (r parent k : ℕ) where
  pub node-start : (nb : List ℕ) → Node vars bs row r parent k 0 nb nb
  node-start nb = record { stays = stays-none _ _ nb; within = omega arith; is = λ f h. absurd (omega arith) }

  module _ {old nb : List ℕ} {i u : ℕ} (w : Node vars bs row r parent k i old nb) (some : 0 < vars) (l : i < state_field + vars + 1) (h : Whole vars old k)
      (e : u ≡ new_field vars bs row r parent i) (s : u < field_limit) where
    next-is : (f : ℕ) → f < i + 1 → Dec (f < i) → field (node_size vars) (put_in vars nb k i u) k f ≡ new_field vars bs row r parent f
    next-is f q (yes p) = put-there vars nb k i u (omega arith) k f (omega arith) (λ a b. omega arith) ∙ w.is f p
    next-is f q (no d) =
        let z : f ≡ i = omega arith in
        subst (λ (x : ℕ). field (node_size vars) (put_in vars nb k i u) k x ≡ new_field vars bs row r parent x) (sym z)
        (put-here vars nb k i u (omega arith) (omega (arith, w.stays.long)) s ∙ e)

    next-stays : Stays (node_size vars * k) (node_size vars * k + node_size vars) old (put_in vars nb k i u)
    unfolding put_in
    next-stays = stays_put (node_size vars * k + 2 * i) u w.stays (omega arith) (omega arith)

    pub node-next : {new : List ℕ} → new ≡ put_in vars nb k i u → Node vars bs row r parent k (i + 1) old new
    node-next z = subst (λ (x : List ℕ). Node vars bs row r parent k (i + 1) old x) (sym z) (record { stays = next-stays; within = omega arith; is = λ f q. next-is f q (dec_lt f i) })

-- ---- the nodes of a command
pub wider : (w a b : ℕ) → w * a ≤ w * (a + b)
wider w a b = mul-le-mul_left w (omega arith)

module _ (vars : ℕ) (bs : List ℕ) (row : List ℤ) (r parent k : ℕ) where
  pub family-none : (nb : List ℕ) → Family vars bs row r parent k 0 nb nb
  family-none nb = record { stays = stays-none _ _ nb; is = λ i h. absurd (omega arith) }

  pub family-next : {old nb new : List ℕ} {b : ℕ} → 0 < vars → Family vars bs row r parent k b old nb → Node vars bs row (r + b) parent (k + b) (new_fields vars bs row) nb new
      → Family vars bs row r parent k (b + 1) old new
  family-next {old} {nb} {new} {b} some f w =
      let e : node_size vars * (k + b) + node_size vars ≡ node_size vars * (k + (b + 1)) = omega arith in
      record {
        stays = stays_then (wider (node_size vars) k b) (omega arith) f.stays (subst (λ (z : ℕ). Stays (node_size vars * (k + b)) z nb new) e w.stays);
        is = λ i h g l. go i h g l (dec_lt i b);
      }
    where
      go : (i : ℕ) → i < b + 1 → (g : ℕ) → g < new_fields vars bs row → Dec (i < b) → field (node_size vars) new (k + i) g ≡ new_field vars bs row (r + i) parent g
      go i h g l (yes p) = field_below vars w.stays (k + i) g (omega arith) (record-at (node_size vars) (k + i) (k + b) (omega arith)) ∙ f.is i p g l
      go i h g l (no d) =
          let z : i ≡ b = omega arith in
          subst (λ (j : ℕ). field (node_size vars) new (k + j) g ≡ new_field vars bs row (r + j) parent g) (sym z) (w.is g l)

  pub family-room : {count b : ℕ} {old new : List ℕ} → Family vars bs row r parent k b old new → b < count → node_size vars * (k + count) ≤ length old → Whole vars new (k + b)
  family-room {count} {b} f l h = omega (arith, record-at (node_size vars) (k + b) (k + count) (omega arith), f.stays.long)
