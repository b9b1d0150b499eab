-- The root's record, field by field.
-- Assumes nothing.
use Prim.Native.Nat.{ℕ, ◌+◌, ◌-◌, ◌*◌, ◌<◌, ◌≤◌}
use mathlib.Core.Path.{◌≡◌, sym, ◌∙◌, subst}
use mathlib.Core.Bool.{true, false, ◌&&◌}
use mathlib.Core.List.{List}
use native.Mathlib.Decide.{dec_lt}
use native.Mathlib.Omega.{arith}
use borrow.Author.Tests.{leb-true, ltb-true}
use lib.Dec.{leb, ltb}
use lib.ListN.{length}
use Rattle.folder.specs.Fields.{field_limit}
use Rattle.folder.specs.Contents.{field}
use Rattle.folder.proofs.Decides.{and_both}
use Rattle.graph.specs.Simulation.{node_size}
use Rattle.put.specs.Put.{Stays}
use Rattle.put.proofs.PutLaws.{stays-none, stays_put}
use Rattle.held.specs.Held.{state_field, put_in}
use Rattle.held.proofs.FieldLaws.{put-here, put-there}
use Rattle.work.specs.Root.{root_field, Begun}

-- A field of the initial values, and another.
pub value-field : (vars f : ℕ) → (leb state_field f && ltb f (state_field + vars)) ≡ true → (state_field ≤ f) × (f < state_field + vars)
value-field vars f e = let b = and_both (leb state_field f) (ltb f (state_field + vars)) e in (leb-true state_field f b.0, ltb-true f (state_field + vars) b.1)

pub root-value : (vars : ℕ) (y : List ℕ) (f : ℕ) → (leb state_field f && ltb f (state_field + vars)) ≡ true → field 6 y (f - state_field) 2 ≡ root_field vars y f
root-value vars y f e = rw e

pub root-blank : (vars : ℕ) (y : List ℕ) (f : ℕ) → (leb state_field f && ltb f (state_field + vars)) ≡ false → 0 ≡ root_field vars y f
root-blank vars y f e = rw e

module _ (vars : ℕ) (y : List ℕ) where
  pub begin-start : (nb : List ℕ) → Begun vars y 0 nb nb
  begin-start nb = record { stays = stays-none _ _ nb; within = omega arith; is = λ f h. absurd (omega arith) }

  module _ {old nb : List ℕ} {i u : ℕ} (w : Begun vars y i old nb) (some : 0 < vars) (l : i < state_field + vars + 1) (h : node_size vars ≤ length old)
      (e : u ≡ root_field vars y i) (s : u < field_limit) where
    next-is : (f : ℕ) → f < i + 1 → Dec (f < i) → field (node_size vars) (put_in vars nb 0 i u) 0 f ≡ root_field vars y f
    next-is f q (yes p) = put-there vars nb 0 i u (omega arith) 0 f (omega arith) (λ a b. omega arith) ∙ w.is f p
    next-is f q (no d) =
        let z : f ≡ i = omega arith in
        subst (λ (x : ℕ). field (node_size vars) (put_in vars nb 0 i u) 0 x ≡ root_field vars y x) (sym z)
        (put-here vars nb 0 i u (omega arith) (omega (arith, w.stays.long)) s ∙ e)

    next-stays : Stays 0 (node_size vars) old (put_in vars nb 0 i u)
    unfolding put_in
    next-stays = stays_put (node_size vars * 0 + 2 * i) u w.stays (omega arith) (omega arith)

    pub begin-next : {new : List ℕ} → new ≡ put_in vars nb 0 i u → Begun vars y (i + 1) old new
    begin-next z = subst (λ (x : List ℕ). Begun vars y (i + 1) old x) (sym z) (record { stays = next-stays; within = omega arith; is = λ f q. next-is f q (dec_lt f i) })
