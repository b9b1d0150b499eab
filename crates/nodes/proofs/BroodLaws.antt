-- The children of an expanded node, command by command.
-- Assumes nothing.
use Prim.Native.Nat.{ℕ, ◌+◌, ◌*◌, ◌<◌, ◌≤◌}
use mathlib.Core.Path.{◌≡◌, refl, sym, ap, ◌∙◌, subst}
use mathlib.Core.Bool.{Bool, true}
use mathlib.Core.List.{List}
use native.Mathlib.Decide.{dec_lt}
use native.Mathlib.Omega.{arith}
use lib.IntN.{ℤ}
use Rattle.mdp.proofs.SumLaws.{sum_more, sum-next}
use Rattle.folder.specs.Pick.{pick}
use Rattle.folder.specs.Contents.{field}
use Rattle.graph.specs.Simulation.{node_size}
use Rattle.put.specs.Put.{Stays}
use Rattle.put.proofs.PutLaws.{stays-none, stays_then}
use Rattle.held.proofs.FieldLaws.{record-at, field_below}
use Rattle.nodes.specs.Born.{on_in, records_in, children_in, new_field, new_fields, Family, AllFit, Brood}
use Rattle.nodes.proofs.NodeLaws.{wider}

-- The children of an enabled command, among those of the commands before another.
pub children-before : (cs : List ℕ) (row : List ℤ) (c d : ℕ) → d < c → on_in cs row d ≡ true → children_in cs row d + field 4 cs d 1 ≤ children_in cs row c
children-before cs row c d l o =
    let h : pick (on_in cs row d) (field 4 cs d 1) 0 ≡ field 4 cs d 1 = rw o refl in
    omega (arith, sum_more c (λ i. pick (on_in cs row i) (field 4 cs i 1) 0) d l, h)

module _ (vars : ℕ) (cs bs : List ℕ) (row : List ℤ) (parent k : ℕ) where
  pub brood-start : (nb : List ℕ) → Brood vars cs bs row parent k 0 nb nb
  brood-start nb = record { stays = stays-none _ _ nb; is = λ d h o b l f q. absurd (omega arith) }

  module _ {c r at more count : ℕ} {on : Bool} {old nb new : List ℕ} (some : 0 < vars) (w : Brood vars cs bs row parent k c old nb) (p : r ≡ records_in cs c) (q : at ≡ k + children_in cs row c)
      (e : count ≡ field 4 cs c 1) (o : on ≡ on_in cs row c) (z : more ≡ pick on count 0) (f : Family vars bs row r parent at more nb new) where
    abbrev here : ℕ
    here = pick (on_in cs row c) (field 4 cs c 1) 0

    own : Family vars bs row (records_in cs c) parent (k + children_in cs row c) here nb new
    own = subst (λ (n : ℕ). Family vars bs row (records_in cs c) parent (k + children_in cs row c) n nb new) (z ∙ (λ i. pick (o i) (e i) 0))
        (subst (λ (x : ℕ). Family vars bs row (records_in cs c) parent x more nb new) q (subst (λ (x : ℕ). Family vars bs row x parent at more nb new) p f))

    next-is : (d : ℕ) → d < c + 1 → on_in cs row d ≡ true → (b : ℕ) → b < field 4 cs d 1 → (g : ℕ) → g < new_fields vars bs row → Dec (d < c)
        → field (node_size vars) new (k + children_in cs row d + b) g ≡ new_field vars bs row (records_in cs d + b) parent g
    next-is d h t b l g m (yes u) =
        field_below vars own.stays (k + children_in cs row d + b) g (omega arith)
        (record-at (node_size vars) (k + children_in cs row d + b) (k + children_in cs row c) (omega (arith, children-before cs row c d u t)))
        ∙ w.is d u t b l g m
    next-is d h t b l g m (no u) =
        let x : d ≡ c = omega arith in
        subst (λ (y : ℕ). field (node_size vars) new (k + children_in cs row y + b) g ≡ new_field vars bs row (records_in cs y + b) parent g) (sym x)
        (own.is b (here-is x) g m)
      where
        here-is : d ≡ c → b < here
        here-is x = rw (sym (ap (on_in cs row) x) ∙ t) (subst (λ (y : ℕ). b < field 4 cs y 1) x l)

    pub brood-next : Brood vars cs bs row parent k (c + 1) old new
    brood-next =
        let a : children_in cs row c + here ≡ children_in cs row (c + 1) = sum-next c (λ i. pick (on_in cs row i) (field 4 cs i 1) 0) refl refl in
        let y : (k + children_in cs row c) + here ≡ k + children_in cs row (c + 1) = omega arith in
        record {
          stays = subst (λ (x : ℕ). Stays (node_size vars * k) (node_size vars * x) old new) y
              (stays_then (wider (node_size vars) k (children_in cs row c)) (wider (node_size vars) (k + children_in cs row c) here) w.stays own.stays);
          is = λ d h t b l g m. next-is d h t b l g m (dec_lt d c);
        }

-- What is asked of a command's results, in the code's words: of those that are written.
pub fits-as : (vars : ℕ) (bs : List ℕ) (row : List ℤ) {r s more n : ℕ} → r ≡ s → more ≤ n → AllFit vars bs row s n → AllFit vars bs row r more
fits-as vars bs row p q f = rw p (record { each = λ i l. f.each i (omega arith) })
