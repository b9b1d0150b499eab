-- The repairs, as the code answers them.
-- Assumes nothing.
use Rattle.std.specs.Prelude.{Option, None, Some}
use Prim.Native.Nat.{ℕ, ◌<◌}
use mathlib.Core.Path.{◌≡◌, refl, sym, ap, ◌∙◌}
use mathlib.Core.Bool.{Bool, true, false}
use mathlib.Core.List.{List}
use borrow.Author.Tests.{ne_eqb}
use Rattle.mdp.specs.Kinds.{Kind}
use Rattle.folder.specs.Pick.{pick}
use Rattle.model.specs.Layout.{variable_count}
use Rattle.model.specs.Model.{Model, model_of}
use Rattle.graph.specs.Simulation.{kind_of}
use Rattle.building.specs.First.{◌orelse◌, onward}
use Rattle.building.specs.Building.{Building}
use Rattle.building.specs.Moves.{Move, track, adopt, drop, truth_wants, guards_want, results_want, expanded_wants, covered, adopted, repair_as, repair}
use Rattle.building.proofs.FirstLaws.{nothing, orelse-none, onward-some}
use Rattle.held.specs.Held.{kind_field, cover_field, node_in, held_in}
use Rattle.wants.specs.Wants.{truth_wants_in, own_in, results_in}
use Rattle.wants.specs.Standing.{Held, node_of}
use Rattle.covers.specs.declared.Fault.{Fault}
use Rattle.covers.specs.declared.Fault.TheVariants.{Apart, Untracked}
use Rattle.covers.specs.Covers.{agrees_in, adopted_in, fault_in}
use Rattle.repairs.proofs.Linked.{kind-here, truth-here, covered-here, adopted-here, expanded-here, own-none}

-- ---- a variable that is wanted, or none
pub tracks-none : (n : ℕ) → None ≡ onward None (λ (w : ℕ). Some (track n w))
unfolding onward
tracks-none n = refl

pub tracks-some : (n v : ℕ) → Some (track n v) ≡ onward (Some v) (λ (w : ℕ). Some (track n w))
unfolding onward
tracks-some n v = refl

-- ---- an expanded node
module _ {m : List ℕ} {nodes : ℕ} {nb : List ℕ} (H : Held m nodes nb) {n : ℕ} (l : n < nodes) (k : (held_in m nodes nb).kind n ≡ Kind.expanded) {o : Option ℕ} (e : o ≡ (own_in m nb n orelse results_in m nb n)) where
  wants-are : o ≡ expanded_wants (model_of m) (held_in m nodes nb) n
  wants-are = e ∙ sym (expanded-here H l k)

  pub expanded-repair : {r : Option Move} → r ≡ onward o (λ w. Some (track n w)) → r ≡ repair_as (model_of m) (held_in m nodes nb) n Kind.expanded
  expanded-repair q = q ∙ ap (λ (p : Option ℕ). onward p (λ w. Some (track n w))) wants-are

  -- Its children want nothing.
  pub results-none : o ≡ None → results_want (model_of m) (held_in m nodes nb) n ≡ None
  results-none q =
      (orelse-none (truth_wants (model_of m) (held_in m nodes nb) n (model_of m).target) (results_want (model_of m) (held_in m nodes nb) n)
      (orelse-none (guards_want (model_of m) (held_in m nodes nb) n) _ (sym wants-are ∙ q)).1).1

-- Guards and target are not asked for where they want nothing.
pub unasked : (m : List ℕ) (nodes : ℕ) (nb : List ℕ) (n : ℕ) → n < nodes → {asked : Bool}
    → (asked ≡ false → (guards_want (model_of m) (held_in m nodes nb) n ≡ None) × (truth_wants (model_of m) (held_in m nodes nb) n (model_of m).target ≡ None)) → asked ≡ false → own_in m nb n ≡ None
unasked m nodes nb n l h e = own-none m nodes nb l (h e).0 (h e).1

-- ---- a target
pub target-repair : (m : List ℕ) (nodes : ℕ) (nb : List ℕ) (n : ℕ) → n < nodes → {o : Option ℕ} {r : Option Move} → o ≡ truth_wants_in m nb n (model_of m).target → r ≡ onward o (λ w. Some (track n w))
    → r ≡ repair_as (model_of m) (held_in m nodes nb) n Kind.target
target-repair m nodes nb n l e p = p ∙ ap (λ (q : Option ℕ). onward q (λ w. Some (track n w))) (e ∙ sym (truth-here m nodes nb n l (model_of m).target))

-- ---- a covered node
-- What is made of it.
abbrev pub by_fault : ℕ → Option Fault → Option Move
by_fault n None = None
by_fault n (Some Apart) = Some (drop n)
by_fault n (Some Untracked) = Some (adopt n)

fault-repair : (n : ℕ) (a b : Bool) → by_fault n (pick a (pick b None (Some Untracked)) (Some Apart)) ≡ pick a (pick b None (Some (adopt n))) (Some (drop n))
fault-repair n true true = refl
fault-repair n true false = refl
fault-repair n false b = refl

module _ {m : List ℕ} {nodes : ℕ} {nb : List ℕ} (H : Held m nodes nb) {n : ℕ} (l : n < nodes) (k : (held_in m nodes nb).kind n ≡ Kind.covered) {vars : ℕ} {r : Option Fault} (p : vars ≡ variable_count m) (e : r ≡ fault_in vars nb n) where
  abbrev a : Bool
  a = agrees_in (variable_count m) nb (node_in m nb n cover_field) n

  abbrev b : Bool
  b = adopted_in (variable_count m) nb n

  as-records : repair_as (model_of m) (held_in m nodes nb) n Kind.covered ≡ pick a (pick b None (Some (adopt n))) (Some (drop n))
  as-records = λ i. pick (covered-here H l k i) (pick (adopted-here H l k i) None (Some (adopt n))) (Some (drop n))

  fault-is : r ≡ pick a (pick b None (Some Untracked)) (Some Apart)
  unfolding fault_in
  fault-is = e ∙ ap (λ (x : ℕ). fault_in x nb n) p

  pub covered-repair : {f : Option Fault} → r ≡ f → by_fault n f ≡ repair_as (model_of m) (held_in m nodes nb) n Kind.covered
  covered-repair q = ap (by_fault n) (sym q ∙ fault-is) ∙ fault-repair n a b ∙ sym as-records

-- ---- a node, by the kind that its record has
module _ (m : List ℕ) (nodes : ℕ) (nb : List ℕ) (n : ℕ) (l : n < nodes) {kind : ℕ} (e : kind ≡ node_in m nb n kind_field) where
  kind-is : (held_in m nodes nb).kind n ≡ kind_of kind
  kind-is = kind-here m nodes nb n l ∙ ap kind_of (sym e)

  pub is-expanded : kind ≡ 1 → (held_in m nodes nb).kind n ≡ Kind.expanded
  unfolding kind_of
  is-expanded q = kind-is ∙ ap kind_of q

  pub is-covered : kind ≡ 2 → (held_in m nodes nb).kind n ≡ Kind.covered
  unfolding kind_of
  is-covered q = kind-is ∙ ap kind_of q

  pub is-target : kind ≡ 3 → (held_in m nodes nb).kind n ≡ Kind.target
  unfolding kind_of
  is-target q = kind-is ∙ ap kind_of q

  pub is-waiting : (kind ≡ 1 → ⊥) → (kind ≡ 2 → ⊥) → (kind ≡ 3 → ⊥) → (held_in m nodes nb).kind n ≡ Kind.waiting
  unfolding kind_of
  is-waiting x y z = kind-is ∙ (λ i. pick (ne_eqb kind 1 x i) Kind.expanded (pick (ne_eqb kind 2 y i) Kind.covered (pick (ne_eqb kind 3 z i) Kind.target Kind.waiting)))

-- The repair of node n, where its kind is known.
pub repair-by : {m : List ℕ} {nodes : ℕ} {nb : List ℕ} → Held m nodes nb → {n : ℕ} → n < nodes → {κ : Kind} {r : Option Move} → (held_in m nodes nb).kind n ≡ κ → r ≡ repair_as (model_of m) (held_in m nodes nb) n κ → r ≡ repair (model_of m) (held_in m nodes nb) n
repair-by {m} {nodes} {nb} H {n} l k e = e ∙ ap (repair_as (model_of m) (held_in m nodes nb) n) (sym k)

-- ---- one visit
-- A repair concerns the node that it is for.
repair-node : (M : Model) (B : Building) (n h : ℕ) (κ : Kind) (a : Move) → repair_as M B n κ ≡ Some a → node_of h (Some a) ≡ n
repair-node M B n h Kind.waiting a e = nothing e
repair-node M B n h Kind.expanded a e = let w = onward-some (expanded_wants M B n) (λ v. Some (track n v)) a e in ap (node_of h) (sym w.2)
repair-node M B n h Kind.covered a e = go (covered M B n) (adopted M B n) e
  where
    go : (x y : Bool) → pick x (pick y None (Some (adopt n))) (Some (drop n)) ≡ Some a → node_of h (Some a) ≡ n
    go true true q = nothing q
    go true false q = ap (node_of h) (sym q)
    go false y q = ap (node_of h) (sym q)
repair-node M B n h Kind.target a e = let w = onward-some (truth_wants M B n M.target) (λ v. Some (track n v)) a e in ap (node_of h) (sym w.2)

pub repair-at : (M : Model) (B : Building) (n h : ℕ) (a : Move) → repair M B n ≡ Some a → node_of h (Some a) ≡ n
repair-at M B n h a e = repair-node M B n h (B.kind n) a e
