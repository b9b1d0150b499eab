-- B1 as the code walks it: over the commands, with a cursor on the node's edges, it decides whether the edges' commands are
-- those that pass a test.
-- Assumes nothing.
use Prim.Native.Nat.{ℕ, ◌+◌, ◌<◌, ◌≤◌, zero-le}
use native.Mathlib.Numerals.{add-one}
use native.Mathlib.Omega.{arith}
use mathlib.Core.Path.{◌≡◌, refl, sym, ap, ap₂, ◌∙◌}
use mathlib.Core.Bool.{Bool, true, false, false≢true}
use mathlib.Core.List.{List, [], ◌∷◌, ◌++◌, append-nil}
use borrow.Author.Tests.{ltb-true, eqb-true, lt-ltb, eq-eqb, not-true}
use lib.Dec.{ltb, eqb}
use lib.ListN.{length, get_or}
use lib.IntN.{ℤ}
use Rattle.folder.specs.Fields.{u16}
use Rattle.folder.specs.Contents.{body}
use Rattle.folder.specs.Tab.{tab, passing, same_list}
use Rattle.folder.proofs.Decides.{and_both, both-and, unless, same, same_lists, same_test, reworded}
use Rattle.folder.proofs.TabLaws.{length-tab, get_or-tab, passing-more, passing-stands, passing-same}
use Rattle.model.specs.Model.{Model, model_of}
use Rattle.graph.specs.Simulation.{edge_size, edge_at, node_field, simulation_of}
use Rattle.graph.specs.Rules.{enabled_in, same_edges}
use Rattle.graph.specs.Walks.{starts_at}
use Rattle.graph.proofs.EdgePlaces.{place-start, place-next}
use Rattle.expand.specs.Node.{GuardsSettled}
use Rattle.expand.specs.Tests.{holds_at, names_at}

-- ---- the walk
module _ (M : Model) (g : List ℕ) (n : ℕ) (test : ℕ → Bool) where
  abbrev command : ℕ → ℕ
  command e = (simulation_of M g).command n e

  -- Of the commands below c those that pass are the commands of the first k edges; the next edge stands at p.
  pub record Walked (edges commands c k p : ℕ) : Type 0 where
    pub within : c ≤ commands
    pub few : k ≤ edges
    pub so_far : passing c test ≡ tab k command
    pub stands_at : p ≡ edge_at M g n k

  pub walk_start : (edges commands : ℕ) {at : ℕ} → at ≡ starts_at M g n → Walked edges commands 0 0 at
  unfolding passing tab
  walk_start edges commands e = record { within = zero-le; few = zero-le; so_far = refl; stands_at = place-start M g n e }

  module _ {edges commands c k p : ℕ} (w : Walked edges commands c k p) (l : c < commands) {t : Bool} (h : t ≡ test c) where
    pub walk-skip : t ≡ false → {k' p' : ℕ} → k' ≡ k → p' ≡ p → Walked edges commands (c + 1) k' p'
    walk-skip f j i = rw (j, i) (record {
      within = omega arith;
      few = w.few;
      so_far = passing-more test c false (sym h ∙ f) ∙ append-nil (passing c test) ∙ w.so_far;
      stands_at = w.stands_at;
    })

    module _ {eb : List ℕ} (q : eb ≡ body g 1) {u : Bool} (v : u ≡ names_at eb edges k p c) where
      here : u16 eb p ≡ command k
      here = ap₂ u16 q w.stands_at

      pub walk-take : t ≡ true → u ≡ true → {size k' p' : ℕ} → size ≡ edge_size M eb p → k' ≡ k + 1 → p' ≡ p + size → Walked edges commands (c + 1) k' p'
      unfolding tab
      walk-take f y s j o =
          let b = and_both (ltb k edges) (eqb (u16 eb p) c) (sym v ∙ y) in
          let i : k < edges = ltb-true k edges b.0 in
          let e : c ≡ command k = sym (eqb-true (u16 eb p) c b.1) ∙ here in
          rw (j, o) (record {
            within = omega arith;
            few = omega arith;
            so_far = passing-more test c true (sym h ∙ f) ∙ rw add-one (ap₂ (λ (x : List ℕ) (y : ℕ). x ++ (y ∷ [])) w.so_far e);
            stands_at = place-next M g n k q w.stands_at s;
          })

      -- Where the lists are the same, the edge is there and names c.
      named : t ≡ true → tab edges command ≡ passing commands test → u ≡ true
      named f e =
          let j : length (passing c test) ≡ k = ap length w.so_far ∙ length-tab k command in
          let s = passing-stands test c commands l (sym h ∙ f) in
          let i : k < edges = omega (arith, s.0, ap length e, length-tab edges command) in
          v ∙ both-and (ltb k edges) (eqb (u16 eb p) c) (lt-ltb k edges i)
          (eq-eqb (u16 eb p) c (here ∙ sym (get_or-tab 0 edges command k i) ∙ ap₂ (λ (x : List ℕ) (y : ℕ). get_or x y 0) e (sym j) ∙ s.1))

      pub walk-fails : t ≡ true → u ≡ false → false ≡ same_list (tab edges command) (passing commands test)
      walk-fails f y = sym (not-true (same_list (tab edges command) (passing commands test))
          ((unless (same_lists (tab edges command) (passing commands test))).no (λ e. false≢true (sym y ∙ named f e))))

  pub walk-over : {edges commands c k p : ℕ} → Walked edges commands c k p → commands ≤ c → eqb k edges ≡ same_list (tab edges command) (passing commands test)
  walk-over {edges} {commands} {c} {k} w l =
      let q : commands ≡ c = omega (arith, w.within) in
      let e : passing commands test ≡ tab k command = ap (λ (i : ℕ). passing i test) q ∙ w.so_far in
      same_test (same k edges) (reworded
      (λ r. sym (length-tab k command) ∙ ap length (sym e ∙ sym r) ∙ length-tab edges command)
      (λ r. ap (λ (i : ℕ). tab i command) (sym r) ∙ sym e)
      (same_lists (tab edges command) (passing commands test)))

-- The test is that the guard holds in the state.
module _ {m g : List ℕ} {n : ℕ} {state : List ℤ} (settled : GuardsSettled m g n state) where
  pub same_edges_lem : {edges commands : ℕ} → edges ≡ node_field (model_of m) g n 4 → commands ≡ (model_of m).commands
      → same_list (tab edges ((simulation_of (model_of m) g).command n)) (passing commands (λ c. holds_at state ((model_of m).guard c))) ≡ same_edges (model_of m) (simulation_of (model_of m) g) n
  same_edges_lem p q = rw (p, q, passing-same (model_of m).commands (λ c. holds_at state ((model_of m).guard c)) (enabled_in (model_of m) (simulation_of (model_of m) g) n) settled.is)
