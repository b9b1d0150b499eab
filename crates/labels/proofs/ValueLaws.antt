-- The value rule from what the code reads: the greatest sum over a node's edges, the row of the folder's values, and the
-- rule of a node.
-- Assumes nothing.
use Prim.Native.Nat.{ℕ, ◌*◌, ◌≤◌}
use native.Mathlib.Omega.{arith}
use mathlib.Core.Path.{◌≡◌, refl, sym, ◌∙◌}
use mathlib.Core.Bool.{◌&&◌, true, and-true}
use borrow.Author.Tests.{ne_eqb}
use mathlib.Core.List.{List}
use lib.Dec.{leb, eqb}
use lib.ListN.{length, get_or}
use Rattle.mdp.specs.Sums.{greatest}
use Rattle.mdp.specs.Graph.{along}
use Rattle.mdp.proofs.SumLaws.{greatest-above, greatest-below}
use Rattle.folder.specs.Pick.{implies}
use Rattle.folder.specs.Contents.{body, count_of, field, field4}
use Rattle.folder.specs.Scan.{all}
use Rattle.folder.specs.Tab.{fill}
use Rattle.folder.proofs.Decides.{at_most, everywhere, reworded, same_test}
use Rattle.model.specs.Model.{Model, model_of}
use Rattle.model.specs.Chances.{mdp}
use Rattle.graph.specs.Limits.{units}
use Rattle.graph.specs.Simulation.{Simulation, node_size, node_count, simulation_of, graph}
use Rattle.graph.specs.Rules.{value_rule}
use Rattle.sums.specs.Edges.{EdgesReady, best_of}
use Rattle.sums.proofs.ModelLaws.{edges-ready, best-is}
use Rattle.labels.specs.Values.{ValueReady}
use Rattle.labels.proofs.RuleLaws.{Parts}

-- The greatest of some values is at most x if and only if each of them is.
pub greatest-fits : (n : ℕ) (f : ℕ → ℕ) (x : ℕ) → leb (greatest n (λ e _. f e)) x ≡ all (λ e. leb (f e) x) n
greatest-fits n f x =
    same_test (reworded (λ h e l. omega (arith, h, greatest-above n f e l)) (λ h. omega (arith, greatest-below 1 n (λ e _. f e) x (λ e l. omega (arith, h e l)))) (at_most (greatest n (λ e _. f e)) x))
    (everywhere n (λ e l. at_most (f e) x))

-- ---- the row of the folder's values
module _ {m g nb : List ℕ} {vars : ℕ} (P : Parts m g vars nb) where
  pub nodes-within : {size k : ℕ} → size ≡ node_size vars → node_count (model_of m) g ≤ k → count_of size nb ≤ k
  nodes-within z h = rw (z, P.variables, P.nodes) h

  pub values-are : (d : List ℕ) {size : ℕ} {row : List ℕ} → size ≡ node_size vars → row ≡ fill (count_of size nb) (λ i. field4 size nb i 2) d
      → row ≡ fill (node_count (model_of m) g) (simulation_of (model_of m) g).value d
  values-are d z e = e ∙ rw (z, P.variables, P.nodes) refl

-- ---- the rule of node n
module _ {m g values weights firsts : List ℕ} {n at : ℕ} (A : ValueReady m g values weights firsts n at) where
  abbrev M : Model
  M = model_of m

  abbrev G : Simulation
  G = simulation_of M g

  module _ {vars : ℕ} {nb : List ℕ} (P : Parts m g vars nb) where
    -- What the code reads: the bodies of commands and edges, and of node n the count of its edges.
    module _ {count : ℕ} {cs eb : List ℕ} (u : cs ≡ body m 3) (w : eb ≡ body g 1) (q : count ≡ field (node_size vars) nb n 4) where
      pub ready : EdgesReady cs eb weights firsts (length values) at count
      ready = rw (u, w, q, P.variables, P.nodes, A.starts) (edges-ready m g A.model.model A.tables n A.edges (length values) A.long)

    -- Its kind and its value.
    module _ {kind value : ℕ} (a : kind ≡ field (node_size vars) nb n 0) (x : value ≡ get_or values n 0) where
      kind-is : kind ≡ G.kind n
      kind-is = a ∙ rw (P.variables, P.nodes) refl

      pub waiting-is : kind ≡ 0 → eqb value units ≡ value_rule M G (λ k. get_or values k 0) n
      unfolding value_rule
      waiting-is e = rw (x, sym kind-is ∙ e) (sym (and-true (eqb (get_or values n 0) units && true) ∙ and-true (eqb (get_or values n 0) units)))

      pub target-is : kind ≡ 3 → eqb value units ≡ value_rule M G (λ k. get_or values k 0) n
      unfolding value_rule
      target-is e = rw (x, sym kind-is ∙ e) (sym (and-true (eqb (get_or values n 0) units)))

      pub expanded-is : kind ≡ 1 → {count best limit : ℕ} {cs eb : List ℕ} → cs ≡ body m 3 → eb ≡ body g 1 → count ≡ field (node_size vars) nb n 4 → best ≡ best_of cs eb weights firsts values at count → limit ≡ M.total * value → leb best limit ≡ value_rule M G (λ k. get_or values k 0) n
      unfolding value_rule
      expanded-is e u w q b z =
          rw (b, z, x, u, w, q, P.variables, P.nodes, A.starts, best-is m g A.model.model A.tables n A.edges values, greatest-fits (G.edges n) (along (mdp M) (graph G) (λ k. get_or values k 0) n) (M.total * get_or values n 0), sym kind-is ∙ e) (sym (and-true _))

      pub covered-is : kind ≡ 2 → {cover over : ℕ} → cover ≡ field (node_size vars) nb n 1 → over ≡ get_or values cover 0 → leb over value ≡ value_rule M G (λ k. get_or values k 0) n
      unfolding value_rule
      covered-is e b y = rw (y, b, x, P.variables, P.nodes, sym kind-is ∙ e) refl

      pub other-is : (kind ≡ 0 → ⊥) → (kind ≡ 1 → ⊥) → (kind ≡ 2 → ⊥) → (kind ≡ 3 → ⊥) → true ≡ value_rule M G (λ k. get_or values k 0) n
      unfolding value_rule
      other-is f h i j = rw (ne_eqb (G.kind n) 0 (λ e. f (kind-is ∙ e)), ne_eqb (G.kind n) 1 (λ e. h (kind-is ∙ e)), ne_eqb (G.kind n) 2 (λ e. i (kind-is ∙ e)), ne_eqb (G.kind n) 3 (λ e. j (kind-is ∙ e))) refl
