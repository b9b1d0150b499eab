-- The length of the bytes of a graph while it is built, and where its nodes' edges begin.
-- Assumes nothing.
use Prim.Native.Nat.{ℕ, zero, suc, ◌+◌, ◌*◌}
use mathlib.Core.Path.{◌≡◌, refl, sym, ap, ◌∙◌}
use mathlib.Core.Bool.{Bool, true, false}
use mathlib.Core.List.{List, [], ◌∷◌, ◌++◌, append-nil}
use native.Mathlib.Omega.{arith}
use lib.ListN.{length, get_or, length-append, get_or-append}
use lib.Seq.{get_or-append_seam}
use Rattle.mdp.specs.Sums.{sum}
use Rattle.mdp.specs.Kinds.{Kind}
use Rattle.mdp.proofs.SumLaws.{sum-eq}
use Rattle.folder.specs.Pick.{pick}
use Rattle.folder.specs.Tab.{passing}
use Rattle.folder.proofs.TabLaws.{length-tab}
use Rattle.model.specs.Model.{Model}
use Rattle.model.specs.Pedal.{fields}
use Rattle.graph.specs.Simulation.{Simulation, edge_bytes}
use Rattle.building.specs.Building.{Building, enabled, edge_commands, if_expanded, as_simulation}
use Rattle.building.specs.Length.{edges_length, edges_of, edges_before, graph_length}
use Rattle.written.specs.Bytes.{chain, edge_fields, edges_fields, node_body, edge_body, graph_bytes}
use Rattle.written.proofs.FieldLaws.{length_fields}
use Rattle.written.proofs.FolderLaws.{folder-length}
use Rattle.written.proofs.ReadBack.{bytes-long}

pub chain-sum : (n : ℕ) (f : ℕ → List ℕ) → length (chain n f) ≡ sum n (λ i _. length (f i))
unfolding chain
chain-sum zero f = refl
chain-sum (suc n) f = length-append (chain n f) (f n) ∙ ap (λ (x : ℕ). x + length (f n)) (chain-sum n f)

sum-times : (n c : ℕ) (f : ℕ → ℕ) → sum n (λ i _. c * f i) ≡ c * sum n (λ i _. f i)
sum-times zero c f = omega arith
sum-times (suc n) c f = omega (arith, sum-times n c f)

-- A sum over the numbers that pass is one over all.
module _ (h : ℕ → ℕ) where
  one_more : (l : List ℕ) (x : ℕ) → sum (length (l ++ (x ∷ []))) (λ e _. h (get_or (l ++ (x ∷ [])) e 0)) ≡ sum (length l) (λ e _. h (get_or l e 0)) + h x
  one_more l x =
      let n : length (l ++ (x ∷ [])) ≡ suc (length l) = omega (arith, length-append l (x ∷ [])) in
      ap (λ (k : ℕ). sum k (λ e _. h (get_or (l ++ (x ∷ [])) e 0))) n
      ∙ (λ i. sum-eq (length l) (λ e _. h (get_or (l ++ (x ∷ [])) e 0)) (λ e _. h (get_or l e 0)) (λ e p. ap h (get_or-append l (x ∷ []) 0 e p)) i + ap h (get_or-append_seam l x [] 0) i)

  more_by : (l : List ℕ) (x : ℕ) (t : Bool) → sum (length (l ++ pick t (x ∷ []) [])) (λ e _. h (get_or (l ++ pick t (x ∷ []) []) e 0)) ≡ sum (length l) (λ e _. h (get_or l e 0)) + pick t (h x) 0
  more_by l x true = one_more l x
  more_by l x false = ap (λ (k : List ℕ). sum (length k) (λ e _. h (get_or k e 0))) (append-nil l) ∙ omega arith

  pub passing-sum : (n : ℕ) (test : ℕ → Bool) → sum (length (passing n test)) (λ e _. h (get_or (passing n test) e 0)) ≡ sum n (λ c _. pick (test c) (h c) 0)
  unfolding passing
  passing-sum zero test = refl
  passing-sum (suc n) test = more_by (passing n test) n (test n) ∙ ap (λ (x : ℕ). x + pick (test n) (h n) 0) (passing-sum n test)

doubled : (t : Bool) (x : ℕ) → 2 * pick t (suc x) 0 ≡ pick t (edge_bytes x) 0
doubled true x = omega arith
doubled false x = refl

module _ (M : Model) (B : Building) (value : ℕ → ℕ) where
  abbrev G : Simulation
  G = as_simulation M B value

  edge-long : (n e : ℕ) → length (edge_fields M G n e) ≡ suc (M.branches (get_or (edge_commands M (B.state n)) e 0))
  edge-long n e = ap suc (length-tab (M.branches (G.command n e)) (G.successor n e))

  expanded-long : (n : ℕ) → 2 * length (chain (length (edge_commands M (B.state n))) (edge_fields M G n)) ≡ edges_length M (B.state n)
  unfolding edges_length
  expanded-long n =
      ap (λ (x : ℕ). 2 * x) (chain-sum (length (edge_commands M (B.state n))) (edge_fields M G n)
      ∙ sum-eq (length (edge_commands M (B.state n))) (λ e _. length (edge_fields M G n e)) (λ e _. suc (M.branches (get_or (edge_commands M (B.state n)) e 0))) (λ e _. edge-long n e)
      ∙ passing-sum (λ c. suc (M.branches c)) M.commands (enabled M (B.state n)))
      ∙ sym (sum-times M.commands 2 (λ c. pick (enabled M (B.state n) c) (suc (M.branches c)) 0))
      ∙ sum-eq M.commands (λ c _. 2 * pick (enabled M (B.state n) c) (suc (M.branches c)) 0) (λ c _. pick (enabled M (B.state n) c) (edge_bytes (M.branches c)) 0) (λ c _. doubled (enabled M (B.state n) c) (M.branches c))

  node-long : (n : ℕ) (κ : Kind) → 2 * length (chain (if_expanded κ (length (edge_commands M (B.state n)))) (edge_fields M G n)) ≡ if_expanded κ (edges_length M (B.state n))
  unfolding chain
  node-long n Kind.waiting = refl
  node-long n Kind.expanded = expanded-long n
  node-long n Kind.covered = refl
  node-long n Kind.target = refl

  -- Where node n's edges begin among the edge body's bytes.
  pub edges-place : (n : ℕ) → 2 * length (chain n (edges_fields M G)) ≡ edges_before M B n
  unfolding edges_before
  edges-place n =
      ap (λ (x : ℕ). 2 * x) (chain-sum n (edges_fields M G))
      ∙ sym (sum-times n 2 (λ i. length (edges_fields M G i)))
      ∙ sum-eq n (λ i _. 2 * length (edges_fields M G i)) (λ i _. edges_of M B i) (λ i _. node-long i (B.kind i))

  pub edges-long : length (fields (edge_body M G)) ≡ edges_before M B B.nodes
  edges-long = length_fields (edge_body M G) ∙ edges-place B.nodes

  -- The length that the builder reckons with is that of the bytes.
  pub written-length : length (graph_bytes M G) ≡ graph_length M B
  unfolding graph_bytes graph_length
  written-length = omega (arith, folder-length (fields (node_body M G)) (fields (edge_body M G)), bytes-long M G, edges-long)
