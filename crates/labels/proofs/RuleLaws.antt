-- A1, C1 and C2 as one scan over the variables, and C3, from what the code reads of the folders.
-- Assumes nothing.
use Prim.Native.Nat.{ℕ, ◌+◌}
use mathlib.Core.Path.{◌≡◌, refl, sym, ap, ◌∙◌}
use mathlib.Core.Bool.{Bool, true, false, not, ◌&&◌, and_comm}
use mathlib.Core.List.{List}
use borrow.Author.Tests.{eq-eqb}
use lib.Dec.{ltb, eqb}
use lib.IntN.{ℤ}
use lib.Signed.{le_z}
use Rattle.folder.specs.Pick.{implies}
use Rattle.folder.specs.Contents.{body, count_of, field, signed_field}
use Rattle.folder.specs.Scan.{all}
use Rattle.folder.proofs.PickLaws.{when-unequal}
use Rattle.folder.proofs.Decides.{all_same}
use Rattle.whole.specs.Order.{eq_z}
use Rattle.expressions.specs.Reading.{has_bit}
use Rattle.model.specs.Layout.{variable_count}
use Rattle.model.specs.Model.{Model, model_of}
use Rattle.graph.specs.Simulation.{Simulation, node_size, simulation_of}
use Rattle.graph.specs.Rules.{A1, C3, C1, C2}
use Rattle.labels.specs.Agree.{agrees_at}

eq_z-comm : (a b : ℤ) → eq_z a b ≡ eq_z b a
unfolding eq_z
eq_z-comm a b = and_comm (le_z a b) (le_z b a)

-- What is asked where a test passes may ask the test again.
again : (a b : Bool) → implies a (a && b) ≡ implies a b
again true b = refl
again false b = refl

agrees-own : (vars : ℕ) (nb : List ℕ) (t n f k v : ℕ)
    → agrees_at vars nb t t n f k v ≡ implies (has_bit t v) (eq_z (signed_field (node_size vars) nb n (f + v)) (signed_field (node_size vars) nb k (6 + vars + v)))
unfolding agrees_at
agrees-own vars nb t n f k v = again (has_bit t v) (eq_z (signed_field (node_size vars) nb n (f + v)) (signed_field (node_size vars) nb k (6 + vars + v)))

-- What the code reads of the folders once: the count of variables and the body of nodes.
pub record Parts (m g : List ℕ) (vars : ℕ) (nb : List ℕ) : Type 0 where
  pub variables : vars ≡ variable_count m
  pub nodes : nb ≡ body g 0

module _ {m g nb : List ℕ} {vars : ℕ} (P : Parts m g vars nb) (n : ℕ) where
  abbrev M : Model
  M = model_of m

  abbrev G : Simulation
  G = simulation_of M g

  pub a1-is : {u : ℕ} {r : Bool} → u ≡ field (node_size vars) nb n 5 → r ≡ all (agrees_at vars nb (field (node_size vars) nb n 5) u n 6 n) vars → r ≡ A1 M G n
  unfolding A1
  a1-is p q =
      rw (q, p, P.variables, P.nodes)
      (all_same M.variables (λ v _. agrees-own M.variables (body g 0) (G.tracked n) n 6 n v ∙ ap (implies (has_bit (G.tracked n) v)) (eq_z-comm (G.concrete n v) (G.label n v))))

  -- `kind` is what the code reads for the kind of node n.
  module _ {kind : ℕ} (s : kind ≡ field (node_size vars) nb n 0) where
    kind-is : kind ≡ G.kind n
    kind-is = s ∙ rw (P.variables, P.nodes) refl

    pub c1-free : (kind ≡ 2 → ⊥) → true ≡ C1 M G n
    unfolding C1
    c1-free h = when-unequal 2 _ kind-is h

    pub c2-free : (kind ≡ 2 → ⊥) → true ≡ C2 M G n
    unfolding C2
    c2-free h = when-unequal 2 _ kind-is h

    -- k is what it reads for the cover, and `other` for the cover's kind.
    pub c3-is : {k other nodes : ℕ} → k ≡ field (node_size vars) nb n 1 → other ≡ field (node_size vars) nb k 0 → nodes ≡ count_of (node_size vars) nb
        → implies (eqb kind 2) (ltb k nodes && not (eqb other 2)) ≡ C3 M G n
    unfolding C3
    c3-is p q r = rw (s, q, p, r, P.variables, P.nodes) refl

    -- It is 2, and k is what the code reads for the cover.
    module _ (h : kind ≡ 2) {k : ℕ} (p : k ≡ field (node_size vars) nb n 1) where
      pub c1-is : {u : ℕ} {r : Bool} → u ≡ field (node_size vars) nb k 5 → r ≡ all (agrees_at vars nb (field (node_size vars) nb k 5) u n 6 k) vars → r ≡ C1 M G n
      unfolding C1
      c1-is q e =
          rw (eq-eqb (G.kind n) 2 (sym kind-is ∙ h), e, q, p, P.variables, P.nodes)
          (all_same M.variables (λ v _. agrees-own M.variables (body g 0) (G.tracked (G.cover n)) n 6 (G.cover n) v))

      pub c2-is : {u : ℕ} {r : Bool} → u ≡ field (node_size vars) nb n 5 → r ≡ all (agrees_at vars nb (field (node_size vars) nb k 5) u n (6 + vars) k) vars → r ≡ C2 M G n
      unfolding C2 agrees_at
      c2-is q e = rw (eq-eqb (G.kind n) 2 (sym kind-is ∙ h), e, q, p, P.variables, P.nodes) refl
