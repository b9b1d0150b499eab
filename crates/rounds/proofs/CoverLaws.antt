-- Covers: a node's source is a node that is not covered, so that figures can be copied in place; and the two passes
-- together make a round.
-- Assumes nothing.
use Prim.Native.Nat.{ℕ, ◌<◌}
use native.Mathlib.Decide.{ℕ_discrete, dec_lt}
use native.Mathlib.Omega.{arith}
use mathlib.Core.Path.{◌≡◌, refl, sym, ap, ◌∙◌}
use mathlib.Core.List.{List}
use borrow.Author.Tests.{eq-eqb, ne_eqb}
use lib.Dec.{eqb}
use lib.ListN.{get_or}
use Rattle.mdp.specs.Graph.{round}
use Rattle.folder.specs.Pick.{pick}
use Rattle.folder.specs.Contents.{body, field}
use Rattle.model.specs.Layout.{variable_count}
use Rattle.model.specs.Model.{Model, model_of}
use Rattle.graph.specs.Simulation.{node_size, Simulation, simulation_of}
use Rattle.graph.specs.Valid.{Valid}
use Rattle.rounds.specs.Rounds.{source, own_start, own_next, next_round, nodes_of, own_start_row, own_next_row, cover_row, start_row, next_row}
use Rattle.folder.specs.Tab.{fill}
use Rattle.folder.proofs.FillLaws.{get_or-filled, get_or-kept, fill-same, fill-again}
use Rattle.rounds.proofs.RoundLaws.{shared-source}

module _ {m g : List ℕ} (A : Valid m g) where
  abbrev M : Model
  M = model_of m

  abbrev G : Simulation
  G = simulation_of M g

  pub source_in : (n : ℕ) → n < G.nodes → source G n < G.nodes
  unfolding source
  source_in n l = go (ℕ_discrete (G.kind n) 2)
    where
      go : Dec (G.kind n ≡ 2) → source G n < G.nodes
      go (yes e) = rw (eq-eqb (G.kind n) 2 e) (A.rules.c3 n l e).0
      go (no h) = rw (ne_eqb (G.kind n) 2 h) l

  source-open : (n : ℕ) → n < G.nodes → source G (source G n) ≡ source G n
  unfolding source
  source-open n l = go (ℕ_discrete (G.kind n) 2)
    where
      go : Dec (G.kind n ≡ 2) → source G (source G n) ≡ source G n
      go (yes e) = rw (eq-eqb (G.kind n) 2 e, ne_eqb (G.kind (G.cover n)) 2 (A.rules.c3 n l e).1) refl
      go (no h) = rw (ne_eqb (G.kind n) 2 h, ne_eqb (G.kind n) 2 h) refl

  pub source_is : {size : ℕ} {nb : List ℕ} → size ≡ node_size (variable_count m) → nb ≡ body g 0 → (n : ℕ) {kind cover s : ℕ} → kind ≡ field size nb n 0
      → cover ≡ field size nb n 1 → s ≡ pick (eqb kind 2) cover n → s ≡ source G n
  unfolding source
  source_is z b n p q e = e ∙ rw (p, q, z, b) refl

  -- The nodes before n took theirs already, and n's source still stands.
  pub source-stands : (d : List ℕ) (n : ℕ) {s : ℕ} {row : List ℕ} → n < G.nodes → s ≡ source G n → row ≡ fill n (λ k. get_or d (source G k) 0) d
      → get_or row s 0 ≡ get_or d (source G n) 0
  source-stands d n {s} {row} l e p = rw (e, p) (go (dec_lt (source G n) n))
    where
      go : Dec (source G n < n) → get_or (fill n (λ k. get_or d (source G k) 0) d) (source G n) 0 ≡ get_or d (source G n) 0
      go (yes k) = get_or-filled 0 n _ d (source G n) k ∙ ap (λ (j : ℕ). get_or d j 0) (source-open n l)
      go (no h) = get_or-kept 0 n _ d (source G n) (omega arith)

  -- Both passes: each node holds what its source held of its own.
  both : (own f : ℕ → ℕ) (d : List ℕ) → ((n : ℕ) → f n ≡ own (source G n)) → cover_row m g (fill (nodes_of m g) own d) ≡ fill (nodes_of m g) f d
  both own f d e =
      fill-same (nodes_of m g) _ f _ (λ n l. get_or-filled 0 (nodes_of m g) own d (source G n) (source_in n l) ∙ sym (e n)) ∙ fill-again (nodes_of m g) own f d

  pub start-both : (d : List ℕ) → cover_row m g (own_start_row m g d) ≡ start_row m g d
  unfolding own_start round
  start-both d = both (own_start M G) _ d (shared-source M G (own_start M G))

  pub next_both : (last d : List ℕ) → cover_row m g (own_next_row m g last d) ≡ next_row m g last d
  unfolding next_round
  next_both last d = both (own_next M G last) _ d (shared-source M G (own_next M G last))
