-- From the bodies that the code holds to the graph that they are.
-- Assumes nothing.
use Prim.Native.Nat.{ℕ, ◌/◌, ◌≤◌}
use mathlib.Core.Path.{◌≡◌, refl, sym, ap, ◌∙◌}
use mathlib.Core.List.{List}
use native.Mathlib.Omega.{arith}
use lib.ListN.{length}
use lib.IntN.{ℤ}
use Rattle.folder.specs.Contents.{body}
use Rattle.folder.specs.Tab.{fill}
use Rattle.model.specs.Layout.{variable_count}
use Rattle.model.specs.Model.{Model, model_of}
use Rattle.model.proofs.Limits.{limits}
use Rattle.graph.specs.Limits.{slot_count}
use Rattle.graph.specs.Simulation.{Simulation, node_count, simulation_of}
use Rattle.graph.specs.Figures.{over}
use Rattle.graph.specs.Valid.{Valid}
use Rattle.slots.specs.Slots.{slots_after}
use Rattle.slots.specs.Nodes.{label_in, Hashed}
use Rattle.index.specs.Twins.{state_at}
use Rattle.index.specs.Index.{shared, index_slots, answers_of, listing_of}
use Rattle.index.specs.Ready.{nodes_in, lowest_in, twins_in, Indexed}
use Rattle.std.specs.Prelude.{Ok}

module _ (m g : List ℕ) {vars : ℕ} {nb : List ℕ} (v : vars ≡ variable_count m) (b : nb ≡ body g 0) where
  abbrev M : Model
  M = model_of m

  abbrev G : Simulation
  G = simulation_of M g

  nodes-are : nodes_in vars nb ≡ node_count M g
  nodes-are = rw (v, b) refl

  module _ {nodes : ℕ} (row₀ : List ℕ) {row : List ℕ} (k : nodes ≡ node_count M g) (long : length row₀ ≡ slot_count) (e : row ≡ slots_after (label_in vars nb) (length row₀) nodes) where
    pub slots-are : row ≡ index_slots M G
    slots-are = rw (v, b, k, long) at e

    pub indexed : Valid m g → {hashes : List ℕ} → Hashed vars nb hashes → length row ≡ length row₀ → Indexed vars nb hashes row
    indexed A hashes same = record {
      vars-few = omega (arith, (limits A.model.folder).variables);
      nodes-few = omega (arith, nodes-are, A.rows.folder.few);
      hashed = hashes;
      fit = omega (arith, nodes-are, A.rows.folder.few);
      is = e ∙ ap (λ (s : ℕ). slots_after (label_in vars nb) s nodes) (sym same) ∙ ap (slots_after (label_in vars nb) (length row)) (k ∙ sym nodes-are);
    }

  pub listing-fits : (l : List ℕ) → node_count M g ≤ length l → nodes_in vars nb ≤ length l
  listing-fits l h = omega (arith, nodes-are)

  pub answers-are : (batch : List ℤ) (row₀ : List ℕ) {row : List ℕ} → row ≡ fill (length batch / vars) (λ k. lowest_in vars nb (state_at vars batch k)) row₀ → row ≡ answers_of M G (Ok tt) batch row₀
  answers-are batch row₀ e = rw (v, b) at e

  pub shared-are : {n : ℕ} → n ≡ length (twins_in vars nb (nodes_in vars nb)) → n ≡ length (shared M G)
  shared-are e = rw (v, b) at e

  pub listing-are : (row₀ : List ℕ) {row : List ℕ} → row ≡ over (twins_in vars nb (nodes_in vars nb)) row₀ → row ≡ listing_of M G (Ok tt) row₀
  listing-are row₀ e = rw (v, b) at e
