-- Document 02, 2.5: the graph that is built.
-- Assumes nothing.
use Rattle.std.specs.Prelude.{ℕ, ◌≤◌, ◌≡◌}
use Rattle.model.specs.Model.{Model}
use Rattle.graph.specs.Simulation.{Simulation}
use Rattle.graph.specs.Labels.{by_states}
use Rattle.graph.specs.Valid.{ContentRight, RulesRight}
use Rattle.building.specs.Building.{Building, as_simulation}
use Rattle.building.specs.Moves.{Limit, seed, after}
use Rattle.building.specs.Measure.{measure}
use Rattle.building.specs.Values.{rounds_of}

-- As many moves as the root's measure leave none to be made.
unfoldable pub built : Model → Limit → Building
built M P = after M P (measure M P (seed M)) (seed M)

-- What a loop that makes the moves holds: a building that some of them give.
pub record Reached (M : Model) (P : Limit) (B : Building) : Type 0 where
  pub moves : ℕ
  pub is : after M P moves (seed M) ≡ B

-- With its values after k rounds. (They do not hang on the values that the graph holds.)
abbrev pub values_of : Model → Building → ℕ → ℕ → ℕ
values_of M B = rounds_of M (as_simulation M B (λ n. 0))

abbrev pub built_graph : Model → Limit → ℕ → Simulation
built_graph M P k = as_simulation M (built M P) (values_of M (built M P) k)

-- All that the graph check asks past the folder's rows.
pub record Accepted (M : Model) (P : Limit) (G : Simulation) : Type 0 where
  pub some : 1 ≤ G.nodes
  pub few : G.nodes ≤ P.most
  pub content : ContentRight M G
  pub rules : RulesRight M G (by_states M G)
