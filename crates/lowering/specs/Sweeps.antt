-- One round over a row that holds the values, in place, and whether it changes any.
-- Assumes nothing.
use Rattle.std.specs.Prelude.{ℕ, zero, suc, ◌<◌, ◌≤◌, ◌≡◌, Bool, true, ◌&&◌, List, eqb, length, get_or}
use Rattle.folder.specs.Tab.{fill}
use Rattle.model.specs.Model.{Model, model_of}
use Rattle.graph.specs.Simulation.{Simulation, node_count, simulation_of}
use Rattle.graph.specs.Walks.{starts_at}
use Rattle.building.specs.Values.{least_value, swept}

-- Of a round from v: no node below n is set to another value than it has.
unfoldable pub unchanged : Model → Simulation → (ℕ → ℕ) → ℕ → Bool
unchanged M G v zero = true
unchanged M G v (suc n) = unchanged M G v n && eqb (swept M G v n n) (least_value M G (swept M G v n) n)

-- The same over the bytes of the two folders and a row: what a round makes of the row, and whether it changes nothing.
module _ (m g : List ℕ) where
  abbrev pub nodes_of : ℕ
  nodes_of = node_count (model_of m) g

  abbrev pub swept_row : List ℕ → List ℕ
  swept_row row = fill nodes_of (swept (model_of m) (simulation_of (model_of m) g) (λ k. get_or row k 0) nodes_of) row

  abbrev pub still_row : List ℕ → Bool
  still_row row = unchanged (model_of m) (simulation_of (model_of m) g) (λ k. get_or row k 0) nodes_of

  -- The edges of each node start where a row says.
  pub record Starts (begins : List ℕ) : Type 0 where
    pub long : nodes_of ≤ length begins
    pub is : (n : ℕ) → n < nodes_of → get_or begins n 0 ≡ starts_at (model_of m) g n
