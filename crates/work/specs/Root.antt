-- Document 02, 2.5: the root's record.
-- Assumes nothing.
use Rattle.std.specs.Prelude.{ℕ, ◌+◌, ◌-◌, ◌<◌, ◌≤◌, ◌≡◌, ◌&&◌, List, leb, ltb}
use Rattle.folder.specs.Pick.{pick}
use Rattle.folder.specs.Contents.{field}
use Rattle.graph.specs.Simulation.{node_size}
use Rattle.put.specs.Put.{Stays}
use Rattle.held.specs.Held.{state_field}

-- Field f of the root, by the body y of variables: the initial values; else 0.
abbrev pub root_field : ℕ → List ℕ → ℕ → ℕ
root_field vars y f = pick (leb state_field f && ltb f (state_field + vars)) (field 6 y (f - state_field) 2) 0

pub record Begun (vars : ℕ) (y : List ℕ) (i : ℕ) (old new : List ℕ) : Type 0 where
  pub stays : Stays 0 (node_size vars) old new
  pub within : i ≤ state_field + vars + 1
  pub is : (f : ℕ) → f < i → field (node_size vars) new 0 f ≡ root_field vars y f
