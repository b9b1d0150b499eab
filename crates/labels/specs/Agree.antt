-- One test that A1, C1 and C2 ask of each variable, over the bytes of the nodes.
-- Assumes nothing.
use Rattle.std.specs.Prelude.{ℕ, ◌+◌, Bool, ◌&&◌, List}
use Rattle.folder.specs.Pick.{implies}
use Rattle.folder.specs.Contents.{signed_field}
use Rattle.whole.specs.Order.{eq_z}
use Rattle.expressions.specs.Reading.{has_bit}
use Rattle.graph.specs.Simulation.{node_size}

-- Variable v, if the set t has it, is in the set u, and its value in node n, from field f on, is the one in the label of
-- node k.
unfoldable pub agrees_at : ℕ → List ℕ → ℕ → ℕ → ℕ → ℕ → ℕ → ℕ → Bool
agrees_at vars nb t u n f k v =
    implies (has_bit t v) (has_bit u v && eq_z (signed_field (node_size vars) nb n (f + v)) (signed_field (node_size vars) nb k (6 + vars + v)))
