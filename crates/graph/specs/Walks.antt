-- What the code holds while it goes over nodes and edges: bodies as slices of their own, and a position among the edges.
-- Assumes nothing.
use Rattle.std.specs.Prelude.{ℕ, ◌+◌, ◌≡◌, Bool, List, ltb, Option, Result, Ok, Err}
use Rattle.std.specs.Bool.{then_some}
use Rattle.folder.specs.Pick.{pick}
use Rattle.folder.specs.Scan.{first_bad, all}
use Rattle.folder.specs.Contents.{body}
use Rattle.model.specs.Model.{Model}
use Rattle.model.specs.Layout.{variable_count}
use Rattle.graph.specs.Simulation.{command_in, successor_in, edge_size, edge_after, edges_start, edge_whole, node_field}
use Rattle.graph.specs.Rules.{edge_stands}

-- vs is the variable body of the model folder m, which has `variables` of them, and ns the node body of the graph folder g.
pub record NodeBodies (m g : List ℕ) (variables : ℕ) (vs ns : List ℕ) : Type 0 where
  pub count : variables ≡ variable_count m
  pub bounds : vs ≡ body m 1
  pub nodes : ns ≡ body g 0

-- Where the edges of node n of the graph folder g start in its edge body.
abbrev pub starts_at : Model → List ℕ → ℕ → ℕ
starts_at M g n = edges_start M (body g 1) (λ i. node_field M g i 4) n

-- Branch b of the edge at position k of the edge body es leads to one of `nodes` nodes.
abbrev pub successor_fits : ℕ → List ℕ → ℕ → ℕ → Bool
successor_fits nodes es k b = ltb (successor_in es k b) nodes

module _ (M : Model) (nodes : ℕ) (es : List ℕ) where
  -- Row 16 at the edge at k.
  unfoldable pub edge_fits_at : ℕ → Bool
  edge_fits_at k = edge_stands M nodes (command_in es k) (edge_whole M es k) (successor_in es k)

  -- Where the edge at k ends, if it fits.
  unfoldable pub edge_end : ℕ → Option ℕ
  edge_end k = then_some (edge_fits_at k) (k + edge_size M es k)

  -- The edge that is j edges after the one at a fits.
  abbrev pub edge_fits_from : ℕ → ℕ → Bool
  edge_fits_from a j = edge_fits_at (edge_after M es a j)

  -- Where the edge after the n edges from a on stands, if all of them fit; or the number of the lowest that does not.
  unfoldable pub edges_end : ℕ → ℕ → Result ℕ ℕ
  edges_end a n = pick (all (edge_fits_from a) n) (Ok (edge_after M es a n)) (Err (first_bad (edge_fits_from a) n))
