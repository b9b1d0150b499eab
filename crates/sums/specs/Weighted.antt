-- A weighted graph: the bytes of a model and of a graph, and the model's tables.
-- Assumes nothing.
use Rattle.std.specs.Prelude.{ℕ, List}
use Rattle.model.specs.Model.{model_of}
use Rattle.graph.specs.Valid.{Valid}
use Rattle.sums.specs.Tables.{Tables}

pub record Weighted : Type 0 where
  pub model : List ℕ
  pub graph : List ℕ
  pub weights : List ℕ
  pub firsts : List ℕ

-- The graph is accepted, and the tables are its model's.
pub record Ready (s : Weighted) : Type 0 where
  pub valid : Valid s.model s.graph
  pub tables : Tables (model_of s.model) s.weights s.firsts
