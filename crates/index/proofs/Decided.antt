-- The index call is accepted if and only if the graph is and row 34's rule holds; refused, at the first broken place.
-- Assumes nothing.
use Prim.Native.Nat.{ℕ}
use mathlib.Core.Path.{◌≡◌}
use mathlib.Core.Logic.{◌↔◌}
use mathlib.Core.List.{List, ◌++◌, append_assoc}
use lib.IntN.{ℤ}
use Rattle.folder.specs.Table.{Broken}
use Rattle.folder.specs.declared.Refusal.{Refusal}
use Rattle.folder.proofs.TableLaws.{tables-ask, accepted-asks, refused-broken}
use Rattle.model.specs.Model.{model_of}
use Rattle.model.specs.Table.{model_rows}
use Rattle.graph.specs.Simulation.{simulation_of}
use Rattle.graph.specs.Table.{graph_rows}
use Rattle.graph.specs.Valid.{Valid}
use Rattle.graph.proofs.Decided.{graph-asks}
use Rattle.index.specs.Index.{index_rows, IndexRight, index_outcome}
use Rattle.index.proofs.CallLaws.{index-asks}
use Rattle.std.specs.Prelude.{Err, Ok}

module _ (m g : List ℕ) (s : List ℕ) (b : List ℤ) (a l : List ℕ) where
  pub index-valid : (index_outcome m g s b a l ≡ (Ok tt)) ↔ (Valid m g × IndexRight (model_of m) (simulation_of (model_of m) g) s b a l)
  unfolding index_outcome
  index-valid = rw (← (append_assoc (model_rows m) (graph_rows (model_of m) g) (index_rows (model_of m) (simulation_of (model_of m) g) s b a l)))
      (accepted-asks (tables-ask (model_rows m ++ graph_rows (model_of m) g) (graph-asks m g) (index-asks (model_of m) (simulation_of (model_of m) g) s b a l)))

  pub index-refused : (f : Refusal) → index_outcome m g s b a l ≡ Err f → Broken (model_rows m ++ graph_rows (model_of m) g ++ index_rows (model_of m) (simulation_of (model_of m) g) s b a l) f
  unfolding index_outcome
  index-refused f e = refused-broken (model_rows m ++ graph_rows (model_of m) g ++ index_rows (model_of m) (simulation_of (model_of m) g) s b a l) f e
