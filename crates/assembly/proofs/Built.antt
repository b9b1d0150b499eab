-- The call that builds, accepted: its bytes pass the graph check, with demand 3, and fit the slice.
-- Assumes nothing.
use Prim.Native.Nat.{ℕ, ◌≤◌}
use mathlib.Core.Path.{◌≡◌}
use mathlib.Core.List.{List}
use native.Mathlib.Nat.{le-min, le_trans, min-le_left, min-le_right}
use native.Mathlib.Omega.{arith}
use lib.ListN.{length}
use Rattle.model.specs.Model.{model_of}
use Rattle.model.specs.Table.{model_outcome}
use Rattle.model.specs.Valid as Models
use Rattle.model.proofs.Decided as Checked
use Rattle.model.proofs.Limits.{limits}
use Rattle.graph.specs.Limits.{most_bytes}
use Rattle.graph.specs.Table.{graph_outcome}
use Rattle.written.specs.Demand.{BuiltDemand}
use Rattle.written.proofs.Accepted.{every-graph-built-is-accepted, built-no-longer}
use Rattle.written.proofs.Figures as Figures
use Rattle.assembly.specs.Build.{one_node, limit_for, bytes_for, build_outcome}
use Rattle.assembly.proofs.Decided.{build-valid}
use Rattle.std.specs.Prelude.{Ok}

-- ---- a slice that can hold a graph of one node
module _ (m : List ℕ) (W : Models.Valid m) (out : List ℕ) (room : one_node (model_of m) ≤ length out) where
  accepted : model_outcome m ≡ (Ok tt)
  accepted = (Checked.accepted-valid m).1 W

  pub one-fits : one_node (model_of m) ≤ (limit_for out).longest
  one-fits = le-min room (omega (arith, (limits W.folder).variables))

  pub room-short : (limit_for out).longest ≤ most_bytes
  room-short = min-le_right (length out) most_bytes

  pub fitted-accepted : (rounds : ℕ) → graph_outcome m (bytes_for (model_of m) rounds out) ≡ (Ok tt)
  fitted-accepted rounds = every-graph-built-is-accepted m accepted (limit_for out) rounds (omega arith) one-fits (omega arith) room-short

  pub fitted-demand : (rounds : ℕ) → BuiltDemand m (limit_for out) rounds
  fitted-demand rounds = Figures.built-demand m accepted (limit_for out) rounds (omega arith) one-fits (omega arith) room-short

  pub fitted-within : (rounds : ℕ) → length (bytes_for (model_of m) rounds out) ≤ (limit_for out).longest
  fitted-within rounds = built-no-longer m accepted (limit_for out) rounds (omega arith) one-fits

  pub fitted_short : (rounds : ℕ) → length (bytes_for (model_of m) rounds out) ≤ length out
  fitted_short rounds = le_trans (fitted-within rounds) (min-le_left (length out) most_bytes)

-- ---- the call
module _ (m : List ℕ) (rounds : ℕ) (out : List ℕ) (e : build_outcome m rounds out ≡ (Ok tt)) where
  pub built-accepted : graph_outcome m (bytes_for (model_of m) rounds out) ≡ (Ok tt)
  built-accepted = let v = (build-valid m rounds out).0 e in fitted-accepted m v.0 out v.1.room rounds

  pub built-demand : BuiltDemand m (limit_for out) rounds
  built-demand = let v = (build-valid m rounds out).0 e in fitted-demand m v.0 out v.1.room rounds

  pub built-short : length (bytes_for (model_of m) rounds out) ≤ length out
  built-short = let v = (build-valid m rounds out).0 e in fitted_short m v.0 out v.1.room rounds
