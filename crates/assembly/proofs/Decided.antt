-- The call that builds is accepted if and only if the model is and row 35's rule holds; refused, at the first broken place.
-- Assumes nothing.
use Prim.Native.Nat.{ℕ}
use mathlib.Core.Path.{◌≡◌}
use mathlib.Core.Logic.{◌↔◌}
use mathlib.Core.List.{List, ◌++◌}
use Rattle.folder.specs.Table.{Broken}
use Rattle.folder.specs.declared.Refusal.{Refusal}
use Rattle.folder.proofs.TableLaws.{tables-ask, accepted-asks, refused-broken}
use Rattle.model.specs.Model.{model_of}
use Rattle.model.specs.Table.{model_rows}
use Rattle.model.specs.Valid as Models
use Rattle.model.proofs.Decided.{model-asks}
use Rattle.assembly.specs.Build.{build_rows, BuildRight, build_outcome}
use Rattle.assembly.proofs.CallLaws.{build-asks}
use Rattle.std.specs.Prelude.{Err, Ok}

module _ (m : List ℕ) (rounds : ℕ) (out : List ℕ) where
  pub build-valid : (build_outcome m rounds out ≡ (Ok tt)) ↔ (Models.Valid m × BuildRight (model_of m) rounds out)
  unfolding build_outcome
  build-valid = accepted-asks (tables-ask (model_rows m) (model-asks m) (build-asks (model_of m) rounds out))

  pub build-refused : (f : Refusal) → build_outcome m rounds out ≡ Err f → Broken (model_rows m ++ build_rows (model_of m) rounds out) f
  unfolding build_outcome
  build-refused f e = refused-broken (model_rows m ++ build_rows (model_of m) rounds out) f e
