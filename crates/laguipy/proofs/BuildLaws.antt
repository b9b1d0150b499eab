-- The build call after the model check's outcome.
-- Assumes nothing.
use Prim.Native.Nat.{ℕ}
use mathlib.Core.Path.{◌≡◌, sym, ap, ◌∙◌}
use mathlib.Core.List.{List}
use Rattle.folder.specs.Table.{outcome}
use Rattle.folder.specs.declared.Refusal.{Refusal}
use Rattle.folder.proofs.TableLaws.{accepted-then, refused-then}
use Rattle.model.specs.Model.{model_of}
use Rattle.model.specs.Table.{model_rows, model_outcome}
use Rattle.assembly.specs.Build.{build_rows, answer_of, slice_of, build_outcome, build_answer, built_slice, BuildAnswer}
use Rattle.std.specs.Prelude.{Err, Ok}

module _ (m : List ℕ) (rounds : ℕ) (out : List ℕ) where
  model-refused : (f : Refusal) → model_outcome m ≡ Err f → build_outcome m rounds out ≡ Err f
  unfolding build_outcome model_outcome
  model-refused f e = refused-then (model_rows m) (build_rows (model_of m) rounds out) f e

  model-accepted : model_outcome m ≡ (Ok tt) → build_outcome m rounds out ≡ outcome (build_rows (model_of m) rounds out)
  unfolding build_outcome model_outcome
  model-accepted e = accepted-then (model_rows m) (build_rows (model_of m) rounds out) e

  pub build-refused : {f : Refusal} → model_outcome m ≡ Err f → (Err f ≡ build_answer m rounds out) × (out ≡ built_slice m rounds out)
  unfolding build_answer built_slice
  build-refused {f} e = let h = model-refused f e in (sym (ap (answer_of (model_of m) rounds out) h), sym (ap (slice_of (model_of m) rounds out) h))

  pub build-goes-on : model_outcome m ≡ (Ok tt) → {a : BuildAnswer} {new : List ℕ} → a ≡ answer_of (model_of m) rounds out (outcome (build_rows (model_of m) rounds out))
      → new ≡ slice_of (model_of m) rounds out (outcome (build_rows (model_of m) rounds out)) → (a ≡ build_answer m rounds out) × (new ≡ built_slice m rounds out)
  unfolding build_answer built_slice
  build-goes-on e p q = let h = sym (model-accepted e) in (p ∙ ap (answer_of (model_of m) rounds out) h, q ∙ ap (slice_of (model_of m) rounds out) h)
