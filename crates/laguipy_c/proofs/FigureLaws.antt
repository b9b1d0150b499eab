-- Where the figures stand, by the figure call's outcome.
-- Assumes nothing.
use Prim.Native.Nat.{ℕ}
use mathlib.Core.Path.{◌≡◌, refl}
use mathlib.Core.List.{List, [], ◌∷◌}
use Rattle.folder.specs.Pick.{pick}
use Rattle.folder.specs.declared.Refusal.{Refusal}
use Rattle.model.specs.Model.{model_of}
use Rattle.graph.specs.Simulation.{simulation_of}
use Rattle.graph.specs.Figures.{figure_outcome, figure_part, figure_in_first, in_first}
use Rattle.graph.proofs.Decided.{figure-valid}
use Rattle.rounds.proofs.FigureLaws.{figures-long}
use Rattle.laguipy_c.specs.Answers.{figure_place}
use Rattle.std.specs.Prelude.{Err, Ok}

module _ (m g : List ℕ) (h : ℕ) (first second : List ℕ) where
  pub none-stand : (f : Refusal) → figure_outcome m g h first second ≡ Err f
      → (0 ∷ 0 ∷ []) ≡ figure_place m g h first second
  unfolding figure_part figure_in_first
  none-stand f e = rw e refl

  pub all-stand : {row count : ℕ} → figure_outcome m g h first second ≡ (Ok tt)
      → row ≡ pick (in_first h) 0 1 → count ≡ (simulation_of (model_of m) g).nodes
      → (row ∷ count ∷ []) ≡ figure_place m g h first second
  unfolding figure_part figure_in_first
  all-stand e p q =
      let v = ((figure-valid m g h first second).0 e).0 in
      rw (e, p, q, figures-long v h) refl
