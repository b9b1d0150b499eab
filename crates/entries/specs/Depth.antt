-- Row 5 of an entry in two tests: its form, and its depth as worked out from depths that are given.
-- Assumes nothing.
use Rattle.std.specs.Prelude.{ℕ, max, Bool, ◌||◌}
use Rattle.expressions.specs.Entries.{Entries, number_form, truth_form}
use Rattle.expressions.specs.Levels.{number_step, truth_step}
use Rattle.expressions.specs.Rules.{depth, number_fits, truth_fits}

unfoldable pub form_fits : Entries → ℕ → ℕ → Bool
form_fits x variables e = number_fits x variables e (number_form x e) || truth_fits x variables e (truth_form x e)

-- The depth of entry e where d p is that of its part p.
unfoldable pub depth_by : Entries → (ℕ → ℕ) → ℕ → ℕ
depth_by x d e = max (number_step depth d d (number_form x e)) (truth_step depth d d (truth_form x e))
