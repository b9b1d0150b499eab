-- One variable from a combination to the next.
-- Assumes nothing.
use Rattle.std.specs.Prelude.{ℕ, Bool, ◌&&◌, ℤ, pos, ◌+ℤ◌}
use Rattle.std.specs.Int.Signed.{lt_z}
use Rattle.folder.specs.Pick.{pick}
use Rattle.expressions.specs.Mentions.{is_free}
use Rattle.expressions.specs.declared.Range.{Range}

module _ (bound : ℕ → Range) (m t v : ℕ) (z : ℤ) where
  -- Variable v, whose value is z, goes up by one, and those above it stay: it is free and not at its high.
  unfoldable pub stops_at : Bool
  stops_at = is_free m t v && lt_z z (bound v).high

  -- Its value in the next combination, where all free variables below it go back to their lows.
  unfoldable pub next_value : ℤ
  next_value = pick stops_at (z +ℤ pos 1) (pick (is_free m t v) (bound v).low z)
