-- Document 01's table, rows 1 to 11: the test of each row at a place. (Rows 5 and 6 are of the expressions.)
-- Assumes nothing.
use Rattle.std.specs.Prelude.{ℕ, ◌+◌, ◌%◌, List, Bool, ◌&&◌, not, length, leb, eqb, ℤ}
use Rattle.std.specs.Int.Signed.{le_z}
use Rattle.mdp.specs.Sums.{sum}
use Rattle.folder.specs.Pick.{implies}
use Rattle.folder.specs.Scan.{all}
use Rattle.folder.specs.Contents.{body}
use Rattle.expressions.specs.Entries.{Entries, is_number, is_truth}
use Rattle.expressions.specs.Ranges.{range_of, inside}
use Rattle.expressions.specs.declared.Range.{Range}
use Rattle.model.specs.Limits.{least_bytes, most_bytes, least_bound, most_bound, most_branches}
use Rattle.model.specs.Layout.{record_size, record_count, most_of}
use Rattle.model.specs.Model.{Model, bound, first_record}

-- Row 1.
abbrev pub bytes_fit : List ℕ → Bool
bytes_fit m = leb least_bytes (length m) && leb (length m) most_bytes

-- Row 3: body e is whole records, and their count is within its limits.
unfoldable pub records_fit : List ℕ → ℕ → Bool
records_fit m e = (eqb (length (body m e) % record_size m e) 0 && leb 1 (record_count m e)) && leb (record_count m e) (most_of e)

-- x lies in low to high.
abbrev pub between : ℤ → ℤ → ℤ → Bool
between low high x = le_z low x && le_z x high

-- Entry e may be assigned to variable v: it is a number, and its range stays in the variable's.
abbrev pub stays_in : Entries → (ℕ → Range) → ℕ → ℕ → Bool
stays_in x bound e v = is_number x e && inside (range_of x bound e) (bound v)

module _ (M : Model) where
  -- Row 4: variable v.
  unfoldable pub variable_fits : ℕ → Bool
  variable_fits v =
      le_z (M.low v) (M.high v) && ((le_z least_bound (M.low v) && le_z (M.high v) most_bound) && between (M.low v) (M.high v) (M.initial v))

  -- Row 7: D is not 0 (place 0); the target is a truth (1).
  unfoldable pub terms_fit : ℕ → Bool
  terms_fit p = implies (eqb p 0) (not (eqb M.total 0)) && implies (eqb p 1) (is_truth M.entries M.target)

  -- Row 8: command c.
  unfoldable pub command_fits : ℕ → Bool
  command_fits c = is_truth M.entries (M.guard c) && (leb 1 (M.branches c) && leb (M.branches c) most_branches)

  -- Row 9.
  unfoldable pub records_add_up : Bool
  records_add_up = eqb M.records (first_record M M.commands)

  -- Row 10: branch record r; and what it assigns to variable v.
  unfoldable pub assigned_fits : ℕ → ℕ → Bool
  assigned_fits r v = stays_in M.entries (bound M) (M.assigned r v) v

  unfoldable pub branch_fits : ℕ → Bool
  branch_fits r = not (eqb (M.weight r) 0) && all (assigned_fits r) M.variables

  -- Row 11: command c.
  unfoldable pub weights_total : ℕ → Bool
  weights_total c = eqb (sum (M.branches c) (λ b _. M.weight (first_record M c + b))) M.total
