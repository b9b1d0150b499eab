-- Document 01, "Folders": the view of a model folder, which gives a record by its number.
-- Assumes nothing.
use Rattle.std.specs.Prelude.{ℕ, ◌+◌, ◌*◌, Bool, true, false, ◌&&◌, List, take, drop, ltb, is_ok}
use Rattle.folder.specs.Pick.{pick}
use Rattle.folder.specs.Contents.{start_of}
use Rattle.folder.specs.Table.{outcome}
use Rattle.model.specs.Layout.{bodies, record_size, record_count}
use Rattle.model.specs.Table.{folder_rows}

module _ (m : List ℕ) (e i : ℕ) where
  -- Causes 1 to 3 do not hold, and there is such a body and such a record.
  unfoldable pub record_there : Bool
  record_there = is_ok (outcome (folder_rows m)) && (ltb e bodies && ltb i (record_count m e))

  -- Where record i of body e starts in the folder, and how long it is. Where there is none: the empty part at the start.
  unfoldable pub view_start : ℕ
  view_start = pick record_there (start_of m e + record_size m e * i) 0

  unfoldable pub view_length : ℕ
  view_length = pick record_there (record_size m e) 0

  -- What the part holds.
  unfoldable pub view_part : List ℕ
  view_part = take view_length (drop view_start m)
