-- Document 01, "Folders": the view of a model folder by where its bodies start.
-- Assumes nothing.
use Rattle.std.specs.Prelude.{ℕ, ◌+◌, ◌-◌, ◌*◌, ◌/◌, Bool, ◌&&◌, List, ltb, leb, length, get_or, take, drop, is_ok}
use Rattle.folder.specs.Pick.{pick}
use Rattle.folder.specs.Contents.{start_of}
use Rattle.folder.specs.Tab.{tab}
use Rattle.folder.specs.Table.{outcome}
use Rattle.model.specs.Layout.{bodies, select, branch_size}
use Rattle.model.specs.Table.{folder_rows}

-- Where the bodies start, from the contents. Where one of causes 1 to 3 holds, each starts at the folder's end: so none
-- has a record.
unfoldable pub starts_of : List ℕ → List ℕ
starts_of m = pick (is_ok (outcome (folder_rows m))) (tab bodies (start_of m)) (tab bodies (λ _. length m))

-- A folder of n bytes, and starts of its bodies, whatever they are.
module _ (n : ℕ) (starts : List ℕ) where
  -- Where body e starts. It ends where the next one starts, and the last one with the folder.
  unfoldable pub start_in : ℕ → ℕ
  start_in e = get_or starts e n

  unfoldable pub bytes_in : ℕ → ℕ
  bytes_in e = start_in (e + 1) - start_in e

  -- Bytes of a record of body e: the variables have 6 each.
  unfoldable pub size_in : ℕ → ℕ
  size_in e = select e 4 6 8 4 (branch_size (bytes_in 1 / 6))

  -- There is such a body, it ends within the folder, and it has such a record.
  unfoldable pub is_in : ℕ → ℕ → Bool
  is_in e i = ltb e bodies && (leb (start_in (e + 1)) n && ltb i (bytes_in e / size_in e))

  -- Where record i of body e starts in the folder, and its length. Where there is none: the empty part at the start.
  unfoldable pub place_in : ℕ → ℕ → ℕ
  place_in e i = pick (is_in e i) (start_in e + size_in e * i) 0

  unfoldable pub length_in : ℕ → ℕ → ℕ
  length_in e i = pick (is_in e i) (size_in e) 0

-- What the part holds.
unfoldable pub part_in : List ℕ → List ℕ → ℕ → ℕ → List ℕ
part_in m starts e i = take (length_in (length m) starts e i) (drop (place_in (length m) starts e i) m)
