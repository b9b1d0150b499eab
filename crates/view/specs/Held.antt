-- The view as a struct that holds the model folder and where its bodies start.
-- Assumes nothing.
use Rattle.std.specs.Prelude.{ℕ, ◌+◌, ◌≡◌, List, length}
use Rattle.std.specs.Borrow.{Bor}
use Rattle.view.specs.Starts.{starts_of, place_in, part_in}
use Rattle.view.specs.declared.View.{View}

-- The struct that holds the folder m and these starts.
abbrev pub view_of : Bor (List ℕ) → List ℕ → View
view_of m starts = record { model = m; starts = starts }

-- The struct is the view of the folder m: it holds m and the starts of its bodies.
abbrev pub Views : Bor (List ℕ) → View → Type 0
Views m v = v ≡ view_of m (starts_of m.now)

-- r is record i of body e of the folder m by these starts: what it holds, and where in m it stands.
pub record Looked (m : Bor (List ℕ)) (starts : List ℕ) (e i : ℕ) (r : Bor (List ℕ)) : Type 0 where
  pub bytes : r.now ≡ part_in m.now starts e i
  pub place : r.ref_ptr ≡ (m.ref_ptr.0, place_in (length m.now) starts e i + m.ref_ptr.1)
