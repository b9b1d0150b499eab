-- Document 02, 2.6: what the builder keeps in its working state, so that it need not count again: how many nodes wait, and
-- where each node's edges begin, or would begin if it has none.
-- Assumes nothing.
use Rattle.std.specs.Prelude.{ℕ, ◌+◌, ◌<◌, ◌≡◌, leb, ltb}
use Rattle.folder.specs.Pick.{pick}
use Rattle.model.specs.Model.{Model}
use Rattle.building.specs.Building.{Building}
use Rattle.building.specs.Length.{edges_before, waiting_count}

-- The edges of each node begin at `begin`, by walking them.
abbrev pub Walked : Model → Building → (ℕ → ℕ) → Type 0
Walked M B begin = (i : ℕ) → i < B.nodes → begin i ≡ edges_before M B i

-- Both are what counting the nodes and walking the edges give.
pub record Counts (M : Model) (B : Building) (waiting : ℕ) (begin : ℕ → ℕ) : Type 0 where
  pub counted : waiting ≡ waiting_count B
  pub walked : Walked M B begin

-- Where the edges of node i begin once node n, one of `nodes`, is expanded: its edges have so many bytes, and all edges end at
-- `end` then. Up to n as before; after it, later by its edges; those of each of the `births` new nodes at the end.
unfoldable pub begin_after : (n nodes births bytes end : ℕ) → (ℕ → ℕ) → ℕ → ℕ
begin_after n nodes births bytes end begin i =
    pick (leb i n) (begin i) (pick (ltb i nodes) (begin i + bytes) (pick (ltb i (nodes + births)) end (begin i)))
