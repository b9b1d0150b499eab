-- Document 02, 2.5 and 2.6: what the builder's loop holds.
-- Assumes nothing.
use Rattle.std.specs.Prelude.{ℕ, ◌+◌, ◌*◌, ◌<◌, ◌≤◌, min, max, ◌≡◌, List, eqb, length, Option, None, Some}
use Rattle.folder.specs.Pick.{pick}
use Rattle.model.specs.Layout.{variable_count}
use Rattle.model.specs.Model.{model_of}
use Rattle.graph.specs.Limits.{least_bytes, most_bytes, most_nodes}
use Rattle.graph.specs.Simulation.{node_size}
use Rattle.building.specs.Building.{Building}
use Rattle.building.specs.Length.{graph_length}
use Rattle.building.specs.Moves.{Limit, Move, track, adopt, drop, cover_by, reach, expand, next_move, moved}
use Rattle.building.specs.Kept.{Mended}
use Rattle.building.specs.Built.{Reached}
use Rattle.building.specs.Counts.{Walked, Counts}
use Rattle.building.specs.Working.{ReadRight, ParentRight, Settled, HintRight, ReachRight, MarkRight, NextRight}
use Rattle.put.specs.Put.{Stays}
use Rattle.held.specs.Held.{held_in}
use Rattle.wants.specs.Standing.{read_in, parent_in, hint_in, row_in, Held}
use Rattle.work.specs.declared.Work.{Work}

-- At most 4,096 nodes, and so many bytes.
abbrev pub limit_of : ℕ → Limit
limit_of longest = record { most = most_nodes; longest = longest }

-- The graph that the records hold.
abbrev pub graph_in : List ℕ → Work → List ℕ → Building
graph_in m w nb = held_in m w.nodes nb

-- The bytes that it may take are lent, and it takes no more.
pub record Lent (m : List ℕ) (longest : ℕ) (w : Work) (nb : List ℕ) : Type 0 where
  pub counted : w.len ≡ graph_length (model_of m) (graph_in m w nb)
  pub short : w.len ≤ longest
  pub lent : longest ≤ least_bytes + length nb
  pub limit : longest ≤ most_bytes

-- What is known besides the graph.
pub record Known (m : List ℕ) (w : Work) (nb marks reaches begins : List ℕ) : Type 0 where
  pub read : ReadRight (model_of m) (graph_in m w nb) (read_in m nb)
  pub parents : ParentRight (model_of m) (graph_in m w nb) (parent_in m nb)
  pub settled : Settled (model_of m) (graph_in m w nb) w.fresh
  pub hints : HintRight (model_of m) (graph_in m w nb) (hint_in m nb) w.fresh
  pub covering : ReachRight (model_of m) (graph_in m w nb) (row_in reaches)
  pub marked : MarkRight (model_of m) (graph_in m w nb) (row_in marks) w.low w.high
  pub next : NextRight (model_of m) (graph_in m w nb) w.next
  pub counts : Counts (model_of m) (graph_in m w nb) w.waiting (row_in begins)
  pub window : (w.low ≤ w.high) × (w.high ≤ w.nodes) × (w.next ≤ w.nodes)
  pub fresh : w.fresh ≤ most_nodes
  pub bounds : ((i : ℕ) → i < w.nodes → parent_in m nb i < w.nodes) × ((x : ℕ) → row_in reaches x ≤ w.nodes)
  pub rows : (most_nodes ≤ length marks) × (most_nodes ≤ length reaches) × (most_nodes ≤ length begins)

pub record Working (m : List ℕ) (longest : ℕ) (w : Work) (nb marks reaches begins : List ℕ) : Type 0 where
  pub held : Held m w.nodes nb
  pub reached : Reached (model_of m) (limit_of longest) (graph_in m w nb)
  pub lent : Lent m longest w nb
  pub known : Known m w nb marks reaches begins

-- ---- what looking for the next move leaves

-- The same graph; only what is marked as read, and hints, may have changed.
pub record Looked (m : List ℕ) (w : Work) (old new : List ℕ) : Type 0 where
  pub held : graph_in m w new ≡ graph_in m w old
  pub read : ReadRight (model_of m) (graph_in m w new) (read_in m new)
  pub parents : (i : ℕ) → parent_in m new i ≡ parent_in m old i
  pub stays : Stays 0 (node_size (variable_count m) * w.nodes) old new

-- Node n is to be repaired: no node below it is marked.
pub record ToRepair (m : List ℕ) (w : Work) (nb marks : List ℕ) (n : ℕ) : Type 0 where
  pub hints : HintRight (model_of m) (graph_in m w nb) (hint_in m nb) w.fresh
  pub marked : MarkRight (model_of m) (graph_in m w nb) (row_in marks) n w.high

-- No rule is broken, no node below n waits, and all hints hold.
pub record ToGrow (m : List ℕ) (w : Work) (nb marks : List ℕ) (n : ℕ) : Type 0 where
  pub mended : Mended (model_of m) (graph_in m w nb)
  pub hints : HintRight (model_of m) (graph_in m w nb) (hint_in m nb) w.nodes
  pub marked : MarkRight (model_of m) (graph_in m w nb) (row_in marks) w.high w.high
  pub next : NextRight (model_of m) (graph_in m w nb) n

-- By the move.
abbrev pub ToMake : List ℕ → Work → List ℕ → List ℕ → Option Move → Type 0
ToMake m w nb marks None = ToGrow m w nb marks w.next
ToMake m w nb marks (Some (track n v)) = ToRepair m w nb marks n
ToMake m w nb marks (Some (adopt n)) = ToRepair m w nb marks n
ToMake m w nb marks (Some (drop n)) = ToRepair m w nb marks n
ToMake m w nb marks (Some (cover_by n c)) = ToGrow m w nb marks n
ToMake m w nb marks (Some (reach n)) = ToGrow m w nb marks n
ToMake m w nb marks (Some (expand n)) = ToGrow m w nb marks n

-- ---- a move made

-- The move `mv` is the next one, and can be made.
pub record Ready (m : List ℕ) (longest : ℕ) (w : Work) (nb marks reaches begins : List ℕ) (mv : Option Move) : Type 0 where
  pub held : Held m w.nodes nb
  pub reached : Reached (model_of m) (limit_of longest) (graph_in m w nb)
  pub lent : Lent m longest w nb
  pub next : mv ≡ next_move (model_of m) (limit_of longest) (graph_in m w nb)
  pub read : ReadRight (model_of m) (graph_in m w nb) (read_in m nb)
  pub parents : ParentRight (model_of m) (graph_in m w nb) (parent_in m nb)
  pub settled : Settled (model_of m) (graph_in m w nb) w.fresh
  pub covering : ReachRight (model_of m) (graph_in m w nb) (row_in reaches)
  pub waits : NextRight (model_of m) (graph_in m w nb) w.next
  pub counts : Counts (model_of m) (graph_in m w nb) w.waiting (row_in begins)
  pub window : (w.high ≤ w.nodes) × (w.next ≤ w.nodes) × (w.fresh ≤ most_nodes)
  pub bounds : ((i : ℕ) → i < w.nodes → parent_in m nb i < w.nodes) × ((x : ℕ) → row_in reaches x ≤ w.nodes)
  pub rows : (most_nodes ≤ length marks) × (most_nodes ≤ length reaches) × (most_nodes ≤ length begins)
  pub to_make : ToMake m w nb marks mv

-- It is made.
pub record Made (m : List ℕ) (longest : ℕ) (w : Work) (nb : List ℕ) (mv : Option Move) (w' : Work) (nb' marks' reaches' begins' : List ℕ) : Type 0 where
  pub is : graph_in m w' nb' ≡ moved (model_of m) mv (graph_in m w nb)
  pub working : Working m longest w' nb' marks' reaches' begins'
  pub grows : w.nodes ≤ w'.nodes
  pub stays : Stays 0 (node_size (variable_count m) * w'.nodes) nb nb'

-- ---- the numbers after a move

-- Node n, which waited, has been covered or opened: it alone is marked. `fresh` is the node opened last, if one was.
abbrev pub grown_work : (nodes len fresh waiting n : ℕ) → Work
grown_work nodes len fresh waiting n = record { nodes = nodes; len = len; fresh = fresh; low = n; high = n + 1; next = n; waiting = waiting }

-- Node n waits again, and is marked no longer.
abbrev pub dropped_work : Work → ℕ → Work
dropped_work w n = record { nodes = w.nodes; len = w.len; fresh = w.fresh; low = n; high = max w.high n; next = min w.next n; waiting = w.waiting + 1 }

-- Node n's label has grown: it is marked, and so are its parent and what it covers, which is below `end`.
abbrev pub labelled_work : Work → (n parent end : ℕ) → Work
labelled_work w n parent end = record {
  nodes = w.nodes;
  len = w.len;
  fresh = w.fresh;
  low = pick (eqb end 0) (min n parent) 0;
  high = max w.high (max (max n parent + 1) end);
  next = w.next;
  waiting = w.waiting;
}

-- What a graph that is built comes to, in the bytes that are lent.
pub record Grown (m : List ℕ) (longest nodes len : ℕ) (nb begins : List ℕ) : Type 0 where
  pub held : Held m nodes nb
  pub counted : len ≡ graph_length (model_of m) (held_in m nodes nb)
  pub walked : Walked (model_of m) (held_in m nodes nb) (row_in begins)
  pub short : len ≤ longest
  pub lent : longest ≤ least_bytes + length nb
  pub limit : longest ≤ most_bytes
