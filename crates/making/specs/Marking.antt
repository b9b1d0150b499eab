-- Which nodes are marked where a label grows; and a node whose kind may change.
-- Assumes nothing.
use Rattle.std.specs.Prelude.{ℕ, ◌<◌, ◌≤◌, ◌≡◌, Bool, false, ◌&&◌, List, eqb, length, get_or}
use Rattle.folder.specs.Pick.{pick}
use Rattle.folder.specs.Contents.{field}
use Rattle.model.specs.Limits.{most_variables}
use Rattle.graph.specs.Limits.{most_nodes}
use Rattle.graph.specs.Simulation.{node_size}
use Rattle.held.specs.Held.{kind_field, cover_field, Whole}
use Rattle.work.specs.declared.Work.{Work}

abbrev pub is_under : ℕ → List ℕ → ℕ → ℕ → Bool
is_under vars nb n i = eqb (field (node_size vars) nb i kind_field) 2 && eqb (field (node_size vars) nb i cover_field) n

abbrev pub mark_if : Bool → ℕ → ℕ
mark_if hit mark = pick hit 1 mark

-- The mark of node k, once those that n covers are marked.
abbrev pub mark_under : ℕ → List ℕ → ℕ → ℕ → ℕ → ℕ
mark_under vars nb n k mark = mark_if (is_under vars nb n k) mark

-- Whoever is unmarked was so, is neither n nor its parent, and is not covered by n, if it is below `end`; marks past these stay.
pub record MarkedReach (vars : ℕ) (nb : List ℕ) (n parent end : ℕ) (old new : List ℕ) : Type 0 where
  pub long : length new ≡ length old
  pub unmarked : (k : ℕ) → get_or new k 0 ≡ 0 → (get_or old k 0 ≡ 0) × (k ≡ n → ⊥) × (k ≡ parent → ⊥) × (k < end → is_under vars nb n k ≡ false)
  pub same : (k : ℕ) → (k ≡ n → ⊥) → (k ≡ parent → ⊥) → end ≤ k → get_or new k 0 ≡ get_or old k 0

-- Node n is there, with its record and its mark.
pub record Present (vars : ℕ) (w : Work) (nb marks : List ℕ) (n : ℕ) : Type 0 where
  pub variables : vars ≤ most_variables
  pub within : n < w.nodes
  pub few : w.nodes ≤ most_nodes
  pub whole : Whole vars nb n
  pub marks-long : most_nodes ≤ length marks
