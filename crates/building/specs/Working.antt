-- Document 02, 2.5: what the builder knows besides the graph, so that it need not look at all nodes after each move. Each is a
-- number for a node, or for all.
-- Assumes nothing.
use Rattle.std.specs.Prelude.{ℕ, ◌+◌, ◌<◌, ◌≤◌, ◌≡◌, true, false, None}
use Rattle.mdp.specs.Kinds.{Kind}
use Rattle.expressions.specs.Reading.{has_bit}
use Rattle.model.specs.Model.{Model, first_record}
use Rattle.building.specs.Building.{Building, enabled, births, child_by}
use Rattle.building.specs.Moves.{truth_wants, number_wants, guards_want, can_cover, repair}

module _ (M : Model) (B : Building) where
  -- The set `read x` has variables that the parent of x reads known for it.
  pub record ReadRight (read : ℕ → ℕ) : Type 0 where
    pub is : (i : ℕ) → i < B.nodes → B.kind i ≡ Kind.expanded → (c : ℕ) → c < M.commands → enabled M (B.state i) c ≡ true → (b : ℕ) → b < M.branches c
        → (v : ℕ) → has_bit (read (child_by M B i c b)) v ≡ true → number_wants M B i (M.assigned (first_record M c + b) v) ≡ None

  -- `parent x` is the node whose child x is.
  pub record ParentRight (parent : ℕ → ℕ) : Type 0 where
    pub is : (i : ℕ) → i < B.nodes → B.kind i ≡ Kind.expanded → (j : ℕ) → j < births M (B.state i) → parent (B.child i + j) ≡ i

  -- The guards and the target of expanded nodes read known, but for the node `fresh`, which was opened last.
  pub record Settled (fresh : ℕ) : Type 0 where
    pub is : (i : ℕ) → i < B.nodes → (i ≡ fresh → ⊥) → B.kind i ≡ Kind.expanded → (guards_want M B i ≡ None) × (truth_wants M B i M.target ≡ None)

  -- No node below `hint i` can cover node i, but for that one.
  pub record HintRight (hint : ℕ → ℕ) (fresh : ℕ) : Type 0 where
    pub within : (i : ℕ) → i < B.nodes → hint i ≤ B.nodes
    pub is : (i : ℕ) → i < B.nodes → (c : ℕ) → c < hint i → c < B.nodes → (c ≡ fresh → ⊥) → can_cover M B i c ≡ false

  -- Every node that c covers is below `reach c`.
  pub record ReachRight (reach : ℕ → ℕ) : Type 0 where
    pub is : (i : ℕ) → i < B.nodes → B.kind i ≡ Kind.covered → i < reach (B.cover i)

  -- Only nodes that are marked have a broken rule, and marks lie from `low` to below `high`.
  pub record MarkRight (mark : ℕ → ℕ) (low high : ℕ) : Type 0 where
    pub is : (i : ℕ) → i < B.nodes → mark i ≡ 0 → repair M B i ≡ None
    pub below : (i : ℕ) → i < low → mark i ≡ 0
    pub above : (i : ℕ) → high ≤ i → mark i ≡ 0

  -- No node below `next` waits.
  pub record NextRight (next : ℕ) : Type 0 where
    pub is : (i : ℕ) → i < B.nodes → i < next → B.kind i ≡ Kind.waiting → ⊥
