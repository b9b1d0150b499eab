-- Document 02, 2.5: covers, by the records that hold the graph while it is built.
-- Assumes nothing.
use Rattle.std.specs.Prelude.{ℕ, ◌+◌, ◌*◌, ◌<◌, ◌≤◌, ◌≡◌, Bool, true, false, ◌&&◌, List, ltb, Option, None, Some}
use Rattle.mdp.specs.Kinds.{Kind}
use Rattle.folder.specs.Pick.{pick, implies}
use Rattle.folder.specs.Scan.{all}
use Rattle.folder.specs.Fields.{field_limit, signed16}
use Rattle.folder.specs.Contents.{field}
use Rattle.whole.specs.Order.{eq_z}
use Rattle.expressions.specs.Reading.{has_bit}
use Rattle.graph.specs.Simulation.{node_size, kind_of}
use Rattle.building.specs.Building.{is_open}
use Rattle.put.specs.Put.{Stays}
use Rattle.held.specs.Held.{kind_field, cover_field, tracked_field, state_field, field_count}
use Rattle.covers.specs.declared.Fault.{Fault}
use Rattle.covers.specs.declared.Fault.TheVariants.{Apart, Untracked}

-- A kind that waits.
abbrev pub is_waiting : Kind → Bool
is_waiting Kind.waiting = true
is_waiting Kind.expanded = false
is_waiting Kind.covered = false
is_waiting Kind.target = false

module _ (vars : ℕ) (nb : List ℕ) where
  abbrev pub at : ℕ → ℕ → ℕ
  at n f = field (node_size vars) nb n f

  -- The label of node k contains the concrete state of node n; and node c can cover node n.
  abbrev pub same_at : ℕ → ℕ → ℕ → Bool
  same_at k n v = implies (has_bit (at k tracked_field) v) (eq_z (signed16 (at k (state_field + v))) (signed16 (at n (state_field + v))))

  unfoldable pub agrees_in : ℕ → ℕ → Bool
  agrees_in k n = all (same_at k n) vars

  unfoldable pub can_cover_in : ℕ → ℕ → Bool
  can_cover_in n c = is_open (kind_of (at c kind_field)) && agrees_in c n

  unfoldable pub waits_in : ℕ → Bool
  waits_in n = is_waiting (kind_of (at n kind_field))

  -- What the covered node n breaks first: 23 is `Apart`, 24 `Untracked`.
  abbrev pub adopted_in : ℕ → Bool
  adopted_in n = all (λ v. implies (has_bit (at (at n cover_field) tracked_field) v) (has_bit (at n tracked_field) v)) vars

  unfoldable pub fault_in : ℕ → Option Fault
  fault_in n = pick (agrees_in (at n cover_field) n) (pick (adopted_in n) None (Some Untracked)) (Some Apart)

  -- Node i's hint once node n can cover: not above n, if n contains i's state.
  abbrev pub hint_at : ℕ → ℕ
  hint_at i = at i (state_field + vars)

  unfoldable pub lowered_hint : ℕ → ℕ → ℕ
  lowered_hint n i = pick (ltb n (hint_at i) && agrees_in n i) n (hint_at i)

-- A node from `next` on waits, and none below it does.
pub record SomeWaits (vars : ℕ) (nb : List ℕ) (next : ℕ) : Type 0 where
  pub node : ℕ
  pub later : next ≤ node
  pub within : node < field_limit
  pub waits : waits_in vars nb node ≡ true
  pub below : (i : ℕ) → i < next → waits_in vars nb i ≡ false

-- Node n waits, and none below it does.
pub record LowestWaits (vars : ℕ) (nb : List ℕ) (n : ℕ) : Type 0 where
  pub waits : waits_in vars nb n ≡ true
  pub below : (i : ℕ) → i < n → waits_in vars nb i ≡ false

-- The hints of the first i nodes are lowered, and nothing else is changed.
pub record Lowered (vars n i : ℕ) (old new : List ℕ) : Type 0 where
  pub stays : Stays 0 (node_size vars * i) old new
  pub hints : (k : ℕ) → k < i → hint_at vars new k ≡ lowered_hint vars old n k
  pub later : (k : ℕ) → i ≤ k → hint_at vars new k ≡ hint_at vars old k
  pub others : (k f : ℕ) → f < field_count vars → (f ≡ state_field + vars → ⊥) → field (node_size vars) new k f ≡ field (node_size vars) old k f
