-- The concrete labels of a graph folder's nodes, by the bytes of its node body.
-- Assumes nothing.
use Rattle.std.specs.Prelude.{ℕ, ◌+◌, ◌/◌, ◌<◌, ◌≤◌, ◌≡◌, Bool, not, ◌&&◌, List, get_or, set, length, ltb, eqb, ℤ, pos}
use Rattle.folder.specs.Pick.{pick}
use Rattle.folder.specs.Fields.{field_limit}
use Rattle.folder.specs.Contents.{signed_field}
use Rattle.folder.specs.Tab.{tab}
use Rattle.whole.specs.Order.{eq_z}
use Rattle.graph.specs.Simulation.{node_size}
use Rattle.hash.specs.Hash.{hash_of}
use Rattle.slots.specs.Slots.{no_node, same_state, is_free, stop_at}

-- Node n of a graph over so many variables, whose node body is nb.
abbrev pub label_in : ℕ → List ℕ → ℕ → List ℤ
label_in vars nb n = tab vars (λ v. signed_field (node_size vars) nb n (6 + v))

-- Its value of variable v is the one in x.
abbrev pub value_is : ℕ → List ℕ → ℕ → List ℤ → ℕ → Bool
value_is vars nb n x v = eq_z (signed_field (node_size vars) nb n (6 + v)) (get_or x v (pos 0))

-- Half of a label's hash: the half that a slot's number does not tell.
unfoldable pub high_of : List ℤ → ℕ
high_of x = hash_of x / field_limit

-- What the code holds of each node, so that it seldom compares labels. No number of a node is the mark.
pub record Hashed (vars : ℕ) (nb hashes : List ℕ) : Type 0 where
  pub few : length hashes ≤ no_node
  pub is : (n : ℕ) → n < length hashes → get_or hashes n 0 ≡ high_of (label_in vars nb n)

-- Node n is known to have another label than one with the half h.
abbrev pub other_hash : List ℕ → ℕ → ℕ → Bool
other_hash hashes n h = ltb n (length hashes) && not (eqb (get_or hashes n 0) h)

-- A slot that holds r is passed in a look-up of x.
abbrev pub passes : ℕ → List ℕ → ℕ → List ℤ → Bool
passes vars nb r x = not (eqb r no_node) && not (same_state (label_in vars nb r) x)

-- The slot where the look-up of x stops, of a row of as many slots as there are.
abbrev pub stop_in : ℕ → List ℕ → List ℕ → List ℤ → ℕ
stop_in vars nb row x = stop_at (label_in vars nb) (length row) row x

-- Node n enters where the look-up of its label stops, if that slot is free.
unfoldable pub entering : ℕ → List ℕ → ℕ → List ℕ → List ℕ
entering vars nb n row = pick (is_free row (stop_in vars nb row (label_in vars nb n))) (set row (stop_in vars nb row (label_in vars nb n)) n) row
