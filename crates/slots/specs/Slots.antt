-- Request 2.1: an index of nodes by concrete label. `slots` says how many slots it has, `label n` is the concrete label of
-- node n.
-- Assumes nothing.
use Rattle.std.specs.Prelude.{ℕ, zero, suc, ◌+◌, ◌-◌, ◌%◌, Bool, true, false, not, ◌&&◌, List, [], ◌∷◌, get_or, set, ltb, eqb, ℤ}
use Rattle.folder.specs.Pick.{pick}
use Rattle.folder.specs.Fields.{field_limit}
use Rattle.folder.specs.Scan.{first_bad, all}
use Rattle.folder.specs.Tab.{tab}
use Rattle.whole.specs.Order.{eq_z}
use Rattle.hash.specs.Hash.{hash_of}

-- What an empty slot holds, and the answer where no node has the label.
abbrev pub no_node : ℕ
no_node = field_limit - 1

unfoldable pub same_state : List ℤ → List ℤ → Bool
same_state [] [] = true
same_state [] (y ∷ ys) = false
same_state (x ∷ xs) [] = false
same_state (x ∷ xs) (y ∷ ys) = eq_z x y && same_state xs ys

abbrev pub is_free : List ℕ → ℕ → Bool
is_free row p = eqb (get_or row p no_node) no_node

module _ (slots : ℕ) where
  -- The slot that is d after the first slot of the label x, round the end.
  unfoldable pub slot_from : List ℤ → ℕ → ℕ
  slot_from x d = (hash_of x % slots + d) % slots

  -- How far the next free slot is from the first slot of x.
  unfoldable pub free_from : List ℕ → List ℤ → ℕ
  free_from row x = first_bad (λ d. not (is_free row (slot_from x d))) slots

  -- Node n, whose label is x, enters.
  abbrev pub enter : List ℕ → List ℤ → ℕ → List ℕ
  enter row x n = set row (slot_from x (free_from row x)) n

module _ (label : ℕ → List ℤ) where
  -- Of n nodes the lowest with the label x, or none.
  abbrev pub first_with : ℕ → List ℤ → ℕ
  first_with n x = first_bad (λ i. not (same_state (label i) x)) n

  unfoldable pub lowest : ℕ → List ℤ → ℕ
  lowest n x = pick (ltb (first_with n x) n) (first_with n x) no_node

  -- No node below n has its label.
  unfoldable pub is_new : ℕ → Bool
  is_new n = all (λ i. not (same_state (label i) (label n))) n

  -- The slots after nodes 0 to n − 1 have entered, each only if its label is new.
  unfoldable pub slots_after : ℕ → ℕ → List ℕ
  slots_after slots zero = tab slots (λ p. no_node)
  slots_after slots (suc n) = pick (is_new n) (enter slots (slots_after slots n) (label n) n) (slots_after slots n)

  -- A look-up goes on past a slot that holds a node with another label; it stops at a free slot, or at the label.
  unfoldable pub pass_on : ℕ → List ℕ → List ℤ → ℕ → Bool
  pass_on slots row x d = not (is_free row (slot_from slots x d)) && not (same_state (label (get_or row (slot_from slots x d) no_node)) x)

  -- Where the look-up of x stops.
  unfoldable pub stop_at : ℕ → List ℕ → List ℤ → ℕ
  stop_at slots row x = slot_from slots x (first_bad (pass_on slots row x) slots)
