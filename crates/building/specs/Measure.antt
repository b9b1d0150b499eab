-- Building ends: a number that falls at each move of the builder.
-- Assumes nothing.
use Rattle.std.specs.Prelude.{ℕ, ◌+◌, ◌*◌, Bool, ltb}
use Rattle.mdp.specs.Sums.{sum}
use Rattle.mdp.specs.Kinds.{Kind}
use Rattle.folder.specs.Pick.{pick}
use Rattle.expressions.specs.Reading.{has_bit}
use Rattle.model.specs.Model.{Model}
use Rattle.building.specs.Building.{Building, contains}
use Rattle.building.specs.Moves.{Limit}

-- How many variables a set lacks.
unfoldable pub lacks : Model → ℕ → ℕ
lacks M t = sum M.variables (λ v _. pick (has_bit t v) 0 1)

-- What a node has before it: by its kind, and a covered one by whether its cover contains it.
abbrev pub weight : Kind → Bool → ℕ
weight Kind.waiting b = 2
weight Kind.expanded b = 0
weight Kind.covered b = pick b 1 3
weight Kind.target b = 0

module _ (M : Model) (B : Building) where
  -- A node that is not there yet has all before it.
  unfoldable pub due : ℕ → ℕ
  due i = pick (ltb i B.nodes) (weight (B.kind i) (contains M B (B.cover i) (B.state i))) 3

  unfoldable pub untracked : ℕ → ℕ
  untracked i = pick (ltb i B.nodes) (lacks M (B.tracked i)) M.variables

-- To track one variable more outweighs whatever it undoes.
unfoldable pub measure : Model → Limit → Building → ℕ
measure M P B = (3 * P.most + 1) * sum P.most (λ i _. untracked M B i) + sum P.most (λ i _. due M B i)
