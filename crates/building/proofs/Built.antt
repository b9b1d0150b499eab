-- Every graph built keeps all that the graph check asks past the folder's rows, after any number of rounds; and no value rises.
-- Assumes nothing.
use Prim.Native.Nat.{ℕ, suc, ◌<◌, ◌≤◌}
use native.Mathlib.Omega.{arith}
use Rattle.model.specs.Model.{Model}
use Rattle.model.specs.Valid.{ModelRight}
use Rattle.graph.specs.Simulation.{Simulation}
use Rattle.graph.specs.Valid.{RightValue}
use Rattle.building.specs.Building.{Building, as_simulation}
use Rattle.building.specs.Moves.{Limit}
use Rattle.building.specs.Kept.{Kept, Mended}
use Rattle.building.specs.Built.{built, values_of, built_graph, Accepted}
use Rattle.building.proofs.Ending.{built-kept, built-mended}
use Rattle.building.proofs.Ruled.{content-right, rules-right}
use Rattle.building.proofs.ValueLaws.{rounds-ruled, rounds-le, rounds-fall}

module _ (M : Model) (X : ModelRight M) (P : Limit) (some : 1 ≤ P.most) where
  abbrev B : Building
  B = built M P

  K : Kept M P.most B
  K = built-kept M P X some

  F : Mended M B
  F = built-mended M P X some

  -- The rounds go over the graph with other values.
  abbrev Z : Simulation
  Z = as_simulation M B (λ n. 0)

  pub commands-known : (n : ℕ) → n < Z.nodes → (e : ℕ) → e < Z.edges n → Z.command n e < M.commands
  commands-known n l e h = ((content-right M P B K (λ n. 0) (λ n. omega arith)).edges n l e h).command

  -- No value rises from round to round.
  pub values-fall : (k n : ℕ) → values_of M B (suc k) n ≤ values_of M B k n
  values-fall = rounds-fall M X Z commands-known

  module _ (k : ℕ) where
    value-right : (n : ℕ) → n < B.nodes → RightValue M (built_graph M P k) (values_of M B k) n
    value-right n l =
        let r = rounds-ruled M X Z commands-known k n l in
        record { waiting = r.waiting; target = r.target; expanded = r.expanded; covered = r.covered }

    pub built-accepted : Accepted M P (built_graph M P k)
    built-accepted = record {
      some = K.some;
      few = K.few;
      content = content-right M P B K (values_of M B k) (rounds-le M X Z commands-known k);
      rules = rules-right M P B K F (values_of M B k) value-right;
    }
