-- What the rules of the nodes stand on: rows 1 to 17 hold, and there are tables to look things up in.
-- Assumes nothing.
use Rattle.std.specs.Prelude.{ℕ, ◌≤◌, ◌≡◌, true, false, List, [], ◌∷◌, length, get_or, Result, MatchResult}
use Rattle.folder.specs.Table.{Rule, rule, rule_at, all_rules, first_broken}
use Rattle.folder.specs.declared.Cause.{Cause}
use Rattle.model.specs.Model.{Model, model_of}
use Rattle.model.specs.Valid.{Valid}
use Rattle.graph.specs.Simulation.{Simulation, node_count, simulation_of}
use Rattle.graph.specs.Rules.{A2, B1, B2, C3, C1, C2, value_rule}
use Rattle.graph.specs.Seconds.{second19, second21}
use Rattle.graph.specs.Valid.{RowsRight}
use Rattle.sums.specs.Tables.{Tables}

pub record RulesReady (m g values weights firsts : List ℕ) : Type 0 where
  pub model : Valid m
  pub rows : RowsRight (model_of m) g
  pub tables : Tables (model_of m) weights firsts
  -- The row has the value of each node.
  pub long : node_count (model_of m) g ≤ length values
  pub valued : (λ (k : ℕ). get_or values k 0) ≡ (simulation_of (model_of m) g).value

-- What a check of rules in their order answers: where all hold, what is P; else the first broken one.
abbrev pub Checked : {A : Type 0} → List Rule → (A → Type 0) → Result A Cause → Type 0
Checked rules P r = MatchResult r (λ x. (all_rules rules ≡ true) × P x) (λ c. (all_rules rules ≡ false) × (c ≡ first_broken rules))

-- The rules of node n by what they look at: rows 19 to 21 read the label; rows 22 to 25 do not.
module _ (m g : List ℕ) (n : ℕ) where
  abbrev M : Model
  M = model_of m

  abbrev G : Simulation
  G = simulation_of M g

  abbrev pub reading_rules : List Rule
  reading_rules = rule_at 19 (A2 M G n) (second19 M G n) ∷ rule 20 (B1 M G n) ∷ rule_at 21 (B2 M G n) (second21 M G n) ∷ []

  abbrev pub cover_rules : List Rule
  cover_rules = rule 22 (C3 M G n) ∷ rule 23 (C1 M G n) ∷ rule 24 (C2 M G n) ∷ rule 25 (value_rule M G G.value n) ∷ []
