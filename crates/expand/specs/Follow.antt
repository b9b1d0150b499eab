-- B2 with any test of the labels: with the rule's own, it is the rule; with the flags of the row, it is what the code can
-- tell before it asks anything.
-- Assumes nothing.
use Rattle.std.specs.Prelude.{ℕ, ◌+◌, ◌<◌, ◌≤◌, ◌≡◌, Bool, true, false, not, ◌&&◌, List, ltb, eqb, ℤ, Option, Some, None, Result, MatchResult, ⊤}
use Rattle.folder.specs.Pick.{pick, implies}
use Rattle.folder.specs.Scan.{first_bad, all}
use Rattle.expressions.specs.Limits.{no_variable}
use Rattle.expressions.specs.Mentions.{lacked}
use Rattle.expressions.specs.Reading.{is_true, is_false}
use Rattle.states.specs.Needed.{is_up}
use Rattle.model.specs.Model.{Model, model_of, first_record}
use Rattle.graph.specs.Simulation.{Simulation, simulation_of, edge_at}
use Rattle.graph.specs.Labels.{tracks, truth_of, reading_of}
use Rattle.graph.specs.Seconds.{open_guard}
use Rattle.graph.specs.Rules.{result_is}
use Rattle.expand.specs.Tests.{reads_at}

-- The target of node n reads true, or false, as it is due.
abbrev pub target_reads : Model → Simulation → ℕ → Bool → Bool
target_reads M G n due = pick due (is_true (truth_of M G n M.target)) (is_false (truth_of M G n M.target))

-- What a rule with a second place answers: that it holds, or that place.
abbrev pub RuleAnswer : Bool → ℕ → Result ⊤ ℕ → Type 0
RuleAnswer holds second r = MatchResult r (λ _. holds ≡ true) (λ v. (holds ≡ false) × (v ≡ second))

-- The guards of node n all read known; or what the first that does not lacks.
abbrev pub GuardsKnown : Model → Simulation → ℕ → Result ⊤ ℕ → Type 0
GuardsKnown M G n r = RuleAnswer (eqb (open_guard M G n) M.commands) (lacked (reading_of M G n (M.guard (open_guard M G n)))) r

-- The target reads as it is due; or what it lacks.
abbrev pub TargetKept : Model → Simulation → ℕ → Bool → Result ⊤ ℕ → Type 0
TargetKept M G n due r = RuleAnswer (target_reads M G n due) (lacked (reading_of M G n M.target)) r

module _ (M : Model) (G : Simulation) where
  -- Variable v of the successor s by branch record r: where s tracks it, what is assigned is flagged and is s's label value.
  unfoldable pub label_flagged : List ℕ → List ℤ → ℕ → ℕ → ℕ → Bool
  label_flagged known state r s v = implies (tracks G s v) (reads_at known state (M.assigned r v) (G.label s v))

  module _ (n : ℕ) (label : ℕ → ℕ → ℕ → Bool) where
    unfoldable pub follows_by : ℕ → ℕ → Bool
    follows_by r s = all (result_is M G n r s) M.variables && all (label r s) M.variables

    abbrev pub successor_by : ℕ → ℕ → Bool
    successor_by e b = follows_by (first_record M (G.command n e) + b) (G.successor n e b)

    unfoldable pub edge_by : ℕ → Bool
    edge_by e = all (successor_by e) (M.branches (G.command n e))

    abbrev pub edges_by : Bool
    edges_by = all edge_by (G.edges n)

    -- The first edge and branch that do not follow, the branch's record and its successor.
    abbrev pub bad_edge_by : ℕ
    bad_edge_by = first_bad edge_by (G.edges n)

    abbrev pub bad_branch_by : ℕ
    bad_branch_by = first_bad (successor_by bad_edge_by) (M.branches (G.command n bad_edge_by))

    abbrev pub bad_record_by : ℕ
    bad_record_by = first_record M (G.command n bad_edge_by) + bad_branch_by

    abbrev pub bad_successor_by : ℕ
    bad_successor_by = G.successor n bad_edge_by bad_branch_by

    -- Which variable breaks it.
    unfoldable pub apart_in : ℕ → ℕ → ℕ
    apart_in r s = pick (all (result_is M G n r s) M.variables) (first_bad (label r s) M.variables) no_variable

    abbrev pub second_by : ℕ
    second_by = apart_in bad_record_by bad_successor_by

-- The flags of a row, over two folders' bytes.
abbrev pub flags_of : List ℕ → List ℕ → List ℕ → List ℤ → ℕ → ℕ → ℕ → Bool
flags_of m g known state = label_flagged (model_of m) (simulation_of (model_of m) g) known state

-- A walk over the edges of node n has come to edge e, which stands at p: by the test, those before it follow.
pub record FollowedTo (m g : List ℕ) (n : ℕ) (label : ℕ → ℕ → ℕ → Bool) (e p : ℕ) : Type 0 where
  pub within : e ≤ (simulation_of (model_of m) g).edges n
  pub before : (k : ℕ) → k < e → edge_by (model_of m) (simulation_of (model_of m) g) n label k ≡ true
  pub stands : p ≡ edge_at (model_of m) g n e

-- By the test an edge does not follow: the first that does not, which stands at `at`, because of this branch record and this
-- variable.
pub record StoppedAt (m g : List ℕ) (n : ℕ) (label : ℕ → ℕ → ℕ → Bool) (edge at branch second : ℕ) : Type 0 where
  pub broken : edges_by (model_of m) (simulation_of (model_of m) g) n label ≡ false
  pub by-record : branch ≡ bad_record_by (model_of m) (simulation_of (model_of m) g) n label
  pub by-variable : second ≡ second_by (model_of m) (simulation_of (model_of m) g) n label
  pub to : FollowedTo m g n label edge at

-- The entry to ask next, if branch record r does not follow because of variable v.
unfoldable pub open_entry : Model → List ℕ → ℕ → ℕ → Option ℕ
open_entry M known r v = pick (ltb v M.variables && not (is_up known (M.assigned r v))) (Some (M.assigned r v)) None
