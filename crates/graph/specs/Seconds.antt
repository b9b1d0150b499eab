-- Document 02, 2.2: the second places of refusals 19 and 21.
-- Assumes nothing.
use Rattle.std.specs.Prelude.{ℕ, ◌+◌, ◌<◌, ◌≡◌, ◌≢◌, Bool, true, false, ◌&&◌, ltb, None}
use Rattle.folder.specs.Pick.{pick}
use Rattle.folder.specs.Scan.{first_bad, all}
use Rattle.folder.specs.declared.Refusal.{Refusal}
use Rattle.expressions.specs.Limits.{no_variable}
use Rattle.expressions.specs.Reading.{is_known}
use Rattle.expressions.specs.Mentions.{mentions, lacked, Lowest}
use Rattle.model.specs.Model.{Model, first_record}
use Rattle.graph.specs.Simulation.{Simulation}
use Rattle.graph.specs.Labels.{tracks, truth_of, reading_of}
use Rattle.graph.specs.Rules.{is_expanded, result_is, label_follows, follows, edge_follows}

module _ (M : Model) (G : Simulation) (n : ℕ) where
  -- 19: an expanded node's guards by command, then the target. What the first that is unknown lacks; a target that is
  -- definite but wrong lacks none.
  abbrev pub open_guard : ℕ
  open_guard = first_bad (λ c. is_known (truth_of M G n (M.guard c))) M.commands

  unfoldable pub second19 : ℕ
  second19 = lacked (reading_of M G n (pick (is_expanded G n && ltb open_guard M.commands) (M.guard open_guard) M.target))

  -- 21: edge and branch.
  abbrev pub successor_follows : ℕ → ℕ → Bool
  successor_follows e b = follows M G n (first_record M (G.command n e) + b) (G.successor n e b)

  abbrev pub bad_edge : ℕ
  bad_edge = first_bad (edge_follows M G n) (G.edges n)

  abbrev pub bad_branch : ℕ
  bad_branch = first_bad (successor_follows bad_edge) (M.branches (G.command n bad_edge))

  -- Of branch record r and the successor s, the concrete label first, of all variables; then the tracked variables upward.
  unfoldable pub second_of : ℕ → ℕ → ℕ
  second_of r s = pick (all (result_is M G n r s) M.variables) (first_bad (label_follows M G n r s) M.variables) no_variable

  unfoldable pub second21 : ℕ
  second21 = second_of (first_record M (G.command n bad_edge) + bad_branch) (G.successor n bad_edge bad_branch)

  -- ---- in words
  -- Entry e lacks the variable v: the lowest that it mentions and the node does not track.
  abbrev pub LacksVariable : ℕ → ℕ → Type 0
  LacksVariable e v = Lowest M.variables (mentions M.entries e) (G.tracked n) v

  -- The guards below c are not unknown.
  abbrev pub GuardsKnown : ℕ → Type 0
  GuardsKnown c = (k : ℕ) → k < c → truth_of M G n (M.guard k) ≢ None

  pub data Second19 : ℕ → Type 0 where
    by-guard : (c v : ℕ) → G.kind n ≡ 1 → c < M.commands → GuardsKnown c → truth_of M G n (M.guard c) ≡ None → LacksVariable (M.guard c) v → Second19 v
    by-target : (v : ℕ) → (G.kind n ≡ 1 → GuardsKnown M.commands) → truth_of M G n M.target ≡ None → LacksVariable M.target v → Second19 v
    definite : (G.kind n ≡ 1 → GuardsKnown M.commands) → truth_of M G n M.target ≢ None → Second19 no_variable

  -- The edges below e, and of edge e the branches below b, follow.
  pub record FollowsBelow (e b : ℕ) : Type 0 where
    pub edge : e < G.edges n
    pub branch : b < M.branches (G.command n e)
    pub edges : (k : ℕ) → k < e → edge_follows M G n k ≡ true
    pub branches : (k : ℕ) → k < b → successor_follows e k ≡ true

  -- The tests of variable v of that branch.
  abbrev pub result_at : ℕ → ℕ → ℕ → Bool
  result_at e b = result_is M G n (first_record M (G.command n e) + b) (G.successor n e b)

  abbrev pub label_at : ℕ → ℕ → ℕ → Bool
  label_at e b = label_follows M G n (first_record M (G.command n e) + b) (G.successor n e b)

  pub data Second21 : ℕ → Type 0 where
    by-concrete : (e b v : ℕ) → FollowsBelow e b → v < M.variables → result_at e b v ≡ false → Second21 no_variable
    by-label : (e b v : ℕ) → FollowsBelow e b → ((k : ℕ) → k < M.variables → result_at e b k ≡ true)
        → v < M.variables → tracks G (G.successor n e b) v ≡ true → label_at e b v ≡ false → ((k : ℕ) → k < v → label_at e b k ≡ true) → Second21 v

-- A refusal with both places.
pub record Told (M : Model) (G : Simulation) (f : Refusal) : Type 0 where
  pub by-reading : f.number ≡ 19 → Second19 M G f.place f.second
  pub by-successor : f.number ≡ 21 → Second21 M G f.place f.second
  pub otherwise : f.number ≢ 19 → f.number ≢ 21 → f.second ≡ 0
