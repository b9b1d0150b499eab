-- The tests that the code makes of the rows and of the bodies.
-- Assumes nothing.
use Rattle.std.specs.Prelude.{ℕ, ◌+◌, ◌*◌, ◌<◌, ◌≤◌, Bool, ◌&&◌, List, ltb, eqb, get_or, length, ℤ, pos}
use Rattle.folder.specs.Pick.{pick, implies}
use Rattle.folder.specs.Scan.{first_bad, all}
use Rattle.folder.specs.Fields.{u16, i16}
use Rattle.whole.specs.Order.{eq_z}
use Rattle.expressions.specs.Limits.{no_variable}
use Rattle.expressions.specs.Reading.{has_bit}
use Rattle.states.specs.Needed.{is_up}
use Rattle.model.specs.Limits.{most_expressions}
use Rattle.model.specs.Layout.{branch_size}
use Rattle.graph.specs.Simulation.{node_size, command_in, successor_in}

-- Entry e holds in the state; it is flagged, and is z there.
unfoldable pub holds_at : List ℤ → ℕ → Bool
holds_at state e = eq_z (get_or state e (pos 0)) (pos 1)

unfoldable pub reads_at : List ℕ → List ℤ → ℕ → ℤ → Bool
reads_at known state e z = is_up known e && eq_z (get_or state e (pos 0)) z

-- Edge k of a node that has `edges` of them, which stands at p, is there and names the command c.
abbrev pub names_at : List ℕ → ℕ → ℕ → ℕ → ℕ → Bool
names_at eb edges k p c = ltb k edges && eqb (command_in eb p) c

-- nb is the body of nodes, and bs that of branch records.
module _ (variables : ℕ) (nb bs : List ℕ) where
  -- The branch record at `from` and the node at `to` are whole, and the entries that are assigned are few enough.
  pub record Leads (from to : ℕ) : Type 0 where
    pub branch : from + branch_size variables ≤ length bs
    pub node : to + node_size variables ≤ length nb
    pub entries : (v : ℕ) → v < variables → u16 bs (from + 2 * (1 + v)) < most_expressions

  -- The branch record gives variable v what the node has; and where the node tracks v, it reads so in the label.
  unfoldable pub result_at : List ℤ → ℕ → ℕ → ℕ → Bool
  result_at state from to v = eq_z (i16 nb (to + 2 * (6 + v))) (get_or state (u16 bs (from + 2 * (1 + v))) (pos 0))

  unfoldable pub label_at : List ℕ → List ℤ → ℕ → ℕ → ℕ → Bool
  label_at known state from to v =
      implies (has_bit (u16 nb (to + 2 * 5)) v) (reads_at known state (u16 bs (from + 2 * (1 + v))) (i16 nb (to + 2 * (6 + variables + v))))

  module _ (known : List ℕ) (state : List ℤ) where
    unfoldable pub variable_follows : ℕ → ℕ → ℕ → Bool
    variable_follows from to v = result_at state from to v && label_at known state from to v

    -- All variables, of branch record r and node s; and branch b of the edge at p, whose records stand from `first` on.
    unfoldable pub branch_follows : ℕ → ℕ → Bool
    branch_follows r s = all (variable_follows (branch_size variables * r) (node_size variables * s)) variables

    unfoldable pub branch_at : List ℕ → ℕ → ℕ → ℕ → Bool
    branch_at eb first p b = branch_follows (first + b) (successor_in eb p b)

    -- Which variable breaks it.
    unfoldable pub apart_by : ℕ → ℕ → ℕ
    apart_by r s =
        pick (all (result_at state (branch_size variables * r) (node_size variables * s)) variables)
        (first_bad (label_at known state (branch_size variables * r) (node_size variables * s)) variables) no_variable

  -- All branches of the edge at p lead so.
  pub record AllLead (eb : List ℕ) (first branches p : ℕ) : Type 0 where
    pub each : (b : ℕ) → b < branches → Leads (branch_size variables * (first + b)) (node_size variables * successor_in eb p b)
