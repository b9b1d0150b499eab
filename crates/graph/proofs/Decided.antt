-- The graph check accepts if and only if the folder and model rules hold, the graph starts at the initial state, and
-- keeps A1 to C3 and the value rule.
-- Assumes nothing.
use Prim.Native.Nat.{ℕ, ◌+◌, ◌*◌, ◌/◌, ◌%◌, ◌^◌, ◌<◌, ◌≤◌}
use mathlib.Core.Path.{◌≡◌, refl, ap}
use mathlib.Core.Logic.{◌↔◌, ◌≢◌}
use mathlib.Core.Bool.{true, false, false≢true}
use mathlib.Core.List.{List, ◌++◌}
use native.Mathlib.Omega.{arith}
use lib.Dec.{eqb}
use lib.ListN.{length}
use Rattle.folder.specs.Pick.{pick}
use lib.IntN.{ℤ, pos}
use lib.Signed.{◌≤ℤ◌}
use Rattle.mdp.specs.Graph.{along}
use Rattle.folder.specs.Contents.{body}
use Rattle.folder.specs.Tab.{tab, passing}
use Rattle.folder.proofs.PickLaws.{pick_all}
use Rattle.folder.proofs.Decides.{Decides, passes, fails, at_most, at_most_z, below, same, unless, whenever, either_way, always, ◌∧also◌, everywhere, reworded, same_lists}
use Rattle.folder.proofs.TabLaws.{tab-same, same-tab}
use Rattle.folder.proofs.ContentsLaws.{entry-decided as contents-decided}
use Rattle.folder.proofs.TableLaws.{refused-broken, row-asks, single-asks, ◌row-and◌, no_rows, put-so, tables-ask, accepted-asks}
use Rattle.folder.specs.Table.{all_rules, AllHold, Broken}
use Rattle.folder.specs.declared.Refusal.{Refusal}
use Rattle.expressions.specs.Meaning.{number_in}
use Rattle.expressions.specs.Reading.{is_known, is_true, is_false, reads}
use Rattle.expressions.specs.ThreeWay.{Number, Truth}
use Rattle.whole.proofs.Order.{equal-decided}
use Rattle.model.specs.Model.{Model, model_of, first_record}
use Rattle.model.specs.Chances.{mdp}
use Rattle.graph.specs.Limits.{least_bytes, most_bytes, most_nodes, units, most_steps}
use Rattle.graph.specs.Simulation.{Simulation, bodies, node_size, node_count, simulation_of, graph}
use Rattle.graph.specs.Labels.{Readings, tracks, concrete_state, number_of, truth_of, by_states}
use Rattle.graph.specs.Rules.{bytes_fit, nodes_fit, head_fits, values_fit, node_fits, edge_fits, edges_fit, root_fits, A1, A2, enabled_in, B1, result_is, label_follows, follows, edge_follows, B2, C3, C1, C2, value_rule}
use Rattle.graph.specs.Table.{folder_rows, content_rows, first_rows, node_rules, rule_rows, graph_rows, graph_outcome}
use Rattle.model.specs.Table.{model_rows}
use Rattle.model.proofs.Decided.{model-asks}
use Rattle.graph.specs.Figures.{figure_rows, figure_outcome}
use Rattle.graph.specs.Valid.{FigureRight, FolderRight, NodeRight, EdgeRight, StartsInitial, RightA1, RightA2, RightB1, Follows, RightB2, RightC3, RightC1, RightC2, RightValue, ContentRight, RulesRight, RowsRight, Valid}
use Rattle.std.specs.Prelude.{Err, None, Ok, Some}

-- ---- the readings
known-decided : (t : Truth) → Decides (t ≢ None) (is_known t)
known-decided (Some true) = record { yes = λ e h. apart h; no = λ h. refl }
  where
    apart : (Some true) ≡ None → ⊥
    apart e = let z : ◌≡◌ {A = ℕ} 0 1 = cc in omega arith
known-decided (Some false) = record { yes = λ e h. apart h; no = λ h. refl }
  where
    apart : (Some false) ≡ None → ⊥
    apart e = let z : ◌≡◌ {A = ℕ} 0 1 = cc in omega arith
known-decided None = record { yes = λ e. absurd (false≢true e); no = λ h. absurd (h refl) }

pub true-decided : (t : Truth) → Decides (t ≡ (Some true)) (is_true t)
true-decided (Some true) = record { yes = λ e. refl; no = λ e. refl }
true-decided (Some false) = record { yes = λ e. absurd (false≢true e); no = λ e. cc }
true-decided None = record { yes = λ e. absurd (false≢true e); no = λ e. cc }

false-decided : (t : Truth) → Decides (t ≡ (Some false)) (is_false t)
false-decided (Some true) = record { yes = λ e. absurd (false≢true e); no = λ e. cc }
false-decided (Some false) = record { yes = λ e. refl; no = λ e. refl }
false-decided None = record { yes = λ e. absurd (false≢true e); no = λ e. cc }

reads-decided : (a : Number) (z : ℤ) → Decides (a ≡ Some z) (reads a z)
reads-decided (Some a) z = reworded (ap Some) (λ e. cc) (equal-decided a z)
reads-decided None z = record { yes = λ e. absurd (false≢true e); no = λ e. cc }

-- ---- rows 12 to 17
pub bytes-decided : (g : List ℕ) → Decides ((least_bytes ≤ length g) × (length g ≤ most_bytes)) (bytes_fit g)
bytes-decided g = at_most least_bytes (length g) ∧also at_most (length g) most_bytes

pub nodes-decided : (M : Model) (g : List ℕ)
    → Decides (((length (body g 0) % node_size M.variables ≡ 0) × (1 ≤ node_count M g)) × (node_count M g ≤ most_nodes)) (nodes_fit M g)
unfolding nodes_fit
nodes-decided M g =
    (same (length (body g 0) % node_size M.variables) 0 ∧also at_most 1 (node_count M g)) ∧also at_most (node_count M g) most_nodes

module _ (M : Model) (G : Simulation) where
  abbrev R : Readings
  R = by_states M G

  head-decided : (n : ℕ)
      → Decides (((G.kind n ≤ 3) × (G.value n ≤ units)) × ((G.kind n ≢ 2 → G.cover n ≡ 0) × (G.kind n ≢ 1 → G.edges n ≡ 0))) (head_fits M G n)
  unfolding head_fits
  head-decided n =
      (at_most (G.kind n) 3 ∧also at_most (G.value n) units)
      ∧also whenever (unless (same (G.kind n) 2)) (same (G.cover n) 0)
      ∧also whenever (unless (same (G.kind n) 1)) (same (G.edges n) 0)

  values-decided : (n v : ℕ)
      → Decides (((M.low v ≤ℤ G.concrete n v) × (G.concrete n v ≤ℤ M.high v)) × (tracks G n v ≡ false → G.label n v ≡ pos 0)) (values_fit M G n v)
  unfolding values_fit
  values-decided n v =
      (at_most_z (M.low v) (G.concrete n v) ∧also at_most_z (G.concrete n v) (M.high v))
      ∧also whenever (fails (tracks G n v)) (equal-decided (G.label n v) (pos 0))

  pub node-decided : (n : ℕ) → Decides (NodeRight M G n) (node_fits M G n)
  unfolding node_fits
  node-decided n = reworded
      (λ h. record {
        kind = h.0.0.0;
        value = h.0.0.1;
        cover = h.0.1.0;
        edges = h.0.1.1;
        bits = h.1.0;
        low = λ v l. (h.1.1 v l).0.0;
        high = λ v l. (h.1.1 v l).0.1;
        untracked = λ v l. (h.1.1 v l).1;
      })
      (λ r. (((r.kind, r.value), (r.cover, r.edges)), (r.bits, λ v l. ((r.low v l, r.high v l), r.untracked v l))))
      (head-decided n ∧also same (G.tracked n / 2 ^ M.variables) 0 ∧also everywhere M.variables (λ v l. values-decided n v))

  pub edge-decided : (n e : ℕ) → Decides (EdgeRight M G n e) (edge_fits M G n e)
  unfolding edge_fits
  edge-decided n e =
      reworded (λ h. record { command = h.0.0; whole = h.0.1; successors = h.1 }) (λ r. ((r.command, r.whole), r.successors))
      ((below (G.command n e) M.commands ∧also passes (G.whole n e))
      ∧also everywhere (M.branches (G.command n e)) (λ b l. below (G.successor n e b) G.nodes))

  pub edges-decided : (n : ℕ)
      → Decides ((n < G.nodes → (e : ℕ) → e < G.edges n → EdgeRight M G n e) × ((n < G.nodes → ⊥) → G.spent ≡ true)) (edges_fit M G n)
  unfolding edges_fit
  edges-decided n = either_way (below n G.nodes) (everywhere (G.edges n) (λ e l. edge-decided n e)) (passes G.spent)

  pub root-decided : Decides (StartsInitial M G) (root_fits M G)
  unfolding root_fits
  root-decided = reworded
      (tab-same M.variables (G.concrete 0) M.initial)
      (same-tab M.variables (G.concrete 0) M.initial)
      (everywhere M.variables (λ v l. equal-decided (G.concrete 0 v) (M.initial v)))

  -- ---- rows 18 to 25
  pub a1-decided : (n : ℕ) → Decides (RightA1 M G n) (A1 M G n)
  unfolding A1
  a1-decided n = everywhere M.variables (λ v l. whenever (passes (tracks G n v)) (equal-decided (G.label n v) (G.concrete n v)))

  pub a2-decided : (n : ℕ) → Decides (RightA2 M G R n) (A2 M G n)
  unfolding A2
  a2-decided n = reworded
      (λ h. record { guards = λ k. (h.0 k).0; no_target = λ k. (h.0 k).1; target = h.1 })
      (λ r. ((λ k. (r.guards k, r.no_target k)), r.target))
      (whenever (same (G.kind n) 1)
      (everywhere M.commands (λ c l. known-decided (truth_of M G n (M.guard c))) ∧also false-decided (truth_of M G n M.target))
      ∧also whenever (same (G.kind n) 3) (true-decided (truth_of M G n M.target)))

  pub b1-decided : (n : ℕ) → Decides (RightB1 M G R n) (B1 M G n)
  unfolding B1
  b1-decided n = whenever (same (G.kind n) 1) (same_lists (tab (G.edges n) (G.command n)) (passing M.commands (enabled_in M G n)))

  result-decided : (n r s v : ℕ) → Decides (G.concrete s v ≡ number_in M.entries (concrete_state M G n) (M.assigned r v)) (result_is M G n r s v)
  unfolding result_is
  result-decided n r s v = equal-decided (G.concrete s v) (number_in M.entries (concrete_state M G n) (M.assigned r v))

  label-decided : (n r s v : ℕ) → Decides (tracks G s v ≡ true → number_of M G n (M.assigned r v) ≡ Some (G.label s v)) (label_follows M G n r s v)
  unfolding label_follows
  label-decided n r s v = whenever (passes (tracks G s v)) (reads-decided (number_of M G n (M.assigned r v)) (G.label s v))

  follows-decided : (n e b : ℕ) → Decides (Follows M G R n e b) (follows M G n (first_record M (G.command n e) + b) (G.successor n e b))
  unfolding follows
  follows-decided n e b =
      reworded (λ h. record { concrete = h.0; label = h.1 }) (λ r. (r.concrete, r.label))
      (everywhere M.variables (λ v l. result-decided n (first_record M (G.command n e) + b) (G.successor n e b) v)
      ∧also everywhere M.variables (λ v l. label-decided n (first_record M (G.command n e) + b) (G.successor n e b) v))

  edge-follows : (n e : ℕ) → Decides ((b : ℕ) → b < M.branches (G.command n e) → Follows M G R n e b) (edge_follows M G n e)
  unfolding edge_follows
  edge-follows n e = everywhere (M.branches (G.command n e)) (λ b l. follows-decided n e b)

  pub b2-decided : (n : ℕ) → Decides (RightB2 M G R n) (B2 M G n)
  unfolding B2
  b2-decided n = whenever (same (G.kind n) 1) (everywhere (G.edges n) (λ e l. edge-follows n e))

  pub c3-decided : (n : ℕ) → Decides (RightC3 M G n) (C3 M G n)
  unfolding C3
  c3-decided n = whenever (same (G.kind n) 2) (below (G.cover n) G.nodes ∧also unless (same (G.kind (G.cover n)) 2))

  pub c1-decided : (n : ℕ) → Decides (RightC1 M G n) (C1 M G n)
  unfolding C1
  c1-decided n = whenever (same (G.kind n) 2)
      (everywhere M.variables (λ v l. whenever (passes (tracks G (G.cover n) v)) (equal-decided (G.concrete n v) (G.label (G.cover n) v))))

  pub c2-decided : (n : ℕ) → Decides (RightC2 M G n) (C2 M G n)
  unfolding C2
  c2-decided n = whenever (same (G.kind n) 2)
      (everywhere M.variables (λ v l.
      whenever (passes (tracks G (G.cover n) v)) (passes (tracks G n v) ∧also equal-decided (G.label n v) (G.label (G.cover n) v))))

  pub value-decided : (value : ℕ → ℕ) (n : ℕ) → Decides (RightValue M G value n) (value_rule M G value n)
  unfolding value_rule
  value-decided value n = reworded
      (λ h. record { waiting = h.0.0; target = h.0.1; expanded = h.1.0; covered = h.1.1 })
      (λ r. ((r.waiting, r.target), (r.expanded, r.covered)))
      ((whenever (same (G.kind n) 0) (same (value n) units) ∧also whenever (same (G.kind n) 3) (same (value n) units))
      ∧also whenever (same (G.kind n) 1) (everywhere (G.edges n) (λ e l. at_most (along (mdp M) (graph G) value n e) (M.total * value n)))
      ∧also whenever (same (G.kind n) 2) (at_most (value (G.cover n)) (value n)))

  rules-decided : (n : ℕ)
      → Decides (RightA1 M G n × (RightA2 M G R n × (RightB1 M G R n × (RightB2 M G R n × (RightC3 M G n × (RightC1 M G n × (RightC2 M G n × (RightValue M G G.value n × Unit {0}))))))))
      (all_rules (node_rules M G n))
  unfolding all_rules
  rules-decided n =
      a1-decided n
      ∧also a2-decided n
      ∧also b1-decided n
      ∧also b2-decided n
      ∧also c3-decided n
      ∧also c1-decided n
      ∧also c2-decided n
      ∧also value-decided G.value n
      ∧also always

  content-asks : AllHold (content_rows M G) ↔ ContentRight M G
  content-asks = put-so
      (row-asks _ node-decided row-and row-asks _ edges-decided row-and single-asks 17 0 root-decided row-and no_rows)
      (λ h. record {
        nodes = h.0;
        edges = λ n l. (h.1.0 n (omega arith)).0 l;
        spent = (h.1.0 G.nodes (omega arith)).1 (λ l. omega arith);
        initial = h.1.1.0;
      })
      (λ r. (r.nodes, ((λ n l. (r.edges n, λ h. r.spent)), (r.initial, tt))))

  rules-ask : AllHold (rule_rows M G) ↔ RulesRight M G R
  rules-ask = put-so
      (row-asks _ rules-decided row-and no_rows)
      (λ h. record {
        a1 = λ n l. (h.0 n l).0;
        a2 = λ n l. (h.0 n l).1.0;
        b1 = λ n l. (h.0 n l).1.1.0;
        b2 = λ n l. (h.0 n l).1.1.1.0;
        c3 = λ n l. (h.0 n l).1.1.1.1.0;
        c1 = λ n l. (h.0 n l).1.1.1.1.1.0;
        c2 = λ n l. (h.0 n l).1.1.1.1.1.1.0;
        values = λ n l. (h.0 n l).1.1.1.1.1.1.1.0;
      })
      (λ r. ((λ n l. (r.a1 n l, (r.a2 n l, (r.b1 n l, (r.b2 n l, (r.c3 n l, (r.c1 n l, (r.c2 n l, (r.values n l, tt))))))))), tt))

folder-asks : (M : Model) (g : List ℕ) → AllHold (folder_rows M g) ↔ FolderRight M g
folder-asks M g = put-so
    (single-asks 12 0 (bytes-decided g) row-and row-asks _ (contents-decided g bodies) row-and single-asks 14 0 (nodes-decided M g) row-and no_rows)
    (λ h. record { long = h.0.0; short = h.0.1; contents = h.1.0; whole = h.1.1.0.0.0; some = h.1.1.0.0.1; few = h.1.1.0.1 })
    (λ r. ((r.long, r.short), (r.contents, (((r.whole, r.some), r.few), tt))))

pub first-ask : (M : Model) (g : List ℕ) → AllHold (first_rows M g) ↔ RowsRight M g
first-ask M g = put-so
    (tables-ask (folder_rows M g) (folder-asks M g) (content-asks M (simulation_of M g)))
    (λ h. record { folder = h.0; content = h.1 })
    (λ r. (r.folder, r.content))

rows-ask : (M : Model) (g : List ℕ) → AllHold (graph_rows M g) ↔ (RowsRight M g × RulesRight M (simulation_of M g) (by_states M (simulation_of M g)))
rows-ask M g = tables-ask (first_rows M g) (first-ask M g) (rules-ask M (simulation_of M g))

pub graph-asks : (m g : List ℕ) → AllHold (model_rows m ++ graph_rows (model_of m) g) ↔ Valid m g
graph-asks m g = put-so
    (tables-ask (model_rows m) (model-asks m) (rows-ask (model_of m) g))
    (λ h. record { model = h.0; rows = h.1.0; rules = h.1.1 })
    (λ v. (v.model, (v.rows, v.rules)))

-- Demand 2: a graph is accepted if and only if it keeps the rules.
pub accepted-valid : (m g : List ℕ) → (graph_outcome m g ≡ (Ok tt)) ↔ Valid m g
unfolding graph_outcome
accepted-valid m g = accepted-asks (graph-asks m g)

-- A refusal is of the first broken row, at its lowest broken place, and each row before it holds.
pub refused-first : (m g : List ℕ) (f : Refusal) → graph_outcome m g ≡ Err f → Broken (model_rows m ++ graph_rows (model_of m) g) f
unfolding graph_outcome
refused-first m g f e = refused-broken (model_rows m ++ graph_rows (model_of m) g) f e

-- Rows 26 to 28.
pub figure-asks : (G : Simulation) (h : ℕ) (first second : List ℕ) → AllHold (figure_rows G h first second) ↔ FigureRight G h first second
figure-asks G h first second = put-so
    (row-asks _ (λ n. unless (same (G.kind n) 0))
    row-and single-asks 27 0 (at_most h most_steps)
    row-and row-asks _ (λ p. at_most G.nodes (length (pick (eqb p 0) first second)))
    row-and no_rows)
    (λ a. record { none-waits = a.0; few-steps = a.1.0; first-long = a.1.1.0 0 (omega arith); second-long = a.1.1.0 1 (omega arith) })
    (λ r. (r.none-waits, (r.few-steps, ((λ p l. pick_all (λ (row : List ℕ). G.nodes ≤ length row) (eqb p 0) r.first-long r.second-long), tt))))

-- The figure call is accepted if and only if the graph is, no node waits, and h and both rows are within their limits.
pub figure-valid : (m g : List ℕ) (h : ℕ) (first second : List ℕ)
    → (figure_outcome m g h first second ≡ (Ok tt)) ↔ (Valid m g × FigureRight (simulation_of (model_of m) g) h first second)
unfolding figure_outcome
figure-valid m g h first second = accepted-asks (put-so
    (tables-ask (model_rows m) (model-asks m) (tables-ask (graph_rows (model_of m) g) (rows-ask (model_of m) g) (figure-asks (simulation_of (model_of m) g) h first second)))
    (λ a. (record { model = a.0; rows = a.1.0.0; rules = a.1.0.1 }, a.1.1))
    (λ v. (v.0.model, ((v.0.rows, v.0.rules), v.1))))

pub figure-refused : (m g : List ℕ) (h : ℕ) (first second : List ℕ) (f : Refusal) → figure_outcome m g h first second ≡ Err f
    → Broken (model_rows m ++ graph_rows (model_of m) g ++ figure_rows (simulation_of (model_of m) g) h first second) f
unfolding figure_outcome
figure-refused m g h first second f e = refused-broken (model_rows m ++ graph_rows (model_of m) g ++ figure_rows (simulation_of (model_of m) g) h first second) f e
