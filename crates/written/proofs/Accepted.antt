-- Document 02, 2.5: every graph built is accepted. Its bytes pass the graph check, and are no more than were asked for.
-- Assumes nothing.
use Prim.Native.Nat.{ℕ, ◌+◌, ◌<◌, ◌≤◌}
use mathlib.Core.Path.{◌≡◌, sym, ap, ◌∙◌}
use mathlib.Core.List.{List}
use native.Mathlib.Nat.{mul-mod_right}
use native.Mathlib.Decide.{ℕ_discrete}
use native.Mathlib.Omega.{arith}
use lib.ListN.{length}
use Rattle.folder.specs.Tab.{passing}
use Rattle.folder.specs.Contents.{count_of}
use Rattle.folder.specs.Table.{Outcome}
use Rattle.folder.proofs.TabLaws.{length-tab}
use Rattle.folder.proofs.ListLaws.{passing-few}
use Rattle.model.specs.Model.{Model, model_of}
use Rattle.model.specs.Pedal.{fields}
use Rattle.model.specs.Table.{model_outcome}
use Rattle.model.specs.Valid as Models
use Rattle.model.proofs.Decided as Checked
use Rattle.model.proofs.Limits.{limits}
use Rattle.graph.specs.Limits.{least_bytes, most_bytes, most_nodes}
use Rattle.graph.specs.Simulation.{Simulation, node_size, node_count, simulation_of}
use Rattle.graph.specs.Labels.{by_states}
use Rattle.graph.specs.Rules.{enabled_in}
use Rattle.graph.specs.Table.{graph_outcome, summary, answer_of, graph_answer}
use Rattle.graph.specs.Valid.{FolderRight, ContentRight, RulesRight}
use Rattle.graph.specs.declared.Summary.{Summary}
use Rattle.graph.proofs.Decided.{accepted-valid}
use Rattle.building.specs.Length.{graph_length}
use Rattle.building.specs.Moves.{Limit}
use Rattle.building.specs.Built as Rules
use Rattle.building.specs.Built.{built, built_graph, values_of}
use Rattle.building.proofs.Built.{built-accepted}
use Rattle.building.proofs.Short.{built-short}
use Rattle.written.specs.Same.{Same}
use Rattle.written.specs.Bytes.{node_body, edge_body, graph_bytes}
use Rattle.written.proofs.FolderLaws.{folder-length, body-0, entries-right}
use Rattle.written.proofs.ReadBack.{Fitting, bytes-long, reads-back}
use Rattle.written.proofs.LengthLaws.{written-length}
use Rattle.written.proofs.Fits.{fitting}
use Rattle.written.proofs.Transfer.{summary-same, content-same, rules-same}
use Rattle.std.specs.Prelude.{Ok}

-- ---- and its bytes are accepted
module _ (m : List ℕ) (W : Models.Valid m) (G : Simulation) (K : ContentRight (model_of m) G) (A : RulesRight (model_of m) G (by_states (model_of m) G)) (some : 1 ≤ G.nodes) (few : G.nodes ≤ most_nodes) (short : length (graph_bytes (model_of m) G) ≤ most_bytes) where
  abbrev M : Model
  M = model_of m

  -- The edges of a node are enabled commands.
  few-edges : (n : ℕ) → n < G.nodes → G.edges n ≤ M.commands
  few-edges n l = go (ℕ_discrete (G.kind n) 1)
    where
      go : Dec (G.kind n ≡ 1) → G.edges n ≤ M.commands
      go (yes k) =
          let e : G.edges n ≡ length (passing M.commands (enabled_in M G n)) = sym (length-tab (G.edges n) (G.command n)) ∙ ap length (A.b1 n l k) in
          omega (arith, passing-few (enabled_in M G n) M.commands)
      go (no d) = omega (arith, (K.nodes n l).edges d)

  pub written-fits : Fitting M G
  written-fits = fitting M W.model (limits W.folder).variables (limits W.folder).commands G K few A.a1 A.c3 few-edges short

  pub written_same : Same M G (simulation_of M (graph_bytes M G))
  written_same = reads-back M G written-fits

  folder-right : FolderRight M (graph_bytes M G)
  unfolding graph_bytes count_of
  folder-right =
      let n = folder-length (fields (node_body M G)) (fields (edge_body M G)) in
      let e : node_count M (graph_bytes M G) ≡ G.nodes = written_same.nodes in
      record {
        long = omega (arith, n);
        short = short;
        contents = entries-right (fields (node_body M G)) (fields (edge_body M G)) written-fits.short;
        whole = rw (body-0 (fields (node_body M G)) (fields (edge_body M G)) written-fits.short, bytes-long M G) (mul-mod_right (node_size M.variables) G.nodes);
        some = omega (arith, e);
        few = omega (arith, e);
      }

  pub written-accepted : graph_outcome m (graph_bytes M G) ≡ (Ok tt)
  written-accepted = (accepted-valid m (graph_bytes M G)).1 (record {
    model = W;
    rows = record { folder = folder-right; content = content-same M G (simulation_of M (graph_bytes M G)) written_same K some };
    rules = rules-same M G (simulation_of M (graph_bytes M G)) written_same K some A;
  })

  -- The check tells of the bytes what the graph itself says.
  pub written-answer : graph_answer m (graph_bytes M G) ≡ Ok (summary G)
  unfolding graph_answer
  written-answer =
      ap (λ (o : Outcome). answer_of o (summary (simulation_of M (graph_bytes M G)))) written-accepted
      ∙ ap (λ (s : Summary). Ok s) (summary-same M G (simulation_of M (graph_bytes M G)) written_same some)

-- ---- the graph that is built, after any number of rounds: its length
pub built-length : (M : Model) (P : Limit) (rounds : ℕ) → length (graph_bytes M (built_graph M P rounds)) ≡ graph_length M (built M P)
built-length M P rounds = written-length M (built M P) (values_of M (built M P) rounds)

-- Of a model folder that is accepted, within limits that leave room for the root and are no wider than those of a graph.
module _ (m : List ℕ) (accepted : model_outcome m ≡ (Ok tt)) (P : Limit) (rounds : ℕ) (some : 1 ≤ P.most) (least : least_bytes + node_size (model_of m).variables ≤ P.longest) where
  W : Models.Valid m
  W = (Checked.accepted-valid m).0 accepted

  pub built-no-longer : length (graph_bytes (model_of m) (built_graph (model_of m) P rounds)) ≤ P.longest
  built-no-longer = omega (arith, built-length (model_of m) P rounds, built-short (model_of m) P W.model some least)

  module _ (few : P.most ≤ most_nodes) (short : P.longest ≤ most_bytes) where
    R : Rules.Accepted (model_of m) P (built_graph (model_of m) P rounds)
    R = built-accepted (model_of m) W.model P some rounds

    pub every-graph-built-is-accepted : graph_outcome m (graph_bytes (model_of m) (built_graph (model_of m) P rounds)) ≡ (Ok tt)
    every-graph-built-is-accepted = written-accepted m W (built_graph (model_of m) P rounds) R.content R.rules R.some (omega (arith, R.few)) (omega (arith, built-no-longer))

    pub built-answer : graph_answer m (graph_bytes (model_of m) (built_graph (model_of m) P rounds)) ≡ Ok (summary (built_graph (model_of m) P rounds))
    built-answer = written-answer m W (built_graph (model_of m) P rounds) R.content R.rules R.some (omega (arith, R.few)) (omega (arith, built-no-longer))
