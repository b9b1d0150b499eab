-- What a graph that is built is good for: demand 3; and no figure exceeds its node's value.
-- Assumes nothing.
use Prim.Native.Nat.{ℕ, zero, suc, ◌+◌, ◌*◌, ◌<◌, ◌≤◌}
use mathlib.Core.Path.{◌≡◌, refl, ◌∙◌}
use mathlib.Core.Logic.{◌≢◌}
use mathlib.Core.List.{List}
use native.Mathlib.Nat.{le_trans, mul-le-mul_left}
use native.Mathlib.Omega.{arith}
use Rattle.mdp.specs.Mdp.{Mdp}
use Rattle.mdp.specs.Kinds.{Kind}
use Rattle.mdp.specs.Graph.{Graph, along, Labelled, Valued, up, figure}
use Rattle.mdp.specs.Sums.{greatest}
use Rattle.mdp.specs.Demand.{Demand3}
use Rattle.mdp.proofs.SumLaws.{greatest-below}
use Rattle.mdp.proofs.Figures.{round-waiting, round-target, round-zero, round-suc, round-covered}
use Rattle.mdp.proofs.Demand.{demand}
use Rattle.model.specs.Model.{Model, model_of}
use Rattle.model.specs.Chances.{mdp, initial_state}
use Rattle.model.specs.Table.{model_outcome}
use Rattle.model.specs.Valid.{ModelRight}
use Rattle.model.proofs.Chances.{fair}
use Rattle.model.proofs.Decided as Checked
use Rattle.graph.specs.Limits.{units, least_bytes, most_bytes, most_nodes}
use Rattle.graph.specs.Simulation.{Simulation, node_size, graph}
use Rattle.graph.specs.Labels.{by_states, concrete_state, Contains}
use Rattle.graph.specs.Table.{summary}
use Rattle.graph.specs.Valid.{ContentRight, RulesRight}
use Rattle.graph.proofs.CountLaws.{none-of-kind}
use Rattle.graph.proofs.Labelled.{kind-is, labelled, valued, own, root-contains}
use Rattle.graph.proofs.Demand.{demand-3}
use Rattle.building.specs.Moves.{Limit}
use Rattle.building.specs.Length.{waiting_count}
use Rattle.building.specs.Built as Rules
use Rattle.building.specs.Built.{built, built_graph, values_of}
use Rattle.building.proofs.Falling.{sum-le}
use Rattle.building.proofs.ValueLaws.{up_least}
use Rattle.building.proofs.Built.{built-accepted}
use Rattle.written.specs.Bytes.{graph_bytes}
use Rattle.written.specs.Demand.{BuiltDemand}
use Rattle.written.proofs.Counted.{waiting-nodes}
use Rattle.written.proofs.Accepted.{built-answer}
use Rattle.std.specs.Prelude.{Ok}

-- ---- values that keep the value rule are no smaller than the figures, whether nodes wait or not: a node that waits counts
-- as certain in both
module _ (M : Mdp) (positive : 0 < M.total) (G : Graph) (S : ℕ) (In : ℕ → M.State → Type 0) (L : Labelled M G In) (value : ℕ → ℕ) (U : Valued M G S value) where
  open M use {branches, weight, total as D}
  open G use {nodes, kind, cover, edges, command, successor}

  abbrev Below : ℕ → ℕ → Type 0
  Below h n = figure M G S h n ≤ value n

  abbrev Expanded : ℕ → Type 0
  Expanded h = (n : ℕ) → n < nodes → kind n ≡ Kind.expanded → Below h n

  by_kind : (h : ℕ) → Expanded h → (n : ℕ) → n < nodes → (κ : Kind) → kind n ≡ κ → (κ ≡ Kind.covered → Below h n) → Below h n
  by_kind h x n l Kind.waiting e c = omega (arith, round-waiting M G S S (up M G S) h n e, U.waitings n l e)
  by_kind h x n l Kind.expanded e c = x n l e
  by_kind h x n l Kind.covered e c = c refl
  by_kind h x n l Kind.target e c = omega (arith, round-target M G S S (up M G S) h n e, U.targets n l e)

  -- A covered node by its cover, which is not covered.
  by-cover : (h : ℕ) → Expanded h → (n : ℕ) → n < nodes → kind n ≡ Kind.covered → Below h n
  by-cover h x n l e =
      let C = L.covereds n l e in
      let b : Below h (cover n) = by_kind h x (cover n) C.known (kind (cover n)) refl (λ f. absurd (C.open-cover f)) in
      omega (arith, b, round-covered M G S S (up M G S) h n e C.open-cover, U.covereds n l e)

  each : (h : ℕ) → Expanded h → (n : ℕ) → n < nodes → Below h n
  each h x n l = by_kind h x n l (kind n) refl (λ e. by-cover h x n l e)

  along-below : (h : ℕ) → ((n : ℕ) → n < nodes → Below h n) → (n : ℕ) → n < nodes → kind n ≡ Kind.expanded → (e : ℕ) → e < edges n → along M G (figure M G S h) n e ≤ D * value n
  along-below h below n l k e p = le_trans
      (sum-le (branches (command n e)) (λ b. weight (command n e) b * figure M G S h (successor n e b)) (λ b. weight (command n e) b * value (successor n e b))
      (λ b q. mul-le-mul_left (weight (command n e) b) (below (successor n e b) ((L.expandeds n l k).leads e p b q))))
      (U.expandeds n l k e p)

  pub figure-below : (h n : ℕ) → n < nodes → figure M G S h n ≤ value n
  figure-below zero = each zero (λ n l e. omega (arith, round-zero M G S S (up M G S) n e))
  figure-below (suc h) = each (suc h) (λ n l k. rw (round-suc M G S S (up M G S) h n k)
      (up_least (greatest (edges n) (λ e _. along M G (figure M G S h) n e)) D (value n) positive
      (omega (arith, greatest-below 1 (edges n) (λ e _. along M G (figure M G S h) n e) (D * value n) (λ e p. omega (arith, along-below h (figure-below h) n l k e p))))))

-- ---- of any graph that keeps the rules
module _ (M : Model) (X : ModelRight M) (G : Simulation) (K : ContentRight M G) (A : RulesRight M G (by_states M G)) where
  pub values-above-figures : (h n : ℕ) → n < G.nodes → figure (mdp M) (graph G) units h n ≤ G.value n
  values-above-figures = figure-below (mdp M) (fair M X).positive (graph G) units (Contains M G) (labelled M X G K A) G.value (valued M X G K A)

  ruled-demand : 0 < G.nodes → Demand3 (mdp M) units (graph G) (initial_state M) (concrete_state M G) (G.value 0)
  ruled-demand some = demand (mdp M) (fair M X) (graph G) units (Contains M G) (labelled M X G K A) G.value (valued M X G K A)
      (initial_state M) (concrete_state M G) some (root-contains M X G K A some) (own M X G K A)

-- ---- of a graph that is built, after any number of rounds
module _ (m : List ℕ) (accepted : model_outcome m ≡ (Ok tt)) (P : Limit) (rounds : ℕ) (some : 1 ≤ P.most) where
  abbrev M : Model
  M = model_of m

  abbrev G : Simulation
  G = built_graph M P rounds

  X : ModelRight M
  X = ((Checked.accepted-valid m).0 accepted).model

  R : Rules.Accepted M P G
  R = built-accepted M X P some rounds

  -- No node's figure exceeds its value, for any h: nor does the root's.
  pub root-above-figures : (h n : ℕ) → n < G.nodes → figure (mdp M) (graph G) units h n ≤ G.value n
  root-above-figures = values-above-figures M X G R.content R.rules

  none-waits : waiting_count (built M P) ≡ 0 → (n : ℕ) → n < G.nodes → (graph G).kind n ≢ Kind.waiting
  none-waits z n l e =
      none-of-kind G 0 (waiting-nodes M (built M P) (values_of M (built M P) rounds) ∙ z) n l (kind-is (G.kind n) (R.content.nodes n l).kind Kind.waiting e)

  -- Within limits of bytes too.
  module _ (least : least_bytes + node_size (model_of m).variables ≤ P.longest) (few : P.most ≤ most_nodes) (short : P.longest ≤ most_bytes) where
    pub built-demand : BuiltDemand m P rounds
    built-demand =
        let d = ruled-demand M X G R.content R.rules R.some in
        let a = built-answer m accepted P rounds some least few short in
        record {
          answer = a;
          bounds = (demand-3 m (graph_bytes M G)).0 (summary G) a;
          root = d.bound;
          figures = λ z. d.figures (none-waits z);
        }
