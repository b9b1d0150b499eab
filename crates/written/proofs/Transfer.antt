-- The rules hold of a graph if they hold of one that is the same.
-- Assumes nothing.
use Prim.Native.Nat.{ℕ, ◌+◌, ◌*◌, ◌<◌}
use mathlib.Core.Path.{◌≡◌, sym, ap, ◌∙◌}
use mathlib.Core.Logic.{◌≢◌}
use mathlib.Core.Bool.{true}
use native.Mathlib.Omega.{arith}
use lib.Dec.{eqb}
use Rattle.mdp.specs.Sums.{sum}
use Rattle.mdp.specs.Graph.{along}
use Rattle.mdp.proofs.SumLaws.{sum-eq}
use Rattle.folder.specs.Pick.{pick}
use Rattle.folder.specs.Tab.{tab}
use Rattle.folder.proofs.TabLaws.{tab-same, passing-same}
use Rattle.expressions.specs.Reading.{is_true}
use Rattle.expressions.specs.Combinations.{Label}
use Rattle.expressions.specs.States.{number_read, truth_read}
use Rattle.model.specs.Model.{Model, bound, first_record}
use Rattle.model.specs.Chances.{mdp}
use Rattle.graph.specs.Simulation.{Simulation, graph}
use Rattle.graph.specs.Labels.{tracks, label_of, concrete_state, number_of, truth_of, by_states}
use Rattle.graph.specs.Rules.{enabled_in}
use Rattle.graph.specs.Table.{kind_count, summary}
use Rattle.graph.specs.Valid.{ContentRight, RightA1, RightA2, RightB1, RightB2, RightValue, RulesRight}
use Rattle.written.specs.Same.{Same}

-- ---- what the graph check tells of it
module _ (M : Model) (G H : Simulation) (S : Same M G H) where
  pub counts_same : (k : ℕ) → kind_count H k ≡ kind_count G k
  counts_same k =
      ap (λ (n : ℕ). sum n (λ i _. pick (eqb (H.kind i) k) 1 0)) S.nodes
      ∙ sum-eq G.nodes (λ i _. pick (eqb (H.kind i) k) 1 0) (λ i _. pick (eqb (G.kind i) k) 1 0) (λ i l. ap (λ (x : ℕ). pick (eqb x k) 1 0) (S.kind i l))

  pub summary-same : 0 < G.nodes → summary H ≡ summary G
  summary-same some = λ i. record { root = S.value 0 some i; waiting = counts_same 0 i; expanded = counts_same 1 i; covered = counts_same 2 i; target = counts_same 3 i }

module _ (M : Model) (G H : Simulation) (S : Same M G H) (K : ContentRight M G) (some : 0 < G.nodes) where
  here : (n : ℕ) → n < H.nodes → n < G.nodes
  here n l = omega (arith, S.nodes)

  tracks_same : (n : ℕ) → n < G.nodes → (v : ℕ) → tracks H n v ≡ tracks G n v
  tracks_same n l v = rw (S.tracked n l)

  -- Labels are one where their sets and their tabs of values are, and so is how entries read in them.
  label_same : (n : ℕ) → n < G.nodes → label_of M H n ≡ label_of M G n
  label_same n l = λ i. record { variables = M.variables; bound = bound M; tracked = S.tracked n l i; values = tab-same M.variables (H.label n) (G.label n) (S.label n l) i }

  truth-same : (n : ℕ) → n < G.nodes → (e : ℕ) → truth_of M H n e ≡ truth_of M G n e
  truth-same n l e = ap (λ (L : Label). truth_read M.entries L e) (label_same n l)

  number_same : (n : ℕ) → n < G.nodes → (e : ℕ) → number_of M H n e ≡ number_of M G n e
  number_same n l e = ap (λ (L : Label). number_read M.entries L e) (label_same n l)

  state-same : (n : ℕ) → n < G.nodes → concrete_state M H n ≡ concrete_state M G n
  state-same n l = tab-same M.variables (H.concrete n) (G.concrete n) (S.concrete n l)

  edge-there : (n : ℕ) → n < G.nodes → (e : ℕ) → e < H.edges n → e < G.edges n
  edge-there n l e h = omega (arith, S.edges n l)

  branch-there : (n : ℕ) (l : n < G.nodes) (e : ℕ) (h : e < G.edges n) (b : ℕ) → b < M.branches (H.command n e) → b < M.branches (G.command n e)
  branch-there n l e h b q = rw (S.command n l e h) at q

  -- ---- rows 15 to 17
  pub content-same : ContentRight M H
  content-same = record {
    nodes = λ n m.
        let l = here n m in
        let k = K.nodes n l in
        record {
          kind = rw (S.kind n l) k.kind;
          value = rw (S.value n l) k.value;
          cover = λ d. S.cover n l ∙ k.cover (λ e. d (S.kind n l ∙ e));
          edges = λ d. S.edges n l ∙ k.edges (λ e. d (S.kind n l ∙ e));
          bits = rw (S.tracked n l) k.bits;
          low = λ v p. rw (S.concrete n l v p) (k.low v p);
          high = λ v p. rw (S.concrete n l v p) (k.high v p);
          untracked = λ v p t. S.label n l v p ∙ k.untracked v p (sym (tracks_same n l v) ∙ t);
        };
    edges = λ n m e h.
        let l = here n m in
        let g = edge-there n l e h in
        let r = K.edges n l e g in
        record {
          command = rw (S.command n l e g) r.command;
          whole = S.whole n l e g;
          successors = λ b q.
              let p = branch-there n l e g b q in
              rw (S.successor n l e g b p, S.nodes) (r.successors b p);
        };
    spent = S.spent;
    initial = state-same 0 some ∙ K.initial;
  }

  -- ---- the rules
  module _ (A : RulesRight M G (by_states M G)) where
    a1-same : (n : ℕ) → n < G.nodes → RightA1 M H n
    a1-same n l v p t = S.label n l v p ∙ A.a1 n l v p (sym (tracks_same n l v) ∙ t) ∙ sym (S.concrete n l v p)

    a2-same : (n : ℕ) → n < G.nodes → RightA2 M H (by_states M H) n
    a2-same n l =
        let r = A.a2 n l in
        record {
          guards = λ k c h u. r.guards (sym (S.kind n l) ∙ k) c h (sym (truth-same n l (M.guard c)) ∙ u);
          no_target = λ k. truth-same n l M.target ∙ r.no_target (sym (S.kind n l) ∙ k);
          target = λ k. truth-same n l M.target ∙ r.target (sym (S.kind n l) ∙ k);
        }

    b1-same : (n : ℕ) → n < G.nodes → RightB1 M H (by_states M H) n
    b1-same n l k =
        ap (λ (i : ℕ). tab i (H.command n)) (S.edges n l)
        ∙ tab-same (G.edges n) (H.command n) (G.command n) (S.command n l)
        ∙ A.b1 n l (sym (S.kind n l) ∙ k)
        ∙ passing-same M.commands (enabled_in M G n) (enabled_in M H n) (λ c _. ap is_true (sym (truth-same n l (M.guard c))))

    b2-same : (n : ℕ) → n < G.nodes → RightB2 M H (by_states M H) n
    b2-same n l k e h b q =
        let g = edge-there n l e h in
        let p = branch-there n l e g b q in
        let there : G.successor n e b < G.nodes = (K.edges n l e g).successors b p in
        let f = A.b2 n l (sym (S.kind n l) ∙ k) e g b p in
        record {
          concrete = λ v x. rw (S.successor n l e g b p, S.command n l e g, S.concrete (G.successor n e b) there v x, state-same n l) (f.concrete v x);
          label = λ v x t. rw (S.successor n l e g b p, S.command n l e g, S.label (G.successor n e b) there v x)
              (number_same n l (M.assigned (first_record M (G.command n e) + b) v) ∙ f.label v x (sym (tracks_same (G.successor n e b) there v) ∙ ap (λ (s : ℕ). tracks H s v) (sym (S.successor n l e g b p)) ∙ t));
        }

    module _ (n : ℕ) (l : n < G.nodes) (k : H.kind n ≡ 2) where
      was_covered : G.kind n ≡ 2
      was_covered = sym (S.kind n l) ∙ k

      cover-there : G.cover n < G.nodes
      cover-there = (A.c3 n l was_covered).0

      c3-same : (H.cover n < H.nodes) × (H.kind (H.cover n) ≢ 2)
      c3-same = rw (S.cover n l, S.nodes, S.kind (G.cover n) cover-there) (A.c3 n l was_covered)

      c1-same : (v : ℕ) → v < M.variables → tracks H (H.cover n) v ≡ true → H.concrete n v ≡ H.label (H.cover n) v
      c1-same v p t =
          S.concrete n l v p
          ∙ A.c1 n l was_covered v p (sym (tracks_same (G.cover n) cover-there v) ∙ ap (λ (c : ℕ). tracks H c v) (sym (S.cover n l)) ∙ t)
          ∙ sym (ap (λ (c : ℕ). H.label c v) (S.cover n l) ∙ S.label (G.cover n) cover-there v p)

      c2-same : (v : ℕ) → v < M.variables → tracks H (H.cover n) v ≡ true → (tracks H n v ≡ true) × (H.label n v ≡ H.label (H.cover n) v)
      c2-same v p t =
          let r = A.c2 n l was_covered v p (sym (tracks_same (G.cover n) cover-there v) ∙ ap (λ (c : ℕ). tracks H c v) (sym (S.cover n l)) ∙ t) in
          (tracks_same n l v ∙ r.0, S.label n l v p ∙ r.1 ∙ sym (ap (λ (c : ℕ). H.label c v) (S.cover n l) ∙ S.label (G.cover n) cover-there v p))

    -- The value rule.
    along-same : (n : ℕ) (l : n < G.nodes) (e : ℕ) (g : e < G.edges n) → along (mdp M) (graph H) H.value n e ≡ along (mdp M) (graph G) G.value n e
    along-same n l e g =
        ap (λ (c : ℕ). sum (M.branches c) (λ b _. M.weight (first_record M c + b) * H.value (H.successor n e b))) (S.command n l e g)
        ∙ sum-eq (M.branches (G.command n e)) _ _ (λ b q. ap (λ (x : ℕ). M.weight (first_record M (G.command n e) + b) * x)
        (ap H.value (S.successor n l e g b q) ∙ S.value (G.successor n e b) ((K.edges n l e g).successors b q)))

    values_same : (n : ℕ) → n < G.nodes → RightValue M H H.value n
    values_same n l =
        let r = A.values n l in
        record {
          waiting = λ k. S.value n l ∙ r.waiting (sym (S.kind n l) ∙ k);
          target = λ k. S.value n l ∙ r.target (sym (S.kind n l) ∙ k);
          expanded = λ k e h.
              let g = edge-there n l e h in
              rw (along-same n l e g, S.value n l) (r.expanded (sym (S.kind n l) ∙ k) e g);
          covered = λ k. rw (S.cover n l, S.value n l, S.value (G.cover n) (cover-there n l k)) (r.covered (was_covered n l k));
        }

    pub rules-same : RulesRight M H (by_states M H)
    rules-same = record {
      a1 = λ n m. a1-same n (here n m);
      a2 = λ n m. a2-same n (here n m);
      b1 = λ n m. b1-same n (here n m);
      b2 = λ n m. b2-same n (here n m);
      c3 = λ n m. c3-same n (here n m);
      c1 = λ n m. c1-same n (here n m);
      c2 = λ n m. c2-same n (here n m);
      values = λ n m. values_same n (here n m);
    }
