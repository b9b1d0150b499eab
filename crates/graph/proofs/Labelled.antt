-- What the rules give of a graph's labels and values, in the words of the theory of simulation graphs.
-- Assumes nothing.
use Prim.Native.Nat.{ℕ, zero, suc, ◌+◌, ◌<◌, ◌≤◌}
use mathlib.Core.Path.{◌≡◌, refl, sym, ap, ◌∙◌, subst}
use mathlib.Core.Bool.{true}
use mathlib.Core.List.{List}
use native.Mathlib.Nat.{not-suc-le-zero, le_of_suc-le-suc}
use native.Mathlib.Omega.{arith}
use borrow.Author.Tests.{lt-ltb}
use lib.ListN.{length, get_or}
use lib.IntN.{pos}
use Rattle.mdp.specs.Kinds.{Kind}
use Rattle.mdp.specs.Graph.{Labelled, Valued}
use Rattle.folder.specs.Tab.{tab, passing}
use Rattle.folder.proofs.TabLaws.{length-tab, get_or-tab, passing-at, passing-stands}
use Rattle.expressions.specs.Meaning.{State, value_of, number_in, truth_in}
use Rattle.expressions.specs.Combinations.{Holds, Proper}
use Rattle.expressions.proofs.Bits.{bit_below}
use Rattle.expressions.proofs.Sound.{Says, SaysT, known_is, true-is, false-is, is_true_lem}
use Rattle.expressions.proofs.States as States
use Rattle.whole.proofs.Order.{to-⊑, from-⊑, ⊑_trans}
use Rattle.model.specs.Model.{Model, bound, first_record}
use Rattle.model.specs.Chances.{InRange, mdp, next, initial_state}
use Rattle.model.specs.Valid.{ModelRight}
use Rattle.model.proofs.Chances.{in_bounds, next-in-range}
use Rattle.graph.specs.Limits.{units}
use Rattle.graph.specs.Simulation.{Simulation, graph, kind_of}
use Rattle.graph.specs.Labels.{tracks, label_of, concrete_state, number_of, truth_of, by_states, Contains}
use Rattle.graph.specs.Rules.{enabled_in}
use Rattle.graph.specs.Valid.{NodeRight, ContentRight, RightA1, RulesRight}
use Rattle.graph.proofs.Decided.{true-decided}

-- ---- kinds
data KindNumber : ℕ → Type 0 where
  zeroth : KindNumber 0
  first : KindNumber 1
  second : KindNumber 2
  third : KindNumber 3

kind-number : (k : ℕ) → k ≤ 3 → KindNumber k
kind-number zero h = zeroth
kind-number (suc zero) h = first
kind-number (suc (suc zero)) h = second
kind-number (suc (suc (suc zero))) h = third
kind-number (suc (suc (suc (suc k)))) h = absurd (not-suc-le-zero (le_of_suc-le-suc (le_of_suc-le-suc (le_of_suc-le-suc h))))

-- A kind's number, by cases.
abbrev number_of_kind : Kind → ℕ
number_of_kind Kind.waiting = 0
number_of_kind Kind.expanded = 1
number_of_kind Kind.covered = 2
number_of_kind Kind.target = 3

kind-back : {k : ℕ} → KindNumber k → number_of_kind (kind_of k) ≡ k
unfolding kind_of
kind-back zeroth = refl
kind-back first = refl
kind-back second = refl
kind-back third = refl

pub kind-is : (k : ℕ) → k ≤ 3 → (κ : Kind) → kind_of k ≡ κ → k ≡ number_of_kind κ
kind-is k h κ e = sym (kind-back (kind-number k h)) ∙ ap number_of_kind e

-- A node that row 15 passes tracks variables of the model, and its concrete label is a state in range.
module _ (M : Model) (G : Simulation) (n : ℕ) (N : NodeRight M G n) where
  pub tracked-there : (i : ℕ) → tracks G n i ≡ true → i < M.variables
  tracked-there i t = bit_below (G.tracked n) M.variables i N.bits t

  pub concrete-in-range : InRange M (concrete_state M G n)
  concrete-in-range = record {
    long = length-tab M.variables (G.concrete n);
    low = λ v p. rw (get_or-tab (pos 0) M.variables (G.concrete n) v p) (N.low v p);
    high = λ v p. rw (get_or-tab (pos 0) M.variables (G.concrete n) v p) (N.high v p);
  }

  -- Its label, where A1 passes it too, is proper: no range is crossed, for the concrete value lies in it.
  pub proper : RightA1 M G n → Proper (label_of M G n)
  proper A = record {
    ordered = λ v p. let h = in_bounds M (concrete_state M G n) concrete-in-range v in from-⊑ (⊑_trans (to-⊑ h.low) (to-⊑ h.high));
    there = tracked-there;
    low = λ v t. rw (concrete-is v t) (in_bounds M (concrete_state M G n) concrete-in-range v).low;
    high = λ v t. rw (concrete-is v t) (in_bounds M (concrete_state M G n) concrete-in-range v).high;
  }
    where
      concrete-is : (v : ℕ) → tracks G n v ≡ true → get_or (tab M.variables (G.label n)) v (pos 0) ≡ value_of (concrete_state M G n) v
      concrete-is v t =
          let p : v < M.variables = tracked-there v t in
          get_or-tab (pos 0) M.variables (G.label n) v p ∙ A v p t ∙ sym (get_or-tab (pos 0) M.variables (G.concrete n) v p)

-- The states that a node's label contains are those of its label over the model's variables.
module _ (M : Model) (G : Simulation) (n : ℕ) (s : State) where
  pub holds : Contains M G n s → Holds (label_of M G n) s
  holds c = record {
    long = c.state.long;
    low = λ v p. (in_bounds M s c.state v).low;
    high = λ v p. (in_bounds M s c.state v).high;
    agrees = λ v p t. c.agrees v p t ∙ sym (get_or-tab (pos 0) M.variables (G.label n) v p);
  }

  pub contained : Holds (label_of M G n) s → Contains M G n s
  unfolding bound
  contained h = record {
    state = record {
      long = h.long;
      low = λ v p. rw (lt-ltb v M.variables p) at (h.low v p);
      high = λ v p. rw (lt-ltb v M.variables p) at (h.high v p);
    };
    agrees = λ v p t. h.agrees v p t ∙ get_or-tab (pos 0) M.variables (G.label n) v p;
  }

module _ (M : Model) (R : ModelRight M) (G : Simulation) (K : ContentRight M G) (A : RulesRight M G (by_states M G)) where
  -- A reading says nothing, or what is so in every state that the label contains.
  module _ (n : ℕ) (l : n < G.nodes) (s : State) (c : Contains M G n s) where
    says-number : (e : ℕ) → Says (number_of M G n e) (number_in M.entries s e)
    says-number e = States.says-number M.entries (label_of M G n) (proper M G n (K.nodes n l) (A.a1 n l)) e s (holds M G n s c)

    says_truth : (e : ℕ) → SaysT (truth_of M G n e) (truth_in M.entries s e)
    says_truth e = States.says_truth M.entries (label_of M G n) (proper M G n (K.nodes n l) (A.a1 n l)) e s (holds M G n s c)

  kind-of : (n : ℕ) → n < G.nodes → (κ : Kind) → kind_of (G.kind n) ≡ κ → G.kind n ≡ number_of_kind κ
  kind-of n l = kind-is (G.kind n) (K.nodes n l).kind

  -- ---- an expanded node
  module _ (n : ℕ) (l : n < G.nodes) (x : G.kind n ≡ 1) where
    abbrev listed : List ℕ
    listed = passing M.commands (enabled_in M G n)

    edge_count : G.edges n ≡ length listed
    edge_count = sym (length-tab (G.edges n) (G.command n)) ∙ ap length (A.b1 n l x)

    edge-listed : (e : ℕ) → e < G.edges n → G.command n e ≡ get_or listed e 0
    edge-listed e h = sym (get_or-tab 0 (G.edges n) (G.command n) e h) ∙ ap (λ (t : List ℕ). get_or t e 0) (A.b1 n l x)

    edge-passes : (e : ℕ) → e < G.edges n → enabled_in M G n (G.command n e) ≡ true
    edge-passes e h = rw (edge-listed e h) (passing-at M.commands (enabled_in M G n) e (omega (arith, edge_count))).passes

    edge_on : (e : ℕ) → e < G.edges n → (s : State) → Contains M G n s → truth_in M.entries s (M.guard (G.command n e)) ≡ true
    edge_on e h s c = true-is (says_truth n l s c (M.guard (G.command n e))) ((true-decided _).yes (edge-passes e h))

    enabled-reads : (d : ℕ) → d < M.commands → (s : State) → Contains M G n s → truth_in M.entries s (M.guard d) ≡ true → enabled_in M G n d ≡ true
    enabled-reads d h s c o = is_true_lem (says_truth n l s c (M.guard d)) ((A.a2 n l).guards x d h) ∙ o

    edge-every : (d : ℕ) → d < M.commands → (s : State) → Contains M G n s → truth_in M.entries s (M.guard d) ≡ true
        → (e : ℕ) × (e < G.edges n) × (G.command n e ≡ d)
    edge-every d h s c o =
        let e = length (passing d (enabled_in M G n)) in
        let f = passing-stands (enabled_in M G n) d M.commands h (enabled-reads d h s c o) in
        let k : e < G.edges n = omega (arith, f.0, edge_count) in
        (e, k, edge-listed e k ∙ f.1)

    edge-within : (e : ℕ) → e < G.edges n → (b : ℕ) → b < M.branches (G.command n e) → (s : State) → Contains M G n s
        → Contains M G (G.successor n e b) (next M (G.command n e) b s)
    unfolding next
    edge-within e h b k s c = record {
      state = next-in-range M R (G.command n e) b (K.edges n l e h).command k s c.state;
      agrees = λ v p t.
          get_or-tab (pos 0) M.variables (λ w. number_in M.entries s (M.assigned (first_record M (G.command n e) + b) w)) v p
          ∙ known_is (G.label (G.successor n e b) v) (says-number n l s c (M.assigned (first_record M (G.command n e) + b) v)) ((A.b2 n l x e h b k).label v p t);
    }

  -- ---- all nodes
  pub labelled : Labelled (mdp M) (graph G) (Contains M G)
  labelled = record {
    targets = λ n l κ. record { reached = λ s c. true-is (says_truth n l s c M.target) ((A.a2 n l).target (kind-of n l Kind.target κ)) };
    covereds = λ n l κ.
        let k : G.kind n ≡ 2 = kind-of n l Kind.covered κ in
        let cover-there : G.cover n < G.nodes = (A.c3 n l k).0 in
        record {
          known = cover-there;
          open-cover = λ e. (A.c3 n l k).1 (kind-of (G.cover n) cover-there Kind.covered e);
          within = λ s c. record {
            state = c.state;
            agrees = λ v p t. let h = A.c2 n l k v p t in c.agrees v p h.0 ∙ h.1;
          };
        };
    expandeds = λ n l κ.
        let k : G.kind n ≡ 1 = kind-of n l Kind.expanded κ in
        record {
          no_target = λ s c. false-is (says_truth n l s c M.target) ((A.a2 n l).no_target k);
          known = λ e h. (K.edges n l e h).command;
          on = edge_on n l k;
          every = edge-every n l k;
          leads = λ e h. (K.edges n l e h).successors;
          within = edge-within n l k;
        };
  }

  pub valued : Valued (mdp M) (graph G) units G.value
  valued = record {
    waitings = λ n l κ. (A.values n l).waiting (kind-of n l Kind.waiting κ);
    targets = λ n l κ. (A.values n l).target (kind-of n l Kind.target κ);
    covereds = λ n l κ. (A.values n l).covered (kind-of n l Kind.covered κ);
    expandeds = λ n l κ. (A.values n l).expanded (kind-of n l Kind.expanded κ);
  }

  -- ---- the labels contain their nodes' concrete labels, the root's the initial state
  pub own : (n : ℕ) → n < G.nodes → Contains M G n (concrete_state M G n)
  own n l = record {
    state = concrete-in-range M G n (K.nodes n l);
    agrees = λ v p t. get_or-tab (pos 0) M.variables (G.concrete n) v p ∙ sym (A.a1 n l v p t);
  }

  -- "Enabled" as document 01 has it, in the concrete label, is what B1 reads in the abstract one.
  pub enabled-concrete : (n : ℕ) → n < G.nodes → G.kind n ≡ 1 → (d : ℕ) → d < M.commands
      → enabled_in M G n d ≡ truth_in M.entries (concrete_state M G n) (M.guard d)
  enabled-concrete n l x d h = is_true_lem (says_truth n l (concrete_state M G n) (own n l) (M.guard d)) ((A.a2 n l).guards x d h)

  pub root-contains : 0 < G.nodes → Contains M G 0 (initial_state M)
  root-contains l = subst (λ (s : State). Contains M G 0 s) K.initial (own 0 l)
