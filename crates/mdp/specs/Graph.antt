-- Simulation graphs: what the rules on labels give, the value rule, and document 01's "Figures".
-- Assumes nothing.
use Rattle.std.specs.Prelude.{ℕ, zero, suc, ◌*◌, ◌≤◌, ◌<◌, ◌≡◌, ◌≢◌, true, false}
use Rattle.mdp.specs.Sums.{sum, greatest, rounded_up}
use Rattle.mdp.specs.Mdp.{Mdp}
use Rattle.mdp.specs.Kinds.{Kind}

-- Nodes are numbered from 0, the root, and so are the edges of a node. An edge has a command, and a node for each branch.
pub record Graph : Type 0 where
  pub nodes : ℕ
  pub kind : ℕ → Kind
  pub cover : ℕ → ℕ
  pub edges : ℕ → ℕ
  pub command : ℕ → ℕ → ℕ
  pub successor : ℕ → ℕ → ℕ → ℕ

module _ (M : Mdp) (G : Graph) where
  open M use {State, commands, branches, weight, enabled, next, target, total as D}
  open G use {nodes, kind, cover, edges, command, successor}

  -- The sum of weight × v of the successor, over the branches of edge e of node n.
  abbrev pub along : (ℕ → ℕ) → ℕ → ℕ → ℕ
  along v n e = sum (branches (command n e)) (λ b _. weight (command n e) b * v (successor n e b))

  -- What the rules on labels give of a node, where `In n s` says that the label of node n contains the state s.
  module _ (In : ℕ → State → Type 0) where
    -- By A2.
    pub record IsTarget (n : ℕ) : Type 0 where
      pub reached : (s : State) → In n s → target s ≡ true

    -- By C3, C1 and C2.
    pub record IsCovered (n : ℕ) : Type 0 where
      pub known : cover n < nodes
      pub open-cover : kind (cover n) ≢ Kind.covered
      pub within : (s : State) → In n s → In (cover n) s

    -- By A2, B1 and B2.
    pub record IsExpanded (n : ℕ) : Type 0 where
      pub no_target : (s : State) → In n s → target s ≡ false
      pub known : (e : ℕ) → e < edges n → command n e < commands
      pub on : (e : ℕ) → e < edges n → (s : State) → In n s → enabled (command n e) s ≡ true
      pub every : (c : ℕ) → c < commands → (s : State) → In n s → enabled c s ≡ true → (e : ℕ) × (e < edges n) × (command n e ≡ c)
      pub leads : (e : ℕ) → e < edges n → (b : ℕ) → b < branches (command n e) → successor n e b < nodes
      pub within : (e : ℕ) → e < edges n → (b : ℕ) → b < branches (command n e) → (s : State) → In n s → In (successor n e b) (next (command n e) b s)

    pub record Labelled : Type 0 where
      pub targets : (n : ℕ) → n < nodes → kind n ≡ Kind.target → IsTarget n
      pub covereds : (n : ℕ) → n < nodes → kind n ≡ Kind.covered → IsCovered n
      pub expandeds : (n : ℕ) → n < nodes → kind n ≡ Kind.expanded → IsExpanded n

  -- Certainty is S units.
  module _ (S : ℕ) where
    -- The value rule, of any value for each node.
    pub record Valued (value : ℕ → ℕ) : Type 0 where
      pub waitings : (n : ℕ) → n < nodes → kind n ≡ Kind.waiting → value n ≡ S
      pub targets : (n : ℕ) → n < nodes → kind n ≡ Kind.target → value n ≡ S
      pub covereds : (n : ℕ) → n < nodes → kind n ≡ Kind.covered → value (cover n) ≤ value n
      pub expandeds : (n : ℕ) → n < nodes → kind n ≡ Kind.expanded → (e : ℕ) → e < edges n → along value n e ≤ D * value n

    -- The rounds, where a waiting node counts as W units, and `divide x` is x divided by D and rounded.
    module _ (W : ℕ) (divide : ℕ → ℕ) where
      -- What a node that is not covered holds in round 0.
      abbrev pub start : Kind → ℕ
      start Kind.waiting = W
      start Kind.expanded = 0
      start Kind.covered = 0
      start Kind.target = S

      -- What it holds in the round after the one that holds `last`.
      abbrev pub again : (ℕ → ℕ) → Kind → ℕ → ℕ
      again last Kind.waiting n = W
      again last Kind.expanded n = divide (greatest (edges n) (λ e _. along last n e))
      again last Kind.covered n = 0
      again last Kind.target n = S

      -- A covered node takes its cover's figure of the same round.
      abbrev pub shared : (ℕ → ℕ) → Kind → ℕ → ℕ
      shared own Kind.waiting n = own n
      shared own Kind.expanded n = own n
      shared own Kind.covered n = own (cover n)
      shared own Kind.target n = own n

      -- What node n holds in round h.
      unfoldable pub round : ℕ → ℕ → ℕ
      round zero n = shared (λ m. start (kind m)) (kind n) n
      round (suc h) n = shared (λ m. again (round h) (kind m) m) (kind n) n

    -- Divided by D and rounded up.
    abbrev pub up : ℕ → ℕ
    up x = rounded_up x D

    -- The figure of node n for h steps.
    abbrev pub figure : ℕ → ℕ → ℕ
    figure = round S up
