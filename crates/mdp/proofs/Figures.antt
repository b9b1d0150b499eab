-- The figures.
-- Assumes nothing.
use Prim.Native.Nat.{ℕ, zero, suc, ◌+◌, ◌*◌, ◌^◌, ◌-◌, ◌≤◌, ◌<◌}
use native.Mathlib.Nat.{le_trans, pow-suc, pow-zero, mul-le-mul_left, mul-le-mul_right, div-mul-le_self, lt-div-mul-add}
use native.Mathlib.Omega.{arith}
use mathlib.Core.Path.{◌≡◌, refl, sym}
use mathlib.Core.Logic.{◌≢◌}
use mathlib.Core.Bool.{true}
use Rattle.mdp.specs.Sums.{greatest}
use Rattle.std.specs.Prelude.{if◌then◌else◌}
use Rattle.mdp.specs.Mdp.{Mdp, Fair, P, weighing}
use Rattle.mdp.specs.Kinds.{Kind}
use Rattle.mdp.specs.Graph.{Graph, along, IsExpanded, Labelled, again, shared, round, up, figure}
use Rattle.mdp.proofs.SumLaws.{greatest-above, greatest-below}
use Rattle.mdp.proofs.Best.{weighed-fair, weighing-le-best}
use Rattle.mdp.proofs.Cases.{Holds, each-node}
use Rattle.mdp.proofs.Bound.{Above, above}

module _ (M : Mdp) (G : Graph) (S W : ℕ) (divide : ℕ → ℕ) where
  open G use {kind, cover, edges}

  pub round-waiting : (k n : ℕ) → kind n ≡ Kind.waiting → round M G S W divide k n ≡ W
  unfolding round
  round-waiting zero n e = rw (e, e)
  round-waiting (suc k) n e = rw (e, e)

  pub round-target : (k n : ℕ) → kind n ≡ Kind.target → round M G S W divide k n ≡ S
  unfolding round
  round-target zero n e = rw (e, e)
  round-target (suc k) n e = rw (e, e)

  pub round-zero : (n : ℕ) → kind n ≡ Kind.expanded → round M G S W divide zero n ≡ 0
  unfolding round
  round-zero n e = rw (e, e)

  pub round-suc : (k n : ℕ) → kind n ≡ Kind.expanded
      → round M G S W divide (suc k) n ≡ again M G S W divide (round M G S W divide k) Kind.expanded n
  unfolding round
  round-suc k n e = rw (e, e)

  shared-open : (own : ℕ → ℕ) (κ : Kind) → κ ≢ Kind.covered → (n : ℕ) → shared M G S W divide own κ n ≡ own n
  shared-open own Kind.waiting o n = refl
  shared-open own Kind.expanded o n = refl
  shared-open own Kind.covered o n = absurd (o refl)
  shared-open own Kind.target o n = refl

  pub round-covered : (k n : ℕ) → kind n ≡ Kind.covered → kind (cover n) ≢ Kind.covered
      → round M G S W divide k n ≡ round M G S W divide k (cover n)
  unfolding round
  round-covered zero n e o = rw e (sym (shared-open _ (kind (cover n)) o (cover n)))
  round-covered (suc k) n e o = rw e (sym (shared-open _ (kind (cover n)) o (cover n)))

module _ (M : Mdp) (G : Graph) (S : ℕ) where
  open M use {State, commands, branches, weight, enabled, next, target, total as D}
  open G use {nodes, kind, cover, edges, command, successor}

  -- `g k n` is what node n holds in round k; a round falls short of what the last one gives by at most r units.
  pub record Below (r : ℕ) (g : ℕ → ℕ → ℕ) : Type 0 where
    pub waitings : (k n : ℕ) → n < nodes → kind n ≡ Kind.waiting → g k n ≡ 0
    pub targets : (k n : ℕ) → n < nodes → kind n ≡ Kind.target → g k n ≡ S
    pub covereds : (k n : ℕ) → n < nodes → kind n ≡ Kind.covered → g k n ≡ g k (cover n)
    pub starts : (n : ℕ) → n < nodes → kind n ≡ Kind.expanded → g zero n ≡ 0
    pub expandeds : (k n : ℕ) → n < nodes → kind n ≡ Kind.expanded → g (suc k) n * D ≤ greatest (edges n) (λ e _. along M G (g k) n e) + r * D

  module _ (F : Fair M) (In : ℕ → State → Type 0) (L : Labelled M G In) (r : ℕ) (g : ℕ → ℕ → ℕ) (B : Below r g) where
    abbrev Near : ℕ → ℕ → State → Type 0
    Near k n s = g k n * D ^ k ≤ S * P M k s + r * k * D ^ k

    P-target : (k : ℕ) (s : State) → target s ≡ true → P M k s ≡ D ^ k
    unfolding P
    P-target zero s e = rw (e, pow-zero)
    P-target (suc k) s e = rw e

    near-expanded : (k n : ℕ) → n < nodes → kind n ≡ Kind.expanded → (s : State) → In n s
        → ((m : ℕ) → m < nodes → (t : State) → In m t → Near k m t) → Near (suc k) n s
    unfolding P
    near-expanded k n l e s i below =
        rw (X.no_target s i, pow-suc D k) (omega (arith, mul-le-mul_right (D ^ k) (B.expandeds k n l e), greatest-below (D ^ k) (edges n) (λ j _. along M G (g k) n j) _ edge))
      where
        X : IsExpanded M G In n
        X = L.expandeds n l e

        best : ℕ
        best = greatest commands (λ c _. if enabled c s then weighing M (P M k) c s else 0)

        edge : (j : ℕ) → j < edges n → D ^ k * along M G (g k) n j ≤ S * best + r * k * D ^ k * D
        edge j h = omega (
          arith,
          mul-le-mul_left S (weighing-le-best M (P M k) (record { command = command n j; known = X.known j h; on = X.on j h s i })),
          weighed-fair M F (command n j) (X.known j h) (λ b _. g k (successor n j b)) (λ b _. P M k (next (command n j) b s)) (D ^ k) S (r * k * D ^ k)
              (λ b p. omega (arith, below (successor n j b) (X.leads j h b p) (next (command n j) b s) (X.within j h b p s i))),
        )

    by_cases : (k : ℕ) → Holds M G In L (Near k) Kind.expanded → (n : ℕ) → n < nodes → (s : State) → In n s → Near k n s
    by_cases k x = each-node M G In L (Near k)
        (λ n l e s i. rw (B.waitings k n l e) (omega arith))
        x
        (λ n l e s i. rw (B.targets k n l e, P-target k s ((L.targets n l e).reached s i)) (omega arith))
        (λ n l e s h. rw (B.covereds k n l e) h)

    pub near : (k n : ℕ) → n < nodes → (s : State) → In n s → g k n * D ^ k ≤ S * P M k s + r * k * D ^ k
    near zero = by_cases zero (λ n l e s i. rw (B.starts n l e) (omega arith))
    near (suc k) = by_cases (suc k) (λ n l e s i. near-expanded k n l e s i (near k))

-- Rounding up loses nothing, and adds less than D.
module _ (M : Mdp) (G : Graph) (S : ℕ) (p : 0 < M.total) where
  open M use {total as D}

  up-enough : (x : ℕ) → x ≤ D * up M G S x
  up-enough x = omega (arith, lt-div-mul-add {a = x + (D - 1)} p)

  up-close : (x : ℕ) → up M G S x * D ≤ x + 1 * D
  up-close x = omega (arith, div-mul-le_self (x + (D - 1)) D)

module _ (M : Mdp) (F : Fair M) (G : Graph) (S : ℕ) (In : ℕ → M.State → Type 0) (L : Labelled M G In) where
  open M use {State, total as D}
  open G use {nodes, kind, edges}

  figures-above : Above M G S (figure M G S)
  figures-above = record {
    waitings = λ k n l e. omega (arith, round-waiting M G S S (up M G S) k n e);
    targets = λ k n l e. omega (arith, round-target M G S S (up M G S) k n e);
    covereds = λ k n l e. omega (arith, round-covered M G S S (up M G S) k n e (L.covereds n l e).open-cover);
    expandeds = λ k n l e j h. rw (round-suc M G S S (up M G S) k n e) (le_trans (greatest-above (edges n) (along M G (figure M G S k) n) j h) (up-enough M G S F.positive _));
  }

  -- The figure is never below the best chance, whether nodes wait or not.
  pub figure-above : (k n : ℕ) → n < nodes → (s : State) → In n s → S * P M k s ≤ figure M G S k n * D ^ k
  figure-above = above M G S F In L (figure M G S) figures-above

  module _ (none : (n : ℕ) → n < nodes → kind n ≢ Kind.waiting) where
    figures-below : Below M G S 1 (figure M G S)
    figures-below = record {
      waitings = λ k n l e. absurd (none n l e);
      targets = λ k n l e. round-target M G S S (up M G S) k n e;
      covereds = λ k n l e. round-covered M G S S (up M G S) k n e (L.covereds n l e).open-cover;
      starts = λ n l e. round-zero M G S S (up M G S) n e;
      expandeds = λ k n l e. rw (round-suc M G S S (up M G S) k n e) (up-close M G S F.positive _);
    }

    -- With no node waiting, the figure exceeds the best chance by at most a unit for each round.
    pub figure-near : (k n : ℕ) → n < nodes → (s : State) → In n s → figure M G S k n * D ^ k ≤ S * P M k s + k * D ^ k
    figure-near k n l s i = omega (arith, near M G S F In L 1 (figure M G S) figures-below k n l s i)
