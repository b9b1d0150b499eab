-- Whatever a graph's nodes hold from round to round, if it obeys the value rule from each round to the next then it bounds P.
-- Assumes nothing.
use Prim.Native.Nat.{ℕ, zero, suc, ◌*◌, ◌^◌, ◌≤◌, ◌<◌}
use native.Mathlib.Nat.{le_trans, pow-suc, mul-le-mul, mul-le-mul_left, mul-le-mul_right}
use native.Mathlib.Omega.{arith}
use mathlib.Core.Path.{◌≡◌, refl, subst}
use mathlib.Core.Bool.{Bool, true, false}
use Rattle.std.specs.Prelude.{if◌then◌else◌}
use Rattle.mdp.specs.Mdp.{Mdp, Fair, P, Q, weighing, Strategy, alone}
use Rattle.mdp.specs.Kinds.{Kind}
use Rattle.mdp.specs.Graph.{Graph, along, IsExpanded, Labelled, Valued}
use Rattle.mdp.proofs.SumLaws.{greatest-below}
use Rattle.mdp.proofs.Cases.{Holds, each-node}
use Rattle.mdp.proofs.Best.{weighed-fair, P≤, Q≤P}

module _ (M : Mdp) (G : Graph) (S : ℕ) where
  open M use {State, commands, branches, weight, enabled, next, target, total as D}
  open G use {nodes, kind, cover, edges, command, successor}

  -- `g k n` is what node n holds in round k.
  pub record Above (g : ℕ → ℕ → ℕ) : Type 0 where
    pub waitings : (k n : ℕ) → n < nodes → kind n ≡ Kind.waiting → S ≤ g k n
    pub targets : (k n : ℕ) → n < nodes → kind n ≡ Kind.target → S ≤ g k n
    pub covereds : (k n : ℕ) → n < nodes → kind n ≡ Kind.covered → g k (cover n) ≤ g k n
    pub expandeds : (k n : ℕ) → n < nodes → kind n ≡ Kind.expanded → (e : ℕ) → e < edges n → along M G (g k) n e ≤ D * g (suc k) n

  module _ (F : Fair M) (In : ℕ → State → Type 0) (L : Labelled M G In) (g : ℕ → ℕ → ℕ) (A : Above g) where
    certain : (k n : ℕ) (s : State) → S ≤ g k n → S * P M k s ≤ g k n * D ^ k
    certain k n s h = mul-le-mul h (P≤ M F k s)

    -- P of a state where no target is, from what its enabled commands give
    above-expanded : (k n : ℕ) → n < nodes → kind n ≡ Kind.expanded → (s : State) → In n s
        → ((m : ℕ) → m < nodes → (t : State) → In m t → S * P M k t ≤ g k m * D ^ k) → S * P M (suc k) s ≤ g (suc k) n * D ^ suc k
    unfolding P
    above-expanded k n l e s i below = rw (X.no_target s i) (greatest-below S commands _ _ (λ c h. each c h (enabled c s) refl))
      where
        X : IsExpanded M G In n
        X = L.expandeds n l e

        edge : (j : ℕ) → j < edges n → S * weighing M (P M k) (command n j) s ≤ g (suc k) n * D ^ suc k
        edge j h = rw (pow-suc D k) (omega (
          arith,
          mul-le-mul_left (D ^ k) (A.expandeds k n l e j h),
          weighed-fair M F (command n j) (X.known j h) (λ b _. P M k (next (command n j) b s)) (λ b _. g k (successor n j b)) S (D ^ k) 0
              (λ b p. omega (arith, below (successor n j b) (X.leads j h b p) (next (command n j) b s) (X.within j h b p s i))),
        ))

        each : (c : ℕ) → c < commands → (t : Bool) → enabled c s ≡ t → S * (if t then weighing M (P M k) c s else 0) ≤ g (suc k) n * D ^ suc k
        each c h true o =
            let j = X.every c h s i o in
            subst (λ d. S * weighing M (P M k) d s ≤ g (suc k) n * D ^ suc k) j.2 (edge j.0 j.1)
        each c h false o = omega arith

    abbrev Bounded : ℕ → ℕ → State → Type 0
    Bounded k n s = S * P M k s ≤ g k n * D ^ k

    by_cases : (k : ℕ) → Holds M G In L (Bounded k) Kind.expanded → (n : ℕ) → n < nodes → (s : State) → In n s → Bounded k n s
    by_cases k x = each-node M G In L (Bounded k) (λ n l e s i. certain k n s (A.waitings k n l e)) x (λ n l e s i. certain k n s (A.targets k n l e))
        (λ n l e s h. le_trans h (mul-le-mul_right (D ^ k) (A.covereds k n l e)))

    pub above : (k n : ℕ) → n < nodes → (s : State) → In n s → S * P M k s ≤ g k n * D ^ k
    unfolding P
    above zero = by_cases zero (λ n l e s i. rw ((L.expandeds n l e).no_target s i) (omega arith))
    above (suc k) = by_cases (suc k) (λ n l e s i. above-expanded k n l e s i (above k))

  -- Demand 3's bound.
  module _ (F : Fair M) (In : ℕ → State → Type 0) (L : Labelled M G In) (value : ℕ → ℕ) (R : Valued M G S value) where
    pub best-bound : (k n : ℕ) → n < nodes → (s : State) → In n s → S * P M k s ≤ value n * D ^ k
    best-bound = above F In L (λ _ m. value m) (record {
      waitings = λ k n l e. omega (arith, R.waitings n l e);
      targets = λ k n l e. omega (arith, R.targets n l e);
      covereds = λ k n l e. R.covereds n l e;
      expandeds = λ k n l e. R.expandeds n l e;
    })

    pub strategy-bound : (σ : Strategy M) (k n : ℕ) → n < nodes → (s : State) → In n s → S * Q M σ k (alone s) ≤ value n * D ^ k
    strategy-bound σ k n l s i = le_trans (mul-le-mul_left S (Q≤P M σ k (alone s))) (best-bound k n l s i)
