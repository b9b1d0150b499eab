-- P is the best: no strategy's Q is above it, and some strategy's is equal to it.
-- Assumes nothing.
use Prim.Native.Nat.{ℕ, zero, suc, ◌+◌, ◌*◌, ◌^◌, ◌-◌, ◌≤◌, ◌<◌}
use native.Mathlib.Nat.{le_refl, le_trans, pow-suc, pow-zero}
use native.Mathlib.Omega.{arith}
use mathlib.Core.Path.{◌≡◌, refl, sym, ap, ◌∙◌, subst}
use mathlib.Core.Bool.{Bool, true, false}
use Rattle.mdp.specs.Sums.{sum, greatest}
use Rattle.std.specs.Prelude.{if◌then◌else◌}
use Rattle.mdp.specs.Mdp.{Mdp, Fair, P, Q, weighing, worth, Enabled, History, alone, step, Choice, stop, take, Strategy}
use Rattle.mdp.proofs.SumLaws.{weighed, greatest-above, greatest-below, Attained, nowhere, at, attained}

pub if-le-if : (b : Bool) {x y x' y' : ℕ} → (b ≡ true → x ≤ x') → (b ≡ false → y ≤ y') → (if b then x else y) ≤ (if b then x' else y')
if-le-if true f g = f refl
if-le-if false f g = g refl

pub if-le : (b : Bool) {x y z : ℕ} → (b ≡ true → x ≤ z) → (b ≡ false → y ≤ z) → (if b then x else y) ≤ z
if-le true f g = f refl
if-le false f g = g refl

module _ (M : Mdp) where
  open M use {State, commands, branches, weight, enabled, next, target, total as D}

  -- An enabled command's sum is among those of which P takes the greatest.
  pub weighing-le-best : (v : State → ℕ) {s : State} (e : Enabled M s)
      → weighing M v e.command s ≤ greatest commands (λ c _. if enabled c s then weighing M v c s else 0)
  weighing-le-best v {s} e =
      rw e.on at (greatest-above commands (λ c. if enabled c s then weighing M v c s else 0) e.command e.known)

  worth-le : {s : State} (x : ℕ) (a : Choice M s) (v : (e : Enabled M s) (b : ℕ) → b < branches e.command → ℕ)
      → ((e : Enabled M s) → sum (branches e.command) (λ b l. weight e.command b * v e b l) ≤ x) → worth M a v ≤ x
  worth-le x stop v f = omega arith
  worth-le x (take e) v f = f e

  pub Q≤P : (σ : Strategy M) (k : ℕ) {s : State} (h : History M s) → Q M σ k h ≤ P M k s
  unfolding P Q
  Q≤P σ zero h = rw pow-zero (le_refl _)
  Q≤P σ (suc k) {s} h =
      if-le-if (target s) (λ _. le_refl _) (λ _. worth-le _ (σ s h) _ (λ e. le_trans
      (omega (
        arith,
        weighed (branches e.command) (weight e.command) (λ b l. Q M σ k (step h e b l)) (λ b _. P M k (next e.command b s)) 1 1 0
            (λ b l. omega (arith, Q≤P σ k (step h e b l))),
      ))
      (weighing-le-best (P M k) e)))

  pub weighed-fair : Fair M → (c : ℕ) → c < commands → (p q : (b : ℕ) → b < branches c → ℕ) (x y z : ℕ) → ((b : ℕ) (l : b < branches c) → x * p b l ≤ y * q b l + z)
      → x * sum (branches c) (λ b l. weight c b * p b l) ≤ y * sum (branches c) (λ b l. weight c b * q b l) + z * D
  weighed-fair F c l p q x y z f = rw (F.totals c l) at (weighed (branches c) (weight c) p q x y z f)

  module _ (F : Fair M) where
    pub P≤ : (k : ℕ) (s : State) → P M k s ≤ D ^ k
    unfolding P
    P≤ zero s = rw pow-zero (if-le (target s) (λ _. le_refl _) (λ _. omega arith))
    P≤ (suc k) s = if-le (target s) (λ _. le_refl _) (λ _. omega (arith, greatest-below 1 commands _ _ (λ c l. each (λ t. P≤ k t) c l (enabled c s))))
      where
        each : ((t : State) → P M k t ≤ D ^ k) → (c : ℕ) → c < commands → (g : Bool) → 1 * (if g then weighing M (P M k) c s else 0) ≤ D ^ suc k
        each below c l true = omega (arith, pow-suc D k, weighed-fair F c l (λ b _. P M k (next c b s)) (λ b _. 0) 1 0 (D ^ k) (λ b _. omega (arith, below (next c b s))))
        each below c l false = omega arith

  -- The best that can be chosen in s, where v is what each next state is worth.
  record BestIn (v : State → ℕ) (s : State) : Type 0 where
    choice : Choice M s
    is-best : worth M choice (λ e b _. v (next e.command b s)) ≡ greatest commands (λ c _. if enabled c s then weighing M v c s else 0)

  best-in : (v : State → ℕ) (s : State) → BestIn v s
  best-in v s = go (attained commands all)
    where
      all : ℕ → ℕ
      all c = if enabled c s then weighing M v c s else 0

      by-guard : (c : ℕ) → c < commands → greatest commands (λ i _. all i) ≡ all c → (g : Bool) → enabled c s ≡ g → BestIn v s
      by-guard c l e true o = record { choice = take (record { command = c; known = l; on = o }); is-best = sym (rw o at e) }
      by-guard c l e false o = record { choice = stop; is-best = sym (rw o at e) }

      go : Attained commands all → BestIn v s
      go (nowhere e) = record { choice = stop; is-best = sym e }
      go (at c l e) = by-guard c l e (enabled c s) refl

  steps : {s : State} → History M s → ℕ
  steps (alone s) = 0
  steps (step h e b l) = suc (steps h)

  -- The strategy that is best for reaching a target within k steps from the start.
  optimal : ℕ → Strategy M
  optimal k s h = (best-in (P M (k - suc (steps h))) s).choice

  optimal-choice : (j k : ℕ) {s : State} (h : History M s) → steps h + suc k ≡ j
      → worth M (optimal j s h) (λ e b _. P M k (next e.command b s)) ≡ greatest commands (λ c _. if enabled c s then weighing M (P M k) c s else 0)
  unfolding optimal
  optimal-choice j k {s} h e = subst (λ x. worth M (best-in (P M x) s).choice (λ e b _. P M k (next e.command b s)) ≡ greatest commands (λ c _. if enabled c s then weighing M (P M k) c s else 0)) (sym left) (best-in (P M k) s).is-best
    where
      left : j - suc (steps h) ≡ k
      left = omega arith

  optimal-is : (j k : ℕ) {s : State} (h : History M s) → steps h + k ≡ j → Q M (optimal j) k h ≡ P M k s
  unfolding P Q steps
  optimal-is j zero h e = rw pow-zero
  optimal-is j (suc k) {s} h e = ap (λ x. if target s then D ^ suc k else x)
      (ap (worth M (optimal j s h)) (λ i c b l. optimal-is j k (step h c b l) (omega arith) i) ∙ optimal-choice j k h e)

  pub best-reached : (k : ℕ) (s : State) → (σ : Strategy M) × (Q M σ k (alone s) ≡ P M k s)
  unfolding steps
  best-reached k s = (optimal k, optimal-is k k (alone s) (omega arith))
