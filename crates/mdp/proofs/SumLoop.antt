-- A loop that adds up values of at most `most`: its invariant, and its three facts.
-- Assumes nothing.
use Prim.Native.Nat.{ℕ, ◌+◌, ◌*◌, ◌≤◌, ◌<◌, zero-le}
use mathlib.Core.Path.{◌≡◌, refl, ap, ◌∙◌}
use native.Mathlib.Omega.{arith}
use Rattle.mdp.specs.Sums.{sum}
use Rattle.mdp.proofs.SumLaws.{sum-next as sum-after}

-- s is the sum of f after i turns of n.
pub record Summed (most : ℕ) (f : ℕ → ℕ) (n i s : ℕ) : Type 0 where
  pub within : i ≤ n
  pub total : s ≡ sum i (λ j _. f j)
  pub small : s ≤ most * i

pub sum-start : (most : ℕ) (f : ℕ → ℕ) (n : ℕ) → Summed most f n 0 0
sum-start most f n = record { within = zero-le; total = refl; small = zero-le }

module _ {most : ℕ} {f : ℕ → ℕ} {n i s : ℕ} (h : Summed most f n i s) where
  pub sum-next : {x : ℕ} → i < n → x ≡ f i → x ≤ most → Summed most f n (i + 1) (s + x)
  sum-next l e b = record { within = omega arith; total = sum-after i f h.total e; small = omega (arith, h.small) }

  pub sum_over : {k : ℕ} → n ≤ i → n ≡ k → s ≡ sum k (λ j _. f j)
  sum_over {k} l e =
      let q : i ≡ k = omega (arith, h.within) in
      h.total ∙ ap (λ (j : ℕ). sum j (λ a _. f a)) q
