-- A loop that counts the places below n that pass; and how many nodes are of a kind.
-- Assumes nothing.
use Prim.Native.Nat.{ℕ, ◌+◌, ◌≤◌, ◌<◌}
use native.Mathlib.Nat.{add-zero}
use native.Mathlib.Omega.{arith}
use mathlib.Core.Path.{◌≡◌, refl, sym, ◌∙◌, subst}
use mathlib.Core.Logic.{◌≢◌}
use mathlib.Core.Bool.{Bool, true, false}
use borrow.Author.Tests.{eq-eqb}
use lib.Dec.{eqb}
use Rattle.mdp.specs.Sums.{sum}
use Rattle.mdp.proofs.SumLaws.{sum_more, sum-few}
use Rattle.mdp.proofs.SumLoop.{Summed, sum-start, sum-next, sum_over}
use Rattle.folder.specs.Pick.{pick}
use Rattle.folder.proofs.PickLaws.{pick_all}
use Rattle.graph.specs.Simulation.{Simulation}
use Rattle.graph.specs.Table.{kind_count}

-- Of n places i are counted.
pub record Counted (ok : ℕ → Bool) (n i total : ℕ) : Type 0 where
  pub summed : Summed 1 (λ j. pick (ok j) 1 0) n i total

pub count-start : (ok : ℕ → Bool) (n : ℕ) → Counted ok n 0 0
count-start ok n = record { summed = sum-start 1 _ n }

module _ {ok : ℕ → Bool} {n i total : ℕ} (s : Counted ok n i total) where
  pub count-one : {t : ℕ} → i < n → ok i ≡ true → t ≡ total + 1 → Counted ok n (i + 1) t
  count-one l h e = rw e (record { summed = sum-next s.summed l (rw h refl) (omega arith) })

  pub count_none : {t : ℕ} → i < n → ok i ≡ false → t ≡ total → Counted ok n (i + 1) t
  count_none l h e = subst (Counted ok n (i + 1)) (add-zero total ∙ sym e) (record { summed = sum-next s.summed l (rw h refl) (omega arith) })

  pub count-over : {k : ℕ} → n ≤ i → n ≡ k → total ≡ sum k (λ j _. pick (ok j) 1 0)
  count-over l e = sum_over s.summed l e

-- At most all nodes are of a kind; and if none is counted then none is.
module _ (G : Simulation) (k : ℕ) where
  abbrev counts : ℕ → ℕ
  counts n = pick (eqb (G.kind n) k) 1 0

  pub kind-few : kind_count G k ≤ G.nodes
  kind-few = omega (arith, sum-few 1 G.nodes counts (λ n l. pick_all (λ (x : ℕ). x ≤ 1) (eqb (G.kind n) k) (omega arith) (omega arith)))

  pub none-of-kind : kind_count G k ≡ 0 → (n : ℕ) → n < G.nodes → G.kind n ≢ k
  none-of-kind z n l e =
      let one : counts n ≡ 1 = rw (eq-eqb (G.kind n) k e) refl in
      omega (arith, one, sum_more G.nodes counts n l)
