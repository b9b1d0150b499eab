-- Document 02, 2.2: what reads unknown mentions a variable that is not tracked, and `missing` is the lowest.
-- Assumes nothing.
use Prim.Native.Nat.{ℕ, ◌<◌}
use mathlib.Core.Path.{◌≡◌, refl, sym, ◌∙◌}
use mathlib.Core.Bool.{Bool, true, false, not, ◌&&◌}
use mathlib.Core.List.{List}
use native.Mathlib.Decide.{dec_lt}
use native.Mathlib.Omega.{arith}
use borrow.Author.Tests.{lt-ltb, le-ltb, not-true, not-false}
use lib.ListN.{get_or}
use lib.IntN.{ℤ, pos}
use Rattle.folder.specs.Pick.{pick}
use Rattle.folder.specs.Scan.{first_bad}
use Rattle.folder.proofs.ScanLaws.{found, all_found}
use Rattle.folder.proofs.Decides.{and_both}
use Rattle.expressions.specs.Limits.{no_variable}
use Rattle.expressions.specs.Entries.{Entries}
use Rattle.expressions.specs.Reading.{has_bit, known_truth, look_in, read_number, read_truth}
use Rattle.expressions.specs.Mentions.{mentions, is_free, missing, Lowest}
use Rattle.expressions.specs.Right.{IsNumber, IsTruth, EntryRight}
use Rattle.expressions.specs.ThreeWay.{Number}
use Rattle.expressions.proofs.Bits.{no-bit}
use Rattle.expressions.proofs.Mentions.{Agree, number-reads, truth-reads}
use Rattle.expressions.proofs.Whole.{whole-number, whole-truth}
use Rattle.std.specs.Prelude.{None, Some}

module _ (n m t : ℕ) where
  abbrev tracked-or-not-there : ℕ → Bool
  tracked-or-not-there v = not (is_free m t v)

  -- No variable of n is in m and not in t.
  abbrev pub NoneFree : Type 0
  NoneFree = (v : ℕ) → v < n → is_free m t v ≡ false

  lowest : (NoneFree → ⊥) → Lowest n m t (missing n m t)
  unfolding missing
  lowest f = go (dec_lt (first_bad tracked-or-not-there n) n)
    where
      go : Dec (first_bad tracked-or-not-there n < n) → Lowest n m t (missing n m t)
      go (yes l) =
          let w = found tracked-or-not-there n in
          let b = and_both (has_bit m (first_bad tracked-or-not-there n)) (not (has_bit t (first_bad tracked-or-not-there n))) (not-false _ (w.broken l)) in
          rw (lt-ltb (first_bad tracked-or-not-there n) n l) (record { there = l; mentioned = b.0; untracked = not-true _ b.1; least = λ v k. not-true _ (w.before v k) })
      go (no g) = let w = found tracked-or-not-there n in absurd (f (λ v k. not-true _ (w.before v (omega (arith, w.within)))))

-- Of the empty set nothing is missing.
pub none-missing : (n t : ℕ) → missing n 0 t ≡ no_variable
unfolding missing
none-missing n t =
    rw (all_found (λ v. not (is_free 0 t v)) n (λ v l. rw (no-bit 0 0 v (omega arith) (omega arith)) refl), le-ltb n n (omega arith))
    refl

tracked : (m t v : ℕ) → is_free m t v ≡ false → has_bit m v ≡ true → has_bit t v ≡ true
tracked m t v f q = go (has_bit t v) (rw q at f)
  where
    go : (b : Bool) → (true && not b) ≡ false → b ≡ true
    go true e = refl
    go false e = sym e

pub never-known : (b : Bool) → None ≡ known_truth b → ⊥
never-known true q = let k : ◌≡◌ {A = ℕ} 0 1 = cc in omega arith
never-known false q = let k : ◌≡◌ {A = ℕ} 0 1 = cc in omega arith

module _ (x : Entries) (n : ℕ) (right : (e : ℕ) → e < x.count → EntryRight x n e) (t : ℕ) (v : List ℤ) (e : ℕ) where
  -- Where all that entry e mentions is tracked, it reads as in a label that knows the rest too, so that it is known.
  module _ (none : NoneFree n (mentions x e) t) where
    rest : ℕ → Number
    rest i = pick (has_bit (mentions x e) i) (look_in t v i) (Some (pos 0))

    rest-agrees : Agree (look_in t v) rest (mentions x e)
    unfolding rest
    rest-agrees = record { on = λ i q. rw q refl }

    rest-told : (i : ℕ) → i < n → (z : ℤ) × (rest i ≡ Some z)
    unfolding rest look_in
    rest-told i l = go (has_bit (mentions x e) i) refl
      where
        go : (b : Bool) → has_bit (mentions x e) i ≡ b → (z : ℤ) × (pick b (pick (has_bit t i) (Some (get_or v i (pos 0))) None) (Some (pos 0)) ≡ Some z)
        go true q = (get_or v i (pos 0), rw (tracked (mentions x e) t i (none i l) q) refl)
        go false q = (pos 0, refl)

    pub number-told : IsNumber x e → (z : ℤ) × (read_number x (look_in t v) e ≡ Some z)
    number-told s = let w = whole-number x n right rest rest-told e s in (w.0, number-reads x (look_in t v) rest e rest-agrees ∙ w.1)

    pub truth-told : IsTruth x e → (b : Bool) × (read_truth x (look_in t v) e ≡ known_truth b)
    truth-told s = let w = whole-truth x n right rest rest-told e s in (w.0, truth-reads x (look_in t v) rest e rest-agrees ∙ w.1)

  pub number-lacks : IsNumber x e → read_number x (look_in t v) e ≡ None → Lowest n (mentions x e) t (missing n (mentions x e) t)
  number-lacks s o = lowest n (mentions x e) t (λ f. let k : ◌≡◌ {A = ℕ} 0 1 = cc (number-told f s).1 in omega arith)

  pub truth-lacks : IsTruth x e → read_truth x (look_in t v) e ≡ None → Lowest n (mentions x e) t (missing n (mentions x e) t)
  truth-lacks s o = lowest n (mentions x e) t (λ f. let w = truth-told f s in never-known w.0 (sym o ∙ w.1))
