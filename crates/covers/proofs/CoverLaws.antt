-- Which kinds wait and which can cover, scans that start late, and what a covered node breaks.
-- Assumes nothing.
use Prim.Native.Nat.{ℕ, ◌+◌, ◌<◌, ◌≤◌}
use mathlib.Core.Path.{◌≡◌, refl, sym, ap, ◌∙◌}
use mathlib.Core.Bool.{Bool, true, false, false≢true, not, ◌&&◌, ◌||◌}
use mathlib.Core.List.{List}
use native.Mathlib.Decide.{dec_lt}
use native.Mathlib.Omega.{arith}
use borrow.Author.Tests.{lt-ltb, le-ltb, eq-eqb, ne_eqb, eqb-true}
use lib.Dec.{eqb}
use Rattle.mdp.specs.Kinds.{Kind}
use Rattle.folder.specs.Pick.{pick, implies}
use Rattle.folder.specs.Scan.{first_bad, all}
use Rattle.folder.specs.Contents.{field}
use Rattle.folder.proofs.ScanLaws.{Scanned, all_found, first-same, found}
use Rattle.expressions.specs.Limits.{no_variable}
use Rattle.expressions.specs.Reading.{has_bit}
use Rattle.expressions.specs.Mentions.{is_free, missing}
use Rattle.model.specs.Limits.{most_variables}
use Rattle.graph.specs.Simulation.{node_size, kind_of}
use Rattle.building.specs.Building.{is_open}
use Rattle.held.specs.Held.{cover_field, tracked_field}
use Rattle.std.specs.Prelude.{None, Some}
use Rattle.covers.specs.declared.Fault.TheVariants.{Apart, Untracked}
use Rattle.covers.specs.Covers.{is_waiting, at, agrees_in, can_cover_in, waits_in, adopted_in, fault_in, hint_at, lowered_hint, SomeWaits, LowestWaits}

-- ---- kinds
wait_by : (a b d : Bool) → ((not a && not b) && not d) ≡ is_waiting (pick a Kind.expanded (pick b Kind.covered (pick d Kind.target Kind.waiting)))
wait_by true b d = refl
wait_by false true d = refl
wait_by false false true = refl
wait_by false false false = refl

pub waiting-is : (k : ℕ) → ((not (eqb k 1) && not (eqb k 2)) && not (eqb k 3)) ≡ is_waiting (kind_of k)
unfolding kind_of
waiting-is k = wait_by (eqb k 1) (eqb k 2) (eqb k 3)

open_by : (a b d : Bool) → (b ≡ true → d ≡ false) → (a || d) ≡ is_open (pick a Kind.expanded (pick b Kind.covered (pick d Kind.target Kind.waiting)))
open_by true b d h = refl
open_by false true d h = h refl
open_by false false true h = refl
open_by false false false h = refl

pub open_is : (k : ℕ) → (eqb k 1 || eqb k 3) ≡ is_open (kind_of k)
unfolding kind_of
open_is k = open_by (eqb k 1) (eqb k 2) (eqb k 3) (λ e. ne_eqb k 3 (λ q. omega (arith, eqb-true k 2 e)))

-- ---- a field by the size that the code has worked out
pub field-by : (vars : ℕ) (nb : List ℕ) (n f : ℕ) {size x : ℕ} → size ≡ node_size vars → x ≡ field size nb n f → x ≡ at vars nb n f
field-by vars nb n f p e = e ∙ ap (λ (s : ℕ). field s nb n f) p

-- ---- a scan for the first that passes, from a number on below which none does
pub scan-from : (test : ℕ → Bool) {n i : ℕ} → i ≤ n → ((k : ℕ) → k < i → test k ≡ false) → Scanned (λ k. not (test k)) n i
scan-from test {i = i} l h = record { within = l; passed = all_found (λ k. not (test k)) i (λ k m. ap not (h k m)) }

-- ---- a node that can cover another
module _ (vars : ℕ) (nb : List ℕ) (n c : ℕ) {k : ℕ} {t : Bool} (p : k ≡ at vars nb c 0) (e : t ≡ is_open (kind_of k)) where
  open_at : t ≡ is_open (kind_of (at vars nb c 0))
  open_at = e ∙ ap (λ (x : ℕ). is_open (kind_of x)) p

  pub cover-open : {o : Bool} → t ≡ true → o ≡ agrees_in vars nb c n → o ≡ can_cover_in vars nb n c
  unfolding can_cover_in
  cover-open h q = rw (sym open_at ∙ h) q

  pub cover-shut : t ≡ false → false ≡ can_cover_in vars nb n c
  unfolding can_cover_in
  cover-shut h = rw (sym open_at ∙ h) refl

pub waits-is : (vars : ℕ) (nb : List ℕ) (n : ℕ) {k : ℕ} {t : Bool} → k ≡ at vars nb n 0 → t ≡ is_waiting (kind_of k) → t ≡ waits_in vars nb n
unfolding waits_in
waits-is vars nb n p e = e ∙ ap (λ (x : ℕ). is_waiting (kind_of x)) p

-- ---- all of m is in t where nothing is missing
not_free : (a b : Bool) → not (a && not b) ≡ implies a b
not_free true true = refl
not_free true false = refl
not_free false b = refl

module _ (n m t : ℕ) where
  abbrev among : ℕ → Bool
  among v = implies (has_bit m v) (has_bit t v)

  free-same : first_bad (λ v. not (is_free m t v)) n ≡ first_bad among n
  free-same = first-same (λ v. not (is_free m t v)) among n (λ v l. not_free (has_bit m v) (has_bit t v))

  missing_at : first_bad among n < n → missing n m t ≡ first_bad among n
  unfolding missing
  missing_at l = rw (free-same, lt-ltb (first_bad among n) n l) refl

  missing-none : first_bad among n ≡ n → missing n m t ≡ no_variable
  unfolding missing
  missing-none e = rw (free-same, e, le-ltb n n (omega arith)) refl

  module _ {r : ℕ} (e : r ≡ missing n m t) where
    all_among : n ≤ most_variables → r ≡ no_variable → all among n ≡ true
    all_among small q = eq-eqb (first_bad among n) n (go (dec_lt (first_bad among n) n))
      where
        go : Dec (first_bad among n < n) → first_bad among n ≡ n
        go (yes l) = absurd (omega (arith, missing_at l))
        go (no g) = omega (arith, (found among n).within)

    not-among : (r ≡ no_variable → ⊥) → all among n ≡ false
    not-among f = ne_eqb (first_bad among n) n (λ z. f (e ∙ missing-none z))

-- ---- what a covered node breaks
module _ (vars : ℕ) (nb : List ℕ) (n : ℕ) {c : ℕ} (p : c ≡ at vars nb n cover_field) {o : Bool} (a : o ≡ agrees_in vars nb c n) where
  agree_at : o ≡ agrees_in vars nb (at vars nb n cover_field) n
  agree_at = a ∙ ap (λ (k : ℕ). agrees_in vars nb k n) p

  pub fault-label : o ≡ false → Some Apart ≡ fault_in vars nb n
  unfolding fault_in
  fault-label h = rw (sym agree_at ∙ h) refl

  module _ (h : o ≡ true) {t s r : ℕ} (u : t ≡ at vars nb c tracked_field) (w : s ≡ at vars nb n tracked_field) (e : r ≡ missing vars t s) where
    adopted-is : all (among vars t s) vars ≡ adopted_in vars nb n
    adopted-is i = all (λ v. implies (has_bit ((u ∙ ap (λ (k : ℕ). at vars nb k tracked_field) p) i) v) (has_bit (w i) v)) vars

    pub fault-none : vars ≤ most_variables → r ≡ no_variable → None ≡ fault_in vars nb n
    unfolding fault_in
    fault-none l q = rw (sym agree_at ∙ h, sym adopted-is ∙ all_among vars t s e l q) refl

    pub fault-set : (r ≡ no_variable → ⊥) → Some Untracked ≡ fault_in vars nb n
    unfolding fault_in
    fault-set f = rw (sym agree_at ∙ h, sym adopted-is ∙ not-among vars t s e f) refl

-- ---- a hint
module _ (vars : ℕ) (nb : List ℕ) (n i : ℕ) {hint : ℕ} (p : hint ≡ hint_at vars nb i) where
  module _ (l : n < hint) {o : Bool} (e : o ≡ agrees_in vars nb n i) where
    pub hint-lowered : o ≡ true → n ≡ lowered_hint vars nb n i
    unfolding lowered_hint
    hint-lowered h = rw (lt-ltb n (hint_at vars nb i) (omega arith), sym e ∙ h) refl

    pub hint-apart : o ≡ false → hint ≡ lowered_hint vars nb n i
    unfolding lowered_hint
    hint-apart h = rw (lt-ltb n (hint_at vars nb i) (omega arith), sym e ∙ h) p

  pub hint-low : hint ≤ n → hint ≡ lowered_hint vars nb n i
  unfolding lowered_hint
  hint-low l = rw (le-ltb n (hint_at vars nb i) (omega arith)) p

-- ---- the lowest node that waits, where some node does
module _ {vars : ℕ} {nb : List ℕ} {n : ℕ} (S : SomeWaits vars nb n) {t : Bool} (e : t ≡ waits_in vars nb n) where
  pub waits-next : t ≡ false → SomeWaits vars nb (n + 1)
  waits-next h =
      let d : S.node ≡ n → ⊥ = λ q. false≢true (sym h ∙ e ∙ ap (waits_in vars nb) (sym q) ∙ S.waits) in
      record { node = S.node; later = omega (arith, S.later); within = S.within; waits = S.waits; below = λ i l. go i l (dec_lt i n) }
    where
      go : (i : ℕ) → i < n + 1 → Dec (i < n) → waits_in vars nb i ≡ false
      go i l (yes k) = S.below i k
      go i l (no k) = let q : i ≡ n = omega arith in ap (waits_in vars nb) q ∙ sym e ∙ h

  pub waits-found : t ≡ true → LowestWaits vars nb n
  waits-found h = record { waits = sym e ∙ h; below = S.below }
