-- The slots row as the code goes over it.
-- Assumes nothing.
use Prim.Native.Nat.{ℕ, ◌+◌, ◌/◌, ◌%◌, ◌≤◌, ◌<◌, zero-le}
use mathlib.Core.Path.{◌≡◌, refl, sym, ap, ◌∙◌}
use mathlib.Core.Bool.{Bool, true, false, not}
use mathlib.Core.List.{List}
use native.Mathlib.Nat.{mod-mod, add-zero}
use native.Mathlib.Omega.{arith}
use borrow.Author.Tests.{ltb-true, ltb-false, eqb-true, eqb-false, eq-eqb, ne_eqb, not-true}
use lib.ListN.{length, get_or, set}
use lib.Dec.{ltb, eqb}
use lib.IntN.{ℤ}
use Rattle.folder.specs.Pick.{pick}
use Rattle.folder.specs.Fields.{field_limit}
use Rattle.folder.specs.Tab.{tab}
use Rattle.folder.proofs.Decides.{and_both}
use Rattle.folder.proofs.ScanLaws.{Scanned, scan-start, scan-next, scan-found, scan-over}
use Rattle.folder.proofs.TabLaws.{length-tab, get_or-tab, get_or-within}
use Rattle.hash.specs.Hash.{hash_of}
use Rattle.slots.specs.Slots.{no_node, same_state, is_free, slot_from, slots_after, pass_on, stop_at}
use Rattle.slots.specs.Nodes.{label_in, high_of, Hashed, other_hash, passes, stop_in, entering}
use Rattle.slots.proofs.Rounds.{same-states, round-more, round-end}
use Rattle.slots.proofs.Probing.{enters, enters-not}

-- ---- hashes
pub high_is : (x : List ℤ) {h r : ℕ} → h ≡ hash_of x → r ≡ h / field_limit → r ≡ high_of x
unfolding high_of
high_is x e q = q ∙ ap (λ (k : ℕ). k / field_limit) e

pub hashed : (vars : ℕ) (nb hashes₀ : List ℕ) {hashes : List ℕ} → length hashes₀ ≤ no_node → hashes ≡ tab (length hashes₀) (λ n. high_of (label_in vars nb n)) → Hashed vars nb hashes
hashed vars nb hashes₀ {hashes} few e =
    let long : length hashes ≡ length hashes₀ = ap length e ∙ length-tab (length hashes₀) _ in
    record {
      few = omega arith;
      is = λ n l. ap (λ (row : List ℕ). get_or row n 0) e ∙ get_or-tab 0 (length hashes₀) (λ n. high_of (label_in vars nb n)) n (omega arith);
    }

-- A node whose hash has another half has another label, and its slot is passed.
pub other-hash : {vars : ℕ} {nb hashes : List ℕ} → Hashed vars nb hashes → (r : ℕ) (x : List ℤ) {h : ℕ} → h ≡ high_of x → other_hash hashes r h ≡ true → true ≡ passes vars nb r x
other-hash {vars} {nb} {hashes} k r x {h} e d = rw (ne_eqb r no_node (λ q. omega (arith, k.few, l))) (go (same_state (label_in vars nb r) x) refl)
  where
    both : (ltb r (length hashes) ≡ true) × (not (eqb (get_or hashes r 0) h) ≡ true)
    both = and_both (ltb r (length hashes)) (not (eqb (get_or hashes r 0) h)) d

    l : r < length hashes
    l = ltb-true r (length hashes) both.0

    go : (t : Bool) → same_state (label_in vars nb r) x ≡ t → true ≡ not t
    go true s = absurd (eqb-false (get_or hashes r 0) h (not-true (eqb (get_or hashes r 0) h) both.1) (k.is r l ∙ ap high_of ((same-states _ x).yes s) ∙ sym e))
    go false s = refl

-- ---- the loop of a look-up: d slots are passed, and p is the next
pub record Probed (vars : ℕ) (nb row : List ℕ) (x : List ℤ) (p d : ℕ) : Type 0 where
  pub at : p ≡ slot_from (length row) x d
  pub small : p < length row
  pub passed : Scanned (pass_on (label_in vars nb) (length row) row x) (length row) d

module _ (vars : ℕ) (nb row : List ℕ) (x : List ℤ) where
  pub probe_start : {p : ℕ} → p ≡ hash_of x % length row → p < length row → Probed vars nb row x p 0
  unfolding slot_from
  probe_start e l = record {
    at = e ∙ sym (mod-mod (hash_of x) (length row)) ∙ ap (λ (k : ℕ). k % length row) (sym (add-zero (hash_of x % length row)));
    small = l;
    passed = scan-start _ _;
  }

module _ {vars : ℕ} {nb row : List ℕ} {x : List ℤ} {p d : ℕ} (h : Probed vars nb row x p d) where
  -- What the code's test of the slot answers.
  tested : {t : Bool} → t ≡ passes vars nb (get_or row p 0) x → t ≡ pass_on (label_in vars nb) (length row) row x d
  unfolding pass_on
  tested e = rw (← h.at) (e ∙ ap (λ (r : ℕ). passes vars nb r x) (get_or-within row p 0 no_node h.small))

  next-is : {q : ℕ} → 0 < length row → q ≡ pick (ltb (p + 1) (length row)) (p + 1) 0 → q ≡ slot_from (length row) x (d + 1)
  unfolding slot_from
  next-is {q} some e = go (ltb (p + 1) (length row)) refl
    where
      go : (t : Bool) → ltb (p + 1) (length row) ≡ t → q ≡ (hash_of x % length row + (d + 1)) % length row
      go true u =
          let l : p + 1 < length row = ltb-true _ _ u in
          e ∙ rw u (ap (λ (k : ℕ). k + 1) h.at ∙ round-more (length row) (hash_of x % length row) d (omega (arith, h.at)))
      go false u =
          let l : length row ≤ p + 1 = ltb-false _ _ u in
          e ∙ rw u (round-end (length row) (hash_of x % length row) d some (omega (arith, h.at)))

  pub probe-next : {t : Bool} {q : ℕ} → d < length row → t ≡ passes vars nb (get_or row p 0) x → t ≡ true
      → q ≡ pick (ltb (p + 1) (length row)) (p + 1) 0 → q < length row → Probed vars nb row x q (d + 1)
  probe-next l e u s m = record { at = next-is (omega arith) s; small = m; passed = scan-next h.passed l (tested e) u }

  pub probe_found : {t : Bool} → d < length row → t ≡ passes vars nb (get_or row p 0) x → t ≡ false → p ≡ stop_in vars nb row x
  unfolding stop_at
  probe_found l e u = h.at ∙ ap (slot_from (length row) x) (scan-found h.passed l (tested e) u)

  pub probe-over : length row ≤ d → p ≡ stop_in vars nb row x
  unfolding stop_at
  probe-over l = h.at ∙ ap (slot_from (length row) x) (scan-over h.passed l)

-- ---- the label that is loaded
pub label-long : (vars : ℕ) (nb : List ℕ) (n : ℕ) {key : List ℤ} → key ≡ label_in vars nb n → length key ≡ vars
label-long vars nb n k = ap length k ∙ length-tab vars _

-- ---- a look-up of node n's label, which stands in key
module _ (nb : List ℕ) (vars n : ℕ) (row : List ℕ) {key : List ℤ} (k : key ≡ label_in vars nb n) where
  own-stop : stop_in (length key) nb row key ≡ stop_in vars nb row (label_in vars nb n)
  own-stop = rw (label-long vars nb n k) (ap (stop_in vars nb row) k)

  pub found-own : {r : ℕ} → r ≡ get_or row (stop_in (length key) nb row key) no_node → r ≡ get_or row (stop_in vars nb row (label_in vars nb n)) no_node
  found-own e = e ∙ ap (λ (p : ℕ). get_or row p no_node) own-stop

  -- ---- and node n enters at p, or does not
  module _ {p : ℕ} (e : p ≡ stop_in (length key) nb row key) (l : p < length row) where
    at : p ≡ stop_in vars nb row (label_in vars nb n)
    at = e ∙ own-stop

    pub enter-free : get_or row p 0 ≡ no_node → set row p n ≡ entering vars nb n row
    unfolding entering
    enter-free f = rw (← at, eq-eqb _ _ (sym (get_or-within row p 0 no_node l) ∙ f)) refl

    pub enter-full : (get_or row p 0 ≡ no_node → ⊥) → row ≡ entering vars nb n row
    unfolding entering
    enter-full f = rw (← at, ne_eqb _ _ (λ q. f (get_or-within row p 0 no_node l ∙ q))) refl

-- ---- the loop in which the nodes enter
pub record EnteredTo (vars : ℕ) (nb : List ℕ) (slots n : ℕ) (row : List ℕ) (i : ℕ) : Type 0 where
  pub within : i ≤ n
  pub long : length row ≡ slots
  pub is : row ≡ slots_after (label_in vars nb) slots i

module _ (vars : ℕ) (nb : List ℕ) (slots n : ℕ) where
  pub enter-start : {row : List ℕ} → row ≡ tab slots (λ p. no_node) → EnteredTo vars nb slots n row 0
  unfolding slots_after
  enter-start e = record { within = zero-le; long = ap length e ∙ length-tab slots _; is = e }

  module _ {row : List ℕ} {i : ℕ} (h : EnteredTo vars nb slots n row i) (l : i < n) (fit : n < slots) (mark : n ≤ no_node) where
    entered-is : (t : Bool) → is_free row (stop_at (label_in vars nb) slots row (label_in vars nb i)) ≡ t
        → pick (is_free row (stop_at (label_in vars nb) slots row (label_in vars nb i))) (set row (stop_at (label_in vars nb) slots row (label_in vars nb i)) i) row ≡ slots_after (label_in vars nb) slots (i + 1)
    entered-is true t = rw t (enters slots (label_in vars nb) (omega arith) i (omega arith) (omega arith) h.is (eqb-true _ _ t))
    entered-is false t = rw t (enters-not slots (label_in vars nb) (omega arith) i (omega arith) (omega arith) h.is (eqb-false _ _ t))

    pub enter-next : {after : List ℕ} → after ≡ entering vars nb i row → length after ≡ length row → EnteredTo vars nb slots n after (i + 1)
    unfolding entering
    enter-next e m = record {
      within = omega arith;
      long = m ∙ h.long;
      is = e ∙ rw h.long (entered-is _ refl);
    }

  pub enter-over : {row : List ℕ} {i : ℕ} → EnteredTo vars nb slots n row i → n ≤ i → row ≡ slots_after (label_in vars nb) slots n
  enter-over {row} {i} h l =
      let q : i ≡ n = omega (arith, h.within) in
      h.is ∙ ap (slots_after (label_in vars nb) slots) q
