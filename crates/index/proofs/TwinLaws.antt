-- Which nodes are listed, by marks at the lowest node of each label.
-- Assumes nothing.
use Prim.Native.Nat.{ℕ, ◌+◌, ◌≤◌, ◌<◌}
use mathlib.Core.Path.{◌≡◌, refl, sym, ap, ◌∙◌}
use mathlib.Core.Bool.{Bool, true, false, not, ◌&&◌, and-true, and-false}
use mathlib.Core.List.{List}
use native.Mathlib.Numerals.{add-one}
use native.Mathlib.Omega.{arith}
use borrow.Author.Tests.{eq-eqb, ne_eqb, eqb-true, eqb-false, ltb-true, ltb-false, lt-ltb, not-false, not-true}
use lib.ListN.{get_or, set, replicate, length-set, length-replicate}
use lib.Seq.{get_or-set_same, get_or-set_other}
use lib.Dec.{ltb, eqb}
use lib.IntN.{ℤ}
use Rattle.folder.specs.Scan.{first_bad}
use Rattle.folder.proofs.Decides.{everywhere, unless, all-suc}
use Rattle.folder.proofs.ScanLaws.{found, stops-by}
use Rattle.folder.proofs.FillLaws.{get_or-still}
use Rattle.slots.specs.Slots.{same_state, lowest, is_new}
use Rattle.slots.specs.Nodes.{label_in}
use Rattle.slots.proofs.Rounds.{same-states}
use Rattle.index.specs.Twins.{unseen, is_listed}
use Rattle.index.specs.Ready.{nodes_in, uncovered_in, listed_in, Seen}

module _ (label : ℕ → List ℤ) where
  new-says : (j : ℕ) → is_new label j ≡ true → (i : ℕ) → i < j → label i ≡ label j → ⊥
  unfolding is_new
  new-says j new = (everywhere j (λ i m. unless (same-states (label i) (label j)))).yes new

  -- Two nodes that are the lowest of one label are one.
  new-one : (i j : ℕ) → is_new label i ≡ true → is_new label j ≡ true → label i ≡ label j → i ≡ j
  new-one i j p q e = go (ltb i j) refl (ltb j i) refl
    where
      go : (s : Bool) → ltb i j ≡ s → (t : Bool) → ltb j i ≡ t → i ≡ j
      go true u t v = absurd (new-says j q i (ltb-true i j u) e)
      go false u true v = absurd (new-says i p j (ltb-true j i v) (sym e))
      go false u false v = omega (arith, ltb-false i j u, ltb-false j i v)

  -- r is the lowest node with the label of node n.
  pub record Own (nodes n r : ℕ) : Type 0 where
    pub small : r < nodes
    pub new : is_new label r ≡ true
    pub is : label r ≡ label n

  pub lowest-own : (nodes n : ℕ) → n < nodes → Own nodes n (lowest label nodes (label n))
  unfolding lowest is_new
  lowest-own nodes n l =
      let b : k ≤ n = stops-by ok nodes n l (ap not ((same-states (label n) (label n)).no refl)) in
      let m : k < nodes = omega arith in
      let same : label k ≡ label n = (same-states (label k) (label n)).yes (not-false _ ((found ok nodes).broken m)) in
      rw (lt-ltb k nodes m) (record {
        small = m;
        new = (everywhere k (λ i w. unless (same-states (label i) (label k)))).no (λ i w e. (unless (same-states (label i) (label n))).yes ((found ok nodes).before i w) (e ∙ same));
        is = same;
      })
    where
      ok : ℕ → Bool
      ok i = not (same_state (label i) (label n))

      k : ℕ
      k = first_bad ok nodes

module _ (label : ℕ → List ℤ) (uncovered : ℕ → Bool) where
  unseen-more : (n : ℕ) (x : List ℤ) → unseen label uncovered (n + 1) x ≡ (unseen label uncovered n x && not (uncovered n && same_state (label n) x))
  unfolding unseen
  unseen-more n x = rw add-one (all-suc (λ i. not (uncovered i && same_state (label i) x)) n)

  unseen-keeps : (n : ℕ) (x : List ℤ) → (uncovered n && same_state (label n) x) ≡ false → unseen label uncovered (n + 1) x ≡ unseen label uncovered n x
  unseen-keeps n x e = unseen-more n x ∙ rw (e, and-true) refl

  unseen-ends : (n : ℕ) (x : List ℤ) → (uncovered n && same_state (label n) x) ≡ true → unseen label uncovered (n + 1) x ≡ false
  unseen-ends n x e = unseen-more n x ∙ rw (e, and-false) refl

  pub listed-not : (n : ℕ) → uncovered n ≡ false → is_listed label uncovered n ≡ false
  unfolding is_listed
  listed-not n e = rw e refl

  listed_by : (n : ℕ) → uncovered n ≡ true → is_listed label uncovered n ≡ not (unseen label uncovered n (label n))
  unfolding is_listed
  listed_by n e = rw e refl

other-state : (x y : List ℤ) → (x ≡ y → ⊥) → same_state x y ≡ false
other-state x y f = not-true _ ((unless (same-states x y)).no f)

module _ (vars : ℕ) (nb : List ℕ) {n : ℕ} {row : List ℕ} (h : Seen vars nb n row) where
  abbrev label : ℕ → List ℤ
  label = label_in vars nb

  abbrev free : ℕ → Bool
  free = uncovered_in vars nb

  -- ---- node n is covered
  pub seen_covered : free n ≡ false → Seen vars nb (n + 1) row
  seen_covered e = record {
    long = h.long;
    marks = λ r l new. h.marks r l new ∙ sym (unseen-keeps label free n (label r) (rw e refl));
  }

  -- ---- it is uncovered, and r is the lowest node with its label
  module _ (e : free n ≡ true) {r : ℕ} (o : Own label (nodes_in vars nb) n r) where
    marked : eqb (get_or row r 0) 0 ≡ unseen label free n (label n)
    marked = h.marks r o.small o.new ∙ ap (unseen label free n) o.is

    ends : unseen label free (n + 1) (label r) ≡ false
    ends = unseen-ends label free n (label r) (rw e ((same-states (label n) (label r)).no (sym o.is)))

    keeps : (q : ℕ) → is_new label q ≡ true → (q ≡ r → ⊥) → unseen label free (n + 1) (label q) ≡ unseen label free n (label q)
    keeps q new f = unseen-keeps label free n (label q) (rw e (other-state (label n) (label q) (λ s. f (new-one label q r new o.new (sym s ∙ sym o.is)))))

    -- The first of its label.
    module _ (z : get_or row r 0 ≡ 0) where
      pub first-listed : listed_in vars nb n ≡ false
      first-listed = listed_by label free n e ∙ ap not (sym marked ∙ eq-eqb _ _ z)

      first_marks : (q : ℕ) → q < nodes_in vars nb → is_new label q ≡ true → (t : Bool) → eqb q r ≡ t → eqb (get_or (set row r 1) q 0) 0 ≡ unseen label free (n + 1) (label q)
      first_marks q l new true t =
          let s : q ≡ r = eqb-true q r t in
          rw (s, get_or-set_same row r 1 0 (omega (arith, o.small, h.long))) (sym ends)
      first_marks q l new false t =
          let f : q ≡ r → ⊥ = eqb-false q r t in
          rw (get_or-set_other row r q 1 0 f) (h.marks q l new ∙ sym (keeps q new f))

      pub seen_first : Seen vars nb (n + 1) (set row r 1)
      seen_first = record { long = rw (length-set row r 1) h.long; marks = λ q l new. first_marks q l new (eqb q r) refl }

    -- One like it was seen.
    module _ (z : get_or row r 0 ≡ 0 → ⊥) where
      pub again-listed : listed_in vars nb n ≡ true
      again-listed = listed_by label free n e ∙ ap not (sym marked ∙ ne_eqb _ _ z)

      again-marks : (q : ℕ) → q < nodes_in vars nb → is_new label q ≡ true → (t : Bool) → eqb q r ≡ t → eqb (get_or row q 0) 0 ≡ unseen label free (n + 1) (label q)
      again-marks q l new true t = let s : q ≡ r = eqb-true q r t in rw s (ne_eqb _ _ z ∙ sym ends)
      again-marks q l new false t = h.marks q l new ∙ sym (keeps q new (eqb-false q r t))

      pub seen-again : Seen vars nb (n + 1) row
      seen-again = record { long = h.long; marks = λ q l new. again-marks q l new (eqb q r) refl }

-- ---- no node was seen
pub seen_none : (vars : ℕ) (nb : List ℕ) (k : ℕ) → nodes_in vars nb ≤ k → Seen vars nb 0 (replicate k 0)
unfolding unseen first_bad
seen_none vars nb k l = record { long = rw (length-replicate {A = ℕ} k 0) l; marks = λ r m new. eq-eqb _ _ (get_or-still {A = ℕ} 0 k r) }
