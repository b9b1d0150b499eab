-- The lowest node that waits, and the lowest that can cover it: what a scan finds in the records is what the building has.
-- Assumes nothing.
use Rattle.std.specs.Prelude.{Option, None, Some}
use Prim.Native.Nat.{ℕ, ◌<◌, ◌≤◌}
use mathlib.Core.Path.{◌≡◌, refl, sym, ap, ◌∙◌}
use mathlib.Core.Bool.{true, false, not, false≢true, ◌&&◌}
use mathlib.Core.List.{List}
use native.Mathlib.Decide.{dec_lt}
use native.Mathlib.Omega.{arith}
use borrow.Author.Tests.{not-true, not-false}
use Rattle.mdp.specs.Kinds.{Kind}
use Rattle.folder.specs.Fields.{field_limit}
use Rattle.folder.specs.Scan.{first_bad}
use Rattle.folder.proofs.ScanLaws.{found}
use Rattle.model.specs.Layout.{variable_count}
use Rattle.model.specs.Limits.{most_variables}
use Rattle.model.specs.Model.{model_of}
use Rattle.graph.specs.Limits.{most_nodes}
use Rattle.building.specs.First.{◌orelse◌, given, onward}
use Rattle.building.specs.Building.{Building, is_open}
use Rattle.building.specs.Length.{waiting_count}
use Rattle.building.specs.Moves.{Move, cover_by, Limit, waits, can_cover, lowest_waiting, lowest_cover, opening, growth}
use Rattle.building.specs.Working.{HintRight, NextRight}
use Rattle.building.proofs.FirstLaws.{first-here, first-nowhere}
use Rattle.building.proofs.Counting.{none-waits, one-of-them}
use Rattle.held.specs.Held.{held_in}
use Rattle.wants.specs.Standing.{hint_in, Held}
use Rattle.covers.specs.Covers.{is_waiting, can_cover_in, waits_in, hint_at, SomeWaits, LowestWaits}
use Rattle.repairs.proofs.Linked.{kind-here, contains-here}

-- Node k can cover node n, by the records.
can-here : (m : List ℕ) (nodes : ℕ) (nb : List ℕ) (n : ℕ) → n < nodes → (k : ℕ) → k < nodes → can_cover (model_of m) (held_in m nodes nb) n k ≡ can_cover_in (variable_count m) nb n k
unfolding can_cover_in
can-here m nodes nb n l k h = λ i. is_open (kind-here m nodes nb k h i) && contains-here m nodes nb n l k h i

-- ---- kinds that wait
kind-waits : (κ : Kind) (n : ℕ) → is_waiting κ ≡ true → waits κ n ≡ Some n
kind-waits Kind.waiting n h = refl
kind-waits Kind.expanded n h = absurd (false≢true h)
kind-waits Kind.covered n h = absurd (false≢true h)
kind-waits Kind.target n h = absurd (false≢true h)

kind-stands : (κ : Kind) (n : ℕ) → is_waiting κ ≡ false → waits κ n ≡ None
kind-stands Kind.waiting n h = absurd (false≢true (sym h))
kind-stands Kind.expanded n h = refl
kind-stands Kind.covered n h = refl
kind-stands Kind.target n h = refl

not-waiting : (κ : Kind) → (κ ≡ Kind.waiting → ⊥) → is_waiting κ ≡ false
not-waiting Kind.waiting h = absurd (h refl)
not-waiting Kind.expanded h = refl
not-waiting Kind.covered h = refl
not-waiting Kind.target h = refl

module _ (m : List ℕ) (nodes : ℕ) (nb : List ℕ) where
  abbrev B : Building
  B = held_in m nodes nb

  waits-here : (n : ℕ) → n < nodes → is_waiting (B.kind n) ≡ waits_in (variable_count m) nb n
  unfolding waits_in
  waits-here n l = ap is_waiting (kind-here m nodes nb n l)

  -- None is counted.
  waiting_none : waiting_count (held_in m nodes nb) ≡ 0 → lowest_waiting (model_of m) (held_in m nodes nb) ≡ None
  unfolding lowest_waiting
  waiting_none e = first-nowhere (λ n. waits (B.kind n) n) nodes (λ i l. kind-stands (B.kind i) i (not-waiting (B.kind i) (none-waits B e i l)))

  module _ {vars : ℕ} (p : vars ≡ variable_count m) where
    waits-by : (i : ℕ) → i < nodes → waits_in vars nb i ≡ is_waiting (B.kind i)
    waits-by i l = ap (λ (v : ℕ). waits_in v nb i) p ∙ sym (waits-here i l)

    -- One is, and no node below `next` waits.
    pub waiting-there : nodes ≤ most_nodes → {next : ℕ} → next ≤ nodes → NextRight (model_of m) (held_in m nodes nb) next → (waiting_count (held_in m nodes nb) ≡ 0 → ⊥) → SomeWaits vars nb next
    waiting-there most {next} few R h =
        let x = one-of-them B h in
        record {
          node = x.0;
          later = go x.0 (dec_lt x.0 next) x.1 x.2;
          within = omega (arith, x.1);
          waits = waits-by x.0 x.1 ∙ ap is_waiting x.2;
          below = λ i l. waits-by i (omega arith) ∙ not-waiting (B.kind i) (R.is i (omega arith) l);
        }
      where
        go : (i : ℕ) → Dec (i < next) → i < nodes → B.kind i ≡ Kind.waiting → next ≤ i
        go i (yes l) h k = absurd (R.is i h l k)
        go i (no d) h k = omega arith

    module _ {r : ℕ} (e : LowestWaits vars nb r) where
      pub waiting-within : (waiting_count (held_in m nodes nb) ≡ 0 → ⊥) → r < nodes
      waiting-within h = let x = one-of-them B h in go x (dec_lt x.0 r)
        where
          go : (x : (i : ℕ) × (i < nodes) × (B.kind i ≡ Kind.waiting)) → Dec (x.0 < r) → r < nodes
          go x (yes l) = absurd (false≢true (sym (e.below x.0 l) ∙ waits-by x.0 x.1 ∙ ap is_waiting x.2))
          go x (no d) = omega (arith, x.1)

      pub waiting-some : r < nodes → lowest_waiting (model_of m) (held_in m nodes nb) ≡ Some r
      unfolding lowest_waiting
      waiting-some l =
          first-here (λ n. waits (B.kind n) n) nodes r r l (λ j h. kind-stands (B.kind j) j (sym (waits-by j (omega arith)) ∙ e.below j h))
          (kind-waits (B.kind r) r (sym (waits-by r l) ∙ e.waits))

    -- Covers of node n.
    module _ (n : ℕ) (l : n < nodes) where
      pub hint-within : {fresh : ℕ} → HintRight (model_of m) (held_in m nodes nb) (hint_in m nb) fresh → hint_at vars nb n ≤ nodes
      hint-within R = rw p (R.within n l)

      pub none-covers : {fresh : ℕ} → HintRight (model_of m) (held_in m nodes nb) (hint_in m nb) fresh → nodes ≤ fresh → (c : ℕ) → c < hint_at vars nb n → can_cover_in vars nb n c ≡ false
      none-covers R past c h =
          let w = hint-within R in
          let k : c < nodes = omega arith in
          ap (λ (v : ℕ). can_cover_in v nb n c) p ∙ sym (can-here m nodes nb n l c k) ∙ R.is n l c (rw p at h) k (λ q. omega arith)

      module _ {r : ℕ} (e : r ≡ first_bad (λ c. not (can_cover_in vars nb n c)) nodes) where
        covers-not : (c : ℕ) → c < r → c < nodes → can_cover (model_of m) B n c ≡ false
        covers-not c h k =
            can-here m nodes nb n l c k ∙ sym (ap (λ (v : ℕ). can_cover_in v nb n c) p)
            ∙ not-true (can_cover_in vars nb n c) ((found (λ i. not (can_cover_in vars nb n i)) nodes).before c (omega (arith, e)))

        given-not : (c : ℕ) → c < r → c < nodes → given (can_cover (model_of m) B n c) (Some c) ≡ None
        unfolding given
        given-not c h k = rw (covers-not c h k) refl

        given_so : r < nodes → given (can_cover (model_of m) B n r) (Some r) ≡ Some r
        unfolding given
        given_so k =
            rw (can-here m nodes nb n l r k ∙ sym (ap (λ (v : ℕ). can_cover_in v nb n r) p)
            ∙ not-false (can_cover_in vars nb n r) (ap (λ (i : ℕ). not (can_cover_in vars nb n i)) e ∙ (found (λ i. not (can_cover_in vars nb n i)) nodes).broken (omega (arith, e)))) refl

        pub cover-none : nodes ≤ r → lowest_cover (model_of m) (held_in m nodes nb) n ≡ None
        unfolding lowest_cover
        cover-none q = first-nowhere (λ c. given (can_cover (model_of m) B n c) (Some c)) nodes (λ c h. given-not c (omega arith) h)

        pub cover-some : r < nodes → lowest_cover (model_of m) (held_in m nodes nb) n ≡ Some r
        unfolding lowest_cover
        cover-some h = first-here (λ c. given (can_cover (model_of m) B n c) (Some c)) nodes r r h (λ c k. given-not c k (omega arith)) (given_so h)

-- ---- what the searches ask, where a node waits
module _ {m : List ℕ} {nodes : ℕ} {nb : List ℕ} (H : Held m nodes nb) {vars : ℕ} (p : vars ≡ variable_count m) (q : vars ≤ most_variables) (some-waits : waiting_count (held_in m nodes nb) ≡ 0 → ⊥) where
  pub waiting-asked : {next : ℕ} → next ≤ nodes → NextRight (model_of m) (held_in m nodes nb) next → (vars ≤ most_variables) × SomeWaits vars nb next
  waiting-asked l R = (q, waiting-there m nodes nb p H.kept.few l R some-waits)

  pub cover-asked : {n : ℕ} → LowestWaits vars nb n → HintRight (model_of m) (held_in m nodes nb) (hint_in m nb) nodes
      → ((vars ≤ most_variables) × (nodes ≤ field_limit) × (n ≤ field_limit) × (hint_at vars nb n ≤ nodes)) × ((c : ℕ) → c < hint_at vars nb n → can_cover_in vars nb n c ≡ false)
  cover-asked {n} e R =
      let l = waiting-within m nodes nb p e some-waits in
      let f = H.kept.few in
      ((q, omega arith, omega arith, hint-within m nodes nb p n l R), none-covers m nodes nb p n l R (omega arith))

-- ---- what becomes of the lowest node that waits
module _ (m : List ℕ) (nodes : ℕ) (nb : List ℕ) where
  -- None does.
  pub grows_none : waiting_count (held_in m nodes nb) ≡ 0 → (P : Limit) → None ≡ onward (lowest_waiting (model_of m) (held_in m nodes nb)) (growth (model_of m) P (held_in m nodes nb))
  unfolding onward
  grows_none z P = rw (waiting_none m nodes nb z) refl

  module _ {vars : ℕ} (p : vars ≡ variable_count m) (some-waits : waiting_count (held_in m nodes nb) ≡ 0 → ⊥) {n : ℕ} (e : LowestWaits vars nb n) {c : ℕ} (k : c ≡ first_bad (λ i. not (can_cover_in vars nb n i)) nodes) (P : Limit) where
    there : n < nodes
    there = waiting-within m nodes nb p e some-waits

    -- It has a cover.
    pub grows-cover : c < nodes → Some (cover_by n c) ≡ onward (lowest_waiting (model_of m) (held_in m nodes nb)) (growth (model_of m) P (held_in m nodes nb))
    unfolding onward ◌orelse◌
    grows-cover h = rw (waiting-some m nodes nb p e there, cover-some m nodes nb p n there k h) refl

    -- It has none.
    pub grows-open : nodes ≤ c → {o : Option Move} → o ≡ opening (model_of m) P (held_in m nodes nb) n
        → o ≡ onward (lowest_waiting (model_of m) (held_in m nodes nb)) (growth (model_of m) P (held_in m nodes nb))
    unfolding onward ◌orelse◌
    grows-open h q = rw (waiting-some m nodes nb p e there, cover-none m nodes nb p n there k h) q
