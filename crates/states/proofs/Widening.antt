-- A group that is looked at: what its flags say of the readings.
-- Assumes nothing.
use Prim.Native.Nat.{ℕ, suc, ◌≤◌, ◌<◌}
use mathlib.Core.Path.{◌≡◌, refl, sym, ap, ◌∙◌}
use mathlib.Core.Bool.{Bool, true, false, not}
use mathlib.Core.List.{List, ◌++◌}
use native.Mathlib.Decide.{ℕ_discrete, dec_lt}
use native.Mathlib.Omega.{arith}
use borrow.Author.Tests.{eq-eqb, ne_eqb, eqb-true, leb-false}
use lib.Dec.{eqb, leb}
use lib.ListN.{get_or, length, length-take, take, drop, replicate}
use lib.Seq.{take_at}
use lib.IntN.{ℤ, pos}
use Rattle.folder.specs.Pick.{pick}
use Rattle.folder.specs.Tab.{fill, passing}
use Rattle.folder.proofs.Decides.{and_both}
use Rattle.folder.proofs.FillLaws.{get_or-filled, get_or-kept, get_or-still}
use Rattle.folder.proofs.TabLaws.{passing-stands}
use Rattle.folder.proofs.ListLaws.{passing-few}
use Rattle.expressions.specs.Limits.{most_combinations}
use Rattle.expressions.specs.Entries.{Entries}
use Rattle.expressions.specs.Parts.{Lower}
use Rattle.expressions.specs.Meaning.{State}
use Rattle.expressions.specs.Mentions.{union, mentions}
use Rattle.expressions.specs.Combinations.{Label, combinations, combination}
use Rattle.expressions.specs.States.{ways}
use Rattle.expressions.proofs.Combinations.{some-combination, combination-holds, same_count, same-combination}
use Rattle.choices.specs.Ranged.{label_in, capped}
use Rattle.states.specs.Stated.{entry_in}
use Rattle.states.specs.Needed.{is_up, Up, flag_if, in_group, ClosedFrom, Before, Chosen, either_up}
use Rattle.states.specs.Read.{reads_known, AllAgree, OneDiffers, Asked, Widened}
use Rattle.states.proofs.Flags.{ordered}
use Rattle.states.proofs.Reading.{all_known, unknown-above, known_same}

-- The front of a row.
pub taken : {A : Type 0} (n : ℕ) (l : List A) → n ≤ length l → length (take n l) ≡ n
taken n l h = length-take n l ∙ omega arith

-- ---- a row of the flags of members
module _ (n size : ℕ) (member : ℕ → Bool) {flags : List ℕ} (q : flags ≡ fill n (λ k. flag_if (member k)) (replicate size 0)) where
  flag_up : (b : Bool) → flag_if b ≡ 1 → b ≡ true
  flag_up true h = refl
  flag_up false h = absurd (omega arith)

  read : (k : ℕ) → get_or flags k 0 ≡ get_or (fill n (λ i. flag_if (member i)) (replicate size 0)) k 0
  read k = ap (λ (l : List ℕ). get_or l k 0) q

  pub is_member : (k : ℕ) → Up flags k → (k < n) × (member k ≡ true)
  is_member k u = go (dec_lt k n)
    where
      go : Dec (k < n) → (k < n) × (member k ≡ true)
      go (yes l) = (l, flag_up (member k) (sym (read k ∙ get_or-filled 0 n (λ i. flag_if (member i)) (replicate size 0) k l) ∙ u))
      go (no g) =
          let z : get_or flags k 0 ≡ 0 = read k ∙ get_or-kept 0 n (λ i. flag_if (member i)) (replicate size 0) k (omega arith) ∙ get_or-still 0 size k in
          absurd (omega arith)

  pub member-up : (k : ℕ) → k < n → member k ≡ true → Up flags k
  member-up k l h = read k ∙ get_or-filled 0 n (λ i. flag_if (member i)) (replicate size 0) k l ∙ ap flag_if h

-- ---- the list of a group
module _ (x : Entries) (low : Lower x) (member : ℕ → Bool) (needed : List ℕ) (closed : ClosedFrom x needed 0) (all : (k : ℕ) → k < x.count → member k ≡ true → Up needed k) where
  abbrev list : List ℕ
  list = passing x.count (is_up needed)

  pub chosen : {n count : ℕ} (row₀ : List ℕ) {row : List ℕ} → n ≡ x.count → x.count ≤ length row₀ → length row ≡ length row₀
      → count ≡ length (passing n (is_up needed)) → row ≡ passing n (is_up needed) ++ drop (length (passing n (is_up needed))) row₀ → Chosen x member count row
  chosen {n} {count} row₀ {row} e l k p q =
      let c : count ≡ length list = p ∙ ap (λ (i : ℕ). length (passing i (is_up needed))) e in
      let r : row ≡ list ++ drop (length list) row₀ = q ∙ ap (λ (i : ℕ). passing i (is_up needed) ++ drop (length (passing i (is_up needed))) row₀) e in
      let t : take count row ≡ list = rw (c, r) (take_at list (drop (length list) row₀) (length list) refl) in
      record {
        within = omega (arith, passing-few (is_up needed) x.count);
        ordered = rw t (ordered x low needed closed);
        members = λ i h m.
            let s = passing-stands (is_up needed) i x.count h (eq-eqb (get_or needed i 0) 1 (all i h m)) in
            record { place = length (passing i (is_up needed)); earlier = rw t s.0; stands = rw t s.1 };
      }

-- ---- a count up to the limit
many : (k : ℕ) → most_combinations < capped k → most_combinations < k
many k h = go (leb k most_combinations) refl h
  where
    go : (b : Bool) → leb k most_combinations ≡ b → most_combinations < pick b k (suc most_combinations) → most_combinations < k
    go true p m = m
    go false p m = leb-false k most_combinations p

few : (k : ℕ) → capped k ≤ most_combinations → capped k ≡ k
few k h = go (leb k most_combinations) h
  where
    go : (b : Bool) → pick b k (suc most_combinations) ≤ most_combinations → pick b k (suc most_combinations) ≡ k
    go true l = refl
    go false l = absurd (omega arith)

denied : (b : Bool) → (b ≡ true → ⊥) → b ≡ false
denied true h = absurd (h refl)
denied false h = refl

-- ---- what is asked
module _ (x : Entries) (y : List ℕ) (v : List ℤ) (masks : List ℕ) (state : List ℤ) (known : List ℕ) (e t : ℕ) (asked : Asked x y v masks state known e t) where
  abbrev L : Label
  L = label_in y t v

  not-up : is_up known e ≡ false
  not-up = ne_eqb (get_or known e 0) 1 asked.down

  -- Nothing is flagged anew, and the entry reads unknown.
  pub widened_none : reads_known x L e ≡ false → Widened x L e known known
  widened_none h = record { flagged = asked.flagged; more = λ k u. u; decided = not-up ∙ sym h }

  -- The count of combinations, as it comes.
  module _ {m w : ℕ} (mq : m ≡ mentions x e) (q : w ≡ capped (combinations L.variables L.bound t m)) where
    counted : w ≡ capped (ways x L e)
    counted = q ∙ ap (λ (n : ℕ). capped (combinations L.variables L.bound t n)) mq

    pub too_many : most_combinations < w → Widened x L e known known
    too_many l = widened_none (unknown-above x L e _ (asked.readable.formed.right e asked.there) (many (ways x L e) (rw counted at l)) (asked.flagged.unknown e asked.there asked.down))

    pub few-enough : w ≤ most_combinations → w ≡ combinations L.variables L.bound t m
    few-enough l = q ∙ few (combinations L.variables L.bound t m) (rw q at l)

  module _ (m w : ℕ) (mq : m ≡ mentions x e) (wq : w ≡ combinations L.variables L.bound t m) (few : w ≤ most_combinations) where
    -- The asked entry is one of its group.
    pub asked_in : in_group masks known m t e ≡ true
    unfolding in_group
    asked_in = rw (not-up, mq, asked.masked.is e asked.there, eq-eqb (union (mentions x e) t) (union (mentions x e) t) refl) refl

    pub one-differs : (list : List ℕ) → OneDiffers x L m w e list state → Widened x L e known known
    one-differs _ d = widened_none (denied (reads_known x L e) (λ k.
        d.differs
        (known_same x L e _ (asked.readable.formed.right e asked.there) asked.readable.proper (combination L m d.place) asked.concrete.own
        (combination-holds L m asked.readable.proper d.place) asked.concrete.holds k
        ∙ sym (asked.concrete.row.is e asked.there))))

    -- A member that agrees in all combinations reads known.
    member-known : (k : ℕ) → k < x.count → in_group masks known m t k ≡ true → ((j : ℕ) → j < w → entry_in x (combination L m j) k ≡ get_or state k (pos 0)) → reads_known x L k ≡ true
    unfolding in_group
    member-known k l g h =
        let b = and_both (not (is_up known k)) (eqb (union (get_or masks k 0) t) (union m t)) g in
        let u : union m t ≡ union (mentions x k) t = sym (ap (λ (n : ℕ). union n t) (sym (asked.masked.is k l)) ∙ eqb-true _ _ b.1) in
        let c : w ≡ ways x L k = wq ∙ same_count L m (mentions x k) u in
        all_known x L k _ (asked.readable.formed.right k l) (rw (← c) few) (some-combination L (mentions x k)) (get_or state k (pos 0))
        (λ j p. ap (λ (s : State). entry_in x s k) (sym (same-combination L m (mentions x k) u j)) ∙ h j (rw (← c) at p))

    module _ {list before after : List ℕ} (members : (k : ℕ) → Up before k → (k < x.count) × (in_group masks known m t k ≡ true)) (there : (k : ℕ) → k < x.count → in_group masks known m t k ≡ true → Before x list (length list) k)
        (a : AllAgree x L m w e list state before after) {raised : List ℕ} (r : raised ≡ fill x.count (λ k. either_up (get_or after k 0) (get_or known k 0)) known) where
      raised_at : (k : ℕ) → k < x.count → get_or raised k 0 ≡ either_up (get_or after k 0) (get_or known k 0)
      raised_at k l = ap (λ (f : List ℕ). get_or f k 0) r ∙ get_or-filled 0 x.count (λ i. either_up (get_or after i 0) (get_or known i 0)) known k l

      up-known : (k : ℕ) → Up after k → reads_known x L k ≡ true
      up-known k u =
          let h = members k (a.fewer k u) in
          let b = there k h.0 h.1 in
          member-known k h.0 h.1 (λ j l. rw b.stands at (a.agree b.place b.earlier (rw b.stands u) j l))

      sound : (k : ℕ) → k < x.count → Up raised k → Dec (get_or after k 0 ≡ 1) → reads_known x L k ≡ true
      sound k l u (yes p) = up-known k p
      sound k l u (no d) = asked.flagged.sound k l (sym (rw (ne_eqb (get_or after k 0) 1 d) at (raised_at k l)) ∙ u)

      more : (k : ℕ) → Up known k → Dec (k < x.count) → Up raised k
      more k u (yes l) = raised_at k l ∙ go (eqb (get_or after k 0) 1)
        where
          go : (b : Bool) → pick b 1 (get_or known k 0) ≡ 1
          go true = refl
          go false = u
      more k u (no g) = ap (λ (f : List ℕ). get_or f k 0) r ∙ get_or-kept 0 x.count (λ i. either_up (get_or after i 0) (get_or known i 0)) known k (omega arith) ∙ u

      pub all-agree : Widened x L e known raised
      all-agree = record {
        flagged = record {
          sound = λ k l u. sound k l u (ℕ_discrete (get_or after k 0) 1);
          unknown = λ k l d. asked.flagged.unknown k l (λ u. d (more k u (dec_lt k x.count)));
        };
        more = λ k u. more k u (dec_lt k x.count);
        decided =
            eq-eqb (get_or raised e 0) 1 (raised_at e asked.there ∙ rw (eq-eqb (get_or after e 0) 1 a.asked) refl)
            ∙ sym (up-known e a.asked);
      }
