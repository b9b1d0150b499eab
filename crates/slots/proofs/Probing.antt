-- Linear probing is right: while there are fewer nodes than slots a node that enters finds a free slot, and a look_up of a
-- label stops at the lowest node that has it, or at a free slot if none has it.
-- Assumes nothing.
use Prim.Native.Nat.{ℕ, zero, suc, ◌+◌, ◌%◌, ◌≤◌, ◌<◌}
use mathlib.Core.Path.{◌≡◌, refl, sym, ap, ◌∙◌, subst}
use mathlib.Core.Bool.{Bool, true, false, not, ◌&&◌, false≢true}
use mathlib.Core.Logic.{◌⊎◌, inl, inr, ⊎_elim}
use mathlib.Core.List.{List}
use native.Mathlib.Nat.{mod-lt, not-suc-le-zero, eq-or-lt_of_le, le_of_suc-le-suc}
use native.Mathlib.Numerals.{add-one}
use native.Mathlib.Omega.{arith}
use borrow.Author.Tests.{eq-eqb, ne_eqb, eqb-true, eqb-false, ltb-true, ltb-false, lt-ltb, le-ltb, not-true, not-false}
use lib.ListN.{length, get_or, set, length-set}
use lib.Seq.{get_or-set_same, get_or-set_other}
use lib.Dec.{ltb, eqb}
use lib.IntN.{ℤ}
use Rattle.folder.specs.Pick.{pick}
use Rattle.folder.specs.Scan.{first_bad, all}
use Rattle.folder.proofs.Decides.{everywhere, unless}
use Rattle.folder.proofs.ScanLaws.{found, stops-by, first-same}
use Rattle.folder.proofs.TabLaws.{length-tab, get_or-tab}
use Rattle.hash.specs.Hash.{hash_of}
use Rattle.slots.specs.Slots.{no_node, same_state, is_free, slot_from, free_from, first_with, lowest, is_new, slots_after, pass_on, stop_at}
use Rattle.slots.proofs.Rounds.{same-states, Away, away, full_in, full-set, free-there, full-none}

-- A slot holds a node.
abbrev Full : List ℕ → ℕ → Type 0
Full row p = get_or row p no_node ≡ no_node → ⊥

abbrev In : List ℕ → ℕ → ℕ
In row p = get_or row p no_node

full-or-free : (row : List ℕ) (p : ℕ) → (In row p ≡ no_node) ⊎ Full row p
full-or-free row p = go (is_free row p) refl
  where
    go : (t : Bool) → is_free row p ≡ t → (In row p ≡ no_node) ⊎ Full row p
    go true e = inl (eqb-true _ _ e)
    go false e = inr (eqb-false _ _ e)

full-stays : (row : List ℕ) (q n p : ℕ) → In row q ≡ no_node → Full row p → In (set row q n) p ≡ In row p
full-stays row q n p e h = get_or-set_other row q p n no_node (λ s. h (ap (λ (k : ℕ). In row k) s ∙ e))

module _ (slots : ℕ) (label : ℕ → List ℤ) where
  abbrev from : List ℤ → ℕ → ℕ
  from = slot_from slots

  -- Node i is one of the first n, and no lower node has its label.
  pub record Held (n i : ℕ) : Type 0 where
    pub small : i < n
    pub new : is_new label i ≡ true

  -- Node i stands in the row, and every slot from its label's first one up to it is full.
  pub record Reached (row : List ℕ) (i : ℕ) : Type 0 where
    pub far : ℕ
    pub near : far < slots
    pub here : In row (from (label i) far) ≡ i
    pub before : (d : ℕ) → d < far → Full row (from (label i) d)

  -- What holds of the slots once the nodes below n have entered.
  pub record Entered (n : ℕ) (row : List ℕ) : Type 0 where
    pub long : length row ≡ slots
    pub few : full_in row ≤ n
    pub holds : (p : ℕ) → p < slots → Full row p → Held n (In row p)
    pub reached : (i : ℕ) → Held n i → Reached row i

  module _ (some : 0 < slots) where
    pub slot-in : (x : List ℤ) (d : ℕ) → from x d < slots
    unfolding slot_from
    slot-in x d = mod-lt (hash_of x % slots + d) some

    slot-away : (x : List ℤ) (q : ℕ) → q < slots → Away slots (hash_of x % slots) q
    slot-away x q l = away slots (hash_of x % slots) q (mod-lt (hash_of x) some) l

    slot_is : (x : List ℤ) (q : ℕ) (l : q < slots) → from x (slot-away x q l).far ≡ q
    unfolding slot_from
    slot_is x q l = (slot-away x q l).is

    -- From any label's first slot on there is a free one.
    record FreeAway (row : List ℕ) (x : List ℤ) : Type 0 where
      far : ℕ
      near : far < slots
      free : In row (from x far) ≡ no_node

    module _ {n : ℕ} {row : List ℕ} (h : Entered n row) (x : List ℤ) (l : n < slots) where
      free-away : FreeAway row x
      free-away =
          let f = free-there row (omega (arith, h.few, h.long)) in
          let w : f.at < slots = omega (arith, f.within, h.long) in
          record {
            far = (slot-away x f.at w).far;
            near = (slot-away x f.at w).near;
            free = ap (λ (p : ℕ). In row p) (slot_is x f.at w) ∙ f.free;
          }

      free-near : free_from slots row x < slots
      unfolding free_from
      free-near =
          let f = free-away in
          let b = stops-by (λ d. not (is_free row (from x d))) slots f.far f.near (ap not (eq-eqb _ _ f.free)) in
          omega (arith, b, f.near)

      free-is : In row (from x (free_from slots row x)) ≡ no_node
      unfolding free_from
      free-is = eqb-true _ _ (not-false _ ((found (λ d. not (is_free row (from x d))) slots).broken free-near))

      free-before : (d : ℕ) → d < free_from slots row x → Full row (from x d)
      unfolding free_from
      free-before d m = eqb-false _ _ (not-true _ ((found (λ d. not (is_free row (from x d))) slots).before d m))

    -- ---- node n enters
    module _ {n : ℕ} {row : List ℕ} (h : Entered n row) (l : n < slots) (mark : n < no_node) (new : is_new label n ≡ true) where
      abbrev to : ℕ
      to = from (label n) (free_from slots row (label n))

      abbrev after : List ℕ
      after = set row to n

      here : In after to ≡ n
      here = get_or-set_same row to n no_node (omega (arith, slot-in (label n) (free_from slots row (label n)), h.long))

      stays : (p : ℕ) → Full row p → In after p ≡ In row p
      stays p f = full-stays row to n p (free-is h (label n) l) f

      still : (p : ℕ) → Full row p → Full after p
      still p f e = f (sym (stays p f) ∙ e)

      later : (i : ℕ) → Held n i → Held (suc n) i
      later i k = record { small = omega (arith, k.small); new = k.new }

      own_held : Held (suc n) n
      own_held = record { small = omega arith; new = new }

      enter-holds : (p : ℕ) → Full after p → (In row p ≡ no_node) ⊎ Full row p → p < slots → Held (suc n) (In after p)
      enter-holds p f (inr g) m = rw (stays p g) (later _ (h.holds p m g))
      enter-holds p f (inl e) m = go (eqb p to) refl
        where
          go : (t : Bool) → eqb p to ≡ t → Held (suc n) (In after p)
          go true q = rw (eqb-true p to q, here) own_held
          go false q = absurd (f (get_or-set_other row to p n no_node (eqb-false p to q) ∙ e))

      enter-reached : (i : ℕ) → Held (suc n) i → (i ≡ n) ⊎ (i < n) → Reached after i
      enter-reached i k (inl e) = subst (λ (j : ℕ). Reached after j) (sym e) (record {
        far = free_from slots row (label n);
        near = free-near h (label n) l;
        here = here;
        before = λ d m. still _ (free-before h (label n) l d m);
      })
      enter-reached i k (inr m) =
          let r = h.reached i (record { small = m; new = k.new }) in
          let full : Full row (from (label i) r.far) = λ e. omega (arith, r.here, e) in
          record {
            far = r.far;
            near = r.near;
            here = stays _ full ∙ r.here;
            before = λ d m. still _ (r.before d m);
          }

      entered-new : Entered (suc n) after
      entered-new = record {
        long = length-set row to n ∙ h.long;
        few = omega (arith, full-set row to n, h.few);
        holds = λ p m f. enter-holds p f (full-or-free row p) m;
        reached = λ i k. enter-reached i k (eq-or-lt_of_le (le_of_suc-le-suc k.small));
      }

    -- ---- and a node whose label is there does not
    module _ {n : ℕ} {row : List ℕ} (h : Entered n row) (old : is_new label n ≡ false) where
      older : (i : ℕ) → is_new label i ≡ true → (i ≡ n) ⊎ (i < n) → i < n
      older i k (inl e) = absurd (false≢true (sym old ∙ ap (is_new label) (sym e) ∙ k))
      older i k (inr m) = m

      entered-old : Entered (suc n) row
      entered-old = record {
        long = h.long;
        few = omega (arith, h.few);
        holds = λ p m f. let k = h.holds p m f in record { small = omega (arith, k.small); new = k.new };
        reached = λ i k. h.reached i (record { small = older i k.new (eq-or-lt_of_le (le_of_suc-le-suc k.small)); new = k.new });
      }

    entered-none : Entered 0 (slots_after label slots 0)
    unfolding slots_after
    entered-none = record {
      long = length-tab slots (λ p. no_node);
      few = omega (arith, full-none slots);
      holds = λ p m f. absurd (f (get_or-tab no_node slots (λ p. no_node) p m));
      reached = λ i k. absurd (not-suc-le-zero k.small);
    }

    entered-suc : (n : ℕ) → Entered n (slots_after label slots n) → n < slots → n < no_node → (t : Bool) → is_new label n ≡ t → Entered (suc n) (slots_after label slots (suc n))
    unfolding slots_after
    entered-suc n h l m true e = rw e (entered-new h l m e)
    entered-suc n h l m false e = rw e (entered-old h e)

    -- While there are no more nodes than slots, and fewer than the mark.
    pub entered : (n : ℕ) → n ≤ slots → n ≤ no_node → Entered n (slots_after label slots n)
    entered zero l m = entered-none
    entered (suc n) l m = entered-suc n (entered n (omega arith) (omega arith)) l m (is_new label n) refl

    -- ---- a look_up
    passing-free : (row : List ℕ) (x : List ℤ) (d : ℕ) → In row (from x d) ≡ no_node → pass_on label slots row x d ≡ false
    unfolding pass_on
    passing-free row x d e = rw (eq-eqb _ _ e) refl

    passing-same : (row : List ℕ) (x : List ℤ) (d : ℕ) → label (In row (from x d)) ≡ x → pass_on label slots row x d ≡ false
    unfolding pass_on
    passing-same row x d e = go (not (is_free row (from x d))) ((same-states _ x).no e)
      where
        go : (t : Bool) {s : Bool} → s ≡ true → (t && not s) ≡ false
        go true e = ap not e
        go false e = refl

    -- Where it stops at a full slot, the node there has the label.
    stopped-full : (row : List ℕ) (x : List ℤ) (d : ℕ) → pass_on label slots row x d ≡ false → Full row (from x d) → label (In row (from x d)) ≡ x
    unfolding pass_on
    stopped-full row x d e f = (same-states _ x).yes (not-false _ (rw (ne_eqb _ _ f) at e))

    module _ {n : ℕ} {row : List ℕ} (h : Entered n row) (x : List ℤ) (l : n < slots) where
      abbrev stop : ℕ
      stop = first_bad (pass_on label slots row x) slots

      stop-by : (d : ℕ) → d < slots → pass_on label slots row x d ≡ false → stop ≤ d
      stop-by = stops-by (pass_on label slots row x) slots

      stop-near : stop < slots
      stop-near =
          let f = free-away h x l in
          omega (arith, stop-by f.far f.near (passing-free row x f.far f.free), f.near)

      stop-fails : pass_on label slots row x stop ≡ false
      stop-fails = (found (pass_on label slots row x) slots).broken stop-near

      -- No node of the first n has the label: it stops at a free slot.
      none-there : ((i : ℕ) → i < n → label i ≡ x → ⊥) → In row (from x stop) ≡ no_node
      none-there absent = ⊎_elim (λ e. e)
          (λ (f : Full row (from x stop)). absurd (absent _ (h.holds _ (slot-in x stop) f).small (stopped-full row x stop stop-fails f)))
          (full-or-free row (from x stop))

      -- Node k is the lowest that has it: it stops there.
      module _ (k : ℕ) (small : k < n) (mark : n ≤ no_node) (is : label k ≡ x) (first : (i : ℕ) → i < k → label i ≡ x → ⊥) where
        k-new : is_new label k ≡ true
        unfolding is_new
        k-new = (everywhere k (λ i m. unless (same-states (label i) (label k)))).no (λ i m e. first i m (e ∙ is))

        path : Reached row k
        path = h.reached k (record { small = small; new = k-new })

        path-here : In row (from x path.far) ≡ k
        path-here = ap (λ (y : List ℤ). In row (from y path.far)) (sym is) ∙ path.here

        up_to : stop ≤ path.far
        up_to = stop-by path.far path.near (passing-same row x path.far (ap label path-here ∙ is))

        stop-full : (stop ≡ path.far) ⊎ (stop < path.far) → Full row (from x stop)
        stop-full (inl e) f = omega (arith, path-here, sym (ap (λ (d : ℕ). In row (from x d)) e) ∙ f)
        stop-full (inr m) f = path.before stop m (ap (λ (y : List ℤ). In row (from y stop)) is ∙ f)

        -- Two nodes that are new and have one label are one.
        lowest-same : (j : ℕ) → is_new label j ≡ true → label j ≡ x → j ≡ k
        unfolding is_new
        lowest-same j new e = go (eqb j k) refl (ltb k j) refl
          where
            go : (s : Bool) → eqb j k ≡ s → (t : Bool) → ltb k j ≡ t → j ≡ k
            go true p t q = eqb-true j k p
            go false p true q = absurd ((everywhere j (λ i m. unless (same-states (label i) (label j)))).yes new k (ltb-true k j q) (is ∙ sym e))
            go false p false q =
                let m : j ≤ k = ltb-false k j q in
                let d : j ≡ k → ⊥ = eqb-false j k p in
                absurd (first j (omega arith) e)

        one-there : In row (from x stop) ≡ k
        one-there =
            let f = stop-full (eq-or-lt_of_le up_to) in
            lowest-same _ (h.holds _ (slot-in x stop) f).new (stopped-full row x stop stop-fails f)

      -- The look_up finds the lowest node with the label, or none.
      pub look_up : n ≤ no_node → In row (stop_at label slots row x) ≡ lowest label n x
      unfolding stop_at lowest
      look_up mark = go (eq-or-lt_of_le (found ok n).within)
        where
          ok : ℕ → Bool
          ok i = not (same_state (label i) x)

          go : (first_bad ok n ≡ n) ⊎ (first_bad ok n < n) → In row (from x stop) ≡ pick (ltb (first_bad ok n) n) (first_bad ok n) no_node
          go (inl e) = rw (e, le-ltb n n (omega arith)) (none-there (λ i m. (unless (same-states (label i) x)).yes ((found ok n).before i (rw e m))))
          go (inr m) = rw (lt-ltb _ _ m) (one-there (first_bad ok n) m mark ((same-states _ x).yes (not-false _ ((found ok n).broken m))) (λ i l. (unless (same-states (label i) x)).yes ((found ok n).before i l)))

    -- ---- entering by a look_up: it stops at a free slot if and only if the label is new, and that is the next free slot
    lowest-new : (n : ℕ) → n ≤ no_node → lowest label n (label n) ≡ no_node → is_new label n ≡ true
    unfolding lowest is_new
    lowest-new n m e = go (eq-or-lt_of_le (found ok n).within)
      where
        ok : ℕ → Bool
        ok i = not (same_state (label i) (label n))

        go : (first_bad ok n ≡ n) ⊎ (first_bad ok n < n) → all ok n ≡ true
        go (inl q) = eq-eqb _ _ q
        go (inr l) = let k : first_bad ok n ≡ no_node = rw (lt-ltb _ _ l) at e in absurd (omega arith)

    new-lowest : (n : ℕ) → is_new label n ≡ true → lowest label n (label n) ≡ no_node
    unfolding lowest is_new
    new-lowest n e = rw (eqb-true (first_with label n (label n)) n e, le-ltb n n (omega arith)) refl

    module _ {n : ℕ} {row : List ℕ} (h : Entered n row) (l : n < slots) (mark : n ≤ no_node) where
      passes-full : is_new label n ≡ true → (d : ℕ) → (In row (from (label n) d) ≡ no_node) ⊎ Full row (from (label n) d)
          → not (is_free row (from (label n) d)) ≡ pass_on label slots row (label n) d
      unfolding pass_on is_new
      passes-full new d (inl e) = rw (eq-eqb _ _ e) refl
      passes-full new d (inr f) =
          let k = h.holds _ (slot-in (label n) d) f in
          let other = (everywhere n (λ i m. unless (same-states (label i) (label n)))).yes new _ k.small in
          rw (ne_eqb _ _ f) (sym ((unless (same-states _ (label n))).no other))

      same_place : is_new label n ≡ true → from (label n) (free_from slots row (label n)) ≡ stop_at label slots row (label n)
      unfolding stop_at free_from
      same_place new = ap (from (label n)) (first-same _ _ slots (λ d m. passes-full new d (full-or-free row (from (label n) d))))

      stopped-new : In row (stop_at label slots row (label n)) ≡ no_node → is_new label n ≡ true
      stopped-new e = lowest-new n mark (sym (look_up h (label n) l mark) ∙ e)

      stopped-old : Full row (stop_at label slots row (label n)) → (t : Bool) → is_new label n ≡ t → is_new label n ≡ false
      stopped-old f true e = absurd (f (look_up h (label n) l mark ∙ new-lowest n e))
      stopped-old f false e = e

    module _ (n : ℕ) (l : n < slots) (mark : n ≤ no_node) {row : List ℕ} (is : row ≡ slots_after label slots n) where
      entered-row : Entered n row
      entered-row = subst (λ (r : List ℕ). Entered n r) (sym is) (entered n (omega arith) mark)

      pub enters : In row (stop_at label slots row (label n)) ≡ no_node → set row (stop_at label slots row (label n)) n ≡ slots_after label slots (n + 1)
      unfolding slots_after
      enters e =
          let new = stopped-new entered-row l mark e in
          rw (add-one n, new, ← is) (ap (λ (p : ℕ). set row p n) (sym (same_place entered-row l mark new)))

      pub enters-not : (In row (stop_at label slots row (label n)) ≡ no_node → ⊥) → row ≡ slots_after label slots (n + 1)
      unfolding slots_after
      enters-not f = rw (add-one n, stopped-old entered-row l mark f (is_new label n) refl) is

      -- The look_up in the slots after n nodes.
      pub finds : (x : List ℤ) → In row (stop_at label slots row x) ≡ lowest label n x
      finds x = look_up entered-row x l mark
