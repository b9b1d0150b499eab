-- Laws of `fill`: a row that is filled from the front with the values of a function.
-- Assumes nothing.
use Prim.Native.Nat.{ℕ, suc, ◌+◌, ◌-◌, ◌≤◌, ◌<◌, zero-le}
use mathlib.Core.Path.{◌≡◌, refl, sym, ap, ◌∙◌}
use mathlib.Core.List.{List, ◌++◌, append_assoc, append-nil}
use native.Mathlib.Nat.{le_refl}
use native.Mathlib.Decide.{dec_lt}
use native.Mathlib.Numerals.{add-one}
use native.Mathlib.Omega.{arith}
use lib.ListN.{length, get_or, take, drop, set, replicate, get_or-replicate, length-replicate, length-append, length-drop, length-set, get_or-append, get_or-eq_default}
use lib.Seq.{drop-cons, drop-length, set_at, take_at, drop_at, get_or-append-add, get_or-drop}
use Rattle.folder.specs.Tab.{tab, fill}
use Rattle.folder.proofs.TabLaws.{length-tab, get_or-tab, tab-same, tab-own}

module _ {A : Type 0} where
  pub fill_none : (f : ℕ → A) (d : List A) → d ≡ fill 0 f d
  unfolding tab
  fill_none f d = refl

  -- One element more.
  pub fill_more : (f : ℕ → A) (d : List A) {i : ℕ} {v : A} {row : List A} → row ≡ fill i f d → v ≡ f i → i < length d → set row i v ≡ fill (i + 1) f d
  unfolding tab
  fill_more f d {i} p q l =
      rw (p, q, add-one, drop-cons d i (f i), append_assoc) (set_at (tab i f) (get_or d i (f i)) (drop (suc i) d) (f i) i (length-tab i f))

  pub length-fill : (n : ℕ) (f : ℕ → A) (d : List A) → n ≤ length d → length (fill n f d) ≡ length d
  length-fill n f d l = simp (length-append, length-tab, length-drop) (omega arith)

  pub get_or-filled : (z : A) (n : ℕ) (f : ℕ → A) (d : List A) (k : ℕ) → k < n → get_or (fill n f d) k z ≡ f k
  get_or-filled z n f d k l = get_or-append (tab n f) (drop n d) z k (rw (length-tab n f) l) ∙ get_or-tab z n f k l

  pub get_or-kept : (z : A) (n : ℕ) (f : ℕ → A) (d : List A) (k : ℕ) → n ≤ k → get_or (fill n f d) k z ≡ get_or d k z
  get_or-kept z n f d k l =
      let e : k ≡ length (tab n f) + (k - n) = omega (arith, length-tab n f) in
      ap (λ (j : ℕ). get_or (fill n f d) j z) e ∙ get_or-append-add (tab n f) (drop n d) (k - n) z ∙ get_or-drop n d (k - n) z ∙ ap (λ (j : ℕ). get_or d j z) (omega arith)

  pub take-filled : (n : ℕ) (f : ℕ → A) (d : List A) {row : List A} → row ≡ fill n f d → take n row ≡ tab n f
  take-filled n f d e = rw e (take_at (tab n f) (drop n d) n (length-tab n f))

  pub drop-filled : (n : ℕ) (f : ℕ → A) (d : List A) → drop n (fill n f d) ≡ drop n d
  drop-filled n f d = drop_at (tab n f) (drop n d) n (length-tab n f)

  -- A row that is filled whole.
  pub fill-whole : (f : ℕ → A) (d : List A) → fill (length d) f d ≡ tab (length d) f
  fill-whole f d = ap (λ (l : List A). tab (length d) f ++ l) (drop-length d) ∙ append-nil (tab (length d) f)

  -- Two functions with the same first n values.
  pub fill-same : (n : ℕ) (f g : ℕ → A) (d : List A) → ((i : ℕ) → i < n → f i ≡ g i) → fill n f d ≡ fill n g d
  fill-same n f g d h = ap (λ (t : List A). t ++ drop n d) (tab-same n f g h)

  -- A row that was filled once is filled again.
  pub fill-again : (n : ℕ) (f g : ℕ → A) (d : List A) → fill n g (fill n f d) ≡ fill n g d
  fill-again n f g d = ap (λ (t : List A). tab n g ++ t) (drop-filled n f d)

  -- A row of a's, read as a past its end, is a everywhere.
  pub get_or-still : (a : A) (size k : ℕ) → get_or (replicate size a) k a ≡ a
  get_or-still a size k = go (dec_lt k size)
    where
      go : Dec (k < size) → get_or (replicate size a) k a ≡ a
      go (yes l) = get_or-replicate size k a a l
      go (no h) = get_or-eq_default (replicate size a) a {n = k} (omega (arith, length-replicate {A = A} size a))

  -- Filled with a function which is a from n on, it is the function everywhere.
  pub get_or-everywhere : (a : A) (n size : ℕ) (f : ℕ → A) → ((k : ℕ) → n ≤ k → f k ≡ a) → (k : ℕ) → get_or (fill n f (replicate size a)) k a ≡ f k
  get_or-everywhere a n size f h k = go (dec_lt k n)
    where
      go : Dec (k < n) → get_or (fill n f (replicate size a)) k a ≡ f k
      go (yes l) = get_or-filled a n f (replicate size a) k l
      go (no g) =
          let l : n ≤ k = omega arith in
          get_or-kept a n f (replicate size a) k l ∙ get_or-still a size k ∙ sym (h k l)

-- ---- the three facts of a loop that fills a row, `while i < n { row[i] = f(i); i += 1; }`, whose invariant is `Filled f n row₀ row i`: of n places the first i hold f, and the others are as they were
pub record Filled {A : Type 0} (f : ℕ → A) (n : ℕ) (row₀ row : List A) (i : ℕ) : Type 0 where
  pub within : i ≤ n
  pub long : length row ≡ length row₀
  pub is : row ≡ fill i f row₀

module _ {A : Type 0} where
  pub fill_start : (f : ℕ → A) (n : ℕ) (row : List A) → Filled f n row row 0
  fill_start f n row = record { within = zero-le; long = refl; is = fill_none f row }

  module _ {f : ℕ → A} {n : ℕ} {row₀ row : List A} {i : ℕ} (h : Filled f n row₀ row i) where
    pub fill-next : {z : A} → i < n → n ≤ length row₀ → z ≡ f i → Filled f n row₀ (set row i z) (i + 1)
    fill-next {z} l k e = record {
      within = omega arith;
      long = length-set row i z ∙ h.long;
      is = fill_more f row₀ h.is e (omega arith);
    }

    -- What is ahead is as it was.
    pub filled-ahead : (d : A) → get_or row i d ≡ get_or row₀ i d
    filled-ahead d = ap (λ (l : List A). get_or l i d) h.is ∙ get_or-kept d i f row₀ i (le_refl i)

    pub fill-over : {k : ℕ} → n ≤ i → n ≡ k → row ≡ fill k f row₀
    fill-over {k} l e =
        let q : i ≡ k = omega arith in
        h.is ∙ ap (λ (j : ℕ). fill j f row₀) q

  -- Filled with a list's own elements, it begins with the list.
  pub fill-list : (d : A) (s : List A) {row₀ row : List A} {i : ℕ} → Filled (λ k. get_or s k d) (length s) row₀ row i → length s ≤ i → row ≡ s ++ drop (length s) row₀
  fill-list d s {row₀} h l = fill-over h l refl ∙ ap (λ (t : List A). t ++ drop (length s) row₀) (tab-own d s)
