-- Fields laid into a slice, one after the other.
-- Assumes nothing.
use Prim.Native.Nat.{ℕ, ◌+◌, ◌-◌, ◌*◌, ◌/◌, ◌%◌, ◌<◌, ◌≤◌}
use mathlib.Core.Path.{◌≡◌, refl, sym, ap, ◌∙◌, subst}
use mathlib.Core.List.{List, [], ◌∷◌, ◌++◌}
use native.Mathlib.Nat.{mod-eq_of_lt, div-lt_iff_lt-mul}
use native.Mathlib.Decide.{dec_lt}
use native.Mathlib.Numerals.{add-one}
use native.Mathlib.Omega.{arith}
use lib.ListN.{length, get_or, set, length-append, length-set, get_or-append}
use lib.Seq.{get_or-append-add, get_or-set_same, get_or-set_other}
use Rattle.folder.specs.Fields.{field_limit, u16}
use Rattle.folder.specs.Tab.{tab}
use Rattle.folder.proofs.TabLaws.{length-tab}
use Rattle.model.specs.Pedal.{fields}
use Rattle.put.specs.Put.{put2, Stays}
use Rattle.put.proofs.PutLaws.{stays-none, stays_put, stays_then}
use Rattle.written.proofs.FieldLaws.{length_fields, u16-fields}
use Rattle.finish.specs.Laid.{Stand, Laid}

fields-append : (us vs : List ℕ) → fields (us ++ vs) ≡ fields us ++ fields vs
fields-append [] vs = refl
fields-append (x ∷ xs) vs = ap (λ (l : List ℕ). x % 256 ∷ x / 256 % 256 ∷ l) (fields-append xs vs)

-- ---- fields that stand
pub stand-none : (at : ℕ) (l : List ℕ) → Stand at [] l
stand-none at l = record { is = λ j h. absurd (omega arith) }

pub stand-then : {at : ℕ} {us vs l : List ℕ} → Stand at us l → Stand (at + 2 * length us) vs l → Stand at (us ++ vs) l
stand-then {at} {us} {vs} {l} p q = record { is = λ j h. go j h (dec_lt j (2 * length us)) ∙ ap (λ (x : List ℕ). get_or x j 0) (sym (fields-append us vs)) }
  where
    go : (j : ℕ) → j < 2 * length (us ++ vs) → Dec (j < 2 * length us) → get_or l (at + j) 0 ≡ get_or (fields us ++ fields vs) j 0
    go j h (yes k) = p.is j k ∙ sym (get_or-append (fields us) (fields vs) 0 j (omega (arith, length_fields us)))
    go j h (no d) =
        let a : at + j ≡ at + 2 * length us + (j - 2 * length us) = omega arith in
        let b : length (fields us) + (j - 2 * length us) ≡ j = omega (arith, length_fields us) in
        ap (λ (i : ℕ). get_or l i 0) a
        ∙ q.is (j - 2 * length us) (omega (arith, length-append us vs))
        ∙ sym (get_or-append-add (fields us) (fields vs) (j - 2 * length us) 0)
        ∙ ap (λ (i : ℕ). get_or (fields us ++ fields vs) i 0) b

-- Those outside a part that is written.
pub stand-below : {at a b : ℕ} {us old new : List ℕ} → Stays a b old new → at + 2 * length us ≤ a → Stand at us old → Stand at us new
stand-below {at} s l p = record { is = λ j h. s.below (at + j) (omega arith) ∙ p.is j h }

pub stand-past : {at a b : ℕ} {us old new : List ℕ} → Stays a b old new → b ≤ at → Stand at us old → Stand at us new
stand-past {at} s l p = record { is = λ j h. s.past (at + j) (omega arith) ∙ p.is j h }

-- What is read of them.
pub stand_read : {at : ℕ} {us l : List ℕ} → Stand at us l → (k : ℕ) → k < length us → get_or us k 0 < field_limit → u16 l (at + 2 * k) ≡ get_or us k 0
unfolding u16
stand_read {at} {us} {l} p k h s = bytes ∙ u16-fields us k s
  where
    bytes : u16 l (at + 2 * k) ≡ u16 (fields us) (2 * k)
    bytes =
        let e : at + 2 * k + 1 ≡ at + (2 * k + 1) = omega arith in
        rw (e, p.is (2 * k) (omega arith), p.is (2 * k + 1) (omega arith))

-- ---- fields that are laid
pub laid_none : (at : ℕ) (l : List ℕ) → Laid at [] l l
laid_none at l = record { stays = stays-none _ _ l; stand = stand-none at l }

pub laid_one : (l : List ℕ) (at u : ℕ) → at + 1 < length l → u < field_limit → Laid at (u ∷ []) l (put2 l at u)
unfolding put2
laid_one l at u h s = record { stays = stays_put at u (stays-none _ _ l) (omega arith) (omega arith); stand = record { is = λ j k. go j k (dec_lt j 1) } }
  where
    low : get_or (put2 l at u) at 0 ≡ u % 256
    low = get_or-set_other (set l at (u % 256)) (at + 1) at (u / 256) 0 (λ e. omega arith) ∙ get_or-set_same l at (u % 256) 0 (omega arith)

    high : get_or (put2 l at u) (at + 1) 0 ≡ u / 256 % 256
    high =
        let q : u / 256 < 256 = (div-lt_iff_lt-mul {k = 256} {x = u} {y = 256} (omega arith)).1 (omega arith) in
        get_or-set_same (set l at (u % 256)) (at + 1) (u / 256) 0 (omega (arith, length-set l at (u % 256))) ∙ sym (mod-eq_of_lt q)

    go : (j : ℕ) → j < 2 → Dec (j < 1) → get_or (put2 l at u) (at + j) 0 ≡ get_or (fields (u ∷ [])) j 0
    go j k (yes p) =
        let e : j ≡ 0 = omega arith in
        let a : at + 0 ≡ at = omega arith in
        rw (e, a) low
    go j k (no p) = let e : j ≡ 1 = omega arith in rw e high

pub laid_then : {at : ℕ} {us vs old mid new : List ℕ} → Laid at us old mid → Laid (at + 2 * length us) vs mid new → Laid at (us ++ vs) old new
laid_then {at} {us} {vs} {old} {mid} {new} p q =
    let e : at + 2 * length us + 2 * length vs ≡ at + 2 * length (us ++ vs) = omega (arith, length-append us vs) in
    record {
      stays = subst (λ (z : ℕ). Stays at z old new) e (stays_then (omega arith) (omega arith) p.stays q.stays);
      stand = stand-then (stand-below q.stays (omega arith) p.stand) q.stand;
    }

-- The values of a function, one more.
tab-more : (i : ℕ) (f : ℕ → ℕ) → tab i f ++ (f i ∷ []) ≡ tab (i + 1) f
unfolding tab
tab-more i f = rw (add-one i)

pub laid_more : (f : ℕ → ℕ) {at i u : ℕ} {old mid new : List ℕ} → Laid at (tab i f) old mid → at + 2 * i + 1 < length mid → u ≡ f i → u < field_limit → new ≡ put2 mid (at + 2 * i) u
    → Laid at (tab (i + 1) f) old new
laid_more f {at} {i} {u} {old} {mid} p h e s z =
    let a : at + 2 * length (tab i f) ≡ at + 2 * i = omega (arith, length-tab i f) in
    rw (← tab-more i f, ← e, z) (laid_then p (rw a (laid_one mid (at + 2 * i) u h s)))

pub laid-start : (f : ℕ → ℕ) (at : ℕ) (l : List ℕ) → Laid at (tab 0 f) l l
unfolding tab
laid-start f at l = laid_none at l
