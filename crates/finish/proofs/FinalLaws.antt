-- A node's final record: its fields as the code works them out, and that they are the same while it is written.
-- Assumes nothing.
use Prim.Native.Nat.{ℕ, zero, suc, ◌+◌, ◌-◌, ◌*◌, ◌<◌, ◌≤◌}
use mathlib.Core.Path.{◌≡◌, refl, sym, ap, ◌∙◌}
use mathlib.Core.Bool.{Bool, true, false}
use mathlib.Core.List.{List}
use native.Mathlib.Decide.{dec_lt}
use native.Mathlib.Omega.{arith}
use borrow.Author.Tests.{lt-ltb, le-ltb, ne_eqb}
use lib.Dec.{eqb}
use lib.ListN.{get_or}
use Rattle.mdp.specs.Kinds.{Kind}
use Rattle.folder.specs.Fields.{field_limit}
use Rattle.folder.specs.Pick.{pick}
use Rattle.folder.specs.Contents.{field}
use Rattle.folder.specs.Tab.{tab}
use Rattle.folder.proofs.TabLaws.{length-tab, get_or-tab, tab-same}
use Rattle.expressions.specs.Reading.{has_bit}
use Rattle.graph.specs.Simulation.{node_size, kind_of}
use Rattle.building.specs.Building.{kind_number, if_covered}
use Rattle.put.proofs.PutLaws.{u16-past}
use Rattle.held.specs.Held.{kind_field, cover_field, tracked_field, state_field, field_count, put_in, Whole}
use Rattle.finish.specs.Laid.{Laid, final_value, final_field, final_record}
use Rattle.finish.proofs.LaidLaws.{stand_read, laid-start, laid_more}

-- ---- kinds
pub kind-low : (k : ℕ) → k ≤ 3 → (k ≡ kind_number (kind_of k)) × (k < field_limit)
unfolding kind_of
kind-low zero l = (refl, omega arith)
kind-low (suc zero) l = (refl, omega arith)
kind-low (suc (suc zero)) l = (refl, omega arith)
kind-low (suc (suc (suc zero))) l = (refl, omega arith)
kind-low (suc (suc (suc (suc k)))) l = absurd (omega arith)

pub kind-high : (k : ℕ) → 3 < k → (0 ≡ kind_number (kind_of k)) × (0 < field_limit)
unfolding kind_of
kind-high k l = (rw (ne_eqb k 1 (λ e. omega arith), ne_eqb k 2 (λ e. omega arith), ne_eqb k 3 (λ e. omega arith)) refl, omega arith)

kind-back : (κ : Kind) → kind_of (kind_number κ) ≡ κ
unfolding kind_of
kind-back Kind.waiting = refl
kind-back Kind.expanded = refl
kind-back Kind.covered = refl
kind-back Kind.target = refl

pub cover-is : (kind cover : ℕ) → kind ≡ 2 → (cover ≡ if_covered (kind_of kind) cover) × (cover ≤ cover)
unfolding kind_of
cover-is kind cover e = (rw e refl, omega arith)

pub cover-none : (kind cover : ℕ) → (kind ≡ 2 → ⊥) → (0 ≡ if_covered (kind_of kind) cover) × (0 ≤ cover)
unfolding kind_of
cover-none kind cover d = (rw (ne_eqb kind 2 d) (go (eqb kind 1) (eqb kind 3)), omega arith)
  where
    go : (a b : Bool) → 0 ≡ if_covered (pick a Kind.expanded (pick b Kind.target Kind.waiting)) cover
    go true b = refl
    go false true = refl
    go false false = refl

-- ---- fields
module _ (vars : ℕ) (nb : List ℕ) (n : ℕ) where
  -- Every field is what the code reads, with the size that it has.
  module _ {size : ℕ} (z : size ≡ node_size vars) where
    read : (f : ℕ) {r : ℕ} → r ≡ field size nb n f → r ≡ field (node_size vars) nb n f
    read f e = e ∙ ap (λ (s : ℕ). field s nb n f) z

    pub value-concrete : {v r : ℕ} → v < vars → r ≡ field size nb n (state_field + v) → r ≡ final_value vars nb n v
    unfolding final_value
    value-concrete {v} l e = rw (lt-ltb v vars l) (read (state_field + v) e)

    pub value-label : {v r t u : ℕ} {on : Bool} → vars ≤ v → t ≡ field size nb n tracked_field → u ≡ field size nb n (state_field + (v - vars)) → on ≡ has_bit t (v - vars) → r ≡ pick on u 0
        → r ≡ final_value vars nb n v
    unfolding final_value
    value-label {v} l p q o e =
        rw (le-ltb v vars l) (e ∙ (λ i. pick ((o ∙ ap (λ (t : ℕ). has_bit t (v - vars)) (read tracked_field p)) i) (read (state_field + (v - vars)) q i) 0))

  module _ (edges : ℕ) where
    later-is : (f : ℕ) → state_field ≤ f → final_field vars nb n edges f ≡ final_value vars nb n (f - state_field)
    unfolding final_field
    later-is f l =
        let e : f ≡ suc (suc (suc (suc (suc (suc (f - 6)))))) = omega arith in
        ap (final_field vars nb n edges) e

    pub field-later : {f r : ℕ} → state_field ≤ f → r ≡ final_value vars nb n (f - state_field) → r ≡ final_field vars nb n edges f
    field-later {f} l e = e ∙ sym (later-is f l)

    module _ {size : ℕ} (z : size ≡ node_size vars) where
      pub field-kind : {f r u : ℕ} → f ≡ kind_field → u ≡ field size nb n kind_field → r ≡ kind_number (kind_of u) → r ≡ final_field vars nb n edges f
      unfolding final_field
      field-kind {f} q p e = rw q (e ∙ ap (λ (x : ℕ). kind_number (kind_of x)) (read z kind_field p))

      pub field-cover : {f r u k : ℕ} → f ≡ cover_field → u ≡ field size nb n cover_field → k ≡ field size nb n kind_field → r ≡ if_covered (kind_of k) u → r ≡ final_field vars nb n edges f
      unfolding final_field
      field-cover {f} q p o e = rw q (e ∙ (λ i. if_covered (kind_of (read z kind_field o i)) (read z cover_field p i)))

      pub field-set : {f r : ℕ} → f ≡ tracked_field → r ≡ field size nb n tracked_field → r ≡ final_field vars nb n edges f
      unfolding final_field
      field-set {f} q e = rw q (read z tracked_field e)

-- A field is the same by another slice, where what it needs of the record is.
module _ (vars n edges : ℕ) (old new : List ℕ) where
  abbrev O : ℕ → ℕ
  O f = field (node_size vars) old n f

  abbrev N : ℕ → ℕ
  N f = field (node_size vars) new n f

  module _ (kind : kind_of (N kind_field) ≡ kind_of (O kind_field)) (tracked : N tracked_field ≡ O tracked_field)
      (values : (w : ℕ) → w < vars → N (state_field + w) ≡ O (state_field + w)) where
    value_same : (v : ℕ) → v < 2 * vars → final_value vars new n v ≡ final_value vars old n v
    value_same v l = go (dec_lt v vars)
      where
        go : Dec (v < vars) → final_value vars new n v ≡ final_value vars old n v
        go (yes h) = value-concrete vars old n refl h (sym (value-concrete vars new n refl h refl) ∙ values v h)
        go (no d) =
            let h : vars ≤ v = omega arith in
            value-label vars old n refl {on = has_bit (N tracked_field) (v - vars)} h tracked (values (v - vars) (omega arith)) refl
            (sym (value-label vars new n refl {on = has_bit (N tracked_field) (v - vars)} h refl refl refl refl))

    pub field-same : (k : ℕ) → (k ≡ cover_field → N cover_field ≡ O cover_field) → k < field_count vars → final_field vars new n edges k ≡ final_field vars old n edges k
    unfolding final_field
    field-same zero cover l = ap kind_number kind
    field-same (suc zero) cover l = λ i. if_covered (kind i) (cover refl i)
    field-same (suc (suc zero)) cover l = refl
    field-same (suc (suc (suc zero))) cover l = refl
    field-same (suc (suc (suc (suc zero)))) cover l = refl
    field-same (suc (suc (suc (suc (suc zero))))) cover l = tracked
    field-same (suc (suc (suc (suc (suc (suc v)))))) cover l = value_same v (omega arith)

  pub record_same : ((f : ℕ) → f < field_count vars → N f ≡ O f) → final_record vars new n edges ≡ final_record vars old n edges
  record_same h = tab-same (field_count vars) (final_field vars new n edges) (final_field vars old n edges)
      (λ k l. field-same (ap kind_of (h kind_field (omega arith))) (h tracked_field (omega arith)) (λ w p. h (state_field + w) (omega arith)) k (λ e. h cover_field (omega arith)) l)

-- ---- the record while it is written: the first i fields are final
pub record Going (vars n edges i : ℕ) (old new : List ℕ) : Type 0 where
  pub within : i ≤ field_count vars
  pub laid : Laid (node_size vars * n) (tab i (final_field vars old n edges)) old new
  pub small : (f : ℕ) → f < i → final_field vars old n edges f < field_limit

pub going_start : (vars n edges : ℕ) (nb : List ℕ) → Going vars n edges 0 nb nb
going_start vars n edges nb = record { within = omega arith; laid = laid-start (final_field vars nb n edges) _ nb; small = λ f h. absurd (omega arith) }

module _ {vars n edges i : ℕ} {old nb : List ℕ} (g : Going vars n edges i old nb) where
  abbrev F : ℕ → ℕ
  F = final_field vars old n edges

  ahead : (f : ℕ) → i ≤ f → field (node_size vars) nb n f ≡ field (node_size vars) old n f
  unfolding field
  ahead f l = u16-past g.laid.stays (node_size vars * n + 2 * f) (omega (arith, length-tab i F))

  done : (f : ℕ) → f < i → field (node_size vars) nb n f ≡ F f
  unfolding field
  done f l =
      let e : get_or (tab i F) f 0 ≡ F f = get_or-tab 0 i F f l in
      stand_read g.laid.stand f (omega (arith, length-tab i F)) (rw e (g.small f l)) ∙ e

  -- What field i needs is there still, or has become what it was.
  kept : (f : ℕ) → (f < i → F f ≡ field (node_size vars) old n f) → field (node_size vars) nb n f ≡ field (node_size vars) old n f
  kept f h = go (dec_lt f i)
    where
      go : Dec (f < i) → field (node_size vars) nb n f ≡ field (node_size vars) old n f
      go (yes l) = done f l ∙ h l
      go (no d) = ahead f (omega arith)

  kind-kept : kind_of (field (node_size vars) nb n kind_field) ≡ kind_of (field (node_size vars) old n kind_field)
  unfolding final_field
  kind-kept = go (dec_lt 0 i)
    where
      go : Dec (0 < i) → kind_of (field (node_size vars) nb n kind_field) ≡ kind_of (field (node_size vars) old n kind_field)
      go (yes l) = ap kind_of (done kind_field l) ∙ kind-back (kind_of (field (node_size vars) old n kind_field))
      go (no d) = ap kind_of (ahead kind_field (omega arith))

  set-kept : field (node_size vars) nb n tracked_field ≡ field (node_size vars) old n tracked_field
  unfolding final_field
  set-kept = kept tracked_field (λ l. refl)

  value-kept : (w : ℕ) → w < vars → field (node_size vars) nb n (state_field + w) ≡ field (node_size vars) old n (state_field + w)
  value-kept w h = kept (state_field + w) (λ l.
      let e : state_field + w - state_field ≡ w = omega arith in
      later-is vars old n edges (state_field + w) (omega arith) ∙ ap (final_value vars old n) e ∙ sym (value-concrete vars old n refl h refl))

  same_here : i < field_count vars → final_field vars nb n edges i ≡ F i
  same_here l = field-same vars n edges old nb kind-kept set-kept value-kept i (λ e. ahead cover_field (omega arith)) l

  pub going_next : {u : ℕ} {new : List ℕ} → i < field_count vars → Whole vars old n → u ≡ final_field vars nb n edges i → u < field_limit → new ≡ put_in vars nb n i u → Going vars n edges (i + 1) old new
  unfolding put_in
  going_next {u} {new} l w e s z =
      let q : u ≡ F i = e ∙ same_here l in
      record {
        within = omega arith;
        laid = laid_more F g.laid (omega (arith, g.laid.stays.long)) q s z;
        small = λ f h. go q f h (dec_lt f i);
      }
    where
      go : u ≡ F i → (f : ℕ) → f < i + 1 → Dec (f < i) → F f < field_limit
      go q f h (yes p) = g.small f p
      go q f h (no d) = let x : f ≡ i = omega arith in rw (x, ← q) s
