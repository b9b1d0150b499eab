-- What the stages of a step hand on: the model's outcome, a state in range, and a branch record that can be read.
-- Assumes nothing.
use Prim.Native.Nat.{ℕ, ◌+◌, ◌<◌, ◌≤◌}
use mathlib.Core.Path.{◌≡◌, refl, sym, ap, ◌∙◌}
use mathlib.Core.Bool.{true}
use mathlib.Core.List.{List, [], ◌++◌}
use native.Mathlib.Omega.{arith}
use borrow.Author.Tests.{ltb-true}
use lib.Dec.{ltb}
use lib.ListN.{length, drop}
use lib.IntN.{ℤ, pos}
use lib.Signed.{mag, ◌≤ℤ◌}
use Rattle.folder.specs.Contents.{body, count_of, field}
use Rattle.folder.specs.Tab.{tab, fill}
use Rattle.folder.specs.Table.{outcome, Outcome}
use Rattle.folder.specs.declared.Refusal.{Refusal}
use Rattle.folder.proofs.Decides.{at_most_z, ◌∧also◌}
use Rattle.folder.proofs.TableLaws.{accepted-then, refused-then}
use Rattle.folder.proofs.TabLaws.{get_or-tab}
use Rattle.folder.proofs.FillLaws.{fill-same}
use Rattle.whole.proofs.Order.{to-⊑, ⊑_trans, within}
use Rattle.expressions.specs.Limits.{all_tracked}
use Rattle.expressions.specs.Entries.{entries_of}
use Rattle.expressions.specs.Meaning.{State, value_of}
use Rattle.expressions.specs.Reading.{look_in}
use Rattle.expressions.specs.Right.{IsTruth}
use Rattle.evaluate.specs.Formed.{Grounded}
use Rattle.evaluate.specs.Settled.{flag_at, content_at}
use Rattle.evaluate.proofs.Rows.{filled, state-row}
use Rattle.model.specs.Limits.{most_records, most_bound}
use Rattle.model.specs.Layout.{variable_count, branch_size}
use Rattle.model.specs.Model.{Model, model_of, bound, first_record, model_in}
use Rattle.model.specs.Chances.{InRange, next}
use Rattle.model.specs.Table.{model_rows, model_outcome}
use Rattle.model.specs.Valid.{Valid}
use Rattle.model.specs.Step.{step_rows, step_row_of, step_outcome, step_row}
use Rattle.model.proofs.Chances.{in_bounds, record-there, next-in-range}
use Rattle.model.proofs.Decided.{accepted-valid}
use Rattle.model.proofs.Limits.{limits}
use Rattle.step.specs.Stepping.{fits_in, assigned_in, value_in, Assigning, Stepping}
use Rattle.std.specs.Prelude.{Err, Ok}

-- ---- the model's outcome, and then the step's
module _ (m : List ℕ) {o : Outcome} (e : o ≡ model_outcome m) where
  pub model-valid : o ≡ (Ok tt) → Valid m
  model-valid h = (accepted-valid m).0 (sym e ∙ h)

  module _ (s : State) (c b : ℕ) (result : List ℤ) where
    pub model-accepted : o ≡ (Ok tt) → {r : Outcome} {row : List ℤ}
        → r ≡ outcome (step_rows (model_of m) s c b result) → row ≡ step_row_of (model_of m) s c b result r
        → (r ≡ step_outcome m s c b result) × (row ≡ step_row m s c b result)
    unfolding model_outcome step_outcome step_row
    model-accepted h p q =
        let is = p ∙ sym (accepted-then (model_rows m) (step_rows (model_of m) s c b result) (sym e ∙ h)) in
        (is, q ∙ ap (step_row_of (model_of m) s c b result) is)

    pub model-refused : {f : Refusal} → o ≡ Err f → (Err f ≡ step_outcome m s c b result) × (result ≡ step_row m s c b result)
    unfolding model_outcome step_outcome step_row
    model-refused {f} h =
        let is = sym (refused-then (model_rows m) (step_rows (model_of m) s c b result) f (sym e ∙ h)) in
        (is, ap (step_row_of (model_of m) s c b result) is)

-- ---- rows 29 and 30
pub in-range : (m : List ℕ) (s : State) {y : List ℕ} → y ≡ body m 1 → {n : ℕ} → n ≡ variable_count m → length s ≡ n → ((v : ℕ) → v < n → fits_in y s v ≡ true) → InRange (model_of m) s
in-range m s {y} q {n} k l h = record { long = l ∙ k; low = λ v g. (both v g).0; high = λ v g. (both v g).1 }
  where
    both : (v : ℕ) → v < variable_count m → ((model_of m).low v ≤ℤ value_of s v) × (value_of s v ≤ℤ (model_of m).high v)
    both v g = (at_most_z ((model_of m).low v) (value_of s v) ∧also at_most_z (value_of s v) ((model_of m).high v)).yes (rw q at (h v (omega arith)))

-- ---- rows 31 to 33, from a state in range of a valid model
module _ {m : List ℕ} (valid : Valid m) {s : State} (h : InRange (model_of m) s) where
  pub grounded : {x : List ℕ} → x ≡ body m 2 → Grounded (entries_of x) s
  grounded q = rw q (record {
    variables = variable_count m;
    few = (limits valid.folder).variables;
    bound = bound (model_of m);
    formed = record { right = valid.model.entries; ranges = valid.model.ranges };
    low = λ i. (in_bounds (model_of m) s h i).low;
    high = λ i. (in_bounds (model_of m) s h i).high;
  })

-- The bodies as the code holds them.
module _ (m : List ℕ) {x k : List ℕ} (p : x ≡ body m 2) (q : k ≡ body m 3) (c : ℕ) {g : ℕ} (e : g ≡ field 4 k c 0) where
  pub guard-right : Valid m → c < count_of 4 (body m 3) → IsTruth (entries_of x) g
  guard-right valid l = rw (e, p, q) (valid.model.commands c l).guard

-- Command c has branch b, and f is the command's first record.
pub record Taken (m : List ℕ) (c b f : ℕ) : Type 0 where
  pub command : c < count_of 4 (body m 3)
  pub branch : b < field 4 (body m 3) c 1
  pub first : f ≡ first_record (model_of m) c

-- As the code has it.
pub there-in : (m : List ℕ) {k : List ℕ} → k ≡ body m 3 → (c : ℕ) {n : ℕ} → n ≡ count_of 4 k → ltb c n ≡ true → c < count_of 4 (body m 3)
there-in m q c {n} e h = rw (← q, ← e) (ltb-true c n h)

pub taken-in : (m : List ℕ) {k : List ℕ} → k ≡ body m 3 → (c b : ℕ) {n r f : ℕ} → n ≡ count_of 4 k → ltb c n ≡ true → r ≡ field 4 k c 1 → ltb b r ≡ true
    → f ≡ first_record (model_in [] [] [] k []) c → Taken m c b f
taken-in m q c b {n} {r} e h g l p = record {
  command = there-in m q c e h;
  branch = rw (← q, ← g) (ltb-true b r l);
  first = rw q at p;
}

-- What record r gives variable v.
abbrev given : List ℕ → State → ℕ → ℕ → ℤ
given m s r v = assigned_in (body m 2) (body m 4) (branch_size (variable_count m)) r s v

module _ {m : List ℕ} (valid : Valid m) {s : State} (h : InRange (model_of m) s) {c b f : ℕ} (t : Taken m c b f) where
  record-in : first_record (model_of m) c + b < count_of (branch_size (variable_count m)) (body m 4)
  record-in = record-there (model_of m) valid.model c b t.command t.branch

  pub record-small : f + b ≤ most_records
  record-small = omega (arith, record-in, t.first, (limits valid.folder).records)

  given-small : (v : ℕ) → v < variable_count m → mag (given m s (first_record (model_of m) c + b) v) ≤ mag most_bound
  unfolding next
  given-small v p =
      let in-it = next-in-range (model_of m) valid.model c b t.command t.branch s h in
      let is = get_or-tab (pos 0) (variable_count m) (given m s (first_record (model_of m) c + b)) v p in
      let right = valid.model.variables v p in
      within _ (given m s (first_record (model_of m) c + b) v)
      (⊑_trans (to-⊑ right.least) (to-⊑ (rw is at (in-it.low v p))))
      (⊑_trans (to-⊑ (rw is at (in-it.high v p))) (to-⊑ right.most))

  module _ {x bs : List ℕ} (p : x ≡ body m 2) (r : bs ≡ body m 4) where
    pub stepping : Stepping x bs (branch_size (length s)) (f + b) s
    stepping = rw (p, r, t.first, h.long) (record {
      size_small = omega (arith, (limits valid.folder).variables);
      record-small = omega (arith, record-small, t.first);
      few = omega (arith, h.long, (limits valid.folder).variables);
      entries = (limits valid.folder).expressions;
      grounded = grounded valid h refl;
      number = λ v w. (valid.model.branches (first_record (model_of m) c + b) record-in).number v (omega (arith, h.long));
      fits = λ v w. given-small v (omega (arith, h.long));
    })

    pub next-is : (result : List ℤ) {row : List ℤ} → row ≡ tab (length s) (assigned_in x bs (branch_size (length s)) (f + b) s) ++ drop (length s) result
        → row ≡ next (model_of m) c b s ++ drop (variable_count m) result
    unfolding next
    next-is result u = rw (p, r, t.first, h.long) at u

-- ---- from the row that `settle` fills
module _ {x b : List ℕ} {size r : ℕ} {s : State} (h : Stepping x b size r s) (known₀ : List ℕ) (values₀ : List ℤ) {known : List ℕ} {values : List ℤ}
    (e : known ≡ fill (count_of 8 x) (flag_at (entries_of x) (look_in all_tracked s)) known₀) (f : values ≡ fill (count_of 8 x) (content_at (entries_of x) (look_in all_tracked s)) values₀) where
  value-is : (v : ℕ) → v < length s → value_in values b size r v ≡ assigned_in x b size r s v
  value-is v l =
      (state-row (entries_of x) s h.grounded known values (filled (entries_of x) (look_in all_tracked s) (count_of 8 x) known₀ values₀ e f)).numbers _ (h.number v l)

  pub assigning : Assigning values b size r (length s)
  assigning = record {
    size_small = h.size_small;
    record-small = h.record-small;
    few = h.few;
    fits = λ v l. rw (value-is v l) (h.fits v l);
  }

  pub values-next : (result : List ℤ) {out : List ℤ} → out ≡ fill (length s) (value_in values b size r) result → out ≡ fill (length s) (assigned_in x b size r s) result
  values-next result q = q ∙ fill-same (length s) _ _ result value-is
