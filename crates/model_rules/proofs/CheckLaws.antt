-- What the stages of the model check hand on: the folder rows, rows 4 and 5 as the base of the ranges, and the ranges.
-- Assumes nothing.
use Prim.Native.Nat.{ℕ, ◌+◌, ◌<◌, ◌≤◌}
use mathlib.Core.Path.{◌≡◌, refl, sym, ◌∙◌}
use mathlib.Core.Bool.{true}
use mathlib.Core.List.{List}
use native.Mathlib.Decide.{dec_lt}
use native.Mathlib.Omega.{arith}
use borrow.Author.Tests.{eqb-true}
use lib.Dec.{eqb}
use lib.ListN.{length}
use lib.IntN.{pos}
use Rattle.folder.specs.Scan.{first_bad}
use Rattle.folder.specs.Tab.{fill}
use Rattle.folder.specs.Contents.{count_of, field}
use Rattle.mdp.specs.Sums.{sum}
use Rattle.folder.specs.Table.{outcome, Outcome}
use Rattle.folder.specs.declared.Refusal.{Refusal}
use Rattle.folder.proofs.TableLaws.{accepted-asks, accepted-then, refused-then}
use Rattle.folder.proofs.ScanLaws.{all_found}
use Rattle.whole.proofs.Order.{from-⊑, ⊑_refl}
use Rattle.expressions.specs.Entries.{entries_of}
use Rattle.expressions.specs.Ranges.{bound_in}
use Rattle.expressions.specs.Rules.{entry_fits, range_fits}
use Rattle.expressions.proofs.Decided.{entry-decided}
use Rattle.expressions.proofs.Levels.{lower}
use Rattle.expressions.specs.declared.Range.{Range}
use Rattle.ranges.specs.Settled.{Ordered, Based, range_in}
use Rattle.expressions.proofs.Interval.{bound-here, bound-past}
use Rattle.ranges.proofs.RowLaws.{settled}
use Rattle.model_rules.specs.Bodies.{Held, model_held}
use Rattle.model_rules.specs.declared.parts.Bodies.{Bodies}
use Rattle.model.specs.Layout.{branch_size}
use Rattle.model.specs.Model.{Model, model_of, first_record}
use Rattle.model.specs.Rules.{variable_fits, records_add_up, weights_total}
use Rattle.model.specs.Table.{folder_rows, content_rows, model_outcome}
use Rattle.model.specs.Valid.{FolderRight}
use Rattle.model.proofs.Decided.{variable-decided, folder-asks}
use Rattle.std.specs.Prelude.{Err, Ok}

pub added-up : (M : Model) → records_add_up M ≡ true → M.records ≡ first_record M M.commands
unfolding records_add_up
added-up M h = eqb-true _ _ h

-- Row 9, with what the code has read.
pub add-up-in : (M : Model) {r f n : ℕ} → r ≡ M.records → f ≡ first_record M n → n ≡ M.commands → eqb r f ≡ records_add_up M
unfolding records_add_up
add-up-in M e f q = rw (e, f, q)

-- Row 11: command c, whose branch records start at `at`, with what the code has read.
pub total-in : (b : Bodies) (c : ℕ) {at n v s total : ℕ} → total ≡ (model_held b).total → v ≡ count_of 6 b.variables.now → at ≡ first_record (model_held b) c
    → n ≡ (model_held b).branches c → s ≡ sum n (λ i _. field (branch_size v) b.branches.now (at + i) 0) → eqb s total ≡ weights_total (model_held b) c
unfolding weights_total
total-in b c d f h i j = rw (d, j, i, f, h)

module _ (b : Bodies) where
  ordered : ((v : ℕ) → v < count_of 6 b.variables.now → variable_fits (model_held b) v ≡ true) → (v : ℕ) → Dec (v < count_of 6 b.variables.now) → Ordered (bound_in b.variables.now v)
  ordered h v (yes l) = rw (← bound-here b.variables.now v refl l) (record { ends = ((variable-decided (model_held b) v).yes (h v l)).ordered })
  ordered h v (no g) = rw (← bound-past b.variables.now v refl (omega arith)) (record { ends = from-⊑ (⊑_refl (pos 0)) })

  -- What row 6 needs of rows 4 and 5.
  pub based : {v : ℕ} → v ≡ count_of 6 b.variables.now → ((i : ℕ) → i < v → variable_fits (model_held b) i ≡ true)
      → ((i : ℕ) → i < count_of 8 b.expressions.now → entry_fits (entries_of b.expressions.now) v i ≡ true) → Based b.expressions.now b.variables.now
  based {v} a h k = record {
    lower = lower (entries_of b.expressions.now) v (λ i l. (entry-decided (entries_of b.expressions.now) v i).yes (k i l));
    ordered = λ i. ordered (λ j l. h j (rw a l)) i (dec_lt i (count_of 6 b.variables.now));
  }

-- What row 10 needs of row 6.
module _ (x y : List ℕ) where
  pub settled-all : {p : ℕ} → p ≡ first_bad (range_fits (entries_of x) (bound_in y)) (count_of 8 x) → ((i : ℕ) → i < count_of 8 x → range_fits (entries_of x) (bound_in y) i ≡ true)
      → {row : List Range} (row₀ : List Range) → row ≡ fill p (range_in x y) row₀ → count_of 8 x ≤ length row₀ → Held x y row
  settled-all {p} e h {row} row₀ a c =
      let w : p ≡ count_of 8 x = e ∙ all_found _ (count_of 8 x) h in
      rw (← w) (settled x y p row row₀ a (omega arith))

-- The folder's outcome, and then the rest.
module _ (m : List ℕ) {o : Outcome} (e : o ≡ outcome (folder_rows m)) where
  pub folder-right : o ≡ (Ok tt) → FolderRight m
  folder-right h = (accepted-asks (folder-asks m)).0 (sym e ∙ h)

  pub then-content : o ≡ (Ok tt) → {r : Outcome} → r ≡ outcome (content_rows (model_of m)) → r ≡ model_outcome m
  unfolding model_outcome
  then-content h q = q ∙ sym (accepted-then (folder_rows m) (content_rows (model_of m)) (sym e ∙ h))

  pub refused-so : {f : Refusal} → o ≡ Err f → Err f ≡ model_outcome m
  unfolding model_outcome
  refused-so {f} h = sym (refused-then (folder_rows m) (content_rows (model_of m)) f (sym e ∙ h))
