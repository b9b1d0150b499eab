-- The model check accepts if and only if the folder and model rules hold.
-- Assumes nothing.
use Prim.Native.Nat.{ℕ, ◌+◌, ◌%◌, ◌≤◌}
use mathlib.Core.Path.{◌≡◌, refl}
use mathlib.Core.Logic.{◌↔◌}
use mathlib.Core.List.{List, ◌++◌}
use native.Mathlib.Omega.{arith}
use lib.ListN.{length}
use lib.IntN.{ℤ}
use lib.Signed.{◌≤ℤ◌}
use Rattle.mdp.specs.Sums.{sum}
use Rattle.folder.specs.Contents.{body}
use Rattle.folder.specs.Table.{AllHold, Broken}
use Rattle.folder.specs.declared.Refusal.{Refusal}
use Rattle.folder.proofs.Decides.{Decides, passes, at_most, at_most_z, below, same, unless, whenever, ◌∧also◌, everywhere, reworded}
use Rattle.folder.proofs.ContentsLaws.{entry-decided as contents-decided}
use Rattle.folder.proofs.TableLaws.{refused-broken, row-asks, single-asks, ◌row-and◌, no_rows, put-so, tables-ask, accepted-asks}
use Rattle.expressions.specs.Meaning.{State, value_of, truth_in}
use Rattle.expressions.specs.Ranges.{range_of}
use Rattle.expressions.specs.Right.{IsNumber, IsTruth, Inside}
use Rattle.expressions.proofs.Decided.{number-decided, truth-decided, inside-decided, entry-decided, range-decided}
use Rattle.model.specs.Limits.{least_bytes, most_bytes, least_bound, most_bound, most_branches}
use Rattle.model.specs.Layout.{bodies, record_size, record_count, most_of}
use Rattle.model.specs.Model.{Model, model_of, bound, first_record}
use Rattle.model.specs.Rules.{bytes_fit, records_fit, variable_fits, terms_fit, command_fits, records_add_up, assigned_fits, branch_fits, weights_total}
use Rattle.model.specs.Table.{folder_rows, content_rows, model_rows, model_outcome}
use Rattle.model.specs.Valid.{RecordsRight, VariableRight, CommandRight, BranchRight, ModelRight, FolderRight, Valid, StepRight}
use Rattle.model.specs.Step.{value_fits, step_rows, step_outcome}
use Rattle.std.specs.Prelude.{Err, Ok}

pub bytes-decided : (m : List ℕ) → Decides ((least_bytes ≤ length m) × (length m ≤ most_bytes)) (bytes_fit m)
bytes-decided m = at_most least_bytes (length m) ∧also at_most (length m) most_bytes

pub records-decided : (m : List ℕ) (e : ℕ) → Decides (RecordsRight m e) (records_fit m e)
unfolding records_fit
records-decided m e =
    reworded (λ h. record { whole = h.0.0; some = h.0.1; few = h.1 }) (λ r. ((r.whole, r.some), r.few))
    ((same (length (body m e) % record_size m e) 0 ∧also at_most 1 (record_count m e)) ∧also at_most (record_count m e) (most_of e))

module _ (M : Model) where
  pub variable-decided : (v : ℕ) → Decides (VariableRight M v) (variable_fits M v)
  unfolding variable_fits
  variable-decided v =
      reworded (λ h. record { ordered = h.0; least = h.1.0.0; most = h.1.0.1; initial-low = h.1.1.0; initial-high = h.1.1.1 })
      (λ r. (r.ordered, ((r.least, r.most), (r.initial-low, r.initial-high))))
      (at_most_z (M.low v) (M.high v)
      ∧also (at_most_z least_bound (M.low v) ∧also at_most_z (M.high v) most_bound)
      ∧also at_most_z (M.low v) (M.initial v)
      ∧also at_most_z (M.initial v) (M.high v))

  pub command-decided : (c : ℕ) → Decides (CommandRight M c) (command_fits M c)
  unfolding command_fits
  command-decided c =
      reworded (λ h. record { guard = h.0; some = h.1.0; few = h.1.1 }) (λ r. (r.guard, (r.some, r.few)))
      (truth-decided M.entries (M.guard c) ∧also at_most 1 (M.branches c) ∧also at_most (M.branches c) most_branches)

  records-add-up : Decides (M.records ≡ first_record M M.commands) (records_add_up M)
  unfolding records_add_up
  records-add-up = same M.records (first_record M M.commands)

  assigned-decided : (r v : ℕ) → Decides (IsNumber M.entries (M.assigned r v) × Inside (range_of M.entries (bound M) (M.assigned r v)) (bound M v)) (assigned_fits M r v)
  unfolding assigned_fits
  assigned-decided r v =
      number-decided M.entries (M.assigned r v) ∧also inside-decided (range_of M.entries (bound M) (M.assigned r v)) (bound M v)

  pub branch_decided : (r : ℕ) → Decides (BranchRight M r) (branch_fits M r)
  unfolding branch_fits
  branch_decided r =
      reworded (λ h. record { weight = h.0; number = λ v l. (h.1 v l).0; range = λ v l. (h.1 v l).1 }) (λ b. (b.weight, λ v l. (b.number v l, b.range v l)))
      (unless (same (M.weight r) 0) ∧also everywhere M.variables (λ v l. assigned-decided r v))

  pub weights-decided : (c : ℕ) → Decides (sum (M.branches c) (λ b _. M.weight (first_record M c + b)) ≡ M.total) (weights_total M c)
  unfolding weights_total
  weights-decided c = same (sum (M.branches c) (λ b _. M.weight (first_record M c + b))) M.total

  pub terms-decided : (p : ℕ) → Decides ((p ≡ 0 → M.total ≡ 0 → ⊥) × (p ≡ 1 → IsTruth M.entries M.target)) (terms_fit M p)
  unfolding terms_fit
  terms-decided p = whenever (same p 0) (unless (same M.total 0)) ∧also whenever (same p 1) (truth-decided M.entries M.target)

-- Rows 1 to 3, and 4 to 11.
pub folder-asks : (m : List ℕ) → AllHold (folder_rows m) ↔ FolderRight m
folder-asks m = put-so
    (single-asks 1 0 (bytes-decided m) row-and row-asks _ (contents-decided m bodies) row-and row-asks _ (records-decided m) row-and no_rows)
    (λ h. record { long = h.0.0; short = h.0.1; contents = h.1.0; records = h.1.1.0 })
    (λ r. ((r.long, r.short), (r.contents, (r.records, tt))))

content-asks : (M : Model) → AllHold (content_rows M) ↔ ModelRight M
content-asks M = put-so
    (row-asks _ (variable-decided M)
    row-and row-asks _ (entry-decided M.entries M.variables)
    row-and row-asks _ (range-decided M.entries (bound M))
    row-and row-asks _ (terms-decided M)
    row-and row-asks _ (command-decided M)
    row-and single-asks 9 0 (records-add-up M)
    row-and row-asks _ (branch_decided M)
    row-and row-asks _ (weights-decided M)
    row-and no_rows)
    (λ h. record {
      variables = h.0;
      entries = h.1.0;
      ranges = h.1.1.0;
      total = (h.1.1.1.0 0 (omega arith)).0 refl;
      target = (h.1.1.1.0 1 (omega arith)).1 refl;
      commands = h.1.1.1.1.0;
      records = h.1.1.1.1.1.0;
      branches = h.1.1.1.1.1.1.0;
      weights = h.1.1.1.1.1.1.1.0;
    })
    (λ r. (r.variables, (r.entries, (r.ranges, ((λ p l. ((λ e. r.total), λ e. r.target)), (r.commands, (r.records, (r.branches, (r.weights, tt)))))))))

pub model-asks : (m : List ℕ) → AllHold (model_rows m) ↔ Valid m
model-asks m = put-so
    (tables-ask (folder_rows m) (folder-asks m) (content-asks (model_of m)))
    (λ h. record { folder = h.0; model = h.1 })
    (λ v. (v.folder, v.model))

-- The model check accepts if and only if the folder and model rules hold.
pub accepted-valid : (m : List ℕ) → (model_outcome m ≡ (Ok tt)) ↔ Valid m
unfolding model_outcome
accepted-valid m = accepted-asks (model-asks m)

-- A refusal is of the first broken row, at its lowest broken place, and each row before it holds.
pub refused-first : (m : List ℕ) (f : Refusal) → model_outcome m ≡ Err f → Broken (model_rows m) f
unfolding model_outcome
refused-first m f e = refused-broken (model_rows m) f e

-- ---- the step
value-decided : (M : Model) (s : State) (c b : ℕ) (result : List ℤ) (v : ℕ)
    → Decides ((M.low v ≤ℤ value_of s v) × (value_of s v ≤ℤ M.high v)) (value_fits M s c b result v)
unfolding value_fits
value-decided M s c b result v = at_most_z (M.low v) (value_of s v) ∧also at_most_z (value_of s v) (M.high v)

step-asks : (M : Model) (s : State) (c b : ℕ) (result : List ℤ) → AllHold (step_rows M s c b result) ↔ StepRight M s c b result
step-asks M s c b result = put-so
    (single-asks 29 0 (same (length s) M.variables ∧also at_most M.variables (length result))
    row-and row-asks _ (value-decided M s c b result)
    row-and single-asks 31 c (below c M.commands)
    row-and single-asks 32 c (passes (truth_in M.entries s (M.guard c)))
    row-and single-asks 33 b (below b (M.branches c))
    row-and no_rows)
    (λ h. record {
      long = h.0.0;
      room = h.0.1;
      low = λ v l. (h.1.0 v l).0;
      high = λ v l. (h.1.0 v l).1;
      command = h.1.1.0;
      enabled = h.1.1.1.0;
      branch = h.1.1.1.1.0;
    })
    (λ r. ((r.long, r.room), ((λ v l. (r.low v l, r.high v l)), (r.command, (r.enabled, (r.branch, tt))))))

-- The step is accepted if and only if the model is and rows 29 to 33 hold.
pub step-valid : (m : List ℕ) (s : State) (c b : ℕ) (result : List ℤ)
    → (step_outcome m s c b result ≡ (Ok tt)) ↔ (Valid m × StepRight (model_of m) s c b result)
unfolding step_outcome
step-valid m s c b result = accepted-asks (tables-ask (model_rows m) (model-asks m) (step-asks (model_of m) s c b result))

pub step-refused : (m : List ℕ) (s : State) (c b : ℕ) (result : List ℤ) (f : Refusal)
    → step_outcome m s c b result ≡ Err f → Broken (model_rows m ++ step_rows (model_of m) s c b result) f
unfolding step_outcome
step-refused m s c b result f e = refused-broken (model_rows m ++ step_rows (model_of m) s c b result) f e
