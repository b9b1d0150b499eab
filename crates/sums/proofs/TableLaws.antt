-- Laws of the tables of weights and of first branch records.
-- Assumes nothing.
use Prim.Native.Nat.{ℕ, ◌+◌, ◌≤◌, ◌<◌}
use native.Mathlib.Nat.{not-suc-le-zero}
use mathlib.Core.Path.{◌≡◌, refl, sym, ◌∙◌}
use mathlib.Core.List.{List}
use borrow.Author.Count.{below_more}
use lib.ListN.{length}
use Rattle.folder.specs.Fields.{field_limit}
use Rattle.folder.specs.Contents.{body, count_of}
use Rattle.model.specs.Layout.{variable_count, branch_size}
use Rattle.model.specs.Model.{model_of}
use Rattle.sums.specs.Tables.{Tables, weight_in, first_in, Light}
use Rattle.folder.specs.Tab.{fill}
use Rattle.folder.proofs.FillLaws.{get_or-filled, length-fill}

pub light-none : (f : ℕ → ℕ) → Light 0 f
light-none f = record { fits = λ r l. absurd (not-suc-le-zero l) }

pub light-more : (f : ℕ → ℕ) {n v : ℕ} → Light n f → v ≡ f n → v < field_limit → Light (n + 1) f
light-more f h e l = record { fits = below_more _ _ h.fits (rw e at l) }

pub light-over : (f : ℕ → ℕ) {n k : ℕ} → Light n f → n ≡ k → Light k f
light-over f h e = rw (sym e) h

-- The tables filled from the model's bodies.
pub record-count : (m : List ℕ) {size : ℕ} {bs : List ℕ} → size ≡ branch_size (variable_count m) → bs ≡ body m 4 → count_of size bs ≡ (model_of m).records
record-count m z p = rw (z, p) refl

pub command-count : (m : List ℕ) {cs : List ℕ} → cs ≡ body m 3 → count_of 4 cs ≡ (model_of m).commands
command-count m q = rw q refl

module _ (m : List ℕ) {size : ℕ} {bs cs : List ℕ} (z : size ≡ branch_size (variable_count m)) (p : bs ≡ body m 4) (q : cs ≡ body m 3) where
  pub tables-of : (w f : List ℕ) {weights firsts : List ℕ} → weights ≡ fill (count_of size bs) (weight_in size bs) w → Light (count_of size bs) (weight_in size bs)
      → firsts ≡ fill (count_of 4 cs) (first_in cs) f → (model_of m).records ≤ length w → (model_of m).commands ≤ length f → Tables (model_of m) weights firsts
  tables-of w f e l d a b = rw (e, d) (record {
    weighed = λ r k. get_or-filled 0 (count_of size bs) (weight_in size bs) w r (rw (record-count m z p) k) ∙ rw (z, p) refl;
    light = λ r k. rw (get_or-filled 0 (count_of size bs) (weight_in size bs) w r (rw (record-count m z p) k)) (l.fits r (rw (record-count m z p) k));
    placed = λ c k. get_or-filled 0 (count_of 4 cs) (first_in cs) f c (rw (command-count m q) k) ∙ rw q refl;
    weights-long = rw (length-fill (count_of size bs) (weight_in size bs) w (rw (record-count m z p) a)) a;
    firsts-long = rw (length-fill (count_of 4 cs) (first_in cs) f (rw (command-count m q) b)) b;
  })
