-- Row 5's test of an entry from the depths of the entries before it, and the row of depths as it is filled.
-- Assumes nothing.
use Prim.Native.Nat.{ℕ, ◌+◌, ◌<◌, ◌≤◌, max}
use mathlib.Core.Path.{◌≡◌, refl, sym, ap, ap₂, ◌∙◌}
use mathlib.Core.Bool.{Bool, true, false, ◌&&◌}
use mathlib.Core.List.{List}
use native.Mathlib.Omega.{arith}
use borrow.Author.Tests.{leb-true}
use lib.Dec.{leb}
use lib.ListN.{length, get_or, set, replicate, length-replicate, length-set}
use Rattle.folder.specs.Scan.{first_bad}
use Rattle.folder.proofs.Decides.{and_both}
use Rattle.folder.proofs.FillLaws.{Filled, fill_start as row-start, fill-next as row_next, get_or-filled}
use Rattle.folder.proofs.ScanLaws.{Scanned, scan-start, scan-next, scan-found}
use Rattle.expressions.specs.Limits.{most_expressions}
use Rattle.expressions.specs.Entries.{Entries, number_form, truth_form}
use Rattle.expressions.specs.Levels.{number_at, truth_at}
use Rattle.expressions.specs.Rules.{deepest, depth, depth_of, entry_fits}
use Rattle.expressions.specs.Right.{NumberPart, TruthPart, EntryRight}
use Rattle.expressions.proofs.Decided.{FormRight, form-decided}
use Rattle.expressions.proofs.Related.{number_step_lem, truth-step}
use Rattle.expressions.proofs.Levels.{equal, each_number, each-truth, lower-to, number-settled-to, truth-settled-to, number-depth, truth-depth}
use Rattle.entries.specs.Depth.{form_fits, depth_by}
use Rattle.entries.proofs.Right.{all_right}

-- Entry i, where the entries before it are right and d has their depths.
module _ (x : Entries) (variables i : ℕ) (right : (e : ℕ) → e < i → EntryRight x variables e) (d : ℕ → ℕ) (known : (p : ℕ) → p < i → d p ≡ depth_of x p) where
  of_number : (p : ℕ) → NumberPart x i p → d p ≡ number_at depth x i p
  of_number p h = known p h.0 ∙ number-depth x p h.1 ∙ sym (number-settled-to depth x i (lower-to x variables i right) i p h.0 h.0)

  of-truth : (p : ℕ) → TruthPart x i p → d p ≡ truth_at depth x i p
  of-truth p h = known p h.0 ∙ truth-depth x p h.1 ∙ sym (truth-settled-to depth x i (lower-to x variables i right) i p h.0 h.0)

  -- A right form has parts whose depths are known.
  depth_is : FormRight x variables i → depth_by x d i ≡ depth_of x i
  unfolding depth_by depth_of number_at truth_at
  depth_is form =
      ap₂ max
      (number_step_lem depth depth ◌≡◌ ◌≡◌ (equal depth) (λ p h. h) (λ p h. h) (number_form x i) (each_number x variables i of_number of-truth (λ l. form)))
      (truth-step depth depth ◌≡◌ ◌≡◌ (equal depth) (λ p h. h) (λ p h. h) (truth_form x i) (each-truth x variables i of_number of-truth (λ l. form)))

  -- Where the form is wrong the depth makes no difference.
  fits_by : (form_fits x variables i && leb (depth_by x d i) deepest) ≡ entry_fits x variables i
  unfolding form_fits entry_fits
  fits_by = go _ (form-decided x variables i).yes
    where
      go : (t : Bool) → (t ≡ true → FormRight x variables i) → (t && leb (depth_by x d i) deepest) ≡ (t && leb (depth_of x i) deepest)
      go true f = rw (depth_is (f refl))
      go false f = refl

-- The first i of n entries passed, and the row has their depths.
pub record Deep (x : Entries) (variables n i : ℕ) (depths : List ℕ) : Type 0 where
  pub scanned : Scanned (entry_fits x variables) n i
  pub long : length depths ≡ most_expressions
  pub row : Filled (depth_of x) n (replicate most_expressions 0) depths i

pub fill_start : (x : Entries) (variables n : ℕ) → Deep x variables n 0 (replicate most_expressions 0)
fill_start x variables n = record {
  scanned = scan-start (entry_fits x variables) n;
  long = length-replicate {A = ℕ} most_expressions 0;
  row = row-start _ n _;
}

-- f and d are what the code finds of entry i: whether its form is right, and its depth by the row.
module _ {x : Entries} {variables n i : ℕ} {depths : List ℕ} (h : Deep x variables n i depths) (l : i < n) {f : Bool} {d : ℕ} (form : f ≡ form_fits x variables i) (by : d ≡ depth_by x (λ p. get_or depths p 0) i) where
  right : (e : ℕ) → e < i → EntryRight x variables e
  right = all_right x variables i h.scanned.passed

  known : (p : ℕ) → p < i → get_or depths p 0 ≡ depth_of x p
  known p l = ap (λ (r : List ℕ). get_or r p 0) h.row.is ∙ get_or-filled 0 i (depth_of x) (replicate most_expressions 0) p l

  tested : (f && leb d deepest) ≡ entry_fits x variables i
  tested = rw (form, by) (fits_by x variables i right (λ p. get_or depths p 0) known)

  pub fill-found : (f && leb d deepest) ≡ false → i ≡ first_bad (entry_fits x variables) n
  fill-found = scan-found h.scanned l tested

  module _ (passed : (f && leb d deepest) ≡ true) where
    pub fill-small : d ≤ deepest
    fill-small = leb-true d deepest (and_both f (leb d deepest) passed).1

    depth-found : d ≡ depth_of x i
    unfolding form_fits
    depth-found =
        by ∙ depth_is x variables i right (λ p. get_or depths p 0) known ((form-decided x variables i).yes (sym form ∙ (and_both f (leb d deepest) passed).0))

    pub fill-next : n ≤ most_expressions → Deep x variables n (i + 1) (set depths i d)
    fill-next m = record {
      scanned = scan-next h.scanned l tested passed;
      long = length-set depths i d ∙ h.long;
      row = row_next h.row l (omega (arith, length-replicate {A = ℕ} most_expressions 0)) depth-found;
    }
