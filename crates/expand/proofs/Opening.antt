-- The entry that the code asks next.
-- Assumes nothing.
use Prim.Native.Nat.{ℕ, ◌+◌, ◌*◌, ◌<◌, ◌≤◌}
use mathlib.Core.Path.{◌≡◌, refl, sym, ap, ◌∙◌}
use mathlib.Core.Bool.{Bool, true, false}
use mathlib.Core.List.{List}
use borrow.Author.Tests.{lt-ltb, le-ltb}
use Rattle.folder.specs.Contents.{body, field}
use Rattle.std.specs.Prelude.{Some, None}
use Rattle.states.specs.Needed.{is_up}
use Rattle.model.specs.Layout.{variable_count}
use Rattle.model.specs.Model.{model_of}
use Rattle.expand.specs.Follow.{open_entry}

module _ (m known : List ℕ) (r : ℕ) {vars v : ℕ} (p : vars ≡ variable_count m) where
  module _ (l : v < vars) {bs : List ℕ} {e : ℕ} {t : Bool} (q : bs ≡ body m 4) (h : e ≡ field (2 + 2 * vars) bs r (1 + v)) (k : t ≡ is_up known e) where
    entry-is : e ≡ (model_of m).assigned r v
    entry-is = h ∙ rw (p, q) refl

    pub opened : t ≡ false → Some e ≡ open_entry (model_of m) known r v
    unfolding open_entry
    opened f = ap Some entry-is ∙ rw (lt-ltb v (variable_count m) (rw p at l), sym (ap (is_up known) entry-is) ∙ sym k ∙ f) refl

    pub shut : t ≡ true → None ≡ open_entry (model_of m) known r v
    unfolding open_entry
    shut f = rw (lt-ltb v (variable_count m) (rw p at l), sym (ap (is_up known) entry-is) ∙ sym k ∙ f) refl

  pub past-last : vars ≤ v → None ≡ open_entry (model_of m) known r v
  unfolding open_entry
  past-last l = rw (le-ltb v (variable_count m) (rw p at l)) refl
