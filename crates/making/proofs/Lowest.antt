-- A node that is covered next is covered by the lowest that can cover it.
-- Assumes nothing.
use Rattle.std.specs.Prelude.{None, Some}
use Prim.Native.Nat.{ℕ, ◌<◌}
use mathlib.Core.Path.{◌≡◌, refl, sym, ap, ◌∙◌}
use mathlib.Core.Logic.{⊎_elim}
use mathlib.Core.Bool.{Bool, true, false}
use native.Mathlib.Omega.{arith}
use Rattle.folder.specs.Pick.{pick}
use Rattle.expressions.specs.Meaning.{truth_in}
use Rattle.model.specs.Model.{Model}
use Rattle.building.specs.First.{given, onward, first}
use Rattle.building.specs.Building.{Building}
use Rattle.building.specs.Moves.{Limit, cover_by, reach, expand, repair, room, can_cover, lowest_waiting, lowest_cover, opening, growth, next_move}
use Rattle.building.specs.Kept.{Mended}
use Rattle.building.proofs.FirstLaws.{nothing, orelse-some, onward-some, first-least, first_some, given-some}

given-least : {A : Type 0} (b : Bool) (a : A) → given b (Some a) ≡ None → b ≡ false
unfolding given
given-least true a e = nothing (sym e)
given-least false a e = refl

module _ (M : Model) (P : Limit) (B : Building) (n c : ℕ) where
  lowest-covers : lowest_cover M B n ≡ Some c → (d : ℕ) → d < c → can_cover M B n d ≡ false
  unfolding lowest_cover
  lowest-covers e d l =
      let p = first-least B.nodes (λ k. given (can_cover M B n k) (Some k)) c e in
      let q : p.place ≡ c = cc (given-some (can_cover M B n p.place) (Some p.place) c p.is).1 in
      given-least (can_cover M B n d) d (p.before d (omega arith))

  -- Who opens a node does not cover it.
  opening-other : (k : ℕ) → opening M P B k ≡ Some (cover_by n c) → {A : Type 0} → A
  unfolding opening
  opening-other k e = go (truth_in M.entries (B.state k) M.target) (room M P B k) e
    where
      go : {A : Type 0} (t r : Bool) → pick t (Some (reach k)) (given r (Some (expand k))) ≡ Some (cover_by n c) → A
      go true r q = let z : ◌≡◌ {A = ℕ} 0 1 = cc in absurd (omega arith)
      go false r q = let h = (given-some r (Some (expand k)) (cover_by n c) q).1 in let z : ◌≡◌ {A = ℕ} 0 1 = cc in absurd (omega arith)

  growth-covers : (k : ℕ) → growth M P B k ≡ Some (cover_by n c) → lowest_cover M B n ≡ Some c
  growth-covers k e = ⊎_elim
      (λ h.
      let p = onward-some (lowest_cover M B k) (λ d. Some (cover_by k d)) (cover_by n c) h in
      let a : k ≡ n = cc p.2 in
      let b : p.0 ≡ c = cc p.2 in
      rw (← a) (p.1 ∙ ap Some b))
      (λ h. opening-other k h)
      (orelse-some (onward (lowest_cover M B k) (λ d. Some (cover_by k d))) (opening M P B k) (cover_by n c) e)

  pub lowest : Mended M B → next_move M P B ≡ Some (cover_by n c) → (d : ℕ) → d < c → can_cover M B n d ≡ false
  unfolding next_move
  lowest F e = ⊎_elim
      (λ h. let p = first_some B.nodes (repair M B) (cover_by n c) h in nothing (sym (F p.0 p.1) ∙ p.2))
      (λ h. let p = onward-some (lowest_waiting M B) (growth M P B) (cover_by n c) h in lowest-covers (growth-covers p.0 p.2))
      (orelse-some (first B.nodes (repair M B)) (onward (lowest_waiting M B) (growth M P B)) (cover_by n c) e)
