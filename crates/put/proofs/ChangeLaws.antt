-- A loop that changes a row from `from` on, element by element: it starts, goes on, and is over.
-- Assumes nothing.
use Prim.Native.Nat.{ℕ, ◌+◌, ◌-◌, ◌<◌, ◌≤◌}
use mathlib.Core.Path.{◌≡◌, ap, ◌∙◌}
use mathlib.Core.List.{List}
use native.Mathlib.Decide.{ℕ_discrete}
use native.Mathlib.Omega.{arith}
use lib.ListN.{length, get_or, set, length-set}
use lib.Seq.{get_or-set_same, get_or-set_other}
use borrow.Rule.Slice.PartMut.{put_mid}
use Rattle.std.proofs.Common.{rules}
use Rattle.std.proofs.lemmas.Slice.{overwrites}
use Rattle.std.proofs.lemmas.List.{places}
use Rattle.put.specs.Put.{Changed}
use Rattle.put.proofs.PutLaws.{stays-none}

module _ {from : ℕ} {f : ℕ → ℕ → ℕ} where
  pub change-start : (row : List ℕ) → Changed from from f row row
  change-start row = record { stays = stays-none from from row; is = λ k a b. absurd (omega arith) }

  pub change-next : {i : ℕ} {old new : List ℕ} {x : ℕ} → Changed from i f old new → from ≤ i → i < length new → x ≡ f i (get_or new i 0) → Changed from (i + 1) f old (set new i x)
  change-next {i} {old} {new} {x} c a l e = record {
    stays = record {
      long = length-set new i x ∙ c.stays.long;
      below = λ k h. get_or-set_other new i k x 0 (λ z. omega arith) ∙ c.stays.below k h;
      past = λ k h. get_or-set_other new i k x 0 (λ z. omega arith) ∙ c.stays.past k (omega arith);
    };
    is = λ k b h. go k b h (ℕ_discrete k i);
  }
    where
      go : (k : ℕ) → from ≤ k → k < i + 1 → Dec (k ≡ i) → get_or (set new i x) k 0 ≡ f k (get_or old k 0)
      go k b h (yes z) = rw z (get_or-set_same new i x 0 l ∙ e ∙ ap (f i) (c.stays.past i (omega arith)))
      go k b h (no d) = get_or-set_other new i k x 0 d ∙ c.is k b (omega arith)

  pub change-over : {i to : ℕ} {old new : List ℕ} → Changed from i f old new → i ≤ to → to ≤ i → Changed from to f old new
  change-over {i} {to} c p q = let e : i ≡ to = omega arith in rw (← e) c

-- The same of a part that is lent: what it holds then goes back into the row.
pub changed-part : {f : ℕ → ℕ → ℕ} (a b : ℕ) (xs ys : List ℕ) → a ≤ b → b ≤ length xs → length ys ≡ b - a
    → ((i : ℕ) → i < b - a → get_or ys i 0 ≡ f (a + i) (get_or xs (a + i) 0)) → Changed a b f xs (put_mid a (b - a) xs ys)
changed-part {f} a b xs ys p q l h = record {
  stays = record {
    long = search (rules, overwrites);
    below = λ k m. search (rules, places);
    past = λ k m. search (rules, places);
  };
  is = λ k m n. let e : get_or (put_mid a (b - a) xs ys) k 0 ≡ get_or ys (k - a) 0 = search (rules, places) in
      let z : a + (k - a) ≡ k = omega arith in
      e ∙ rw z at (h (k - a) (omega arith));
}
