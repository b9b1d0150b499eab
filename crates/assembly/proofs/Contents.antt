-- The contents written over the front of a slice.
-- Assumes nothing.
use Prim.Native.Nat.{ℕ, ◌+◌, ◌/◌, ◌%◌, ◌<◌, ◌≤◌}
use mathlib.Core.Path.{◌≡◌, refl, sym, ap, ◌∙◌}
use mathlib.Core.List.{List, [], ◌∷◌, ◌++◌, append_assoc}
use native.Mathlib.Nat.{mod-lt}
use native.Mathlib.Omega.{arith}
use lib.ListN.{length, drop, length-drop}
use lib.Seq.{drop-drop}
use Rattle.folder.specs.Fields.{field_limit, field4_limit}
use Rattle.model.specs.Pedal.{four}
use Rattle.graph.specs.Limits.{least_bytes}
use Rattle.put.specs.Put.{put2, put4}
use Rattle.written.proofs.FieldLaws.{high_small}
use Rattle.assembly.specs.Stages.{contents_by}
use Rattle.assembly.proofs.Putting.{set2-right, high_byte}

put2-right : (a b : List ℕ) (j u : ℕ) → put2 (a ++ b) (length a + j) u ≡ a ++ put2 b j u
unfolding put2
put2-right a b j u = set2-right a b j (u % 256) (u / 256)

put4-right : (a b : List ℕ) (j u : ℕ) → put4 (a ++ b) (length a + j) u ≡ a ++ put4 b j u
unfolding put4
put4-right a b j u =
    let e : length a + j + 2 ≡ length a + (j + 2) = omega arith in
    rw e (ap (λ (s : List ℕ). put2 s (length a + (j + 2)) (u / field_limit)) (put2-right a b j (u % field_limit)) ∙ put2-right a (put2 b j (u % field_limit)) (j + 2) (u / field_limit))

-- A word at the front, and after a list.
word_first : (q : List ℕ) (u : ℕ) → 4 ≤ length q → u < field4_limit → put4 q 0 u ≡ four u ++ drop 4 q
unfolding put4 put2
word_first [] u l h = absurd (omega arith)
word_first (a ∷ []) u l h = absurd (omega arith)
word_first (a ∷ b ∷ []) u l h = absurd (omega arith)
word_first (a ∷ b ∷ c ∷ []) u l h = absurd (omega arith)
word_first (a ∷ b ∷ c ∷ d ∷ q) u l h =
    rw (high_byte (u % field_limit) (mod-lt u (omega arith)), high_byte (u / field_limit) (high_small u h)) refl

word_next : (p q : List ℕ) (u : ℕ) → 4 ≤ length q → u < field4_limit → put4 (p ++ q) (length p) u ≡ (p ++ four u) ++ drop 4 q
word_next p q u l h =
    let e : length p + 0 ≡ length p = omega arith in
    ap (λ (k : ℕ). put4 (p ++ q) k u) (sym e) ∙ put4-right p q 0 u ∙ ap (λ (s : List ℕ). p ++ s) (word_first q u l h) ∙ sym (append_assoc p (four u) (drop 4 q))

pub contents-put : (l : List ℕ) (a b : ℕ) → least_bytes ≤ length l → least_bytes + a < field4_limit → b < field4_limit
    → put4 (put4 (put4 (put4 l 0 least_bytes) 4 a) 8 (least_bytes + a)) 12 b ≡ contents_by a b ++ drop least_bytes l
contents-put l a b k p q =
    ap (λ (s : List ℕ). put4 (put4 (put4 s 4 a) 8 (least_bytes + a)) 12 b) (word_first l least_bytes (omega arith) (omega arith))
    ∙ ap (λ (s : List ℕ). put4 (put4 s 8 (least_bytes + a)) 12 b) (word_next (four least_bytes) (drop 4 l) a (omega (arith, length-drop 4 l)) (omega arith) ∙ ap (λ (s : List ℕ). (four least_bytes ++ four a) ++ s) (drop-drop 4 4 l))
    ∙ ap (λ (s : List ℕ). put4 s 12 b) (word_next (four least_bytes ++ four a) (drop 8 l) (least_bytes + a) (omega (arith, length-drop 8 l)) p ∙ ap (λ (s : List ℕ). ((four least_bytes ++ four a) ++ four (least_bytes + a)) ++ s) (drop-drop 4 8 l))
    ∙ word_next ((four least_bytes ++ four a) ++ four (least_bytes + a)) (drop 12 l) b (omega (arith, length-drop 12 l)) q
    ∙ ap (λ (s : List ℕ). contents_by a b ++ s) (drop-drop 4 12 l)
