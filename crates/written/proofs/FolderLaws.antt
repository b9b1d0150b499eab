-- A folder of two bodies: its contents, its bodies, its length.
-- Assumes nothing.
use Prim.Native.Nat.{ℕ, zero, suc, ◌+◌, ◌<◌}
use mathlib.Core.Path.{◌≡◌, refl, sym, ap, ◌∙◌}
use mathlib.Core.List.{List, [], ◌∷◌, ◌++◌}
use native.Mathlib.Nat.{not-suc-le-zero, le_of_suc-le-suc}
use native.Mathlib.Omega.{arith}
use lib.ListN.{length, take, length-append}
use lib.Seq.{take_at, drop_at, drop-drop}
use Rattle.folder.specs.Fields.{field4_limit, u16, u32}
use Rattle.folder.specs.Contents.{start_of, length_of, due_start, EntryRight, body}
use Rattle.model.specs.Pedal.{folder_of}
use Rattle.graph.specs.Limits.{least_bytes}
use Rattle.graph.specs.Simulation.{bodies}
use Rattle.written.proofs.FieldLaws.{four-back}

module _ (a b : List ℕ) where
  abbrev folder : List ℕ
  folder = folder_of (a ∷ b ∷ [])

  pub folder-length : length folder ≡ least_bytes + length a + length b
  folder-length = omega (arith, length-append a (b ++ []), length-append b [])

  -- Its contents can say how long it is.
  module _ (short : length folder < field4_limit) where
    start-0 : start_of folder 0 ≡ least_bytes
    unfolding u32 u16
    start-0 = refl

    length-0 : length_of folder 0 ≡ length a
    unfolding u32 u16
    length-0 = four-back (length a) (omega (arith, folder-length))

    start-1 : start_of folder 1 ≡ least_bytes + length a
    unfolding u32 u16
    start-1 = four-back (least_bytes + length a) (omega (arith, folder-length))

    length-1 : length_of folder 1 ≡ length b
    unfolding u32 u16
    length-1 = four-back (length b) (omega (arith, folder-length))

    pub body-0 : body folder 0 ≡ a
    unfolding body
    body-0 = rw (start-0, length-0) (take_at a (b ++ []) (length a) refl)

    pub body-1 : body folder 1 ≡ b
    unfolding body
    body-1 =
        rw (start-1, length-1)
        (ap (take (length b)) (sym (drop-drop (length a) least_bytes folder) ∙ drop_at a (b ++ []) (length a) refl) ∙ take_at b [] (length b) refl)

    pub entries-right : (e : ℕ) → e < bodies → EntryRight folder bodies e
    unfolding due_start
    entries-right zero l = record { start = start-0; ends = omega (arith, start-0, length-0, folder-length); final = λ q. absurd (omega arith) }
    entries-right (suc zero) l = record {
      start = start-1 ∙ sym (ap (λ (n : ℕ). n + length_of folder 0) start-0 ∙ ap (λ (n : ℕ). least_bytes + n) length-0);
      ends = omega (arith, start-1, length-1, folder-length);
      final = λ q. omega (arith, start-1, length-1, folder-length);
    }
    entries-right (suc (suc e)) l = absurd (not-suc-le-zero (le_of_suc-le-suc (le_of_suc-le-suc l)))
