-- The test of a contents entry decides its rule; a body as a part of the folder, and its records.
-- Assumes nothing.
use Prim.Native.Nat.{ℕ, suc, ◌+◌, ◌*◌, ◌/◌, ◌%◌, ◌<◌, ◌≤◌}
use mathlib.Core.Path.{◌≡◌}
use mathlib.Core.List.{List}
use native.Mathlib.Nat.{mul-le-mul, mul-le-mul_left, mul-suc, mul-div-le, div-add-mod}
use native.Mathlib.Omega.{arith}
use lib.ListN.{length, length-take, length-drop, get_or-eq_default}
use Rattle.folder.specs.Fields.{field_limit, field4_limit, u16, u32}
use Rattle.folder.specs.Contents.{start_of, length_of, due_start, entry_ok, EntryRight, body, count_of, field4}
use Rattle.folder.proofs.Decides.{Decides, at_most, same, ◌∧also◌, whenever, reworded}

-- A record's start is small where its size and its number are.
pub product_small : (a b : ℕ) → a ≤ field_limit → b ≤ field_limit → a * b ≤ field4_limit
product_small a b p q = mul-le-mul {n₁ = a} {m₁ = b} {n₂ = field_limit} {m₂ = field_limit} p q

pub entry-decided : (s : List ℕ) (k e : ℕ) → Decides (EntryRight s k e) (entry_ok s k e)
unfolding entry_ok
entry-decided s k e = reworded
    (λ h. record { start = h.0.0; ends = h.0.1; final = h.1 })
    (λ r. ((r.start, r.ends), r.final))
    ((same (start_of s e) (due_start s k e) ∧also at_most (start_of s e + length_of s e) (length s)) ∧also whenever (same (e + 1) k) (same (start_of s e + length_of s e) (length s)))

-- A body is no longer than its entry says, and no longer than the folder.
pub body-said : (s : List ℕ) (e : ℕ) → length (body s e) ≤ length_of s e
unfolding body
body-said s e = rw length-take (omega arith)

pub body-short : (s : List ℕ) (e : ℕ) → length (body s e) ≤ length s
unfolding body
body-short s e = simp (length-take, length-drop) (omega arith)

-- A record that is counted is whole.
pub record-within : (size bytes i : ℕ) → i < bytes / size → size * i + size ≤ bytes
record-within size bytes i l =
    let h : size * suc i ≤ size * (bytes / size) = mul-le-mul_left size l in
    omega (arith, mul-div-le bytes size, mul-suc size i)

pub record-whole : (size : ℕ) (b : List ℕ) (i : ℕ) → i < count_of size b → size * i + size ≤ length b
unfolding count_of
record-whole size b i l = record-within size (length b) i l

-- Past the last record every field is 0, where the body is whole records.
whole-end : (size : ℕ) (b : List ℕ) (k : ℕ) → length b % size ≡ 0 → count_of size b ≤ k → length b ≤ size * k
unfolding count_of
whole-end size b k w l = omega (arith, div-add-mod (length b) size, w, mul-le-mul_left {m = length b / size} {n = k} size l)

u32-past : (b : List ℕ) (p : ℕ) → length b ≤ p → u32 b p ≡ 0
unfolding u16 u32
u32-past b p l = omega (
  arith,
  get_or-eq_default b 0 {n = p} l,
  get_or-eq_default b 0 {n = p + 1} (omega arith),
  get_or-eq_default b 0 {n = p + 2} (omega arith),
  get_or-eq_default b 0 {n = p + 2 + 1} (omega arith),
)

pub field4-past : (size : ℕ) (b : List ℕ) (k f : ℕ) → length b % size ≡ 0 → count_of size b ≤ k → field4 size b k f ≡ 0
unfolding field4
field4-past size b k f w l = u32-past b (size * k + 2 * f) (omega (arith, whole-end size b k w l))
