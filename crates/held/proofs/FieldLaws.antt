-- What a written field changes of the node records, and what stays.
-- Assumes nothing.
use Prim.Native.Nat.{ℕ, suc, ◌+◌, ◌*◌, ◌^◌, ◌<◌, ◌≤◌}
use mathlib.Core.Path.{◌≡◌, ap}
use mathlib.Core.Logic.{◌⊎◌, inl, inr}
use mathlib.Core.List.{List}
use native.Mathlib.Nat.{mul-le-mul_left, mul-suc, pow-suc, pow-le-pow_right, le_trans}
use native.Mathlib.Decide.{dec_lt, ℕ_discrete}
use native.Mathlib.Omega.{arith}
use lib.ListN.{length}
use lib.Pow.{pow_pos}
use Rattle.folder.specs.Fields.{field_limit, signed16}
use Rattle.folder.specs.Contents.{field}
use Rattle.folder.proofs.TabLaws.{tab-same}
use Rattle.expressions.specs.Mentions.{union}
use Rattle.model.specs.Limits.{most_variables}
use Rattle.model.specs.Layout.{variable_count}
use Rattle.graph.specs.Simulation.{node_size}
use Rattle.building.proofs.SetLaws.{union-small}
use Rattle.put.specs.Put.{Stays}
use Rattle.put.proofs.PutLaws.{put-length, put_back, put_other, stays-none, stays_put, u16-below, u16-past}
use Rattle.held.specs.Held.{state_field, field_count, node_in, state_in, put_in, Whole}

-- A record ends by where a later one starts.
pub record-at : (w n k : ℕ) → n < k → w * n + w ≤ w * k
record-at w n k l = omega (arith, mul-le-mul_left w l, mul-suc w n)

-- The record of a node that is counted is there.
pub whole-at : (vars : ℕ) (nb : List ℕ) (n nodes : ℕ) → n < nodes → node_size vars * nodes ≤ length nb → Whole vars nb n
whole-at vars nb n nodes l h = omega (arith, record-at (node_size vars) n nodes l)

-- Where field f of record n stands.
abbrev place : ℕ → ℕ → ℕ → ℕ
place vars n f = node_size vars * n + 2 * f

apart : (vars n f i g : ℕ) → f < field_count vars → g < field_count vars → (i ≡ n → g ≡ f → ⊥) → (place vars i g + 1 < place vars n f) ⊎ (place vars n f + 1 < place vars i g)
apart vars n f i g p q d = go (dec_lt i n) (dec_lt n i) (dec_lt g f)
  where
    go : Dec (i < n) → Dec (n < i) → Dec (g < f) → (place vars i g + 1 < place vars n f) ⊎ (place vars n f + 1 < place vars i g)
    go (yes l) b c = inl (omega (arith, record-at (node_size vars) i n l))
    go (no a) (yes l) c = inr (omega (arith, record-at (node_size vars) n i l))
    go (no a) (no b) (yes l) = let e : i ≡ n = omega arith in inl (rw e (omega arith))
    go (no a) (no b) (no c) =
        let e : i ≡ n = omega arith in
        inr (rw e (other e (ℕ_discrete g f)))
      where
        other : i ≡ n → Dec (g ≡ f) → place vars n f + 1 < place vars n g
        other e (yes h) = absurd (d e h)
        other e (no h) = omega arith

module _ (vars : ℕ) (nb : List ℕ) (n f u : ℕ) where
  pub put-long : length (put_in vars nb n f u) ≡ length nb
  unfolding put_in
  put-long = put-length nb (place vars n f) u

  module _ (there : f < field_count vars) where
    pub put-here : Whole vars nb n → u < field_limit → field (node_size vars) (put_in vars nb n f u) n f ≡ u
    unfolding put_in field
    put-here w l = put_back nb (place vars n f) u (omega arith) l

    pub put-there : (i g : ℕ) → g < field_count vars → (i ≡ n → g ≡ f → ⊥) → field (node_size vars) (put_in vars nb n f u) i g ≡ field (node_size vars) nb i g
    unfolding put_in field
    put-there i g p d = put_other nb (place vars n f) u (place vars i g) (apart vars n f i g there p d)

    pub put-within : Stays (node_size vars * n) (node_size vars * n + node_size vars) nb (put_in vars nb n f u)
    unfolding put_in
    put-within = stays_put (place vars n f) u (stays-none _ _ nb) (omega arith) (omega arith)

-- Fields and states of the nodes outside a part that is written.
module _ (vars : ℕ) {a b : ℕ} {old new : List ℕ} (s : Stays a b old new) where
  pub field_below : (i f : ℕ) → f < field_count vars → node_size vars * i + node_size vars ≤ a → field (node_size vars) new i f ≡ field (node_size vars) old i f
  unfolding field
  field_below i f l h = u16-below s (place vars i f) (omega arith)

  pub field_past : (i f : ℕ) → b ≤ node_size vars * i → field (node_size vars) new i f ≡ field (node_size vars) old i f
  unfolding field
  field_past i f h = u16-past s (place vars i f) (omega arith)

-- A state is what its fields are.
pub state-same : (m old new : List ℕ) (i : ℕ) → ((v : ℕ) → v < variable_count m → node_in m new i (state_field + v) ≡ node_in m old i (state_field + v)) → state_in m new i ≡ state_in m old i
unfolding state_in
state-same m old new i h = tab-same (variable_count m) _ _ (λ v l. ap signed16 (h v l))

module _ (m : List ℕ) {a b : ℕ} {old new : List ℕ} (s : Stays a b old new) (i : ℕ) where
  pub state-below : node_size (variable_count m) * i + node_size (variable_count m) ≤ a → state_in m new i ≡ state_in m old i
  state-below h = state-same m old new i (λ v l. field_below (variable_count m) s i (state_field + v) (omega arith) h)

  pub state-past : b ≤ node_size (variable_count m) * i → state_in m new i ≡ state_in m old i
  state-past h = state-same m old new i (λ v l. field_past (variable_count m) s i (state_field + v) h)

-- ---- sets as fields
pub bit-field : (v : ℕ) → v < most_variables → 2 ^ v < field_limit
bit-field v l =
    let a : 2 ^ suc v ≤ 2 ^ most_variables = pow-le-pow_right {n = 2} (omega arith) l in
    let b : 2 ^ suc v ≡ 2 ^ v * 2 = pow-suc 2 v in
    let p : 0 < 2 ^ v = pow_pos v in
    omega arith

pub union-field : (a b : ℕ) → a < field_limit → b < field_limit → union a b < field_limit
union-field a b p q = union-small most_variables a b p q

-- A set of a model's variables.
pub set-field : (vars t : ℕ) → vars ≤ most_variables → t < 2 ^ vars → t < field_limit
set-field vars t l h = le_trans h (pow-le-pow_right {n = 2} (omega arith) l)
