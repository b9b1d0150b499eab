-- Values put into the node records of a graph's bodies.
-- Assumes nothing.
use Prim.Native.Nat.{ℕ, zero, suc, ◌+◌, ◌*◌, ◌/◌, ◌%◌, ◌<◌, ◌≤◌, zero-le}
use mathlib.Core.Path.{◌≡◌, refl, sym, ap, ◌∙◌}
use mathlib.Core.Logic.{◌⊎◌, inl, inr}
use mathlib.Core.List.{List, [], ◌∷◌, ◌++◌}
use native.Mathlib.Nat.{eq-or-lt_of_le, le_of_suc-le-suc, not-suc-le-zero, mod-eq_of_lt, mod-lt, mul-le-mul_left, div-lt_iff_lt-mul}
use native.Mathlib.Numerals.{add-one}
use native.Mathlib.Omega.{arith}
use lib.ListN.{length, get_or, set, drop, length-set}
use lib.Seq.{set-append_left}
use Rattle.folder.specs.Fields.{field_limit, field4_limit}
use Rattle.model.specs.Model.{Model}
use Rattle.model.specs.Pedal.{fields}
use Rattle.graph.specs.Simulation.{node_size}
use Rattle.graph.specs.Figures.{over}
use Rattle.building.specs.First.{put}
use Rattle.building.specs.Building.{Building, as_simulation}
use Rattle.building.proofs.FirstLaws.{put_same, put_other, put_all}
use Rattle.put.specs.Put.{put2, put4}
use Rattle.put.proofs.PutLaws.{put-length}
use Rattle.written.specs.Bytes.{chain, node_fields, node_body, edge_body}
use Rattle.written.proofs.FieldLaws.{length_fields, chain_same, chain-within, high_small}
use Rattle.written.proofs.ReadBack.{bytes-long}
use Rattle.assembly.specs.Stages.{bodies_by}
use Rattle.assembly.proofs.BytesLaws.{bodies-long, bodies-same, record_by}

-- ---- two elements, one after the other
abbrev pub set2 : List ℕ → ℕ → ℕ → ℕ → List ℕ
set2 l k x y = set (set l k x) (k + 1) y

pub set2-left : (a b : List ℕ) (k x y : ℕ) → k + 1 < length a → set2 (a ++ b) k x y ≡ set2 a k x y ++ b
set2-left a b k x y l =
    ap (λ (s : List ℕ). set s (k + 1) y) (set-append_left a b k x (omega arith))
    ∙ set-append_left (set a k x) b (k + 1) y (omega (arith, length-set a k x))

set-right : (a b : List ℕ) (j x : ℕ) → set (a ++ b) (length a + j) x ≡ a ++ set b j x
set-right [] b j x = let e : 0 + j ≡ j = omega arith in rw e refl
set-right (y ∷ a) b j x =
    let e : suc (length a) + j ≡ suc (length a + j) = omega arith in
    rw e (ap (λ (l : List ℕ). y ∷ l) (set-right a b j x))

pub set2-right : (a b : List ℕ) (j x y : ℕ) → set2 (a ++ b) (length a + j) x y ≡ a ++ set2 b j x y
set2-right a b j x y =
    let e : length a + j + 1 ≡ length a + (j + 1) = omega arith in
    rw e (ap (λ (s : List ℕ). set s (length a + (j + 1)) y) (set-right a b j x) ∙ set-right a (set b j x) (j + 1) y)

-- In one of several lists, one after the other.
module _ (f g : ℕ → List ℕ) (n j x y : ℕ) (others : (i : ℕ) → (i ≡ n → ⊥) → g i ≡ f i) (this : g n ≡ set2 (f n) j x y) (within : j + 1 < length (f n)) where
  chain-set : (k : ℕ) → n < k → chain k g ≡ set2 (chain k f) (length (chain n f) + j) x y
  unfolding chain
  chain-set zero l = absurd (not-suc-le-zero l)
  chain-set (suc k) l = go (λ m. chain-set k m) (eq-or-lt_of_le (le_of_suc-le-suc l))
    where
      go : (n < k → chain k g ≡ set2 (chain k f) (length (chain n f) + j) x y) → (n ≡ k) ⊎ (n < k) → chain k g ++ g k ≡ set2 (chain k f ++ f k) (length (chain n f) + j) x y
      go below (inl q) = rw (← q) ((λ i. chain_same n g f (λ m h. others m (λ e. omega arith)) i ++ this i) ∙ sym (set2-right (chain n f) (f n) j x y))
      go below (inr m) =
          (λ i. below m i ++ others k (λ e. omega arith) i)
          ∙ sym (set2-left (chain k f) (f k) (length (chain n f) + j) x y (omega (arith, chain-within f k n m)))

-- ---- a field, and a value of two fields
pub high_byte : (x : ℕ) → x < field_limit → x / 256 % 256 ≡ x / 256
high_byte x l = mod-eq_of_lt ((div-lt_iff_lt-mul {k = 256} {x = x} {y = 256} (omega arith)).1 (omega arith))

fields-set : (l : List ℕ) (k x : ℕ) → x < field_limit → fields (set l k x) ≡ put2 (fields l) (2 * k) x
unfolding put2
fields-set [] k x h = refl
fields-set (y ∷ ys) zero x h = ap (λ (z : ℕ). x % 256 ∷ z ∷ fields ys) (high_byte x h)
fields-set (y ∷ ys) (suc k) x h =
    let e : 2 * suc k ≡ suc (suc (2 * k)) = omega arith in
    let d : suc (suc (2 * k)) + 1 ≡ suc (suc (2 * k + 1)) = omega arith in
    rw (e, d) (ap (λ (s : List ℕ). y % 256 ∷ y / 256 % 256 ∷ s) (fields-set ys k x h))

fields-set2 : (l : List ℕ) (k u : ℕ) → u < field4_limit → fields (set2 l k (u % field_limit) (u / field_limit)) ≡ put4 (fields l) (2 * k) u
unfolding put4
fields-set2 l k u h =
    let e : 2 * (k + 1) ≡ 2 * k + 2 = omega arith in
    fields-set (set l k (u % field_limit)) (k + 1) (u / field_limit) (high_small u h)
    ∙ rw e (ap (λ (s : List ℕ). put2 s (2 * k + 2) (u / field_limit)) (fields-set l k (u % field_limit) (mod-lt u (omega arith))))

pub put4-long : (l : List ℕ) (k u : ℕ) → length (put4 l k u) ≡ length l
unfolding put4
put4-long l k u = put-length (put2 l k (u % field_limit)) (k + 2) (u / field_limit) ∙ put-length l k (u % field_limit)

put2-left : (a b : List ℕ) (k u : ℕ) → k + 1 < length a → put2 (a ++ b) k u ≡ put2 a k u ++ b
unfolding put2
put2-left a b k u l = set2-left a b k (u % 256) (u / 256) l

put4-left : (a b : List ℕ) (k u : ℕ) → k + 3 < length a → put4 (a ++ b) k u ≡ put4 a k u ++ b
unfolding put4
put4-left a b k u l =
    ap (λ (s : List ℕ). put2 s (k + 2) (u / field_limit)) (put2-left a b k (u % field_limit) (omega arith))
    ∙ put2-left (put2 a k (u % field_limit)) b (k + 2) (u / field_limit) (omega (arith, put-length a k (u % field_limit)))

-- ---- one node's value
module _ (M : Model) (B : Building) (v : ℕ → ℕ) (n u : ℕ) (l : n < B.nodes) (h : u < field4_limit) where
  abbrev f : ℕ → List ℕ
  f = node_fields M (as_simulation M B v)

  abbrev w : ℕ → ℕ
  w = put n u v

  -- Where its record begins.
  record-at : 2 * length (chain n f) ≡ node_size M.variables * n
  record-at = sym (length_fields (chain n f)) ∙ bytes-long M (as_simulation M (record { nodes = n; kind = B.kind; cover = B.cover; tracked = B.tracked; state = B.state; child = B.child }) v)

  nodes-put : node_body M (as_simulation M B w) ≡ set2 (node_body M (as_simulation M B v)) (length (chain n f) + 2) (u % field_limit) (u / field_limit)
  nodes-put = chain-set f (node_fields M (as_simulation M B w)) n 2 (u % field_limit) (u / field_limit)
      (λ i d. ap (record_by M B i) (put_other n u v i d)) (ap (record_by M B n) (put_same n u v)) (omega arith) B.nodes l

  value-within : node_size M.variables * n + 4 + 3 < length (fields (node_body M (as_simulation M B v)))
  value-within = omega (arith, length_fields (node_body M (as_simulation M B v)), chain-within f B.nodes n l, record-at)

  bodies-put : bodies_by M B w ≡ put4 (bodies_by M B v) (node_size M.variables * n + 4) u
  unfolding bodies_by
  bodies-put =
      let e : 2 * (length (chain n f) + 2) ≡ node_size M.variables * n + 4 = omega (arith, record-at) in
      ap (λ (s : List ℕ). fields s ++ fields (edge_body M (as_simulation M B v))) nodes-put
      ∙ ap (λ (s : List ℕ). s ++ fields (edge_body M (as_simulation M B v))) (fields-set2 (node_body M (as_simulation M B v)) (length (chain n f) + 2) u h)
      ∙ rw e (sym (put4-left (fields (node_body M (as_simulation M B v))) (fields (edge_body M (as_simulation M B v))) (node_size M.variables * n + 4) u value-within))

  pub value-put : (rest : List ℕ) → put4 (over (bodies_by M B v) rest) (node_size M.variables * n + 4) u ≡ over (bodies_by M B w) rest
  value-put rest =
      put4-left (bodies_by M B v) (drop (length (bodies_by M B v)) rest) (node_size M.variables * n + 4) u (omega (arith, value-within, bytes-long M (as_simulation M B v), bodies-long M B v))
      ∙ (λ i. sym bodies-put i ++ drop ((bodies-long M B v ∙ sym (bodies-long M B w)) i) rest)

-- The value of node n stands within the records.
pub word-within : (vars : ℕ) {size n nodes room : ℕ} → size ≡ node_size vars → n < nodes → node_size vars * nodes ≤ room → size * n + 4 + 3 < room
word-within vars s l h = rw s (omega (arith, mul-le-mul_left (node_size vars) l))

-- ---- all values, one after the other: those below n are f's
unfoldable pub values_put : (ℕ → ℕ) → (ℕ → ℕ) → ℕ → ℕ → ℕ
values_put f value zero = value
values_put f value (suc n) = put n (f n) (values_put f value n)

values-below : (f value : ℕ → ℕ) (n k : ℕ) → k < n → values_put f value n k ≡ f k
unfolding values_put
values-below f value zero k l = absurd (not-suc-le-zero l)
values-below f value (suc n) k l =
    put_all (λ (i x : ℕ). i < suc n → x ≡ f i) n (f n) (values_put f value n) k (λ e _. ap f (sym e)) (λ d m. values-below f value n k (omega arith)) l

-- The slice was nb₀ and is nb: the values below n are put, the others are as they were.
pub record Valued (vars nodes : ℕ) (row nb₀ nb : List ℕ) (n : ℕ) : Type 0 where
  pub within : n ≤ nodes
  pub long : length nb ≡ length nb₀
  pub is : (M : Model) (B : Building) (value : ℕ → ℕ) (rest : List ℕ) → vars ≡ M.variables → nodes ≡ B.nodes
      → nb₀ ≡ over (bodies_by M B value) rest → nb ≡ over (bodies_by M B (values_put (λ k. get_or row k 0) value n)) rest

module _ {vars nodes : ℕ} {row nb₀ : List ℕ} where
  pub valued-start : Valued vars nodes row nb₀ nb₀ 0
  unfolding values_put
  valued-start = record { within = zero-le; long = refl; is = λ M B value rest p q e. e }

  module _ {nb : List ℕ} {n : ℕ} (A : Valued vars nodes row nb₀ nb n) where
    pub valued-next : {size u : ℕ} {new : List ℕ} → n < nodes → size ≡ node_size vars → u ≡ get_or row n 0 → u < field4_limit → new ≡ put4 nb (size * n + 4) u → Valued vars nodes row nb₀ new (n + 1)
    unfolding values_put
    valued-next {size} {u} l s r h e = record {
      within = omega arith;
      long = ap length e ∙ put4-long nb (size * n + 4) u ∙ A.long;
      is = λ M B value rest p q a.
          let x : size * n + 4 ≡ node_size M.variables * n + 4 = rw (s, p) refl in
          e ∙ rw (A.is M B value rest p q a, x, add-one, ← r) (value-put M B (values_put (λ k. get_or row k 0) value n) n u (omega arith) h rest);
    }

    pub valued-over : nodes ≤ n → (M : Model) (B : Building) (value : ℕ → ℕ) (rest : List ℕ) → vars ≡ M.variables → nodes ≡ B.nodes
        → nb₀ ≡ over (bodies_by M B value) rest → nb ≡ over (bodies_by M B (λ k. get_or row k 0)) rest
    valued-over l M B value rest p q e =
        A.is M B value rest p q e
        ∙ ap (λ (s : List ℕ). over s rest) (bodies-same M B (values_put (λ k. get_or row k 0) value n) (λ k. get_or row k 0) (λ k m. values-below (λ k. get_or row k 0) value n k (omega arith)))
