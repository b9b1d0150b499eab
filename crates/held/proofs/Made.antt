-- What the records hold after a move is what the move makes of the building that they held.
-- Assumes nothing.
use Prim.Native.Nat.{ℕ, ◌+◌, ◌*◌, ◌^◌, ◌<◌, ◌≤◌}
use mathlib.Core.Path.{◌≡◌, sym, ap, ◌∙◌}
use mathlib.Core.List.{List, []}
use native.Mathlib.Decide.{dec_lt, ℕ_discrete}
use native.Mathlib.Omega.{arith}
use borrow.Author.Tests.{lt-ltb, le-ltb}
use lib.Dec.{ltb}
use lib.ListN.{length}
use Rattle.mdp.specs.Kinds.{Kind}
use Rattle.folder.specs.Pick.{pick}
use Rattle.folder.specs.Fields.{field_limit}
use Rattle.folder.specs.Contents.{field}
use Rattle.expressions.specs.Mentions.{union}
use Rattle.model.specs.Layout.{variable_count}
use Rattle.model.specs.Model.{Model, model_of}
use Rattle.graph.specs.Simulation.{node_size, kind_of}
use Rattle.building.specs.First.{put}
use Rattle.building.specs.Building.{Building, start_set}
use Rattle.building.specs.Moves.{apply, track, adopt, drop, cover_by, reach, tracking, becoming}
use Rattle.building.proofs.FirstLaws.{put-at, put_other}
use Rattle.held.specs.Held.{kind_field, cover_field, child_field, parent_field, read_field, tracked_field, state_field, field_count, node_in, state_in, set_in, held_in, put_in, become_in, Whole}
use Rattle.held.proofs.FieldLaws.{whole-at, put-long, put-here, put-there, state-same}

-- What stands of node i, if it is counted.
abbrev pub counted : {A : Type 0} → ℕ → A → ℕ → A → A
counted nodes d i x = pick (ltb i nodes) x d

pub counted-in : {A : Type 0} (nodes : ℕ) (d : A) (i : ℕ) (x : A) → i < nodes → counted nodes d i x ≡ x
counted-in nodes d i x l = rw (lt-ltb i nodes l)

pub counted-past : {A : Type 0} (nodes : ℕ) (d : A) (i : ℕ) (x : A) → nodes ≤ i → counted nodes d i x ≡ d
counted-past nodes d i x l = rw (le-ltb i nodes l)

pub counted_same : {A : Type 0} (nodes : ℕ) (d : A) (i : ℕ) {x y : A} → (i < nodes → x ≡ y) → counted nodes d i x ≡ counted nodes d i y
counted_same nodes d i {x} {y} h = go (dec_lt i nodes)
  where
    go : Dec (i < nodes) → counted nodes d i x ≡ counted nodes d i y
    go (yes l) = ap (counted nodes d i) (h l)
    go (no g) =
        let p : nodes ≤ i = omega arith in
        counted-past nodes d i x p ∙ sym (counted-past nodes d i y p)

-- A field that is written, as a function of the node.
module _ (m nb : List ℕ) (nodes n f u : ℕ) (l : f < field_count (variable_count m)) where
  put-row : {A : Type 0} (g : ℕ → A) (d : A) → n < nodes → Whole (variable_count m) nb n → u < field_limit → (i : ℕ)
      → counted nodes d i (g (node_in m (put_in (variable_count m) nb n f u) i f)) ≡ put n (g u) (λ k. counted nodes d k (g (node_in m nb k f))) i
  put-row g d t w s i = go (ℕ_discrete i n)
    where
      go : Dec (i ≡ n) → counted nodes d i (g (node_in m (put_in (variable_count m) nb n f u) i f)) ≡ put n (g u) (λ k. counted nodes d k (g (node_in m nb k f))) i
      go (yes e) =
          ap (λ (k : ℕ). counted nodes d k (g (node_in m (put_in (variable_count m) nb n f u) k f))) e
          ∙ counted-in nodes d n (g (node_in m (put_in (variable_count m) nb n f u) n f)) t
          ∙ ap g (put-here (variable_count m) nb n f u l w s)
          ∙ sym (put-at n (g u) (λ k. counted nodes d k (g (node_in m nb k f))) i e)
      go (no q) =
          ap (λ (x : ℕ). counted nodes d i (g x)) (put-there (variable_count m) nb n f u l i f l (λ e h. q e))
          ∙ sym (put_other n (g u) (λ k. counted nodes d k (g (node_in m nb k f))) i q)

  -- Other fields.
  put_rest : (i h : ℕ) → h < field_count (variable_count m) → (h ≡ f → ⊥) → node_in m (put_in (variable_count m) nb n f u) i h ≡ node_in m nb i h
  put_rest i h p q = put-there (variable_count m) nb n f u l i h p (λ e x. q x)

  rest-state : (i : ℕ) → ((v : ℕ) → v < variable_count m → state_field + v ≡ f → ⊥) → state_in m (put_in (variable_count m) nb n f u) i ≡ state_in m nb i
  rest-state i q = state-same m nb (put_in (variable_count m) nb n f u) i (λ v p. put_rest i (state_field + v) (omega arith) (q v p))

-- Kind and cover of node n are written: the other fields stay.
module _ (vars : ℕ) (nb : List ℕ) (n k c : ℕ) where
  pub become-other : (i f : ℕ) → f < field_count vars → (i ≡ n → f ≡ kind_field → ⊥) → (i ≡ n → f ≡ cover_field → ⊥)
      → field (node_size vars) (become_in vars nb n k c) i f ≡ field (node_size vars) nb i f
  become-other i f l p q =
      put-there vars (put_in vars nb n kind_field k) n cover_field c (omega arith) i f l q ∙ put-there vars nb n kind_field k (omega arith) i f l p

  pub become-long : length (become_in vars nb n k c) ≡ length nb
  become-long = put-long vars (put_in vars nb n kind_field k) n cover_field c ∙ put-long vars nb n kind_field k

module _ (m : List ℕ) (nodes : ℕ) (nb : List ℕ) where
  abbrev M : Model
  M = model_of m

  abbrev vars : ℕ
  vars = variable_count m

  abbrev B : Building
  B = held_in m nodes nb

  -- Parents and what is read of them are no part of the building, nor are hints.
  pub held_same : (new : List ℕ) → ((i : ℕ) → i < nodes → (f : ℕ) → f < state_field + vars → (f ≡ parent_field → ⊥) → (f ≡ read_field → ⊥) → node_in m new i f ≡ node_in m nb i f)
      → held_in m nodes new ≡ held_in m nodes nb
  held_same new h = λ j. record {
    nodes = nodes;
    kind = λ i. counted_same nodes Kind.waiting i (λ l. ap kind_of (h i l kind_field (omega arith) (λ e. omega arith) (λ e. omega arith))) j;
    cover = λ i. counted_same nodes 0 i (λ l. h i l cover_field (omega arith) (λ e. omega arith) (λ e. omega arith)) j;
    tracked = λ i. counted_same nodes (start_set M) i (λ l. h i l tracked_field (omega arith) (λ e. omega arith) (λ e. omega arith)) j;
    state = λ i. counted_same nodes [] i (λ l. state-same m nb new i (λ v p. h i l (state_field + v) (omega arith) (λ e. omega arith) (λ e. omega arith))) j;
    child = λ i. counted_same nodes 0 i (λ l. h i l child_field (omega arith) (λ e. omega arith) (λ e. omega arith)) j;
  }

  module _ (long : node_size vars * nodes ≤ length nb) where
    module _ (n : ℕ) (there : n < nodes) where
      whole : Whole vars nb n
      whole = whole-at vars nb n nodes there long

      tracking-made : (t : ℕ) → t < field_limit → held_in m nodes (put_in vars nb n tracked_field t) ≡ tracking n t B
      tracking-made t s = λ j. record {
        nodes = nodes;
        kind = λ i. ap (λ (x : ℕ). counted nodes Kind.waiting i (kind_of x)) (put_rest m nb nodes n tracked_field t (omega arith) i kind_field (omega arith) (λ e. omega arith)) j;
        cover = λ i. ap (counted nodes 0 i) (put_rest m nb nodes n tracked_field t (omega arith) i cover_field (omega arith) (λ e. omega arith)) j;
        tracked = λ i. put-row m nb nodes n tracked_field t (omega arith) (λ (x : ℕ). x) (start_set M) there whole s i j;
        state = λ i. ap (counted nodes [] i) (rest-state m nb nodes n tracked_field t (omega arith) i (λ v p e. omega arith)) j;
        child = λ i. ap (counted nodes 0 i) (put_rest m nb nodes n tracked_field t (omega arith) i child_field (omega arith) (λ e. omega arith)) j;
      }

      tracked-is : B.tracked n ≡ set_in m nb n
      tracked-is = counted-in nodes (start_set M) n (set_in m nb n) there

      pub track-made : (v : ℕ) → union (set_in m nb n) (2 ^ v) < field_limit → held_in m nodes (put_in vars nb n tracked_field (union (set_in m nb n) (2 ^ v))) ≡ apply M (track n v) B
      track-made v s = tracking-made (union (set_in m nb n) (2 ^ v)) s ∙ ap (λ (t : ℕ). tracking n (union t (2 ^ v)) B) (sym tracked-is)

      pub adopt-made : node_in m nb n cover_field < nodes → union (set_in m nb n) (set_in m nb (node_in m nb n cover_field)) < field_limit
          → held_in m nodes (put_in vars nb n tracked_field (union (set_in m nb n) (set_in m nb (node_in m nb n cover_field)))) ≡ apply M (adopt n) B
      adopt-made h s =
          let e : B.tracked (B.cover n) ≡ set_in m nb (node_in m nb n cover_field) =
          ap B.tracked (counted-in nodes 0 n (node_in m nb n cover_field) there) ∙ counted-in nodes (start_set M) (node_in m nb n cover_field) (set_in m nb (node_in m nb n cover_field)) h in
          tracking-made (union (set_in m nb n) (set_in m nb (node_in m nb n cover_field))) s ∙ (λ j. tracking n (union (sym tracked-is j) (sym e j)) B)

      becoming-made : (k c : ℕ) → k < field_limit → c < field_limit → held_in m nodes (become_in vars nb n k c) ≡ becoming n (kind_of k) c B
      becoming-made k c p q =
          let mid : List ℕ = put_in vars nb n kind_field k in
          let w : Whole vars mid n = omega (arith, whole, put-long vars nb n kind_field k) in
          λ j. record {
            nodes = nodes;
            kind = λ i.
                (ap (λ (x : ℕ). counted nodes Kind.waiting i (kind_of x)) (put_rest m mid nodes n cover_field c (omega arith) i kind_field (omega arith) (λ e. omega arith))
                ∙ put-row m nb nodes n kind_field k (omega arith) kind_of Kind.waiting there whole p i) j;
            cover = λ i.
                (put-row m mid nodes n cover_field c (omega arith) (λ (x : ℕ). x) 0 there w q i
                ∙ (λ h. put n c (λ a. counted nodes 0 a (put_rest m nb nodes n kind_field k (omega arith) a cover_field (omega arith) (λ e. omega arith) h)) i)) j;
            tracked = λ i. ap (counted nodes (start_set M) i) (become-other vars nb n k c i tracked_field (omega arith) (λ x e. omega arith) (λ x e. omega arith)) j;
            state = λ i. ap (counted nodes [] i) (state-same m nb (become_in vars nb n k c) i (λ v l. become-other vars nb n k c i (state_field + v) (omega arith) (λ x e. omega arith) (λ x e. omega arith))) j;
            child = λ i. ap (counted nodes 0 i) (become-other vars nb n k c i child_field (omega arith) (λ x e. omega arith) (λ x e. omega arith)) j;
          }

      pub drop-made : held_in m nodes (become_in vars nb n 0 0) ≡ apply M (drop n) B
      unfolding kind_of
      drop-made = becoming-made 0 0 (omega arith) (omega arith)

      pub cover-made : (c : ℕ) → c < field_limit → held_in m nodes (become_in vars nb n 2 c) ≡ apply M (cover_by n c) B
      unfolding kind_of
      cover-made c l = becoming-made 2 c (omega arith) l

      pub reach-made : held_in m nodes (become_in vars nb n 3 0) ≡ apply M (reach n) B
      unfolding kind_of
      reach-made = becoming-made 3 0 (omega arith) (omega arith)
