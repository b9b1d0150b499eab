-- Building ends: as many moves as the measure leave none to be made, and where it ends does not hang on how many are tried.
-- Assumes nothing.
use Rattle.std.specs.Prelude.{Option, None, Some}
use Prim.Native.Nat.{ℕ, zero, suc, ◌+◌, ◌<◌, ◌≤◌}
use mathlib.Core.Path.{◌≡◌, refl, sym, ap, ◌∙◌, subst}
use native.Mathlib.Nat.{le_refl}
use native.Mathlib.Decide.{dec_lt}
use native.Mathlib.Omega.{arith}
use Rattle.model.specs.Model.{Model}
use Rattle.model.specs.Valid.{ModelRight}
use Rattle.building.specs.Building.{Building}
use Rattle.building.specs.Moves.{Move, Limit, apply, seed, next_move, moved, advance, after}
use Rattle.building.specs.Kept.{Alike, Kept, Mended}
use Rattle.building.specs.Measure.{measure}
use Rattle.building.specs.Built.{built, Reached}
use Rattle.building.proofs.Keeping.{kept, kept-seed}
use Rattle.building.proofs.Aptness.{next-apt, none-mended}
use Rattle.building.proofs.Falling.{falls}

module _ (M : Model) (P : Limit) where
  advance-some : (B : Building) (m : Move) → next_move M P B ≡ Some m → advance M P B ≡ apply M m B
  unfolding advance
  advance-some B m e = rw e

  advance-none : (B : Building) → next_move M P B ≡ None → advance M P B ≡ B
  unfolding advance
  advance-none B e = rw e

  -- Nothing more is done.
  pub stays : (k : ℕ) (B : Building) → next_move M P B ≡ None → after M P k B ≡ B
  unfolding after
  stays zero B e = refl
  stays (suc k) B e = ap (after M P k) (advance-none B e) ∙ stays k B e

  module _ (X : ModelRight M) where
    advance-by : (B : Building) → Kept M P.most B → (o : Option Move) → next_move M P B ≡ o → Kept M P.most (moved M o B)
    advance-by B K None e = K
    advance-by B K (Some m) e = kept M P X B K m (next-apt M P X B K m e)

    pub advance-kept : (B : Building) → Kept M P.most B → Kept M P.most (advance M P B)
    unfolding advance
    advance-kept B K = advance-by B K (next_move M P B) refl

    pub after_kept : (k : ℕ) (B : Building) → Kept M P.most B → Kept M P.most (after M P k B)
    unfolding after
    after_kept zero B K = K
    after_kept (suc k) B K = after_kept k (advance M P B) (advance-kept B K)

    pub advance-falls : (B : Building) → Kept M P.most B → (m : Move) → next_move M P B ≡ Some m → measure M P (advance M P B) < measure M P B
    advance-falls B K m e = rw (advance-some B m e) (falls M P B K m (next-apt M P X B K m e))

    pub ends : (k : ℕ) (B : Building) → Kept M P.most B → measure M P B ≤ k → next_move M P (after M P k B) ≡ None
    unfolding after
    ends zero B K l = go (next_move M P B) refl
      where
        go : (o : Option Move) → next_move M P B ≡ o → next_move M P B ≡ None
        go None e = e
        go (Some m) e = absurd (omega (arith, advance-falls B K m e))
    ends (suc k) B K l = go (next_move M P B) refl (λ h. ends k (advance M P B) (advance-kept B K) h)
      where
        go : (o : Option Move) → next_move M P B ≡ o → (measure M P (advance M P B) ≤ k → next_move M P (after M P k (advance M P B)) ≡ None) → next_move M P (after M P k (advance M P B)) ≡ None
        go None e rest = ap (λ (C : Building). next_move M P (after M P k C)) (advance-none B e) ∙ ap (next_move M P) (stays k B e) ∙ e
        go (Some m) e rest = rest (omega (arith, advance-falls B K m e))

    module _ (room : 1 ≤ P.most) where
      pub built-kept : Kept M P.most (built M P)
      unfolding built
      built-kept = after_kept (measure M P (seed M)) (seed M) (kept-seed M P X room)

      pub built-ended : next_move M P (built M P) ≡ None
      unfolding built
      built-ended = ends (measure M P (seed M)) (seed M) (kept-seed M P X room) (le_refl _)

      pub built-mended : Mended M (built M P)
      built-mended = none-mended M P (built M P) built-ended

  after-add : (k j : ℕ) (B : Building) → after M P (k + j) B ≡ after M P j (after M P k B)
  unfolding after
  after-add zero j B = let e : 0 + j ≡ j = omega arith in rw e
  after-add (suc k) j B = let e : suc k + j ≡ suc (k + j) = omega arith in rw e (after-add k j (advance M P B))

  -- Whoever goes on until no move is left comes to the same graph.
  pub same_end : (k j : ℕ) (B : Building) → next_move M P (after M P k B) ≡ None → next_move M P (after M P j B) ≡ None → after M P k B ≡ after M P j B
  same_end k j B p q =
      let e : k + j ≡ j + k = omega arith in
      sym (after-add k j B ∙ stays j (after M P k B) p) ∙ ap (λ (i : ℕ). after M P i B) e ∙ after-add j k B ∙ stays k (after M P j B) q

  -- ---- a loop that makes the moves: it starts, goes on, and ends at the graph that is built
  pub reached-start : Reached M P (seed M)
  unfolding after
  reached-start = record { moves = 0; is = refl }

  after_one : (B : Building) → after M P 1 B ≡ advance M P B
  unfolding after
  after_one B = refl

  pub reached-next : {B : Building} → Reached M P B → Reached M P (advance M P B)
  reached-next r = record { moves = r.moves + 1; is = after-add r.moves 1 (seed M) ∙ after_one (after M P r.moves (seed M)) ∙ ap (advance M P) r.is }

  -- By its move.
  pub reached-by : {B : Building} (m : Move) → Reached M P B → next_move M P B ≡ Some m → Reached M P (apply M m B)
  reached-by {B} m r e = subst (Reached M P) (advance-some B m e) (reached-next r)

  module _ (X : ModelRight M) (room : 1 ≤ P.most) where
    pub reached-kept : {B : Building} → Reached M P B → Kept M P.most B
    reached-kept r = subst (Kept M P.most) r.is (after_kept X r.moves (seed M) (kept-seed M P X room))

    pub reached-built : {B : Building} → Reached M P B → next_move M P B ≡ None → B ≡ built M P
    unfolding built
    reached-built {B} r e =
        sym r.is ∙ same_end r.moves (measure M P (seed M)) (seed M) (ap (next_move M P) r.is ∙ e) (ends X (measure M P (seed M)) (seed M) (kept-seed M P X room) (le_refl _))

-- The rows below the count say what a building is.
module _ (M : Model) (P : Limit) (B C : Building) (K : Kept M P.most B) (J : Kept M P.most C) (e : B.nodes ≡ C.nodes) (below : (n : ℕ) → n < B.nodes → Alike M B C n) where
  alike : (n : ℕ) → Alike M B C n
  alike n = go (dec_lt n B.nodes)
    where
      go : Dec (n < B.nodes) → Alike M B C n
      go (yes l) = below n l
      go (no g) =
          let b = K.past n (omega arith) in
          let c = J.past n (omega arith) in
          record {
            kind = b.kind ∙ sym c.kind;
            cover = b.cover ∙ sym c.cover;
            tracked = b.tracked ∙ sym c.tracked;
            state = b.state ∙ sym c.state;
            child = b.child ∙ sym c.child;
          }

  pub rows_same : B ≡ C
  rows_same = λ i. record {
    nodes = e i;
    kind = λ n. (alike n).kind i;
    cover = λ n. (alike n).cover i;
    tracked = λ n. (alike n).tracked i;
    state = λ n. (alike n).state i;
    child = λ n. (alike n).child i;
  }
