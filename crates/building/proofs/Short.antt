-- A graph that is built within a length limit is no longer.
-- Assumes nothing.
use Rattle.std.specs.Prelude.{Option, None, Some}
use Prim.Native.Nat.{ℕ, zero, suc, ◌+◌, ◌^◌, ◌≤◌}
use mathlib.Core.Path.{◌≡◌, refl, ap, ◌∙◌}
use native.Mathlib.Omega.{arith}
use Rattle.mdp.specs.Kinds.{Kind}
use Rattle.model.specs.Model.{Model}
use Rattle.model.specs.Valid.{ModelRight}
use Rattle.expressions.specs.Mentions.{union}
use Rattle.graph.specs.Limits.{least_bytes}
use Rattle.graph.specs.Simulation.{node_size}
use Rattle.building.specs.Building.{Building, if_expanded}
use Rattle.building.specs.Moves.{Move, Limit, apply, seed, next_move, moved, advance, after}
use Rattle.building.specs.Kept.{Kept, Apt, may-track, may-adopt, may-drop, may-cover_by, may-reach, may-expand}
use Rattle.building.specs.Measure.{measure}
use Rattle.building.specs.Built.{built}
use Rattle.building.specs.Length.{edges_before, graph_length}
use Rattle.building.proofs.Keeping.{kept-seed}
use Rattle.building.proofs.Aptness.{next-apt}
use Rattle.building.proofs.Ending.{advance-kept}
use Rattle.building.proofs.Lengths.{length-tracking, length-becoming, length-expanding}

expanded-not : {κ k : Kind} → κ ≡ k → if_expanded k 1 ≡ 0 → if_expanded κ 1 ≡ 0
expanded-not e h = ap (λ (κ : Kind). if_expanded κ 1) e ∙ h

module _ (M : Model) (P : Limit) where
  -- What a move makes is no longer than the limit.
  pub short-kept : (B : Building) (m : Move) → Apt M P B m → graph_length M B ≤ P.longest → graph_length M (apply M m B) ≤ P.longest
  short-kept B m (may-track {n = n} {v = v} l k u) h = rw (length-tracking M B n (union (B.tracked n) (2 ^ v))) h
  short-kept B m (may-adopt {n = n} v l c k t u) h = rw (length-tracking M B n (union (B.tracked n) (B.tracked (B.cover n)))) h
  short-kept B m (may-drop {n = n} l c x) h = rw (length-becoming M B n Kind.waiting 0 (expanded-not c refl) refl) h
  short-kept B m (may-cover_by {n = n} {c = c} l w k o x) h = rw (length-becoming M B n Kind.covered c (expanded-not w refl) refl) h
  short-kept B m (may-reach {n = n} l w t) h = rw (length-becoming M B n Kind.target 0 (expanded-not w refl) refl) h
  short-kept B m (may-expand {n = n} l w t room fits) h = rw (length-expanding M B n l w) fits

  module _ (X : ModelRight M) where
    advance-by : (B : Building) → Kept M P.most B → graph_length M B ≤ P.longest → (o : Option Move) → next_move M P B ≡ o → graph_length M (moved M o B) ≤ P.longest
    advance-by B K h None e = h
    advance-by B K h (Some m) e = short-kept B m (next-apt M P X B K m e) h

    after-short : (k : ℕ) (B : Building) → Kept M P.most B → graph_length M B ≤ P.longest → graph_length M (after M P k B) ≤ P.longest
    unfolding after advance
    after-short zero B K h = h
    after-short (suc k) B K h = after-short k (advance M P B) (advance-kept M P X B K) (advance-by B K h (next_move M P B) refl)

    pub seed-length : graph_length M (seed M) ≡ least_bytes + node_size M.variables
    unfolding graph_length edges_before
    seed-length = omega arith

    -- The limits allow a graph of one node.
    pub built-short : 1 ≤ P.most → least_bytes + node_size M.variables ≤ P.longest → graph_length M (built M P) ≤ P.longest
    unfolding built
    built-short l h = after-short (measure M P (seed M)) (seed M) (kept-seed M P X l) (rw seed-length h)
