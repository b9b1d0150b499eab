-- The loop that makes the moves: it goes on from what the last move left, the measure falls, and it ends at the graph that is
-- built.
-- Assumes nothing.
use Rattle.std.specs.Prelude.{Option, None, Some}
use Prim.Native.Nat.{ℕ, ◌*◌, ◌<◌, ◌≤◌}
use mathlib.Core.Path.{◌≡◌, refl, sym, ap, ◌∙◌, subst}
use mathlib.Core.List.{List}
use native.Mathlib.Nat.{mul-le-mul_left}
use native.Mathlib.Omega.{arith}
use lib.ListN.{length}
use Rattle.model.specs.Layout.{variable_count}
use Rattle.model.specs.Model.{Model, model_of}
use Rattle.graph.specs.Limits.{most_nodes}
use Rattle.graph.specs.Simulation.{node_size}
use Rattle.building.specs.Building.{Building}
use Rattle.building.specs.Length.{graph_length}
use Rattle.building.specs.Moves.{Move, next_move, moved}
use Rattle.building.specs.Kept.{Kept}
use Rattle.building.specs.Measure.{measure}
use Rattle.building.specs.Built.{Reached, built}
use Rattle.building.specs.Counts.{Counts}
use Rattle.building.specs.Working.{ParentRight, Settled, ReachRight, NextRight}
use Rattle.building.proofs.Aptness.{next-apt}
use Rattle.building.proofs.Falling.{falls}
use Rattle.building.proofs.Ending.{reached-built}
use Rattle.put.specs.Put.{Stays}
use Rattle.put.proofs.PutLaws.{stays-none}
use Rattle.held.specs.Held.{held_in}
use Rattle.wants.specs.Standing.{parent_in, row_in}
use Rattle.work.specs.declared.Work.{Work}
use Rattle.work.specs.Working.{limit_of, graph_in, Working, Looked, ToMake, Ready, Made, Grown}

-- What the loop holds: the working state, and what of the bytes stays.
pub record Growing (m : List ℕ) (longest : ℕ) (nb₀ marks₀ reaches₀ begins₀ : List ℕ) (w : Work) (nb marks reaches begins : List ℕ) : Type 0 where
  pub working : Working m longest w nb marks reaches begins
  pub stays : Stays 0 (node_size (variable_count m) * w.nodes) nb₀ nb
  pub marks-long : length marks ≡ length marks₀
  pub reaches-long : length reaches ≡ length reaches₀
  pub begins-long : length begins ≡ length begins₀

-- ---- a look at the next move leaves it ready
module _ {m : List ℕ} {longest : ℕ} {w : Work} {nb marks reaches begins : List ℕ} (W : Working m longest w nb marks reaches begins)
    {new : List ℕ} (marks' : List ℕ) {mv : Option Move} (next : mv ≡ next_move (model_of m) (limit_of longest) (graph_in m w nb)) (looked : Looked m w nb new)
    (to_make : ToMake m w new marks' mv) (long : length marks' ≡ length marks) where
  abbrev M : Model
  M = model_of m

  along : (P : Building → Type 0) → P (graph_in m w nb) → P (graph_in m w new)
  along P h = subst P (sym looked.held) h

  pub ready-after : Ready m longest w new marks' reaches begins mv
  ready-after = record {
    held = record {
      model = W.held.model;
      kept = along (λ (B : Building). Kept M most_nodes B) W.held.kept;
      long = omega (arith, W.held.long, looked.stays.long);
    };
    reached = along (λ (B : Building). Reached M (limit_of longest) B) W.reached;
    lent = record {
      counted = W.lent.counted ∙ ap (graph_length M) (sym looked.held);
      short = W.lent.short;
      lent = omega (arith, W.lent.lent, looked.stays.long);
      limit = W.lent.limit;
    };
    next = next ∙ ap (next_move M (limit_of longest)) (sym looked.held);
    read = looked.read;
    parents = subst (λ (f : ℕ → ℕ). ParentRight M (graph_in m w new) f) (λ i x. sym (looked.parents x) i) (along (λ (B : Building). ParentRight M B (parent_in m nb)) W.known.parents);
    settled = along (λ (B : Building). Settled M B w.fresh) W.known.settled;
    covering = along (λ (B : Building). ReachRight M B (row_in reaches)) W.known.covering;
    waits = along (λ (B : Building). NextRight M B w.next) W.known.next;
    counts = along (λ (B : Building). Counts M B w.waiting (row_in begins)) W.known.counts;
    window = (W.known.window.1, W.known.window.2, W.known.fresh);
    bounds = (λ i l. omega (arith, looked.parents i, W.known.bounds.0 i l), W.known.bounds.1);
    rows = (omega (arith, W.known.rows.0), W.known.rows.1, W.known.rows.2);
    to_make = to_make;
  }

-- ---- bytes
stays-join : {a b : ℕ} {old mid new : List ℕ} → a ≤ b → Stays 0 a old mid → Stays 0 b mid new → Stays 0 b old new
stays-join l s t = record { long = t.long ∙ s.long; below = λ j h. absurd (omega arith); past = λ j h. t.past j h ∙ s.past j (omega arith) }

pub grow-start : {m : List ℕ} {longest : ℕ} {w : Work} {nb marks reaches begins : List ℕ} → Working m longest w nb marks reaches begins → Growing m longest nb marks reaches begins w nb marks reaches begins
grow-start {nb = nb} W = record { working = W; stays = stays-none 0 _ nb; marks-long = refl; reaches-long = refl; begins-long = refl }

module _ {m : List ℕ} {longest : ℕ} {nb₀ marks₀ reaches₀ begins₀ : List ℕ} {w : Work} {nb marks reaches begins : List ℕ} (G : Growing m longest nb₀ marks₀ reaches₀ begins₀ w nb marks reaches begins)
    {new : List ℕ} (looked : Looked m w nb new) where
  -- A move is made.
  module _ {mv : Move} (next : Some mv ≡ next_move (model_of m) (limit_of longest) (graph_in m w nb)) {w' : Work} {nb' marks' reaches' begins' : List ℕ} (made : Made m longest w new (Some mv) w' nb' marks' reaches' begins') where
    pub grow-next : length marks' ≡ length marks → length reaches' ≡ length reaches → length begins' ≡ length begins → Growing m longest nb₀ marks₀ reaches₀ begins₀ w' nb' marks' reaches' begins'
    grow-next a b c =
        let l = mul-le-mul_left (node_size (variable_count m)) made.grows in
        record { working = made.working; stays = stays-join l G.stays (stays-join l looked.stays made.stays); marks-long = a ∙ G.marks-long; reaches-long = b ∙ G.reaches-long; begins-long = c ∙ G.begins-long }

    -- The measure falls.
    pub grow-less : measure (model_of m) (limit_of longest) (graph_in m w' nb') < measure (model_of m) (limit_of longest) (graph_in m w nb)
    grow-less =
        let S = G.working.held in
        subst (λ (B : Building). measure (model_of m) (limit_of longest) B < measure (model_of m) (limit_of longest) (graph_in m w nb)) (sym (made.is ∙ ap (moved (model_of m) (Some mv)) looked.held))
        (falls (model_of m) (limit_of longest) (graph_in m w nb) S.kept mv (next-apt (model_of m) (limit_of longest) S.model.model (graph_in m w nb) S.kept mv (sym next)))

  pub grown-stays : Stays 0 (node_size (variable_count m) * w.nodes) nb₀ new
  grown-stays = stays-join (omega arith) G.stays looked.stays

  -- Where there is none, it is built.
  module _ {mv : Option Move} (next : mv ≡ next_move (model_of m) (limit_of longest) (graph_in m w nb)) where
    pub grown-built : mv ≡ None → held_in m w.nodes new ≡ built (model_of m) (limit_of longest)
    grown-built none = looked.held ∙ reached-built (model_of m) (limit_of longest) G.working.held.model.model (omega arith) G.working.reached (sym next ∙ none)

    pub grown : (marks' : List ℕ) → ToMake m w new marks' mv → length marks' ≡ length marks → Grown m longest w.nodes w.len new begins
    grown marks' to_make long =
        let R = ready-after G.working marks' next looked to_make long in
        record { held = R.held; counted = R.lent.counted; walked = R.counts.walked; short = R.lent.short; lent = R.lent.lent; limit = R.lent.limit }
