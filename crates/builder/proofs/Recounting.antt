-- Document 02, 2.6: after every covering, expansion and repair, and at every turn of the loop, the waiting count and where each
-- node's edges begin equal what counting the nodes and walking the edges give.
-- Assumes nothing.
use Rattle.std.specs.Prelude.{Option}
use Prim.Native.Nat.{ℕ, ◌≤◌}
use mathlib.Core.Path.{◌≡◌}
use mathlib.Core.List.{List}
use native.Mathlib.Omega.{arith}
use lib.ListN.{length}
use Rattle.model.specs.Model.{model_of}
use Rattle.graph.specs.Limits.{units}
use Rattle.building.specs.Moves.{Move, next_move}
use Rattle.building.specs.Counts.{Counts}
use Rattle.written.proofs.Counted.{counts-written}
use Rattle.wants.specs.Standing.{row_in, Held}
use Rattle.work.specs.declared.Work.{Work}
use Rattle.work.specs.Working.{limit_of, graph_in, Lent, Looked, ToMake, Ready, Made}
use Rattle.builder.specs.Recounted.{Recounted}
use Rattle.builder.proofs.Loop.{Growing, ready-after}

module _ (value : ℕ → ℕ) (small : (n : ℕ) → value n ≤ units) where
  recounted : {m : List ℕ} {longest : ℕ} {w : Work} {nb begins : List ℕ} → Held m w.nodes nb → Lent m longest w nb → Counts (model_of m) (graph_in m w nb) w.waiting (row_in begins) → Recounted m w nb begins value
  recounted {m} {longest} {w} {nb} H L C =
      let both = counts-written m H.model (limit_of longest) (omega arith) (graph_in m w nb) H.kept (omega (arith, L.counted, L.short, L.limit)) value small C in
      record { counted = both.0; walked = both.1 }

  -- A move is made.
  pub made-recounted : {m : List ℕ} {longest : ℕ} {w w' : Work} {nb nb' marks' reaches' begins' : List ℕ} {mv : Option Move} → Made m longest w nb mv w' nb' marks' reaches' begins' → Recounted m w' nb' begins' value
  made-recounted M = recounted M.working.held M.working.lent M.working.known.counts

  -- Once the loop has looked for the next move, whether there is one or none.
  pub look-recounted : {m : List ℕ} {longest : ℕ} {w : Work} {nb marks reaches begins : List ℕ} {mv : Option Move} → Ready m longest w nb marks reaches begins mv → Recounted m w nb begins value
  look-recounted R = recounted R.held R.lent R.counts

  -- The loop, before it looks; and once it has looked, before it makes a move and after the last.
  pub loop-recounted : {m : List ℕ} {longest : ℕ} {nb₀ marks₀ reaches₀ begins₀ : List ℕ} {w : Work} {nb marks reaches begins : List ℕ}
      → Growing m longest nb₀ marks₀ reaches₀ begins₀ w nb marks reaches begins
      → Recounted m w nb begins value
      × ((new marks' : List ℕ) (mv : Option Move) → mv ≡ next_move (model_of m) (limit_of longest) (graph_in m w nb) → Looked m w nb new → ToMake m w new marks' mv → length marks' ≡ length marks
      → Recounted m w new begins value)
  loop-recounted G = (recounted G.working.held G.working.lent G.working.known.counts, λ new marks' mv next looked to_make long. look-recounted (ready-after G.working marks' next looked to_make long))
