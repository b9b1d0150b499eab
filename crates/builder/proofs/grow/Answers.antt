use mathlib.Core.Path.{ap}
use native.Mathlib.Omega.{arith}
use Rattle.std.specs.Prelude.{option_map}
use Rattle.nodes.specs.Told.{told}
use Rattle.builder.proofs.Loop.{ready-after, grow-start, grow-next, grow-less, grown-stays, grown-built, grown}
use Rattle.builder.proofs.grow.Goals as goal

pub loop-mv-init : goal.loop-mv-init
loop-mv-init c = grow-start c.requires.working

pub next_move-requires : goal.next_move-requires
next_move-requires c = record { standing = record { held = c.loop-mv.invariant.working.held; masked = c.requires.masks_of; read = c.loop-mv.invariant.working.known.read }; lent = c.loop-mv.invariant.working.lent; parent_right = c.loop-mv.invariant.working.known.parents; settled = c.loop-mv.invariant.working.known.settled; hint_right = c.loop-mv.invariant.working.known.hints; mark_right = c.loop-mv.invariant.working.known.marked; next_right = c.loop-mv.invariant.working.known.next; low_le_high = (c.loop-mv.invariant.working.known.window.0, c.loop-mv.invariant.working.known.window.1, c.loop-mv.invariant.working.known.window.2, c.loop-mv.invariant.working.known.rows.0, c.loop-mv.invariant.working.known.counts.counted) }

pub make-w-requires : goal.make-w-requires
make-w-requires c = ready-after c.loop-mv.invariant.working _ c.in-Some.ensures.result_value c.next_move.ensures.looked c.in-Some.ensures.to_make (omega arith)

pub loop-mv-smaller : goal.loop-mv-smaller
loop-mv-smaller c = grow-less c.loop-mv.invariant c.next_move.ensures.looked c.in-Some.ensures.result_value c.make-w.ensures

pub loop-mv-preserved : goal.loop-mv-preserved
loop-mv-preserved c = grow-next c.loop-mv.invariant c.next_move.ensures.looked c.in-Some.ensures.result_value c.make-w.ensures (omega arith) (omega arith) (omega arith)

pub returns : goal.returns
returns c = record {
  nb_after = grown-built c.loop-mv.invariant c.next_move.ensures.looked c.next_move.ensures.result_value (ap (option_map told) c.in_default.is);
  grown = grown c.loop-mv.invariant c.next_move.ensures.looked c.next_move.ensures.result_value _ c.next_move.ensures.to_make (omega arith);
  stays = grown-stays c.loop-mv.invariant c.next_move.ensures.looked;
}
