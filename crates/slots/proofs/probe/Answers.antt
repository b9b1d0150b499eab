use Prim.Native.Nat.{ℕ, ◌%◌}
use mathlib.Core.Path.{◌≡◌, ap}
use mathlib.Core.Bool.{true, false}
use borrow.Author.Rules.{rules}
use native.Mathlib.Nat.{mod-lt}
use lib.ListN.{length}
use Rattle.slots.proofs.RowLaws.{high_is, probe_start, probe-next, probe_found, probe-over}
use Rattle.slots.proofs.probe.Goals as goal

pub loop-d-init : goal.loop-d-init
loop-d-init c =
    probe_start _ _ _ _ (ap (λ (k : ℕ). k % length c.args.row.now) c.hash-whole.ensures) (mod-lt c.hash-whole.result c.requires.2)

pub bounds-row-p : goal.bounds-row-p
bounds-row-p c = c.loop-d.invariant.small

pub passes-requires : goal.passes-requires
passes-requires c =
    (c.requires.0, c.requires.1, high_is c.args.x.now c.hash-whole.ensures c.high_half-h.ensures)

pub next_slot-p-requires : goal.next_slot-p-requires
next_slot-p-requires c = c.loop-d.invariant.small

pub loop-d-preserved : goal.loop-d-preserved
loop-d-preserved c =
    let t : c.passes.result ≡ true = search rules in
    probe-next c.loop-d.invariant c.loop-d-test.true c.passes.ensures t c.next_slot-p.ensures.0 c.next_slot-p.ensures.1

pub returns-then-not-passes : goal.returns-then-not-passes
returns-then-not-passes c =
    let t : c.passes.result ≡ false = search rules in
    (probe_found c.loop-d.invariant c.loop-d-test.true c.passes.ensures t, c.loop-d.invariant.small)

pub returns : goal.returns
returns c = (probe-over c.loop-d.invariant c.loop-d-test.false, c.loop-d.invariant.small)
