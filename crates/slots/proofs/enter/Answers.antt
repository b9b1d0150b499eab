use mathlib.Core.Path.{◌≡◌, sym, subst}
use Prim.Native.Nat.{ℕ}
use native.Mathlib.Omega.{arith}
use lib.ListN.{length, take}
use Rattle.folder.proofs.FillLaws.{take-filled}
use Rattle.slots.specs.Nodes.{label_in, Hashed}
use Rattle.slots.proofs.RowLaws.{label-long, enter-free, enter-full}
use Rattle.slots.proofs.enter.Goals as goal

pub probe-p-requires : goal.probe-p-requires
probe-p-requires c =
    let label : take c.args.vars c.load_label.new.row ≡ label_in c.args.vars c.args.nb.now c.args.n = take-filled c.args.vars _ _ c.load_label.ensures in
    let long : length (take c.args.vars c.load_label.new.row) ≡ c.args.vars = label-long c.args.vars c.args.nb.now c.args.n label in
    (omega (arith, long, c.requires.0), subst (λ (k : ℕ). Hashed k c.args.nb.now c.args.hashes.now) (sym long) c.requires.1, c.requires.2)

pub returns-then-row-p : goal.returns-then-row-p
returns-then-row-p c =
    let label : take c.args.vars c.load_label.new.row ≡ label_in c.args.vars c.args.nb.now c.args.n = take-filled c.args.vars _ _ c.load_label.ensures in
    enter-free c.args.nb.now c.args.vars c.args.n c.args.row.now label c.probe-p.ensures.0 c.probe-p.ensures.1 c.if-row-p.true

pub returns-else-row-p : goal.returns-else-row-p
returns-else-row-p c =
    let label : take c.args.vars c.load_label.new.row ≡ label_in c.args.vars c.args.nb.now c.args.n = take-filled c.args.vars _ _ c.load_label.ensures in
    enter-full c.args.nb.now c.args.vars c.args.n c.args.row.now label c.probe-p.ensures.0 c.probe-p.ensures.1 c.if-row-p.false

pub slice_bounds-probe-end : goal.slice_bounds-probe-end
slice_bounds-probe-end c =
    let label : take c.args.vars c.load_label.new.row ≡ label_in c.args.vars c.args.nb.now c.args.n = take-filled c.args.vars _ _ c.load_label.ensures in
    let long : length (take c.args.vars c.load_label.new.row) ≡ c.args.vars = label-long c.args.vars c.args.nb.now c.args.n label in
    sym long
