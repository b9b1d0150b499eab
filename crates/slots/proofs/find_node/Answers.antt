use mathlib.Core.Path.{◌≡◌, sym, subst}
use Prim.Native.Nat.{ℕ}
use native.Mathlib.Omega.{arith}
use lib.ListN.{length, take}
use Rattle.folder.proofs.FillLaws.{take-filled}
use Rattle.slots.specs.Nodes.{label_in, Hashed}
use Rattle.slots.proofs.RowLaws.{label-long, found-own}
use Rattle.slots.proofs.find_node.Goals as goal

pub find-requires : goal.find-requires
find-requires c =
    let label : take c.args.vars c.load_label.new.row ≡ label_in c.args.vars c.args.nb.now c.args.n = take-filled c.args.vars _ _ c.load_label.ensures in
    let long : length (take c.args.vars c.load_label.new.row) ≡ c.args.vars = label-long c.args.vars c.args.nb.now c.args.n label in
    (omega (arith, long, c.requires.0), subst (λ (k : ℕ). Hashed k c.args.nb.now c.args.hashes.now) (sym long) c.requires.2, c.requires.3)

pub returns : goal.returns
returns c =
    let label : take c.args.vars c.load_label.new.row ≡ label_in c.args.vars c.args.nb.now c.args.n = take-filled c.args.vars _ _ c.load_label.ensures in
    found-own c.args.nb.now c.args.vars c.args.n c.args.row.now label c.find.ensures

pub slice_bounds-find-end : goal.slice_bounds-find-end
slice_bounds-find-end c =
    let label : take c.args.vars c.load_label.new.row ≡ label_in c.args.vars c.args.nb.now c.args.n = take-filled c.args.vars _ _ c.load_label.ensures in
    let long : length (take c.args.vars c.load_label.new.row) ≡ c.args.vars = label-long c.args.vars c.args.nb.now c.args.n label in
    sym long
