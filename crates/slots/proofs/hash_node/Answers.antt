use mathlib.Core.Path.{◌≡◌, sym, ap, ◌∙◌}
use lib.ListN.{length, take}
use Rattle.hash.specs.Hash.{hash_of}
use Rattle.folder.proofs.FillLaws.{take-filled}
use Rattle.slots.specs.Nodes.{label_in}
use Rattle.slots.proofs.RowLaws.{high_is, label-long}
use Rattle.slots.proofs.hash_node.Goals as goal

pub returns : goal.returns
returns c =
    let label : take c.args.vars c.load_label.new.row ≡ label_in c.args.vars c.args.nb.now c.args.n = take-filled c.args.vars _ _ c.load_label.ensures in
    high_is (label_in _ _ _) (c.hash.ensures ∙ ap hash_of label) c.high_half.ensures

pub slice_bounds-hash-end : goal.slice_bounds-hash-end
slice_bounds-hash-end c =
    let label : take c.args.vars c.load_label.new.row ≡ label_in c.args.vars c.args.nb.now c.args.n = take-filled c.args.vars _ _ c.load_label.ensures in
    let long : length (take c.args.vars c.load_label.new.row) ≡ c.args.vars = label-long c.args.vars c.args.nb.now c.args.n label in
    sym long
