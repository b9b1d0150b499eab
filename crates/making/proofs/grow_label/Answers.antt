use mathlib.Core.Path.{refl}
use native.Mathlib.Omega.{arith}
use Rattle.wants.proofs.Here.{field-read}
use Rattle.held.specs.Held.{parent_field}
use Rattle.making.proofs.Marks.{reach-as, low-alone, low-all}
use Rattle.making.proofs.Moving.{window-is}
use Rattle.making.proofs.grow_label.Goals as goal
use Rattle.making.proofs.grow_label.Goals.{then-end-eq0, else-end-eq0}

pub mark_reach-requires : goal.mark_reach-requires
mark_reach-requires c =
    let e = field-read _ _ _ parent_field c.variable_count-vars.ensures.0 c.node_size.ensures.0 c.field-parent.ensures.0 in
    (c.variable_count-vars.ensures.1, omega (arith, c.requires.n_lt_nodes, c.requires.most_nodes_in_bounds, c.from-end.ensures), omega (arith, c.requires.n_lt_nodes, c.requires.most_nodes_in_bounds, c.from-end.ensures), omega (arith, c.requires.n_lt_nodes, c.requires.most_nodes_in_bounds), omega (arith, c.requires.n_lt_nodes, c.requires.most_nodes_in_bounds, e))

pub returns : goal.returns
returns c = let e = field-read _ _ _ parent_field c.variable_count-vars.ensures.0 c.node_size.ensures.0 c.field-parent.ensures.0 in record {
  marked_reach = reach-as c.variable_count-vars.ensures.0 e c.from-end.ensures c.mark_reach.ensures;
  value = window-is
      (elim c.if-end-eq0.branch [ then-end-eq0 w ↦ low-alone c.from-end.ensures _ w.if-end-eq0.true e w.smaller-low.ensures w.low-is | else-end-eq0 w ↦ low-all c.from-end.ensures _ w.if-end-eq0.false w.low-is ])
      (omega (arith, e, c.from-end.ensures, c.larger.ensures, c.larger-high.ensures, c.larger-2.ensures))
      refl;
}
