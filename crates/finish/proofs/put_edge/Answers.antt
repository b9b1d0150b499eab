use Prim.Native.Nat.{◌+◌, ◌*◌}
use native.Mathlib.Omega.{arith}
use Rattle.finish.proofs.EdgeLaws.{edge-laid, edge_none, picked}
use Rattle.finish.proofs.put_edge.Goals as goal

pub put_short-requires : goal.put_short-requires
put_short-requires c = (omega (arith, c.requires.0, picked (2 + 2 * c.args.count) c.if-on.true), c.requires.1)

pub overflow_add-at : goal.overflow_add-at
overflow_add-at c = omega (arith, c.requires.0, picked (2 + 2 * c.args.count) c.if-on.true)

pub put_successors-requires : goal.put_successors-requires
put_successors-requires c = (omega (arith, c.requires.0, picked (2 + 2 * c.args.count) c.if-on.true, c.nb-1.given), omega (arith, c.requires.2, picked c.args.count c.if-on.true))

pub returns-then-on : goal.returns-then-on
returns-then-on c = edge-laid _ _ _ c.if-on.true (omega (arith, c.requires.0, picked (2 + 2 * c.args.count) c.if-on.true)) c.requires.1 c.put_short.ensures c.put_successors.ensures

pub returns-else-on : goal.returns-else-on
returns-else-on c = edge_none _ _ _ c.if-on.false
