use Rattle.model.specs.Model.{model_of}
use Rattle.graph.specs.Simulation.{simulation_of}
use Rattle.index.proofs.CallLaws.{rows_right}
use Rattle.index.proofs.index_fill.Goals as goal

pub fill_rows-requires-clause-index_right : goal.fill_rows-requires-clause-index_right
fill_rows-requires-clause-index_right c =
    rows_right (model_of c.args.m.now) (simulation_of (model_of c.args.m.now) c.args.g.now) c.args.slots.now c.args.batch.now c.args.answers.now c.args.listing.now c.rows_check.ensures c.in_ok-rows_check.was
