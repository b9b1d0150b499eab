use Rattle.model.specs.Model.{model_of}
use Rattle.building.specs.Measure.{measure}
use Rattle.work.specs.Working.{limit_of, graph_in}
use Rattle.builder.proofs.Loop.{Growing}
use Rattle.builder.proofs.grow.Given as goal

abbrev pub invariant-loop-mv : goal.invariant-loop-mv
invariant-loop-mv l = Growing l.m l.longest l.initial.nb l.initial.marks l.initial.reaches l.initial.begins l.w l.nb l.marks l.reaches l.begins

abbrev pub decreases-loop-mv : goal.decreases-loop-mv
decreases-loop-mv l = measure (model_of l.m) (limit_of l.longest) (graph_in l.m l.w l.nb)
