use Rattle.model.specs.Model.{model_of}
use Rattle.expand.specs.Tests.{holds_at}
use Rattle.expand.proofs.EnabledLaws.{Walked}
use Rattle.expand.proofs.edges_enabled.Given as goal

abbrev pub invariant-loop-c : goal.invariant-loop-c
invariant-loop-c l = Walked (model_of l.m) l.g l.n (λ i. holds_at l.state ((model_of l.m).guard i)) l.edges l.commands l.c l.k l.p
