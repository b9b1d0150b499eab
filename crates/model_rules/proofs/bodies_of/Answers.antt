use Rattle.model.proofs.Limits.{limits}
use Rattle.model_rules.proofs.bodies_of.Goals as goal

pub invariant_of-result : goal.invariant_of-result
invariant_of-result c =
    let l = limits c.requires in
    record { few = rw (c.body-2.ensures, c.body-3.ensures, c.body-4.ensures, c.body-5.ensures) (l.variables, l.expressions, l.commands, l.records) }
