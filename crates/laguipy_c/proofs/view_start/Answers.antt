use mathlib.Core.Path.{sym, ◌∙◌}
use Rattle.laguipy_c.proofs.ViewLaws.{no-folder, no_body}
use Rattle.laguipy_c.proofs.view_start.Goals as goal

pub record_start-requires : goal.record_start-requires
record_start-requires c = record { m_value = sym c.check_folder.ensures ∙ c.in-Ok.is; e_bound = c.if-e-lt5.true }

pub returns-in-Err : goal.returns-in-Err
returns-in-Err c = no-folder c.args.m.now c.args.e c.args.i _ (sym c.check_folder.ensures ∙ c.in-Err.is)

pub returns-else-e-lt5 : goal.returns-else-e-lt5
returns-else-e-lt5 c = no_body c.args.m.now c.args.e c.args.i c.if-e-lt5.false
