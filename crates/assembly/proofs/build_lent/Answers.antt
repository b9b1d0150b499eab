use mathlib.Core.Path.{sym, ◌∙◌}
use Rattle.folder.proofs.TableLaws.{accepted-asks}
use Rattle.model.specs.Model.{model_of}
use Rattle.assembly.proofs.CallLaws.{build-asks}
use Rattle.assembly.proofs.build_lent.Goals as goal

pub build_fill-requires-clause-build_right : goal.build_fill-requires-clause-build_right
build_fill-requires-clause-build_right c = (accepted-asks (build-asks (model_of c.args.m.now) c.args.rounds c.args.out.now)).0 (sym c.build_check.ensures ∙ c.in_ok-build_check.was)
