use mathlib.Core.Path.{refl}
use Rattle.making.proofs.make_target.Goals as goal

pub returns : goal.returns
returns c = record { value = c.grown_work.ensures; nb_after = c.become_kind.ensures; marks_after = refl }
