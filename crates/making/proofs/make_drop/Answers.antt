use mathlib.Core.Path.{refl}
use Rattle.making.proofs.Moving.{window-is}
use Rattle.making.proofs.make_drop.Goals as goal

pub returns : goal.returns
returns c = record { value = window-is refl c.larger.ensures c.smaller.ensures; nb_after = c.become_kind.ensures; marks_after = refl }
