use mathlib.Core.Path.{sym, ◌∙◌}
use Rattle.expand.proofs.Ready.{widened-up}
use Rattle.expand.proofs.ask.Goals as goal

pub returns-then-known_at : goal.returns-then-known_at
returns-then-known_at c = let k = sym c.known_at.ensures ∙ c.if-known_at.true in record { label_widened = widened-up c.requires.askable.read c.requires.e_bound k; value = sym k }

pub widen-requires : goal.widen-requires
widen-requires c = record { askable = c.requires.askable; e_bound = (c.requires.e_bound, sym c.known_at.ensures ∙ c.if-known_at.false) }

pub returns : goal.returns
returns c = record { label_widened = c.widen.ensures; value = c.known_at-2.ensures }
