use Rattle.std.proofs.Common.{rules}
use mathlib.Core.Path.{ap, ◌∙◌}
use Rattle.folder.specs.Scan.{all}
use Rattle.graph.specs.Rules.{root_fits}
use Rattle.graph.proofs.root_fits.Goals as goal

pub returns : goal.returns
unfolding root_fits
returns c = λ m g h. c.all.ensures _ (λ v t l p. search rules) ∙ ap (all _) h.count
