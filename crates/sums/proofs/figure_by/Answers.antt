use mathlib.Core.Path.{refl, ◌∙◌}
use borrow.Author.Tests.{eq-eqb, ne_eqb}
use Rattle.sums.specs.Tables.{figure_by}
use Rattle.sums.proofs.EdgeLaws.{ceil-is}
use Rattle.sums.proofs.figure_by.Goals as goal

pub returns-then-kind-eq-EXPANDED : goal.returns-then-kind-eq-EXPANDED
unfolding figure_by
returns-then-kind-eq-EXPANDED c = rw (eq-eqb _ _ c.if-kind-eq-EXPANDED.true) (c.div_ceil.ensures ∙ ceil-is c.args.best c.args.d c.requires.0)

pub returns-then-kind-eq-COVERED : goal.returns-then-kind-eq-COVERED
unfolding figure_by
returns-then-kind-eq-COVERED c = rw (ne_eqb _ _ c.if-kind-eq-EXPANDED.false, eq-eqb _ _ c.if-kind-eq-COVERED.true) refl

pub returns : goal.returns
unfolding figure_by
returns c = rw (ne_eqb _ _ c.if-kind-eq-EXPANDED.false, ne_eqb _ _ c.if-kind-eq-COVERED.false) refl
