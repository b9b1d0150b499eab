use mathlib.Core.Path.{refl, sym, ◌∙◌}
use borrow.Author.Tests.{not-true, not-false}
use Rattle.folder.proofs.PickLaws.{when-equal, when-unequal}
use Rattle.graph.specs.Rules.{B2}
use Rattle.graph.proofs.EdgePlaces.{place-skip}
use Rattle.expand.proofs.Guards.{read_again}
use Rattle.expand.proofs.Asking.{all-follow, not-all-follow, second_is, none_open, one-open, stays-unknown, at-start, followed-on, fewer-after, record-small}
use Rattle.expand.proofs.b2.Goals as goal

-- a node that is not expanded
pub returns-then-node_field-ne-EXPANDED : goal.returns-then-node_field-ne-EXPANDED
unfolding B2
returns-then-node_field-ne-EXPANDED c = (
  sym (when-unequal 1 _ c.node_field.ensures.0 c.if-node_field-ne-EXPANDED.true),
  place-skip _ _ _ ((c.requires.askable.node.rows.content.nodes _ c.requires.askable.node.there).edges (λ e. c.if-node_field-ne-EXPANDED.true (c.node_field.ensures.0 ∙ e))) c.requires.at_value,
)

pub loop-next-init : goal.loop-next-init
loop-next-init c = (c.requires.askable.read.flagged, refl, at-start _ _ _ _ c.requires.at_value)

-- all edges follow
pub returns-in-Ok : goal.returns-in-Ok
unfolding B2
returns-in-Ok c =
    let a = read_again c.requires.askable c.loop-next.invariant.0 c.loop-next.invariant.1 in
    let s = c.in-Ok.ensures in
    (sym (when-equal 1 _ c.node_field.ensures.0 c.if-node_field-ne-EXPANDED.false (all-follow a.node a.kept a.read s.0)), s.1)

pub open_entry-requires-clause-r_le_field_limit : goal.open_entry-requires-clause-r_le_field_limit
open_entry-requires-clause-r_le_field_limit c =
    let a = read_again c.requires.askable c.loop-next.invariant.0 c.loop-next.invariant.1 in
    record-small a.node a.kept a.read c.in-Err.ensures.broken c.in-Err.ensures.by-record

-- one does not, whatever is asked
pub returns-in_default : goal.returns-in_default
unfolding B2
returns-in_default c =
    let a = read_again c.requires.askable c.loop-next.invariant.0 c.loop-next.invariant.1 in
    let s = c.in-Err.ensures in
    let u = none_open a.node a.kept a.read s.broken s.by-record s.by-variable (sym c.in_default.is ∙ c.open_entry.ensures) in
    (sym (when-equal 1 _ c.node_field.ensures.0 c.if-node_field-ne-EXPANDED.false (not-all-follow a.node a.kept a.read s.broken u)), second_is a.node a.kept a.read s.broken u s.by-variable)

pub ask-requires-clause-e_bound : goal.ask-requires-clause-e_bound
ask-requires-clause-e_bound c =
    let a = read_again c.requires.askable c.loop-next.invariant.0 c.loop-next.invariant.1 in
    let s = c.in-Err.ensures in
    (one-open a.node a.kept a.read s.broken s.by-record s.by-variable (sym c.in-Some.is ∙ c.open_entry.ensures)).0

-- what was asked stays unknown
pub returns-then-not-ask : goal.returns-then-not-ask
unfolding B2
returns-then-not-ask c =
    let a = read_again c.requires.askable c.loop-next.invariant.0 c.loop-next.invariant.1 in
    let s = c.in-Err.ensures in
    let o = one-open a.node a.kept a.read s.broken s.by-record s.by-variable (sym c.in-Some.is ∙ c.open_entry.ensures) in
    let u = stays-unknown a.node a.kept a.read s.broken o.2 c.ask.ensures.label_widened c.ask.ensures.value (not-true _ c.if-not-ask.true-raw) in
    (sym (when-equal 1 _ c.node_field.ensures.0 c.if-node_field-ne-EXPANDED.false (not-all-follow a.node a.kept a.read s.broken u)), second_is a.node a.kept a.read s.broken u s.by-variable)

pub loop-next-smaller : goal.loop-next-smaller
loop-next-smaller c =
    let a = read_again c.requires.askable c.loop-next.invariant.0 c.loop-next.invariant.1 in
    let s = c.in-Err.ensures in
    let o = one-open a.node a.kept a.read s.broken s.by-record s.by-variable (sym c.in-Some.is ∙ c.open_entry.ensures) in
    fewer-after a.node o.0 o.1 c.ask.ensures.label_widened c.ask.ensures.value (not-false _ c.if-not-ask.false-raw)

pub loop-next-preserved : goal.loop-next-preserved
loop-next-preserved c = (
  c.ask.ensures.label_widened.flagged,
  c.known-1.given ∙ c.loop-next.invariant.1,
  followed-on c.requires.askable.node c.ask.ensures.label_widened _ c.in-Err.ensures.to,
)
