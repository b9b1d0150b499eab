use Rattle.wants.proofs.Answers.{truth-known, truth-open, number-known, number-open}
use Rattle.wants.proofs.entry_wants.Goals as goal

pub returns-then-ask-clause-truth_value : goal.returns-then-ask-clause-truth_value
returns-then-ask-clause-truth_value c = λ i. truth-known c.requires.node_read.node c.ask.ensures.value i c.if-ask.true

pub returns-then-ask-clause-number_value : goal.returns-then-ask-clause-number_value
returns-then-ask-clause-number_value c = λ i. number-known c.requires.node_read.node c.ask.ensures.value i c.if-ask.true

pub returns-clause-truth_value : goal.returns-clause-truth_value
returns-clause-truth_value c = λ i. truth-open c.requires.node_read.node c.ask.ensures.value i c.if-ask.false c.lacks.ensures

pub returns-clause-number_value : goal.returns-clause-number_value
returns-clause-number_value c = λ i. number-open c.requires.node_read.node c.ask.ensures.value i c.if-ask.false c.lacks.ensures
