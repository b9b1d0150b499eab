use borrow.Author.Tests.{not-true, not-false}
use Rattle.covers.proofs.CoverLaws.{field-by, fault-label, fault-none, fault-set}
use Rattle.covers.proofs.fault_of.Goals as goal

pub returns-then-not-agrees : goal.returns-then-not-agrees
returns-then-not-agrees c = fault-label _ _ _ (field-by _ _ _ _ c.node_size-size.ensures.0 c.field-c.ensures.0) c.agrees.ensures (not-true _ c.if-not-agrees.true-raw)

pub returns-then-missing_of-eq-NO_VARIABLE : goal.returns-then-missing_of-eq-NO_VARIABLE
returns-then-missing_of-eq-NO_VARIABLE c =
    fault-none _ _ _ (field-by _ _ _ _ c.node_size-size.ensures.0 c.field-c.ensures.0) c.agrees.ensures (not-false _ c.if-not-agrees.false-raw) (field-by _ _ _ _ c.node_size-size.ensures.0 c.field-t.ensures.0) (field-by _ _ _ _ c.node_size-size.ensures.0 c.field-s.ensures.0) c.missing_of.ensures c.requires.0 c.if-missing_of-eq-NO_VARIABLE.true

pub returns : goal.returns
returns c =
    fault-set _ _ _ (field-by _ _ _ _ c.node_size-size.ensures.0 c.field-c.ensures.0) c.agrees.ensures (not-false _ c.if-not-agrees.false-raw) (field-by _ _ _ _ c.node_size-size.ensures.0 c.field-t.ensures.0) (field-by _ _ _ _ c.node_size-size.ensures.0 c.field-s.ensures.0) c.missing_of.ensures c.if-missing_of-eq-NO_VARIABLE.false
