use mathlib.Core.Path.{sym, ◌∙◌, ap₂}
use native.Mathlib.Omega.{arith}
use Rattle.folder.proofs.Signed.{back}
use Rattle.expressions.specs.Ranges.{span, arith_r, hull}
use Rattle.ranges.proofs.RangeLaws.{part-near, parts, level}
use Rattle.ranges.proofs.+range_of.Goals as goal

pub arith_range-requires : goal.arith_range-requires
arith_range-requires t c =
    let l = parts c.requires (sym c.number_form-f.ensures.0 ∙ c.in-Binary.is) in
    (part-near c.requires l.0 c.range_of.ensures, part-near c.requires l.1 c.range_of-in-Binary.ensures)

pub returns-in-Constant : goal.returns-in-Constant
returns-in-Constant t c = let z = back (omega arith) in ap₂ span z z ∙ level c.requires (sym c.number_form-f.ensures.0 ∙ c.in-Constant.is)

pub returns-in-Variable : goal.returns-in-Variable
returns-in-Variable t c = c.bound_at.ensures ∙ level c.requires (sym c.number_form-f.ensures.0 ∙ c.in-Variable.is)

pub returns-in-Binary : goal.returns-in-Binary
returns-in-Binary t c =
    c.arith_range.ensures ∙ ap₂ (arith_r c.in-Binary.k) c.range_of.ensures c.range_of-in-Binary.ensures
    ∙ level c.requires (sym c.number_form-f.ensures.0 ∙ c.in-Binary.is)

pub returns-in-If : goal.returns-in-If
returns-in-If t c =
    c.hull_of.ensures ∙ ap₂ hull c.range_of-in-If.ensures c.range_of-in-If-2.ensures ∙ level c.requires (sym c.number_form-f.ensures.0 ∙ c.in-If.is)

pub returns-in-NoNumber : goal.returns-in-NoNumber
returns-in-NoNumber t c = level c.requires (sym c.number_form-f.ensures.0 ∙ c.in-NoNumber.is)
