use Rattle.std.proofs.Common.{◌∙◌}
use Rattle.folder.proofs.TableLaws.{scan-row}
use Rattle.folder.proofs.check_scan.Goals as goal

pub returns : goal.returns
returns c = λ good e. c.check.ensures ∙ scan-row _ _ _ good e
