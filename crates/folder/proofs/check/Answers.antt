use Rattle.folder.proofs.TableLaws.{no_row, test-holds, test-refuses, all-rows}
use Rattle.folder.specs.Table.{single}
use Rattle.std.proofs.Common.{[], ◌∷◌, refl}
use Rattle.folder.proofs.check.Goals as goal

pub returns-then-ok : goal.returns-then-ok
returns-then-ok c = all-rows (test-holds (no_row (single c.args.number c.args.place c.args.ok ∷ [])) refl c.if-ok.true)

pub returns : goal.returns
returns c = test-refuses (no_row (single c.args.number c.args.place c.args.ok ∷ [])) refl c.if-ok.false
