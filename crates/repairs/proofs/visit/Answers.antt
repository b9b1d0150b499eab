use mathlib.Core.Path.{refl, sym, ap, ◌∙◌}
use Prim.Native.Nat.{ℕ}
use borrow.Author.Tests.{eqb-false}
use lib.ListN.{set}
use lib.Seq.{set-get_or}
use Rattle.std.specs.Prelude.{option_map}
use Rattle.nodes.specs.Told.{told}
use Rattle.repairs.proofs.Rereading.{reread-none}
use Rattle.repairs.proofs.visit.Goals as goal

pub returns-then-marks-n-eq0 : goal.returns-then-marks-n-eq0
returns-then-marks-n-eq0 c = record { result_value = sym (c.requires.n_value c.if-marks-n-eq0.true); reread = reread-none c.requires.standing.read; marks_after = sym (set-get_or c.args.marks.now c.args.n 0) ∙ ap (λ (x : ℕ). set c.args.marks.now c.args.n x) c.if-marks-n-eq0.true }

pub repair_of-requires : goal.repair_of-requires
repair_of-requires c = record { standing = c.requires.standing; parent_right = c.requires.parent_right; n_lt_nodes = c.requires.n_lt_nodes.0; n_value = λ a k. c.requires.settled.is _ c.requires.n_lt_nodes.0 (eqb-false _ _ a) k }

pub returns-in-Some : goal.returns-in-Some
returns-in-Some c = record { result_value = c.in-Some.ensures.result_value; reread = c.repair_of.ensures.reread; marks_after = refl }

pub returns : goal.returns
returns c = record { result_value = sym (ap (option_map told) c.in_default.is) ∙ c.repair_of.ensures.result_value; reread = c.repair_of.ensures.reread; marks_after = refl }
