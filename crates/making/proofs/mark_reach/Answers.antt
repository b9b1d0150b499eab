use Rattle.making.proofs.Marks.{reach-marked}
use Rattle.making.proofs.mark_reach.Goals as goal

pub shape_of-marks : goal.shape_of-marks
shape_of-marks c =
    (reach-marked _ _ _ _ c.args.marks.now c.requires.3 c.requires.4 c.mark_under.ensures).long

pub returns : goal.returns
returns c =
    reach-marked _ _ _ _ c.args.marks.now c.requires.3 c.requires.4 c.mark_under.ensures
