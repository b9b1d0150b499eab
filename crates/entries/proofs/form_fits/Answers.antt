use Rattle.entries.specs.Depth.{form_fits}
use Rattle.entries.proofs.form_fits.Goals as goal

pub returns : goal.returns
unfolding form_fits
returns c = cc
