use Rattle.wants.proofs.is_new.Goals as goal

pub returns : goal.returns
returns c = cc
