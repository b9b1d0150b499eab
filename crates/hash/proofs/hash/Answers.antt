use mathlib.Core.Path.{refl, ap, ◌∙◌, sym}
use native.Mathlib.Omega.{arith}
use Rattle.hash.specs.Hash.{bits, hash_of}
use Rattle.folder.proofs.Signed.{back16}
use Rattle.hash.proofs.Laws.{value-more, from_end}
use Rattle.hash.proofs.hash.Goals as goal

pub loop-x-init : goal.loop-x-init
unfolding hash_of
loop-x-init c = refl

pub loop-x-preserved : goal.loop-x-preserved
loop-x-preserved c =
    value-more c.loop-x.h c.loop-x.x-index c.args.s.now c.loop-x.invariant (omega arith) (c.bits_of.ensures.0 ∙ ap bits (back16 c.bits_of-arg-1.given)) c.field_step-h.ensures

pub returns : goal.returns
returns c =
    sym (from_end c.loop-x.h c.loop-x.x-index c.args.s.now (omega arith)) ∙ c.loop-x.invariant
