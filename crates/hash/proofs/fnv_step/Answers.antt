use mathlib.Core.Path.{ap, ◌∙◌}
use Prim.Native.Nat.{ℕ}
use native.Mathlib.Omega.{arith}
use lib.Bits.{bit_xor}
use Rattle.hash.specs.Hash.{fnv_step, fnv_prime, mul_kept}
use Rattle.hash.proofs.Laws.{xor_low_lem}
use Rattle.hash.proofs.fnv_step.Goals as goal

pub returns : goal.returns
unfolding fnv_step
returns c =
    c.mul_kept.ensures ∙ ap (λ (x : ℕ). mul_kept x fnv_prime) (ap (bit_xor c.args.h) c.from.ensures ∙ xor_low_lem c.args.h c.args.b (omega arith))
