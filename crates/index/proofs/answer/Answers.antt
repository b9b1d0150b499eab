use Prim.Native.Nat.{ℕ}
use mathlib.Core.Path.{sym, subst}
use native.Mathlib.Omega.{arith}
use Rattle.slots.specs.Nodes.{Hashed}
use Rattle.index.proofs.CodeLaws.{part-long, answer-is}
use Rattle.index.proofs.answer.Goals as goal

pub find-requires : goal.find-requires
find-requires c =
    (omega (arith, part-long c.args.vars c.args.nb.now c.args.slots.now c.requires.indexed c.args.batch.now c.args.k c.requires.vars_in_bounds, c.requires.indexed.vars-few), subst (λ (v : ℕ). Hashed v c.args.nb.now c.args.hashes.now) (sym (part-long c.args.vars c.args.nb.now c.args.slots.now c.requires.indexed c.args.batch.now c.args.k c.requires.vars_in_bounds)) c.requires.indexed.hashed, omega (arith, c.requires.indexed.fit))

pub returns : goal.returns
returns c =
    answer-is c.args.vars c.args.nb.now c.args.slots.now c.requires.indexed c.args.batch.now c.args.k c.requires.vars_in_bounds c.find.ensures
