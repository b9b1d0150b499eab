use mathlib.Core.Path.{refl}
use borrow.Author.Tests.{lt-ltb, le-ltb}
use Rattle.slots.proofs.other_hash.Goals as goal

pub returns-then-n-hashes : goal.returns-then-n-hashes
returns-then-n-hashes c = rw (lt-ltb _ _ c.if-n-hashes.true) refl

pub returns-else-n-hashes : goal.returns-else-n-hashes
returns-else-n-hashes c = rw (le-ltb _ _ c.if-n-hashes.false) refl
