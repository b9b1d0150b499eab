use Rattle.std.proofs.Common.{ℕ, ◌≡◌, ◌<◌}
use Rattle.folder.specs.Tab.{fill}
use Rattle.folder.proofs.fill.Given as goal

abbrev pub invariant-loop-i : goal.invariant-loop-i
invariant-loop-i g l = (f : ℕ → _) → ((i : ℕ) (t : _) → i < l.n → goal.F-post g l.value i t → t ≡ f i) → l.row ≡ fill l.i f l.fn.row
