use Rattle.std.proofs.Common.{ℕ, Bool, ◌≡◌, ◌<◌}
use Rattle.folder.specs.Scan.{first_bad}
use Rattle.folder.proofs.first_bad.Given as goal

abbrev pub invariant-loop-i : goal.invariant-loop-i
invariant-loop-i g l = (good : ℕ → Bool) → ((i : ℕ) (r : Bool) → i < l.n → goal.F-post g l.ok i r → r ≡ good i) → first_bad good l.i ≡ l.i
