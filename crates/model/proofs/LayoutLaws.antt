-- What holds of a value for each body holds of the one selected.
-- Assumes nothing.
use Prim.Native.Nat.{ℕ}
use lib.Dec.{eqb}
use Rattle.folder.proofs.PickLaws.{pick_all}
use Rattle.model.specs.Layout.{select}

pub select-all : (P : ℕ → Type 0) (e : ℕ) {a b c d f : ℕ} → P a → P b → P c → P d → P f → P (select e a b c d f)
select-all P e pa pb pc pd pf =
    pick_all P (eqb e 0) pa (pick_all P (eqb e 1) pb (pick_all P (eqb e 2) pc (pick_all P (eqb e 3) pd pf)))
