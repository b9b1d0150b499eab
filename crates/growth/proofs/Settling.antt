-- The hints, once the node opened last is taken into account.
-- Assumes nothing.
use Prim.Native.Nat.{ℕ, ◌*◌, ◌<◌, ◌≤◌}
use mathlib.Core.Path.{◌≡◌, refl, sym, ◌∙◌, subst}
use mathlib.Core.Bool.{Bool, true, false, ◌&&◌}
use mathlib.Core.List.{List}
use native.Mathlib.Decide.{dec_lt}
use native.Mathlib.Omega.{arith}
use borrow.Author.Tests.{lt-ltb, le-ltb}
use lib.Dec.{ltb}
use lib.ListN.{length}
use Rattle.folder.specs.Pick.{pick}
use Rattle.folder.specs.Fields.{field_limit}
use Rattle.model.specs.Layout.{variable_count}
use Rattle.model.specs.Model.{Model, model_of}
use Rattle.graph.specs.Simulation.{node_size}
use Rattle.building.specs.Building.{Building}
use Rattle.building.specs.Working.{HintRight}
use Rattle.building.proofs.Working.{hint-lowered}
use Rattle.model.specs.Limits.{most_variables}
use Rattle.put.proofs.PutLaws.{stays-none}
use Rattle.held.proofs.Made.{held_same}
use Rattle.nodes.proofs.Expanded.{variables-some}
use Rattle.wants.specs.Standing.{hint_in, Held}
use Rattle.covers.specs.Covers.{agrees_in, hint_at, lowered_hint, Lowered}
use Rattle.work.specs.declared.Work.{Work}
use Rattle.work.specs.Working.{graph_in}
use Rattle.growth.specs.Hints.{HintsSettled}
use Rattle.repairs.proofs.Linked.{contains-here}

-- A hint is lowered by the node opened last, or stands.
lowered-low : (vars : ℕ) (nb : List ℕ) (n i : ℕ) → lowered_hint vars nb n i ≤ hint_at vars nb i
unfolding lowered_hint
lowered-low vars nb n i = go (dec_lt n (hint_at vars nb i)) (agrees_in vars nb n i)
  where
    go : Dec (n < hint_at vars nb i) → (b : Bool) → pick (ltb n (hint_at vars nb i) && b) n (hint_at vars nb i) ≤ hint_at vars nb i
    go (yes l) true = rw (lt-ltb n (hint_at vars nb i) l) (omega arith)
    go (yes l) false = rw (lt-ltb n (hint_at vars nb i) l) (omega arith)
    go (no g) b = rw (le-ltb n (hint_at vars nb i) (omega arith)) (omega arith)

lowered_by : (vars : ℕ) (nb : List ℕ) (n i : ℕ) → agrees_in vars nb n i ≡ true → lowered_hint vars nb n i ≤ n
unfolding lowered_hint
lowered_by vars nb n i e = go (dec_lt n (hint_at vars nb i))
  where
    go : Dec (n < hint_at vars nb i) → pick (ltb n (hint_at vars nb i) && agrees_in vars nb n i) n (hint_at vars nb i) ≤ n
    go (yes l) = rw (lt-ltb n (hint_at vars nb i) l, e) (omega arith)
    go (no g) = rw (le-ltb n (hint_at vars nb i) (omega arith)) (omega arith)

-- It only matters for nodes that are counted which one is left out.
pub hint-past : (M : Model) (B : Building) {hint : ℕ → ℕ} {fresh later : ℕ} → B.nodes ≤ fresh → HintRight M B hint fresh → HintRight M B hint later
hint-past M B past R = record { within = R.within; is = λ i l c x y d. R.is i l c x y (λ e. omega arith) }

pub settled_same : (m : List ℕ) (w : Work) (nb : List ℕ) → w.nodes ≤ w.fresh → HintRight (model_of m) (graph_in m w nb) (hint_in m nb) w.fresh → HintsSettled m w nb nb
settled_same m w nb past R = record {
  held = refl;
  hints = hint-past (model_of m) (graph_in m w nb) past R;
  others = λ i f l d. refl;
  stays = stays-none 0 (node_size (variable_count m) * w.nodes) nb;
}

module _ (m : List ℕ) (w : Work) (nb new : List ℕ) {vars : ℕ} (p : vars ≡ variable_count m) (lowered : Lowered vars w.fresh w.nodes nb new) where
  same : Lowered (variable_count m) w.fresh w.nodes nb new
  same = subst (λ (v : ℕ). Lowered v w.fresh w.nodes nb new) p lowered

  held : graph_in m w new ≡ graph_in m w nb
  held = held_same m w.nodes nb new (λ i l f h a b. same.others i f (omega arith) (λ e. omega arith))

  pub settled-lowered : w.fresh < w.nodes → HintRight (model_of m) (graph_in m w nb) (hint_in m nb) w.fresh → HintsSettled m w nb new
  settled-lowered there R = record {
    held = held;
    hints = subst (λ (B : Building). HintRight (model_of m) B (hint_in m new) w.nodes) (sym held)
        (hint-lowered (model_of m) (graph_in m w nb) w.fresh
        (λ i l. (
          rw (same.hints i l) (lowered-low (variable_count m) nb w.fresh i),
          λ e. rw (same.hints i l) (lowered_by (variable_count m) nb w.fresh i (sym (contains-here m w.nodes nb i l w.fresh there) ∙ e)),
        )) R);
    others = same.others;
    stays = same.stays;
  }

-- What lowering them asks.
pub lowers : {m nb : List ℕ} {nodes fresh vars : ℕ} → Held m nodes nb → fresh < nodes → vars ≡ variable_count m → vars ≤ most_variables
    → ((0 < vars) × (vars ≤ most_variables) × (nodes ≤ field_limit) × (fresh < field_limit)) × (node_size vars * nodes ≤ length nb)
lowers {nb = nb} {nodes = nodes} H l p q =
    let f = H.kept.few in
    ((omega (arith, variables-some H.model), q, omega arith, omega arith), subst (λ (v : ℕ). node_size v * nodes ≤ length nb) (sym p) H.long)
