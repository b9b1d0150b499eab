-- Row 15 as the code tests it: by the bodies that it holds.
-- Assumes nothing.
use Prim.Native.Nat.{ℕ, ◌+◌, ◌/◌, ◌^◌}
use mathlib.Core.Path.{◌≡◌}
use mathlib.Core.Bool.{Bool, ◌&&◌, ◌||◌, not-not}
use mathlib.Core.List.{List}
use lib.Dec.{leb, eqb}
use lib.IntN.{ℤ, pos}
use Rattle.folder.specs.Scan.{all}
use Rattle.folder.specs.Contents.{body, field, signed_field, field4}
use Rattle.whole.specs.Order.{eq_z}
use Rattle.expressions.specs.Reading.{has_bit}
use Rattle.model.specs.Layout.{variable_count}
use Rattle.model.specs.Model.{model_of}
use Rattle.model.specs.Rules.{between}
use Rattle.graph.specs.Limits.{units}
use Rattle.graph.specs.Simulation.{node_size, node_field, simulation_of}
use Rattle.graph.specs.Rules.{head_fits, values_fit, node_fits}
use Rattle.graph.specs.Walks.{NodeBodies}

-- Node n's values of variable v: b, e and i are what the code's tests answer.
pub value-is : {m g : List ℕ} {variables : ℕ} {vs ns : List ℕ} → NodeBodies m g variables vs ns
    → (n v : ℕ) {size set : ℕ} {low high concrete label : ℤ} {b tracked e : Bool} → size ≡ node_size variables
    → low ≡ signed_field 6 vs v 0 → high ≡ signed_field 6 vs v 1
    → concrete ≡ signed_field size ns n (6 + v) → label ≡ signed_field size ns n (6 + variables + v)
    → b ≡ between low high concrete → set ≡ field size ns n 5 → tracked ≡ has_bit set v → e ≡ eq_z label (pos 0)
    → (b && (tracked || e)) ≡ values_fit (model_of m) (simulation_of (model_of m) g) n v
unfolding values_fit
value-is h n v {tracked = tracked} s pl ph pc pa pb ps pt pe =
    let t = not-not tracked in
    cc

-- Node n: covers and leads are what its tests of the cover and of the edge count answer, and values that of its values.
pub node-is : {m g : List ℕ} {variables : ℕ} {vs ns : List ℕ} → NodeBodies m g variables vs ns
    → (n : ℕ) {size kind cover value edges set : ℕ} {values : Bool} → size ≡ node_size variables
    → kind ≡ field size ns n 0 → cover ≡ field size ns n 1 → value ≡ field4 size ns n 2 → edges ≡ field size ns n 4 → set ≡ field size ns n 5
    → values ≡ all (values_fit (model_of m) (simulation_of (model_of m) g) n) variables
    → (((leb kind 3 && leb value units) && ((eqb kind 2 || eqb cover 0) && (eqb kind 1 || eqb edges 0))) && (eqb (set / 2 ^ variables) 0 && values))
    ≡ node_fits (model_of m) (simulation_of (model_of m) g) n
unfolding node_fits head_fits
node-is h n {kind = kind} s pk pc pv pe ps pb =
    let t = not-not (eqb kind 2) in
    let u = not-not (eqb kind 1) in
    cc

-- The root's value of variable v.
pub root_is : {m g : List ℕ} {variables : ℕ} {vs ns : List ℕ} → NodeBodies m g variables vs ns
    → (v : ℕ) {size : ℕ} {concrete initial : ℤ} {t : Bool} → size ≡ node_size variables
    → concrete ≡ signed_field size ns 0 (6 + v) → initial ≡ signed_field 6 vs v 2 → t ≡ eq_z concrete initial
    → t ≡ eq_z ((simulation_of (model_of m) g).concrete 0 v) ((model_of m).initial v)
root_is h v s pc pi pt = cc

-- Field f of node n.
pub node-field : (m g : List ℕ) {variables size x : ℕ} {ns : List ℕ} (n f : ℕ) → variables ≡ variable_count m → size ≡ node_size variables → ns ≡ body g 0
    → x ≡ field size ns n f → x ≡ node_field (model_of m) g n f
node-field m g n f p q r e = cc
