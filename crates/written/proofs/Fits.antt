-- A graph fits its fields: each that is built does, and on the way after every move too.
-- Assumes nothing.
use Prim.Native.Nat.{ℕ, ◌*◌, ◌^◌, ◌<◌, ◌≤◌}
use mathlib.Core.Path.{◌≡◌, refl}
use mathlib.Core.Bool.{Bool, true, false}
use native.Mathlib.Nat.{pow-le-pow_right, div-lt_iff_lt-mul, one-le-pow}
use native.Mathlib.Decide.{ℕ_discrete}
use native.Mathlib.Omega.{arith}
use lib.ListN.{length}
use lib.IntN.{pos}
use lib.Signed.{le_z_yes}
use Rattle.mdp.specs.Kinds.{Kind}
use Rattle.folder.specs.Fields.{field_limit}
use Rattle.folder.proofs.ListLaws.{passing-few}
use Rattle.whole.proofs.Order.{to-⊑, from-⊑, ⊑_trans}
use Rattle.model.specs.Limits.{most_variables, most_commands}
use Rattle.model.specs.Model.{Model}
use Rattle.model.specs.Valid.{ModelRight}
use Rattle.graph.specs.Limits.{most_bytes, most_nodes, units}
use Rattle.graph.specs.Simulation.{Simulation}
use Rattle.graph.specs.Labels.{tracks}
use Rattle.graph.specs.Valid.{ContentRight, RightA1, RightC3}
use Rattle.building.specs.Building.{Building, enabled, edge_commands, if_expanded, as_simulation}
use Rattle.building.specs.Length.{graph_length}
use Rattle.building.specs.Moves.{Limit}
use Rattle.building.specs.Kept.{Kept}
use Rattle.building.proofs.Ruled.{a1, c3, content-right}
use Rattle.put.specs.Put.{FitsField}
use Rattle.written.specs.Bytes.{graph_bytes}
use Rattle.written.proofs.ReadBack.{Fitting}
use Rattle.written.proofs.LengthLaws.{written-length}

-- ---- a graph whose content is right, with A1 and C3
module _ (M : Model) (X : ModelRight M) (few-variables : M.variables ≤ most_variables) (few-commands : M.commands ≤ most_commands) (G : Simulation) (K : ContentRight M G) (few : G.nodes ≤ most_nodes)
    (label : (n : ℕ) → n < G.nodes → RightA1 M G n) (cover : (n : ℕ) → n < G.nodes → RightC3 M G n) (few-edges : (n : ℕ) → n < G.nodes → G.edges n ≤ M.commands) where
  zero-fits : FitsField (pos 0)
  zero-fits = record { low = le_z_yes tt; high = le_z_yes tt }

  concrete-fits : (n : ℕ) → n < G.nodes → (v : ℕ) → v < M.variables → FitsField (G.concrete n v)
  concrete-fits n l v h = record {
    low = from-⊑ (⊑_trans (to-⊑ (X.variables v h).least) (to-⊑ ((K.nodes n l).low v h)));
    high = from-⊑ (⊑_trans (to-⊑ ((K.nodes n l).high v h)) (to-⊑ (X.variables v h).most));
  }

  label-fits : (n : ℕ) → n < G.nodes → (v : ℕ) → v < M.variables → FitsField (G.label n v)
  label-fits n l v h = go (tracks G n v) refl
    where
      go : (t : Bool) → tracks G n v ≡ t → FitsField (G.label n v)
      go true t = rw (label n l v h t) (concrete-fits n l v h)
      go false t = rw ((K.nodes n l).untracked v h t) zero-fits

  tracked-fits : (n : ℕ) → n < G.nodes → G.tracked n < field_limit
  tracked-fits n l =
      let some : 0 < 2 ^ M.variables = omega (arith, one-le-pow M.variables 2 (omega arith)) in
      let small : G.tracked n < 1 * 2 ^ M.variables = (div-lt_iff_lt-mul {k = 2 ^ M.variables} {x = G.tracked n} {y = 1} some).0 (omega (arith, (K.nodes n l).bits)) in
      let most : 2 ^ M.variables ≤ 2 ^ most_variables = pow-le-pow_right {n = 2} (omega arith) few-variables in
      omega arith

  cover-fits : (n : ℕ) → n < G.nodes → G.cover n < field_limit
  cover-fits n l = go (ℕ_discrete (G.kind n) 2)
    where
      go : Dec (G.kind n ≡ 2) → G.cover n < field_limit
      go (yes k) = let h : G.cover n < G.nodes = (cover n l k).0 in omega arith
      go (no d) = omega (arith, (K.nodes n l).cover d)

  pub fitting : length (graph_bytes M G) ≤ most_bytes → Fitting M G
  fitting short = record {
    kind = λ n l. omega (arith, (K.nodes n l).kind);
    cover = cover-fits;
    value = λ n l. omega (arith, (K.nodes n l).value);
    edges = λ n l. omega (arith, few-edges n l);
    tracked = tracked-fits;
    concrete = concrete-fits;
    label = label-fits;
    command = λ n l e h. omega (arith, (K.edges n l e h).command);
    successor = λ n l e h b q. omega (arith, (K.edges n l e h).successors b q);
    short = omega arith;
  }

-- ---- a graph while it is built
edges_few : (κ : Kind) (x most : ℕ) → x ≤ most → if_expanded κ x ≤ most
edges_few Kind.waiting x most l = omega arith
edges_few Kind.expanded x most l = l
edges_few Kind.covered x most l = omega arith
edges_few Kind.target x most l = omega arith

module _ (M : Model) (X : ModelRight M) (few-variables : M.variables ≤ most_variables) (few-commands : M.commands ≤ most_commands) (P : Limit) (few : P.most ≤ most_nodes) (B : Building) (K : Kept M P.most B) (short : graph_length M B ≤ most_bytes)
    (value : ℕ → ℕ) (small : (n : ℕ) → value n ≤ units) where
  pub kept-fitting : Fitting M (as_simulation M B value)
  kept-fitting =
      fitting M X few-variables few-commands (as_simulation M B value) (content-right M P B K value small) (omega (arith, K.few)) (λ n l. a1 M P B K value n) (c3 M P B K value)
      (λ n l. edges_few (B.kind n) (length (edge_commands M (B.state n))) M.commands (passing-few (enabled M (B.state n)) M.commands))
      (omega (arith, written-length M B value))
