-- The edges and the final record of one node, by the record that it has.
-- Assumes nothing.
use Prim.Native.Nat.{ℕ, ◌+◌, ◌*◌, ◌<◌, ◌≤◌}
use mathlib.Core.Path.{◌≡◌, refl, sym, ap, ◌∙◌, subst}
use mathlib.Core.Bool.{Bool, true, false}
use mathlib.Core.List.{List, [], ◌∷◌}
use native.Mathlib.Nat.{le_refl}
use native.Mathlib.Omega.{arith}
use borrow.Author.Tests.{ne_eqb}
use lib.Dec.{eqb}
use lib.ListN.{length}
use lib.IntN.{ℤ}
use Rattle.mdp.specs.Kinds.{Kind}
use Rattle.folder.specs.Fields.{field_limit}
use Rattle.folder.specs.Pick.{pick}
use Rattle.folder.specs.Contents.{body, count_of}
use Rattle.folder.specs.Tab.{tab, passing}
use Rattle.folder.proofs.TabLaws.{passing-same}
use Rattle.folder.proofs.ListLaws.{passing-few}
use Rattle.expressions.specs.Meaning.{State}
use Rattle.states.specs.Stated.{StateRow}
use Rattle.model.specs.Limits.{most_commands}
use Rattle.model.specs.Layout.{variable_count}
use Rattle.model.specs.Model.{Model, model_of}
use Rattle.model.specs.Valid.{Valid}
use Rattle.model.proofs.Limits.{limits}
use Rattle.graph.specs.Simulation.{node_size, kind_of}
use Rattle.building.specs.Building.{enabled, births, edge_commands, if_expanded}
use Rattle.building.specs.Length.{edges_length}
use Rattle.held.specs.Held.{kind_field, child_field, state_field, field_count, node_in, state_in, Whole}
use Rattle.held.proofs.FieldLaws.{field_below, state-same}
use Rattle.nodes.specs.Born.{on_in, children_in, edges_in}
use Rattle.nodes.proofs.Expanded.{on-is, children-is, edges-is}
use Rattle.written.specs.Bytes.{chain}
use Rattle.written.proofs.FieldLaws.{chain_same}
use Rattle.finish.specs.Laid.{Laid, final_record, edge_in, EdgesLaid, edges_from, when_expanded, kind_in, own_edges, own_count, own_record, Fits, OwnLaid, Ended}
use Rattle.finish.proofs.LaidLaws.{laid_none}
use Rattle.finish.proofs.FinalLaws.{record_same}

-- ---- of an expanded node
module _ {m nb : List ℕ} {n at : ℕ} (fits : Fits m nb n at) (opened : kind_in m nb n ≡ Kind.expanded) {row : List ℤ} (stated : StateRow (model_of m).entries (state_in m nb n) row) where
  abbrev M : Model
  M = model_of m

  abbrev S : State
  S = state_in m nb n

  valid : Valid m
  valid = fits.here.model

  -- What the code has for the commands, their count and the first child.
  module _ {cs : List ℕ} {commands child : ℕ} (p : cs ≡ body m 3) (q : commands ≡ count_of 4 cs) (o : child ≡ node_in m nb n child_field) where
    commands-are : commands ≡ M.commands
    commands-are = q ∙ ap (count_of 4) p

    pub few-commands : commands ≤ most_commands
    few-commands = omega (arith, commands-are, (limits valid.folder).commands)

    pub children-fit : child + children_in cs row commands ≤ field_limit
    children-fit =
        let e : children_in cs row commands ≡ births M S = (λ i. children_in (p i) row (commands-are i)) ∙ children-is valid stated M.commands (le_refl _) in
        omega (arith, fits.children opened, o)

    pub edges_fit : at + edges_in cs row commands ≤ length nb
    edges_fit =
        let e : edges_in cs row commands ≡ edges_length M S = (λ i. edges_in (p i) row (commands-are i)) ∙ edges-is valid stated in
        let k : if_expanded (kind_in m nb n) (edges_length M S) ≡ edges_length M S = ap (λ (κ : Kind). if_expanded κ (edges_length M S)) opened in
        omega (arith, fits.room)

    edges_are : chain commands (edge_in cs row child) ≡ own_edges m nb n
    unfolding own_edges edges_from
    edges_are =
        (λ i. chain (commands-are i) (edge_in (p i) row (o i)))
        ∙ chain_same M.commands _ _ (λ c l i. pick (on-is valid stated c l i) (c ∷ tab (M.branches c) (λ b. node_in m nb n child_field + children-is valid stated c (omega arith) i + b)) [])
        ∙ ap (λ (κ : Kind). when_expanded κ (edges_from M S (node_in m nb n child_field))) (sym opened)

    count-is : length (passing commands (on_in cs row)) ≡ own_count m nb n
    unfolding own_count
    count-is =
        (λ i. length (passing (commands-are i) (on_in (p i) row)))
        ∙ ap length (passing-same M.commands (on_in (body m 3) row) (enabled M S) (on-is valid stated))
        ∙ ap (λ (κ : Kind). if_expanded κ (length (edge_commands M S))) (sym opened)

    pub own-laid : {count : ℕ} {new : List ℕ} → EdgesLaid cs row child at commands count nb new → OwnLaid m nb n at count new
    own-laid {count} {new} e = record {
      laid = subst (λ (us : List ℕ). Laid at us nb new) edges_are e.laid;
      counted = e.counted ∙ count-is;
      few = omega (arith, e.counted, passing-few (on_in cs row) commands, few-commands);
    }

-- ---- of any node
pub is-expanded : (m nb : List ℕ) (n : ℕ) {k : ℕ} → k ≡ node_in m nb n kind_field → k ≡ 1 → kind_in m nb n ≡ Kind.expanded
unfolding kind_of
is-expanded m nb n p e = rw (sym p ∙ e)

module _ (m nb : List ℕ) (n : ℕ) {k : ℕ} (p : k ≡ node_in m nb n kind_field) (d : k ≡ 1 → ⊥) where
  -- A function of the kind that has no edges then.
  none-by : {A : Type 0} (f : Kind → A) (a : A) → f Kind.waiting ≡ a → f Kind.covered ≡ a → f Kind.target ≡ a → f (kind_in m nb n) ≡ a
  unfolding kind_of
  none-by f a w c t = rw (ne_eqb (node_in m nb n kind_field) 1 (λ e. d (p ∙ e))) (go (eqb (node_in m nb n kind_field) 2) (eqb (node_in m nb n kind_field) 3))
    where
      go : (x y : Bool) → f (pick x Kind.covered (pick y Kind.target Kind.waiting)) ≡ a
      go true y = c
      go false true = t
      go false false = w

  pub own-none : (at : ℕ) → OwnLaid m nb n at 0 nb
  unfolding own_edges own_count
  own-none at =
      let e : own_edges m nb n ≡ [] = none-by (λ κ. when_expanded κ (edges_from (model_of m) (state_in m nb n) (node_in m nb n child_field))) [] refl refl refl in
      record {
        laid = rw e (laid_none at nb);
        counted = sym (none-by (λ κ. if_expanded κ (length (edge_commands (model_of m) (state_in m nb n)))) 0 refl refl refl);
        few = omega arith;
      }

-- A node whose record is the same has the same edges and the same final record.
module _ (m old new : List ℕ) (n : ℕ) (same : (f : ℕ) → f < field_count (variable_count m) → node_in m new n f ≡ node_in m old n f) where
  pub same-state : state_in m new n ≡ state_in m old n
  same-state = state-same m old new n (λ v l. same (state_field + v) (omega arith))

  pub same_kind : kind_in m new n ≡ kind_in m old n
  same_kind = ap kind_of (same kind_field (omega arith))

  pub same_edges_lem : own_edges m new n ≡ own_edges m old n
  unfolding own_edges
  same_edges_lem = λ i. when_expanded (same_kind i) (edges_from (model_of m) (same-state i) (same child_field (omega arith) i))

  same_count : own_count m new n ≡ own_count m old n
  unfolding own_count
  same_count = λ i. if_expanded (same_kind i) (length (edge_commands (model_of m) (same-state i)))

  pub same-record : own_record m new n ≡ own_record m old n
  unfolding own_record
  same-record = ap (final_record (variable_count m) new n) same_count ∙ record_same (variable_count m) n (own_count m old n) old new same

-- Edges first, then the record.
pub ended : {m nb : List ℕ} {n at : ℕ} → Fits m nb n at → {vars count : ℕ} {mid new : List ℕ} → vars ≡ variable_count m → OwnLaid m nb n at count mid
    → Laid (node_size vars * n) (final_record vars mid n count) mid new → Ended m nb n at new
unfolding own_record
ended {m} {nb} {n} {at} fits {vars} {count} {mid} {new} v o f = record {
  between = mid;
  edges = o.laid;
  final =
      subst (λ (us : List ℕ). Laid (node_size (variable_count m) * n) us mid new)
      (ap (final_record (variable_count m) mid n) o.counted ∙ record_same (variable_count m) n (own_count m nb n) nb mid (λ g l. field_below (variable_count m) o.laid.stays n g l fits.past))
      (subst (λ (k : ℕ). Laid (node_size k * n) (final_record k mid n count) mid new) v f);
}

-- The record is there.
pub record-room : {m nb : List ℕ} {n at : ℕ} → Fits m nb n at → {vars count : ℕ} {mid : List ℕ} → vars ≡ variable_count m → OwnLaid m nb n at count mid → Whole vars mid n
record-room fits v o = rw v (omega (arith, fits.past, fits.room, o.laid.stays.long))
