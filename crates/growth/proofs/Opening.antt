-- What becomes of a node that waits and has no cover, by the row of what the entries are in its state.
-- Assumes nothing.
use Rattle.std.specs.Prelude.{Option, None, Some}
use Prim.Native.Nat.{ℕ, ◌+◌, ◌*◌, ◌<◌, ◌≤◌}
use mathlib.Core.Path.{◌≡◌, refl, sym, ap, ◌∙◌}
use mathlib.Core.Bool.{Bool, true, false}
use mathlib.Core.List.{List}
use native.Mathlib.Omega.{arith}
use borrow.Author.Tests.{le-leb, lt-leb}
use lib.Dec.{leb}
use lib.ListN.{get_or}
use lib.IntN.{ℤ, pos}
use Rattle.folder.specs.Contents.{body, field, count_of}
use Rattle.whole.specs.Order.{eq_z}
use Rattle.expressions.specs.Meaning.{State, truth_in}
use Rattle.states.specs.Stated.{StateRow}
use Rattle.states.proofs.Entries.{truth-back, entry-truth}
use Rattle.model.specs.Layout.{variable_count}
use Rattle.model.specs.Model.{Model, model_of}
use Rattle.graph.specs.Limits.{most_nodes}
use Rattle.graph.specs.Simulation.{node_size}
use Rattle.building.specs.First.{given}
use Rattle.building.specs.Building.{Building, births}
use Rattle.building.specs.Length.{edges_length, length_with}
use Rattle.building.specs.Moves.{Move, reach, expand, room, opening}
use Rattle.held.specs.Held.{state_in}
use Rattle.nodes.specs.Born.{children_in, edges_in}
use Rattle.nodes.proofs.Expanded.{children-is, edges-is}
use Rattle.wants.specs.Standing.{Held}
use Rattle.work.specs.declared.Work.{Work}
use Rattle.work.specs.Working.{limit_of, graph_in, Lent}
use Rattle.repairs.proofs.Linked.{state-here}

module _ {m nb : List ℕ} {longest : ℕ} {w : Work} {n : ℕ} (H : Held m w.nodes nb) (L : Lent m longest w nb) (l : n < w.nodes)
    {row : List ℤ} (stated : StateRow (model_of m).entries (state_in m nb n) row) where
  abbrev M : Model
  M = model_of m

  abbrev B : Building
  B = graph_in m w nb

  here : B.state n ≡ state_in m nb n
  here = state-here m w.nodes nb n l

  -- ---- the target
  module _ {ts : List ℕ} {e : ℕ} {z : ℤ} {t : Bool} (a : ts ≡ body m 0) (b : e ≡ field 4 ts 0 1) (c : z ≡ get_or row e (pos 0)) (d : t ≡ eq_z z (pos 1)) where
    entry-is : e ≡ M.target
    entry-is = b ∙ ap (λ (s : List ℕ). field 4 s 0 1) a

    target_is : t ≡ truth_in M.entries (B.state n) M.target
    target_is =
        let g = H.model.model.target in
        d ∙ ap (λ (x : ℤ). eq_z x (pos 1)) (c ∙ ap (λ (i : ℕ). get_or row i (pos 0)) entry-is ∙ stated.is M.target g.there ∙ entry-truth M.entries (state_in m nb n) M.target g)
        ∙ truth-back (truth_in M.entries (state_in m nb n) M.target)
        ∙ ap (λ (s : State). truth_in M.entries s M.target) (sym here)

    pub opening-reach : t ≡ true → Some (reach n) ≡ opening M (limit_of longest) B n
    unfolding opening
    opening-reach h = rw (sym target_is ∙ h) refl

    -- ---- room
    module _ (off : t ≡ false) {cs : List ℕ} {commands born bytes : ℕ} (f : cs ≡ body m 3) (g : commands ≡ count_of 4 cs) (x : born ≡ children_in cs row commands) (y : bytes ≡ edges_in cs row commands) where
      commands-are : commands ≡ M.commands
      commands-are = g ∙ ap (count_of 4) f

      born-is : born ≡ births M (B.state n)
      born-is =
          x ∙ (λ i. children_in (f i) row (commands-are i)) ∙ children-is H.model stated M.commands (omega arith)
          ∙ ap (births M) (sym here)

      bytes-is : bytes ≡ edges_length M (B.state n)
      bytes-is = y ∙ (λ i. edges_in (f i) row (commands-are i)) ∙ edges-is H.model stated ∙ ap (edges_length M) (sym here)

      by-room : opening M (limit_of longest) B n ≡ given (room M (limit_of longest) B n) (Some (expand n))
      unfolding opening
      by-room = rw (sym target_is ∙ off) refl

      given-true : {b : Bool} {o : Option Move} → b ≡ true → o ≡ given b o
      unfolding given
      given-true h = rw h refl

      given-false : {b : Bool} (o : Option Move) → b ≡ false → None ≡ given b o
      unfolding given
      given-false o h = rw h refl

      pub opening-many : most_nodes < w.nodes + born → None ≡ opening M (limit_of longest) B n
      opening-many h =
          given-false (Some (expand n)) (rw (lt-leb (B.nodes + births M (B.state n)) most_nodes (omega (arith, born-is))) refl) ∙ sym by-room

      module _ (few : w.nodes + born ≤ most_nodes) {vars size : ℕ} (u : vars ≡ variable_count m) (v : size ≡ node_size vars) where
        size_is : size ≡ node_size M.variables
        size_is = v ∙ ap node_size u

        length-is : w.len + (size * born + bytes) ≡ length_with M B n
        unfolding length_with
        length-is = λ i. L.counted i + (size_is i * born-is i + bytes-is i)

        few-is : leb (B.nodes + births M (B.state n)) most_nodes ≡ true
        few-is = le-leb (B.nodes + births M (B.state n)) most_nodes (omega (arith, born-is))

        pub opening-expand : w.len + (size * born + bytes) ≤ longest → Some (expand n) ≡ opening M (limit_of longest) B n
        opening-expand h = given-true (rw (few-is, le-leb (length_with M B n) longest (omega (arith, length-is))) refl) ∙ sym by-room

        pub opening-long : longest < w.len + (size * born + bytes) → None ≡ opening M (limit_of longest) B n
        opening-long h = given-false (Some (expand n)) (rw (few-is, lt-leb (length_with M B n) longest (omega (arith, length-is))) refl) ∙ sym by-room
