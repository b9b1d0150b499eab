-- Document 02, 2.4: no graph that was accepted by document 01's reading is refused now; and up to the limit an entry reads
-- known in a node's label if and only if all states that it contains agree on it.
-- Assumes nothing.
use Prim.Native.Nat.{ℕ, ◌<◌, ◌≤◌}
use mathlib.Core.Path.{◌≡◌, refl, ap, sym, ◌∙◌}
use mathlib.Core.Logic.{◌↔◌, ◌≢◌}
use mathlib.Core.Bool.{Bool, true, false}
use mathlib.Core.List.{List}
use lib.IntN.{ℤ}
use Rattle.folder.proofs.TabLaws.{passing-same}
use Rattle.expressions.specs.Limits.{most_combinations}
use Rattle.expressions.specs.Meaning.{State, number_in, truth_in}
use Rattle.expressions.specs.Reading.{known_truth, is_true}
use Rattle.expressions.specs.ThreeWay.{Truth}
use Rattle.expressions.specs.Combinations.{Proper}
use Rattle.expressions.specs.States.{ways, truth_three}
use Rattle.expressions.proofs.States.{number-stays, truth-stays, truth-opens, number-complete, truth-complete}
use Rattle.model.specs.Model.{Model, model_of}
use Rattle.graph.specs.Simulation.{Simulation, simulation_of}
use Rattle.graph.specs.Labels.{label_of, number_of, truth_of, by_states, three_way, Contains}
use Rattle.graph.specs.Rules.{enabled_in}
use Rattle.graph.specs.Table.{graph_outcome}
use Rattle.graph.specs.Valid.{NodeRight, ContentRight, RightA1, RightA2, RightB1, RightB2, RulesRight, ValidThreeWay}
use Rattle.graph.proofs.Decided.{accepted-valid}
use Rattle.graph.proofs.Labelled.{proper, holds, contained}
use Rattle.std.specs.Prelude.{None, Ok, Some}

-- ---- rules kept by document 01's reading are kept
module _ (M : Model) (G : Simulation) (n : ℕ) (P : Proper (label_of M G n)) where
  a2-stays : RightA2 M G (three_way M G) n → RightA2 M G (by_states M G) n
  a2-stays r = record {
    guards = λ k c l u. r.guards k c l (truth-opens M.entries (label_of M G n) P (M.guard c) u);
    no_target = λ k. truth-stays M.entries (label_of M G n) P M.target false (r.no_target k);
    target = λ k. truth-stays M.entries (label_of M G n) P M.target true (r.target k);
  }

  -- A guard that is not unknown is enabled in both readings, or in neither.
  enabled-stays : (e : ℕ) (t : Truth) → truth_three M.entries (label_of M G n) e ≡ t → t ≢ None → is_true t ≡ is_true (truth_of M G n e)
  enabled-stays e (Some true) q h = sym (ap is_true (truth-stays M.entries (label_of M G n) P e true q))
  enabled-stays e (Some false) q h = sym (ap is_true (truth-stays M.entries (label_of M G n) P e false q))
  enabled-stays e None q h = absurd (h refl)

  b1-stays : RightA2 M G (three_way M G) n → RightB1 M G (three_way M G) n → RightB1 M G (by_states M G) n
  b1-stays r f k =
      f k ∙ passing-same M.commands (λ c. is_true ((three_way M G).truth n (M.guard c))) (enabled_in M G n) (λ c l. enabled-stays (M.guard c) _ refl (r.guards k c l))

  b2-stays : RightB2 M G (three_way M G) n → RightB2 M G (by_states M G) n
  b2-stays f k e l b h = record {
    concrete = (f k e l b h).concrete;
    label = λ v p t. number-stays M.entries (label_of M G n) P _ _ ((f k e l b h).label v p t);
  }

rules-stay : (M : Model) (G : Simulation) → ContentRight M G → RulesRight M G (three_way M G) → RulesRight M G (by_states M G)
rules-stay M G K A = record {
  a1 = A.a1;
  a2 = λ n l. a2-stays M G n (is-proper n l) (A.a2 n l);
  b1 = λ n l. b1-stays M G n (is-proper n l) (A.a2 n l) (A.b1 n l);
  b2 = λ n l. b2-stays M G n (is-proper n l) (A.b2 n l);
  c3 = A.c3;
  c1 = A.c1;
  c2 = A.c2;
  values = A.values;
}
  where
    is-proper : (n : ℕ) → n < G.nodes → Proper (label_of M G n)
    is-proper n l = proper M G n (K.nodes n l) (A.a1 n l)

-- No graph that was accepted before is refused now.
pub stays-accepted : (m g : List ℕ) → ValidThreeWay m g → graph_outcome m g ≡ (Ok tt)
stays-accepted m g A = (accepted-valid m g).1
    (record { model = A.model; rows = A.rows; rules = rules-stay (model_of m) (simulation_of (model_of m) g) A.rows.content A.rules })

-- ---- a node that keeps row 15 and A1, and an entry whose combinations in its label are within the limit
module _ (M : Model) (G : Simulation) (n : ℕ) (N : NodeRight M G n) (A : RightA1 M G n) (e : ℕ)
    (few : ways M.entries (label_of M G n) e ≤ most_combinations) where
  -- It reads known if and only if it is the same in all states that the label contains.
  pub reading-complete : (b : Bool) → (truth_of M G n e ≡ known_truth b) ↔ ((s : State) → Contains M G n s → truth_in M.entries s e ≡ b)
  reading-complete b =
      let h = truth-complete M.entries (label_of M G n) (proper M G n N A) e few b in
      ((λ k s c. h.0 k s (holds M G n s c)), λ f. h.1 (λ s c. f s (contained M G n s c)))

  pub number-reading-complete : (z : ℤ) → (number_of M G n e ≡ Some z) ↔ ((s : State) → Contains M G n s → number_in M.entries s e ≡ z)
  number-reading-complete z =
      let h = number-complete M.entries (label_of M G n) (proper M G n N A) e few z in
      ((λ k s c. h.0 k s (holds M G n s c)), λ f. h.1 (λ s c. f s (contained M G n s c)))
