-- What the second place of a refusal says, in words: of 19 the lowest variable that a guard or the target lacks, or none; of
-- 21 the variable whose label does not follow, or none; of every other number 0.
-- Assumes nothing.
use Prim.Native.Nat.{ℕ, ◌<◌, ◌≤◌}
use mathlib.Core.Path.{◌≡◌, refl, sym, ap, ◌∙◌, subst}
use mathlib.Core.Logic.{⊎_elim, ◌≢◌}
use mathlib.Core.Bool.{Bool, true, false, false≢true}
use mathlib.Core.List.{List, [], ◌∷◌}
use native.Mathlib.Decide.{dec_lt}
use native.Mathlib.Omega.{arith}
use borrow.Author.Tests.{lt-ltb, le-ltb, eq-eqb, eqb-true}
use Rattle.folder.specs.Scan.{first_bad, all}
use Rattle.folder.specs.Table.{Row, refusal, refusal_by, group, BrokenAt, Broken, BrokenRule}
use Rattle.folder.specs.declared.Refusal.{Refusal}
use Rattle.folder.specs.declared.Cause.{Cause}
use Rattle.folder.proofs.ScanLaws.{found, stops-below, all_true}
use Rattle.folder.proofs.Decides.{second-fails, implies-fails}
use Rattle.folder.proofs.TableLaws.{Gives, each, over, given, each-rule, rules-end, rule-given, broken-in, first-broken}
use Rattle.expressions.specs.Reading.{is_known}
use Rattle.expressions.specs.Mentions.{lacked}
use Rattle.expressions.specs.Right.{IsTruth}
use Rattle.expressions.specs.ThreeWay.{Truth}
use Rattle.expressions.specs.Combinations.{Proper}
use Rattle.expressions.proofs.States.{truth-misses}
use Rattle.model.specs.Model.{Model, model_of}
use Rattle.model.specs.Table.{model_rows}
use Rattle.model.specs.Valid.{ModelRight}
use Rattle.model.proofs.Decided.{model-asks}
use Rattle.graph.specs.Simulation.{Simulation, simulation_of}
use Rattle.graph.specs.Labels.{label_of, truth_of, reading_of}
use Rattle.graph.specs.Rules.{is_expanded, label_follows, follows, edge_follows, edges_follow, B2}
use Rattle.graph.specs.Table.{first_rows, node_rules, graph_rows, graph_outcome}
use Rattle.graph.specs.Seconds.{open_guard, second19, bad_edge, bad_branch, successor_follows, second_of, second21, LacksVariable, GuardsKnown, Second19, FollowsBelow, result_at, label_at, Second21, Told}
use Rattle.graph.specs.Valid.{NodeRight, ContentRight}
use Rattle.graph.proofs.Decided.{a1-decided, first-ask, refused-first}
use Rattle.graph.proofs.Labelled.{proper}
use Rattle.std.specs.Prelude.{Err, None, Some}

-- ---- readings
unknown-is : (t : Truth) → is_known t ≡ false → t ≡ None
unknown-is (Some true) e = absurd (false≢true (sym e))
unknown-is (Some false) e = absurd (false≢true (sym e))
unknown-is None e = refl

known_is : (t : Truth) → is_known t ≡ true → t ≢ None
known_is t e q = false≢true (sym (ap is_known q) ∙ e)

module _ (M : Model) (G : Simulation) (n : ℕ) where
  -- ---- 19
  guards-before : {c : ℕ} → c ≤ open_guard M G n → GuardsKnown M G n c
  guards-before l k h = known_is _ ((found (λ c. is_known (truth_of M G n (M.guard c))) M.commands).before k (omega arith))

  module _ (right : ModelRight M) (P : Proper (label_of M G n)) where
    lacks : (e : ℕ) → IsTruth M.entries e → truth_of M G n e ≡ None → LacksVariable M G n e (lacked (reading_of M G n e))
    lacks e i o = rw o (truth-misses M.entries (label_of M G n) P e right.entries i o)

    by-guards : G.kind n ≡ 1 → open_guard M G n < M.commands → Second19 M G n (second19 M G n)
    unfolding second19
    by-guards k l =
        let o = unknown-is (truth_of M G n (M.guard (open_guard M G n))) ((found (λ i. is_known (truth_of M G n (M.guard i))) M.commands).broken l) in
        rw (eq-eqb (G.kind n) 1 k, lt-ltb (open_guard M G n) M.commands l)
        (Second19.by-guard (open_guard M G n) (lacked (reading_of M G n (M.guard (open_guard M G n)))) k l (guards-before (omega arith)) o
        (lacks (M.guard (open_guard M G n)) (right.commands (open_guard M G n) l).guard o))

    by-target : (t : Truth) → truth_of M G n M.target ≡ t → (G.kind n ≡ 1 → GuardsKnown M G n M.commands) → Second19 M G n (lacked (reading_of M G n M.target))
    by-target (Some true) e k = rw e (Second19.definite k (known_is _ (ap is_known e)))
    by-target (Some false) e k = rw e (Second19.definite k (known_is _ (ap is_known e)))
    by-target None e k = Second19.by-target _ k e (lacks M.target right.target e)

    pub second-19 : Second19 M G n (second19 M G n)
    unfolding second19
    second-19 = go (is_expanded G n) refl (dec_lt (open_guard M G n) M.commands)
      where
        go : (b : Bool) → is_expanded G n ≡ b → Dec (open_guard M G n < M.commands) → Second19 M G n (second19 M G n)
        go true k (yes l) = by-guards (eqb-true (G.kind n) 1 k) l
        go true k (no h) = rw (k, le-ltb (open_guard M G n) M.commands (omega arith)) (by-target _ refl (λ q. guards-before (omega arith)))
        go false k d = rw k (by-target _ refl (λ q. absurd (false≢true (sym k ∙ eq-eqb (G.kind n) 1 q))))

  -- ---- 21
  module _ (broken : B2 M G n ≡ false) where
    edge-there : bad_edge M G n < G.edges n
    unfolding B2
    edge-there = stops-below (edge_follows M G n) (G.edges n) (implies-fails (is_expanded G n) (edges_follow M G n) broken).1

    branch-there : bad_branch M G n < M.branches (G.command n (bad_edge M G n))
    unfolding edge_follows
    branch-there = stops-below (successor_follows M G n (bad_edge M G n)) _ ((found (edge_follows M G n) (G.edges n)).broken edge-there)

    below : FollowsBelow M G n (bad_edge M G n) (bad_branch M G n)
    below = record {
      edge = edge-there;
      branch = branch-there;
      edges = (found (edge_follows M G n) (G.edges n)).before;
      branches = (found (successor_follows M G n (bad_edge M G n)) _).before;
    }

    not-followed : successor_follows M G n (bad_edge M G n) (bad_branch M G n) ≡ false
    not-followed = (found (successor_follows M G n (bad_edge M G n)) _).broken branch-there

    abbrev result : ℕ → Bool
    result = result_at M G n (bad_edge M G n) (bad_branch M G n)

    abbrev label : ℕ → Bool
    label = label_at M G n (bad_edge M G n) (bad_branch M G n)

    pub second-21 : Second21 M G n (second21 M G n)
    unfolding second21 second_of follows label_follows
    second-21 = go (all result M.variables) refl
      where
        go : (b : Bool) → all result M.variables ≡ b → Second21 M G n (second21 M G n)
        go false e =
            let l = stops-below result M.variables e in
            rw e (Second21.by-concrete _ _ (first_bad result M.variables) below l ((found result M.variables).broken l))
        go true e =
            let l = stops-below label M.variables (second-fails _ _ e not-followed) in
            let h = found label M.variables in
            rw e (Second21.by-label _ _ _ below (all_true result M.variables e) l (implies-fails _ _ (h.broken l)).0 (h.broken l) h.before)

-- ---- of a whole answer
-- A table of one row is broken in it.
last-broken : {r : Row} {f : Refusal} → Broken (r ∷ []) f → BrokenAt r f
last-broken (Broken.here b) = b
last-broken {r = r} {f = f} (Broken.later _ x8) = elim x8 [ ]

module _ (M : Model) (G : Simulation) where
  -- A row of another number gives no second place.
  plain : (k p : ℕ) → k ≢ 19 → k ≢ 21 → Told M G (refusal k p)
  plain k p a b = record { by-reading = λ e. absurd (a e); by-successor = λ e. absurd (b e); otherwise = λ x y. refl }

  of-19 : (n : ℕ) → ModelRight M → Proper (label_of M G n) → Told M G (refusal_by (record { number = 19; second = second19 M G n }) n)
  of-19 n right P = record { by-reading = λ e. second-19 M G n right P; by-successor = λ e. absurd (omega arith); otherwise = λ x y. absurd (x refl) }

  of-21 : (n : ℕ) → B2 M G n ≡ false → Told M G (refusal_by (record { number = 21; second = second21 M G n }) n)
  of-21 n e = record { by-reading = λ h. absurd (omega arith); by-successor = λ h. second-21 M G n e; otherwise = λ x y. absurd (y refl) }

  other : (k p : ℕ) → k < 19 → Told M G (refusal k p)
  other k p l = plain k p (λ e. omega arith) (λ e. omega arith)

  -- A node's rules: 19 comes where row 15 and 18 of that node hold, so that its label is proper.
  node-told : ModelRight M → (n : ℕ) → NodeRight M G n → {c : Cause} → BrokenRule (node_rules M G n) c → Told M G (refusal_by c n)
  node-told right n N (BrokenRule.here e) = other 18 n (omega arith)
  node-told right n N (BrokenRule.later a1 b) = rule-given {P = λ c. Told M G (refusal_by c n)}
      (each-rule (λ e. of-19 n right (proper M G n N ((a1-decided M G n).yes a1)))
      (each-rule (λ e. plain 20 n (λ h. omega arith) (λ h. omega arith))
      (each-rule (λ e. of-21 n e)
      (each-rule (λ e. plain 22 n (λ h. omega arith) (λ h. omega arith))
      (each-rule (λ e. plain 23 n (λ h. omega arith) (λ h. omega arith))
      (each-rule (λ e. plain 24 n (λ h. omega arith) (λ h. omega arith))
      (each-rule (λ e. plain 25 n (λ h. omega arith) (λ h. omega arith)) rules-end))))))) b

  rules-told : ModelRight M → ContentRight M G → {f : Refusal} → BrokenAt (group G.nodes (node_rules M G)) f → Told M G f
  rules-told right K b =
      subst (Told M G) b.gives (node-told right b.at (K.nodes b.at b.place) (first-broken (node_rules M G b.at) b.broken))

module _ (m g : List ℕ) where
  abbrev M : Model
  M = model_of m

  abbrev G : Simulation
  G = simulation_of M g

  abbrev ToldOf : Refusal → Type 0
  ToldOf = Told M G

  first-told : (k p : ℕ) → k < 19 → ToldOf (refusal k p)
  first-told = other M G

  model-told : Gives ToldOf (model_rows m)
  model-told =
      each (λ p e. first-told 1 0 (omega arith))
      (each (λ p e. first-told 2 p (omega arith))
      (each (λ p e. first-told 3 p (omega arith))
      (each (λ p e. first-told 4 p (omega arith))
      (each (λ p e. first-told 5 p (omega arith))
      (each (λ p e. first-told 6 p (omega arith))
      (each (λ p e. first-told 7 p (omega arith))
      (each (λ p e. first-told 8 p (omega arith))
      (each (λ p e. first-told 9 0 (omega arith))
      (each (λ p e. first-told 10 p (omega arith))
      (each (λ p e. first-told 11 p (omega arith)) over))))))))))

  rows_told : Gives ToldOf (first_rows M g)
  rows_told =
      each (λ p e. first-told 12 0 (omega arith))
      (each (λ p e. first-told 13 p (omega arith))
      (each (λ p e. first-told 14 0 (omega arith))
      (each (λ p e. first-told 15 p (omega arith))
      (each (λ p e. first-told 16 p (omega arith))
      (each (λ p e. first-told 17 0 (omega arith)) over)))))

  -- The rows of the graph, where the model's hold.
  graph-told : ModelRight M → {f : Refusal} → Broken (graph_rows M g) f → ToldOf f
  graph-told right b =
      ⊎_elim (λ c. given rows_told c) (λ h. rules-told M G right ((first-ask M g).0 h.0).content (last-broken h.1)) (broken-in (first_rows M g) b)

  -- Request 2.2: both places of every refusal of the graph check.
  pub second-told : (f : Refusal) → graph_outcome m g ≡ Err f → ToldOf f
  second-told f e =
      ⊎_elim (λ b. given model-told b) (λ h. graph-told ((model-asks m).0 h.0).model h.1) (broken-in (model_rows m) (refused-first m g f e))
