use Prim.Native.Nat.{ℕ}
use Rattle.std.proofs.Common.{◌≡◌, true, sym, ap, ◌∙◌}
use Rattle.std.proofs.lemmas.Result.{err_from_is_err_and}
use mathlib.Core.Bool.{Bool}
use mathlib.Core.List.{List}
use lib.ListN.{drop}
use Rattle.folder.specs.Table.{Rule, all_rules}
use Rattle.model.specs.Model.{Model, model_of}
use Rattle.graph.specs.Simulation.{Simulation, simulation_of}
use Rattle.graph.specs.Rules.{A1, C3, C1, C2, value_rule}
use Rattle.graph.specs.Table.{node_rules}
use Rattle.graph.proofs.RowLaws.{few-enough}
use Rattle.graph_rules.specs.Ready.{reading_rules, cover_rules}
use Rattle.graph_rules.proofs.NodeLaws.{Past, at-first, goes-on, breaks, part-on, part-breaks, past-last, firsts-of, value-ready}
use Rattle.graph_rules.proofs.node_rules.Goals as goal

-- The rules of the node that hold, one after the other.
module _ (m g : List ℕ) (n : ℕ) where
  abbrev M : Model
  M = model_of m

  abbrev G : Simulation
  G = simulation_of M g

  abbrev whole : List Rule
  whole = node_rules M G n

  abbrev valued : (ℕ → ℕ) → Bool
  valued v = value_rule M G v n

  past1 : A1 M G n ≡ true → Past whole (drop 1 whole)
  past1 h = goes-on (at-first whole) h

  past4 : A1 M G n ≡ true → all_rules (reading_rules m g n) ≡ true → Past whole (drop 4 whole)
  past4 h r = part-on (reading_rules m g n) (cover_rules m g n) (past1 h) r

  past5 : A1 M G n ≡ true → all_rules (reading_rules m g n) ≡ true → C3 M G n ≡ true → Past whole (drop 5 whole)
  past5 h r a = goes-on (past4 h r) a

  past6 : A1 M G n ≡ true → all_rules (reading_rules m g n) ≡ true → C3 M G n ≡ true → C1 M G n ≡ true → Past whole (drop 6 whole)
  past6 h r a b = goes-on (past5 h r a) b

  past7 : A1 M G n ≡ true → all_rules (reading_rules m g n) ≡ true → C3 M G n ≡ true → C1 M G n ≡ true → C2 M G n ≡ true → Past whole (drop 7 whole)
  past7 h r a b d = goes-on (past6 h r a b) d

pub a1-requires : goal.a1-requires
a1-requires c = few-enough c.requires.node_of.model.folder c.requires.node_of.rows.folder c.requires.node_of.there

pub c3-requires : goal.c3-requires
c3-requires c = few-enough c.requires.node_of.model.folder c.requires.node_of.rows.folder c.requires.node_of.there

pub c1-requires : goal.c1-requires
c1-requires c = few-enough c.requires.node_of.model.folder c.requires.node_of.rows.folder c.requires.node_of.there

pub c2-requires : goal.c2-requires
c2-requires c = few-enough c.requires.node_of.model.folder c.requires.node_of.rows.folder c.requires.node_of.there

pub reading_rules-requires : goal.reading_rules-requires
reading_rules-requires c = record { node_of = c.requires.node_of; n_value = sym c.a1.ensures ∙ c.in_ok-rule.ensures; at_value = c.requires.at_value; firsts_of = firsts-of c.requires.rules_ready; masks_of = c.requires.masks_of }

pub value_rule-requires : goal.value_rule-requires
value_rule-requires c = value-ready c.requires.rules_ready c.requires.node_of c.requires.at_value

pub returns-in_err-rule : goal.returns-in_err-rule
returns-in_err-rule c =
    let p = err_from_is_err_and c.from_residual.result c.from_residual.ensures.1 in
    rw (p.1, p.2) (breaks (at-first _) (sym c.a1.ensures ∙ c.in_err-rule.ensures.0, c.in_err-rule.ensures.1))

pub returns-in_err-next : goal.returns-in_err-next
returns-in_err-next c =
    let p = err_from_is_err_and c.from_residual-in_err-next.result c.from_residual-in_err-next.ensures.1 in
    rw (p.1, p.2) (part-breaks (reading_rules c.args.m.now c.args.g.now c.args.n) (cover_rules c.args.m.now c.args.g.now c.args.n) (past1 c.args.m.now c.args.g.now c.args.n (sym c.a1.ensures ∙ c.in_ok-rule.ensures)) c.in_err-next.ensures)

pub returns-in_err-rule-2 : goal.returns-in_err-rule-2
returns-in_err-rule-2 c =
    let p = err_from_is_err_and c.from_residual-in_err-rule-2.result c.from_residual-in_err-rule-2.ensures.1 in
    rw (p.1, p.2) (breaks (past4 c.args.m.now c.args.g.now c.args.n (sym c.a1.ensures ∙ c.in_ok-rule.ensures) c.in_ok-next.ensures.0) (sym c.c3.ensures ∙ c.in_err-rule-2.ensures.0, c.in_err-rule-2.ensures.1))

pub returns-in_err-rule-3 : goal.returns-in_err-rule-3
returns-in_err-rule-3 c =
    let p = err_from_is_err_and c.from_residual-in_err-rule-3.result c.from_residual-in_err-rule-3.ensures.1 in
    rw (p.1, p.2) (breaks (past5 c.args.m.now c.args.g.now c.args.n (sym c.a1.ensures ∙ c.in_ok-rule.ensures) c.in_ok-next.ensures.0 (sym c.c3.ensures ∙ c.in_ok-rule-2.ensures)) (sym c.c1.ensures ∙ c.in_err-rule-3.ensures.0, c.in_err-rule-3.ensures.1))

pub returns-in_err-rule-4 : goal.returns-in_err-rule-4
returns-in_err-rule-4 c =
    let p = err_from_is_err_and c.from_residual-in_err-rule-4.result c.from_residual-in_err-rule-4.ensures.1 in
    rw (p.1, p.2) (breaks (past6 c.args.m.now c.args.g.now c.args.n (sym c.a1.ensures ∙ c.in_ok-rule.ensures) c.in_ok-next.ensures.0 (sym c.c3.ensures ∙ c.in_ok-rule-2.ensures) (sym c.c1.ensures ∙ c.in_ok-rule-3.ensures)) (sym c.c2.ensures ∙ c.in_err-rule-4.ensures.0, c.in_err-rule-4.ensures.1))

pub returns-in_err-rule-5 : goal.returns-in_err-rule-5
returns-in_err-rule-5 c =
    let p = err_from_is_err_and c.from_residual-in_err-rule-5.result c.from_residual-in_err-rule-5.ensures.1 in
    rw (p.1, p.2) (breaks (past7 c.args.m.now c.args.g.now c.args.n (sym c.a1.ensures ∙ c.in_ok-rule.ensures) c.in_ok-next.ensures.0 (sym c.c3.ensures ∙ c.in_ok-rule-2.ensures) (sym c.c1.ensures ∙ c.in_ok-rule-3.ensures) (sym c.c2.ensures ∙ c.in_ok-rule-4.ensures)) (sym (c.value_rule.ensures ∙ ap (valued c.args.m.now c.args.g.now c.args.n) c.requires.rules_ready.valued) ∙ c.in_err-rule-5.ensures.0, c.in_err-rule-5.ensures.1))

pub returns : goal.returns
returns c = (past-last (goes-on (past7 c.args.m.now c.args.g.now c.args.n (sym c.a1.ensures ∙ c.in_ok-rule.ensures) c.in_ok-next.ensures.0 (sym c.c3.ensures ∙ c.in_ok-rule-2.ensures) (sym c.c1.ensures ∙ c.in_ok-rule-3.ensures) (sym c.c2.ensures ∙ c.in_ok-rule-4.ensures)) (sym (c.value_rule.ensures ∙ ap (valued c.args.m.now c.args.g.now c.args.n) c.requires.rules_ready.valued) ∙ c.in_ok-rule-5.ensures)), c.in_ok-next.ensures.1)
