-- What the tables and rows 12 to 17 give to the rules of one node.
-- Assumes nothing.
use Prim.Native.Nat.{ℕ, ◌+◌, ◌<◌}
use native.Mathlib.Omega.{arith}
use mathlib.Core.Path.{◌≡◌, refl, sym, ap, ◌∙◌}
use mathlib.Core.Bool.{Bool, true, false, ◌&&◌, false≢true}
use mathlib.Core.List.{List, [], ◌∷◌, ◌++◌}
use lib.ListN.{length, get_or, replicate, length-replicate}
use borrow.Author.Tests.{ne_eqb}
use Rattle.folder.specs.Pick.{pick}
use Rattle.folder.specs.Table.{Rule, rule_at, cause, all_rules, first_broken}
use Rattle.folder.specs.declared.Cause.{Cause}
use Rattle.folder.specs.Contents.{body, count_of}
use Rattle.model.specs.Layout.{variable_count}
use Rattle.model.specs.Model.{model_of}
use Rattle.model.specs.Valid.{Valid}
use Rattle.model.proofs.Limits.{limits}
use Rattle.expressions.specs.Entries.{entries_of}
use Rattle.expressions.specs.Mentions.{mentions}
use Rattle.graph.specs.Limits.{most_nodes}
use Rattle.graph.specs.Simulation.{node_size, node_field, node_count, simulation_of}
use Rattle.graph.specs.Rules.{A2, B1, B2}
use Rattle.graph.specs.Valid.{RowsRight}
use Rattle.graph.specs.Walks.{starts_at}
use Rattle.graph.proofs.EdgePlaces.{place-skip}
use Rattle.sums.specs.Tables.{Tables}
use Rattle.folder.specs.Tab.{fill}
use Rattle.folder.proofs.FillLaws.{get_or-everywhere, length-fill}
use Rattle.folder.proofs.ContentsLaws.{field4-past}
use Rattle.labels.specs.Values.{ValueReady}
use Rattle.mentions.specs.Masked.{Written}
use Rattle.mentions.proofs.Masks.{masked}
use Rattle.expand.specs.Node.{NodeOf, FirstsOf, MasksOf}
use Rattle.graph_rules.specs.Ready.{RulesReady, Checked, reading_rules}
use Rattle.std.specs.Prelude.{Result, Ok, Err, MatchResult}

-- ---- a chain of rules: of those of `whole`, those before rs hold
pub record Past (whole rs : List Rule) : Type 0 where
  pub first : first_broken whole ≡ first_broken rs
  pub all : all_rules whole ≡ all_rules rs

pub at-first : (whole : List Rule) → Past whole whole
at-first whole = record { first = refl; all = refl }

pub past-last : {whole : List Rule} → Past whole [] → all_rules whole ≡ true
unfolding all_rules
past-last h = h.all

-- The next rule.
module _ {whole rs : List Rule} {k s : ℕ} {ok : Bool} (h : Past whole (rule_at k ok s ∷ rs)) where
  pub goes-on : ok ≡ true → Past whole rs
  unfolding first_broken all_rules
  goes-on e = record {
    first = h.first ∙ ap (λ (b : Bool). pick b (first_broken rs) (cause k s)) e;
    all = h.all ∙ ap (λ (b : Bool). b && all_rules rs) e;
  }

  pub breaks : {c : Cause} → (ok ≡ false) × (c ≡ cause k s) → (all_rules whole ≡ false) × (c ≡ first_broken whole)
  unfolding first_broken all_rules
  breaks w = (
    h.all ∙ ap (λ (b : Bool). b && all_rules rs) w.0,
    w.1 ∙ sym (h.first ∙ ap (λ (b : Bool). pick b (first_broken rs) (cause k s)) w.0),
  )

-- The next ones, which another function checks.
all-then : (xs ys : List Rule) → all_rules xs ≡ true → Past (xs ++ ys) ys
unfolding first_broken all_rules
all-then [] ys e = at-first ys
all-then (x ∷ xs) ys e = go (all-then xs ys) x.holds refl
  where
    go : (all_rules xs ≡ true → Past (xs ++ ys) ys) → (b : Bool) → x.holds ≡ b → Past (x ∷ (xs ++ ys)) ys
    go f true q = let t = f (rw q at e) in record { first = rw q t.first; all = rw q t.all }
    go f false q = absurd (false≢true (rw q at e))

one-then : (xs ys : List Rule) → all_rules xs ≡ false → (all_rules (xs ++ ys) ≡ false) × (first_broken xs ≡ first_broken (xs ++ ys))
unfolding first_broken all_rules
one-then [] ys e = absurd (false≢true (sym e))
one-then (x ∷ xs) ys e = go (one-then xs ys) x.holds refl
  where
    go : (all_rules xs ≡ false → (all_rules (xs ++ ys) ≡ false) × (first_broken xs ≡ first_broken (xs ++ ys))) → (b : Bool) → x.holds ≡ b → (all_rules (x ∷ (xs ++ ys)) ≡ false) × (first_broken (x ∷ xs) ≡ first_broken (x ∷ (xs ++ ys)))
    go f true q = rw q (f (rw q at e))
    go f false q = rw q (refl, refl)

module _ {whole : List Rule} (xs ys : List Rule) (h : Past whole (xs ++ ys)) where
  pub part-on : all_rules xs ≡ true → Past whole ys
  part-on e = let t = all-then xs ys e in record { first = h.first ∙ t.first; all = h.all ∙ t.all }

  pub part-breaks : {c : Cause} → (all_rules xs ≡ false) × (c ≡ first_broken xs) → (all_rules whole ≡ false) × (c ≡ first_broken whole)
  part-breaks w = let t = one-then xs ys w.0 in (h.all ∙ t.0, w.1 ∙ t.1 ∙ sym h.first)

-- ---- what a rule answers, with its number put to the second place
module _ {A : Type 0} (r : Result A ℕ) (P : A → Type 0) where
  -- It is broken.
  pub second-broken : {ok : Bool} {s : ℕ} (k : ℕ) {c : Cause} → MatchResult r P (λ v. (ok ≡ false) × (v ≡ s)) → (r ≡ Err c.second) × (c ≡ cause k c.second) → (ok ≡ false) × (c ≡ cause k s)
  second-broken k a w = let b = rw w.0 at a in (b.0, w.1 ∙ ap (cause k) b.1)

  -- It holds.
  pub second-holds : (Q : ℕ → Type 0) {x : A} → MatchResult r P Q → r ≡ Ok x → P x
  second-holds Q a e = rw e at a

-- As the last rule of the chain.
pub last-second : {whole : List Rule} (P : ℕ → Type 0) {k s : ℕ} {ok : Bool} → Past whole (rule_at k ok s ∷ []) → (r : Result ℕ ℕ) (q : Result ℕ Cause)
    → MatchResult r (λ x. (ok ≡ true) × P x) (λ v. (ok ≡ false) × (v ≡ s)) → MatchResult q (λ x. r ≡ Ok x) (λ c. (r ≡ Err c.second) × (c ≡ cause k c.second)) → Checked whole P q
last-second P {s = s} {ok = ok} h r (Ok x) a b =
    let w = second-holds r (λ x. (ok ≡ true) × P x) (λ v. (ok ≡ false) × (v ≡ s)) a b in
    (past-last (goes-on h w.0), w.1)
last-second P {k = k} {ok = ok} h r (Err c) a b = breaks h (second-broken r (λ x. (ok ≡ true) × P x) k a b)

-- A2, B1 and B2 ask nothing of a node that is neither expanded nor a target.
pub nothing-asked : (m g : List ℕ) (n : ℕ) {kind : ℕ} → kind ≡ node_field (model_of m) g n 0 → (kind ≡ 1 → ⊥) → (kind ≡ 3 → ⊥) → all_rules (reading_rules m g n) ≡ true
unfolding A2 B1 B2 all_rules
nothing-asked m g n e a b = rw (ne_eqb (node_field (model_of m) g n 0) 1 (λ q. a (e ∙ q)), ne_eqb (node_field (model_of m) g n 0) 3 (λ q. b (e ∙ q))) refl

-- Nor has it edges.
pub no_edges : {m g : List ℕ} {n kind at : ℕ} → NodeOf m g n → kind ≡ node_field (model_of m) g n 0 → (kind ≡ 1 → ⊥) → at ≡ starts_at (model_of m) g n → at ≡ starts_at (model_of m) g (n + 1)
no_edges {m} {g} {n} node k h e = place-skip (model_of m) g n ((node.rows.content.nodes n node.there).edges (λ q. h (k ∙ q))) e

module _ {m g values weights firsts : List ℕ} (r : RulesReady m g values weights firsts) where
  pub node_of : {n : ℕ} → n < node_count (model_of m) g → NodeOf m g n
  node_of l = record { model = r.model; rows = r.rows; there = l }

  pub firsts-of : FirstsOf m firsts
  firsts-of = record { long = r.tables.firsts-long; placed = r.tables.placed }

  pub value-ready : {n at : ℕ} → NodeOf m g n → at ≡ starts_at (model_of m) g n → ValueReady m g values weights firsts n at
  value-ready {n} node e = record {
    model = r.model;
    folder = r.rows.folder;
    here = node.there;
    edges = r.rows.content.edges n node.there;
    tables = r.tables;
    long = r.long;
    starts = e;
  }

-- The row of values: past the last node it has 0, as the folder has.
pub values-there : (m g : List ℕ) → RowsRight (model_of m) g → (size : ℕ) {row : List ℕ}
    → row ≡ fill (node_count (model_of m) g) (simulation_of (model_of m) g).value (replicate size 0) → (λ (k : ℕ). get_or row k 0) ≡ (simulation_of (model_of m) g).value
values-there m g rows size e = λ t k. (ap (λ (r : List ℕ). get_or r k 0) e ∙ get_or-everywhere 0 (node_count (model_of m) g) size (simulation_of (model_of m) g).value
    (λ i l. field4-past (node_size (variable_count m)) (body g 0) i 2 rows.folder.whole l) k) t

-- The tables as they are filled.
pub ready_of : {m g values weights firsts : List ℕ} → Valid m → (rows : RowsRight (model_of m) g) → Tables (model_of m) weights firsts
    → values ≡ fill (node_count (model_of m) g) (simulation_of (model_of m) g).value (replicate most_nodes 0) → RulesReady m g values weights firsts
ready_of {m} {g} {values} valid rows tables e = record {
  model = valid;
  rows = rows;
  tables = tables;
  long = omega (arith, ap length e, length-fill (node_count (model_of m) g) (simulation_of (model_of m) g).value (replicate most_nodes 0) (omega (arith, rows.folder.few, length-replicate {A = ℕ} most_nodes 0)), length-replicate {A = ℕ} most_nodes 0, rows.folder.few);
  valued = values-there m g rows most_nodes e;
}

-- The row of what each entry mentions.
pub written_of : {m b : List ℕ} → Valid m → b ≡ body m 2 → Written (entries_of b)
written_of {m} valid e = rw e (record { variables = (model_of m).variables; few = (limits valid.folder).variables; right = valid.model.entries })

pub masks-of : (m row : List ℕ) {b masks : List ℕ} → b ≡ body m 2 → masks ≡ fill (count_of 8 b) (mentions (entries_of b)) row → MasksOf m masks
masks-of m row e h = masked (entries_of (body m 2)) (count_of 8 (body m 2)) row (rw (← e) h)
