-- The walk over the commands, their branch records and the children.
-- Assumes nothing.
use Rattle.std.specs.Prelude.{Option}
use Prim.Native.Nat.{ℕ, ◌+◌, ◌<◌, ◌≤◌}
use mathlib.Core.Path.{◌≡◌, refl, ap, ◌∙◌}
use mathlib.Core.Bool.{Bool, true, false}
use mathlib.Core.List.{List}
use native.Mathlib.Omega.{arith}
use lib.IntN.{ℤ, pos}
use Rattle.mdp.proofs.SumLaws.{sum_more, sum-next}
use Rattle.folder.specs.Pick.{pick}
use Rattle.folder.specs.Fields.{field_limit}
use Rattle.folder.specs.Contents.{body, field}
use Rattle.whole.specs.Order.{eq_z}
use Rattle.expressions.specs.Meaning.{truth_in}
use Rattle.states.proofs.Entries.{truth-back, entry-truth}
use Rattle.model.specs.Limits.{most_records}
use Rattle.model.specs.Model.{Model, model_of, first_record}
use Rattle.model.proofs.Limits.{records-small}
use Rattle.building.specs.First.{given, first}
use Rattle.building.specs.Building.{enabled, before}
use Rattle.held.specs.Held.{child_field, node_in, state_in}
use Rattle.nodes.specs.Born.{on_in}
use Rattle.wants.specs.Wants.{result_in, branches_in, children_end, ReadBy, AllRead, NodeRead}

-- None of a command that is not enabled.
first-picked : {A : Type 0} (b : Bool) (k : ℕ) (f : ℕ → Option A) → first (pick b k 0) f ≡ given b (first k f)
unfolding given first
first-picked true k f = refl
first-picked false k f = refl

-- r branch records are before command c, and k is its first child.
pub record Stepped (m nb : List ℕ) (n c r k : ℕ) : Type 0 where
  pub records : r ≡ first_record (model_of m) c
  pub children : k ≡ node_in m nb n child_field + before (model_of m) (state_in m nb n) c

pub step_start : (m nb : List ℕ) (n : ℕ) {k : ℕ} → k ≡ node_in m nb n child_field → Stepped m nb n 0 0 k
step_start m nb n e = record { records = refl; children = omega (arith, e) }

-- The walk came to its end.
pub step-over : (m nb : List ℕ) (n : ℕ) {c r k : ℕ} → Stepped m nb n c r k → c ≡ (model_of m).commands → k ≡ children_end m nb n
step-over m nb n s e = s.children ∙ ap (λ (i : ℕ). node_in m nb n child_field + before (model_of m) (state_in m nb n) i) e

-- At command c.
module _ {m nb : List ℕ} {n : ℕ} {masks known : List ℕ} {state : List ℤ} (read : NodeRead m nb n masks known state) {c r k : ℕ} (s : Stepped m nb n c r k) (l : c < (model_of m).commands)
    {cs : List ℕ} (q : cs ≡ body m 3) {branches : ℕ} (p : branches ≡ field 4 cs c 1) where
  abbrev M : Model
  M = model_of m

  branches-are : branches ≡ M.branches c
  branches-are = p ∙ ap (λ (b : List ℕ). field 4 b c 1) q

  pub few-records : r + branches ≤ most_records
  few-records = omega (arith, s.records, branches-are, records-small read.node.model c l)

  module _ {on : Bool} (o : on ≡ on_in cs state c) {count : ℕ} (e : count ≡ pick on branches 0) (few : count ≤ branches) where
    on-is : on ≡ enabled M (state_in m nb n) c
    unfolding on_in
    on-is =
        let i = (read.node.model.model.commands c l).guard in
        o ∙ ap (λ (b : List ℕ). on_in b state c) q
        ∙ ap (λ (z : ℤ). eq_z z (pos 1)) (read.stated.is (M.guard c) i.there ∙ entry-truth M.entries (state_in m nb n) (M.guard c) i)
        ∙ truth-back (truth_in M.entries (state_in m nb n) (M.guard c))

    count-is : count ≡ pick (enabled M (state_in m nb n) c) (M.branches c) 0
    count-is = e ∙ (λ i. pick (on-is i) (branches-are i) 0)

    pub step-next : Stepped m nb n (c + 1) (r + branches) (k + count)
    step-next = record {
      records = sum-next c M.branches s.records branches-are;
      children = omega (arith, s.children, sum-next c (λ i. pick (enabled M (state_in m nb n) i) (M.branches i) 0) {a = before M (state_in m nb n) c} refl count-is);
    }

    pub records-there : r + count ≤ M.records
    records-there = omega (arith, s.records, branches-are, read.node.model.model.records, sum_more M.commands M.branches c l)

    pub children-there : children_end m nb n ≤ field_limit → k + count ≤ field_limit
    children-there h = omega (arith, s.children, count-is, sum_more M.commands (λ i. pick (enabled M (state_in m nb n) i) (M.branches i) 0) c l)

    pub children-read : AllRead m nb n → (b : ℕ) → b < count → ReadBy m nb n (k + b) (r + b)
    children-read all b h = go (enabled M (state_in m nb n) c) refl
      where
        go : (t : Bool) → enabled M (state_in m nb n) c ≡ t → ReadBy m nb n (k + b) (r + b)
        go true t = rw (s.children, s.records) (all.each c l t b (omega (arith, branches-are)))
        go false t = absurd (let z : count ≡ 0 = count-is ∙ ap (λ (a : Bool). pick a (M.branches c) 0) t in omega arith)

    pub walked : {w : Option ℕ} → w ≡ first count (λ b. result_in m nb n (k + b) (r + b)) → w ≡ given (enabled M (state_in m nb n) c) (branches_in m nb n c)
    walked h =
        h ∙ (λ i. first (count-is i) (λ b. result_in m nb n (s.children i + b) (s.records i + b)))
        ∙ first-picked (enabled M (state_in m nb n) c) (M.branches c) (λ b. result_in m nb n (node_in m nb n child_field + before M (state_in m nb n) c + b) (first_record M c + b))
