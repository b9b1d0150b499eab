-- Look-ups in the slots of all nodes, and a visit of a node, as the code makes them.
-- Assumes nothing.
use Prim.Native.Nat.{ℕ, ◌+◌, ◌-◌, ◌*◌, ◌≤◌, ◌<◌}
use mathlib.Core.Path.{◌≡◌, refl, sym, ap, ◌∙◌, subst}
use mathlib.Core.Bool.{true, false, not}
use mathlib.Core.List.{List}
use native.Mathlib.Nat.{add-sub_cancel_left}
use native.Mathlib.Omega.{arith}
use borrow.Author.Tests.{eq-eqb, ne_eqb}
use lib.ListN.{length, get_or, set, take, drop, replicate, length-take, length-drop, length-replicate}
use lib.IntN.{ℤ}
use Rattle.folder.specs.Pick.{pick}
use Rattle.folder.specs.Contents.{field}
use Rattle.graph.specs.Simulation.{node_size}
use Rattle.slots.specs.Slots.{no_node}
use Rattle.slots.specs.Nodes.{label_in, stop_in}
use Rattle.slots.proofs.Probing.{finds}
use Rattle.index.specs.Twins.{state_at}
use Rattle.index.specs.Ready.{nodes_in, uncovered_in, lowest_in, listed_in, Indexed, Seen}
use Rattle.index.proofs.TwinLaws.{Own, lowest-own, listed-not, seen_covered, first-listed, seen_first, again-listed, seen-again}

-- The front of a row of k equal elements.
pub prefix-long : {A : Type 0} (n k : ℕ) (x : A) → n ≤ k → length (take n (replicate k x)) ≡ n
prefix-long n k x l = simp (length-take, length-replicate) (omega arith)

module _ (vars : ℕ) (nb : List ℕ) {hashes : List ℕ} (slots : List ℕ) (h : Indexed vars nb hashes slots) where
  found_in : (x : List ℤ) → get_or slots (stop_in vars nb slots x) no_node ≡ lowest_in vars nb x
  found_in x = finds (length slots) (label_in vars nb) (omega (arith, h.fit)) (nodes_in vars nb) h.fit (omega (arith, h.nodes-few)) h.is x

  -- State k of the batch, as the part of it from a on.
  module _ (batch : List ℤ) (k : ℕ) (l : vars * k + vars ≤ length batch) where
    abbrev part : List ℤ
    part = take (vars * k + vars - vars * k) (drop (vars * k) batch)

    part-is : part ≡ state_at vars batch k
    part-is = rw (add-sub_cancel_left (vars * k) vars) refl

    pub part-long : length part ≡ vars
    part-long = ap length part-is ∙ simp (length-take, length-drop) (omega arith)

    pub answer-is : {r : ℕ} → r ≡ get_or slots (stop_in (length part) nb slots part) no_node → r ≡ lowest_in vars nb (state_at vars batch k)
    answer-is e = e ∙ rw part-long (found_in part ∙ ap (lowest_in vars nb) part-is)

  -- The lowest node with the label of node n.
  pub own_in : (n : ℕ) → n < nodes_in vars nb → {r : ℕ} → r ≡ get_or slots (stop_in vars nb slots (label_in vars nb n)) no_node → Own (label_in vars nb) (nodes_in vars nb) n r
  own_in n l e =
      let q = e ∙ found_in (label_in vars nb n) in
      subst (λ (r : ℕ). Own (label_in vars nb) (nodes_in vars nb) n r) (sym q) (lowest-own (label_in vars nb) (nodes_in vars nb) n l)

-- ---- a visit of node n, whose kind is the one that the code reads
module _ (vars : ℕ) (nb : List ℕ) (n : ℕ) {seen : List ℕ} (h : Seen vars nb n seen) (count : ℕ) (listing : List ℕ) {size kind : ℕ} (s : size ≡ node_size vars)
    (k : kind ≡ field size nb n 0) where
  -- What it answers and leaves: how many are listed, the listing and the marks.
  abbrev Visited : ℕ → List ℕ → List ℕ → Type 0
  Visited more after marks =
      (more ≡ pick (listed_in vars nb n) (count + 1) count) × ((after ≡ pick (listed_in vars nb n) (set listing count n) listing) × Seen vars nb (n + 1) marks)

  kind-is : kind ≡ field (node_size vars) nb n 0
  kind-is = k ∙ ap (λ (z : ℕ). field z nb n 0) s

  pub visit-covered : kind ≡ 2 → Visited count listing seen
  visit-covered e =
      let f : uncovered_in vars nb n ≡ false = ap not (eq-eqb _ _ (sym kind-is ∙ e)) in
      let t : listed_in vars nb n ≡ false = listed-not (label_in vars nb) (uncovered_in vars nb) n f in
      (rw t refl, (rw t refl, seen_covered vars nb h f))

  module _ (e : kind ≡ 2 → ⊥) {r : ℕ} (o : Own (label_in vars nb) (nodes_in vars nb) n r) where
    uncovered-is : uncovered_in vars nb n ≡ true
    uncovered-is = ap not (ne_eqb _ _ (λ q. e (kind-is ∙ q)))

    pub mark-in : r < length seen
    mark-in = omega (arith, o.small, h.long)

    pub visit-first : get_or seen r 0 ≡ 0 → Visited count listing (set seen r 1)
    visit-first z =
        let t = first-listed vars nb h uncovered-is o z in
        (rw t refl, (rw t refl, seen_first vars nb h uncovered-is o z))

    pub visit-again : (get_or seen r 0 ≡ 0 → ⊥) → Visited (count + 1) (set listing count n) seen
    visit-again z =
        let t = again-listed vars nb h uncovered-is o z in
        (rw t refl, (rw t refl, seen-again vars nb h uncovered-is o z))
