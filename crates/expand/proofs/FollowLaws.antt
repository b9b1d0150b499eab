-- B2 as the code tests it: variables, branches and edges of a node whose rows are settled.
-- Assumes nothing.
use Prim.Native.Nat.{ℕ, ◌+◌, ◌*◌, ◌<◌, ◌≤◌}
use native.Mathlib.Nat.{le_refl}
use native.Mathlib.Omega.{arith}
use mathlib.Core.Path.{◌≡◌, refl, sym, ap, ap₂, ◌∙◌}
use mathlib.Core.Bool.{Bool, true, false}
use mathlib.Core.List.{List}
use borrow.Author.Tests.{eq-eqb, ne_eqb}
use lib.ListN.{get_or, length}
use lib.IntN.{ℤ, pos}
use Rattle.folder.specs.Pick.{implies}
use Rattle.folder.specs.Scan.{first_bad}
use Rattle.folder.specs.Fields.{field_limit, u16, signed16}
use Rattle.folder.specs.Contents.{body, field}
use Rattle.folder.proofs.ContentsLaws.{record-whole}
use Rattle.folder.proofs.Decides.{all_same, all_both}
use Rattle.folder.proofs.ScanLaws.{Scanned, all_found, all-passed, first-same, found-le}
use Rattle.whole.specs.Order.{eq_z}
use Rattle.expressions.specs.Reading.{has_bit}
use Rattle.states.proofs.Entries.{entry-number}
use Rattle.model.specs.Limits.{most_expressions}
use Rattle.model.specs.Layout.{variable_count, branch_size}
use Rattle.model.specs.Model.{Model, model_of, first_record}
use Rattle.model.proofs.Chances.{record-there}
use Rattle.model.proofs.Limits.{limits, records-small}
use Rattle.graph.specs.Simulation.{Simulation, node_size, edge_size, edge_at, command_in, node_field, simulation_of}
use Rattle.graph.specs.Labels.{concrete_state}
use Rattle.graph.specs.Rules.{result_is}
use Rattle.graph.proofs.EdgePlaces.{place-next}
use Rattle.expand.specs.Node.{NodeOf, StateSettled, FirstsOf}
use Rattle.expand.specs.Tests.{reads_at, Leads, AllLead, result_at, label_at, variable_follows, branch_follows, branch_at, apart_by}
use Rattle.expand.specs.Follow.{label_flagged, follows_by, successor_by, edge_by, bad_edge_by, bad_record_by, apart_in, second_by, flags_of, FollowedTo}

-- ---- the code's tests of a variable, by their parts
module _ (vars : ℕ) (nb bs : List ℕ) (from to v : ℕ) {e : ℕ} (pe : e ≡ u16 bs (from + 2 + 2 * v)) where
  pub result-tested : (state : List ℤ) {c : ℕ} {concrete value : ℤ} {same : Bool}
      → c ≡ u16 nb (to + 12 + 2 * v) → concrete ≡ signed16 c → value ≡ get_or state e (pos 0) → same ≡ eq_z concrete value
      → same ≡ result_at vars nb bs state from to v
  unfolding result_at
  result-tested state pc ps pv p =
      let i : from + 2 + 2 * v ≡ from + 2 * (1 + v) = omega arith in
      let j : to + 12 + 2 * v ≡ to + 2 * (6 + v) = omega arith in
      rw (p, pv, ps, pc, pe, i, j) refl

  pub label-tested : (known : List ℕ) (state : List ℤ) {set l : ℕ} {label : ℤ} {tracked reading : Bool}
      → l ≡ u16 nb (to + 12 + 2 * vars + 2 * v) → label ≡ signed16 l → set ≡ u16 nb (to + 10) → tracked ≡ has_bit set v → reading ≡ reads_at known state e label
      → implies tracked reading ≡ label_at vars nb bs known state from to v
  unfolding label_at
  label-tested known state pl pa pt pb q =
      let i : from + 2 + 2 * v ≡ from + 2 * (1 + v) = omega arith in
      let k : to + 12 + 2 * vars + 2 * v ≡ to + 2 * (6 + vars + v) = omega arith in
      rw (q, pb, pt, pa, pl, pe, i, k) refl

-- The entry that is assigned has a place in the rows.
pub entry-there : {vars from to : ℕ} {nb bs : List ℕ} → Leads vars nb bs from to → (v : ℕ) → v < vars → {e : ℕ} → e ≡ u16 bs (from + 2 + 2 * v) → e < most_expressions
entry-there {from = from} {bs = bs} leads v l p =
    let i : from + 2 + 2 * v ≡ from + 2 * (1 + v) = omega arith in
    rw (p, i) (leads.entries v l)

-- ---- of an accepted model and a node
module _ {m g : List ℕ} {n : ℕ} (known : List ℕ) {state : List ℤ} (node : NodeOf m g n) (stated : StateSettled m g n state) where
  abbrev M : Model
  M = model_of m

  abbrev G : Simulation
  G = simulation_of M g

  abbrev flags : ℕ → ℕ → ℕ → Bool
  flags = label_flagged M G known state

  module _ (r : ℕ) (l : r < M.records) (s : ℕ) where
    abbrev from : ℕ
    from = branch_size M.variables * r

    abbrev to : ℕ
    to = node_size M.variables * s

    result-is : (v : ℕ) → v < M.variables → result_at M.variables (body g 0) (body m 4) state from to v ≡ result_is M G n r s v
    unfolding result_at result_is field
    result-is v k = let i = (node.model.model.branches r l).number v k in rw (stated.is (M.assigned r v) i.there ∙ entry-number M.entries (concrete_state M G n) (M.assigned r v) i)

    label_is : (v : ℕ) → v < M.variables → label_at M.variables (body g 0) (body m 4) known state from to v ≡ flags r s v
    unfolding label_at label_flagged field
    label_is v k = refl

    branch-is : branch_follows M.variables (body g 0) (body m 4) known state r s ≡ follows_by M G n flags r s
    unfolding branch_follows variable_follows follows_by
    branch-is =
        all_same M.variables (λ v k. rw (result-is v k, label_is v k) refl) ∙ all_both M.variables (result_is M G n r s) (flags r s)

    apart-is : apart_by M.variables (body g 0) (body m 4) known state r s ≡ apart_in M G n flags r s
    unfolding apart_by apart_in
    apart-is = rw (all_same M.variables result-is, first-same _ _ M.variables label_is) refl

  -- Edge e, whose command is there: its first branch that does not follow.
  module _ (e : ℕ) (l : G.command n e < M.commands) where
    branch-first : first_bad (branch_at M.variables (body g 0) (body m 4) known state (body g 1) (first_record M (G.command n e)) (edge_at M g n e)) (M.branches (G.command n e))
        ≡ first_bad (successor_by M G n flags e) (M.branches (G.command n e))
    unfolding branch_at
    branch-first = first-same _ _ (M.branches (G.command n e)) (λ b k.
        branch-is (first_record M (G.command n e) + b) (record-there M node.model.model (G.command n e) b l k) (G.successor n e b))

    branch-apart : (b : ℕ) → b < M.branches (G.command n e)
        → apart_by M.variables (body g 0) (body m 4) known state (first_record M (G.command n e) + b) (G.successor n e b)
        ≡ apart_in M G n flags (first_record M (G.command n e) + b) (G.successor n e b)
    branch-apart b k = apart-is (first_record M (G.command n e) + b) (record-there M node.model.model (G.command n e) b l k) (G.successor n e b)

-- ---- a walk over the edges, and how far it has come
module _ {m g : List ℕ} {n : ℕ} {tells : ℕ → ℕ → ℕ → Bool} {edges e p : ℕ} where
  pub followed-scan : FollowedTo m g n tells e p → edges ≡ node_field (model_of m) g n 4 → Scanned (edge_by (model_of m) (simulation_of (model_of m) g) n tells) edges e
  followed-scan f k = record { within = omega (arith, f.within); passed = all_found _ e f.before }

  pub scan-followed : Scanned (edge_by (model_of m) (simulation_of (model_of m) g) n tells) edges e → edges ≡ node_field (model_of m) g n 4 → p ≡ edge_at (model_of m) g n e → FollowedTo m g n tells e p
  scan-followed s k q = record { within = omega (arith, s.within); before = all-passed _ e (sym s.passed) (le_refl e); stands = q }

-- ---- as the code reads it
-- Edge e of node n, of `edges`, stands at p.
pub record EdgeHere (m g : List ℕ) (n : ℕ) (eb : List ℕ) (edges e p : ℕ) : Type 0 where
  pub edges-in : eb ≡ body g 1
  pub count : edges ≡ node_field (model_of m) g n 4
  pub within : e < edges
  pub stands : p ≡ edge_at (model_of m) g n e

-- Its command has so many branches, whose records stand from `first` on.
pub record EdgeRead (m g : List ℕ) (n : ℕ) (cs eb firsts : List ℕ) (edges e p at first branches : ℕ) : Type 0 where
  pub here : EdgeHere m g n eb edges e p
  pub commands-in : cs ≡ body m 3
  pub same : at ≡ p
  pub starting : first ≡ get_or firsts (command_in eb p) 0
  pub branching : branches ≡ field 4 cs (command_in eb p) 1

-- What the code holds besides: the count of variables, and the bodies of branch records and of nodes.
pub record Held (m g : List ℕ) (vars : ℕ) (bs nb : List ℕ) : Type 0 where
  pub variables : vars ≡ variable_count m
  pub records-in : bs ≡ body m 4
  pub nodes-in : nb ≡ body g 0

module _ {m g : List ℕ} {n : ℕ} {eb : List ℕ} {edges e p : ℕ} (node : NodeOf m g n) (here : EdgeHere m g n eb edges e p) where
  command-is : command_in eb p ≡ (simulation_of (model_of m) g).command n e
  command-is = ap₂ command_in here.edges-in here.stands

  inside : e < node_field (model_of m) g n 4
  inside = omega (arith, here.within, here.count)

  command-there : (simulation_of (model_of m) g).command n e < (model_of m).commands
  command-there = (node.rows.content.edges n node.there e inside).command

  pub first-there : {firsts : List ℕ} → FirstsOf m firsts → command_in eb p < length firsts
  first-there table = omega (arith, command-is, command-there, table.long)

module _ {m g : List ℕ} {n : ℕ} {cs eb firsts : List ℕ} {edges e p at first branches : ℕ} (node : NodeOf m g n) (read : EdgeRead m g n cs eb firsts edges e p at first branches) where
  branches-are : branches ≡ (model_of m).branches ((simulation_of (model_of m) g).command n e)
  branches-are = read.branching ∙ ap₂ (λ (b : List ℕ) (i : ℕ). field 4 b i 1) read.commands-in (command-is node read.here)

  assigned-there : (r : ℕ) → r < (model_of m).records → (v : ℕ) → v < (model_of m).variables → u16 (body m 4) (branch_size (variable_count m) * r + 2 * (1 + v)) < most_expressions
  unfolding field
  assigned-there r l v k = omega (arith, ((node.model.model.branches r l).number v k).there, (limits node.model.folder).expressions)

  pub next-stands : p + (2 + 2 * branches) ≡ edge_at (model_of m) g n (e + 1)
  unfolding edge_size
  next-stands = place-next (model_of m) g n e read.here.edges-in read.here.stands (cc (read.branching, read.commands-in))

  module _ (table : FirstsOf m firsts) where
    first-is : first ≡ first_record (model_of m) ((simulation_of (model_of m) g).command n e)
    first-is = read.starting ∙ ap (λ (i : ℕ). get_or firsts i 0) (command-is node read.here) ∙ table.placed _ (command-there node read.here)

    -- Records are whole, and entries that are assigned are among the model's.
    pub all-lead : {vars : ℕ} {bs nb : List ℕ} → Held m g vars bs nb → AllLead vars nb bs eb first branches at
    all-lead held = rw (first-is, branches-are, held.variables, held.records-in, held.nodes-in, read.here.edges-in, read.same, read.here.stands) (record {
      each = λ b l.
          let r = record-there (model_of m) node.model.model ((simulation_of (model_of m) g).command n e) b (command-there node read.here) l in record {
            branch = record-whole (branch_size (variable_count m)) (body m 4) _ r;
            node = record-whole (node_size (variable_count m)) (body g 0) _ ((node.rows.content.edges n node.there e (inside node read.here)).successors b l);
            entries = λ v k. assigned-there _ r v k;
          };
    })

    pub records-fit : first + branches ≤ field_limit
    records-fit = omega (arith, first-is, branches-are, records-small node.model _ (command-there node read.here))

    -- Where the code found no branch that does not follow, the edge follows, as far as the flags tell; else it does not, and
    -- if the edges before it do, the code has the branch's record and the second place.
    module _ (known : List ℕ) {state : List ℤ} (stated : StateSettled m g n state)
        {vars : ℕ} {bs nb : List ℕ} (held : Held m g vars bs nb) {b : ℕ} (q : b ≡ first_bad (branch_at vars nb bs known state eb first at) branches) where
      abbrev tells : ℕ → ℕ → ℕ → Bool
      tells = flags_of m g known state

      abbrev follow : ℕ → Bool
      follow = successor_by (model_of m) (simulation_of (model_of m) g) n tells e

      abbrev count : ℕ
      count = (model_of m).branches ((simulation_of (model_of m) g).command n e)

      abbrev worst : ℕ
      worst = first_bad follow count

      first-bad : b ≡ worst
      first-bad = q ∙ rw (first-is, branches-are, held.variables, held.records-in, held.nodes-in, read.here.edges-in, read.same, read.here.stands) (branch-first known node stated e (command-there node read.here))

      pub edge-passes : branches ≤ b → true ≡ edge_by (model_of m) (simulation_of (model_of m) g) n tells e
      unfolding edge_by
      edge-passes l = sym (eq-eqb worst count (omega (arith, first-bad, branches-are, found-le follow count first-bad)))

      pub edge-breaks : b < branches → false ≡ edge_by (model_of m) (simulation_of (model_of m) g) n tells e
      unfolding edge_by
      edge-breaks l = sym (ne_eqb worst count (λ h. omega (arith, first-bad, branches-are)))

      module _ (l : b < branches) (h : e ≡ bad_edge_by (model_of m) (simulation_of (model_of m) g) n tells) {r : ℕ} (k : r ≡ first + b) where
        pub branch-found : r ≡ bad_record_by (model_of m) (simulation_of (model_of m) g) n tells
        branch-found = k ∙ rw first-is (rw (first-bad, h) refl)

        pub second-found : {s v : ℕ} → s ≡ u16 eb (p + 2 + 2 * b) → v ≡ apart_by vars nb bs known state r s → v ≡ second_by (model_of m) (simulation_of (model_of m) g) n tells
        second-found i j =
            let a = branch-apart known node stated e (command-there node read.here) b (omega (arith, branches-are)) in
            j ∙ rw (k, i, first-is, held.variables, held.records-in, held.nodes-in, read.here.edges-in, read.here.stands) (a ∙ rw (first-bad, h) refl)
