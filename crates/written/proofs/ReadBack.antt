-- A graph written as bytes reads back as the same graph.
-- Assumes nothing.
use Prim.Native.Nat.{ℕ, zero, suc, ◌+◌, ◌*◌, ◌/◌, ◌%◌, ◌<◌, ◌≤◌}
use mathlib.Core.Path.{◌≡◌, refl, sym, ap, ◌∙◌}
use mathlib.Core.List.{List, ◌++◌}
use native.Mathlib.Nat.{le_refl, div-eq_of_eq-mul_right, mod-lt}
use native.Mathlib.Omega.{arith}
use borrow.Author.Tests.{le-leb, eq-eqb}
use lib.ListN.{length, get_or, length-append, get_or-append}
use lib.Seq.{get_or-append-add}
use Rattle.folder.specs.Fields.{field_limit, field4_limit, u16, u32, signed16}
use Rattle.folder.specs.Contents.{body, count_of, field, field4}
use Rattle.folder.specs.Tab.{tab}
use Rattle.folder.proofs.TabLaws.{length-tab, get_or-tab}
use Rattle.model.specs.Model.{Model}
use Rattle.model.specs.Pedal.{fields}
use Rattle.graph.specs.Simulation.{Simulation, node_size, edge_size, edge_after, edges_start, edge_whole, node_field, edge_at, node_count, simulation_of}
use Rattle.written.specs.Same.{Same}
use Rattle.written.specs.Bytes.{chain, node_fields, edge_fields, edges_fields, node_body, edge_body, graph_bytes}
use Rattle.written.proofs.FieldLaws.{length_fields, u16-fields, chain-within, chain-at, chain-suc, chain-wide, word_back, high_small}
use Rattle.put.specs.Put.{unsigned, FitsField}
use Rattle.put.proofs.PutLaws.{unsigned_small, signed_back}
use Rattle.written.proofs.FolderLaws.{body-0, body-1}

-- Everything fits its field, and the folder is short enough for its contents.
pub record Fitting (M : Model) (G : Simulation) : Type 0 where
  pub kind : (n : ℕ) → n < G.nodes → G.kind n < field_limit
  pub cover : (n : ℕ) → n < G.nodes → G.cover n < field_limit
  pub value : (n : ℕ) → n < G.nodes → G.value n < field4_limit
  pub edges : (n : ℕ) → n < G.nodes → G.edges n < field_limit
  pub tracked : (n : ℕ) → n < G.nodes → G.tracked n < field_limit
  pub concrete : (n : ℕ) → n < G.nodes → (v : ℕ) → v < M.variables → FitsField (G.concrete n v)
  pub label : (n : ℕ) → n < G.nodes → (v : ℕ) → v < M.variables → FitsField (G.label n v)
  pub command : (n : ℕ) → n < G.nodes → (e : ℕ) → e < G.edges n → G.command n e < field_limit
  pub successor : (n : ℕ) → n < G.nodes → (e : ℕ) → e < G.edges n → (b : ℕ) → b < M.branches (G.command n e) → G.successor n e b < field_limit
  pub short : length (graph_bytes M G) < field4_limit

-- ---- how long the node body is
module _ (M : Model) (G : Simulation) where
  abbrev width : ℕ
  width = 6 + (M.variables + M.variables)

  values-long : (n : ℕ) → length (tab M.variables (λ v. unsigned (G.concrete n v)) ++ tab M.variables (λ v. unsigned (G.label n v))) ≡ M.variables + M.variables
  values-long n = rw (length-append, length-tab M.variables (λ v. unsigned (G.concrete n v)), length-tab M.variables (λ v. unsigned (G.label n v)))

  node_wide : (n : ℕ) → length (node_fields M G n) ≡ width
  node_wide n = omega (arith, values-long n)

  nodes-long : (n : ℕ) → length (chain n (node_fields M G)) ≡ width * n
  nodes-long n = chain-wide (node_fields M G) width n node_wide

  pub bytes-long : length (fields (node_body M G)) ≡ node_size M.variables * G.nodes
  bytes-long = length_fields (node_body M G) ∙ omega (arith, nodes-long G.nodes)

module _ (M : Model) (G : Simulation) (F : Fitting M G) where
  abbrev g : List ℕ
  g = graph_bytes M G

  node-bytes : body g 0 ≡ fields (node_body M G)
  unfolding graph_bytes
  node-bytes = body-0 (fields (node_body M G)) (fields (edge_body M G)) F.short

  pub edge-bytes : body g 1 ≡ fields (edge_body M G)
  unfolding graph_bytes
  edge-bytes = body-1 (fields (node_body M G)) (fields (edge_body M G)) F.short

  -- ---- nodes
  count-is : node_count M g ≡ G.nodes
  unfolding count_of
  count-is = rw node-bytes (div-eq_of_eq-mul_right {n = node_size M.variables} (omega arith) (bytes-long M G))

  module _ (n : ℕ) (l : n < G.nodes) where
    node-field : (j : ℕ) → j < width M G → get_or (node_fields M G n) j 0 < field_limit → node_field M g n j ≡ get_or (node_fields M G n) j 0
    unfolding field
    node-field j h s =
        let p : node_size M.variables * n + 2 * j ≡ 2 * (length (chain n (node_fields M G)) + j) = omega (arith, nodes-long M G n) in
        let q : get_or (node_body M G) (length (chain n (node_fields M G)) + j) 0 ≡ get_or (node_fields M G n) j 0 = chain-at (node_fields M G) G.nodes n j l (omega (arith, node_wide M G n)) in
        rw (node-bytes, p) (u16-fields (node_body M G) (length (chain n (node_fields M G)) + j) (rw q s) ∙ q)

    -- The fields from the sixth on.
    later : (v : ℕ) → get_or (node_fields M G n) (6 + v) 0 ≡ get_or (tab M.variables (λ v. unsigned (G.concrete n v)) ++ tab M.variables (λ v. unsigned (G.label n v))) v 0
    later v = let e : 6 + v ≡ suc (suc (suc (suc (suc (suc v))))) = omega arith in rw e refl

    concrete-field : (v : ℕ) → v < M.variables → get_or (node_fields M G n) (6 + v) 0 ≡ unsigned (G.concrete n v)
    concrete-field v h =
        later v
        ∙ get_or-append (tab M.variables (λ v. unsigned (G.concrete n v))) (tab M.variables (λ v. unsigned (G.label n v))) 0 v (rw (length-tab M.variables (λ v. unsigned (G.concrete n v))) h)
        ∙ get_or-tab 0 M.variables (λ v. unsigned (G.concrete n v)) v h

    label-field : (v : ℕ) → v < M.variables → get_or (node_fields M G n) (6 + M.variables + v) 0 ≡ unsigned (G.label n v)
    label-field v h =
        let e : 6 + M.variables + v ≡ 6 + (length (tab M.variables (λ v. unsigned (G.concrete n v))) + v) = omega (arith, length-tab M.variables (λ v. unsigned (G.concrete n v))) in
        ap (λ (i : ℕ). get_or (node_fields M G n) i 0) e
        ∙ later (length (tab M.variables (λ v. unsigned (G.concrete n v))) + v)
        ∙ get_or-append-add (tab M.variables (λ v. unsigned (G.concrete n v))) (tab M.variables (λ v. unsigned (G.label n v))) v 0
        ∙ get_or-tab 0 M.variables (λ v. unsigned (G.label n v)) v h

    concrete-back : (v : ℕ) → v < M.variables → signed16 (node_field M g n (6 + v)) ≡ G.concrete n v
    concrete-back v h =
        ap signed16 (node-field (6 + v) (omega arith) (rw (concrete-field v h) (unsigned_small (G.concrete n v) (F.concrete n l v h))) ∙ concrete-field v h)
        ∙ signed_back (G.concrete n v) (F.concrete n l v h)

    label-back : (v : ℕ) → v < M.variables → signed16 (node_field M g n (6 + M.variables + v)) ≡ G.label n v
    label-back v h =
        ap signed16 (node-field (6 + M.variables + v) (omega arith) (rw (label-field v h) (unsigned_small (G.label n v) (F.label n l v h))) ∙ label-field v h)
        ∙ signed_back (G.label n v) (F.label n l v h)

    value-back : (simulation_of M g).value n ≡ G.value n
    unfolding field4 u32 field
    value-back =
        let low : field (node_size M.variables) (body g 0) n 2 ≡ G.value n % field_limit = node-field 2 (omega arith) (mod-lt (G.value n) (omega arith)) in
        let high : field (node_size M.variables) (body g 0) n 3 ≡ G.value n / field_limit = node-field 3 (omega arith) (high_small (G.value n) (F.value n l)) in
        let e : node_size M.variables * n + 2 * 2 + 2 ≡ node_size M.variables * n + 2 * 3 = omega arith in
        rw e (rw (low, high) (word_back (G.value n)))

  -- ---- edges: where they stand, in fields
  abbrev es : List ℕ
  es = fields (edge_body M G)

  abbrev place : ℕ → ℕ
  place n = length (chain n (edges_fields M G))

  abbrev edge_place : ℕ → ℕ → ℕ
  edge_place n e = place n + length (chain e (edge_fields M G n))

  edge-wide : (n e : ℕ) → length (edge_fields M G n e) ≡ suc (M.branches (G.command n e))
  edge-wide n e = ap suc (length-tab (M.branches (G.command n e)) (G.successor n e))

  module _ (n : ℕ) (l : n < G.nodes) where
    module _ (e : ℕ) (h : e < G.edges n) where
      edge-field : (j : ℕ) → j < length (edge_fields M G n e) → get_or (edge_body M G) (edge_place n e + j) 0 ≡ get_or (edge_fields M G n e) j 0
      edge-field j q =
          let a : edge_place n e + j ≡ place n + (length (chain e (edge_fields M G n)) + j) = omega arith in
          ap (λ (i : ℕ). get_or (edge_body M G) i 0) a
          ∙ chain-at (edges_fields M G) G.nodes n (length (chain e (edge_fields M G n)) + j) l (omega (arith, chain-within (edge_fields M G n) (G.edges n) e h))
          ∙ chain-at (edge_fields M G n) (G.edges n) e j h q

      edge-read : (j : ℕ) → j < length (edge_fields M G n e) → get_or (edge_fields M G n e) j 0 < field_limit → u16 es (2 * (edge_place n e + j)) ≡ get_or (edge_fields M G n e) j 0
      edge-read j q s = u16-fields (edge_body M G) (edge_place n e + j) (rw (edge-field j q) s) ∙ edge-field j q

      command-read : u16 es (2 * edge_place n e) ≡ G.command n e
      command-read =
          let a : 2 * edge_place n e ≡ 2 * (edge_place n e + 0) = omega arith in
          rw a (edge-read 0 (omega (arith, edge-wide n e)) (F.command n l e h))

      successor-read : (b : ℕ) → b < M.branches (G.command n e) → u16 es (2 * edge_place n e + 2 + 2 * b) ≡ G.successor n e b
      successor-read b q =
          let a : 2 * edge_place n e + 2 + 2 * b ≡ 2 * (edge_place n e + suc b) = omega arith in
          let t : get_or (edge_fields M G n e) (suc b) 0 ≡ G.successor n e b = get_or-tab 0 (M.branches (G.command n e)) (G.successor n e) b q in
          rw a (edge-read (suc b) (omega (arith, edge-wide n e)) (rw t (F.successor n l e h b q)) ∙ t)

      size-read : edge_size M es (2 * edge_place n e) ≡ 2 * length (edge_fields M G n e)
      unfolding edge_size
      size-read = rw command-read (omega (arith, edge-wide n e))

      edge-ends : 2 * edge_place n e + edge_size M es (2 * edge_place n e) ≤ length es
      edge-ends = omega (arith, size-read, length_fields (edge_body M G), chain-within (edge_fields M G n) (G.edges n) e h, chain-within (edges_fields M G) G.nodes n l)

    after_is : (e : ℕ) → e ≤ G.edges n → edge_after M es (2 * place n) e ≡ 2 * edge_place n e
    unfolding edge_after chain
    after_is zero h = omega arith
    after_is (suc e) h =
        rw (after_is e (omega arith)) (omega (arith, size-read e h, chain-suc (edge_fields M G n) e))

  module _ (count : ℕ → ℕ) (counts : (n : ℕ) → n < G.nodes → count n ≡ G.edges n) where
    pub start_is : (n : ℕ) → n ≤ G.nodes → edges_start M es count n ≡ 2 * place n
    unfolding edges_start chain
    start_is zero h = refl
    start_is (suc n) h = rw (start_is n (omega arith), counts n h) (after_is n h (G.edges n) (le_refl _) ∙ omega (arith, chain-suc (edges_fields M G) n))

  -- ---- the graph that is read back
  pub edges-back : (n : ℕ) → n < G.nodes → node_field M g n 4 ≡ G.edges n
  edges-back n l = node-field n l 4 (omega arith) (F.edges n l)

  edge-at : (n : ℕ) → n < G.nodes → (e : ℕ) → e ≤ G.edges n → edge_at M g n e ≡ 2 * edge_place n e
  unfolding edge_at
  edge-at n l e h = rw (edge-bytes, start_is (λ i. node_field M g i 4) edges-back n (omega arith)) (after_is n l e h)

  all-spent : edges_start M (body g 1) (λ i. node_field M g i 4) (node_count M g) ≡ length (body g 1)
  all-spent = rw (count-is, edge-bytes, start_is (λ i. node_field M g i 4) edges-back G.nodes (le_refl _)) (sym (length_fields (edge_body M G)))

  pub reads-back : Same M G (simulation_of M g)
  unfolding edge_whole
  reads-back = record {
    nodes = count-is;
    kind = λ n l. node-field n l 0 (omega arith) (F.kind n l);
    cover = λ n l. node-field n l 1 (omega arith) (F.cover n l);
    value = value-back;
    edges = edges-back;
    tracked = λ n l. node-field n l 5 (omega arith) (F.tracked n l);
    concrete = concrete-back;
    label = label-back;
    command = λ n l e h. rw (edge-at n l e (omega arith), edge-bytes) (command-read n l e h);
    successor = λ n l e h b q. rw (edge-at n l e (omega arith), edge-bytes) (successor-read n l e h b q);
    whole = λ n l e h. rw (edge-at n l e (omega arith), edge-bytes) (le-leb _ _ (edge-ends n l e h));
    spent = eq-eqb _ _ all-spent;
  }
