-- A node's edges and its final record are those of the graph that the records hold.
-- Assumes nothing.
use Prim.Native.Nat.{ℕ, zero, suc, ◌+◌, ◌-◌, ◌*◌, ◌/◌, ◌%◌, ◌<◌, ◌≤◌}
use mathlib.Core.Path.{◌≡◌, refl, sym, ap, ◌∙◌}
use mathlib.Core.Bool.{Bool, true, false}
use mathlib.Core.List.{List, [], ◌∷◌, ◌++◌, append-nil}
use native.Mathlib.Decide.{dec_lt}
use native.Mathlib.Omega.{arith}
use borrow.Author.Tests.{lt-ltb, le-ltb}
use lib.ListN.{length, get_or, length-append, get_or-append}
use lib.Seq.{get_or-append_seam, get_or-append-add, ext_get_or}
use lib.IntN.{ℤ, pos}
use Rattle.mdp.specs.Kinds.{Kind}
use Rattle.folder.specs.Fields.{field_limit, signed16}
use Rattle.folder.specs.Pick.{pick}
use Rattle.folder.specs.Tab.{tab, passing}
use Rattle.folder.proofs.TabLaws.{length-tab, get_or-tab}
use Rattle.expressions.specs.Meaning.{State, value_of}
use Rattle.expressions.specs.Reading.{has_bit}
use Rattle.model.specs.Layout.{variable_count}
use Rattle.model.specs.Model.{Model, model_of}
use Rattle.graph.specs.Limits.{units}
use Rattle.building.specs.Building.{Building, start_set, enabled, before, edge_commands, kind_number, if_covered, if_expanded, label_value}
use Rattle.put.specs.Put.{unsigned}
use Rattle.held.specs.Held.{cover_field, child_field, state_field, field_count, node_in, state_in, set_in, held_in}
use Rattle.held.proofs.Made.{counted-in}
use Rattle.written.proofs.FieldLaws.{chain_same}
use Rattle.written.specs.Bytes.{chain, node_fields, edges_fields}
use Rattle.finish.specs.Finish.{certain}
use Rattle.finish.specs.Laid.{final_value, final_field, edges_from, when_expanded, kind_in, own_edges, own_count, own_record}
use Rattle.finish.proofs.FinalLaws.{value-concrete, value-label}

-- A field that is read as signed and written back is the same.
pub unsigned_back : (u : ℕ) → u < field_limit → unsigned (signed16 u) ≡ u
unfolding signed16
unsigned_back u l = go (dec_lt u 32768)
  where
    go : Dec (u < 32768) → unsigned (signed16 u) ≡ u
    go (yes h) = rw (lt-ltb u 32768 h) refl
    go (no d) = rw (le-ltb u 32768 (omega arith), lt-ltb u 65536 l) (omega arith)

-- ---- edges: by the commands that are enabled, or by all
module _ (g : ℕ → List ℕ) where
  one_more : (l : List ℕ) (x : ℕ) → chain (length l) (λ e. g (get_or l e 0)) ++ g x ≡ chain (length (l ++ (x ∷ []))) (λ e. g (get_or (l ++ (x ∷ [])) e 0))
  unfolding chain
  one_more l x =
      let n : length (l ++ (x ∷ [])) ≡ suc (length l) = omega (arith, length-append l (x ∷ [])) in
      (λ i. chain_same (length l) (λ e. g (get_or l e 0)) (λ e. g (get_or (l ++ (x ∷ [])) e 0)) (λ e p. ap g (sym (get_or-append l (x ∷ []) 0 e p))) i ++ ap g (sym (get_or-append_seam l x [] 0)) i)
      ∙ ap (λ (k : ℕ). chain k (λ e. g (get_or (l ++ (x ∷ [])) e 0))) (sym n)

  more_by : (l : List ℕ) (x : ℕ) (t : Bool) → chain (length l) (λ e. g (get_or l e 0)) ++ pick t (g x) [] ≡ chain (length (l ++ pick t (x ∷ []) [])) (λ e. g (get_or (l ++ pick t (x ∷ []) []) e 0))
  more_by l x true = one_more l x
  more_by l x false = append-nil (chain (length l) (λ e. g (get_or l e 0))) ∙ ap (λ (k : List ℕ). chain (length k) (λ e. g (get_or k e 0))) (sym (append-nil l))

  pub passing-chain : (n : ℕ) (test : ℕ → Bool) → chain n (λ c. pick (test c) (g c) []) ≡ chain (length (passing n test)) (λ e. g (get_or (passing n test) e 0))
  unfolding chain passing
  passing-chain zero test = refl
  passing-chain (suc n) test = ap (λ (k : List ℕ). k ++ pick (test n) (g n) []) (passing-chain n test) ∙ more_by (passing n test) n (test n)

module _ (M : Model) (s : State) (child : ℕ) where
  abbrev edge_of : ℕ → List ℕ
  edge_of c = c ∷ tab (M.branches c) (λ b. child + before M s c + b)

  edges_by : (κ : Kind) → when_expanded κ (edges_from M s child) ≡ chain (if_expanded κ (length (edge_commands M s))) (λ e. edge_of (get_or (edge_commands M s) e 0))
  unfolding edges_from chain
  edges_by Kind.waiting = refl
  edges_by Kind.expanded = passing-chain edge_of M.commands (enabled M s)
  edges_by Kind.covered = refl
  edges_by Kind.target = refl

-- ---- the graph
module _ (m nb : List ℕ) (nodes n : ℕ) (there : n < nodes) where
  abbrev M : Model
  M = model_of m

  abbrev B : Building
  B = held_in m nodes nb

  pub kind-held : kind_in m nb n ≡ (held_in m nodes nb).kind n
  kind-held = sym (counted-in nodes Kind.waiting n (kind_in m nb n) there)

  cover-held : node_in m nb n cover_field ≡ B.cover n
  cover-held = sym (counted-in nodes 0 n (node_in m nb n cover_field) there)

  pub set-held : set_in m nb n ≡ (held_in m nodes nb).tracked n
  set-held = sym (counted-in nodes (start_set M) n (set_in m nb n) there)

  pub state-held : state_in m nb n ≡ (held_in m nodes nb).state n
  state-held = sym (counted-in nodes [] n (state_in m nb n) there)

  pub child-held : node_in m nb n child_field ≡ (held_in m nodes nb).child n
  child-held = sym (counted-in nodes 0 n (node_in m nb n child_field) there)

  pub edges-held : own_edges m nb n ≡ edges_fields (model_of m) (certain (model_of m) (held_in m nodes nb)) n
  unfolding own_edges
  edges-held =
      edges_by M (state_in m nb n) (node_in m nb n child_field) (kind_in m nb n)
      ∙ (λ i. chain (if_expanded (kind-held i) (length (edge_commands M (state-held i)))) (λ e. edge_of M (state-held i) (child-held i) (get_or (edge_commands M (state-held i)) e 0)))

  -- The final record, where every field fits.
  module _ (small : (f : ℕ) → node_in m nb n f < field_limit) where
    abbrev vars : ℕ
    vars = variable_count m

    concrete : ℕ → ℕ
    concrete v = unsigned (value_of (state_in m nb n) v)

    label : ℕ → ℕ
    label v = unsigned (label_value (has_bit (set_in m nb n) v) (value_of (state_in m nb n) v))

    concrete-is : (v : ℕ) → v < vars → concrete v ≡ node_in m nb n (state_field + v)
    unfolding state_in concrete
    concrete-is v l = ap unsigned (get_or-tab (pos 0) vars (λ w. signed16 (node_in m nb n (state_field + w))) v l) ∙ unsigned_back (node_in m nb n (state_field + v)) (small (state_field + v))

    label-by : (t : Bool) (z : ℤ) → unsigned (label_value t z) ≡ pick t (unsigned z) 0
    label-by true z = refl
    label-by false z = refl

    label_is : (v : ℕ) → v < vars → label v ≡ pick (has_bit (set_in m nb n) v) (node_in m nb n (state_field + v)) 0
    unfolding label concrete
    label_is v l = label-by (has_bit (set_in m nb n) v) (value_of (state_in m nb n) v) ∙ ap (λ (x : ℕ). pick (has_bit (set_in m nb n) v) x 0) (concrete-is v l)

    values-at : (v : ℕ) → v < 2 * vars → final_value vars nb n v ≡ get_or (tab vars concrete ++ tab vars label) v 0
    values-at v l = go (dec_lt v vars)
      where
        go : Dec (v < vars) → final_value vars nb n v ≡ get_or (tab vars concrete ++ tab vars label) v 0
        go (yes h) =
            sym (value-concrete vars nb n refl h refl) ∙ sym (concrete-is v h)
            ∙ sym (get_or-append (tab vars concrete) (tab vars label) 0 v (omega (arith, length-tab vars concrete)) ∙ get_or-tab 0 vars concrete v h)
        go (no d) =
            let h : vars ≤ v = omega arith in
            let e : v ≡ length (tab vars concrete) + (v - vars) = omega (arith, length-tab vars concrete) in
            sym (value-label vars nb n refl {on = has_bit (set_in m nb n) (v - vars)} h refl refl refl refl) ∙ sym (label_is (v - vars) (omega arith))
            ∙ sym (ap (λ (k : ℕ). get_or (tab vars concrete ++ tab vars label) k 0) e ∙ get_or-append-add (tab vars concrete) (tab vars label) (v - vars) 0 ∙ get_or-tab 0 vars label (v - vars) (omega arith))

    plain : List ℕ
    plain =
        kind_number (kind_in m nb n) ∷ if_covered (kind_in m nb n) (node_in m nb n cover_field) ∷ units % field_limit ∷ units / field_limit ∷ own_count m nb n ∷ set_in m nb n
        ∷ (tab vars concrete ++ tab vars label)

    plain-long : length plain ≡ field_count vars
    unfolding plain
    plain-long = omega (arith, length-append (tab vars concrete) (tab vars label), length-tab vars concrete, length-tab vars label)

    plain_at : (f : ℕ) → f < field_count vars → final_field vars nb n (own_count m nb n) f ≡ get_or plain f 0
    unfolding plain final_field
    plain_at zero l = refl
    plain_at (suc zero) l = refl
    plain_at (suc (suc zero)) l = refl
    plain_at (suc (suc (suc zero))) l = refl
    plain_at (suc (suc (suc (suc zero)))) l = refl
    plain_at (suc (suc (suc (suc (suc zero))))) l = refl
    plain_at (suc (suc (suc (suc (suc (suc v)))))) l = values-at v (omega arith)

    plain-is : own_record m nb n ≡ plain
    unfolding own_record
    plain-is =
        let F = final_field vars nb n (own_count m nb n) in
        ext_get_or 0 (tab (field_count vars) F) plain (length-tab (field_count vars) F ∙ sym plain-long)
        (λ f h. let l : f < field_count vars = omega (arith, length-tab (field_count vars) F) in get_or-tab 0 (field_count vars) F f l ∙ plain_at f l)

    pub record-held : own_record m nb n ≡ node_fields (model_of m) (certain (model_of m) (held_in m nodes nb)) n
    unfolding plain concrete label own_count
    record-held = plain-is ∙ (λ i.
        kind_number (kind-held i) ∷ if_covered (kind-held i) (cover-held i) ∷ units % field_limit ∷ units / field_limit ∷ if_expanded (kind-held i) (length (edge_commands M (state-held i))) ∷ set-held i
        ∷ (tab vars (λ v. unsigned (value_of (state-held i) v)) ++ tab vars (λ v. unsigned (label_value (has_bit (set-held i) v) (value_of (state-held i) v)))))
