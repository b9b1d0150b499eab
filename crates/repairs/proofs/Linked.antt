-- What the records say of a node is what the building that they hold says: its label, what it wants, whether its cover is right.
-- Assumes nothing.
use Rattle.std.specs.Prelude.{Option, None, Some}
use Prim.Native.Nat.{ℕ, zero, suc, ◌+◌, ◌^◌, ◌<◌, ◌≤◌}
use mathlib.Core.Path.{◌≡◌, refl, sym, ap, ◌∙◌, subst}
use mathlib.Core.Bool.{Bool, true, false}
use mathlib.Core.List.{List, []}
use native.Mathlib.Nat.{le_step, le_refl}
use native.Mathlib.Omega.{arith}
use lib.Dec.{eqb}
use lib.IntN.{pos}
use Rattle.mdp.specs.Kinds.{Kind}
use Rattle.folder.specs.Pick.{implies}
use Rattle.folder.specs.Scan.{all}
use Rattle.folder.specs.Fields.{field_limit, signed16}
use Rattle.folder.proofs.ScanLaws.{first-same as bad-same}
use Rattle.folder.proofs.TabLaws.{get_or-tab}
use Rattle.whole.specs.Order.{eq_z}
use Rattle.expressions.specs.Meaning.{State, value_of}
use Rattle.expressions.specs.Reading.{has_bit}
use Rattle.expressions.specs.States.{number_told, truth_told}
use Rattle.model.specs.Layout.{variable_count}
use Rattle.model.specs.Model.{Model, model_of, first_record}
use Rattle.model.specs.Chances.{InRange}
use Rattle.graph.specs.Simulation.{kind_of}
use Rattle.building.specs.First.{◌orelse◌, given, first}
use Rattle.building.specs.Building.{Building, start_set, enabled, before, births, label_by, agrees, contains, child_by}
use Rattle.building.specs.Moves.{wanted_t, wanted_n, truth_wants, number_wants, guards_want, result_wants, results_want, expanded_wants, covered, adopted}
use Rattle.building.specs.Working.{ReadRight}
use Rattle.building.proofs.OffspringLaws.{before-within}
use Rattle.held.specs.Held.{kind_field, cover_field, child_field, state_field, node_in, state_in, set_in, held_in, NodeHere}
use Rattle.held.proofs.Made.{counted-in}
use Rattle.wants.specs.Wants.{truth_wants_in, number_wants_in, guards_in, own_in, result_in, child_in, branches_in, results_in, children_end, AllRead}
use Rattle.wants.specs.Standing.{read_in, Held}
use Rattle.covers.specs.Covers.{same_at, agrees_in, adopted_in}

-- ---- `first` and its connectives
module _ {A : Type 0} where
  pub first-same : (n : ℕ) (f g : ℕ → Option A) → ((i : ℕ) → i < n → f i ≡ g i) → first n f ≡ first n g
  unfolding first
  first-same zero f g h = refl
  first-same (suc n) f g h = λ i. first-same n f g (λ k l. h k (le_step l)) i orelse h n (le_refl (suc n)) i

  pub given-same : (b : Bool) {o p : Option A} → (b ≡ true → o ≡ p) → given b o ≡ given b p
  unfolding given
  given-same true h = h refl
  given-same false h = refl

  pub orelse-assoc : (o p q : Option A) → (o orelse (p orelse q)) ≡ ((o orelse p) orelse q)
  unfolding ◌orelse◌
  orelse-assoc None p q = refl
  orelse-assoc (Some a) p q = refl

-- ---- a node that is counted
module _ (m : List ℕ) (nodes : ℕ) (nb : List ℕ) where
  abbrev M : Model
  M = model_of m

  abbrev B : Building
  B = held_in m nodes nb

  module _ (n : ℕ) (l : n < nodes) where
    pub kind-here : B.kind n ≡ kind_of (node_in m nb n kind_field)
    kind-here = counted-in nodes Kind.waiting n (kind_of (node_in m nb n kind_field)) l

    pub cover-here : B.cover n ≡ node_in m nb n cover_field
    cover-here = counted-in nodes 0 n (node_in m nb n cover_field) l

    pub set_here : B.tracked n ≡ set_in m nb n
    set_here = counted-in nodes (start_set M) n (set_in m nb n) l

    pub state-here : B.state n ≡ state_in m nb n
    state-here = counted-in nodes [] n (state_in m nb n) l

    pub child-here : B.child n ≡ node_in m nb n child_field
    child-here = counted-in nodes 0 n (node_in m nb n child_field) l

    -- What its label wants.
    pub truth-here : (e : ℕ) → truth_wants M B n e ≡ truth_wants_in m nb n e
    unfolding truth_wants
    truth-here e = λ i. wanted_t (truth_told M.entries (label_by M (set_here i) (state-here i)) e)

    pub number-here : (e : ℕ) → number_wants M B n e ≡ number_wants_in m nb n e
    unfolding number_wants
    number-here e = λ i. wanted_n (number_told M.entries (label_by M (set_here i) (state-here i)) e)

    pub guards-here : guards_want M B n ≡ guards_in m nb n
    unfolding guards_want guards_in
    guards-here = λ i. first M.commands (λ c. truth-here (M.guard c) i)

    -- The child by branch b of command c, and where the children end.
    pub child-is : (c b : ℕ) → child_by M B n c b ≡ child_in m nb n c b
    child-is c b = λ i. child-here i + before M (state-here i) c + b

    pub end_is : B.child n + births M (B.state n) ≡ children_end m nb n
    end_is = λ i. child-here i + births M (state-here i)

-- ---- a graph that moves made
module _ {m : List ℕ} {nodes : ℕ} {nb : List ℕ} (H : Held m nodes nb) {n : ℕ} (l : n < nodes) where
  pub node-here : NodeHere m nb n
  node-here = record {
    model = H.model;
    low = omega (arith, H.kept.few);
    small = subst (λ (t : ℕ). t < 2 ^ variable_count m) (set_here m nodes nb n l) (H.kept.small n l);
    states = subst (λ (s : State). InRange (model_of m) s) (state-here m nodes nb n l) (H.kept.states n l);
  }

  -- An expanded node.
  module _ (k : (held_in m nodes nb).kind n ≡ Kind.expanded) where
    pub end-within : children_end m nb n ≤ nodes
    end-within = subst (λ (x : ℕ). x ≤ nodes) (end_is m nodes nb n l) (H.kept.parents n l k).there

    pub end-small : children_end m nb n ≤ field_limit
    end-small = omega (arith, end-within, H.kept.few)

    -- Its children are counted.
    pub child-within : (c : ℕ) → c < (model_of m).commands → enabled (model_of m) ((B m nodes nb).state n) c ≡ true → (b : ℕ) → b < (model_of m).branches c → child_by (model_of m) (B m nodes nb) n c b < nodes
    child-within c h e b q = omega (arith, before-within (model_of m) ((B m nodes nb).state n) (model_of m).commands c h e, (H.kept.parents n l k).there)

    result-here : (c : ℕ) → c < (model_of m).commands → enabled (model_of m) ((B m nodes nb).state n) c ≡ true → (b : ℕ) → b < (model_of m).branches c
        → result_wants (model_of m) (B m nodes nb) n c b ≡ result_in m nb n (child_in m nb n c b) (first_record (model_of m) c + b)
    unfolding result_wants result_in
    result-here c h e b q =
        let x = child-is m nodes nb n l c b in
        let s : (B m nodes nb).tracked (child_by (model_of m) (B m nodes nb) n c b) ≡ set_in m nb (child_in m nb n c b) =
        ap (B m nodes nb).tracked x ∙ set_here m nodes nb (child_in m nb n c b) (subst (λ (y : ℕ). y < nodes) x (child-within c h e b q)) in
        λ i. first (model_of m).variables (λ v. given (has_bit (s i) v) (number-here m nodes nb n l ((model_of m).assigned (first_record (model_of m) c + b) v) i))

    pub results-here : results_want (model_of m) (B m nodes nb) n ≡ results_in m nb n
    unfolding results_want results_in
    results-here = first-same (model_of m).commands _ _ (λ c h.
        given-same (enabled (model_of m) ((B m nodes nb).state n) c) (λ e. first-same ((model_of m).branches c) (result_wants (model_of m) (B m nodes nb) n c) (λ b. result_in m nb n (child_in m nb n c b) (first_record (model_of m) c + b)) (λ b q. result-here c h e b q))
        ∙ ap (λ (s : State). given (enabled (model_of m) s c) (branches_in m nb n c)) (state-here m nodes nb n l))

    pub expanded-here : expanded_wants (model_of m) (B m nodes nb) n ≡ (own_in m nb n orelse results_in m nb n)
    expanded-here =
        (λ i. guards-here m nodes nb n l i orelse truth-here m nodes nb n l (model_of m).target i orelse results-here i)
        ∙ orelse-assoc (guards_in m nb n) (truth_wants_in m nb n (model_of m).target) (results_in m nb n)

    -- What its children have marked as read, it reads known.
    pub all_read : ReadRight (model_of m) (B m nodes nb) (read_in m nb) → AllRead m nb n
    all_read R = record {
      each = λ c h e b q. record {
        is = λ v z t.
            sym (number-here m nodes nb n l ((model_of m).assigned (first_record (model_of m) c + b) v))
            ∙ R.is n l k c h (ap (λ (s : State). enabled (model_of m) s c) (state-here m nodes nb n l) ∙ e) b q v (ap (λ (x : ℕ). has_bit (read_in m nb x) v) (child-is m nodes nb n l c b) ∙ t);
      };
    }

-- 19 of an expanded node wants nothing, where guards and target want nothing.
pub own-none : (m : List ℕ) (nodes : ℕ) (nb : List ℕ) {n : ℕ} → n < nodes → guards_want (model_of m) (held_in m nodes nb) n ≡ None → truth_wants (model_of m) (held_in m nodes nb) n (model_of m).target ≡ None → own_in m nb n ≡ None
unfolding ◌orelse◌
own-none m nodes nb {n} l g t = rw (sym (guards-here m nodes nb n l) ∙ g) (sym (truth-here m nodes nb n l (model_of m).target) ∙ t)

-- ---- covers
value-here : (m nb : List ℕ) (n v : ℕ) → v < variable_count m → value_of (state_in m nb n) v ≡ signed16 (node_in m nb n (state_field + v))
unfolding state_in
value-here m nb n v l = get_or-tab (pos 0) (variable_count m) (λ i. signed16 (node_in m nb n (state_field + i))) v l

pub agrees-here : (m nb : List ℕ) (k n : ℕ) → agrees (model_of m) (set_in m nb k) (state_in m nb k) (state_in m nb n) ≡ agrees_in (variable_count m) nb k n
unfolding agrees agrees_in
agrees-here m nb k n =
    ap (λ (r : ℕ). eqb r (variable_count m))
    (bad-same (λ v. implies (has_bit (set_in m nb k) v) (eq_z (value_of (state_in m nb k) v) (value_of (state_in m nb n) v))) (same_at (variable_count m) nb k n) (variable_count m)
    (λ v l. λ i. implies (has_bit (set_in m nb k) v) (eq_z (value-here m nb k v l i) (value-here m nb n v l i))))

-- Node k's label contains node n's state.
pub contains-here : (m : List ℕ) (nodes : ℕ) (nb : List ℕ) (n : ℕ) → n < nodes → (k : ℕ) → k < nodes → contains (model_of m) (held_in m nodes nb) k ((held_in m nodes nb).state n) ≡ agrees_in (variable_count m) nb k n
contains-here m nodes nb n l k h = (λ i. agrees (model_of m) (set_here m nodes nb k h i) (state-here m nodes nb k h i) (state-here m nodes nb n l i)) ∙ agrees-here m nb k n

module _ {m : List ℕ} {nodes : ℕ} {nb : List ℕ} (H : Held m nodes nb) {n : ℕ} (l : n < nodes) where
  module _ (k : (held_in m nodes nb).kind n ≡ Kind.covered) where
    pub cover-within : node_in m nb n cover_field < nodes
    cover-within = subst (λ (c : ℕ). c < nodes) (cover-here m nodes nb n l) (H.kept.covers n l k).there

    pub covered-here : covered (model_of m) (held_in m nodes nb) n ≡ agrees_in (variable_count m) nb (node_in m nb n cover_field) n
    covered-here =
        ap (λ (c : ℕ). contains (model_of m) (held_in m nodes nb) c ((held_in m nodes nb).state n)) (cover-here m nodes nb n l)
        ∙ contains-here m nodes nb n l (node_in m nb n cover_field) cover-within

    pub adopted-here : adopted (model_of m) (held_in m nodes nb) n ≡ adopted_in (variable_count m) nb n
    unfolding adopted
    adopted-here =
        let s : (held_in m nodes nb).tracked ((held_in m nodes nb).cover n) ≡ set_in m nb (node_in m nb n cover_field) =
        ap (held_in m nodes nb).tracked (cover-here m nodes nb n l) ∙ set_here m nodes nb (node_in m nb n cover_field) cover-within in
        λ i. all (λ v. implies (has_bit (s i) v) (has_bit (set_here m nodes nb n l i) v)) (model_of m).variables
