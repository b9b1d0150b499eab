-- What is marked as read changes, and nothing else: what stands then.
-- Assumes nothing.
use Rattle.std.specs.Prelude.{None}
use Prim.Native.Nat.{ℕ, ◌+◌, ◌-◌, ◌*◌, ◌<◌, ◌≤◌}
use mathlib.Core.Path.{◌≡◌, refl, sym, ap, ◌∙◌, subst}
use mathlib.Core.Bool.{true}
use mathlib.Core.List.{List}
use native.Mathlib.Nat.{mul-le-mul_left}
use native.Mathlib.Decide.{dec_lt, ℕ_discrete}
use native.Mathlib.Omega.{arith}
use lib.ListN.{length}
use Rattle.mdp.specs.Kinds.{Kind}
use Rattle.folder.specs.Fields.{field_limit}
use Rattle.expressions.specs.Reading.{has_bit}
use Rattle.model.specs.Layout.{variable_count}
use Rattle.model.specs.Model.{Model, model_of, first_record}
use Rattle.graph.specs.Limits.{most_nodes}
use Rattle.graph.specs.Simulation.{node_size}
use Rattle.building.specs.First.{given, first}
use Rattle.building.specs.Building.{Building, enabled, before, births, child_by}
use Rattle.building.specs.Moves.{number_wants, result_wants, results_want}
use Rattle.building.specs.Kept.{Kept}
use Rattle.building.specs.Working.{ReadRight, ParentRight, Settled}
use Rattle.building.proofs.FirstLaws.{given-none, first-none}
use Rattle.building.proofs.OffspringLaws.{before-within}
use Rattle.building.proofs.SetLaws.{bit-there}
use Rattle.put.proofs.PutLaws.{stays-none}
use Rattle.held.specs.Held.{child_field, parent_field, read_field, node_in, held_in}
use Rattle.held.proofs.Made.{held_same}
use Rattle.wants.specs.Wants.{children_end}
use Rattle.wants.specs.Standing.{read_in, parent_in, Held, Standing, Reread}
use Rattle.repairs.specs.Marked.{AllMarked}
use Rattle.repairs.proofs.Linked.{set_here, child-here, end_is, end-within}

-- ---- one after the other
pub reread-none : {m : List ℕ} {nodes : ℕ} {nb : List ℕ} → ReadRight (model_of m) (held_in m nodes nb) (read_in m nb) → Reread m nodes nb nb
reread-none {m} {nodes} {nb} R = record { held = refl; read = R; others = λ i f l d. refl; stays = stays-none 0 (node_size (variable_count m) * nodes) nb }

pub reread-then : {m : List ℕ} {nodes : ℕ} {old mid new : List ℕ} → Reread m nodes old mid → Reread m nodes mid new → Reread m nodes old new
reread-then a b = record {
  held = b.held ∙ a.held;
  read = b.read;
  others = λ i f l d. b.others i f l d ∙ a.others i f l d;
  stays = record {
    long = b.stays.long ∙ a.stays.long;
    below = λ j l. absurd (omega arith);
    past = λ j l. b.stays.past j l ∙ a.stays.past j l;
  };
}

-- ---- what stands goes on
module _ {m : List ℕ} {nodes : ℕ} {old new : List ℕ} (r : Reread m nodes old new) where
  pub held-again : Held m nodes old → Held m nodes new
  held-again H = record {
    model = H.model;
    kept = subst (λ (C : Building). Kept (model_of m) most_nodes C) (sym r.held) H.kept;
    long = omega (arith, H.long, r.stays.long);
  }

  pub standing-again : {masks : List ℕ} → Standing m masks nodes old → Standing m masks nodes new
  standing-again S = record { held = held-again S.held; masked = S.masked; read = r.read }

  pub parent-again : ParentRight (model_of m) (held_in m nodes old) (parent_in m old) → ParentRight (model_of m) (held_in m nodes new) (parent_in m new)
  parent-again R = subst (λ (C : Building). ParentRight (model_of m) C (parent_in m new)) (sym r.held) (record {
    is = λ i l k j h. r.others ((held_in m nodes old).child i + j) parent_field (omega arith) (λ e. omega arith) ∙ R.is i l k j h;
  })

  pub settled-again : {fresh : ℕ} → Settled (model_of m) (held_in m nodes old) fresh → Settled (model_of m) (held_in m nodes new) fresh
  settled-again {fresh} S = subst (λ (C : Building). Settled (model_of m) C fresh) (sym r.held) S

-- ---- an expanded node that wants nothing reads what its children track
module _ (M : Model) (B : Building) (n : ℕ) (w : results_want M B n ≡ None) where
  pub tracked-read : (c : ℕ) → c < M.commands → enabled M (B.state n) c ≡ true → (b : ℕ) → b < M.branches c
      → (v : ℕ) → v < M.variables → has_bit (B.tracked (child_by M B n c b)) v ≡ true → number_wants M B n (M.assigned (first_record M c + b) v) ≡ None
  unfolding results_want result_wants
  tracked-read c h e b q v z t =
      given-none (has_bit (B.tracked (child_by M B n c b)) v) _
      (first-none M.variables (λ x. given (has_bit (B.tracked (child_by M B n c b)) x) (number_wants M B n (M.assigned (first_record M c + b) x)))
      (first-none (M.branches c) (result_wants M B n c) (given-none (enabled M (B.state n) c) _ (first-none M.commands (λ d. given (enabled M (B.state n) d) (first (M.branches d) (result_wants M B n d))) w c h) e) b q) v z) t

module _ {m : List ℕ} {nodes : ℕ} {old new : List ℕ} (H : Held m nodes old) (R : ReadRight (model_of m) (held_in m nodes old) (read_in m old)) (P : ParentRight (model_of m) (held_in m nodes old) (parent_in m old))
    {n : ℕ} (l : n < nodes) (k : (held_in m nodes old).kind n ≡ Kind.expanded) (w : results_want (model_of m) (held_in m nodes old) n ≡ None)
    {start end : ℕ} (p : start ≡ node_in m old n child_field) (q : end ≡ children_end m old n) (s : AllMarked (variable_count m) start end old new) where
  abbrev M : Model
  M = model_of m

  abbrev B : Building
  B = held_in m nodes old

  start_is : start ≡ B.child n
  start_is = p ∙ sym (child-here m nodes old n l)

  end-at : end ≡ B.child n + births M (B.state n)
  end-at = q ∙ sym (end_is m nodes old n l)

  -- The child by branch b of command c, of node i: its place among the children.
  place_in : (i c : ℕ) → c < M.commands → enabled M (B.state i) c ≡ true → (b : ℕ) → b < M.branches c → before M (B.state i) c + b < births M (B.state i)
  place_in i c h e b g = omega (arith, before-within M (B.state i) M.commands c h e)

  -- Of node n itself.
  own_read : (c : ℕ) → c < M.commands → enabled M (B.state n) c ≡ true → (b : ℕ) → b < M.branches c
      → (v : ℕ) → has_bit (read_in m new (child_by M B n c b)) v ≡ true → number_wants M B n (M.assigned (first_record M c + b) v) ≡ None
  own_read c h e b g v t =
      let x : ℕ = child_by M B n c b in
      let a : start ≤ x = omega (arith, start_is) in
      let z : x < end = omega (arith, end-at, place_in n c h e b g) in
      let y : x < nodes = omega (arith, z, q, end-within H l k) in
      let u : B.tracked x ≡ read_in m new x = set_here m nodes old x y ∙ sym (s.inside x a z) in
      let o : has_bit (B.tracked x) v ≡ true = ap (λ (d : ℕ). has_bit d v) u ∙ t in
      tracked-read M B n w c h e b g v (bit-there (B.tracked x) M.variables (H.kept.small x y) v o) o

  -- Of another.
  other-read : (i : ℕ) → i < nodes → (i ≡ n → ⊥) → B.kind i ≡ Kind.expanded → (c : ℕ) → c < M.commands → enabled M (B.state i) c ≡ true → (b : ℕ) → b < M.branches c
      → read_in m new (child_by M B i c b) ≡ read_in m old (child_by M B i c b)
  other-read i f d j c h e b g = go (dec_lt (child_by M B i c b) start) (dec_lt (child_by M B i c b) end)
    where
      go : Dec (child_by M B i c b < start) → Dec (child_by M B i c b < end) → read_in m new (child_by M B i c b) ≡ read_in m old (child_by M B i c b)
      go (yes x) y = s.others (child_by M B i c b) read_field (omega arith) (λ z. x)
      go (no x) (no y) = s.later (child_by M B i c b) (omega arith)
      go (no x) (yes y) =
          let o : ℕ = child_by M B i c b - B.child n in
          let a : B.child n + o ≡ B.child i + (before M (B.state i) c + b) = omega (arith, start_is) in
          let u : o < births M (B.state n) = omega (arith, start_is, end-at) in
          absurd (d (sym (P.is i f j (before M (B.state i) c + b) (place_in i c h e b g)) ∙ ap (parent_in m old) (sym a) ∙ P.is n l k o u))

  marked-read : ReadRight M B (read_in m new)
  marked-read = record { is = λ i f j c h e b g v t. go i f j c h e b g v t (ℕ_discrete i n) }
    where
      go : (i : ℕ) → i < nodes → B.kind i ≡ Kind.expanded → (c : ℕ) → c < M.commands → enabled M (B.state i) c ≡ true → (b : ℕ) → b < M.branches c
          → (v : ℕ) → has_bit (read_in m new (child_by M B i c b)) v ≡ true → Dec (i ≡ n) → number_wants M B i (M.assigned (first_record M c + b) v) ≡ None
      go i f j c h e b g v t (yes z) =
          let y = subst (λ (a : ℕ). enabled M (B.state a) c ≡ true) z e in
          subst (λ (a : ℕ). number_wants M B a (M.assigned (first_record M c + b) v) ≡ None) (sym z) (own_read c h y b g v (subst (λ (a : ℕ). has_bit (read_in m new (child_by M B a c b)) v ≡ true) z t))
      go i f j c h e b g v t (no d) = R.is i f j c h e b g v (ap (λ (a : ℕ). has_bit a v) (sym (other-read i f d j c h e b g)) ∙ t)

  held-still : held_in m nodes new ≡ B
  held-still = held_same m nodes old new (λ i f g h d e. s.others i g (omega arith) (λ z. absurd (e z)))

  pub reread-marked : Reread m nodes old new
  reread-marked = record {
    held = held-still;
    read = subst (λ (C : Building). ReadRight M C (read_in m new)) (sym held-still) marked-read;
    others = λ i f g d. s.others i f g (λ z. absurd (d z));
    stays = record {
      long = s.stays.long;
      below = λ j f. absurd (omega arith);
      past = λ j f.
          let z : end ≤ nodes = omega (arith, q, end-within H l k) in
          s.stays.past j (omega (arith, mul-le-mul_left (node_size (variable_count m)) z));
    };
  }

-- As the code marks them.
module _ {m : List ℕ} {nodes : ℕ} {nb : List ℕ} (H : Held m nodes nb) {n : ℕ} (l : n < nodes) (k : (held_in m nodes nb).kind n ≡ Kind.expanded)
    {vars start end : ℕ} (v : vars ≡ variable_count m) (p : start ≡ node_in m nb n child_field) (q : end ≡ children_end m nb n) where
  pub children-long : (start ≤ end) × (end ≤ field_limit) × (node_size vars * end ≤ length nb)
  children-long =
      let z : end ≤ nodes = omega (arith, q, end-within H l k) in
      (omega (arith, p, q), omega (arith, H.kept.few), rw v (omega (arith, mul-le-mul_left (node_size (variable_count m)) z, H.long)))

  pub reread-by : ReadRight (model_of m) (held_in m nodes nb) (read_in m nb) → ParentRight (model_of m) (held_in m nodes nb) (parent_in m nb) → results_want (model_of m) (held_in m nodes nb) n ≡ None
      → {new : List ℕ} → AllMarked vars start end nb new → Reread m nodes nb new
  reread-by R P w {new} s = reread-marked H R P l k w p q (subst (λ (x : ℕ). AllMarked x start end nb new) v s)
