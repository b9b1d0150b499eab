-- The search for the lowest node that has a broken rule, over the nodes that may be marked.
-- Assumes nothing.
use Rattle.std.specs.Prelude.{Option, None, Some}
use Prim.Native.Nat.{ℕ, ◌+◌, ◌<◌, ◌≤◌}
use mathlib.Core.Path.{◌≡◌, refl, sym, ap, ◌∙◌, subst}
use mathlib.Core.List.{List}
use native.Mathlib.Decide.{dec_lt}
use native.Mathlib.Omega.{arith}
use lib.ListN.{length, set, length-set}
use lib.Seq.{get_or-set_same, get_or-set_other}
use Rattle.folder.specs.Pick.{pick}
use Rattle.model.specs.Model.{Model, model_of}
use Rattle.graph.specs.Limits.{most_nodes}
use Rattle.building.specs.First.{there, first}
use Rattle.building.specs.Building.{Building}
use Rattle.building.specs.Moves.{Move, repair}
use Rattle.building.specs.Working.{ReadRight, MarkRight}
use Rattle.building.proofs.FirstLaws.{first-nowhere, first-here}
use Rattle.held.specs.Held.{held_in}
use Rattle.wants.specs.Standing.{read_in, row_in, Held, Reread, node_of}
use Rattle.repairs.proofs.Rereading.{reread-none, reread-then}
use Rattle.repairs.proofs.Answering.{repair-at}

-- The nodes below n have no broken rule, and are marked no longer.
pub record Visited (m nb₀ marks₀ : List ℕ) (nodes low high n : ℕ) (nb marks : List ℕ) : Type 0 where
  pub from : low ≤ n
  pub within : n ≤ high
  pub reread : Reread m nodes nb₀ nb
  pub long : length marks ≡ length marks₀
  pub done : (i : ℕ) → i < n → row_in marks i ≡ 0
  pub rest : (i : ℕ) → n ≤ i → row_in marks i ≡ row_in marks₀ i
  pub mended : (i : ℕ) → i < n → repair (model_of m) (held_in m nodes nb₀) i ≡ None

pub visit-start : {m nb₀ marks₀ : List ℕ} {nodes low high : ℕ} → MarkRight (model_of m) (held_in m nodes nb₀) (row_in marks₀) low high → low ≤ high → high ≤ nodes → ReadRight (model_of m) (held_in m nodes nb₀) (read_in m nb₀)
    → Visited m nb₀ marks₀ nodes low high low nb₀ marks₀
visit-start R l few D = record {
  from = omega arith;
  within = l;
  reread = reread-none D;
  long = refl;
  done = R.below;
  rest = λ i g. refl;
  mended = λ i g. R.is i (omega arith) (R.below i g);
}

module _ {m nb₀ marks₀ : List ℕ} {nodes low high n : ℕ} {nb marks : List ℕ} (s : Visited m nb₀ marks₀ nodes low high n nb marks)
    (R : MarkRight (model_of m) (held_in m nodes nb₀) (row_in marks₀) low high) (few : high ≤ nodes) where
  abbrev M : Model
  M = model_of m

  abbrev B : Building
  B = held_in m nodes nb₀

  -- From n on, a node that is not marked has no broken rule.
  rest-mended : (i : ℕ) → n ≤ i → i < nodes → row_in marks i ≡ 0 → repair M B i ≡ None
  rest-mended i g l z = R.is i l (sym (s.rest i g) ∙ z)

  unmarked-mended : (i : ℕ) → i < nodes → row_in marks i ≡ 0 → Dec (i < n) → repair M B i ≡ None
  unmarked-mended i l z (yes g) = s.mended i g
  unmarked-mended i l z (no g) = rest-mended i (omega arith) l z

  pub visit-there : n < high → Held m nodes nb₀ → most_nodes ≤ length marks₀ → (n < nodes) × (n < length marks)
  visit-there l H long = (omega arith, omega (arith, s.long, H.kept.few))

  pub visit-mended : n < high → row_in marks n ≡ 0 → repair M (held_in m nodes nb) n ≡ None
  visit-mended l z = subst (λ (C : Building). repair M C n ≡ None) (sym s.reread.held) (rest-mended n (omega arith) (omega arith) z)

  module _ {next : List ℕ} (r : Reread m nodes nb next) {o : Option Move} (e : o ≡ repair M (held_in m nodes nb) n) {marks' : List ℕ} (p : marks' ≡ pick (there o) marks (set marks n 0)) where
    again : Reread m nodes nb₀ next
    again = reread-then s.reread r

    is-repair : o ≡ repair M B n
    is-repair = e ∙ ap (λ (C : Building). repair M C n) s.reread.held

    pub visit-next : n < high → n < length marks → o ≡ None → Visited m nb₀ marks₀ nodes low high (n + 1) next marks'
    visit-next l long z =
        let w : marks' ≡ set marks n 0 = p ∙ ap (λ (x : Option Move). pick (there x) marks (set marks n 0)) z in
        rw w (record {
          from = omega (arith, s.from);
          within = omega arith;
          reread = again;
          long = length-set marks n 0 ∙ s.long;
          done = λ i g. done_at i g (dec_lt i n);
          rest = λ i g. get_or-set_other marks n i 0 0 (λ y. omega arith) ∙ s.rest i (omega arith);
          mended = λ i g. mended-at z i g (dec_lt i n);
        })
      where
        done_at : (i : ℕ) → i < n + 1 → Dec (i < n) → row_in (set marks n 0) i ≡ 0
        done_at i g (yes h) = get_or-set_other marks n i 0 0 (λ y. omega arith) ∙ s.done i h
        done_at i g (no h) = let y : n ≡ i = omega arith in subst (λ (k : ℕ). row_in (set marks n 0) k ≡ 0) y (get_or-set_same marks n 0 0 long)

        mended-at : o ≡ None → (i : ℕ) → i < n + 1 → Dec (i < n) → repair M B i ≡ None
        mended-at z i g (yes h) = s.mended i h
        mended-at z i g (no h) = let y : n ≡ i = omega arith in subst (λ (k : ℕ). repair M B k ≡ None) y (sym is-repair ∙ z)

    -- The search ends at n.
    module _ (l : n < high) {a : Move} (t : o ≡ Some a) where
      stay : marks' ≡ marks
      stay = p ∙ ap (λ (x : Option Move). pick (there x) marks (set marks n 0)) t

      is-first : o ≡ first nodes (repair M B)
      is-first = t ∙ sym (first-here (repair M B) nodes n a (omega arith) s.mended (sym is-repair ∙ t))

      node-is : node_of high o ≡ n
      node-is = ap (node_of high) t ∙ repair-at M B n high a (sym is-repair ∙ t)

      found-marks : MarkRight M (held_in m nodes next) (row_in marks') (node_of high o) high
      found-marks = rw (again.held, stay, node-is) (record {
        is = λ i f z. unmarked-mended i f z (dec_lt i n);
        below = s.done;
        above = λ i f. s.rest i (omega arith) ∙ R.above i f;
      })

      pub visit-found : (o ≡ first nodes (repair M B)) × (Reread m nodes nb₀ next × MarkRight M (held_in m nodes next) (row_in marks') (node_of high o) high)
      visit-found = (is-first, (again, found-marks))

  -- No node has one.
  module _ (l : high ≤ n) where
    all-mended : (i : ℕ) → i < nodes → Dec (i < n) → repair M B i ≡ None
    all-mended i f (yes g) = s.mended i g
    all-mended i f (no g) = R.is i f (R.above i (omega (arith, s.within)))

    over-marks : MarkRight M (held_in m nodes nb) (row_in marks) high high
    over-marks = rw s.reread.held (record {
      is = λ i f z. all-mended i f (dec_lt i n);
      below = λ i f. s.done i (omega arith);
      above = λ i f. s.rest i (omega (arith, s.within)) ∙ R.above i f;
    })

    pub visit-over : (None ≡ first nodes (repair M B)) × (Reread m nodes nb₀ nb × MarkRight M (held_in m nodes nb) (row_in marks) high high)
    visit-over = (sym (first-nowhere (repair M B) nodes (λ i f. all-mended i f (dec_lt i n))), (s.reread, over-marks))
