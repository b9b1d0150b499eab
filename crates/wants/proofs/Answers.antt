-- What an entry wants, as the code answers it; and searches for the first that wants a variable.
-- Assumes nothing.
use Prim.Native.Nat.{ℕ, ◌+◌, ◌<◌, ◌≤◌}
use mathlib.Core.Path.{◌≡◌, refl, sym, ap, ◌∙◌}
use mathlib.Core.Bool.{Bool, true, false, not, ◌&&◌, false≢true}
use mathlib.Core.List.{List}
use native.Mathlib.Decide.{dec_lt}
use native.Mathlib.Omega.{arith}
use Rattle.folder.specs.Contents.{body, count_of, field}
use Rattle.expressions.specs.Reading.{has_bit}
use Rattle.expressions.specs.Mentions.{carry_n, carry_t}
use Rattle.expressions.specs.Right.{IsNumber, IsTruth}
use Rattle.expressions.specs.States.{number_read, truth_read, lacked_by}
use Rattle.expressions.specs.ThreeWay.{Number, Truth}
use Rattle.evaluate.specs.Settled.{as_number}
use Rattle.states.specs.Read.{is_known_number, reads_known}
use Rattle.states.proofs.Reading.{read_number, read-truth}
use Rattle.model.specs.Layout.{variable_count, branch_size}
use Rattle.model.specs.Model.{Model, model_of}
use Rattle.graph.specs.Simulation.{node_size}
use Rattle.building.specs.First.{◌orelse◌, given, first}
use Rattle.building.specs.Moves.{wanted_t, wanted_n}
use Rattle.building.proofs.FirstLaws.{first-none, first-nowhere, Searched, search-next, search-found, search-over}
use Rattle.held.specs.Held.{read_field, tracked_field, node_in, set_in, label_in, NodeHere}
use Rattle.wants.specs.Wants.{truth_wants_in, number_wants_in, result_in, ReadBy, IsRead}
use Rattle.std.specs.Prelude.{None, Some, Option}

-- ---- searches
module _ {f : ℕ → Option ℕ} {n i : ℕ} {w : Option ℕ} (s : Searched f n i) where
  pub search-miss : i < n → w ≡ f i → w ≡ None → Searched f n (i + 1)
  search-miss l e q = search-next s l (sym e ∙ q)

  pub search-hit : {v : ℕ} → i < n → w ≡ f i → w ≡ Some v → Some v ≡ first n f
  search-hit l e q = sym (search-found s l (sym e ∙ q))

pub search-end : {f : ℕ → Option ℕ} {n i : ℕ} → Searched f n i → n ≤ i → None ≡ first n f
search-end s l = sym (search-over s l)

-- Places where nothing is wanted are passed.
pub search-skip : {f : ℕ → Option ℕ} {n i j : ℕ} → Searched f n i → j ≤ n → ((k : ℕ) → i ≤ k → k < j → f k ≡ None) → Searched f n j
search-skip {f} {n} {i} {j} s l h = record { within = l; none_yet = first-nowhere f j (λ k b. either k b (dec_lt k i)) }
  where
    either : (k : ℕ) → k < j → Dec (k < i) → f k ≡ None
    either k b (yes p) = first-none i f s.none_yet k p
    either k b (no p) = h k (omega arith) b

-- One of two.
pub either-hit : {w : Option ℕ} {v : ℕ} (p q : Option ℕ) → w ≡ p → w ≡ Some v → Some v ≡ (p orelse q)
unfolding ◌orelse◌
either-hit p q e d = rw (sym e ∙ d) refl

pub either-miss : {w r : Option ℕ} (p q : Option ℕ) → w ≡ p → w ≡ None → r ≡ q → r ≡ (p orelse q)
unfolding ◌orelse◌
either-miss p q e z k = rw (sym e ∙ z) k

-- What is asked for, and what is not.
pub given-on : {A : Type 0} {b : Bool} {o p : Option A} → b ≡ true → o ≡ p → o ≡ given b p
unfolding given
given-on h q = rw h q

pub given-off : {b : Bool} (p : Option ℕ) → b ≡ false → None ≡ given b p
unfolding given
given-off p h = rw h refl

-- It may be left out where there is none.
pub given-else : {A : Type 0} {b : Bool} {o p : Option A} → (b ≡ false → p ≡ None) → o ≡ given b p → o ≡ p
unfolding given
given-else {b = true} h e = e
given-else {b = false} h e = e ∙ sym (h refl)

-- What is in the first set alone, and what is not.
new-in : (b d : Bool) → (b && not d) ≡ true → b ≡ true
new-in true d e = refl
new-in false d e = absurd (false≢true e)

old-nothing : {A : Type 0} (b d : Bool) (o : Option A) → (d ≡ true → o ≡ None) → (b && not d) ≡ false → given b o ≡ None
unfolding given
old-nothing true true o h e = h refl
old-nothing true false o h e = absurd (false≢true (sym e))
old-nothing false d o h e = refl

-- ---- an entry's answer
known-truth : (t : Truth) (v : ℕ) → is_known_number (as_number t) ≡ true → wanted_t (carry_t v t) ≡ None
known-truth (Some true) v k = refl
known-truth (Some false) v k = refl
known-truth None v k = absurd (false≢true k)

open-truth : (t : Truth) → is_known_number (as_number t) ≡ false → t ≡ None
open-truth (Some true) k = absurd (false≢true (sym k))
open-truth (Some false) k = absurd (false≢true (sym k))
open-truth None k = refl

known-number : (a : Number) (v : ℕ) → is_known_number a ≡ true → wanted_n (carry_n v a) ≡ None
known-number (Some z) v k = refl
known-number None v k = absurd (false≢true k)

open-number : (a : Number) → is_known_number a ≡ false → a ≡ None
open-number (Some z) k = absurd (false≢true (sym k))
open-number None k = refl

module _ {m nb : List ℕ} {n : ℕ} (here : NodeHere m nb n) where
  abbrev M : Model
  M = model_of m

  module _ {e : ℕ} {t : Bool} (answer : t ≡ reads_known M.entries (label_in m nb n) e) where
    told : IsTruth M.entries e → t ≡ is_known_number (as_number (truth_read M.entries (label_in m nb n) e))
    told i = answer ∙ ap is_known_number (read-truth M.entries (label_in m nb n) e i)

    pub truth-known : IsTruth M.entries e → t ≡ true → None ≡ truth_wants_in m nb n e
    truth-known i k = sym (known-truth (truth_read M.entries (label_in m nb n) e) _ (sym (told i) ∙ k))

    pub truth-open : IsTruth M.entries e → t ≡ false → {r : ℕ} → r ≡ lacked_by M.entries (label_in m nb n) e → Some r ≡ truth_wants_in m nb n e
    truth-open i k q = ap Some q ∙ sym (ap (λ (a : Truth). wanted_t (carry_t (lacked_by M.entries (label_in m nb n) e) a)) (open-truth (truth_read M.entries (label_in m nb n) e) (sym (told i) ∙ k)))

    told-number : IsNumber M.entries e → t ≡ is_known_number (number_read M.entries (label_in m nb n) e)
    told-number i = answer ∙ ap is_known_number (read_number M.entries (label_in m nb n) e i)

    pub number-known : IsNumber M.entries e → t ≡ true → None ≡ number_wants_in m nb n e
    number-known i k = sym (known-number (number_read M.entries (label_in m nb n) e) _ (sym (told-number i) ∙ k))

    pub number-open : IsNumber M.entries e → t ≡ false → {r : ℕ} → r ≡ lacked_by M.entries (label_in m nb n) e → Some r ≡ number_wants_in m nb n e
    number-open i k q = ap Some q ∙ sym (ap (λ (a : Number). wanted_n (carry_n (lacked_by M.entries (label_in m nb n) e) a)) (open-number (number_read M.entries (label_in m nb n) e) (sym (told-number i) ∙ k)))

-- ---- the entries that are asked: guards, the target, and what is assigned
pub commands-are : (m : List ℕ) {cs : List ℕ} {commands : ℕ} → cs ≡ body m 3 → commands ≡ count_of 4 cs → commands ≡ (model_of m).commands
commands-are m q p = p ∙ ap (count_of 4) q

module _ {m nb : List ℕ} {n : ℕ} (here : NodeHere m nb n) where
  module _ (c : ℕ) {cs : List ℕ} {e : ℕ} (q : cs ≡ body m 3) (p : e ≡ field 4 cs c 0) where
    guard-is : e ≡ (model_of m).guard c
    guard-is = p ∙ ap (λ (b : List ℕ). field 4 b c 0) q

    pub guard-there : c < (model_of m).commands → IsTruth (model_of m).entries e
    guard-there l = rw guard-is (here.model.model.commands c l).guard

    pub guard-wants : {o : Option ℕ} → o ≡ truth_wants_in m nb n e → o ≡ truth_wants_in m nb n ((model_of m).guard c)
    guard-wants h = h ∙ ap (truth_wants_in m nb n) guard-is

  module _ {ts : List ℕ} {e : ℕ} (q : ts ≡ body m 0) (p : e ≡ field 4 ts 0 1) where
    target_is : e ≡ (model_of m).target
    target_is = p ∙ ap (λ (b : List ℕ). field 4 b 0 1) q

    pub target-there : IsTruth (model_of m).entries e
    target-there = rw target_is here.model.model.target

    pub target-wants : {o : Option ℕ} → o ≡ truth_wants_in m nb n e → o ≡ truth_wants_in m nb n (model_of m).target
    target-wants h = h ∙ ap (truth_wants_in m nb n) target_is

  -- What branch record r assigns to variable v.
  module _ (r v : ℕ) {vars : ℕ} {bs : List ℕ} {e : ℕ} (k : vars ≡ variable_count m) (q : bs ≡ body m 4) (p : e ≡ field (branch_size vars) bs r (1 + v)) (l : v < (model_of m).variables) where
    assigned-is : e ≡ (model_of m).assigned r v
    assigned-is = p ∙ (λ i. field (branch_size (k i)) (q i) r (1 + v))

    pub assigned-there : r < (model_of m).records → IsNumber (model_of m).entries e
    assigned-there b = rw assigned-is ((here.model.model.branches r b).number v l)

    pub assigned-wants : (x : ℕ) {set read : ℕ} → set ≡ set_in m nb x → read ≡ node_in m nb x read_field → {asked : Bool} → asked ≡ (has_bit set v && not (has_bit read v)) → asked ≡ true
        → {o : Option ℕ} → o ≡ number_wants_in m nb n e → o ≡ given (has_bit (set_in m nb x) v) (number_wants_in m nb n ((model_of m).assigned r v))
    assigned-wants x f g h a j =
        given-on (new-in (has_bit (set_in m nb x) v) (has_bit (node_in m nb x read_field) v) (sym (λ i. has_bit (f i) v && not (has_bit (g i) v)) ∙ sym h ∙ a)) (j ∙ ap (number_wants_in m nb n) assigned-is)

-- A variable that the child x does not track, or that is marked as read, asks for nothing.
pub assigned-skips : {m nb : List ℕ} {n x r : ℕ} → ReadBy m nb n x r → (v : ℕ) → v < (model_of m).variables → {set read : ℕ} → set ≡ set_in m nb x → read ≡ node_in m nb x read_field
    → {asked : Bool} → asked ≡ (has_bit set v && not (has_bit read v)) → asked ≡ false → given (has_bit (set_in m nb x) v) (number_wants_in m nb n ((model_of m).assigned r v)) ≡ None
assigned-skips {m} {nb} {n} {x} {r} known v l f g h a =
    old-nothing (has_bit (set_in m nb x) v) (has_bit (node_in m nb x read_field) v) (number_wants_in m nb n ((model_of m).assigned r v)) (known.is v l) (sym (λ i. has_bit (f i) v && not (has_bit (g i) v)) ∙ sym h ∙ a)

-- ---- nodes that are read
module _ (vars : ℕ) (nb : List ℕ) (start from : ℕ) where
  pub read-start : (k : ℕ) → from ≤ k → k < from → IsRead vars nb (start + k)
  read-start k a b = absurd (omega arith)

  module _ (i : ℕ) {size s r : ℕ} (h : (k : ℕ) → from ≤ k → k < i → IsRead vars nb (start + k)) (p : size ≡ node_size vars) (e : s ≡ field size nb (start + i) tracked_field) (f : r ≡ field size nb (start + i) read_field)
      (q : s ≡ r) where
    here-read : (k : ℕ) → from ≤ k → k < i + 1 → Dec (k < i) → IsRead vars nb (start + k)
    here-read k a b (yes l) = h k a l
    here-read k a b (no l) =
        let z : k ≡ i = omega arith in
        rw z (rw (sym p) (sym e ∙ q ∙ f))

    pub read_next : (k : ℕ) → from ≤ k → k < i + 1 → IsRead vars nb (start + k)
    read_next k a b = here-read k a b (dec_lt k i)

-- ---- a child that is read wants nothing
given_nothing : {A : Type 0} (b : Bool) (o : Option A) → (b ≡ true → o ≡ None) → given b o ≡ None
unfolding given
given_nothing true o h = h refl
given_nothing false o h = refl

pub read-wants : {m nb : List ℕ} {n x r s read : ℕ} → ReadBy m nb n x r → s ≡ set_in m nb x → read ≡ node_in m nb x read_field → s ≡ read → result_in m nb n x r ≡ None
unfolding result_in
read-wants {m} {nb} {n} {x} {r} known p q e =
    let f : set_in m nb x ≡ node_in m nb x read_field = sym p ∙ e ∙ q in
    first-nowhere _ (model_of m).variables (λ v l. given_nothing (has_bit (set_in m nb x) v) _ (λ h. known.is v l (sym (ap (λ (s : ℕ). has_bit s v) f) ∙ h)))

-- The same of one that is passed.
pub is-read : {m nb : List ℕ} {n x r vars : ℕ} → vars ≡ variable_count m → ReadBy m nb n x r → IsRead vars nb x → result_in m nb n x r ≡ None
is-read {nb = nb} {x = x} q known e = read-wants known (λ i. field (node_size (q i)) nb x tracked_field) (λ i. field (node_size (q i)) nb x read_field) e
