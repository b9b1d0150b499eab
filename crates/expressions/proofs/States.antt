-- The reading by all states is sound, and up to the limit known exactly where all states of the label agree; where document
-- 01's reading is known, and where all is tracked, it is known; where it is unknown, a variable is missing.
-- Assumes nothing.
use Prim.Native.Nat.{ℕ, ◌<◌, ◌≤◌}
use mathlib.Core.Path.{◌≡◌, refl, sym, ◌∙◌, subst}
use mathlib.Core.Bool.{Bool, true, false}
use native.Mathlib.Omega.{arith}
use borrow.Author.Tests.{le-leb}
use lib.Dec.{leb}
use lib.ListN.{get_or}
use lib.IntN.{ℤ, pos}
use Rattle.folder.specs.Pick.{pick}
use Rattle.folder.specs.Scan.{all}
use Rattle.folder.proofs.Decides.{Decides, everywhere, reworded}
use Rattle.whole.specs.Order.{eq_z}
use Rattle.whole.proofs.Order.{equal-decided}
use Rattle.expressions.specs.Entries.{Entries}
use Rattle.expressions.specs.Limits.{most_combinations}
use Rattle.expressions.specs.Meaning.{State, value_of, number_in, truth_in}
use Rattle.expressions.specs.Reading.{has_bit, known_truth, look_in, read_number, read_truth}
use Rattle.expressions.specs.ThreeWay.{Number, Truth}
use Rattle.expressions.proofs.Sound.{Says, SaysT, number-sound, truth-sound, known_is, true-is, false-is}
use Rattle.expressions.specs.Mentions.{mentions, Lowest}
use Rattle.expressions.specs.Right.{IsNumber, IsTruth, EntryRight}
use Rattle.expressions.specs.Combinations.{Label, Holds, Proper, combinations, combination}
use Rattle.expressions.specs.States.{same_truth, ways, number_by_all, truth_by_all, number_three, truth_three, number_read, truth_read, lacked_by}
use Rattle.expressions.proofs.Mentions.{Agree, number-depends, truth-depends}
use Rattle.expressions.proofs.Missing.{never-known, NoneFree, number-told, truth-told, number-lacks, truth-lacks}
use Rattle.expressions.proofs.Combinations.{combination-holds, place_of, place-below, place-agrees}
use Rattle.std.specs.Prelude.{None, Some}

-- Two truths are the same.
pub same_truth_lem : (a b : Bool) → Decides (a ≡ b) (same_truth a b)
same_truth_lem true true = record { yes = λ e. refl; no = λ e. refl }
same_truth_lem true false = record { yes = λ e. sym e; no = λ e. sym e }
same_truth_lem false true = record { yes = λ e. e; no = λ e. e }
same_truth_lem false false = record { yes = λ e. refl; no = λ e. refl }

-- What reads Known z, where a test decides whether it is known.
picked : (b : Bool) (a z : ℤ) → pick b (Some a) None ≡ Some z → (b ≡ true) × (a ≡ z)
picked true a z e = (refl, cc)
picked false a z e = absurd (let k : ◌≡◌ {A = ℕ} 0 1 = cc in omega arith)

-- What a truth that reads known is.
pub said : (b : Bool) {c : Truth} {d : Bool} → SaysT c d → c ≡ known_truth b → d ≡ b
said true s q = true-is s q
said false s q = false-is s q

known_same : (a b : Bool) → known_truth a ≡ known_truth b → a ≡ b
known_same true true e = refl
known_same true false e = absurd (let k : ◌≡◌ {A = ℕ} 0 1 = cc in omega arith)
known_same false true e = absurd (let k : ◌≡◌ {A = ℕ} 0 1 = cc in omega arith)
known_same false false e = refl

picked-truth : (t a b : Bool) → pick t (known_truth a) None ≡ known_truth b → (t ≡ true) × (a ≡ b)
picked-truth true a b e = (refl, known_same a b e)
picked-truth false a b e = absurd (never-known b e)

-- What the states of a label agree on, whatever is asked of a state that hangs on the variables of the set m alone.
module _ {A : Type 0} (same : A → A → Bool) (decides : (a b : A) → Decides (a ≡ b) (same a b)) (L : Label) (P : Proper L) (m : ℕ) (of : State → A)
    (depends : (s s' : State) → Agree (value_of s) (value_of s') m → of s ≡ of s') where
  abbrev count : ℕ
  count = combinations L.variables L.bound L.tracked m

  -- Every combination has it if and only if every state does, for each has what one of the combinations has.
  all-decided : (z : A) → Decides ((s : State) → Holds L s → of s ≡ z) (all (λ j. same (of (combination L m j)) z) count)
  all-decided z = reworded
      (λ f s h. sym (depends (combination L m (place_of L m P s h)) s (place-agrees L m P s h)) ∙ f (place_of L m P s h) (place-below L m P s h))
      (λ f j l. f (combination L m j) (combination-holds L m P j))
      (everywhere count (λ j l. decides (of (combination L m j)) z))

  -- Known where all combinations agree with the first: with a value if and only if every state of the label has it.
  module _ {R : Type 0} (known : A → R) (unknown : R) (picked : (t : Bool) (a z : A) → pick t (known a) unknown ≡ known z → (t ≡ true) × (a ≡ z)) where
    abbrev first : A
    first = of (combination L m 0)

    abbrev by_all : R
    by_all = pick (all (λ j. same (of (combination L m j)) first) count) (known first) unknown

    known-all : (z : A) → by_all ≡ known z → (s : State) → Holds L s → of s ≡ z
    known-all z k s h = let q = picked (all (λ j. same (of (combination L m j)) first) count) first z k in (all-decided first).yes q.0 s h ∙ q.1

    all_known : (z : A) → ((s : State) → Holds L s → of s ≡ z) → by_all ≡ known z
    all_known z f =
        let one : of (combination L m 0) ≡ z = f (combination L m 0) (combination-holds L m P 0) in
        rw (one, (all-decided z).no f) refl

module _ (x : Entries) (L : Label) (P : Proper L) (e : ℕ) where
  abbrev m : ℕ
  m = mentions x e

  abbrev number : State → ℤ
  number s = number_in x s e

  abbrev truth : State → Bool
  truth s = truth_in x s e

  pub number-known : (z : ℤ) → number_by_all x L e ≡ Some z → (s : State) → Holds L s → number_in x s e ≡ z
  unfolding number_by_all
  number-known = known-all eq_z equal-decided L P m number (λ s s' h. number-depends x s s' e h) Some None picked

  pub known-number : (z : ℤ) → ((s : State) → Holds L s → number_in x s e ≡ z) → number_by_all x L e ≡ Some z
  unfolding number_by_all
  known-number = all_known eq_z equal-decided L P m number (λ s s' h. number-depends x s s' e h) Some None picked

  pub truth-known : (b : Bool) → truth_by_all x L e ≡ known_truth b → (s : State) → Holds L s → truth_in x s e ≡ b
  unfolding truth_by_all
  truth-known = known-all same_truth same_truth_lem L P m truth (λ s s' h. truth-depends x s s' e h) known_truth None picked-truth

  pub known-truth : (b : Bool) → ((s : State) → Holds L s → truth_in x s e ≡ b) → truth_by_all x L e ≡ known_truth b
  unfolding truth_by_all
  known-truth = all_known same_truth same_truth_lem L P m truth (λ s s' h. truth-depends x s s' e h) known_truth None picked-truth

  -- ---- document 01's reading
  abbrev look : ℕ → Number
  look = look_in L.tracked L.values

  look-says : (s : State) → Holds L s → (i : ℕ) → Says (look i) (value_of s i)
  unfolding look_in
  look-says s h i = go (has_bit L.tracked i) refl
    where
      go : (b : Bool) → has_bit L.tracked i ≡ b → Says (pick b (Some (get_or L.values i (pos 0))) None) (value_of s i)
      go true t = subst (λ (z : ℤ). Says (Some (get_or L.values i (pos 0))) z) (sym (h.agrees i (P.there i t) t)) Says.known
      go false t = Says.open-number

  pub three-way-number : (z : ℤ) → read_number x look e ≡ Some z → number_by_all x L e ≡ Some z
  three-way-number z k = known-number z (λ s h. known_is z (number-sound x look s (look-says s h) e) k)

  pub three-way-truth : (b : Bool) → read_truth x look e ≡ known_truth b → truth_by_all x L e ≡ known_truth b
  three-way-truth b k = known-truth b (λ s h. said b (truth-sound x look s (look-says s h) e) k)

  -- ---- the reading of 2.4 says nothing, or what is so in every state of the label
  says_all : (s : State) → Holds L s → (a : Number) → number_by_all x L e ≡ a → Says a (number_in x s e)
  says_all s h (Some z) q = rw (number-known z q s h) Says.known
  says_all s h None q = Says.open-number

  says-all-truth : (s : State) → Holds L s → (a : Truth) → truth_by_all x L e ≡ a → SaysT a (truth_in x s e)
  says-all-truth s h (Some true) q = rw (truth-known true q s h) SaysT.known-true
  says-all-truth s h (Some false) q = rw (truth-known false q s h) SaysT.known-false
  says-all-truth s h None q = SaysT.open-truth

  pub says-number : (s : State) → Holds L s → Says (number_read x L e) (number_in x s e)
  unfolding number_read
  says-number s h = go (leb (ways x L e) most_combinations)
    where
      go : (b : Bool) → Says (pick b (number_by_all x L e) (read_number x look e)) (number_in x s e)
      go true = says_all s h (number_by_all x L e) refl
      go false = number-sound x look s (look-says s h) e

  pub says_truth : (s : State) → Holds L s → SaysT (truth_read x L e) (truth_in x s e)
  unfolding truth_read
  says_truth s h = go (leb (ways x L e) most_combinations)
    where
      go : (b : Bool) → SaysT (pick b (truth_by_all x L e) (read_truth x look e)) (truth_in x s e)
      go true = says-all-truth s h (truth_by_all x L e) refl
      go false = truth-sound x look s (look-says s h) e

  -- ---- the reading of 2.4 up to the limit: known with a value if and only if every state of the label has it
  module _ (few : ways x L e ≤ most_combinations) where
    number-few : number_read x L e ≡ number_by_all x L e
    unfolding number_read
    number-few = rw (le-leb (ways x L e) most_combinations few) refl

    truth-few : truth_read x L e ≡ truth_by_all x L e
    unfolding truth_read
    truth-few = rw (le-leb (ways x L e) most_combinations few) refl

    pub number-complete : (z : ℤ) → (number_read x L e ≡ Some z → (s : State) → Holds L s → number_in x s e ≡ z) × (((s : State) → Holds L s → number_in x s e ≡ z) → number_read x L e ≡ Some z)
    number-complete z = (λ k. number-known z (sym number-few ∙ k), λ f. number-few ∙ known-number z f)

    pub truth-complete : (b : Bool) → (truth_read x L e ≡ known_truth b → (s : State) → Holds L s → truth_in x s e ≡ b) × (((s : State) → Holds L s → truth_in x s e ≡ b) → truth_read x L e ≡ known_truth b)
    truth-complete b = (λ k. truth-known b (sym truth-few ∙ k), λ f. truth-few ∙ known-truth b f)

  -- ---- document 01's reading, where it is known, stays
  pub number-stays : (z : ℤ) → number_three x L e ≡ Some z → number_read x L e ≡ Some z
  unfolding number_read
  number-stays z h = go (leb (ways x L e) most_combinations)
    where
      go : (b : Bool) → pick b (number_by_all x L e) (number_three x L e) ≡ Some z
      go true = three-way-number z h
      go false = h

  pub truth-stays : (a : Bool) → truth_three x L e ≡ known_truth a → truth_read x L e ≡ known_truth a
  unfolding truth_read
  truth-stays a h = go (leb (ways x L e) most_combinations)
    where
      go : (b : Bool) → pick b (truth_by_all x L e) (truth_three x L e) ≡ known_truth a
      go true = three-way-truth a h
      go false = h

  pub number-opens : number_read x L e ≡ None → number_three x L e ≡ None
  number-opens o = go (number_three x L e) refl
    where
      go : (a : Number) → number_three x L e ≡ a → a ≡ None
      go (Some z) q = let k : ◌≡◌ {A = ℕ} 0 1 = cc (number-stays z q) in absurd (omega arith)
      go None q = refl

  pub truth-opens : truth_read x L e ≡ None → truth_three x L e ≡ None
  truth-opens o = go (truth_three x L e) refl
    where
      go : (a : Truth) → truth_three x L e ≡ a → a ≡ None
      go (Some true) q = absurd (never-known true (sym o ∙ truth-stays true q))
      go (Some false) q = absurd (never-known false (sym o ∙ truth-stays false q))
      go None q = refl

  -- ---- where all that it mentions is tracked it is known; so where it is unknown, a variable is missing
  module _ (right : (i : ℕ) → i < x.count → EntryRight x L.variables i) where
    pub number-tracked : IsNumber x e → NoneFree L.variables (mentions x e) L.tracked → (z : ℤ) × (number_read x L e ≡ Some z)
    number-tracked i none = let w = number-told x L.variables right L.tracked L.values e none i in (w.0, number-stays w.0 w.1)

    pub truth-tracked : IsTruth x e → NoneFree L.variables (mentions x e) L.tracked → (b : Bool) × (truth_read x L e ≡ known_truth b)
    truth-tracked i none = let w = truth-told x L.variables right L.tracked L.values e none i in (w.0, truth-stays w.0 w.1)

    pub number-misses : IsNumber x e → number_read x L e ≡ None → Lowest L.variables (mentions x e) L.tracked (lacked_by x L e)
    number-misses i o = number-lacks x L.variables right L.tracked L.values e i (number-opens o)

    pub truth-misses : IsTruth x e → truth_read x L e ≡ None → Lowest L.variables (mentions x e) L.tracked (lacked_by x L e)
    truth-misses i o = truth-lacks x L.variables right L.tracked L.values e i (truth-opens o)
