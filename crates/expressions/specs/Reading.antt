-- Document 01, "Labels and the three-way reading".
-- Assumes nothing.
use Rattle.std.specs.Prelude.{ℕ, ◌/◌, ◌%◌, ◌^◌, Bool, true, false, List, get_or, eqb, ℤ, pos, None, Some}
use Rattle.folder.specs.Pick.{pick}
use Rattle.expressions.specs.Entries.{Entries}
use Rattle.expressions.specs.Levels.{Interpretation, number, truth}
use Rattle.whole.specs.Order.{eq_z}
use Rattle.expressions.specs.Operations.{arith_z, relates}
use Rattle.expressions.specs.declared.Arith.{Arith}
use Rattle.expressions.specs.declared.Relation.{Relation}
use Rattle.expressions.specs.declared.Join.{Join}
use Rattle.expressions.specs.declared.Join.TheVariants.{And, Or}
use Rattle.expressions.specs.ThreeWay.{Number, Truth}

abbrev pub known_truth : Bool → Truth
known_truth b = Some b

-- A number is known if and only if all its parts are known, an if's truth among them.
abbrev pub arith_n : Arith → Number → Number → Number
arith_n k (Some a) (Some b) = Some (arith_z k a b)
arith_n k (Some a) None = None
arith_n k None b = None

abbrev pub chosen : Truth → ℤ → ℤ → Number
chosen (Some true) a b = Some a
chosen (Some false) a b = Some b
chosen None a b = None

abbrev pub choose_n : Truth → Number → Number → Number
choose_n t (Some a) (Some b) = chosen t a b
choose_n t (Some a) None = None
choose_n t None b = None

-- A comparison is unknown unless both sides are known.
abbrev pub compare_n : Relation → Number → Number → Truth
compare_n k (Some a) (Some b) = known_truth (relates k a b)
compare_n k (Some a) None = None
compare_n k None b = None

-- Operation 11 turns true and false round and keeps unknown.
abbrev pub not_t : Truth → Truth
not_t (Some true) = Some false
not_t (Some false) = Some true
not_t None = None

-- Operation 12 is false if either part is false; otherwise it is unknown unless both are known.
abbrev pub and_t : Truth → Truth → Truth
and_t (Some true) b = b
and_t (Some false) b = Some false
and_t None (Some true) = None
and_t None (Some false) = Some false
and_t None None = None

-- Operation 13 is true if either part is true; otherwise it is unknown unless both are known.
abbrev pub or_t : Truth → Truth → Truth
or_t (Some true) b = Some true
or_t (Some false) b = b
or_t None (Some true) = Some true
or_t None (Some false) = None
or_t None None = None

abbrev pub join_t : Join → Truth → Truth → Truth
join_t And a b = and_t a b
join_t Or a b = or_t a b

-- A set has bit i for variable i.
unfoldable pub has_bit : ℕ → ℕ → Bool
has_bit t i = eqb (t / 2 ^ i % 2) 1

-- What a label says of variable i, where t is its set of tracked variables and v has their values: a variable is known
-- when it is tracked.
unfoldable pub look_in : ℕ → List ℤ → ℕ → Number
look_in t v i = pick (has_bit t i) (Some (get_or v i (pos 0))) None

-- `look i` is what a label says of variable i.
abbrev pub reading : (ℕ → Number) → Interpretation Number Truth
reading look = record {
  constant = λ z. Some z;
  variable = look;
  binary = λ k a b. arith_n k a b;
  choose = λ t a b. choose_n t a b;
  no_number = None;
  compare = λ k a b. compare_n k a b;
  negate = λ t. not_t t;
  join = λ k t u. join_t k t u;
  always = Some true;
  no_truth = None;
}

-- How entry e reads in a label, as a number and as a truth.
unfoldable pub read_number : Entries → (ℕ → Number) → ℕ → Number
read_number x look e = number (reading look) x e

unfoldable pub read_truth : Entries → (ℕ → Number) → ℕ → Truth
read_truth x look e = truth (reading look) x e

-- A reading is known, true, false; or known with this value.
abbrev pub is_known : Truth → Bool
is_known (Some true) = true
is_known (Some false) = true
is_known None = false

abbrev pub is_true : Truth → Bool
is_true (Some true) = true
is_true (Some false) = false
is_true None = false

abbrev pub is_false : Truth → Bool
is_false (Some true) = false
is_false (Some false) = true
is_false None = false

abbrev pub reads : Number → ℤ → Bool
reads (Some a) z = eq_z a z
reads None z = false
