-- Document 02, 2.5: how a graph is built, one move after the other.
-- Assumes nothing.
use Rattle.std.specs.Prelude.{ℕ, zero, suc, ◌+◌, ◌^◌, Bool, true, false, ◌&&◌, [], get_or, leb, Err, Ok, Option, None, Some}
use Rattle.mdp.specs.Kinds.{Kind}
use Rattle.folder.specs.Pick.{pick, implies}
use Rattle.folder.specs.Scan.{all}
use Rattle.expressions.specs.Meaning.{truth_in}
use Rattle.expressions.specs.Reading.{has_bit}
use Rattle.expressions.specs.Mentions.{union}
use Rattle.expressions.specs.States.{number_told, truth_told}
use Rattle.expressions.specs.ThreeWay.{NumberReading, TruthReading}
use Rattle.model.specs.Model.{Model, first_record}
use Rattle.model.specs.Chances.{initial_state}
use Rattle.building.specs.First.{◌orelse◌, given, onward, first, put, grown}
use Rattle.building.specs.Building.{Building, start_set, enabled, births, offspring, is_open, child_by, label_at, contains}
use Rattle.building.specs.Length.{length_with}

-- A repair: node n tracks variable v; n tracks what its cover tracks; n's cover is dropped. Or n, which waits, is covered
-- by c, becomes a target, or is expanded.
pub data Move : Type 0 where
  track : ℕ → ℕ → Move
  adopt : ℕ → Move
  drop : ℕ → Move
  cover_by : ℕ → ℕ → Move
  reach : ℕ → Move
  expand : ℕ → Move

-- ---- what a move does

abbrev pub tracking : ℕ → ℕ → Building → Building
tracking n t B =
    record { nodes = B.nodes; kind = B.kind; cover = B.cover; tracked = put n t B.tracked; state = B.state; child = B.child }

abbrev pub becoming : ℕ → Kind → ℕ → Building → Building
becoming n k c B =
    record { nodes = B.nodes; kind = put n k B.kind; cover = put n c B.cover; tracked = B.tracked; state = B.state; child = B.child }

module _ (M : Model) where
  -- One new node per branch, numbered in edge order.
  abbrev pub expanding : ℕ → Building → Building
  expanding n B = record {
    nodes = B.nodes + births M (B.state n);
    kind = grown B.nodes (put n Kind.expanded B.kind) (λ j. Kind.waiting);
    cover = grown B.nodes B.cover (λ j. 0);
    tracked = grown B.nodes B.tracked (λ j. start_set M);
    state = grown B.nodes B.state (λ j. get_or (offspring M (B.state n) M.commands) j []);
    child = put n B.nodes B.child;
  }

  -- A variable is tracked with its concrete value. A node that is dropped keeps its label.
  abbrev pub apply : Move → Building → Building
  apply (track n v) B = tracking n (union (B.tracked n) (2 ^ v)) B
  apply (adopt n) B = tracking n (union (B.tracked n) (B.tracked (B.cover n))) B
  apply (drop n) B = becoming n Kind.waiting 0 B
  apply (cover_by n c) B = becoming n Kind.covered c B
  apply (reach n) B = becoming n Kind.target 0 B
  apply (expand n) B = expanding n B

  -- The root alone, waiting.
  abbrev pub seed : Building
  seed = record {
    nodes = 1;
    kind = λ n. Kind.waiting;
    cover = λ n. 0;
    tracked = λ n. start_set M;
    state = put 0 (initial_state M) (λ n. []);
    child = λ n. 0;
  }

-- ---- which move is next

-- The variable that an unknown reading lacks (2.2).
abbrev pub wanted_t : TruthReading → Option ℕ
wanted_t (Ok true) = None
wanted_t (Ok false) = None
wanted_t (Err v) = Some v

abbrev pub wanted_n : NumberReading → Option ℕ
wanted_n (Ok z) = None
wanted_n (Err v) = Some v

-- A node that waits.
abbrev pub waits : Kind → ℕ → Option ℕ
waits Kind.waiting n = Some n
waits Kind.expanded n = None
waits Kind.covered n = None
waits Kind.target n = None

module _ (M : Model) (B : Building) where
  -- Of node n's label: what entry e wants as a truth, and as a number.
  unfoldable pub truth_wants : ℕ → ℕ → Option ℕ
  truth_wants n e = wanted_t (truth_told M.entries (label_at M B n) e)

  unfoldable pub number_wants : ℕ → ℕ → Option ℕ
  number_wants n e = wanted_n (number_told M.entries (label_at M B n) e)

  -- 19: the guards by command. 21: edges, branches, and the variables that the child tracks, upward.
  unfoldable pub guards_want : ℕ → Option ℕ
  guards_want n = first M.commands (λ c. truth_wants n (M.guard c))

  unfoldable pub result_wants : ℕ → ℕ → ℕ → Option ℕ
  result_wants n c b =
      first M.variables (λ v. given (has_bit (B.tracked (child_by M B n c b)) v) (number_wants n (M.assigned (first_record M c + b) v)))

  unfoldable pub results_want : ℕ → Option ℕ
  results_want n = first M.commands (λ c. given (enabled M (B.state n) c) (first (M.branches c) (result_wants n c)))

  -- 19, then 21, of an expanded node; 19 of a target.
  abbrev pub expanded_wants : ℕ → Option ℕ
  expanded_wants n = guards_want n orelse truth_wants n M.target orelse results_want n

  -- 23: the cover's label contains the concrete state. 24: the node tracks what the cover tracks.
  abbrev pub covered : ℕ → Bool
  covered n = contains M B (B.cover n) (B.state n)

  unfoldable pub adopted : ℕ → Bool
  adopted n = all (λ v. implies (has_bit (B.tracked (B.cover n)) v) (has_bit (B.tracked n) v)) M.variables

  -- The repair of node n's first broken rule, if it has one.
  abbrev pub repair_as : ℕ → Kind → Option Move
  repair_as n Kind.waiting = None
  repair_as n Kind.expanded = onward (expanded_wants n) (λ v. Some (track n v))
  repair_as n Kind.covered = pick (covered n) (pick (adopted n) None (Some (adopt n))) (Some (drop n))
  repair_as n Kind.target = onward (truth_wants n M.target) (λ v. Some (track n v))

  abbrev pub repair : ℕ → Option Move
  repair n = repair_as n (B.kind n)

  -- The lowest node that waits, and the lowest that can cover node n.
  unfoldable pub lowest_waiting : Option ℕ
  lowest_waiting = first B.nodes (λ n. waits (B.kind n) n)

  abbrev pub can_cover : ℕ → ℕ → Bool
  can_cover n c = is_open (B.kind c) && contains M B c (B.state n)

  unfoldable pub lowest_cover : ℕ → Option ℕ
  lowest_cover n = first B.nodes (λ c. given (can_cover n c) (Some c))

-- How many nodes and how many bytes there may be.
pub record Limit : Type 0 where
  pub most : ℕ
  pub longest : ℕ

module _ (M : Model) (P : Limit) (B : Building) where
  -- The graph has room for node n's children and edges.
  abbrev pub room : ℕ → Bool
  room n = leb (B.nodes + births M (B.state n)) P.most && leb (length_with M B n) P.longest

  unfoldable pub opening : ℕ → Option Move
  opening n = pick (truth_in M.entries (B.state n) M.target) (Some (reach n)) (given (room n) (Some (expand n)))

  -- What becomes of node n, which waits.
  abbrev pub growth : ℕ → Option Move
  growth n = onward (lowest_cover M B n) (λ c. Some (cover_by n c)) orelse opening n

  -- While a rule is broken, the lowest node with one has its first repaired; then the lowest waiting node goes on.
  unfoldable pub next_move : Option Move
  next_move = first B.nodes (repair M B) orelse onward (lowest_waiting M B) growth

-- Building: the next move, as long as there is one.
abbrev pub moved : Model → Option Move → Building → Building
moved M None B = B
moved M (Some m) B = apply M m B

module _ (M : Model) (P : Limit) where
  unfoldable pub advance : Building → Building
  advance B = moved M (next_move M P B) B

  unfoldable pub after : ℕ → Building → Building
  after zero B = B
  after (suc k) B = after k (advance B)
