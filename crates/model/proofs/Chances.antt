-- What the rules give of a model's chances: weights total D, and a step from a state in range is in range.
-- Assumes nothing.
use Prim.Native.Nat.{ℕ, ◌+◌, ◌<◌, ◌≤◌}
use mathlib.Core.Path.{◌≡◌}
use native.Mathlib.Omega.{arith}
use borrow.Author.Tests.{lt-ltb}
use mathlib.Core.List.{List}
use lib.IntN.{ℤ, pos}
use Rattle.mdp.specs.Mdp.{Fair}
use Rattle.mdp.proofs.SumLaws.{sum_more}
use Rattle.folder.proofs.TabLaws.{length-tab, get_or-tab}
use Rattle.expressions.specs.Meaning.{State, value_of, number_in}
use Rattle.expressions.specs.Ranges.{span}
use Rattle.expressions.proofs.Interval.{In, in-bound-of, in-range, in-inside}
use Rattle.model.specs.Model.{Model, model_of, bound, first_record}
use Rattle.model.specs.Chances.{InRange, next, initial_state, mdp}
use Rattle.model.specs.Valid.{ModelRight}
use Rattle.model.specs.Step.{step_outcome}
use Rattle.model.proofs.Decided.{step-valid}
use Rattle.std.specs.Prelude.{Ok}

module _ (M : Model) where
  bound-here : (v : ℕ) → v < M.variables → bound M v ≡ span (M.low v) (M.high v)
  unfolding bound
  bound-here v l = rw (lt-ltb v M.variables l)

  -- Every variable of a state in range lies in its bound; past the last, both are 0.
  pub in_bounds : (s : State) → InRange M s → (v : ℕ) → In (bound M v) (value_of s v)
  unfolding bound
  in_bounds s h = in-bound-of M.variables M.low M.high s h.long (λ v l. record { low = h.low v l; high = h.high v l })

  module _ (R : ModelRight M) where
    pub fair : Fair (mdp M)
    fair = record { positive = omega (arith, R.total); totals = R.weights }

    -- A command's branches have records.
    pub records-end : (c : ℕ) → c < M.commands → first_record M c + M.branches c ≤ M.records
    records-end c l = omega (arith, R.records, sum_more M.commands M.branches c l)

    pub record-there : (c b : ℕ) → c < M.commands → b < M.branches c → first_record M c + b < M.records
    record-there c b l k = omega (arith, records-end c l)

    pub next-in-range : (c b : ℕ) → c < M.commands → b < M.branches c → (s : State) → InRange M s → InRange M (next M c b s)
    unfolding next
    next-in-range c b l k s h = record {
      long = length-tab M.variables _;
      low = λ v p. rw (get_or-tab (pos 0) M.variables (λ w. number_in M.entries s (M.assigned (first_record M c + b) w)) v p) (rw (bound-here v p) at (result v p).low);
      high = λ v p. rw (get_or-tab (pos 0) M.variables (λ w. number_in M.entries s (M.assigned (first_record M c + b) w)) v p) (rw (bound-here v p) at (result v p).high);
    }
      where
        result : (v : ℕ) → v < M.variables → In (bound M v) (number_in M.entries s (M.assigned (first_record M c + b) v))
        result v p = in-inside (in-range M.entries (bound M) s (in_bounds s h) (M.assigned (first_record M c + b) v)) ((R.branches (first_record M c + b) (record-there c b l k)).range v p)

    pub initial-in-range : InRange M (initial_state M)
    initial-in-range = record {
      long = length-tab M.variables M.initial;
      low = λ v p. rw (get_or-tab (pos 0) M.variables M.initial v p) (R.variables v p).initial-low;
      high = λ v p. rw (get_or-tab (pos 0) M.variables M.initial v p) (R.variables v p).initial-high;
    }

-- An accepted step's state is in range.
pub step-in-range : (m : List ℕ) (s : State) (c b : ℕ) (result : List ℤ) → step_outcome m s c b result ≡ (Ok tt) → InRange (model_of m) (next (model_of m) c b s)
step-in-range m s c b result e =
    let v = (step-valid m s c b result).0 e in
    let r = v.1 in
    next-in-range (model_of m) v.0.model c b r.command r.branch s (record { long = r.long; low = r.low; high = r.high })
