-- What the figure call has where rows 26 to 28 hold: rows that are long enough, and the part that it hands back.
-- Assumes nothing.
use Prim.Native.Nat.{ℕ, ◌%◌, ◌≤◌}
use mathlib.Core.Path.{◌≡◌, sym, ap, ◌∙◌}
use mathlib.Core.List.{List, ◌++◌}
use borrow.Author.Tests.{eq-eqb, ne_eqb}
use lib.ListN.{length, take}
use lib.Seq.{take_at}
use Rattle.folder.specs.Table.{outcome, Outcome}
use Rattle.folder.proofs.TableLaws.{accepted-asks}
use Rattle.model.specs.Model.{Model, model_of}
use Rattle.graph.specs.Simulation.{Simulation, simulation_of}
use Rattle.graph.specs.Figures.{figures, figure_rows, first_of, second_of, part_of}
use Rattle.graph.specs.Valid.{Valid}
use Rattle.graph.proofs.Decided.{figure-asks}
use Rattle.rounds.proofs.FigureLaws.{figures-long}
use Rattle.std.specs.Prelude.{Ok}

module _ (m g : List ℕ) (h : ℕ) (first second : List ℕ) where
  abbrev M : Model
  M = model_of m

  abbrev G : Simulation
  G = simulation_of M g

  abbrev answer : Outcome
  answer = outcome (figure_rows G h first second)

  module _ {o : Outcome} (e : o ≡ answer) where
    -- Accepted, the rows are long enough for the rounds.
    pub rows_long : o ≡ (Ok tt) → (G.nodes ≤ length first) × (G.nodes ≤ length second)
    rows_long t =
        let r = (accepted-asks (figure-asks G h first second)).0 (sym e ∙ t) in
        (r.first-long, r.second-long)

    -- The part's elements.
    module _ (t : o ≡ (Ok tt)) where
      accepted : answer ≡ (Ok tt)
      accepted = sym e ∙ t

      module _ (A : Valid m g) {n : ℕ} (q : n ≡ G.nodes) where
        held : (rest : List ℕ) → take n (figures M G h ++ rest) ≡ figures M G h
        held rest = take_at (figures M G h) rest n (figures-long A h ∙ sym q)

        pub first-held : {a : List ℕ} → a ≡ first_of M G h answer first → h % 2 ≡ 0 → take n a ≡ part_of M G h answer
        first-held p z = rw (p, accepted, eq-eqb (h % 2) 0 z) (held _)

        pub second-held : {b : List ℕ} → b ≡ second_of M G h answer second → (h % 2 ≡ 0 → ⊥) → take n b ≡ part_of M G h answer
        second-held p z = rw (p, accepted, ne_eqb h 0 (λ k. z (ap (λ (j : ℕ). j % 2) k)), ne_eqb (h % 2) 0 z) (held _)

        pub part_length : n ≡ length (part_of M G h answer)
        part_length = rw accepted (q ∙ sym (figures-long A h))
