-- Document 01, "Pedal example": what the check program prints.
-- Assumes nothing.
use Rattle.std.specs.Prelude.{ℕ, ◌+◌, List, [], ◌++◌, eqb, Err, Ok}
use Rattle.mdp.specs.Graph.{figure}
use Rattle.folder.specs.Pick.{pick}
use Rattle.folder.specs.declared.Refusal.{Refusal}
use Rattle.text.specs.Text.{ascii, decimal}
use Rattle.model.specs.Model.{model_of}
use Rattle.model.specs.Chances.{mdp}
use Rattle.graph.specs.Limits.{units}
use Rattle.graph.specs.Simulation.{simulation_of, graph}
use Rattle.graph.specs.Table.{graph_answer, GraphAnswer}
use Rattle.graph.specs.declared.Summary.{Summary}

-- The counts.
abbrev pub counts_line : Summary → List ℕ
counts_line s =
    ascii "accepted "
    ++ (decimal (s.expanded + s.covered + s.target + s.waiting) ++ ascii " nodes ")
    ++ (decimal s.expanded ++ ascii " expanded ")
    ++ (decimal s.covered ++ ascii " covered ")
    ++ (decimal s.target ++ ascii " target ")
    ++ (decimal s.waiting ++ ascii " waiting\n")

-- The root value.
abbrev pub root_line : ℕ → List ℕ
root_line root = ascii "root " ++ (decimal root ++ ascii "\n")

-- The root's figure for h steps.
abbrev pub within_line : ℕ → ℕ → List ℕ
within_line h f = ascii "within " ++ (decimal h ++ ascii " ") ++ (decimal f ++ ascii "\n")

-- And for 0 to 3 steps.
abbrev pub figure_lines : ℕ → ℕ → ℕ → ℕ → List ℕ
figure_lines f0 f1 f2 f3 = within_line 0 f0 ++ within_line 1 f1 ++ within_line 2 f2 ++ within_line 3 f3

-- A refusal is one line, number and place.
abbrev pub refused_line : Refusal → List ℕ
refused_line f = ascii "refused " ++ decimal f.number ++ ascii " " ++ decimal f.place ++ ascii "\n"

-- What is printed of an answer, `root h` being the root's figure for h steps: the figures only if no node is waiting.
abbrev pub text_of : GraphAnswer → (ℕ → ℕ) → List ℕ
text_of (Ok s) root =
    counts_line s ++ root_line s.root
    ++ pick (eqb s.waiting 0) (figure_lines (root 0) (root 1) (root 2) (root 3)) []
text_of (Err f) root = refused_line f

-- The root's figure for h steps.
abbrev pub root_figure : List ℕ → List ℕ → ℕ → ℕ
root_figure m g h = figure (mdp (model_of m)) (graph (simulation_of (model_of m) g)) units h 0

-- What the check program prints of two files' bytes.
unfoldable pub report_text : List ℕ → List ℕ → List ℕ
report_text m g = text_of (graph_answer m g) (root_figure m g)

-- The lines for a file that cannot be read, and for one that is too long.
abbrev pub no_file : List ℕ
no_file = ascii "no file\n"

abbrev pub too_long : List ℕ
too_long = ascii "too long\n"
