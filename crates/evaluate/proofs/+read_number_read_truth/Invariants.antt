use Rattle.evaluate.proofs.+read_number_read_truth.Given as goal

-- The measure is the levels left.
abbrev pub decreases-read_number : goal.decreases-read_number
decreases-read_number l = l.left

abbrev pub decreases-read_truth : goal.decreases-read_truth
decreases-read_truth l = l.left
