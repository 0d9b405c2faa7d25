-- `console::fold_pieces` is safe and ends: the measure is the number of pieces that may still come. Assumes nothing.
use Rattle.console.proofs.fold_pieces.Given as goal

abbrev pub decreases-loop-count : goal.decreases-loop-count
decreases-loop-count g l = l.left
