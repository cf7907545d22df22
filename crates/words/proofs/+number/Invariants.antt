-- The measure of the cycle of calls {number}: the number itself. Assumes nothing.
use Rattle.words.proofs.+number.Given as goal

abbrev pub decreases-number : goal.decreases-number
decreases-number l = l.v
