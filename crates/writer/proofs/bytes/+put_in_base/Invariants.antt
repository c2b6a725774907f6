-- The measure is the number: the call within is at the number without its last digit.
use Rattle.writer.proofs.bytes.+put_in_base.Given as goal

abbrev pub decreases-put_in_base : goal.decreases-put_in_base
decreases-put_in_base g l = l.n
