-- `numbers::put_number`: the measure is the room for digits.
use Rattle.numbers.proofs.+put_number.Given as goal

abbrev pub decreases-put_number : goal.decreases-put_number
decreases-put_number l = l.places
