-- The count of the trailing zeros is the lowest bit.
use Rattle.numbers.proofs.Lowest.{trailing-lowest}
use Rattle.numbers.proofs.lowest_bit.Goals as goal

pub returns : goal.returns
returns c = trailing-lowest 64 c.args.number c.requires c.ranges.number.fits
