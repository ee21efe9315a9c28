-- `patterns::raised_signed` gives 32 bits, read as two's complement, raised by 2^31. Assumes nothing.
use Rattle.patterns.proofs.Comparison.{raise-signed}
use Rattle.patterns.proofs.raised_signed.Goals as goal

pub returns : goal.returns
returns c = raise-signed c.args.word c.ranges.word.fits
