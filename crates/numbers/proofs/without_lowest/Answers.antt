-- `numbers::without_lowest` meets its contract. Assumes nothing.
use Rattle.numbers.proofs.Lowest.{and-lowest}
use Rattle.numbers.proofs.without_lowest.Goals as goal

pub returns : goal.returns
returns c v l = and-lowest c.args.number v c.requires l.here l.none
