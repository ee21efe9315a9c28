-- `firing::settle_both` meets its contract: the two values, raised, say what each condition says. Assumes nothing.
use Rattle.std.proofs.Common.{rules}
use Rattle.records.specs.Records.{record_at}
use Rattle.patterns.specs.Patterns.{condition_of}
use Rattle.firing.proofs.Settling.{sides-settled}
use Rattle.firing.proofs.settle_both.Goals as goal

pub returns : goal.returns
returns c = let a = c.args in
    c.settle.ensures a.block.now a.i (λ word s kind post m.
    sides-settled (condition_of word) kind.other kind.attribute m s.0 s.1 (record_at a.block.now a.i) (search rules) (search rules))
