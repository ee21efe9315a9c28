-- `exceeds::open_of` meets its contract: the bits of the second mask are as many as pass. Assumes nothing.
use Rattle.std.proofs.Common.{rules, ap, ◌∙◌, ◌≡◌}
use lib.Count.{ones}
use Rattle.numbers.specs.Bits.{mask}
use Rattle.reach.proofs.Ones.{ones-mask}
use Rattle.exceeds.specs.Open.{once_by}
use Rattle.exceeds.proofs.open_of.Goals as goal

pub returns : goal.returns
returns c =
    let a = c.args in
    let once : c.mask-once.result ≡ mask (once_by a.plan.now a.state) a.n = search rules in
    record { again = search rules; once = once; singles = ap ones once ∙ ones-mask (once_by a.plan.now a.state) a.n }
