-- `patterns::set_variables`: the pattern has the variables so far. Assumes nothing.
use Rattle.std.proofs.Common.{◌≡◌}
use Rattle.patterns.specs.Checked.{pattern_up_to}
use Rattle.patterns.proofs.set_variables.Given as goal

abbrev pub invariant-loop-v : goal.invariant-loop-v
invariant-loop-v l = l.p ≡ pattern_up_to l.pattern l.v 0
