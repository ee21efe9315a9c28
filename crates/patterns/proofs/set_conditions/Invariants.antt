-- `patterns::set_conditions`: the pattern has the conditions so far. Assumes nothing.
use Rattle.std.proofs.Common.{◌≡◌}
use Rattle.patterns.specs.Checked.{pattern_up_to}
use Rattle.patterns.proofs.set_conditions.Given as goal

abbrev pub invariant-loop-i : goal.invariant-loop-i
invariant-loop-i l = l.p ≡ pattern_up_to l.pattern l.n l.i
