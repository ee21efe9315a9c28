-- `fills::needed` meets its contract: what some variables of the set need, the set needs. Assumes nothing.
use Rattle.std.proofs.Common.{◌≡◌, true, ℕ, ◌^◌, ◌≤◌, ◌<◌}
use Rattle.numbers.specs.Bits.{bit}
use Rattle.patterns.specs.Patterns.{most_variables}
use Rattle.fills.specs.Filling.{Late}
use Rattle.fills.proofs.needed.Given as goal

abbrev pub invariant-loop-x : goal.invariant-loop-x
invariant-loop-x l = record {
  small : l.x < 2 ^ most_variables;
  part : (v : ℕ) → bit l.x v ≡ true → bit l.set v ≡ true;
  after : l.from ≤ l.most;
  inside : l.most ≤ l.s.until;
  late : Late l.plan l.block l.s l.slot l.j l.set l.most;
}

abbrev pub decreases-loop-x : goal.decreases-loop-x
decreases-loop-x l = l.x
