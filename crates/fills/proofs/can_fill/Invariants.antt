-- `fills::can_fill` meets its contract. The loop's invariant: no reading has bound a variable outside `reached` before
-- record `from`, and where all of it is bound, the latest binding is the last of the first `last` records or behind
-- them. Assumes nothing.
use Rattle.std.proofs.Common.{◌≤◌}
use Rattle.fills.specs.Filling.{Within}
use Rattle.fills.specs.Opening.{LastAt}
use Rattle.fills.proofs.can_fill.Given as goal

abbrev pub invariant-loop : goal.invariant-loop
invariant-loop l = record {
  after : l.j ≤ l.from;
  inside : l.from ≤ l.s.until;
  within : Within l.plan l.block l.s l.slot l.j l.reached l.from;
  behind : l.last ≤ l.from;
  latest : LastAt l.plan l.block l.s l.slot l.j l.reached l.last l.from;
}
