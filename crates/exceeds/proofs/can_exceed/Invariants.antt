-- `exceeds::can_exceed` meets its contract. The loop's invariant: no reading that the slot's can have become before
-- record i has more bindings than are counted. Assumes nothing.
use Rattle.std.proofs.Common.{◌+◌, ◌≤◌}
use Rattle.rule.specs.Promises.{most_bindings}
use Rattle.slots.specs.Slots.{held_in}
use Rattle.exceeds.proofs.Bounds.{Few}
use Rattle.exceeds.proofs.can_exceed.Given as goal

abbrev pub invariant-loop-i : goal.invariant-loop-i
invariant-loop-i l = (l.t.many + l.t.single ≤ most_bindings) × Few l.plan l.block l.fn.s.n l.fn.s.c (held_in l.slot).bindings l.j l.i l.t
