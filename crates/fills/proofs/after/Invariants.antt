-- `fills::after` meets its contract. The loop's invariant: all of x but `left` variables is the most that a reading has
-- bound before record i, and none has bound all of x before an earlier one. Assumes nothing.
use Rattle.std.proofs.Common.{◌<◌}
use Rattle.fills.specs.Filling.{Lacks, Late}
use Rattle.fills.proofs.after.Given as goal

abbrev pub invariant-loop-i : goal.invariant-loop-i
invariant-loop-i l = (0 < l.left) × Lacks l.plan l.block l.fn.s l.slot l.j l.x l.i l.left × Late l.plan l.block l.fn.s l.slot l.j l.x l.i
