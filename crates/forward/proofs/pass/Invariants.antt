-- `forward::pass` meets its contract: record by record as the rule scans the block, to a refusal or to the end.
-- Assumes nothing.
use Rattle.std.proofs.Common.{◌≡◌, length}
use Rattle.forward.proofs.AllRecords.{Going}
use Rattle.forward.proofs.pass.Given as goal

abbrev pub invariant-loop-i : goal.invariant-loop-i
invariant-loop-i l = Going l.p l.block l.limit l.initial.res l.i l.work l.res l.stand.half l.stand.start l.stand.count l.stand.over l.tell.used l.tell.readings l.peak × (length l.work ≡ length l.initial.work)
