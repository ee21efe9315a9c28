-- `numbers::copy` meets its contract: the bytes before i are those copied. Assumes nothing.
use Rattle.std.proofs.Common.{◌≡◌, ◌++◌, length, take, drop}
use Rattle.numbers.proofs.copy.Given as goal

abbrev pub invariant-loop-i : goal.invariant-loop-i
invariant-loop-i l = (length l.to ≡ length l.from) × (l.to ≡ take l.i l.from ++ drop l.i l.initial.to)
