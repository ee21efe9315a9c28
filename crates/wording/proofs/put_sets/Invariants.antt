-- `wording::put_sets` meets its contract. The loop's invariant: the lines of the first v variables have been put, the
-- last without its line feed. Assumes nothing.
use Rattle.numbers.specs.Put.{Put}
use Rattle.wording.specs.Wording.{sets_up_to}
use Rattle.wording.specs.Parts.{open_lines}
use Rattle.wording.proofs.put_sets.Given as goal

abbrev pub invariant-loop-v : goal.invariant-loop-v
invariant-loop-v l = Put l.initial.text l.text 0 (open_lines (sets_up_to l.p l.v)) l.end
