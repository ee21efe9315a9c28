-- `index::take` meets its contract: a record, and the events behind it that go on. Assumes nothing.
use Rattle.records.specs.Runs.{Ready}
use Rattle.index.specs.Upto.{Counted}
use Rattle.index.proofs.take.Given as goal

abbrev pub invariant-loop-at : goal.invariant-loop-at
invariant-loop-at l = Counted l.block l.at l.counts l.seen × Ready l.block l.at l.high l.least
