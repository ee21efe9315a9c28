-- `numbers::count_that` meets its contract. Assumes nothing.
use Rattle.std.proofs.Common.{arith, ◌≤◌, refl, sym}
use Rattle.numbers.proofs.Count.{count_none, count-more, one_if-bound}
use Rattle.numbers.proofs.count_that.Goals as goal

pub loop-v-init : goal.loop-v-init
loop-v-init g c = (omega arith, λ p _. sym (count_none p))

pub loop-v-preserved : goal.loop-v-preserved
loop-v-preserved g c =
    let one : c.one_if-passed.result ≤ 1 = rw c.one_if-passed.ensures (one_if-bound c.test.result) in (
      omega arith,
      λ p h. rw (c.one_if-passed.ensures, h c.loop-v.v c.test.result c.loop-v-test.true c.test.ensures, c.loop-v.invariant.1 p h, count-more p c.loop-v.v) refl,
    )
