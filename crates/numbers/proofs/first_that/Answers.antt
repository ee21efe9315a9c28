-- `numbers::first_that` meets its contract. Assumes nothing.
use Rattle.std.proofs.Common.{arith, false, ◌≡◌, ◌∙◌, sym, below_more}
use Rattle.numbers.proofs.First.{first-at, first-none}
use Rattle.numbers.proofs.first_that.Goals as goal

pub returns-then-test : goal.returns-then-test
returns-then-test g c = λ p h.
    let v = c.loop-v.v in
    sym (first-at p c.args.n v c.loop-v-test.true (c.loop-v.invariant p h) (sym (h v c.test.result c.loop-v-test.true c.test.ensures) ∙ (cc)))

pub loop-v-preserved : goal.loop-v-preserved
loop-v-preserved g c = λ p h.
    let v = c.loop-v.v in
    below_more (λ k. p k ≡ false) v (c.loop-v.invariant p h) (sym (h v c.test.result c.loop-v-test.true c.test.ensures) ∙ (cc))

pub returns : goal.returns
returns g c = λ p h. sym (first-none p c.args.n (λ v l. c.loop-v.invariant p h v (omega arith)))
