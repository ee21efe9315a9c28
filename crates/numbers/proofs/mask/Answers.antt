-- `numbers::mask` meets its contract. Assumes nothing.
use Rattle.std.proofs.Common.{arith, ◌≡◌, ◌^◌, ◌<◌, ◌≤◌, ◌+◌, refl, sym, lt_of_lt_of_le, pow_mono}
use Rattle.numbers.proofs.Bits.{mask-more, mask-none, more-below}
use Rattle.numbers.proofs.mask.Goals as goal

pub loop-v-init : goal.loop-v-init
loop-v-init g c = (omega arith, λ p _. sym (mask-none p))

pub loop-v-preserved : goal.loop-v-preserved
loop-v-preserved g c = (
  rw c.weight_if-bits.ensures (more-below c.test.result c.loop-v.bits c.loop-v.v c.loop-v.invariant.0),
  λ p h. rw (c.weight_if-bits.ensures, h c.loop-v.v c.test.result c.loop-v-test.true c.test.ensures, c.loop-v.invariant.1 p h, mask-more p c.loop-v.v) refl,
)

pub overflow_add-bits : goal.overflow_add-bits
overflow_add-bits g c =
    let small : c.loop-v.v + 1 ≤ 64 = omega arith in
    let below : c.loop-v.bits + c.weight_if-bits.result < 2 ^ (c.loop-v.v + 1) =
    rw c.weight_if-bits.ensures (more-below c.test.result c.loop-v.bits c.loop-v.v c.loop-v.invariant.0) in
    let fits : c.loop-v.bits + c.weight_if-bits.result < 2 ^ 64 = lt_of_lt_of_le below (pow_mono small) in
    omega arith

pub returns : goal.returns
returns g c = let e : c.loop-v.v ≡ c.args.n = omega arith in λ p h. rw (← e) (c.loop-v.invariant.1 p h)
