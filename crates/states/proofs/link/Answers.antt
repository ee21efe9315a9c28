-- `states::link`: one variable after another is linked. Assumes nothing.
use Rattle.std.proofs.Common.{arith}
use Rattle.states.proofs.States.{linking-more, small-variable, small-state}
use Rattle.states.proofs.link.Goals as goal

pub put_fresh-requires : goal.put_fresh-requires
put_fresh-requires c = let h = c.loop-rest in (
  c.requires.0,
  h.invariant.1.few,
  rw c.with_bit.ensures
      (small-state _ _ _ _ _ _ _ _ _ _ _ _ _ h.invariant.1 c.lowest_bit-v.ensures c.requires.1 h.invariant.0),
)

pub bounds-links-at : goal.bounds-links-at
bounds-links-at c = let h = c.loop-rest in
    let v = small-variable _ _ _ _ _ _ _ _ _ _ _ _ _ h.invariant.1 c.lowest_bit-v.ensures c.requires.1 h.invariant.0 in
    omega (arith, c.requires.1, c.requires.2)

pub loop-rest-preserved : goal.loop-rest-preserved
loop-rest-preserved c = let h = c.loop-rest in
    let a = c.args in (
      h.invariant.0,
      rw c.without_bit-rest.ensures
          (linking-more _ _ _ _ _ _ _ _ _ _ _ _ _ h.invariant.1 c.lowest_bit-v.ensures c.requires.1 h.invariant.0
          _ _ _
          (rw c.with_bit.ensures at c.in_ok-to.ensures)
          c.if-to-at.false
          c.max-more.ensures),
    )
