-- `states::list_states`: one state after another is linked. Assumes nothing.
use Rattle.std.proofs.Common.{arith}
use Rattle.states.proofs.States.{listed_more}
use Rattle.states.proofs.Fresh.{leaves-bound}
use Rattle.states.proofs.list_states.Goals as goal

pub link-requires : goal.link-requires
link-requires c = let l = c.loop-at.invariant.1 in (
  c.requires.0,
  c.loop-at-test.true,
  l.few,
  rw c.leaves_from-leave.ensures (leaves-bound _ _ _ c.requires.0),
  l.stands,
)

pub loop-at-preserved : goal.loop-at-preserved
loop-at-preserved c = let l = c.loop-at.invariant.1 in
    let linked = c.in_ok-count.ensures in
    let from = linked.1.from in (
      omega arith,
      listed_more _ _ c.requires.0 _ _ _ _ _ _ _ _ _ l c.loop-at-test.true c.leaves_from-leave.ensures linked.1 linked.0,
    )
