-- `index::take` meets its contract: a record, and the events behind it that go on. Assumes nothing.
use Rattle.std.proofs.Common.{sym, ◌<◌, arith}
use Rattle.records.specs.Records.{record_count}
use Rattle.records.proofs.Runs.{ready, ready-event}
use Rattle.index.proofs.Runs.{counted_next}
use Rattle.index.proofs.take.Goals as goal

pub loop-at-init : goal.loop-at-init
loop-at-init c = let block = c.args.block.now in
    let i = c.args.i in
    let inside : i < record_count block = omega arith in
    let t = c.count_type.ensures in (
      counted_next block i c.args.counts.now _ c.args.seen.now _ c.requires.4 inside c.requires.3 t.1 t.0 c.mark_core.ensures,
      ready block i c.byte-high.result c.number4-low.result c.kind_at.result
          c.byte-high.ensures c.number4-low.ensures c.kind_at.ensures,
    )

pub loop-at-preserved : goal.loop-at-preserved
loop-at-preserved c = let block = c.args.block.now in
    let at = c.loop-at.at in
    let on = c.goes_on.ensures in
    let yes = c.if-not-goes_on.false in
    let t = c.count_type-in-loop-at.ensures in
    let inside : at < record_count block = omega arith in (
      counted_next block at c.loop-at.counts _ c.loop-at.seen _ c.loop-at.invariant.0 inside (on.good yes)
          t.1 t.0 c.mark_core-in-loop-at.ensures,
      ready-event block at c.byte-high.result c.number4-least.result (sym (on.same yes))
          c.number4-least.ensures (on.event yes),
    )
