-- An event that goes on is in order, and so the next one has to be as it says.
use Rattle.std.proofs.Common.{sym, arith}
use Rattle.records.proofs.Runs.{ready, ready-event}
use Rattle.records.proofs.Blocks.{run_more}
use Rattle.records.proofs.run_end.Goals as goal

pub loop-at-init : goal.loop-at-init
loop-at-init c = (
  omega arith,
  omega (arith, c.requires.0),
  run_more _ c.args.i c.args.i (λ j l m. absurd (omega arith)) c.requires.2,
  ready _ c.args.i _ _ _ c.byte-high.ensures c.number4-low.ensures c.kind_at.ensures,
)

pub loop-at-preserved : goal.loop-at-preserved
loop-at-preserved c =
    let on = c.goes_on.ensures in
    let yes = c.if-not-goes_on.false in
    let inv = c.loop-at.invariant in (
      omega (arith, inv.0),
      omega arith,
      run_more _ c.args.i c.loop-at.at inv.2 (on.good yes),
      ready-event _ c.loop-at.at _ _ (sym (on.same yes)) c.number4-least.ensures (on.event yes),
    )
