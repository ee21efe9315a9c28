-- `forward::pass` meets its contract: record by record as the rule scans the block, to a refusal or to the end.
-- Assumes nothing.
use Rattle.std.proofs.Common.{◌/◌, refl, ◌∙◌, arith}
use Rattle.std.proofs.lemmas.Result.{err_from_is_err_and}
use Rattle.plans.proofs.Plans.{sound-plan, classed-plan}
use Rattle.live.proofs.Halves.{start-in, start_small}
use Rattle.forward.proofs.AllRecords.{going_start, going-short, going-begun, going-gone, left-ready}
use Rattle.forward.proofs.AllRecords.{left-stands, left-short, front-short, stop-11, stop-9, stop-10, going_on}
use Rattle.forward.proofs.AllRecords.{end-11, end-ran, ran-refused}
use Rattle.forward.proofs.pass.Goals as goal

pub loop-i-init : goal.loop-i-init
loop-i-init c = let a = c.args in
    (going_start a.p a.block.now a.limit a.res.now a.work.now c.requires.1 c.requires.2, refl)

pub count_gone-gone-requires : goal.count_gone-gone-requires
count_gone-gone-requires c = let g = c.loop-i.invariant.0 in
    (start-in g.stands, omega arith, going-begun c.requires.0 g c.loop-i-test.true)

pub close_at-requires : goal.close_at-requires
close_at-requires c = let g = c.loop-i.invariant.0 in
    let q = c.requires.0 in
    let h = c.loop-i-test.true in
    let e = c.count_gone-gone.ensures in
    (omega (arith, going-gone q g h e, start-in g.stands), front-short q g h e, omega arith, g.room, g.few)

pub returns-in_err-tell : goal.returns-in_err-tell
returns-in_err-tell c = let a = c.args in
    let q = c.requires.0 in
    let same = err_from_is_err_and c.from_residual.result c.from_residual.ensures.1 in
    let told = c.in_err-tell.ensures in
    rw (same.1, same.2, told.0)
    (ran-refused a.p a.block.now a.limit a.res.now c.close_at.new.res _ 10 0 refl
    (stop-11 q c.loop-i.invariant.0 c.loop-i-test.true c.count_gone-gone.ensures c.gap_mark-gap.ensures c.weight-full.ensures told.1 refl))

pub can_at-can-requires : goal.can_at-can-requires
can_at-can-requires c = let q = c.requires.0 in
    let p = c.args.p in
    (sound-plan p q.pattern c.args.plan.now q.made, classed-plan p q.pattern c.args.plan.now q.made, q.pattern.few, q.pattern.few_conditions, omega arith)

pub without-requires : goal.without-requires
without-requires c = let g = c.loop-i.invariant.0 in
    (going-gone c.requires.0 g c.loop-i-test.true c.count_gone-gone.ensures, start_small g.stands)

pub move_on-stand-requires : goal.move_on-stand-requires
move_on-stand-requires c = let g = c.loop-i.invariant.0 in
    let q = c.requires.0 in
    let h = c.loop-i-test.true in
    let e = c.count_gone-gone.ensures in
    rw c.without.ensures record {
      stands = (left-stands q g h e, left-short q g h e, g.near);
      ready = (c.can_at-can.ensures.1, omega (arith, q.few), sound-plan c.args.p q.pattern c.args.plan.now q.made, left-ready q g h e);
    }

pub returns-then-stand : goal.returns-then-stand
returns-then-stand c = let a = c.args in
    let q = c.requires.0 in
    ran-refused a.p a.block.now a.limit a.res.now c.close_at.new.res _ 8 c.loop-i.i refl
    (stop-9 q c.loop-i.invariant.0 c.loop-i-test.true c.count_gone-gone.ensures c.gap_mark-gap.ensures c.weight-full.ensures c.in_ok-tell.ensures c.can_at-can.ensures.0 (rw c.without.ensures at c.move_on-stand.ensures) refl c.if-stand.true)

pub returns-then-limit-stand : goal.returns-then-limit-stand
returns-then-limit-stand c = let a = c.args in
    let q = c.requires.0 in
    ran-refused a.p a.block.now a.limit a.res.now c.close_at.new.res _ 9 c.loop-i.i refl
    (stop-10 q c.loop-i.invariant.0 c.loop-i-test.true c.count_gone-gone.ensures c.gap_mark-gap.ensures c.weight-full.ensures c.in_ok-tell.ensures c.can_at-can.ensures.0 (rw c.without.ensures at c.move_on-stand.ensures) refl c.if-stand.false c.if-limit-stand.true)

pub loop-i-preserved : goal.loop-i-preserved
loop-i-preserved c = let q = c.requires.0 in
    let moved = rw c.without.ensures at c.move_on-stand.ensures in
    (going_on q c.loop-i.invariant.0 c.loop-i-test.true c.count_gone-gone.ensures c.gap_mark-gap.ensures c.weight-full.ensures c.in_ok-tell.ensures c.can_at-can.ensures.0 moved refl c.max-peak.result c.if-stand.false c.if-limit-stand.false c.max-peak.ensures, c.move_on-stand.ensures.size ∙ c.loop-i.invariant.1)

pub close_all-requires : goal.close_all-requires
close_all-requires c = let g = c.loop-i.invariant.0 in
    (start-in g.stands, going-short c.requires.0 g, g.room, g.few)

pub returns-in_err-tell-2 : goal.returns-in_err-tell-2
returns-in_err-tell-2 c = let a = c.args in
    let same = err_from_is_err_and c.from_residual-in_err-tell-2.result c.from_residual-in_err-tell-2.ensures.1 in
    let told = c.in_err-tell-2.ensures in
    rw (same.1, same.2, told.0)
    (ran-refused a.p a.block.now a.limit a.res.now c.close_all.new.res _ 10 0 refl
    (end-11 c.requires.0 c.loop-i.invariant.0 c.loop-i-test.false (omega arith) c.weight-full.ensures told.1 refl))

pub returns : goal.returns
returns c = let t = c.in_ok-tell-2.tell in
    end-ran c.requires.0 c.loop-i.invariant.0 c.loop-i-test.false (omega arith) c.weight-full.ensures c.in_ok-tell-2.ensures
    (record { code = 0; place = 0; used = t.used / 2; readings = t.readings; peak = c.loop-i.peak }) refl refl
