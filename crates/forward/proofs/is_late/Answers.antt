-- `forward::is_late` meets its contract: a record more than the duration after the first. Assumes nothing.
use Rattle.std.proofs.Common.{ap, ◌∙◌, arith}
use lib.Dec.{ltb}
use Rattle.forward.proofs.Late.{start-held, late-held}
use Rattle.forward.proofs.is_late.Goals as goal

pub time_at-first-requires : goal.time_at-first-requires
time_at-first-requires c = let e = start-held c.args.slot.now c.requires.inside.2 in omega arith

pub returns : goal.returns
returns c = let a = c.args in
    ap (ltb a.duration) c.saturating_sub.ensures
    ∙ late-held a.block.now a.i a.duration a.slot.now c.binding_record.result c.requires.inside.2 c.binding_record.ensures c.time_at-first.result c.time_at-first.ensures c.time_at-time.result c.time_at-time.ensures
