use Rattle.std.proofs.Common.{rules}
use Rattle.tables.proofs.Filling.{read_more}
use Rattle.tables.proofs.read_full.Goals as goal

pub loop-done-preserved : goal.loop-done-preserved
loop-done-preserved g c =
    (search rules, search rules, read_more _ _ _ _ _ _ _ _ c.loop-done.invariant.1 c.in_ok-n.ensures.bound.0 c.loop-done.invariant.2 c.in_ok-n.ensures.bytes.0)
