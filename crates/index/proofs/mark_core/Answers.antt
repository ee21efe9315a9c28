-- `index::mark_core` meets its contract. Assumes nothing.
use Rattle.std.proofs.Common.{◌∙◌, sym, ap, true, Bool, List, arith}
use lib.ListN.{set}
use Rattle.index.proofs.Counted.{core-bound}
use Rattle.index.proofs.Cores.{seen-gap, seen-event}
use Rattle.index.proofs.mark_core.Goals as goal

pub bounds-seen-core_at : goal.bounds-seen-core_at
bounds-seen-core_at c = omega (arith, core-bound c.args.block.now c.args.i, c.core_at.ensures)

pub returns-then-kind_at-eq-EVENT : goal.returns-then-kind_at-eq-EVENT
returns-then-kind_at-eq-EVENT c =
    ap (λ (l : List Bool). set l c.core_at.result true) c.requires.1
    ∙ seen-event c.args.block.now c.args.i (sym c.kind_at.ensures ∙ c.if-kind_at-eq-EVENT.true) c.core_at.result c.core_at.ensures

pub returns-else-kind_at-eq-EVENT : goal.returns-else-kind_at-eq-EVENT
returns-else-kind_at-eq-EVENT c =
    c.requires.1 ∙ seen-gap c.args.block.now c.args.i (λ z. c.if-kind_at-eq-EVENT.false (c.kind_at.ensures ∙ z))
