-- `live::begin_one` meets its contract: one reading where the variable leaves the state without bindings, none
-- otherwise. Assumes nothing.
use Rattle.std.proofs.Common.{sym}
use Rattle.slots.specs.Slots.{held_in}
use Rattle.live.specs.Live.{unbound}
use Rattle.live.proofs.Adding.{added-first, added-none-first}
use Rattle.live.proofs.begin_one.Goals as goal

pub returns-then-leaves : goal.returns-then-leaves
unfolding unbound
returns-then-leaves c = let a = c.args in
    added-first a.plan.now a.i a.v (held_in c.empty_slot-none.result) c.empty_slot-none.ensures.0
    (sym c.if-leaves.ensures) c.emit_bound.ensures

pub returns-else-leaves : goal.returns-else-leaves
returns-else-leaves c = added-none-first c.args.plan.now c.args.i c.args.v (sym c.if-leaves.ensures)
