-- `firing::agrees` meets its contract: the order mark, and if it is met the conditions. Assumes nothing.
use Rattle.std.proofs.Common.{◌∙◌, sym, ap₂, Bool, ◌&&◌}
use Rattle.slots.specs.Slots.{held_in, bindings_in, count_in}
use Rattle.firing.proofs.Joins.{joins-none}
use Rattle.firing.proofs.agrees.Goals as goal

pub returns-then-joins-eq0 : goal.returns-then-joins-eq0
unfolding held_in
returns-then-joins-eq0 c = let a = c.args in
    let none = joins-none a.plan.now a.block.now a.i a.v (bindings_in a.slot.now (count_in a.slot.now)) (sym c.joins.ensures ∙ c.if-joins-eq0.true) in
    rw c.if-joins-eq0.true (sym (ap₂ (λ (s t : Bool). s && t) (sym c.is_later.ensures ∙ c.if-is_later.true) none))

pub returns-else-joins-eq0 : goal.returns-else-joins-eq0
unfolding held_in
returns-else-joins-eq0 c = sym (ap₂ (λ (s t : Bool). s && t) (sym c.is_later.ensures ∙ c.if-is_later.true) (sym c.joins_hold.ensures))
