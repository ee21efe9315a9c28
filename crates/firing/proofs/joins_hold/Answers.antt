-- `firing::joins_hold` meets its contract. The outer loop's invariant: the conditions whose bits are left are to be
-- tested, and all others hold. The inner loop's: the condition holds with each binding passed. Assumes nothing.
use Rattle.std.proofs.Common.{arith, ◌≡◌, ◌∙◌, refl, sym, ap, subst, true, false, ℕ, ◌<◌}
use Rattle.records.specs.Records.{record_at}
use Rattle.patterns.specs.declared.Condition.{Condition}
use Rattle.patterns.specs.Patterns.{condition_of}
use Rattle.automaton.specs.Filtering.{all}
use Rattle.slots.specs.Slots.{bindings_in, count_in, state_in}
use Rattle.plans.specs.Plan.{condition_in}
use Rattle.plans.proofs.Plans.{condition-variable, condition-variable2}
use Rattle.firing.specs.Firing.{pair_meets}
use Rattle.firing.proofs.Slots.{binding_at, binding-among}
use Rattle.firing.proofs.Joins.{value_read, bound-read, meets-read, tried-none, tried-more, tried-all}
use Rattle.firing.proofs.Joins.{tried-fails, tried-free, left-all, left_below, left_less, joins-done}
use Rattle.firing.proofs.Joins.{joins-fail, joins-none}
use Rattle.firing.proofs.joins_hold.Goals as goal

pub returns-then-rest-eq0 : goal.returns-then-rest-eq0
returns-then-rest-eq0 c = let a = c.args in
    sym (joins-none a.plan.now a.block.now a.i a.v (bindings_in a.slot.now (count_in a.slot.now)) (sym c.joins-rest.ensures ∙ c.if-rest-eq0.true))

pub conditions-init : goal.conditions-init
conditions-init c = let a = c.args in
    (refl, rw c.joins-rest.ensures (left-all a.plan.now a.block.now a.i a.v (bindings_in a.slot.now (count_in a.slot.now)) (c.requires.0.sound.joins a.v c.requires.1)))

pub condition-word-requires : goal.condition-word-requires
condition-word-requires c = let a = c.args in
    left_below a.plan.now a.block.now a.i a.v (bindings_in a.slot.now (count_in a.slot.now)) c.conditions.rest c.conditions.invariant.1 _ c.lowest_bit-at.ensures.here

pub is_bound-requires : goal.is_bound-requires
is_bound-requires c = let read = c.unpack_condition-k.ensures in
    (omega (arith, ap (λ (k : Condition). k.variable) read, condition-variable c.condition-word.result), omega (arith, ap (λ (k : Condition). k.variable2) read, condition-variable2 c.condition-word.result))

pub conditions-preserved-then-not-is_bound : goal.conditions-preserved-then-not-is_bound
conditions-preserved-then-not-is_bound c = let a = c.args in
    let l = c.conditions in
    let low = c.lowest_bit-at in
    let k = condition_in a.plan.now low.result in
    let read = c.unpack_condition-k.ensures ∙ ap condition_of c.condition-word.ensures in
    let free = bound-read a.v _ k read c.state_of-state.result (state_in a.slot.now) _ false c.state_of-state.ensures c.is_bound.ensures c.if-not-is_bound.true in
    let every = tried-free a.block.now a.slot.now a.v a.i k c.requires.0.seated free in
    let r = bindings_in a.slot.now (count_in a.slot.now) in
    (l.invariant.0, rw (c.without_lowest-rest.ensures low.result low.ensures) (left_less a.plan.now a.block.now a.i a.v r l.rest l.invariant.1 low.result low.ensures.here every))

pub loop-j-init : goal.loop-j-init
loop-j-init c = let a = c.args in
    (c.conditions.invariant.0, tried-none a.block.now a.slot.now a.v c.new_value-x.result (condition_in a.plan.now c.lowest_bit-at.result))

pub conditions-preserved : goal.conditions-preserved
conditions-preserved c = let a = c.args in
    let fit = c.requires.0 in
    let l = c.conditions in
    let low = c.lowest_bit-at in
    let at = low.result in
    let k = condition_in a.plan.now at in
    let read = c.unpack_condition-k.ensures ∙ ap condition_of c.condition-word.ensures in
    let x = c.new_value-x in
    let new = value_read a.v _ k read x.result (record_at a.block.now a.i) x.ensures in
    let m = c.loop-j in
    let whole : m.j ≡ count_in a.slot.now = omega (arith, c.count_of-count.ensures) in
    let tried = subst (λ (j : ℕ). all (pair_meets a.block.now x.result a.v k) (bindings_in a.slot.now j) ≡ true) whole m.invariant.1 in
    let every = tried-all a.block.now a.slot.now a.v x.result k a.i (fit.sound.form a.v at c.requires.1 (l.invariant.1.named at low.ensures.here)) new tried in
    let r = bindings_in a.slot.now (count_in a.slot.now) in
    (m.invariant.0, rw (c.without_lowest-rest.ensures at low.ensures) (left_less a.plan.now a.block.now a.i a.v r l.rest l.invariant.1 at low.ensures.here every))

pub pair_holds-requires : goal.pair_holds-requires
pair_holds-requires c = let a = c.args in
    let fit = c.requires.0 in
    let l = c.conditions in
    let low = c.lowest_bit-at in
    let j = c.loop-j.j in
    let size = fit.seated.size in
    let few = fit.seated.few in
    let tells = fit.sound.tells low.result (left_below a.plan.now a.block.now a.i a.v (bindings_in a.slot.now (count_in a.slot.now)) l.rest l.invariant.1 low.result low.ensures.here) in
    let some : j < count_in a.slot.now = omega (arith, c.count_of-count.ensures) in
    let inside = fit.seated.in_block (binding_at a.slot.now j) (binding-among a.slot.now (count_in a.slot.now) j some) in
    (rw c.condition-word.ensures tells, c.unpack_condition-k.ensures, omega arith, inside)

pub loop-j-preserved : goal.loop-j-preserved
loop-j-preserved c = let a = c.args in
    let read = c.unpack_condition-k.ensures ∙ ap condition_of c.condition-word.ensures in
    let k = condition_in a.plan.now c.lowest_bit-at.result in
    let m = c.loop-j in
    let x = c.new_value-x.result in
    let one = meets-read a.v _ k read a.block.now x (binding_at a.slot.now m.j) _ true c.pair_holds.ensures c.if-not-pair_holds.false in
    (m.invariant.0, tried-more a.block.now a.slot.now a.v x k m.j m.invariant.1 one)

pub returns-after-conditions : goal.returns-after-conditions
returns-after-conditions c = let a = c.args in
    let l = c.conditions in
    l.invariant.0 ∙ sym (joins-done a.plan.now a.block.now a.i a.v (bindings_in a.slot.now (count_in a.slot.now)) l.rest l.invariant.1 c.conditions-test.false)

pub returns-then-not-pair_holds : goal.returns-then-not-pair_holds
returns-then-not-pair_holds c = let a = c.args in
    let fit = c.requires.0 in
    let l = c.conditions in
    let low = c.lowest_bit-at in
    let at = low.result in
    let k = condition_in a.plan.now at in
    let read = c.unpack_condition-k.ensures ∙ ap condition_of c.condition-word.ensures in
    let x = c.new_value-x in
    let new = value_read a.v _ k read x.result (record_at a.block.now a.i) x.ensures in
    let m = c.loop-j in
    let some : m.j < count_in a.slot.now = omega (arith, c.count_of-count.ensures) in
    let one = meets-read a.v _ k read a.block.now x.result (binding_at a.slot.now m.j) _ false c.pair_holds.ensures c.if-not-pair_holds.true in
    let failed = tried-fails a.block.now a.slot.now a.v x.result k a.i (fit.sound.form a.v at c.requires.1 (l.invariant.1.named at low.ensures.here)) new m.j some one in
    sym (joins-fail a.plan.now a.block.now a.i a.v (bindings_in a.slot.now (count_in a.slot.now)) l.rest l.invariant.1 at low.ensures.here failed)
