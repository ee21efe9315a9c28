-- `firing::settle` meets its contract. The loop's invariant: the mask is settled by the conditions of the kind whose bits
-- are no longer left. Assumes nothing.
use Rattle.std.proofs.Common.{arith, ◌≡◌, ◌∙◌, ap, subst, ℕ, ◌<◌, []}
use Rattle.patterns.specs.declared.Condition.{Condition}
use Rattle.patterns.specs.Patterns.{most_conditions, condition_of}
use Rattle.plans.specs.Plan.{condition_in}
use Rattle.firing.specs.Firing.{Compares, settled_order}
use Rattle.firing.proofs.Settling.{bit_below, others-bound, others-kind, left-first, left-all, settled-inside}
use Rattle.firing.proofs.Settling.{rest-turn, left-turn}
use Rattle.firing.proofs.settle.Goals as goal

pub loop-rest-init : goal.loop-rest-init
loop-rest-init g c = let a = c.args in
    let p = c.requires.settling in
    rw c.others-rest.ensures (
      others-bound a.plan.now [] 0 a.n a.c a.kind a.can p.1 p.5,
      others-kind a.plan.now [] 0 a.n a.c a.kind a.can p.1 p.5,
      λ bytes i h. left-first a.plan.now bytes i a.n a.c a.kind a.can p.1 p.5 p.4,
    )

pub condition-word-requires : goal.condition-word-requires
condition-word-requires g c = let below = bit_below c.loop-rest.rest c.args.c _ c.loop-rest.invariant.0 c.lowest_bit.ensures.here in
    let few = c.requires.settling.3 in
    omega arith

pub settle_order-left-requires : goal.settle_order-left-requires
settle_order-left-requires g c = let below = bit_below c.loop-rest.rest c.args.c _ c.loop-rest.invariant.0 c.lowest_bit.ensures.here in
    let few = c.requires.settling.3 in
    rw c.condition-word.ensures (c.requires.settling.0.tells _ (omega arith))

pub loop-rest-preserved : goal.loop-rest-preserved
loop-rest-preserved g c = let a = c.args in
    let l = c.loop-rest in
    let low = c.lowest_bit in
    let at = low.result in
    let below = bit_below l.rest a.c at l.invariant.0 low.ensures.here in
    let few = c.requires.settling.3 in
    let small : at < most_conditions = omega arith in
    let next = c.without_lowest-rest.ensures at low.ensures in
    let read : c.unpack_condition.result ≡ condition_in a.plan.now at = c.unpack_condition.ensures ∙ ap condition_of c.condition-word.ensures in
    let post = subst (λ (k : Condition). g.F.Fn.post a.sides (k, tt) c.sides-x.result) read c.sides-x.ensures in
    let kind : Compares a.kind (condition_in a.plan.now at) = record { other = l.invariant.1.each at low.ensures.here; attribute = c.requires.settling.0.attribute at small } in
    let turn = rest-turn a.plan.now [] 0 a.n a.c a.kind a.can l.rest at l.invariant.0 low.ensures.here l.invariant.1 _ next in (
      turn.0,
      turn.1,
      λ bytes i h. left-turn a.plan.now bytes i a.n a.c a.kind a.can l.rest at l.invariant.0 low.ensures.here l.invariant.1
          l.left _ _ (l.invariant.2 bytes i h)
          (c.settle_order-left.ensures
          ∙ ap (λ (word : ℕ). settled_order l.left (condition_of word) c.sides-x.result.0 c.sides-x.result.1) c.condition-word.ensures
          ∙ h _ c.sides-x.result kind post l.left)
          next,
    )

pub returns : goal.returns
returns g c = let a = c.args in
    let l = c.loop-rest in
    λ bytes i h.
    let e = l.invariant.2 bytes i h ∙ left-all a.plan.now bytes i a.n a.c a.kind a.can l.rest c.loop-rest-test.false in
    (e, rw e (settled-inside a.plan.now bytes i a.n a.c a.kind a.can))
