-- `sweep::sweep`: one record after another. Assumes nothing.
use Rattle.std.proofs.Common.{arith, rules, ◌≡◌, ℕ, length, ap, replicate, refl, sym, subst, ◌∙◌, eqb-true}
use Rattle.std.proofs.lemmas.Bool.{eqb-false}
use Rattle.records.specs.Records.{record_count}
use Rattle.reach.proofs.Masks.{read-bound}
use Rattle.sweep.specs.Starts.{most_places}
use Rattle.sweep.specs.Floors.{Floor}
use Rattle.sweep.proofs.Going.{going-none, going-inside, going-floor, going-gap}
use Rattle.sweep.proofs.Going.{going-idle, going_settled, going-moved, going-over}
use Rattle.sweep.proofs.sweep.Goals as goal

pub loop-j-init : goal.loop-j-init
loop-j-init c = going-none _ _ _ _ _ c.requires.0 _ _ _ _ _ c.is_free-tight.ensures _ c.in-Some.ensures refl

pub loop-j-preserved-then-not-is_event : goal.loop-j-preserved-then-not-is_event
loop-j-preserved-then-not-is_event c =
    let size : length c.loop-j.starts ≡ most_places = omega arith in
    let zeros : c.fill.new.self ≡ replicate (length c.loop-j.starts) 0 = c.fill.ensures.after (λ y h. search rules) in
    going-gap _ _ _ _ _ c.requires.0 _ _ _ _ _ _ _ _ _ c.loop-j.invariant
    (eqb-false _ _ (sym c.is_event.ensures ∙ c.if-not-is_event.true))
    _ (zeros ∙ ap (λ (n : ℕ). replicate n 0) size)

pub loop-j-preserved-then-can-eq0 : goal.loop-j-preserved-then-can-eq0
loop-j-preserved-then-can-eq0 c =
    going-idle _ _ _ _ _ c.requires.0 _ _ _ _ _ _ _ _ _ c.loop-j.invariant c.loop-j-test.true
    (eqb-true _ _ (sym c.is_event.ensures ∙ c.if-not-is_event.false))
    (sym (c.requires.1.each c.loop-j.j c.loop-j-test.true) ∙ c.if-can-eq0.true)

pub is_over_at-requires : goal.is_over_at-requires
is_over_at-requires c = let usable = c.requires.0 in
    let records = usable.records in
    let here = c.loop-j-test.true in (
      going-inside _ _ _ _ _ usable _ _ _ _ _ _ _ _ _ c.loop-j.invariant,
      read-bound _ _ _ _ usable.variables _ c.requires.1 _ here,
      omega arith,
    )

pub returns-then-tight : goal.returns-then-tight
returns-then-tight c = let usable = c.requires.0 in
    let records = usable.records in
    let here = c.loop-j-test.true in
    let g =
    going_settled _ _ _ _ _ usable _ _ _ _ _ _ _ _ _ c.loop-j.invariant here _
    (rw c.time_at-time.ensures at c.settle_before.ensures) in (
      going-floor _ _ _ _ _ usable _ _ _ _ _ _ _ _ _ c.loop-j.invariant (omega arith),
      going-over _ _ _ _ _ usable _ _ _ _ _ _ _ _ g here
          (eqb-true _ _ (sym c.is_event.ensures ∙ c.if-not-is_event.false))
          _ _ _
          (c.requires.1.each c.loop-j.j here)
          c.first_open-low.ensures
          (rw c.if-is_over_at.true at c.is_over_at.ensures)
          c.if-tight.true,
    )

pub returns-else-tight : goal.returns-else-tight
returns-else-tight c = let usable = c.requires.0 in
    let records = usable.records in
    let here = c.loop-j-test.true in
    going-floor _ _ _ _ _ usable _ _ _ _ _ _ _ _ _ c.loop-j.invariant (omega arith)

pub loop-j-preserved : goal.loop-j-preserved
loop-j-preserved c = let usable = c.requires.0 in
    let here = c.loop-j-test.true in
    let g =
    going_settled _ _ _ _ _ usable _ _ _ _ _ _ _ _ _ c.loop-j.invariant here _
    (rw c.time_at-time.ensures at c.settle_before.ensures) in
    rw c.time_at-time.ensures
    (going-moved _ _ _ _ _ usable _ _ _ _ _ _ _ _ g here
    (eqb-true _ _ (sym c.is_event.ensures ∙ c.if-not-is_event.false))
    _ _ _
    (c.requires.1.each c.loop-j.j here)
    c.first_open-low.ensures
    (rw c.if-is_over_at.false at c.is_over_at.ensures))

pub returns : goal.returns
returns c = let usable = c.requires.0 in
    let records = usable.records in
    let e : c.loop-j.j ≡ record_count c.args.block.now = omega (arith, c.loop-j-test.false) in
    subst (Floor c.args.plan.now c.args.block.now c.args.n c.args.c c.args.duration) e
    (going-floor _ _ _ _ _ usable _ _ _ _ _ _ _ _ _ c.loop-j.invariant (omega arith))
