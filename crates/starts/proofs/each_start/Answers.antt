-- `starts::each_start`: one start after another, none where nothing fires or from a gap, else each firing variable in
-- turn. Assumes nothing.
use Rattle.std.proofs.Common.{arith, ◌<◌, refl, sym, ◌∙◌, eqb-true}
use Rattle.std.proofs.lemmas.Bool.{eqb-false}
use Rattle.starts.specs.Sinks.{sink_of}
use Rattle.starts.specs.Skips.{give_up}
use Rattle.reach.proofs.Masks.{first_read}
use Rattle.closings.proofs.Windows.{open_none, open-later}
use Rattle.starts.proofs.Starts.{Started, start_of, gap_of, with_steps, started-gap, started_none, start-branching, started-settled, started-branch}
use Rattle.starts.proofs.Starts.{left-all, left-more, left-begun, left-none}
use Rattle.starts.proofs.each_start.Goals as goal
use Rattle.starts.proofs.each_start.Goals.{then-firing-eq0-via-then-firing-eq0, then-firing-eq0-via-else-firing-eq0+then-not-is_event}

pub loop-i-init : goal.loop-i-init
loop-i-init c = (left-all _ _ _ _ _ _ _, omega arith, omega arith, open_none _ _ 0)

pub loop-i-preserved-then-firing-eq0 : goal.loop-i-preserved-then-firing-eq0
loop-i-preserved-then-firing-eq0 c = let a = c.args in
    let h = c.loop-i in
    let usable = c.requires.0 in
    let inside = c.loop-i-test.true in
    let now = sink_of h.res h.counts in
    let none : Started a.plan.now a.block.now a.n a.c a.duration a.most h.i now now =
    elim c.then-firing-eq0.branch [
      | then-firing-eq0-via-then-firing-eq0 w ↦
          started_none _ _ _ _ _ _ _ usable inside _
          (first_read _ _ _ _ usable.variables _ c.requires.1 _ inside _ c.leaving-first.ensures)
          w.if-firing-eq0.true now
      | then-firing-eq0-via-else-firing-eq0+then-not-is_event w ↦
          started-gap _ _ _ _ _ _ _ usable inside (eqb-false _ _ (sym w.is_event.ensures ∙ w.if-not-is_event.true)) now
    ] in (
      left-more _ _ _ _ _ _ _ _ _ h.invariant.0 inside _ none,
      h.invariant.1,
      h.invariant.2,
      open-later _ _ _ _ usable.climbing h.invariant.2 h.invariant.3,
    )

pub is_settled-requires : goal.is_settled-requires
is_settled-requires c = let a = c.args in
    let usable = c.requires.0 in
    let inside = c.loop-i-test.true in
    let empty = c.empty_slot-empty in
    let w = c.window_at-w in
    let at = start-branching _ _ _ _ _ _ _ usable inside _
    (first_read _ _ _ _ usable.variables _ c.requires.1 _ inside _ c.leaving-first.ensures)
    (eqb-true _ _ (sym c.is_event.ensures ∙ c.if-not-is_event.false))
    _ empty.ensures.0
    (start_of a.n a.c a.duration w.result a.floor a.most a.limit)
    _ (gap_of _ _ _ _ _ (c.number-gap.ensures.0 ∙ c.gap_mark.ensures))
    w.result w.ensures refl empty.ensures.1 empty.ensures.2 c.if-firing-eq0.false c.requires.2 in
    (at.fire.ready, c.requires.1, at.above)

pub loop-i-preserved-then-is_settled : goal.loop-i-preserved-then-is_settled
loop-i-preserved-then-is_settled c = let a = c.args in
    let usable = c.requires.0 in
    let inside = c.loop-i-test.true in
    let empty = c.empty_slot-empty in
    let w = c.window_at-w in
    let h = c.loop-i in
    let begun = with_steps h.counts c.first_steps.result in
    let few = c.first_steps.ensures in
    let left = left-begun _ _ _ _ _ _ _ _ _ h.invariant.0 (sink_of h.res begun) refl refl refl refl in
    let done = started-settled _ _ _ _ _ _ _ usable inside _
    (first_read _ _ _ _ usable.variables _ c.requires.1 _ inside _ c.leaving-first.ensures)
    (eqb-true _ _ (sym c.is_event.ensures ∙ c.if-not-is_event.false))
    _ empty.ensures.0
    (start_of a.n a.c a.duration w.result a.floor a.most a.limit)
    _ (gap_of _ _ _ _ _ (c.number-gap.ensures.0 ∙ c.gap_mark.ensures))
    w.result w.ensures refl empty.ensures.1 empty.ensures.2 c.if-firing-eq0.false c.requires.2
    h.res begun (c.is_settled.ensures c.if-is_settled.true) (omega arith) (omega arith) in (
      left-more _ _ _ _ _ _ _ _ _ left inside _ done,
      omega arith,
      w.ensures.block,
      open-later _ _ _ _ usable.climbing w.ensures.block w.ensures.opened,
    )

pub branch-counts-requires : goal.branch-counts-requires
branch-counts-requires c = let a = c.args in
    let usable = c.requires.0 in
    let inside = c.loop-i-test.true in
    let empty = c.empty_slot-empty in
    let w = c.window_at-w in (
      start-branching _ _ _ _ _ _ _ usable inside _
          (first_read _ _ _ _ usable.variables _ c.requires.1 _ inside _ c.leaving-first.ensures)
          (eqb-true _ _ (sym c.is_event.ensures ∙ c.if-not-is_event.false))
          _ empty.ensures.0
          (start_of a.n a.c a.duration w.result a.floor a.most a.limit)
          _ (gap_of _ _ _ _ _ (c.number-gap.ensures.0 ∙ c.gap_mark.ensures))
          w.result w.ensures refl empty.ensures.1 empty.ensures.2 c.if-firing-eq0.false c.requires.2,
      c.requires.1,
    )

pub loop-i-preserved : goal.loop-i-preserved
loop-i-preserved c = let a = c.args in
    let usable = c.requires.0 in
    let inside = c.loop-i-test.true in
    let empty = c.empty_slot-empty in
    let w = c.window_at-w in
    let h = c.loop-i in
    let begun = with_steps h.counts c.first_steps.result in
    let call = c.branch-counts in
    let left = left-begun _ _ _ _ _ _ _ _ _ h.invariant.0 (sink_of h.res begun) refl refl refl refl in
    let ended : call.result.steps < give_up = omega (arith, c.if-counts-ge-GIVE_UP.false) in
    let done = started-branch _ _ _ _ _ _ _ usable inside _
    (first_read _ _ _ _ usable.variables _ c.requires.1 _ inside _ c.leaving-first.ensures)
    (eqb-true _ _ (sym c.is_event.ensures ∙ c.if-not-is_event.false))
    _ empty.ensures.0
    (start_of a.n a.c a.duration w.result a.floor a.most a.limit)
    _ (gap_of _ _ _ _ _ (c.number-gap.ensures.0 ∙ c.gap_mark.ensures))
    w.result w.ensures refl empty.ensures.1 empty.ensures.2 c.if-firing-eq0.false c.requires.2
    (sink_of h.res begun) (sink_of call.new.res call.result) ended call.ensures in (
      left-more _ _ _ _ _ _ _ _ _ left inside _ done,
      ended,
      w.ensures.block,
      open-later _ _ _ _ usable.climbing w.ensures.block w.ensures.opened,
    )

pub returns : goal.returns
returns c = let h = c.loop-i in
    left-none _ _ _ _ _ _ _ _ _ h.invariant.0 (omega arith) _ h.invariant.1
