-- `starts::skip` and `starts::branch`, which call each other. Assumes nothing.
use Rattle.std.proofs.Common.{arith, sym, ◌∙◌}
use Rattle.starts.specs.Sinks.{sink_of}
use Rattle.starts.proofs.Skips.{branch-done, firing-taking, branch-takes, rest-firing, rest-within}
use Rattle.starts.proofs.Skips.{loaded, grown-ready, grown-closes, skip-closes, skip-notes}
use Rattle.starts.proofs.Skips.{next-branching, led-given-up, skip-settled, skip-branches}
use Rattle.starts.proofs.+branch_skip.Goals as goal
use Rattle.starts.proofs.+branch_skip.Goals.{skip-then-counts-ge-GIVE_UP, skip-else-counts-ge-GIVE_UP}

pub branch-skip-taken-requires : goal.branch-skip-taken-requires
branch-skip-taken-requires t c = let low = c.lowest_bit-v in
    let end = c.loop-rest.invariant.0.before in (
      omega arith,
      (firing-taking _ _ _ _ _ _ c.requires.0 low.result (c.loop-rest.invariant.1 low.result low.ensures.here), c.requires.1),
    )

pub branch-loop-rest-preserved : goal.branch-loop-rest-preserved
branch-loop-rest-preserved t c = let h = c.loop-rest in
    let low = c.lowest_bit-v in
    let rest = c.without_bit-rest in (
      rest-firing _ _ _ _ _ _ _ h.invariant.0 low.ensures _ rest.ensures,
      λ u b. h.invariant.1 u (rest-within _ _ _ _ _ _ _ h.invariant.0 low.ensures _ rest.ensures u b),
      λ after others.
          h.invariant.2 after
          (branch-takes _ _ _ _ _ _ _ h.invariant.0 low.ensures _ (sink_of h.res h.taken) _ after rest.ensures c.skip-taken.ensures others),
    )

pub branch-returns : goal.branch-returns
branch-returns t c = let h = c.loop-rest in
    h.invariant.2 (sink_of h.res h.taken) (branch-done _ _ _ _ _ _ _ c.loop-rest-test.false)

pub skip-next_fire-fire-requires : goal.skip-next_fire-fire-requires
skip-next_fire-fire-requires t c = (grown-ready _ _ _ _ _ _ c.requires.0 _ (loaded _ _ _ _ _ c.load-bytes.ensures c.bind.ensures), c.requires.1)

pub skip-close-requires : goal.skip-close-requires
skip-close-requires t c = let ready = c.requires.0.ready in
    (grown-closes _ _ _ _ _ _ c.requires.0 _ (loaded _ _ _ _ _ c.load-bytes.ensures c.bind.ensures), ready.usable.variables, ready.mark)

pub skip-returns-then-fire-s : goal.skip-returns-then-fire-s
skip-returns-then-fire-s t c =
    skip-closes _ _ _ _ _ _ c.requires.0 _ (loaded _ _ _ _ _ c.load-bytes.ensures c.bind.ensures) _
    c.next_fire-fire.ensures c.if-fire-s.true _ _ c.close.ensures

pub skip-returns-then-count_of-eq-MOST_BINDINGS : goal.skip-returns-then-count_of-eq-MOST_BINDINGS
skip-returns-then-count_of-eq-MOST_BINDINGS t c = let note = c.note_over.ensures in
    skip-notes _ _ _ _ _ _ c.requires.0 _ (loaded _ _ _ _ _ c.load-bytes.ensures c.bind.ensures) _
    c.next_fire-fire.ensures c.if-fire-s.false
    (omega (arith, c.count_of.ensures, c.if-count_of-eq-MOST_BINDINGS.true))
    _ _ _ note.0 note.1 note.2 note.3

pub skip-is_settled-requires : goal.skip-is_settled-requires
skip-is_settled-requires t c =
    let at =
    next-branching _ _ _ _ _ _ c.requires.0 _ (loaded _ _ _ _ _ c.load-bytes.ensures c.bind.ensures) _
    c.next_fire-fire.ensures c.if-fire-s.false
    (λ e. c.if-count_of-eq-MOST_BINDINGS.false (c.count_of.ensures ∙ e)) in
    (at.fire.ready, c.requires.1, at.above)

pub skip-returns-then-is_settled : goal.skip-returns-then-is_settled
skip-returns-then-is_settled t c =
    elim c.if-counts-ge-GIVE_UP.branch [
      | skip-then-counts-ge-GIVE_UP w ↦
          record { led = led-given-up _ _ _ _ _ w.if-counts-ge-GIVE_UP.true }
      | skip-else-counts-ge-GIVE_UP w ↦
          skip-settled _ _ _ _ _ _ c.requires.0 _ (loaded _ _ _ _ _ c.load-bytes.ensures c.bind.ensures) _
          c.next_fire-fire.ensures c.if-fire-s.false
          (λ e. c.if-count_of-eq-MOST_BINDINGS.false (c.count_of.ensures ∙ e))
          _ _ (w.is_settled.ensures (sym w.value-is ∙ c.if-is_settled.true)) (omega arith) (omega arith)
    ]

pub skip-branch-block-requires : goal.skip-branch-block-requires
skip-branch-block-requires t c =
    let at =
    next-branching _ _ _ _ _ _ c.requires.0 _ (loaded _ _ _ _ _ c.load-bytes.ensures c.bind.ensures) _
    c.next_fire-fire.ensures c.if-fire-s.false
    (λ e. c.if-count_of-eq-MOST_BINDINGS.false (c.count_of.ensures ∙ e)) in
    let end = at.fire.before in
    let from = c.next_fire-fire.ensures.from in
    (omega arith, (at, c.requires.1))

pub skip-returns : goal.skip-returns
skip-returns t c = let o = c.stepped.ensures in
    skip-branches _ _ _ _ _ _ c.requires.0 _ (loaded _ _ _ _ _ c.load-bytes.ensures c.bind.ensures) _
    c.next_fire-fire.ensures c.if-fire-s.false
    (λ e. c.if-count_of-eq-MOST_BINDINGS.false (c.count_of.ensures ∙ e))
    _ _ _ o.0 o.1 o.2 o.3 o.4 _ c.branch-block.ensures
