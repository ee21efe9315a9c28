-- `drafts::read_set` meets its contract. Assumes nothing.
use Rattle.std.proofs.Common.{arith, length, sym}
use Rattle.std.proofs.lemmas.Bool.{true≢false}
use borrow.Author.Tests.{eqb-true, eqb-false}
use Rattle.drafts.proofs.Holding.{small-set, small-member}
use Rattle.drafts.proofs.Setting.{begun, turned, stuck, repeated, ended, left-part, piece-size, too-late, no_names}
use Rattle.drafts.proofs.read_set.Goals as goal
use Rattle.drafts.proofs.read_set.Goals.{then-not-is_open-via-then-not-is_open, then-not-is_open-via-else-not-is_open+then-is_empty}

pub returns-then-not-is_open-clause-line : goal.returns-then-not-is_open-clause-line
returns-then-not-is_open-clause-line c =
    elim c.then-not-is_open.branch [
      | then-not-is_open-via-then-not-is_open w ↦ λ l v h.
          too-late l c.args.line.now c.args.d (λ q. true≢false (sym (w.if-not-is_open.ensures.1 q))) h
      | then-not-is_open-via-else-not-is_open+then-is_empty w ↦ λ l v h.
          no_names l c.args.line.now (eqb-true (length c.args.line.now) 0 (sym w.if-is_empty.ensures))
    ]

pub loop-at-init : goal.loop-at-init
loop-at-init c =
    rw c.with_set.ensures (
      omega arith,
      small-set c.args.d c.requires,
      λ l v h. begun l c.args.line.now c.args.d v h (c.is_open.ensures.0 c.if-not-is_open.false),
    )

pub returns-in_err-piece-clause-line : goal.returns-in_err-piece-clause-line
returns-in_err-piece-clause-line c =
    let line = c.args.line.now in
    let k = c.loop-at in
    let none = rw (left-part line k.at) at c.in_err-piece.ensures in
    rw c.from_residual.ensures (λ l v h. stuck l line k.at k.d c.loop-at-test.true none (k.invariant.2 l v h))

pub returns-in_err-with_member-clause-line : goal.returns-in_err-with_member-clause-line
returns-in_err-with_member-clause-line c =
    let line = c.args.line.now in
    let k = c.loop-at in
    let piece = rw (left-part line k.at) at c.in_ok-piece.ensures in
    rw c.from_residual-in_err-with_member.ensures
    (λ l v h. repeated l line k.at k.d _ c.loop-at-test.true piece c.in_err-with_member.ensures (k.invariant.2 l v h))

pub loop-at-preserved : goal.loop-at-preserved
loop-at-preserved c =
    let line = c.args.line.now in
    let k = c.loop-at in
    let m = c.in_ok-piece.piece in
    let piece = rw (left-part line k.at) at c.in_ok-piece.ensures in
    let size = piece-size line k.at m c.loop-at-test.true piece in
    rw c.in_ok-with_member.ensures.1 (
      size.1,
      small-member k.d m.name m.group piece.letter k.invariant.1,
      λ l v h. turned l line k.at k.d m v k.invariant.1 c.loop-at-test.true piece c.in_ok-with_member.ensures.0 (k.invariant.2 l v h),
    )

pub returns-clause-line : goal.returns-clause-line
returns-clause-line c =
    let k = c.loop-at in
    λ l v h. ended l c.args.line.now k.at k.d v (omega (arith, eqb-false (length c.args.line.now) 0 (sym c.if-is_empty.ensures))) c.loop-at-test.false (k.invariant.2 l v h)
