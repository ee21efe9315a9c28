-- `text::read_lines` meets its contract. Assumes nothing.
use Rattle.std.proofs.Common.{ap}
use Rattle.drafts.specs.Drafts.{phase_of}
use Rattle.text.proofs.Progress.{begin, one_more, bad-here, cut-here, only-finished, unfinished-here, finished-here}
use Rattle.text.proofs.read_lines.Goals as goal

pub loop-at-init : goal.loop-at-init
loop-at-init c = let e = c.blank-draft.ensures in begin c.args.text.now c.blank-draft.result e.0 e.1

pub returns-in_default : goal.returns-in_default
returns-in_default c =
    let h = c.loop-at in
    cut-here c.args.text.now h.draft h.line h.at h.invariant c.loop-at-test.true c.in_default.ensures

pub returns-in_default-read_line : goal.returns-in_default-read_line
returns-in_default-read_line c =
    let h = c.loop-at in
    let p = h.invariant in
    bad-here c.args.text.now h.draft h.line h.at p _ c.in-Some.ensures
    (c.in_default-read_line.ensures.line p.items p.valid p.told)

pub loop-at-preserved : goal.loop-at-preserved
loop-at-preserved c =
    let h = c.loop-at in
    let p = h.invariant in
    let r = c.in-Some-read_line in
    one_more c.args.text.now h.draft h.line h.at p _ c.in-Some.ensures r.more r.ensures.small
    (r.ensures.line p.items p.valid p.told)

pub returns-in-Finished : goal.returns-in-Finished
returns-in-Finished c =
    let h = c.loop-at in
    finished-here c.args.text.now h.draft h.line h.at h.invariant c.loop-at-test.false (ap phase_of c.in-Finished.is)

pub returns-in_default-phase : goal.returns-in_default-phase
returns-in_default-phase c =
    let h = c.loop-at in
    unfinished-here c.args.text.now h.draft h.line h.at h.invariant c.loop-at-test.false
    (λ e. c.in_default-phase.not-Finished (only-finished h.draft.phase e))
