-- `starts::skip` and `starts::branch` call each other: records left fall from call to call, and variables left from turn
-- to turn of branch's loop. Assumes nothing.
use Rattle.std.proofs.Common.{ℕ, ◌-◌, ◌*◌, ◌≡◌, true}
use Rattle.numbers.specs.Bits.{bit}
use Rattle.starts.specs.Sinks.{Sink, sink_of}
use Rattle.starts.specs.Skips.{Firing, Branched}
use Rattle.starts.proofs.+branch_skip.Given as goal

-- branch goes on to skip at its own record, skip to branch at a later one
abbrev pub decreases-branch : goal.decreases-branch
decreases-branch l = (l.s.until - l.j) * 2

abbrev pub decreases-skip : goal.decreases-skip
decreases-skip l = (l.s.until - l.j) * 2 - 1

abbrev pub invariant-branch-loop-rest : goal.invariant-branch-loop-rest
invariant-branch-loop-rest l =
    Firing l.plan l.block l.s l.slot l.j l.rest
    × ((u : ℕ) → bit l.rest u ≡ true → bit l.firing u ≡ true)
    × ((after : Sink)
    → Branched l.plan l.block l.s l.slot l.j l.rest (sink_of l.res l.taken) after
    → Branched l.plan l.block l.s l.slot l.j l.firing (sink_of l.initial.res l.initial.taken) after)

abbrev pub decreases-branch-loop-rest : goal.decreases-branch-loop-rest
decreases-branch-loop-rest l = l.rest
