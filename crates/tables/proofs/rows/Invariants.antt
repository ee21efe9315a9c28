-- `tables::rows`: calls at the rows of what is left lead on from calls at the rows before.
use Rattle.std.proofs.Common.{◌≤◌, length}
use Rattle.std.specs.Fn.{CalledAt}
use Rattle.tables.specs.Rows.{EachRow}
use Rattle.tables.proofs.rows.Given as goal

abbrev pub invariant-loop-rest : goal.invariant-loop-rest
invariant-loop-rest g l =
    goal.F-IsAlwaysCallable g l.row
    × (length l.rest ≤ length l.initial.rest)
    × ((r : _)
    → EachRow (λ f line r h. CalledAt g.F.FnMut f line r h) l.row l.rest r
    → EachRow (λ f line r h. CalledAt g.F.FnMut f line r h) l.initial.row l.initial.rest r)

abbrev pub decreases-loop-rest : goal.decreases-loop-rest
decreases-loop-rest g l = length l.rest
