-- `automaton::list_variables`: what is put so far and the steps on the variables left are the steps from s. Assumes
-- nothing.
use Rattle.std.proofs.Common.{◌≡◌, ◌+◌, ◌-◌, ◌≤◌}
use Rattle.numbers.specs.Numbers.{upto}
use Rattle.automaton.specs.Filtering.{collect}
use Rattle.automaton.specs.Steps.{step_on, steps_from, puts, sink_of}
use Rattle.automaton.proofs.list_variables.Given as goal

abbrev pub invariant-loop-v : goal.invariant-loop-v
invariant-loop-v l = (l.total ≤ l.count + l.v)
    × (puts (sink_of l.listing l.total) (collect (step_on l.p l.s) (upto l.v (l.p.n - l.v))) ≡ puts (sink_of l.initial.listing l.count) (steps_from l.p l.s))
