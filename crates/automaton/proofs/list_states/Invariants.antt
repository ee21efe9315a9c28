-- `automaton::list_states`: what is put so far and the steps from the numbers left are all steps. Assumes nothing.
use Rattle.std.proofs.Common.{◌≡◌, ◌-◌, ◌*◌, ◌^◌, ◌≤◌}
use Rattle.numbers.specs.Numbers.{upto}
use Rattle.patterns.specs.Patterns.{most_variables}
use Rattle.automaton.specs.Filtering.{collect}
use Rattle.automaton.specs.Steps.{steps_at, steps, puts, sink_of}
use Rattle.automaton.proofs.list_states.Given as goal

abbrev pub invariant-loop-s : goal.invariant-loop-s
invariant-loop-s l = (l.total ≤ most_variables * l.s)
    × (puts (sink_of l.listing l.total) (collect (steps_at l.p) (upto l.s (2 ^ l.p.n - l.s))) ≡ puts (sink_of l.initial.listing 0) (steps l.p))
