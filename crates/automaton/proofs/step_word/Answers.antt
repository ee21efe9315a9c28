-- `automaton::step_word` meets its contract: each field is below the weight of the next. Assumes nothing.
use Rattle.std.proofs.Common.{arith, ◌&&◌}
use Rattle.numbers.proofs.Count.{one_if-bound}
use Rattle.automaton.specs.Automaton.{state_of, opens, marked, step_word}
use Rattle.automaton.proofs.Listing.{carried-small}
use Rattle.automaton.proofs.step_word.Goals as goal

pub overflow_add-result-2 : goal.overflow_add-result-2
overflow_add-result-2 c =
    let a = c.args in
    omega (arith, c.requires.0.few, one_if-bound (opens a.p (state_of a.s) a.v && marked a.p (state_of a.s) a.v))

pub overflow_add-result-3 : goal.overflow_add-result-3
overflow_add-result-3 c =
    let a = c.args in
    omega (arith, c.requires.0.few, one_if-bound (opens a.p (state_of a.s) a.v && marked a.p (state_of a.s) a.v), carried-small a.p c.requires.0.few c.requires.0.few_conditions (state_of a.s) a.v)

pub returns : goal.returns
unfolding step_word
returns c = omega arith
