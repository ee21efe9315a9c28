-- `automaton::list_automaton` meets its promise. Assumes nothing.
use Rattle.automaton.proofs.list_automaton.Goals as goal

pub returns : goal.returns
returns c = rw c.from.ensures c.list.ensures
