-- `automaton::carried_conditions` meets its contract. Assumes nothing.
use Rattle.std.proofs.Common.{rules}
use Rattle.automaton.specs.Automaton.{carried}
use Rattle.automaton.proofs.carried_conditions.Goals as goal

pub returns : goal.returns
unfolding carried
returns c = c.mask.ensures _ (λ i r h k. search rules)
