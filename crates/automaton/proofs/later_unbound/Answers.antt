-- `automaton::later_unbound` meets its contract. Assumes nothing.
use Rattle.std.proofs.Common.{rules, ◌∙◌, sym}
use Rattle.automaton.proofs.All.{all-upto}
use Rattle.automaton.proofs.later_unbound.Goals as goal

pub returns : goal.returns
returns c = c.all.ensures _ (λ u r h k. search rules) ∙ sym (all-upto _ c.args.p.n)
