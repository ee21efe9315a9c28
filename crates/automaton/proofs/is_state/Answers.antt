-- `automaton::is_state` meets its contract. Assumes nothing.
use Rattle.std.proofs.Common.{rules, ◌∙◌, sym, lt-ltb}
use Rattle.automaton.specs.Automaton.{is_state}
use Rattle.automaton.proofs.All.{all-upto}
use Rattle.automaton.proofs.is_state.Goals as goal

pub returns : goal.returns
unfolding is_state
returns c = rw (lt-ltb _ _ c.requires.1, is_state) (c.all.ensures _ (λ v r h k. search rules) ∙ sym (all-upto _ c.args.p.n))
