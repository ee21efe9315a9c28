-- `automaton::list_states` meets its contract. Assumes nothing.
use Rattle.std.proofs.Common.{arith, sym, ap}
use Rattle.std.proofs.Math.Nat.{sub-zero}
use Rattle.automaton.specs.Steps.{steps_at, puts}
use Rattle.automaton.proofs.Sinks.{from-states, at-few, count-after, puts-turn, puts-end}
use Rattle.automaton.proofs.list_states.Goals as goal

pub loop-s-init : goal.loop-s-init
loop-s-init c = (omega arith, rw sub-zero (ap (puts _) (sym (from-states c.args.p))))

pub loop-s-preserved : goal.loop-s-preserved
loop-s-preserved c =
    let a = c.args in
    let call = c.list_state-total in (
      omega (arith, count-after _ _ _ _ (steps_at a.p c.loop-s.s) call.ensures, at-few a.p c.loop-s.s, c.requires.few),
      puts-turn (steps_at a.p) _ _ _ _ _ (omega (arith, c.weight-s-end.ensures)) call.ensures c.loop-s.invariant.1,
    )

pub returns : goal.returns
returns c = puts-end (steps_at c.args.p) _ _ _ _ (omega (arith, c.weight-s-end.ensures)) c.loop-s.invariant.1
