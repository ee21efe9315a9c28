-- `automaton::list_variables` meets its contract. Assumes nothing.
use Rattle.std.proofs.Common.{arith, sym, ap}
use Rattle.std.proofs.Math.Nat.{sub-zero}
use Rattle.automaton.specs.Steps.{step_on, puts}
use Rattle.automaton.proofs.Sinks.{from-variables, on-few, count-after, puts-turn, puts-end}
use Rattle.automaton.proofs.list_variables.Goals as goal

pub loop-v-init : goal.loop-v-init
loop-v-init c = (omega arith, rw sub-zero (ap (puts _) (sym (from-variables c.args.p c.args.s))))

pub loop-v-preserved : goal.loop-v-preserved
loop-v-preserved c =
    let a = c.args in
    let call = c.list_step-total in (
      omega (arith, count-after _ _ _ _ (step_on a.p a.s c.loop-v.v) call.ensures, on-few a.p a.s c.loop-v.v),
      puts-turn (step_on a.p a.s) _ a.p.n _ _ _ c.loop-v-test.true call.ensures c.loop-v.invariant.1,
    )

pub returns : goal.returns
returns c = puts-end (step_on c.args.p c.args.s) _ c.args.p.n _ _ c.loop-v-test.false c.loop-v.invariant.1
