-- `fills::opening` meets its contract. Assumes nothing.
use Rattle.std.proofs.Common.{arith, refl}
use Rattle.fills.specs.Opening.Passes.{here, past}
use Rattle.fills.proofs.OrderMark.{behind-bound}
use Rattle.fills.proofs.opening.Goals as goal

pub returns-then-begins : goal.returns-then-begins
returns-then-begins c =
    let h = c.loop-i in record { after = h.auto.i; inside = omega arith; passes = h.invariant.1 h.i (here refl) }

pub loop-i-preserved : goal.loop-i-preserved
loop-i-preserved c =
    let h = c.loop-i in
    let behind = c.last_behind-latest.ensures in (
      behind-bound _ h.latest h.i _ behind h.invariant.0,
      λ r p. h.invariant.1 r (past _ (c.begins.ensures c.if-begins.false) behind p),
    )

pub returns : goal.returns
returns c =
    let h = c.loop-i in
    let end = c.requires.inside in
    record { after = end; inside = omega arith; passes = h.invariant.1 c.args.end (here (omega arith)) }
