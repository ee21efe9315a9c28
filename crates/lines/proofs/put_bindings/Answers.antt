-- `lines::put_bindings` meets its contract. Assumes nothing.
use Rattle.std.proofs.Common.{arith}
use Rattle.lines.proofs.Lines.{no-bindings, one-binding-more, all-bindings}
use Rattle.lines.proofs.put_bindings.Goals as goal

pub loop-i-init : goal.loop-i-init
loop-i-init c = let a = c.args in (omega arith, no-bindings a.text.now a.res.now a.at a.first)

pub loop-i-preserved : goal.loop-i-preserved
loop-i-preserved c =
    let a = c.args in
    let l = c.loop-i in
    let n = c.number2-binding in
    let e = c.put_binding-end in (
      omega arith,
      one-binding-more a.text.now l.text e.new.text a.res.now a.at a.first l.i l.end e.result n.result n.ensures l.invariant.1 e.ensures.0,
    )

pub returns : goal.returns
returns c =
    let a = c.args in
    let l = c.loop-i in
    (all-bindings a.text.now l.text a.res.now a.at a.first l.i a.count l.end (omega arith) l.invariant.1, omega arith)
