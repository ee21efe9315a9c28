-- `wording::put_whens` meets its contract. Assumes nothing.
use Rattle.std.proofs.Common.{arith}
use Rattle.wording.proofs.Whens.{no-whens, one-when-more, all-whens}
use Rattle.wording.proofs.put_whens.Goals as goal

pub loop-i-init : goal.loop-i-init
loop-i-init c = (omega arith, no-whens c.args.p c.args.text.now c.args.at)

pub put_when-end-requires : goal.put_when-end-requires
put_when-end-requires c =
    (c.requires.0, c.loop-i-test.true, omega (arith, c.requires.0.few_conditions, c.loop-i.invariant.1.kept))

pub loop-i-preserved : goal.loop-i-preserved
loop-i-preserved c =
    let l = c.loop-i in
    let a = c.args in
    let e = c.put_when-end in
    (omega arith, one-when-more a.p l.i a.text.now l.text e.new.text a.at l.end e.result l.invariant.1 e.ensures.0)

pub returns : goal.returns
returns c =
    let l = c.loop-i in
    let a = c.args in
    (all-whens a.p l.i a.text.now l.text a.at l.end (omega arith) l.invariant.1, omega (arith, c.requires.0.few_conditions))
