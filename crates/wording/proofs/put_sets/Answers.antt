-- `wording::put_sets` meets its contract. Assumes nothing.
use Rattle.std.proofs.Common.{arith}
use Rattle.wording.proofs.Sets.{no-sets, one-variable-more, all-sets, open-short}
use Rattle.wording.proofs.put_sets.Goals as goal

pub loop-v-init : goal.loop-v-init
loop-v-init c = no-sets c.args.p c.args.text.now

pub put_variable-end-requires : goal.put_variable-end-requires
put_variable-end-requires c =
    let l = c.loop-v in
    let short = open-short c.args.p c.requires.0 l.v (omega arith) in
    (c.requires.0.few, c.loop-v-test.true, omega (arith, l.invariant.ends, l.invariant.kept, c.requires.1))

pub loop-v-preserved : goal.loop-v-preserved
loop-v-preserved c =
    let l = c.loop-v in
    let a = c.args in
    let e = c.put_variable-end in
    one-variable-more a.p l.v a.text.now l.text e.new.text l.end e.result l.invariant e.ensures

pub bounds-text-end : goal.bounds-text-end
bounds-text-end c =
    let l = c.loop-v in
    let short = open-short c.args.p c.requires.0 l.v (omega arith) in
    omega (arith, l.invariant.ends, l.invariant.kept, c.requires.1)

pub returns : goal.returns
returns c =
    let l = c.loop-v in
    let a = c.args in
    let short = open-short a.p c.requires.0 l.v (omega arith) in (
      all-sets a.p c.requires.0 l.v a.text.now l.text l.end (omega arith) (omega (arith, l.invariant.ends, l.invariant.kept, c.requires.1)) l.invariant,
      omega (arith, l.invariant.ends),
    )
