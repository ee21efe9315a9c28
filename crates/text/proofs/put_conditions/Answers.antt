-- `text::put_conditions` meets its contract. Assumes nothing.
use Rattle.std.proofs.Common.{◌≡◌, arith}
use mathlib.Core.List.{flat_map}
use Rattle.numbers.proofs.Put.{put-none}
use Rattle.text.proofs.Words.{words-turn}
use Rattle.text.proofs.put_conditions.Goals as goal

pub loop-i-init : goal.loop-i-init
unfolding flat_map
loop-i-init c = (omega arith, put-none c.args.bytes.now c.args.at)

pub loop-i-preserved : goal.loop-i-preserved
loop-i-preserved c =
    let a = c.args in
    let l = c.loop-i in
    let s = c.store_word in (
      omega arith,
      words-turn a.bytes.now l.bytes s.new.memory a.d.now.conditions a.at l.end l.i (omega arith) (omega (arith, l.invariant.1.kept)) s.ensures l.invariant.1,
    )

pub returns : goal.returns
returns c = let e : c.loop-i.i ≡ c.args.d.now.c = omega arith in rw e at c.loop-i.invariant.1
