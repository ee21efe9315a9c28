-- `words::row_of` meets its contract. Assumes nothing.
use Rattle.std.proofs.Common.{arith, below_more, sym, ◌∙◌}
use Rattle.std.proofs.Math.ListN.{length-map}
use Rattle.std.proofs.lemmas.Bool.{true≢false}
use Rattle.words.proofs.Rows.{row-is}
use Rattle.words.proofs.row_of.Goals as goal

pub returns-then-eq : goal.returns-then-eq
returns-then-eq c =
    (simp length-map (omega arith), (row-is c.args.rows.now _ c.loop-i.i _ c.eq.ensures).0 c.if-eq.true)

pub loop-i-preserved : goal.loop-i-preserved
loop-i-preserved c =
    below_more _ _ c.loop-i.invariant
    (λ e. true≢false (sym ((row-is c.args.rows.now _ c.loop-i.i _ c.eq.ensures).1 e) ∙ c.if-eq.false))

pub returns : goal.returns
returns c = λ k h. let n = simp length-map at h in c.loop-i.invariant k (omega arith)
