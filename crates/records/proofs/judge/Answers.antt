-- The first record that is not in order decides.
use Rattle.std.proofs.Common.{◌∙◌, sym, arith}
use Rattle.std.proofs.lemmas.Result.{err_from_is_err_and}
use Rattle.records.proofs.Blocks.{few-of, answer-misfit, answer-bad, answer-good}
use Rattle.records.proofs.judge.Goals as goal

pub returns-then-is_misfit : goal.returns-then-is_misfit
returns-then-is_misfit c = sym (answer-misfit _ (sym c.is_misfit.ensures ∙ c.if-is_misfit.true))

pub judge_record-requires : goal.judge_record-requires
judge_record-requires c =
    let few = few-of _ (sym c.is_misfit.ensures ∙ c.if-is_misfit.false) in
    (omega arith, omega arith)

pub returns-in_err-judge_record : goal.returns-in_err-judge_record
returns-in_err-judge_record c =
    let told = c.in_err-judge_record.ensures in
    let same = err_from_is_err_and c.from_residual.result c.from_residual.ensures.1 in
    let m = sym c.is_misfit.ensures ∙ c.if-is_misfit.false in
    rw (same.1, same.2, told.1, told.2)
    (sym (answer-bad _ c.loop-i.i m c.loop-i-test.true c.loop-i.invariant.1 (λ z. omega arith)))

pub returns : goal.returns
returns c =
    sym (answer-good _ (sym c.is_misfit.ensures ∙ c.if-is_misfit.false) (λ j h. c.loop-i.invariant.1 j (omega arith)))
