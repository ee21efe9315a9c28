-- `forward::call` meets its contract: each check refuses as the promise says, and the pass answers the rest.
-- Assumes nothing.
use Rattle.std.proofs.Common.{sym, ap, ◌∙◌, refl, subst, length, arith}
use Rattle.std.proofs.lemmas.Result.{err_from_is_err_and}
use Rattle.records.specs.declared.Answer.{Answer}
use Rattle.patterns.specs.declared.Checked.{Checked}
use Rattle.patterns.proofs.InOrder.{read-accepted, read-in-order}
use Rattle.forward.specs.Passes.{Ran, Called, answer_of}
use Rattle.forward.proofs.Calls.{limit-good, block-prepared, called-pattern, called-block}
use Rattle.forward.proofs.call.Goals as goal

pub returns-in_err-p : goal.returns-in_err-p
returns-in_err-p c = let same = err_from_is_err_and c.from_residual.result c.from_residual.ensures.1 in
    rw (same.1, same.2) (called-pattern _ c.in_err-p.ensures)

pub returns-in_err-judge : goal.returns-in_err-judge
returns-in_err-judge c = let same = err_from_is_err_and c.from_residual-in_err-judge.result c.from_residual-in_err-judge.ensures.1 in
    rw (same.1, same.2) (called-block _ (read-accepted _ _ c.in_ok-p.ensures) c.in_err-judge.ensures)

pub returns-then-is_limit_broken : goal.returns-then-is_limit_broken
returns-then-is_limit_broken c =
    Called.bad_limit (read-accepted _ _ c.in_ok-p.ensures) (ap (λ (a : Answer). a.code) (sym c.in_ok-judge.ensures)) (sym c.if-is_limit_broken.ensures) refl refl

pub plan_of-plan-requires : goal.plan_of-plan-requires
plan_of-plan-requires c = read-in-order _ _ c.in_ok-p.ensures

pub pass-requires : goal.pass-requires
pass-requires c = let good = limit-good c.args.limit (length c.args.work.now) (sym c.is_limit_broken.ensures ∙ c.if-is_limit_broken.false) in (
  block-prepared c.args.block.now _ _ c.plan_of-plan.result (read-in-order _ _ c.in_ok-p.ensures) c.plan_of-plan.ensures c.in_ok-judge.ensures refl,
  good.few,
  omega (arith, good.room),
)

pub returns : goal.returns
returns c = let a = c.args in
    Called.passed (read-accepted _ _ c.in_ok-p.ensures) (ap (λ (a : Answer). a.code) (sym c.in_ok-judge.ensures))
    (sym c.is_limit_broken.ensures ∙ c.if-is_limit_broken.false)
    (subst (λ (k : Checked). Ran k.pattern a.block.now a.limit a.res.now c.pass.new.res (answer_of c.pass.result)) c.in_ok-p.ensures c.pass.ensures)
    c.pass.auto.res
