-- `search::is_passed_over` meets its contract: pattern and index are judged first, then block and limit. Assumes
-- nothing.
use Rattle.std.proofs.Common.{sym, ap, ◌∙◌, subst}
use Rattle.std.proofs.lemmas.Result.{err_from_is_err_and}
use Rattle.records.specs.declared.Answer.{Answer}
use Rattle.patterns.proofs.InOrder.{read-in-order}
use Rattle.index.specs.Upto.{Decided}
use Rattle.index.proofs.Fields.{good_length}
use Rattle.search.proofs.Answers.{bad-pattern, bad-index, can-match, bad-block, bad-limit, no-match}
use Rattle.search.proofs.is_passed_over.Goals as goal

pub returns-in_err-p : goal.returns-in_err-p
returns-in_err-p c = let a = c.args in
    let same = err_from_is_err_and c.from_residual.result c.from_residual.ensures.1 in
    rw (same.1, same.2) (bad-pattern a.pattern.now a.index.now a.block.now a.limit a.lent _ c.in_err-p.ensures)

pub returns-then-is_broken : goal.returns-then-is_broken
returns-then-is_broken c = let a = c.args in
    bad-index a.pattern.now a.index.now a.block.now a.limit a.lent _ c.in_ok-p.ensures (sym c.if-is_broken.ensures)

pub cannot_match-requires : goal.cannot_match-requires
cannot_match-requires c = (
  good_length c.args.index.now (sym c.is_broken.ensures ∙ c.if-is_broken.false),
  (read-in-order _ _ c.in_ok-p.ensures).few_conditions,
)

pub returns-then-not-cannot_match : goal.returns-then-not-cannot_match
returns-then-not-cannot_match c = let a = c.args in
    can-match a.pattern.now a.index.now a.block.now a.limit a.lent _ c.in_ok-p.ensures (sym c.is_broken.ensures ∙ c.if-is_broken.false)
    (subst (Decided _ a.index.now) c.if-not-cannot_match.true c.cannot_match.ensures)

pub returns-in_err-judge : goal.returns-in_err-judge
returns-in_err-judge c = let a = c.args in
    let same = err_from_is_err_and c.from_residual-in_err-judge.result c.from_residual-in_err-judge.ensures.1 in
    rw (same.1, same.2)
    (bad-block a.pattern.now a.index.now a.block.now a.limit a.lent _ c.in_ok-p.ensures (sym c.is_broken.ensures ∙ c.if-is_broken.false) _ c.in_err-judge.ensures)

pub returns-then-is_limit_broken : goal.returns-then-is_limit_broken
returns-then-is_limit_broken c = let a = c.args in
    bad-limit a.pattern.now a.index.now a.block.now a.limit a.lent _ c.in_ok-p.ensures (sym c.is_broken.ensures ∙ c.if-is_broken.false)
    (ap (λ (x : Answer). x.code) (sym c.in_ok-judge.ensures)) (sym c.if-is_limit_broken.ensures)

pub returns : goal.returns
returns c = let a = c.args in
    no-match a.pattern.now a.index.now a.block.now a.limit a.lent _ c.in_ok-p.ensures (sym c.is_broken.ensures ∙ c.if-is_broken.false)
    (ap (λ (x : Answer). x.code) (sym c.in_ok-judge.ensures)) (sym c.is_limit_broken.ensures ∙ c.if-is_limit_broken.false)
    (subst (Decided _ a.index.now) c.if-not-cannot_match.false c.cannot_match.ensures)
