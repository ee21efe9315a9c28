-- `spaldep::judge_search` meets its contract: pattern, index and block in this order. Assumes nothing.
use Rattle.std.proofs.Common.{◌∙◌, sym}
use Rattle.std.proofs.lemmas.Result.{err_from_is_err_and}
use Rattle.patterns.proofs.InOrder.{read-accepted}
use Rattle.spaldep.proofs.Unfit.{unfit-block, unfit-search-pattern, refused_index, judged-block}
use Rattle.spaldep.proofs.judge_search.Goals as goal

pub returns-in_err-read : goal.returns-in_err-read
returns-in_err-read c = let same = err_from_is_err_and c.from_residual.result c.from_residual.ensures.1 in
    rw (same.1, same.2) (unfit-search-pattern _ _ _ _ c.in_err-read.ensures)

pub returns-then-is_broken : goal.returns-then-is_broken
returns-then-is_broken c = sym (refused_index _ _ _ (read-accepted _ _ c.in_ok-read.ensures) (sym c.if-is_broken.ensures))

pub returns : goal.returns
returns c = let good = read-accepted _ _ c.in_ok-read.ensures in
    unfit-block _ _ _ good c.judge.ensures ∙ sym (judged-block _ _ _ good (sym c.is_broken.ensures ∙ c.if-is_broken.false))
