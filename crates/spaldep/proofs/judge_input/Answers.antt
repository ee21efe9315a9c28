-- `spaldep::judge_input` meets its contract. Assumes nothing.
use Rattle.std.proofs.lemmas.Result.{err_from_is_err_and}
use Rattle.patterns.proofs.InOrder.{read-accepted}
use Rattle.spaldep.proofs.Unfit.{unfit-pattern, unfit-block}
use Rattle.spaldep.proofs.judge_input.Goals as goal

pub returns-in_err-read : goal.returns-in_err-read
returns-in_err-read c = let same = err_from_is_err_and c.from_residual.result c.from_residual.ensures.1 in
    rw (same.1, same.2) (unfit-pattern _ _ _ c.in_err-read.ensures)

pub returns : goal.returns
returns c = unfit-block _ _ _ (read-accepted _ _ c.in_ok-read.ensures) c.judge.ensures
