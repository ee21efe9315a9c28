-- `starts::accepted` meets its contract: the pattern is judged first, then the block. Assumes nothing.
use Rattle.std.proofs.lemmas.Result.{err_from_is_err_and}
use Rattle.starts.proofs.Ends.{refused-pattern, refused_block, both-accepted}
use Rattle.starts.proofs.accepted.Goals as goal

pub returns-in_err-p : goal.returns-in_err-p
returns-in_err-p c = let same = err_from_is_err_and c.from_residual.result c.from_residual.ensures.1 in
    rw (same.1, same.2) (refused-pattern _ c.args.block.now _ c.in_err-p.ensures)

pub returns-in_err-judge : goal.returns-in_err-judge
returns-in_err-judge c =
    let same = err_from_is_err_and c.from_residual-in_err-judge.result c.from_residual-in_err-judge.ensures.1 in
    rw (same.1, same.2) (refused_block _ _ _ c.in_ok-p.ensures _ c.in_err-judge.ensures)

pub returns : goal.returns
returns c = both-accepted _ _ _ c.in_ok-p.ensures _ c.in_ok-judge.ensures
