-- `wording::put_member` meets its contract: a space, the letter, and a plus behind that of a group variable. Assumes
-- nothing.
use Rattle.std.proofs.Common.{◌+◌, arith}
use Rattle.wording.proofs.Pieces.{put_two, put_three, group-text, plain-text}
use Rattle.wording.proofs.put_member.Goals as goal

pub returns-then-p-v : goal.returns-then-p-v
returns-then-p-v c =
    let a = c.args in rw (group-text a.p a.v c.if-p-v.true) (put_three a.text.now a.at 32 (97 + a.v) 43 (omega arith))

pub returns : goal.returns
returns c =
    let a = c.args in rw (plain-text a.p a.v c.if-p-v.false) (put_two a.text.now a.at 32 (97 + a.v) (omega arith))
