-- `wording::put_set` meets its contract. Assumes nothing.
use Rattle.std.proofs.Common.{arith}
use Rattle.wording.specs.Parts.{set_text}
use Rattle.wording.proofs.Pieces.{put_as, later-set}
use Rattle.wording.proofs.put_set.Goals as goal

pub returns-then-v-eq0 : goal.returns-then-v-eq0
unfolding set_text
returns-then-v-eq0 c =
    (put_as set_text _ 0 c.if-v-eq0.true c.put_word.ensures, omega (arith, c.put_word.ensures.ends))

pub returns-else-v-eq0 : goal.returns-else-v-eq0
returns-else-v-eq0 c =
    (rw (later-set _ c.if-v-eq0.false) c.put_word-else-v-eq0.ensures, omega (arith, c.put_word-else-v-eq0.ensures.ends))
