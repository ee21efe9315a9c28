-- `wording::put_pattern` meets its contract: the set lines, the when lines, the within line. Assumes nothing.
use Rattle.std.proofs.Common.{arith}
use Rattle.numbers.proofs.Put.{put_then}
use Rattle.form.specs.Form.{text_of}
use Rattle.wording.specs.Wording.{making_of}
use Rattle.wording.proofs.put_pattern.Goals as goal

pub returns : goal.returns
unfolding text_of making_of
returns c = (put_then c.put_sets-sets.ensures.0 (put_then c.put_whens-whens.ensures.0 c.put_within.ensures.0), omega arith)
