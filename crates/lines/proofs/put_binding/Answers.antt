-- `lines::put_binding` meets its contract: the variable after a space, and the record behind it. Assumes nothing.
use Rattle.std.proofs.Common.{arith}
use Rattle.lines.specs.Text.{binding_text}
use Rattle.numbers.proofs.Put.{put_then}
use Rattle.lines.proofs.put_binding.Goals as goal

pub returns : goal.returns
unfolding binding_text
returns c = (put_then c.put_after-middle.ensures.0 c.put_after.ensures.0, omega arith)
