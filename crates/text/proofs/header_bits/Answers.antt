-- `text::header_bits` meets its contract. Assumes nothing.
use Rattle.std.proofs.Common.{arith}
use Rattle.form.specs.Packed.{header_bits}
use Rattle.text.proofs.header_bits.Goals as goal

pub returns : goal.returns
unfolding header_bits
returns c = omega arith
