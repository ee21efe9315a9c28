-- `numbers::mask` meets its contract: the bits so far are those of the numbers before v that pass. Assumes nothing.
use Rattle.std.proofs.Common.{◌≡◌, Bool, ℕ, ◌<◌, ◌^◌}
use Rattle.numbers.specs.Bits.{mask}
use Rattle.numbers.proofs.mask.Given as goal

abbrev pub invariant-loop-v : goal.invariant-loop-v
invariant-loop-v g l = (l.bits < 2 ^ l.v) × ((p : ℕ → Bool) → ((v : ℕ) (r : Bool) → v < l.n → g.F.Fn.post l.test (v, tt) r → r ≡ p v) → l.bits ≡ mask p l.v)
