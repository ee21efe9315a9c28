-- `numbers::count_that` meets its contract: so many of the numbers before v pass. Assumes nothing.
use Rattle.std.proofs.Common.{◌≡◌, Bool, ℕ, ◌<◌, ◌≤◌}
use Rattle.numbers.specs.Numbers.{count}
use Rattle.numbers.proofs.count_that.Given as goal

abbrev pub invariant-loop-v : goal.invariant-loop-v
invariant-loop-v g l = (l.passed ≤ l.v) × ((p : ℕ → Bool) → ((v : ℕ) (r : Bool) → v < l.n → g.F.Fn.post l.test (v, tt) r → r ≡ p v) → l.passed ≡ count p l.v)
