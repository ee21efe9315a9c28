-- `numbers::all` meets its contract: every number before v passes. Assumes nothing.
use Rattle.std.proofs.Common.{◌≡◌, Bool, true, ℕ, ◌<◌}
use Rattle.numbers.proofs.all.Given as goal

abbrev pub invariant-loop-v : goal.invariant-loop-v
invariant-loop-v g l = (p : ℕ → Bool) → ((v : ℕ) (r : Bool) → v < l.n → g.F.Fn.post l.test (v, tt) r → r ≡ p v) → (k : ℕ) → k < l.v → p k ≡ true
