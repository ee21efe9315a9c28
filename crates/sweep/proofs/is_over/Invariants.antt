-- `sweep::is_over`: no variable leaves those passed that have as many bindings as they can. Assumes nothing.
use Rattle.std.proofs.Common.{◌≡◌, ℕ, ◌<◌, get_or, bit_and}
use Rattle.rule.specs.Promises.{most_bindings}
use Rattle.sweep.specs.Starts.{place_of}
use Rattle.sweep.proofs.is_over.Given as goal

abbrev pub invariant-loop-at : goal.invariant-loop-at
invariant-loop-at l =
    (i : ℕ) → i < l.at → l.low < get_or l.starts (place_of most_bindings i) 0 → bit_and l.can (get_or l.leaves i 0) ≡ 0
