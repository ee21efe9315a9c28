-- `plans::plan_of` meets its contract. The loop's invariant: the places passed are filled. Assumes nothing.
use Rattle.std.proofs.Common.{ℕ, ◌≡◌, ◌<◌, length, get_or}
use Rattle.plans.specs.Plan.{plan_room, Placed}
use Rattle.plans.proofs.plan_of.Given as goal

abbrev pub invariant-loop-at : goal.invariant-loop-at
invariant-loop-at l = (length l.number-items ≡ plan_room) × ((k : ℕ) → k < l.at → Placed l.p k (get_or l.number-items k 0))
