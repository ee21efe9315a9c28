-- `reach::next_fire` meets its contract: no record before the one that it gives fires a step. Assumes nothing.
use mathlib.Core.Path.{◌≡◌}
use Prim.Native.Nat.{ℕ, ◌-◌, ◌≤◌, ◌<◌}
use Rattle.slots.specs.Slots.{held_in}
use Rattle.reach.specs.Readings.{firing_by, leaving_by}
use Rattle.reach.proofs.next_fire.Given as goal

abbrev pub invariant-loop-i : goal.invariant-loop-i
invariant-loop-i l = (l.j ≤ l.i) × (l.i ≤ l.s.until) × (l.leave ≡ leaving_by l.plan l.s.n (held_in l.slot).state) × ((k : ℕ) → l.j ≤ k → k < l.i → firing_by l.plan l.block l.s.n l.s.c k (held_in l.slot) ≡ 0)

abbrev pub decreases-loop-i : goal.decreases-loop-i
decreases-loop-i l = l.s.until - l.i
