-- The slots that can be asked whether a step fires: those of the live readings, while others are put out elsewhere.
-- Assumes nothing.
use mathlib.Core.Path.{sym, subst}
use mathlib.Core.List.{List}
use Prim.Native.Nat.{ℕ, ◌+◌, ◌*◌, ◌≤◌}
use Rattle.slots.specs.Slots.{slot_bytes, slot_at}
use Rattle.firing.specs.Firing.{Fit}
use Rattle.live.specs.Memory.{Outside, Apart}
use Rattle.live.proofs.Memory.{slot_kept}

module _ {old new plan bytes : List ℕ} {i low high dst limit : ℕ} (apart : Apart low high dst limit)
    (outside : Outside old new dst (dst + slot_bytes * limit)) where
  pub fit-kept :
      (at : ℕ) → low ≤ at → at + slot_bytes ≤ high → Fit plan bytes i (slot_at old at) → Fit plan bytes i (slot_at new at)
  fit-kept at h k fit = subst (λ (s : List ℕ). Fit plan bytes i s) (sym (slot_kept apart old new at h k outside)) fit
