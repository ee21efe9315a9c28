-- The variables that can fire at a record: none at a gap. Assumes nothing.
use mathlib.Core.Path.{◌≡◌}
use mathlib.Core.Bool.{true, false}
use mathlib.Core.List.{List}
use Prim.Native.Nat.{ℕ}
use Rattle.firing.specs.Firing.{can_by}
use Rattle.live.specs.Live.{is_event_by, can_at}

pub can-event :
    (plan : List ℕ) (n c : ℕ) (bytes : List ℕ) (i : ℕ) → is_event_by bytes i ≡ true
    → can_at plan n c bytes i ≡ can_by plan n c bytes i
unfolding can_at
can-event plan n c bytes i e = rw (e, can_at)

pub can-gap :
    (plan : List ℕ) (n c : ℕ) (bytes : List ℕ) (i : ℕ) → is_event_by bytes i ≡ false → can_at plan n c bytes i ≡ 0
unfolding can_at
can-gap plan n c bytes i e = rw (e, can_at)
