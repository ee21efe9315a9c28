-- How many readings close at a record: all at a gap, those in front that are late at an event. Assumes nothing.
use mathlib.Core.Path.{◌≡◌}
use mathlib.Core.Bool.{Bool, true, false}
use mathlib.Core.List.{List}
use Prim.Native.Nat.{ℕ, ◌+◌, ◌*◌}
use Rattle.slots.specs.Slots.{slot_bytes, held_in, slot_at}
use Rattle.live.specs.Live.{is_event_by}
use Rattle.forward.specs.Closing.{mark_by, is_late, first_in_time, gone_by}

module _ (bytes : List ℕ) (i duration : ℕ) (work : List ℕ) (src count : ℕ) where
  abbrev pub late_at : ℕ → Bool
  late_at k = is_late bytes i duration (held_in (slot_at work (src + slot_bytes * k)))

  pub gone-event :
      is_event_by bytes i ≡ true → gone_by bytes i duration work src count ≡ first_in_time bytes i duration work src count
  unfolding gone_by
  gone-event e = rw (e, gone_by)

  pub gone-gap : is_event_by bytes i ≡ false → gone_by bytes i duration work src count ≡ count
  unfolding gone_by
  gone-gap e = rw (e, gone_by)

pub mark-event : (bytes : List ℕ) (gap i : ℕ) → is_event_by bytes i ≡ true → 1 ≡ mark_by bytes gap i
unfolding mark_by
mark-event bytes gap i e = rw (e, mark_by)

pub mark-gap : (bytes : List ℕ) (gap i : ℕ) → is_event_by bytes i ≡ false → gap ≡ mark_by bytes gap i
unfolding mark_by
mark-gap bytes gap i e = rw (e, mark_by)
