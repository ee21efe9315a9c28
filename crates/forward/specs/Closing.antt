-- Which of the live readings close at one record, with which mark, and what is reported of them.
use Rattle.std.specs.Prelude.{Bool, true, false, not, List, map, ℕ, ◌+◌, ◌*◌, ◌≤◌, ◌<◌, ltb, length}
use Rattle.numbers.specs.Numbers.{first}
use Rattle.numbers.specs.Bits.{within}
use Rattle.records.specs.Records.{record_bytes, record_at}
use Rattle.automaton.specs.Filtering.{filter}
use Rattle.rule.specs.Rule.{Line, start_of, past_mark}
use Rattle.rule.specs.Computed.{line}
use Rattle.slots.specs.Slots.{Held, slot_bytes, count_in, held_in, slot_at}
use Rattle.live.specs.Live.{is_event_by}

-- past at an event, the mark of a gap at a gap
unfoldable pub mark_by : List ℕ → ℕ → ℕ → ℕ
mark_by bytes gap i = elim (is_event_by bytes i) [ true ↦ past_mark | false ↦ gap ]

-- record i is more than the duration after the first
unfoldable pub is_late : List ℕ → ℕ → ℕ → Held → Bool
is_late bytes i duration h = ltb ((record_at bytes (start_of h.bindings)).time + duration) (record_at bytes i).time

-- each of the slots holds a reading whose first record stands in the block
pub record Begun (work bytes : List ℕ) (src count : ℕ) : Type 0 where
  pub some : (k : ℕ) → k < count → 1 ≤ count_in (slot_at work (src + slot_bytes * k))
  pub in_block :
      (k : ℕ) → k < count
      → record_bytes * start_of (held_in (slot_at work (src + slot_bytes * k))).bindings + record_bytes ≤ length bytes

-- the first slot whose reading is not late, counted from src; count where all are
unfoldable pub first_in_time : List ℕ → ℕ → ℕ → List ℕ → ℕ → ℕ → ℕ
first_in_time bytes i duration work src count =
    first (λ k. not (is_late bytes i duration (held_in (slot_at work (src + slot_bytes * k))))) count

-- how many of the readings close at record i
unfoldable pub gone_by : List ℕ → ℕ → ℕ → List ℕ → ℕ → ℕ → ℕ
gone_by bytes i duration work src count =
    elim (is_event_by bytes i) [ true ↦ first_in_time bytes i duration work src count | false ↦ count ]

-- every variable of `full` is bound
unfoldable pub is_full_by : ℕ → Held → Bool
is_full_by full h = within full h.state

-- the full ones, reported with a mark
unfoldable pub lines_by : ℕ → ℕ → List Held → List Line
lines_by full mark l = map (λ (h : Held). line mark h.bindings) (filter (is_full_by full) l)
