-- A reading in 80 bytes: two bytes for the count of its bindings, two for its state, and from byte 4 on two for each
-- binding, the oldest first. Numbers stand high byte first, as in a result.
use Rattle.std.specs.Prelude.{List, [], ◌∷◌, ◌++◌, ℕ, zero, suc, ◌+◌, ◌*◌, ◌^◌, ◌/◌, ◌%◌, take, drop}
use Rattle.std.specs.Int.Bits.{bit_or}
use Rattle.numbers.specs.Numbers.{number}
use Rattle.numbers.specs.Bits.{mask}
use Rattle.patterns.specs.Patterns.{most_variables}
use Rattle.rule.specs.Rule.{Binding, Reading, binds}

abbrev pub slot_bytes : ℕ
slot_bytes = 80

-- a reading beside its state: variable v has weight 2^v
pub record Held : Type 0 where
  pub state : ℕ
  pub bindings : Reading

-- variable 4, record 12
abbrev pub binding_of : ℕ → Binding
binding_of word = record { variable = word / 2 ^ 12; at = word % 2 ^ 12 }

-- the first n bindings of a slot, the latest first
unfoldable pub bindings_in : List ℕ → ℕ → Reading
bindings_in slot zero = []
bindings_in slot (suc n) = binding_of (number slot (4 + 2 * n) 2) ∷ bindings_in slot n

abbrev pub count_in : List ℕ → ℕ
count_in slot = number slot 0 2

abbrev pub state_in : List ℕ → ℕ
state_in slot = number slot 2 2

-- what a slot holds
unfoldable pub held_in : List ℕ → Held
held_in slot = record { state = state_in slot; bindings = bindings_in slot (count_in slot) }

-- a reading with the number of its state
unfoldable pub holding : Reading → Held
holding r = record { state = mask (binds r) most_variables; bindings = r }

-- variable v bound to record i as well
unfoldable pub grow : ℕ → ℕ → Held → Held
grow i v h = record { state = bit_or h.state (2 ^ v); bindings = record { variable = v; at = i } ∷ h.bindings }

-- the slot at a place of a memory
abbrev pub slot_at : List ℕ → ℕ → List ℕ
slot_at memory at = take slot_bytes (drop at memory)

-- what n slots hold, from a place on
unfoldable pub slots_at : List ℕ → ℕ → ℕ → List Held
slots_at memory at zero = []
slots_at memory at (suc n) = slots_at memory at n ++ (held_in (slot_at memory (at + slot_bytes * n)) ∷ [])
