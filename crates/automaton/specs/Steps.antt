-- The steps of the automaton as a list that can be computed: state by state, in each variable by variable.
use Rattle.std.specs.Prelude.{true, false, List, [], ◌∷◌, map, ℕ, ◌+◌, ◌*◌, ◌^◌, ltb, length}
use Rattle.numbers.specs.Numbers.{upto, written}
use Rattle.patterns.specs.declared.Pattern.{Pattern}
use Rattle.automaton.specs.Filtering.{keep, filter, collect}
use Rattle.automaton.specs.Automaton.{variables_of, state_of, is_state, leaves, step_word}
use Rattle.automaton.specs.Listing.{step_bytes, step_room}
use Rattle.numbers.specs.Bytes.{word_bytes}

-- the steps from state number s
unfoldable pub steps_from : Pattern → ℕ → List ℕ
steps_from p s = map (step_word p s) (filter (leaves p (state_of s)) (variables_of p))

unfoldable pub steps : Pattern → List ℕ
steps p = collect (steps_from p) (filter (is_state p) (upto 0 (2 ^ p.n)))

-- the step from state number s on v, where v leaves it
unfoldable pub step_on : Pattern → ℕ → ℕ → List ℕ
step_on p s v = keep (leaves p (state_of s) v) (step_word p s v) []

-- the steps from number s, where it is a state
unfoldable pub steps_at : Pattern → ℕ → List ℕ
steps_at p s = elim (is_state p s) [ true ↦ steps_from p s | false ↦ [] ]

-- ## Steps put into lent memory

-- the bytes lent, and how many steps there are so far
pub record Sink : Type 0 where
  pub memory : List ℕ
  pub count : ℕ

abbrev pub sink_of : List ℕ → ℕ → Sink
sink_of memory count = record { memory = memory; count = count }

-- a step is written where there is room for it, and counted
unfoldable pub put : Sink → ℕ → Sink
put sink word =
    record {
      memory =
          elim (ltb sink.count (step_room (length sink.memory))) [
            | true ↦ written sink.memory (step_bytes * sink.count) (word_bytes word)
            | false ↦ sink.memory
          ];
      count = sink.count + 1;
    }

unfoldable pub puts : Sink → List ℕ → Sink
puts sink [] = sink
puts sink (w ∷ l) = puts (put sink w) l
