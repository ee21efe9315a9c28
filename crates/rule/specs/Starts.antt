-- What the start-by-start pass comes upon, as a list that can be computed, and what it answers by it. No promise of a
-- public call names this file.
use Rattle.std.specs.Prelude.{◌≡◌, Bool, true, false, not, ◌&&◌, ◌||◌, List, [], ◌∷◌, ℕ, zero, suc, ◌+◌, ◌-◌, ◌≤◌, ◌<◌, min, length, ltb}
use Rattle.records.specs.declared.Answer.{Answer}
use Rattle.records.specs.Blocks.{refused}
use Rattle.numbers.specs.Numbers.{upto, first}
use Rattle.patterns.specs.declared.Pattern.{Pattern}
use Rattle.automaton.specs.Filtering.{filter, collect}
use Rattle.automaton.specs.Automaton.{variables_of}
use Rattle.rule.specs.Rule.{Block, Reading, Line, time_at, fires, is_full, past_mark, end_mark, gap_mark, pack}
use Rattle.rule.specs.Promises.{Outcome, most_bindings, refused_with, success}
use Rattle.rule.specs.Computed.{is_event, only, any, line}
use Rattle.rule.specs.Promises.{measured}

-- a full reading that closes, with its mark; or a reading that would take a binding too many, at a record
pub data Found : Type 0 where
  closed : ℕ → Reading → Found
  over : ℕ → Found

-- ## Where a start's readings close

-- record j is past the window of a reading that begins at record i
unfoldable pub is_past : Pattern → Block → ℕ → ℕ → Bool
is_past p B i j = ltb (time_at B i + p.duration) (time_at B j)

-- record j closes the readings that begin at record i
unfoldable pub closes_at : Pattern → Block → ℕ → ℕ → Bool
closes_at p B i j = ltb i j && (not (is_event B j) || is_past p B i j)

-- the record that closes them, or the end: it depends on their first record alone
unfoldable pub until : Pattern → Block → ℕ → ℕ
until p B i = first (closes_at p B i) (length B)

-- the mark of what closes at record j
unfoldable pub mark_at : Pattern → Block → ℕ → ℕ
mark_at p B j =
    elim (is_event B j) [
      | true ↦ past_mark
      | false ↦ elim (ltb j (length B)) [ true ↦ gap_mark p | false ↦ end_mark ]
    ]

-- the mark of all readings that begin at record i
abbrev pub mark_of : Pattern → Block → ℕ → ℕ
mark_of p B i = mark_at p B (until p B i)

-- ## Skip and branch

-- variable v bound to record j as well
abbrev pub with_binding : Reading → ℕ → ℕ → Reading
with_binding r v j = record { variable = v; at = j } ∷ r

-- some step fires at record j
unfoldable pub any_fires : Pattern → Block → Reading → ℕ → Bool
any_fires p B r j = any (λ v. fires p B r v j) (variables_of p)

-- what follows each of the n variables from v on that passes the test
unfoldable pub in_turn : (ℕ → Bool) → (ℕ → List Found) → ℕ → ℕ → List Found
in_turn test next v n = collect next (filter test (upto v n))

-- a reading that closes is found if it is full
unfoldable pub close : Pattern → ℕ → Reading → List Found
close p mark r = only (is_full p r) (closed mark r ∷ [])

-- from a reading that is held before record j, with n records left until it closes: on to the next record that fires,
-- and there each firing variable in turn
unfoldable pub skip_found : Pattern → Block → ℕ → ℕ → ℕ → Reading → List Found
skip_found p B mark zero j r = close p mark r
skip_found p B mark (suc n) j r =
    elim (any_fires p B r j) [
      | false ↦ skip_found p B mark n (suc j) r
      | true ↦ elim (ltb (length r) most_bindings) [
        | true ↦ in_turn (λ v. fires p B r v j) (λ v. skip_found p B mark n (suc j) (with_binding r v j)) 0 p.n
        | false ↦ over j ∷ []
      ]
    ]

-- the same by the record at which the readings close
abbrev pub skip_until : Pattern → Block → ℕ → ℕ → ℕ → Reading → List Found
skip_until p B mark end j r = skip_found p B mark (end - j) j r

-- the branch at record j, from variable v on
abbrev pub branch_until : Pattern → Block → ℕ → ℕ → ℕ → Reading → ℕ → List Found
branch_until p B mark end j r v =
    in_turn (λ w. fires p B r w j) (λ w. skip_until p B mark end (suc j) (with_binding r w j)) v (p.n - v)

-- q is the next record from j on that fires; the record at which the reading closes, where none does
pub record NextFire (p : Pattern) (B : Block) (r : Reading) (j end q : ℕ) : Type 0 where
  pub from : j ≤ q
  pub up_to : q ≤ end
  pub passed : (i : ℕ) → j ≤ i → i < q → any_fires p B r i ≡ false
  pub here : q < end → any_fires p B r q ≡ true

-- ## All starts

-- what is found from the readings that begin at record i
unfoldable pub start_found : Pattern → Block → ℕ → List Found
start_found p B i = only (is_event B i) (branch_until p B (mark_of p B i) (until p B i) i [] 0)

-- from the n records from i on, one after another
unfoldable pub found_from : Pattern → Block → ℕ → ℕ → List Found
found_from p B i n = collect (start_found p B) (upto i n)

unfoldable pub found_all : Pattern → Block → List Found
found_all p B = found_from p B 0 (length B)

-- ## What they come to

-- the readings that closed, as they are reported
unfoldable pub lines_of : List Found → List Line
lines_of [] = []
lines_of (closed mark r ∷ l) = line mark r ∷ lines_of l
lines_of (over j ∷ l) = lines_of l

-- the least record at which a reading would take a binding too many; none where there is no such record below it
unfoldable pub least_over : ℕ → List Found → ℕ
least_over none [] = none
least_over none (closed mark r ∷ l) = least_over none l
least_over none (over j ∷ l) = min j (least_over none l)

-- Serves rule 8.16: the answer by what is found. No record is bound twice in one reading, so 13 is not given.
unfoldable pub start_answer : Pattern → Block → ℕ → Outcome
start_answer p B room =
    elim (ltb (least_over (length B) (found_all p B)) (length B)) [
      | true ↦ refused_with room 9 (least_over (length B) (found_all p B))
      | false ↦ elim (ltb room (length (pack (lines_of (found_all p B))))) [
        | true ↦ refused_with room 11 0
        | false ↦ success room (lines_of (found_all p B)) 0
      ]
    ]

-- Serves rule 8.16: measure's answer by what is found
unfoldable pub measure_answer : Pattern → Block → Answer
measure_answer p B =
    elim (ltb (least_over (length B) (found_all p B)) (length B)) [
      | true ↦ refused 9 (least_over (length B) (found_all p B))
      | false ↦ measured (lines_of (found_all p B))
    ]
