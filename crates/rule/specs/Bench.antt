-- Rows P1 to P10 as a table, from the bytes of pattern and block to the answer of each, with the lines that are
-- printed.
use Rattle.std.specs.Prelude.{Bool, true, false, ◌&&◌, List, [], ◌∷◌, ◌++◌, ℕ, zero, suc, ◌-◌, ◌*◌, ◌/◌, ◌%◌, ◌^◌, length, take, eqb, leb}
use Rattle.records.specs.declared.Answer.{Answer}
use Rattle.records.specs.Blocks.{refused}
use Rattle.patterns.specs.Patterns.{most_variables, most_conditions}
use Rattle.patterns.specs.Checked.{pattern_of, pattern_answer}
use Rattle.automaton.specs.Steps.{steps}
use Rattle.automaton.specs.Listing.{step_bytes, step_room, steps_listed, listing_bytes, all_zero, ListingPromise}
use Rattle.rule.specs.Rule.{Binding, Reading, Line, oldest_first, Report}
use Rattle.rule.specs.Promises.{Outcome}
use Rattle.rule.specs.Calls.{input_answer, pattern_in, block_in, zeros, room_in, result_of, work_per_reading, most_live}
use Rattle.rule.specs.Calls.{most_result_bytes, ForwardCall, StartByStartCall, MeasureCall}
use Rattle.rule.specs.Computed.{report, peak, forward}
use Rattle.rule.specs.Starts.{start_answer, measure_answer}

-- ## Patterns and blocks by their bytes

-- Rule 10.1
abbrev pub bench_pattern : List ℕ
bench_pattern =
    0x13 ∷ 0x05 ∷ 0x00 ∷ 0x00 ∷ 0x00 ∷ 0x00 ∷ 0x00 ∷ 0x64 ∷ 0x10 ∷ 0x18 ∷ 0x20
    ∷ 0x04 ∷ 0x00 ∷ 0x00 ∷ 0x00 ∷ 0x00 ∷ 0x00 ∷ 0x00 ∷ 0x00
    ∷ 0x14 ∷ 0x00 ∷ 0x00 ∷ 0x00 ∷ 0x00 ∷ 0x00 ∷ 0x00 ∷ 0x01
    ∷ 0x24 ∷ 0x00 ∷ 0x00 ∷ 0x00 ∷ 0x00 ∷ 0x00 ∷ 0x00 ∷ 0x02
    ∷ 0x00 ∷ 0x22 ∷ 0x00 ∷ 0x00 ∷ 0x00 ∷ 0x00 ∷ 0x00 ∷ 0x00
    ∷ 0x00 ∷ 0x24 ∷ 0x00 ∷ 0x00 ∷ 0x00 ∷ 0x00 ∷ 0x00 ∷ 0x00 ∷ []

-- a single variable, no conditions, duration 0
abbrev pub one_pattern : List ℕ
one_pattern = 0x11 ∷ 0x00 ∷ 0x00 ∷ 0x00 ∷ 0x00 ∷ 0x00 ∷ 0x00 ∷ 0x00 ∷ 0x10 ∷ []

-- the same with a group variable
abbrev pub group_pattern : List ℕ
group_pattern = 0x11 ∷ 0x00 ∷ 0x00 ∷ 0x00 ∷ 0x00 ∷ 0x00 ∷ 0x00 ∷ 0x00 ∷ 0x18 ∷ []

-- two sets of a variable each within 100 cycles, no conditions
abbrev pub two_pattern : List ℕ
two_pattern = 0x12 ∷ 0x00 ∷ 0x00 ∷ 0x00 ∷ 0x00 ∷ 0x00 ∷ 0x00 ∷ 0x64 ∷ 0x10 ∷ 0x20 ∷ []

-- a variable of any core but 1, duration 0
abbrev pub other_pattern : List ℕ
other_pattern =
    0x11 ∷ 0x01 ∷ 0x00 ∷ 0x00 ∷ 0x00 ∷ 0x00 ∷ 0x00 ∷ 0x00 ∷ 0x10
    ∷ 0x01 ∷ 0x40 ∷ 0x00 ∷ 0x00 ∷ 0x00 ∷ 0x00 ∷ 0x00 ∷ 0x01 ∷ []

-- two sets of a variable each within 100 cycles, the second a fetch
abbrev pub fetch_pattern : List ℕ
fetch_pattern =
    0x12 ∷ 0x01 ∷ 0x00 ∷ 0x00 ∷ 0x00 ∷ 0x00 ∷ 0x00 ∷ 0x64 ∷ 0x10 ∷ 0x20
    ∷ 0x14 ∷ 0x00 ∷ 0x00 ∷ 0x00 ∷ 0x00 ∷ 0x00 ∷ 0x00 ∷ 0x03 ∷ []

-- a number as n bytes, the most significant first
abbrev pub in_bytes : ℕ → ℕ → List ℕ
in_bytes zero x = []
in_bytes (suc n) x = (x / 256 ^ n % 256) ∷ in_bytes n x

-- an event by its time, core and type, slot and amount 0
abbrev pub event_bytes : ℕ → ℕ → ℕ → List ℕ
event_bytes time core type = core ∷ type ∷ (in_bytes 5 time ++ zeros 9)

-- a gap: kind 1 in the upper 2 bits of the first byte
abbrev pub gap_bytes : ℕ → ℕ → List ℕ
gap_bytes time slot = 0x40 ∷ 0 ∷ (in_bytes 5 time ++ (in_bytes 4 slot ++ zeros 5))

-- records 0 to 6, up to the gap
abbrev pub bench_front : List ℕ
bench_front =
    event_bytes 10 1 3 ++ event_bytes 20 2 17 ++ event_bytes 30 1 17 ++ event_bytes 40 1 17 ++ event_bytes 50 1 33
    ++ event_bytes 60 2 3
    ++ gap_bytes 70 9

-- Rule 10.1
abbrev pub bench_block : List ℕ
bench_block =
    bench_front
    ++ event_bytes 80 2 33 ++ event_bytes 90 2 17 ++ event_bytes 100 2 3 ++ event_bytes 110 2 17 ++ event_bytes 120 2 33

-- events of cores 0, 1 and 2
abbrev pub cores_block : List ℕ
cores_block = event_bytes 10 0 0 ++ event_bytes 20 1 0 ++ event_bytes 30 2 0

-- an event, and a gap behind it
abbrev pub lost_block : List ℕ
lost_block = event_bytes 10 0 0 ++ gap_bytes 20 1

-- two events of one cycle, and one a cycle later
abbrev pub cycle_block : List ℕ
cycle_block = event_bytes 10 0 0 ++ event_bytes 10 0 0 ++ event_bytes 11 0 0

-- an event, and a gap of its cycle behind it; a gap, and an event of its cycle behind it
abbrev pub gap_of_cycle : List ℕ
gap_of_cycle = event_bytes 10 0 0 ++ gap_bytes 10 1

abbrev pub event_of_gap : List ℕ
event_of_gap = gap_bytes 10 1 ++ event_bytes 10 0 0

-- ## The table

-- P1's result numbers
abbrev pub bench_numbers : List ℕ
bench_numbers = 16388 ∷ 0 ∷ 4098 ∷ 4099 ∷ 8196 ∷ 8196 ∷ 4104 ∷ 9 ∷ 4106 ∷ 8203 ∷ 8195 ∷ 9 ∷ 4106 ∷ 8203 ∷ []

-- P2's steps
abbrev pub bench_steps : List ℕ
bench_steps =
    0x0000000000000001 ∷ 0x0001000000000002 ∷ 0x001100000000000a ∷ 0x0020000000000009 ∷ 0x0021000000000002
    ∷ 0x003100000000000a ∷ 0x0032800000000014 ∷ []

-- what must come of a pass that succeeds, and of one that refuses: the answer, and the numbers written
abbrev pub gives : ℕ → ℕ → ℕ → List ℕ → Outcome
gives used readings peak numbers =
    record {
      answer = record { code = 0; place = 0; used = used; readings = readings; peak = peak };
      numbers = numbers;
    }

abbrev pub refuses : ℕ → ℕ → Outcome
refuses code place = record { answer = refused code place; numbers = [] }

-- a line by its mark and its bindings, the oldest first
abbrev pub prints : ℕ → Reading → Line
prints mark bindings = record { mark = mark; reading = oldest_first bindings }

abbrev pub bound : ℕ → ℕ → Binding
bound variable at = record { variable = variable; at = at }

-- A question, from the caller's bytes, and what must come: of the two passes and of measure, with a limit and so many
-- bytes of working memory and of result lent; of the report; or of the listing, with so many bytes lent.
pub data Row : Type 0 where
  asks : (pattern block : List ℕ) (limit lent_work lent_result : ℕ) (forward start : Outcome) (measure : Answer) → Row
  reports : (pattern block : List ℕ) → List Line → Row
  lists : (pattern : List ℕ) (lent : ℕ) → Answer → (steps : List ℕ) → Row

-- both passes and measure succeed alike, but for the peak, which is 0 from all but the forward pass
abbrev pub succeeds :
    (pattern block : List ℕ) (limit lent_work lent_result used readings peak : ℕ) (numbers : List ℕ) → Row
succeeds pattern block limit lent_work lent_result used readings peak numbers =
    asks pattern block limit lent_work lent_result (gives used readings peak numbers) (gives used readings 0 numbers)
    (gives used readings 0 []).answer

-- what the match program lends (rule 9.1)
abbrev pub full_limit : ℕ
full_limit = most_live

abbrev pub full_work : ℕ
full_work = work_per_reading * most_live

abbrev pub full_result : ℕ
full_result = most_result_bytes

-- Rule 10.2
abbrev pub P1 : Row
P1 = succeeds bench_pattern bench_block full_limit full_work full_result 14 3 5 bench_numbers

-- Rule 10.2
abbrev pub P2 : Row
P2 = lists bench_pattern 56 (steps_listed 7) bench_steps

-- Rule 10.2
abbrev pub P3 : Row
P3 = succeeds bench_pattern bench_block 5 800 full_result 14 3 5 bench_numbers

-- Rule 10.2
abbrev pub P4 : Row
P4 = asks bench_pattern bench_block 4 640 full_result (refuses 10 5) (gives 14 3 0 bench_numbers) (gives 14 3 0 []).answer

-- Rule 10.2
abbrev pub P5 : Row
P5 = succeeds bench_pattern bench_block full_limit full_work 28 14 3 5 bench_numbers

-- Rule 10.2
abbrev pub P6 : Row
P6 = asks bench_pattern bench_block full_limit full_work 26 (refuses 11 0) (refuses 11 0) (gives 14 3 0 []).answer

-- Rule 10.2
abbrev pub P7 : Row
P7 = succeeds bench_pattern [] full_limit full_work full_result 0 0 0 []

-- Rule 10.2
abbrev pub P8 : Row
P8 = succeeds one_pattern (event_bytes 10 0 0) full_limit full_work full_result 2 1 1 (8193 ∷ 0 ∷ [])

-- Rule 10.2
abbrev pub P9 : Row
P9 =
    succeeds two_pattern (event_bytes 10 0 0 ++ event_bytes 110 0 0) full_limit full_work full_result 3 1 2
    (8194 ∷ 0 ∷ 4097 ∷ [])

-- Rule 10.2
abbrev pub P10 : Row
P10 = succeeds two_pattern (event_bytes 10 0 0 ++ event_bytes 111 0 0) full_limit full_work full_result 0 0 1 []

-- the lines that the match program prints of the bench block
abbrev pub line_from0 : Line
line_from0 = prints 4 (bound 0 0 ∷ bound 1 2 ∷ bound 1 3 ∷ bound 2 4 ∷ [])

-- Rule 10.1: the lines that the match program writes of the example
abbrev pub bench_lines : List Line
bench_lines =
    line_from0
    ∷ prints 2 (bound 1 8 ∷ bound 0 9 ∷ bound 1 10 ∷ bound 2 11 ∷ [])
    ∷ prints 2 (bound 0 9 ∷ bound 1 10 ∷ bound 2 11 ∷ []) ∷ []

-- Rule 10.1
abbrev pub bench_report : Row
bench_report = reports bench_pattern bench_block bench_lines

-- of the bench block up to its gap, the first of these alone
abbrev pub front_numbers : List ℕ
front_numbers = 16388 ∷ 0 ∷ 4098 ∷ 4099 ∷ 8196 ∷ []

abbrev pub front : Row
front = succeeds bench_pattern bench_front full_limit full_work full_result 5 1 5 front_numbers

abbrev pub front_report : Row
front_report = reports bench_pattern bench_front (line_from0 ∷ [])

-- of one variable and no conditions, the one step from the empty state
abbrev pub one_step : Row
one_step = lists one_pattern 56 (steps_listed 1) (0 ∷ [])

-- of events of cores 0, 1 and 2, those of any core but 1
abbrev pub other_numbers : List ℕ
other_numbers = 4097 ∷ 0 ∷ 8193 ∷ 2 ∷ []

abbrev pub other_cores : Row
other_cores = succeeds other_pattern cores_block full_limit full_work full_result 4 2 1 other_numbers

-- of an event before a gap, under one group variable and under one plain variable
abbrev pub open_numbers : List ℕ
open_numbers = 12289 ∷ 0 ∷ []

abbrev pub open_gap : Row
open_gap = succeeds group_pattern lost_block full_limit full_work full_result 2 1 1 open_numbers

abbrev pub complete_numbers : List ℕ
complete_numbers = 16385 ∷ 0 ∷ []

abbrev pub complete_gap : Row
complete_gap = succeeds one_pattern lost_block full_limit full_work full_result 2 1 1 complete_numbers

-- of two sets of a variable each on two events of one cycle and one a cycle later: 0@0 1@2 and 0@1 1@2
abbrev pub cycle_numbers : List ℕ
cycle_numbers = 8194 ∷ 0 ∷ 4098 ∷ 8194 ∷ 1 ∷ 4098 ∷ []

abbrev pub one_cycle : Row
one_cycle = succeeds two_pattern cycle_block full_limit full_work full_result 6 2 3 cycle_numbers

-- Rule 10.2: the rows, and others that theorems use
abbrev pub table : List Row
table =
    P1 ∷ P2 ∷ P3 ∷ P4 ∷ P5 ∷ P6 ∷ P7 ∷ P8 ∷ P9 ∷ P10 ∷ bench_report ∷ front ∷ front_report ∷ one_step ∷ other_cores
    ∷ open_gap ∷ complete_gap ∷ one_cycle ∷ []

-- a pattern that no event of the bench can end: with a limit of 1 the forward pass refuses all the same
abbrev pub no_fetch : Row
no_fetch = asks fetch_pattern bench_block 1 160 full_result (refuses 10 1) (gives 0 0 0 []) (gives 0 0 0 []).answer

-- the slice of a listing: eight bytes a step, and zeros behind them
abbrev pub listing_of : ℕ → List ℕ → List ℕ
listing_of lent l = listing_bytes l ++ all_zero (lent - step_bytes * length l)

-- Rule 10.2: what a row says, by the promises of the calls
abbrev pub Says : Row → Type 0
Says (asks pattern block limit lent_work lent_result f s m) =
    ForwardCall pattern block limit lent_work lent_result f.answer (zeros lent_work) (result_of lent_result f.numbers)
    × StartByStartCall pattern block lent_result s.answer (result_of lent_result s.numbers)
    × MeasureCall pattern block m
Says (reports pattern block l) = Report (pattern_in pattern) (block_in block) (length (block_in block)) l
Says (lists pattern lent answer l) = ListingPromise pattern lent answer (listing_of lent l)

-- ## The table computed

unfoldable pub same_list : List ℕ → List ℕ → Bool
same_list [] [] = true
same_list [] (y ∷ m) = false
same_list (x ∷ l) [] = false
same_list (x ∷ l) (y ∷ m) = eqb x y && same_list l m

unfoldable pub same_reading : Reading → Reading → Bool
same_reading [] [] = true
same_reading [] (b ∷ s) = false
same_reading (a ∷ r) [] = false
same_reading (a ∷ r) (b ∷ s) = eqb a.variable b.variable && (eqb a.at b.at && same_reading r s)

unfoldable pub same_lines : List Line → List Line → Bool
same_lines [] [] = true
same_lines [] (y ∷ m) = false
same_lines (x ∷ l) [] = false
same_lines (x ∷ l) (y ∷ m) = eqb x.mark y.mark && (same_reading x.reading y.reading && same_lines l m)

unfoldable pub same_answer : Answer → Answer → Bool
same_answer a b =
    eqb a.code b.code
    && (eqb a.place b.place
    && (eqb a.used b.used
    && (eqb a.readings b.readings
    && eqb a.peak b.peak)))

-- what came is what must come: the answer, and so many numbers of the room as it says are used
unfoldable pub same_outcome : ℕ → Outcome → Outcome → Bool
same_outcome room came must =
    same_answer came.answer must.answer
    && (eqb (length must.numbers) must.answer.used
    && (leb (length must.numbers) room
    && same_list (take (length must.numbers) came.numbers) must.numbers))

unfoldable pub limit_in_order : ℕ → ℕ → Bool
limit_in_order limit lent = leb 1 limit && (leb limit most_live && leb (work_per_reading * limit) lent)

unfoldable pub agrees : Row → Bool
agrees (asks pattern block limit lent_work lent_result f s m) =
    eqb (input_answer pattern block).code 0
    && (limit_in_order limit lent_work
    && (same_outcome (room_in lent_result) (forward (pattern_in pattern) (block_in block) limit (room_in lent_result)) f
    && (same_outcome (room_in lent_result) (start_answer (pattern_in pattern) (block_in block) (room_in lent_result)) s
    && same_answer (measure_answer (pattern_in pattern) (block_in block)) m)))
agrees (reports pattern block l) =
    eqb (input_answer pattern block).code 0 && same_lines (report (pattern_in pattern) (block_in block)) l
agrees (lists pattern lent answer l) =
    eqb (pattern_answer pattern).code 0
    && (leb (pattern_of pattern).n most_variables
    && (leb (pattern_of pattern).c most_conditions
    && (same_list (steps (pattern_of pattern)) l
    && (leb (length l) (step_room lent)
    && same_answer (steps_listed (length l)) answer))))
