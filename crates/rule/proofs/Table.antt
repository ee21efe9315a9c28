-- What the rows of the table say, computed. Assumes nothing.
use Rattle.std.specs.Prelude.{◌≡◌, refl, true}
use Rattle.numbers.specs.Bits.{mask}
use Rattle.numbers.specs.Numbers.{number, upto, first_from, first, count}
use Rattle.records.specs.Records.{class_of, record_at, records_of}
use Rattle.records.specs.Blocks.{misfit, gap_broken, broken, misplaced, late, record_refusal, bad, first_bad}
use Rattle.records.specs.Blocks.{block_answer}
use Rattle.patterns.specs.Patterns.{header, header_broken, set_number, group_flag}
use Rattle.patterns.specs.Patterns.{variable_zero, least_set, greatest_set, variable_broken, condition_of, condition_zero}
use Rattle.patterns.specs.Patterns.{condition_word, form_broken, condition_broken}
use Rattle.patterns.specs.Checked.{filled, pattern_up_to, pattern_of, first_bad_variable, first_bad_condition, pattern_answer}
use Rattle.patterns.specs.Checked.{condition_at}
use Rattle.patterns.specs.Comparison.{signed, value, constant_value, order_of, compared_with, holds}
use Rattle.automaton.specs.Filtering.{all, keep, filter, collect}
use Rattle.automaton.specs.Automaton.{opens, loops, leaves, marked, carries, is_state, carried, step_word}
use Rattle.automaton.specs.Steps.{steps_from, steps}
use Rattle.rule.specs.Rule.{binds, choices, passes, in_order, allowed}
use Rattle.rule.specs.Rule.{fires, is_full, last_set_plain, gap_mark}
use Rattle.rule.specs.Calls.{input_answer}
use Rattle.rule.specs.Computed.{is_event, in_window, only, or_else, any, fired, extend, step, live, lines, closing}
use Rattle.rule.specs.Computed.{closed, report, is_met, peak, scan, forward}
use Rattle.rule.specs.Starts.{is_past, closes_at, until, mark_at, any_fires, in_turn, close, skip_found, start_found}
use Rattle.rule.specs.Starts.{found_from, found_all, lines_of, least_over, start_answer, measure_answer}
use Rattle.rule.specs.Bench.{table, no_fetch, agrees, limit_in_order, same_outcome, same_answer, same_lines, same_reading, same_list}

pub table_agrees : all agrees table ≡ true
unfolding agrees limit_in_order same_outcome same_answer same_lines same_reading same_list mask number upto first_from first
    count class_of record_at records_of misfit gap_broken broken misplaced late record_refusal bad first_bad block_answer header
    header_broken set_number group_flag variable_zero least_set greatest_set variable_broken condition_of condition_zero
    condition_word form_broken condition_broken filled pattern_up_to pattern_of first_bad_variable first_bad_condition
    pattern_answer condition_at signed value constant_value order_of compared_with holds all keep filter collect opens loops
    leaves marked carries is_state carried step_word steps_from steps binds choices passes in_order allowed fires is_full
    last_set_plain gap_mark input_answer is_event in_window only or_else any fired extend step live lines closing closed report
    is_met peak scan forward is_past closes_at until mark_at any_fires in_turn close skip_found start_found found_from found_all
    lines_of least_over start_answer measure_answer
table_agrees = refl

-- the row of the search
pub no_fetch_agrees : agrees no_fetch ≡ true
unfolding agrees limit_in_order same_outcome same_answer same_lines same_reading same_list mask number upto first_from first
    count class_of record_at records_of misfit gap_broken broken misplaced late record_refusal bad first_bad block_answer header
    header_broken set_number group_flag variable_zero least_set greatest_set variable_broken condition_of condition_zero
    condition_word form_broken condition_broken filled pattern_up_to pattern_of first_bad_variable first_bad_condition
    pattern_answer condition_at signed value constant_value order_of compared_with holds all keep filter collect opens loops
    leaves marked carries is_state carried step_word steps_from steps binds choices passes in_order allowed fires is_full
    last_set_plain gap_mark input_answer is_event in_window only or_else any fired extend step live lines closing closed report
    is_met peak scan forward is_past closes_at until mark_at any_fires in_turn close skip_found start_found found_from found_all
    lines_of least_over start_answer measure_answer
no_fetch_agrees = refl
