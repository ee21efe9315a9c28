-- `lines::put_lines` meets its contract. The loop's invariant: the lines up to the counter have been put, at most 8
-- bytes for each number of the result. Assumes nothing.
use Rattle.std.proofs.Common.{◌≡◌, ◌*◌, ◌≤◌}
use Rattle.numbers.specs.Put.{Put}
use Rattle.lines.specs.Text.{report_text}
use Rattle.lines.specs.Results.{place_of, lines_in}
use Rattle.lines.proofs.put_lines.Given as goal

abbrev pub invariant-loop : goal.invariant-loop
invariant-loop l =
    (l.at ≡ place_of l.res l.counter) × (l.end ≤ 8 * l.at)
    × Put l.initial.text l.text 0 (report_text (lines_in l.res l.counter)) l.end
