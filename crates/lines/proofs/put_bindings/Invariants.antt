-- `lines::put_bindings` meets its contract. The loop's invariant: the first i bindings have been put, at most 8 bytes
-- each. Assumes nothing.
use Rattle.std.proofs.Common.{◌+◌, ◌*◌, ◌≤◌}
use Rattle.numbers.specs.Put.{Put}
use Rattle.lines.specs.Text.{reading_text}
use Rattle.lines.specs.Results.{bindings_at}
use Rattle.lines.proofs.put_bindings.Given as goal

abbrev pub invariant-loop-i : goal.invariant-loop-i
invariant-loop-i l =
    (l.end ≤ l.at + 8 * l.i) × Put l.initial.text l.text l.at (reading_text (bindings_at l.res l.first l.i)) l.end
