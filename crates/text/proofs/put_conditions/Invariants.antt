-- `text::put_conditions` meets its contract. The loop's invariant: the first i words have been put. Assumes nothing.
use Rattle.std.proofs.Common.{◌≡◌, ◌+◌, ◌*◌, take}
use mathlib.Core.List.{flat_map}
use Rattle.numbers.specs.Bytes.{word_bytes}
use Rattle.numbers.specs.Put.{Put}
use Rattle.text.proofs.put_conditions.Given as goal

abbrev pub invariant-loop-i : goal.invariant-loop-i
invariant-loop-i l =
    (l.end ≡ l.at + 8 * l.i)
    × Put l.initial.bytes l.bytes l.at (flat_map word_bytes (take l.i l.fn.d.conditions)) l.end
