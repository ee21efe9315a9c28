-- `wording::put_whens` meets its contract. The loop's invariant: the first i conditions have been put, at most 29 bytes
-- each. Assumes nothing.
use Rattle.std.proofs.Common.{◌+◌, ◌*◌, ◌≤◌, map}
use mathlib.Core.List.{flat_map}
use Rattle.numbers.specs.Numbers.{upto}
use Rattle.numbers.specs.Put.{Put}
use Rattle.patterns.specs.Checked.{condition_at}
use Rattle.form.specs.Form.{when_line}
use Rattle.wording.specs.Wording.{when_of}
use Rattle.wording.proofs.put_whens.Given as goal

abbrev pub invariant-loop-i : goal.invariant-loop-i
invariant-loop-i l =
    (l.end ≤ l.at + 29 * l.i)
    × Put l.initial.text l.text l.at (flat_map when_line (map (λ j. when_of (condition_at l.p j)) (upto 0 l.i))) l.end
