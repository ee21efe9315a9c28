-- `tables::hex_bytes` counts bytes that there is room for: the digits are at most two for each.
use Rattle.std.proofs.Common.{◌*◌, ◌≤◌, length}
use Rattle.tables.proofs.hex_bytes.Given as goal

abbrev pub invariant-loop-glyph : goal.invariant-loop-glyph
invariant-loop-glyph l = l.digits ≤ 2 * length l.bytes
