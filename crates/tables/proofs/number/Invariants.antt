-- `tables::number` stays below 100,000.
use Rattle.std.proofs.Common.{◌<◌}
use Rattle.tables.specs.Rows.{large}
use Rattle.tables.proofs.number.Given as goal

abbrev pub invariant-loop-glyph : goal.invariant-loop-glyph
invariant-loop-glyph l = l.value < large
