-- `words::natural` meets its contract. The loop's invariant: the bytes passed are digits, and the value is the number
-- that they stand for. Assumes nothing.
use Rattle.words.proofs.Numerals.{Read}
use Rattle.words.proofs.natural.Given as goal

abbrev pub invariant-loop-glyph : goal.invariant-loop-glyph
invariant-loop-glyph l = Read l.word l.glyph-index l.value
