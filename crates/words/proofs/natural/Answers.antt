-- `words::natural` meets its contract. Assumes nothing.
use Rattle.std.proofs.Common.{arith, refl}
use Rattle.words.proofs.Numerals.{natural-empty, natural-zero, natural-other, read_none, read_more, natural-read}
use Rattle.words.proofs.natural.Goals as goal
use Rattle.words.proofs.natural.Goals.{in_default, in_default-2}

pub returns-in-empty : goal.returns-in-empty
returns-in-empty c = natural-empty _ (omega arith)

pub returns-in-empty-2 : goal.returns-in-empty-2
returns-in-empty-2 c = natural-zero _ (omega arith) (omega arith)

pub loop-glyph-init : goal.loop-glyph-init
loop-glyph-init c =
    elim c.if-word-lt2.branch [
      | in_default w ↦ read_none _ (omega arith) (λ h e. omega arith)
      | in_default-2 w ↦ read_none _ (omega arith) (λ h e. omega arith)
    ]

pub returns-in_default-glyph : goal.returns-in_default-glyph
returns-in_default-glyph c = natural-other _ c.loop-glyph.glyph-index (omega arith) (λ d. omega (arith, d.from, d.upto))

pub returns-in_default-glyph-2 : goal.returns-in_default-glyph-2
returns-in_default-glyph-2 c = natural-other _ c.loop-glyph.glyph-index (omega arith) (λ d. omega (arith, d.from, d.upto))

pub loop-glyph-preserved : goal.loop-glyph-preserved
loop-glyph-preserved c =
    read_more _ _ _ _ _ c.loop-glyph.invariant (omega arith) refl (omega arith) (omega arith) c.with_digit-value.ensures

pub returns : goal.returns
returns c = natural-read _ _ _ c.loop-glyph.invariant c.loop-glyph-test.false
