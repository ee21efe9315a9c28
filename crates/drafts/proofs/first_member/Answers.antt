-- `drafts::first_member` meets its contract. Assumes nothing.
use Rattle.std.proofs.Common.{arith, refl}
use Rattle.drafts.proofs.Pieces.{piece-alone, piece-group, piece-short, piece-other}
use Rattle.drafts.proofs.first_member.Goals as goal

pub returns-in-32 : goal.returns-in-32
returns-in-32 c =
    piece-group c.args.line.now _ (record { from = omega arith; below = omega arith }) (omega arith) (omega arith) refl (omega arith)

pub returns-in-32-2 : goal.returns-in-32-2
returns-in-32-2 c =
    piece-alone c.args.line.now _ (record { from = grind arith; below = grind arith }) (grind arith) (grind arith) refl
    (λ h e. grind arith)

pub returns-in_default : goal.returns-in_default
returns-in_default c = piece-short c.args.line.now (omega arith)

pub returns-in_default-2 : goal.returns-in_default-2
returns-in_default-2 c = piece-other c.args.line.now (λ l. omega (arith, l.from, l.below))

pub returns-in_default-3 : goal.returns-in_default-3
returns-in_default-3 c = piece-other c.args.line.now (λ l. omega (arith, l.from, l.below))

pub returns-in_default-5 : goal.returns-in_default-5
returns-in_default-5 c = piece-other c.args.line.now (λ l. omega (arith, l.from, l.below))

pub returns-in_default-6 : goal.returns-in_default-6
returns-in_default-6 c = piece-other c.args.line.now (λ l. omega (arith, l.from, l.below))
