-- `live::can_at` meets its contract: no variable at a gap. Assumes nothing.
use Rattle.std.proofs.Common.{sym, ◌∙◌}
use native.Mathlib.Nat.{lt_of_lt_of_le}
use lib.Pow.{pow_mono}
use Rattle.live.proofs.CanAt.{can-event}
use Rattle.live.proofs.can_at.Goals as goal

pub returns-then-is_event : goal.returns-then-is_event
returns-then-is_event c = let a = c.args in
    (c.can_fire.ensures.0 ∙ sym (can-event a.plan.now a.n a.c a.block.now a.i (sym c.if-is_event.ensures)), lt_of_lt_of_le c.can_fire.ensures.1 (pow_mono c.requires.2))
