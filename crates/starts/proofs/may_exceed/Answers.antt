-- `starts::may_exceed`: by the block as a whole, by places, or by what can still be bound. Assumes nothing.
use Rattle.std.proofs.Common.{sym, ◌∙◌}
use Rattle.starts.proofs.Cuts.{above-none, above_floor}
use Rattle.starts.proofs.may_exceed.Goals as goal
use Rattle.starts.proofs.may_exceed.Goals.{then-s-end, else-s-end}

pub returns-else-counts-lt-PATIENCE : goal.returns-else-counts-lt-PATIENCE
returns-else-counts-lt-PATIENCE c =
    λ e. above-none _ _ _ _ _ c.requires.0.within _ _ c.min-end.ensures (c.can_exceed.ensures e)

pub returns-else-has_room : goal.returns-else-has_room
returns-else-has_room c = let a = c.args in
    elim c.if-s-end.branch [
      | then-s-end w ↦ λ e.
          above-none _ _ _ _ _ c.requires.0.within _ _ c.min-end.ensures
          (w.has_room.ensures (sym w.value-is ∙ e) a.plan.now a.block.now)
      | else-s-end w ↦ λ e. above_floor _ _ _ _ _ c.requires.0.within _ _ c.min-end.ensures w.if-s-end.false c.requires.2
    ]
