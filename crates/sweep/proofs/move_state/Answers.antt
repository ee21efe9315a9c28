-- `sweep::move_state`. Assumes nothing.
use Rattle.std.proofs.Common.{arith, get_or, lt_of_le_of_lt}
use lib.Bits.{and_le_l}
use Rattle.sweep.specs.Starts.StateMoved.{active}
use Rattle.sweep.proofs.Starts.{and_right}
use Rattle.sweep.proofs.move_state.Goals as goal

pub spread-requires : goal.spread-requires
spread-requires c = let inside = c.requires.0 in
    let few = inside.few in
    let leave = get_or c.args.leaves.now c.args.at 0 in (
      omega (arith, c.requires.2),
      lt_of_le_of_lt (and_le_l c.args.can leave) c.requires.1,
      λ v t. inside.known c.args.at v c.requires.2 (and_right c.args.can leave v t),
    )

pub returns : goal.returns
returns c = active _ _ (omega (arith, c.if-firing-eq0.false)) c.late_ones-own.ensures c.clear_row.ensures c.spread.ensures
