-- `closings::window_at` meets its contract: the first gap, the first record past the window, or the end. Assumes nothing.
use Rattle.std.proofs.Common.{arith, ◌∙◌, sym}
use Rattle.closings.proofs.Windows.{window-gap, window-past, window-end}
use Rattle.closings.proofs.window_at.Goals as goal

pub returns-then-kind_at-ne-EVENT : goal.returns-then-kind_at-ne-EVENT
returns-then-kind_at-ne-EVENT c = let a = c.args in
    let h = c.loop-k in
    window-gap a.block.now a.duration a.i h.k h.invariant.0 (omega arith) h.invariant.1 a.gap c.requires.3 (omega arith) (λ e. c.if-kind_at-ne-EVENT.true (c.kind_at.ensures ∙ e))

pub returns-then-duration-saturating_sub : goal.returns-then-duration-saturating_sub
returns-then-duration-saturating_sub c = let a = c.args in
    let h = c.loop-k in
    window-past a.block.now a.duration a.i h.k h.invariant.0 (omega arith) h.invariant.1 a.gap _ (omega arith) (omega arith) (sym c.kind_at.ensures ∙ c.if-kind_at-ne-EVENT.false) (omega arith)

pub returns : goal.returns
returns c = let a = c.args in
    let h = c.loop-k in
    window-end a.block.now a.duration a.i h.k h.invariant.0 (omega arith) h.invariant.1 a.gap _ (omega arith) (omega arith)
