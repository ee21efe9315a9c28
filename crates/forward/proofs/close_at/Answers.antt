-- `forward::close_at` meets its contract: nothing where none closes, else the lines of those that do. Assumes nothing.
use Rattle.slots.specs.Results.{mark_number}
use Rattle.forward.specs.Closing.{mark_by}
use Rattle.forward.proofs.Lines.{wrote-start}
use Rattle.forward.proofs.close_at.Goals as goal

pub returns-then-gone-eq0 : goal.returns-then-gone-eq0
returns-then-gone-eq0 c = let a = c.args in
    let t = a.tell in
    rw c.if-gone-eq0.true
    (wrote-start a.res.now a.work.now t.used t.readings a.full (mark_by a.block.now (mark_number a.gap) a.i) a.src c.requires.3 c.requires.4)
