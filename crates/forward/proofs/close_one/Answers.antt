-- `forward::close_one` meets its contract: a line for a full reading, none for another. Assumes nothing.
use Rattle.std.proofs.Common.{sym}
use Rattle.slots.specs.Results.{mark_number}
use Rattle.forward.proofs.Lines.{reported-full, wrote-part}
use Rattle.forward.proofs.close_one.Goals as goal

pub returns-then-is_within : goal.returns-then-is_within
returns-then-is_within c = let a = c.args in
    reported-full a.res.now c.tell_one.new.res a.tell c.tell_one.result a.full (mark_number a.mark) a.slot.now c.state_of.result c.state_of.ensures (sym c.if-is_within.ensures) c.tell_one.ensures

pub returns-else-is_within : goal.returns-else-is_within
returns-else-is_within c = let a = c.args in
    wrote-part a.res.now a.tell.used a.tell.readings a.full (mark_number a.mark) a.slot.now c.state_of.result c.state_of.ensures (sym c.if-is_within.ensures) c.requires.2 c.requires.3
