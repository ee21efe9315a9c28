-- `index::events_by` meets its contract. Assumes nothing.
use Rattle.std.proofs.Common.{sym, arith}
use Rattle.index.proofs.Fields.{events-above, events-0, events-1, events-2, events-3, events-4, events-5}
use Rattle.index.proofs.events_by.Goals as goal

pub returns-in-0 : goal.returns-in-0
returns-in-0 c = events-0 _ _ c.number8-high.result c.number2-low.result c.number8-high.ensures c.number2-low.ensures (omega arith) (omega arith) c.in-0.is

pub returns-in-1 : goal.returns-in-1
returns-in-1 c = events-1 _ _ c.number8-high.result c.number2-low.result c.number8-high.ensures c.number2-low.ensures (omega arith) (omega arith) c.in-1.is

pub returns-in-2 : goal.returns-in-2
returns-in-2 c = events-2 _ _ c.number8-high.result c.number2-low.result c.number8-high.ensures c.number2-low.ensures (omega arith) (omega arith) c.in-2.is

pub returns-in-3 : goal.returns-in-3
returns-in-3 c = events-3 _ _ c.number8-high.result c.number2-low.result c.number8-high.ensures c.number2-low.ensures (omega arith) (omega arith) c.in-3.is

pub returns-in-4 : goal.returns-in-4
returns-in-4 c = events-4 _ _ c.number8-high.result c.number2-low.result c.number8-high.ensures c.number2-low.ensures (omega arith) (omega arith) c.in-4.is

pub returns-in-5 : goal.returns-in-5
returns-in-5 c = events-5 _ _ c.number8-high.result c.number2-low.result c.number8-high.ensures c.number2-low.ensures (omega arith) (omega arith) c.in-5.is

pub returns-in_default : goal.returns-in_default
returns-in_default c = sym (events-above _ _ (omega arith))
