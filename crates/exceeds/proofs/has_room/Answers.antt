-- `exceeds::has_room` meets its contract: a reading takes one binding a record at most. Assumes nothing.
use Rattle.std.proofs.Common.{arith}
use borrow.Author.Tests.{ltb-false}
use Rattle.exceeds.proofs.Places.{none_over}
use Rattle.exceeds.proofs.has_room.Goals as goal

pub returns : goal.returns
returns c = λ e.
    let a = c.args in
    let few = c.requires.few in
    let short = ltb-false _ _ e in
    none_over a.s a.slot.now a.j a.end (omega arith)
