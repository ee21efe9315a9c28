-- `slots::empty_slot` meets its contract: 80 zeros hold no binding. Assumes nothing.
use Rattle.numbers.specs.Numbers.{number}
use Rattle.slots.specs.Slots.{held_in, bindings_in}
use Rattle.std.proofs.Common.{refl}
use Rattle.slots.proofs.empty_slot.Goals as goal

pub returns : goal.returns
unfolding held_in bindings_in number
returns c = (refl, refl, refl)
