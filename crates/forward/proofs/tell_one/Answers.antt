-- `forward::tell_one` meets its contract: one line more, or the room is short. Assumes nothing.
use Rattle.std.proofs.Common.{◌≡◌, ℕ, ◌+◌, ◌*◌, refl, ap, ◌∙◌, length, arith}
use Rattle.numbers.specs.Numbers.{bytes_of, written}
use Rattle.slots.specs.Slots.{held_in}
use Rattle.slots.specs.Results.{mark_number, line_numbers}
use Rattle.slots.proofs.Slots.{length-held_in}
use Rattle.forward.proofs.Lines.{wrote-short, wrote-fits}
use Rattle.forward.proofs.tell_one.Goals as goal

pub returns-then-res-end : goal.returns-then-res-end
returns-then-res-end c = let a = c.args in
    (refl, wrote-short a.res.now a.tell.used a.tell.readings (mark_number a.mark) (held_in a.slot.now).bindings (omega (arith, length-held_in a.slot.now)))

pub returns : goal.returns
returns c = let a = c.args in
    let e = length-held_in a.slot.now in
    let m : a.tell.used + 2 + 2 * c.count_of.result ≡ a.tell.used + 2 + 2 * length (held_in a.slot.now).bindings = omega arith in
    let put = ap (λ (k : ℕ). written a.res.now a.tell.used (bytes_of (line_numbers k (held_in a.slot.now).bindings))) c.number.ensures.0 in
    rw m
    (wrote-fits a.res.now c.put_line.new.res a.tell.used a.tell.readings (mark_number a.mark) (held_in a.slot.now).bindings c.requires.2 c.requires.3 (omega arith) (c.put_line.ensures ∙ put))
