-- `slots::put_line` meets its contract: two bytes of head, then the bytes of the bindings. Assumes nothing.
use Rattle.slots.proofs.Lines.{line-put}
use Rattle.slots.proofs.put_line.Goals as goal

pub returns : goal.returns
returns c =
    let a = c.args in
    let n = c.count_of-count in
    line-put a.res.now a.slot.now _ a.at a.mark n.result n.ensures c.requires.0 c.requires.1 c.requires.2 (λ k. (c.type_inv.slot k).fits) c.requires.3 c.copy.ensures
