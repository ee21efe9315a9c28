-- `text::put_draft` meets its contract. Assumes nothing.
use Rattle.std.proofs.Common.{arith}
use Rattle.text.proofs.DraftBytes.{header-kept, room-left, draft-put}
use Rattle.text.proofs.put_draft.Goals as goal

pub put_variables-variables-requires : goal.put_variables-variables-requires
put_variables-variables-requires c =
    let a = c.args in
    let p = c.requires in
    let s = c.store_word in
    let kept = header-kept a.d.now p.0 p.1 a.bytes.now s.new.memory c.header_bits.result p.2 s.ensures in
    (p.1.few, omega arith)

pub put_conditions-requires : goal.put_conditions-requires
put_conditions-requires c =
    let a = c.args in
    let p = c.requires in
    let s = c.store_word in
    let v = c.put_variables-variables in
    (p.1.few_conditions, room-left a.d.now p.0 p.1 a.bytes.now s.new.memory c.header_bits.result p.2 s.ensures v.new.bytes v.result v.ensures)

pub returns : goal.returns
returns c =
    let a = c.args in
    let p = c.requires in
    let h = c.header_bits in
    let s = c.store_word in
    let v = c.put_variables-variables in
    let k = c.put_conditions in
    draft-put a.d.now p.0 p.1 a.bytes.now s.new.memory h.result p.2 s.ensures v.new.bytes v.result v.ensures k.new.bytes
    k.result h.ensures k.ensures
