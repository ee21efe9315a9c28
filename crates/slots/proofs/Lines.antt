-- A reported reading as `slots::put_line` writes it: two bytes stored, then the slot's own bytes. Assumes nothing.
use Rattle.std.proofs.Common.{◌≡◌, sym, ap, ◌∙◌, List, ◌∷◌, ℕ, ◌+◌, ◌-◌, ◌*◌, ◌≤◌, ◌<◌, arith, length, take, drop}
use Rattle.std.proofs.Common.{get_or, set, length-take, length-drop}
use borrow.Rule.Slice.PartMut.{put_mid}
use Rattle.rule.specs.Promises.{most_bindings}
use Rattle.slots.specs.Slots.{slot_bytes, count_in, held_in}
use Rattle.numbers.specs.Numbers.{bytes_of, written}
use Rattle.slots.specs.Results.{line_numbers}
use Rattle.slots.proofs.Results.{put-head}
use Rattle.slots.proofs.Slots.{line-bytes}

pub line-put :
    (result slot part : List ℕ) (at mark count : ℕ) → count ≡ count_in slot → mark < 16 → length slot ≡ slot_bytes
    → count_in slot ≤ most_bindings
    → ((k : ℕ) → get_or slot k 0 < 256)
    → at + 2 + 2 * count_in slot ≤ length result
    → part ≡ take (4 + 2 * count - 4) (drop 4 slot)
    → put_mid (at + 2) (at + 2 + 2 * count - (at + 2)) (set (set result at (mark * 16)) (at + 1) count) part
    ≡ written result at (bytes_of (line_numbers mark (held_in slot).bindings))
line-put result slot part at mark count e m s c below room p =
    let n : 4 + 2 * count - 4 ≡ 2 * count_in slot = omega arith in
    let q : part ≡ take (2 * count_in slot) (drop 4 slot) = p ∙ ap (λ (k : ℕ). take k (drop 4 slot)) n in
    let size : length part ≡ 2 * count = ap length q ∙ simp (length-take, length-drop) (omega arith) in
    put-head at (at + 2 + 2 * count) (mark * 16) count result part (omega arith) (omega arith)
    ∙ (λ i. written result at ((mark * 16) ∷ e i ∷ q i))
    ∙ ap (λ (l : List ℕ). written result at l) (sym (line-bytes mark slot m c below (omega arith)))
