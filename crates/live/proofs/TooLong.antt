-- Whether a reading put out has a binding too many: of lists, and of slots. Assumes nothing.
use mathlib.Core.Path.{◌≡◌, refl, sym, ap, ◌∙◌}
use mathlib.Core.Bool.{Bool, true, false, ◌||◌, or-true, or-false}
use mathlib.Core.List.{List, [], ◌∷◌, ◌++◌}
use Prim.Native.Nat.{ℕ, zero, suc, ◌+◌, ◌*◌, ◌≤◌, ◌<◌}
use native.Mathlib.Omega.{arith}
use borrow.Author.Tests.{le-ltb, lt-ltb, ltb-false}
use lib.ListN.{length}
use Rattle.numbers.proofs.Cases.{by_order, neither}
use Rattle.rule.specs.Promises.{most_bindings}
use Rattle.rule.specs.Computed.{any}
use Rattle.slots.specs.Slots.{Held, slot_bytes, count_in, held_in, grow, slot_at, slots_at}
use Rattle.slots.proofs.Slots.{length-held_in}
use Rattle.live.specs.Live.{is_long, long}

or_assoc : (p q r : Bool) → p || (q || r) ≡ (p || q) || r
or_assoc true q r = refl
or_assoc false q r = refl

pub long-append : (a b : List Held) → long (a ++ b) ≡ long a || long b
unfolding long any
long-append [] b = refl
long-append (x ∷ a) b = ap (λ (t : Bool). is_long x || t) (long-append a b) ∙ or_assoc (is_long x) (long a) (long b)

pub long-one : (x : Held) → long (x ∷ []) ≡ is_long x
unfolding long any
long-one x = or-false (is_long x)

-- one more that is not long, and one that is
pub long-short : (x : Held) (out : List Held) (o : Bool) → is_long x ≡ false → o ≡ long out → o ≡ long (out ++ (x ∷ []))
long-short x out o h e = e ∙ sym (long-append out (x ∷ []) ∙ ap (λ (t : Bool). long out || t) (long-one x ∙ h) ∙ or-false (long out))

pub long-over : (x : Held) (out : List Held) → is_long x ≡ true → true ≡ long (out ++ (x ∷ []))
long-over x out h = sym (long-append out (x ∷ []) ∙ ap (λ (t : Bool). long out || t) (long-one x ∙ h) ∙ or-true (long out))

long-none : long [] ≡ false
unfolding long any
long-none = refl

-- ## Slots

pub grow-short : (slot : List ℕ) (i v : ℕ) → count_in slot < most_bindings → is_long (grow i v (held_in slot)) ≡ false
unfolding is_long grow
grow-short slot i v h = le-ltb most_bindings (suc (length (held_in slot).bindings)) (omega (arith, length-held_in slot))

pub grow-long : (slot : List ℕ) (i v : ℕ) → most_bindings ≤ count_in slot → is_long (grow i v (held_in slot)) ≡ true
unfolding is_long grow
grow-long slot i v h = lt-ltb most_bindings (suc (length (held_in slot).bindings)) (omega (arith, length-held_in slot))

pub slot-short : (slot : List ℕ) → count_in slot ≤ most_bindings → is_long (held_in slot) ≡ false
unfolding is_long
slot-short slot h = le-ltb most_bindings (length (held_in slot).bindings) (omega (arith, length-held_in slot))

pub short-count : (slot : List ℕ) → is_long (held_in slot) ≡ false → count_in slot ≤ most_bindings
unfolding is_long
short-count slot h = omega (arith, length-held_in slot, ltb-false most_bindings (length (held_in slot).bindings) h)

pub slots-short :
    (work : List ℕ) (at n k : ℕ) → long (slots_at work at n) ≡ false → k < n
    → is_long (held_in (slot_at work (at + slot_bytes * k))) ≡ false
unfolding slots_at
slots-short work at zero k h l = absurd (omega arith)
slots-short work at (suc n) k h l =
    let last : Held = held_in (slot_at work (at + slot_bytes * n)) in
    let e = neither (long (slots_at work at n)) (long (last ∷ [])) (sym (long-append (slots_at work at n) (last ∷ [])) ∙ h) in
    by_order k n
    (λ m. slots-short work at n k e.0 m)
    (λ m. let q : n ≡ k = omega arith in
    ap (λ (j : ℕ). is_long (held_in (slot_at work (at + slot_bytes * j)))) (sym q) ∙ sym (long-one last) ∙ e.1)

pub slots-short-of :
    (work : List ℕ) (at n : ℕ) → ((k : ℕ) → k < n → is_long (held_in (slot_at work (at + slot_bytes * k))) ≡ false)
    → long (slots_at work at n) ≡ false
unfolding slots_at
slots-short-of work at zero h = long-none
slots-short-of work at (suc n) h =
    sym (long-short (held_in (slot_at work (at + slot_bytes * n))) (slots_at work at n) false (h n (omega arith)) (sym (slots-short-of work at n (λ k l. h k (omega arith)))))
