-- The digits of a number of one digit, and of a number of more: those of a tenth of it, and the last; and both put as
-- text. Assumes nothing.
use Rattle.std.proofs.Common.{◌≡◌, sym, ap, ◌∙◌, List, [], ◌∷◌, ◌++◌, ℕ, zero, suc, ◌+◌, ◌^◌, ◌-◌, ◌/◌, ◌%◌, ◌≤◌, ◌<◌, pow-suc, arith, lt-ltb, le-ltb, length, set}
use Rattle.numbers.proofs.Cases.{by_order}
use Rattle.numbers.specs.Put.{Put}
use Rattle.numbers.specs.Decimal.{glyph, digits, decimal}
use Rattle.numbers.proofs.Put.{put_byte, put_then}

digits-one : (places n : ℕ) → n < 10 → digits (suc places) n ≡ glyph n ∷ []
unfolding digits
digits-one places n h = rw (lt-ltb n 10 h, digits)

digits_more : (places n : ℕ) → 10 ≤ n → digits (suc places) n ≡ digits places (n / 10) ++ (glyph (n % 10) ∷ [])
unfolding digits
digits_more places n h = rw (le-ltb n 10 h, digits)

-- more room than a number's value changes nothing
digits-room : (places more n : ℕ) → n < places → n < more → digits places n ≡ digits more n
digits-room zero more n h k = absurd (omega arith)
digits-room (suc places) zero n h k = absurd (omega arith)
digits-room (suc places) (suc more) n h k =
    by_order n 10
    (λ s. digits-one places n s ∙ sym (digits-one more n s))
    (λ l. digits_more places n l
    ∙ ap (λ (ds : List ℕ). ds ++ (glyph (n % 10) ∷ [])) (digits-room places more (n / 10) (omega arith) (omega arith))
    ∙ sym (digits_more more n l))

pub decimal-one : (n : ℕ) → n < 10 → decimal n ≡ glyph n ∷ []
unfolding decimal
decimal-one n h = digits-one n n h

pub decimal-more : (n : ℕ) → 10 ≤ n → decimal n ≡ decimal (n / 10) ++ (glyph (n % 10) ∷ [])
unfolding decimal
decimal-more n h =
    digits_more n n h
    ∙ ap (λ (l : List ℕ). l ++ (glyph (n % 10) ∷ [])) (digits-room n (suc (n / 10)) (n / 10) (omega arith) (omega arith))

-- a number of more than one digit has room for more than one
pub places-left :
    (places n : ℕ) → 1 ≤ places → 10 ≤ n → n < 10 ^ places → (1 ≤ places - 1) × (n / 10 < 10 ^ (places - 1))
places-left zero n p h k = absurd (omega arith)
places-left (suc zero) n p h k = absurd (omega arith)
places-left (suc (suc places)) n p h k =
    let e : suc (suc places) - 1 ≡ suc places = omega arith in
    (omega arith, rw e (omega (arith, pow-suc 10 (suc places))))

pub put-digit :
    (text : List ℕ) (at n : ℕ) → n < 10 → at < length text → Put text (set text at (glyph n)) at (decimal n) (at + 1)
put-digit text at n h k = rw (decimal-one n h) (put_byte text at (glyph n) k)

pub put-last-digit :
    (text more : List ℕ) (at end n : ℕ) → 10 ≤ n → Put text more at (decimal (n / 10)) end → end < length more
    → Put text (set more end (glyph (n % 10))) at (decimal n) (end + 1)
put-last-digit text more at end n h p e = rw (decimal-more n h) (put_then p (put_byte more end (glyph (n % 10)) e))
