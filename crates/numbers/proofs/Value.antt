-- The number that digits stand for, read from the first to the last; it gives a number back from its decimal digits,
-- and digits with no 0 in front from their number. And the digits of a number: what they are, and how many.
-- Assumes nothing.
use Rattle.std.proofs.Common.{◌≡◌, refl, sym, ap, ◌∙◌, List, [], ◌∷◌, ◌++◌, append_assoc, append-nil, ⊎_elim, ℕ, zero, suc, ◌+◌, ◌*◌, ◌^◌, ◌-◌, ◌/◌, ◌%◌, ◌≤◌, ◌<◌, arith, length, get_or, length-append}
use mathlib.Core.List.{Memᴰ}
use lib.ListN.{get_or-append}
use Rattle.numbers.specs.Decimal.{glyph, decimal}
use Rattle.numbers.proofs.Cases.{by_order}
use Rattle.numbers.proofs.Decimal.{decimal-one, decimal-more, places-left}

-- the number that digits behind those of n give
unfoldable pub value_from : ℕ → List ℕ → ℕ
value_from n [] = n
value_from n (x ∷ l) = value_from (10 * n + (x - 48)) l

-- the number that digits stand for
abbrev pub value : List ℕ → ℕ
value l = value_from 0 l

pub value_none : value [] ≡ 0
unfolding value_from
value_none = refl

-- one digit more
pub value_from-more : (n : ℕ) (l : List ℕ) (x : ℕ) → value_from n (l ++ (x ∷ [])) ≡ 10 * value_from n l + (x - 48)
unfolding value_from
value_from-more n [] x = refl
value_from-more n (y ∷ l) x = value_from-more (10 * n + (y - 48)) l x

pub value-more : (l : List ℕ) (x : ℕ) → value (l ++ (x ∷ [])) ≡ 10 * value l + (x - 48)
value-more l x = value_from-more 0 l x

-- x is the code of a digit
pub record Digit (x : ℕ) : Type 0 where
  pub from : 48 ≤ x
  pub upto : x ≤ 57

-- each of l is the code of a digit
pub record AllDigits (l : List ℕ) : Type 0 where
  pub each : (k : ℕ) → k < length l → Digit (get_or l k 0)

digits-tail : (x : ℕ) (l : List ℕ) → AllDigits (x ∷ l) → AllDigits l
digits-tail x l d = record { each = λ k h. d.each (suc k) (omega arith) }

-- ## From digits to the number and back

-- a digit behind those of n
decimal-then : (n x : ℕ) → 1 ≤ n → Digit x → decimal n ++ (x ∷ []) ≡ decimal (10 * n + (x - 48))
decimal-then n x h d =
    let m : ℕ = 10 * n + (x - 48) in
    let a : m / 10 ≡ n = omega arith in
    let b : glyph (m % 10) ≡ x = omega arith in
    sym (decimal-more m (omega arith) ∙ rw (a, b))

decimal-from : (n : ℕ) (l : List ℕ) → 1 ≤ n → AllDigits l → decimal n ++ l ≡ decimal (value_from n l)
unfolding value_from
decimal-from n [] h d = append-nil (decimal n)
decimal-from n (x ∷ l) h d =
    let first : Digit x = d.each 0 (omega arith) in
    sym (append_assoc (decimal n) (x ∷ []) l)
    ∙ ap (λ (s : List ℕ). s ++ l) (decimal-then n x h first)
    ∙ decimal-from (10 * n + (x - 48)) l (omega arith) (digits-tail x l d)

-- one digit or more, none of them a 0 in front of others
pub decimal-value :
    (l : List ℕ) → 0 < length l → AllDigits l → (1 < length l → ¬ (get_or l 0 0 ≡ 48)) → decimal (value l) ≡ l
unfolding value_from
decimal-value [] h d f = absurd (omega arith)
decimal-value (x ∷ []) h d f =
    let first : Digit x = d.each 0 (omega arith) in
    let e : glyph (10 * 0 + (x - 48)) ≡ x = omega arith in
    decimal-one (10 * 0 + (x - 48)) (omega arith) ∙ ap (λ (y : ℕ). y ∷ []) e
decimal-value (x ∷ (y ∷ l)) h d f =
    let first : Digit x = d.each 0 (omega arith) in
    let e : glyph (10 * 0 + (x - 48)) ≡ x = omega arith in
    let apart : ¬ (x ≡ 48) = f (omega arith) in
    sym
    (ap (λ (s : List ℕ). s ++ (y ∷ l)) (sym (decimal-one (10 * 0 + (x - 48)) (omega arith) ∙ ap (λ (y : ℕ). y ∷ []) e))
    ∙ decimal-from (10 * 0 + (x - 48)) (y ∷ l) (omega arith) (digits-tail x (y ∷ l) d))

value-under : (bound n : ℕ) → n < bound → value (decimal n) ≡ n
unfolding value_from
value-under zero n h = absurd (omega arith)
value-under (suc bound) n h =
    by_order n 10
    (λ s. rw (decimal-one n s) (omega arith))
    (λ m.
    let below : value (decimal (n / 10)) ≡ n / 10 = value-under bound (n / 10) (omega arith) in
    let more = value-more (decimal (n / 10)) (glyph (n % 10)) in
    rw (decimal-more n m) (omega arith))

pub value-decimal : (n : ℕ) → value (decimal n) ≡ n
value-decimal n = value-under (suc n) n (omega arith)

pub decimal_injective : (m n : ℕ) → decimal m ≡ decimal n → m ≡ n
decimal_injective m n e = sym (value-decimal m) ∙ ap value e ∙ value-decimal n

-- ## The digits of a number

digit-under : (bound n x : ℕ) → n < bound → Memᴰ x (decimal n) → (48 ≤ x) × (x ≤ 57)
digit-under zero n x h m = absurd (omega arith)
digit-under (suc bound) n x h m =
    by_order n 10
    (λ s.
    let e = mathlib.Core.List.Memᴰ.eq_of_singleton (rw (decimal-one n s) at m) in
    (omega arith, omega arith))
    (λ l.
    ⊎_elim
    (λ (f : Memᴰ x (decimal (n / 10))). digit-under bound (n / 10) x (omega arith) f)
    (λ (g : Memᴰ x (glyph (n % 10) ∷ [])). let e = mathlib.Core.List.Memᴰ.eq_of_singleton g in (omega arith, omega arith))
    (mathlib.Core.List.Memᴰ.append_cases (decimal (n / 10)) (rw (decimal-more n l) at m)))

pub decimal_digit : (n x : ℕ) → Memᴰ x (decimal n) → (48 ≤ x) × (x ≤ 57)
decimal_digit n x m = digit-under (suc n) n x (omega arith) m

member : (l : List ℕ) (k : ℕ) → k < length l → Memᴰ (get_or l k 0) l
member [] k h = absurd (omega arith)
member (x ∷ l) zero h = mathlib.Core.List.Memᴰ.head refl
member (x ∷ l) (suc k) h = mathlib.Core.List.Memᴰ.tail (member l k (omega arith))

pub decimal-digits : (n : ℕ) → AllDigits (decimal n)
decimal-digits n =
    record {
      each = λ k h.
          let d = decimal_digit n (get_or (decimal n) k 0) (member (decimal n) k h) in
          record { from = d.0; upto = d.1 };
    }

-- one digit at least
pub decimal-positive : (n : ℕ) → 0 < length (decimal n)
decimal-positive n =
    by_order n 10
    (λ s. rw (decimal-one n s) (omega arith))
    (λ l. rw (decimal-more n l, length-append) (omega arith))

pub decimal-head : (n : ℕ) → (48 ≤ get_or (decimal n) 0 0) × (get_or (decimal n) 0 0 ≤ 57)
decimal-head n = decimal_digit n (get_or (decimal n) 0 0) (member (decimal n) 0 (decimal-positive n))

front-under : (bound n : ℕ) → n < bound → 1 ≤ n → 49 ≤ get_or (decimal n) 0 0
front-under zero n h p = absurd (omega arith)
front-under (suc bound) n h p =
    by_order n 10
    (λ s. rw (decimal-one n s) (omega arith))
    (λ l.
    let below = front-under bound (n / 10) (omega arith) (omega arith) in
    let first = get_or-append (decimal (n / 10)) (glyph (n % 10) ∷ []) 0 0 (decimal-positive (n / 10)) in
    rw (decimal-more n l, first) below)

-- a 0 stands in front of 0 alone
pub decimal-front : (n : ℕ) → 1 ≤ n → ¬ (get_or (decimal n) 0 0 ≡ 48)
decimal-front n p e = let f = front-under (suc n) n (omega arith) p in omega arith

-- so it stands in front of no other digit
pub decimal-no-zero : (n : ℕ) → 1 < length (decimal n) → ¬ (get_or (decimal n) 0 0 ≡ 48)
decimal-no-zero n h =
    by_order n 10
    (λ s. let q : length (decimal n) ≡ 1 = rw (decimal-one n s) in absurd (omega arith))
    (λ l. decimal-front n (omega arith))

pub decimal-length : (places n : ℕ) → 1 ≤ places → n < 10 ^ places → length (decimal n) ≤ places
decimal-length zero n p h = absurd (omega arith)
decimal-length (suc places) n p h =
    by_order n 10
    (λ s. rw (decimal-one n s) (omega arith))
    (λ l.
    let left = places-left (suc places) n p l h in
    let q : suc places - 1 ≡ places = omega arith in
    let below = decimal-length places (n / 10) (rw q at left.0) (rw q at left.1) in
    rw (decimal-more n l, length-append) (omega arith))
