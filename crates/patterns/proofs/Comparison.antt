-- Laws of the comparison: raising by 2^31 keeps the order of whole numbers, an order says what it is named after, and
-- the table of operators says what each operator's sign says. Assumes nothing.
use Rattle.std.proofs.Common.{◌≡◌, ◌∙◌, refl, sym, ap, ap₂, Bool, true, false, true≢false, List, [], ◌∷◌, ℕ, suc, ◌+◌}
use Rattle.std.proofs.Common.{◌-◌, ◌%◌, ◌^◌, ◌≤◌, ◌<◌, arith, lt-ltb, le-ltb, le-leb, eq-eqb, ne_eqb, ltb-true}
use Rattle.std.proofs.Common.{ltb-false, eqb-true, eqb, ltb, leb, ℤ, pos, negsuc, get_or}
use mathlib.Core.Bool.{xor}
use borrow.Author.Tests.{lt-leb, eqb-false}
use lib.Signed.{lt_z}
use Rattle.patterns.specs.declared.Condition.{Condition}
use Rattle.patterns.specs.Patterns.{last_operator}
use Rattle.patterns.specs.Comparison.{signed, value, constant_value, less, equal, greater, orders, order_of, meets}
use Rattle.patterns.specs.Comparison.{compared_with, holds, raise}
use Rattle.records.specs.declared.Record.{Record}
use Rattle.numbers.specs.Numbers.{first, first_from, one_if}
use Rattle.numbers.proofs.Cases.{by-test, by_order}
use Rattle.numbers.proofs.First.{first-fails}

-- ## Orders

less-not-self : (a : ℤ) → lt_z a a ≡ false
less-not-self (pos a) = le-ltb a a (omega arith)
less-not-self (negsuc a) = le-ltb a a (omega arith)

less_not_greater : (a b : ℤ) → lt_z b a ≡ true → lt_z a b ≡ false
less_not_greater (pos a) (pos b) e = le-ltb a b (omega (arith, ltb-true b a e))
less_not_greater (pos a) (negsuc b) e = refl
less_not_greater (negsuc a) (pos b) e = sym e
less_not_greater (negsuc a) (negsuc b) e = le-ltb b a (omega (arith, ltb-true a b e))

neither-equal : (a b : ℤ) → lt_z a b ≡ false → lt_z b a ≡ false → a ≡ b
neither-equal (pos a) (pos b) e f = let q : a ≡ b = omega (arith, ltb-false a b e, ltb-false b a f) in ap pos q
neither-equal (pos a) (negsuc b) e f = absurd (true≢false f)
neither-equal (negsuc a) (pos b) e f = absurd (true≢false e)
neither-equal (negsuc a) (negsuc b) e f = let q : a ≡ b = omega (arith, ltb-false b a e, ltb-false a b f) in ap negsuc q

pub less-order : (a b : ℤ) → lt_z a b ≡ true → order_of a b ≡ less
unfolding order_of
less-order a b l = rw (l, order_of)

pub greater-order : (a b : ℤ) → lt_z b a ≡ true → order_of a b ≡ greater
unfolding order_of
greater-order a b g = rw (less_not_greater a b g, g, order_of)

neither-order : (a b : ℤ) → lt_z a b ≡ false → lt_z b a ≡ false → order_of a b ≡ equal
unfolding order_of
neither-order a b l g = rw (l, g, order_of)

pub equal-order : (a b : ℤ) → a ≡ b → order_of a b ≡ equal
equal-order a b e = ap (order_of a) (sym e) ∙ neither-order a a (less-not-self a) (less-not-self a)

-- cases on two whole numbers
pub by-comparison : {P : Type 0} (a b : ℤ) → (lt_z a b ≡ true → P) → (a ≡ b → P) → (lt_z b a ≡ true → P) → P
by-comparison a b f g h =
    by-test (lt_z a b) f (λ l. by-test (lt_z b a) h (λ m. g (neither-equal a b l m)))

pub order-bound : (a b : ℤ) → order_of a b < orders
order-bound a b =
    by-comparison a b
    (λ l. omega (arith, less-order a b l))
    (λ e. omega (arith, equal-order a b e))
    (λ g. omega (arith, greater-order a b g))

-- the order of two naturals, counted: 1 where the first is not less, and 1 more where it is greater
pub order-counted : (x y : ℕ) → one_if (leb y x) + one_if (ltb y x) ≡ order_of (pos x) (pos y)
order-counted x y =
    by_order x y
    (λ l. ap₂ count (lt-leb y x l) (le-ltb y x (omega arith)) ∙ sym (less-order (pos x) (pos y) (lt-ltb x y l)))
    (λ l.
    by_order y x
    (λ m. ap₂ count (le-leb y x l) (lt-ltb y x m) ∙ sym (greater-order (pos x) (pos y) (lt-ltb y x m)))
    (λ m. let e : x ≡ y = omega arith in ap₂ count (le-leb y x l) (le-ltb y x m) ∙ sym (equal-order (pos x) (pos y) (ap pos e))))
  where
    count : Bool → Bool → ℕ
    count s t = one_if s + one_if t

-- ## Raising

-- a whole number from -2^31 on
pub data Low : ℤ → Type 0 where
  natural : (n : ℕ) → Low (pos n)
  negative : (n : ℕ) → n < 2 ^ 31 → Low (negsuc n)

pub low_signed : (word : ℕ) → Low (signed word)
unfolding signed
low_signed word =
    by_order word (2 ^ 31)
    (λ l. rw (lt-ltb word (2 ^ 31) l, signed) (natural word))
    (λ l. rw (le-ltb word (2 ^ 31) l, signed) (negative (2 ^ 32 - 1 - word) (omega arith)))

pub constant-signed : (attribute constant : ℕ) → attribute ≡ 4 → constant_value attribute constant ≡ signed constant
unfolding constant_value
constant-signed attribute constant e = rw (eq-eqb _ _ e, constant_value)

-- and unsigned otherwise
pub constant-unsigned : (attribute constant : ℕ) → (attribute ≡ 4 → ⊥) → constant_value attribute constant ≡ pos constant
unfolding constant_value
constant-unsigned attribute constant e = rw (ne_eqb _ _ e, constant_value)

pub low-constant : (attribute constant : ℕ) → Low (constant_value attribute constant)
low-constant attribute constant =
    by-test (eqb attribute 4)
    (λ e. rw (constant-signed attribute constant (eqb-true _ _ e)) (low_signed constant))
    (λ e. rw (constant-unsigned attribute constant (eqb-false _ _ e)) (natural constant))

pub low_value : (attribute : ℕ) (r : Record) → Low (value attribute r)
unfolding value
low_value attribute r =
    by-test (eqb attribute 0)
    (λ e. rw (e, value) (natural _))
    (λ e. by-test (eqb attribute 1)
    (λ f. rw (e, f, value) (natural _))
    (λ f. by-test (eqb attribute 2)
    (λ g. rw (e, f, g, value) (natural _))
    (λ g. by-test (eqb attribute 3)
    (λ h. rw (e, f, g, h, value) (natural _))
    (λ h. by-test (eqb attribute 4)
    (λ k. rw (e, f, g, h, k, value) (low_signed r.amount))
    (λ k. rw (e, f, g, h, k, value) (natural _))))))

pub compared-constant :
    (k : Condition) (second : Record) → k.form ≡ 0 → compared_with k second ≡ constant_value k.attribute k.constant
unfolding compared_with
compared-constant k second e = rw (eq-eqb _ _ e, compared_with)

pub compared-value :
    (k : Condition) (second : Record) → (k.form ≡ 0 → ⊥) → compared_with k second ≡ value k.attribute2 second
unfolding compared_with
compared-value k second e = rw (ne_eqb _ _ e, compared_with)

pub low-compared : (k : Condition) (second : Record) → Low (compared_with k second)
low-compared k second =
    by-test (eqb k.form 0)
    (λ e. rw (compared-constant k second (eqb-true _ _ e)) (low-constant k.attribute k.constant))
    (λ e. rw (compared-value k second (eqb-false _ _ e)) (low_value k.attribute2 second))

-- the lower half of the words is not negative, and is raised above the upper half
pub raise-signed : (word : ℕ) → word < 2 ^ 32 → (word + 2 ^ 31) % 2 ^ 32 ≡ raise (signed word)
unfolding signed raise
raise-signed word h =
    by_order word (2 ^ 31)
    (λ l. rw (lt-ltb word (2 ^ 31) l, signed) (omega arith))
    (λ l. rw (le-ltb word (2 ^ 31) l, signed) (omega arith))

same_test : (a b c d : ℕ) → (a < b → c < d) → (b ≤ a → d ≤ c) → ltb c d ≡ ltb a b
same_test a b c d f g =
    by_order a b (λ h. lt-ltb c d (f h) ∙ sym (lt-ltb a b h)) (λ h. le-ltb c d (g h) ∙ sym (le-ltb a b h))

-- one number is below another exactly where it is below it raised
pub less-raise : {a b : ℤ} → Low a → Low b → ltb (raise a) (raise b) ≡ lt_z a b
unfolding raise
less-raise (natural a) (natural b) = same_test a b (a + 2 ^ 31) (b + 2 ^ 31) (λ h. omega arith) (λ h. omega arith)
less-raise (natural a) (negative b l) = le-ltb (a + 2 ^ 31) (2 ^ 31 - 1 - b) (omega arith)
less-raise (negative a l) (natural b) = lt-ltb (2 ^ 31 - 1 - a) (b + 2 ^ 31) (omega arith)
less-raise (negative a l) (negative b m) =
    same_test b a (2 ^ 31 - 1 - a) (2 ^ 31 - 1 - b) (λ h. omega arith) (λ h. omega arith)

pub order-raise : (a b : ℤ) → Low a → Low b → order_of (pos (raise a)) (pos (raise b)) ≡ order_of a b
order-raise a b l m =
    by-comparison a b
    (λ h. less-order (pos (raise a)) (pos (raise b)) (less-raise l m ∙ h) ∙ sym (less-order a b h))
    (λ e. equal-order (pos (raise a)) (pos (raise b)) (ap (λ (z : ℤ). pos (raise z)) e) ∙ sym (equal-order a b e))
    (λ h. greater-order (pos (raise a)) (pos (raise b)) (less-raise m l ∙ h) ∙ sym (greater-order a b h))

-- a condition holds where the raised numbers meet its operator
pub meets-raised :
    (k : Condition) (first second : Record)
    → holds k first second
    ≡ meets k.operator (order_of (pos (raise (value k.attribute first))) (pos (raise (compared_with k second))))
unfolding holds
meets-raised k first second =
    ap (meets k.operator)
    (sym (order-raise (value k.attribute first) (compared_with k second) (low_value k.attribute first) (low-compared k second)))

-- the same, of two numbers that are the raised ones
pub raised-holds :
    (k : Condition) (first second : Record) (x y : ℕ)
    → x ≡ raise (value k.attribute first) → y ≡ raise (compared_with k second)
    → meets k.operator (order_of (pos x) (pos y)) ≡ holds k first second
raised-holds k first second x y e f = rw (e, f) (sym (meets-raised k first second))

-- ## Operators

-- the table of the code: a row for each of = < <= > >= !=, in it less, equal, greater
abbrev pub operators : List (List Bool)
operators =
    (false ∷ true ∷ false ∷ [])
    ∷ (true ∷ false ∷ false ∷ [])
    ∷ (true ∷ true ∷ false ∷ [])
    ∷ (false ∷ false ∷ true ∷ [])
    ∷ (false ∷ true ∷ true ∷ [])
    ∷ (true ∷ false ∷ true ∷ [])
    ∷ []

abbrev entry : ℕ → ℕ → Bool
entry operator order = get_or (get_or operators operator []) order false

wrong : ℕ → ℕ → Bool
wrong operator order = xor (entry operator order) (meets operator order)

-- the row has a wrong entry
wrong_row : ℕ → Bool
wrong_row operator = ltb (first (wrong operator) orders) orders

-- one test, computed over the whole table
none-wrong : first wrong_row (suc last_operator) ≡ suc last_operator
unfolding first first_from wrong_row wrong xor
none-wrong = refl

same-of-xor : (a b : Bool) → xor a b ≡ false → a ≡ b
unfolding xor
same-of-xor true true e = refl
same-of-xor true false e = absurd (true≢false e)
same-of-xor false true e = absurd (true≢false e)
same-of-xor false false e = refl

pub operators-rule :
    (operator order : ℕ) → operator ≤ last_operator → order < orders
    → get_or (get_or operators operator []) order false ≡ meets operator order
unfolding wrong_row wrong
operators-rule operator order h k =
    let row = first-fails wrong_row (suc last_operator) operator (omega (arith, none-wrong)) in
    let right = ltb-false (first (wrong operator) orders) orders row in
    same-of-xor (entry operator order) (meets operator order) (first-fails (wrong operator) orders order (omega arith))
