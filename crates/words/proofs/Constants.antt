-- The constant beside an attribute that a word is: digits, or digits behind a minus beside amount. Assumes nothing.
use mathlib.Core.Path.{◌≡◌, refl, sym, ap, ◌∙◌}
use mathlib.Core.Bool.{true, true≢false}
use mathlib.Core.List.{List, [], ◌∷◌}
use Prim.Native.Nat.{ℕ, suc, ◌-◌, ◌^◌, ◌≤◌, ◌<◌}
use native.Mathlib.Omega.{arith}
use borrow.Author.Rules.{part_to_end}
use borrow.Author.Tests.{eqb-true, eq-eqb, ltb-true, lt-ltb}
use lib.Dec.{eqb, ltb}
use Rattle.std.specs.Prelude.{Option, Some, None}
use lib.IntN.{ℤ, pos, negsuc}
use lib.ListN.{length, get_or, take, drop}
use Rattle.numbers.specs.Decimal.{decimal}
use Rattle.numbers.proofs.Cases.{by-test, both}
use Rattle.numbers.proofs.Value.{decimal_injective, decimal-head}
use Rattle.form.specs.Form.{integer, in_range}
use Rattle.form.specs.Packed.{bits_of}
use Rattle.words.specs.Words.{Counts, ConstantRead, ConstantOf, BelowRead, BelowZero}

-- the only number that the word is
counts-once : (word : List ℕ) (v n : ℕ) → (k : Counts word v) → decimal n ≡ word → n ≡ k.number
counts-once word v n k d = decimal_injective n k.number (d ∙ sym k.digits)

-- ## The range of a constant

below-range : (a n : ℕ) → in_range a (negsuc n) ≡ true → (a ≡ 4) × (n < 2 ^ 31)
unfolding in_range
below-range a n e =
    let t = both (eqb a 4) (ltb n (2 ^ 31)) e in
    (eqb-true a 4 t.0, ltb-true n (2 ^ 31) t.1)

below-in-range : (a n : ℕ) → a ≡ 4 → n < 2 ^ 31 → in_range a (negsuc n) ≡ true
unfolding in_range
below-in-range a n e h = rw (eq-eqb a 4 e, lt-ltb n (2 ^ 31) h)

range : (a n : ℕ) → in_range a (pos n) ≡ true → (n < 2 ^ 32) × (a ≡ 4 → n < 2 ^ 31)
unfolding in_range
range a n e =
    by-test (eqb a 4)
    (λ t. let s = ltb-true n (2 ^ 31) (rw (t, in_range) at e) in (omega arith, λ f. s))
    (λ t. let s = ltb-true n (2 ^ 32) (rw (t, in_range) at e) in (s, λ f. absurd (true≢false (sym (eq-eqb a 4 f) ∙ t))))

in-range : (a n : ℕ) → n < 2 ^ 32 → (a ≡ 4 → n < 2 ^ 31) → in_range a (pos n) ≡ true
unfolding in_range
in-range a n h f =
    by-test (eqb a 4)
    (λ t. rw (t, in_range) (lt-ltb n (2 ^ 31) (f (eqb-true a 4 t))))
    (λ t. rw (t, in_range) (lt-ltb n (2 ^ 32) h))

-- ## Digits behind a minus

module _ (a : ℕ) (digits : List ℕ) where
  pub below_other : ¬ (a ≡ 4) → (n : ℕ) → in_range a (negsuc n) ≡ true → ¬ (decimal (suc n) ≡ digits)
  below_other f n g h = f (below-range a n g).0

  -- 0, or further from it than a constant can be
  pub below-far :
      (v : ℕ) → Counts digits v → (0 < v → 2 ^ 31 < v)
      → (n : ℕ) → in_range a (negsuc n) ≡ true → ¬ (decimal (suc n) ≡ digits)
  below-far v k f n g d =
      let h = (below-range a n g).1 in
      let q = counts-once digits v (suc n) k d in
      let s = k.small in
      let t : 2 ^ 31 < v = f (omega arith) in
      omega arith

  pub below-found : (v : ℕ) → a ≡ 4 → Counts digits v → 0 < v → v ≤ 2 ^ 31 → BelowRead a digits (2 ^ 32 - v)
  unfolding bits_of
  below-found v g k z h =
      let s = k.small in
      let q : suc (v - 1) ≡ k.number = omega arith in
      record {
        less = v - 1;
        number = ap decimal q ∙ k.digits;
        range = below-in-range a (v - 1) g (omega arith);
        packed = omega arith;
      }

-- ## A whole word

minus-first : (n : ℕ) → get_or (integer (negsuc n)) 0 0 ≡ 45
unfolding integer
minus-first n = refl

no-minus-first : (n : ℕ) → ¬ (get_or (integer (pos n)) 0 0 ≡ 45)
unfolding integer
no-minus-first n e = let h = decimal-head n in omega (arith, h.0)

module _ (a : ℕ) (word : List ℕ) where
  constant-positive-none :
      (0 < length word → ¬ (get_or word 0 0 ≡ 45)) → ((n : ℕ) → n < 2 ^ 32 → (a ≡ 4 → n < 2 ^ 31) → ¬ (decimal n ≡ word))
      → (z : ℤ) → in_range a z ≡ true → ¬ (integer z ≡ word)
  unfolding integer
  constant-positive-none m f (pos n) g i = let s = range a n g in f n s.0 s.1 i
  constant-positive-none m f (negsuc n) g i =
      let q : length (integer (negsuc n)) ≡ length word = ap length i in
      m (omega arith) (sym (ap (λ (l : List ℕ). get_or l 0 0) i) ∙ minus-first n)

  pub constant-no-number :
      (0 < length word → ¬ (get_or word 0 0 ≡ 45)) → ((n : ℕ) → ¬ (decimal n ≡ word))
      → (z : ℤ) → in_range a z ≡ true → ¬ (integer z ≡ word)
  constant-no-number m f = constant-positive-none m (λ n g h. f n)

  pub constant-large :
      (v : ℕ) → (0 < length word → ¬ (get_or word 0 0 ≡ 45)) → Counts word v → (v < 2 ^ 32 → (a ≡ 4) × (2 ^ 31 ≤ v))
      → (z : ℤ) → in_range a z ≡ true → ¬ (integer z ≡ word)
  constant-large v m k far =
      constant-positive-none m
      (λ n g f d.
      let q = counts-once word v n k d in
      let s = k.small in
      let h = far (omega arith) in
      let u : n < 2 ^ 31 = f h.0 in
      omega (arith, h.1))

  pub constant-found : (v : ℕ) → Counts word v → v < 2 ^ 32 → (a ≡ 4 → v < 2 ^ 31) → ConstantRead a word v
  unfolding integer bits_of
  constant-found v k h f =
      let s = k.small in
      let q : v ≡ k.number = omega arith in
      record {
        value = pos v;
        digits = ap decimal q ∙ k.digits;
        range = in-range a v h f;
        packed = refl;
      }

-- a minus and what stands behind it
constant-below :
    (a : ℕ) (word : List ℕ) (r : Option ℕ) → 0 < length word → get_or word 0 0 ≡ 45 → BelowZero a (drop 1 word) r
    → ConstantOf a word r
unfolding integer
constant-below a [] r h m b = absurd (omega arith)
constant-below a (x ∷ l) (Some v) h m b =
    record { value = negsuc b.less; digits = rw (m, b.number); range = b.range; packed = b.packed }
constant-below a (x ∷ l) None h m f =
    elim [
      | pos n ↦ λ g i. no-minus-first n (ap (λ (s : List ℕ). get_or s 0 0) i ∙ m)
      | negsuc n ↦ λ g i. f n g (ap (λ (s : List ℕ). drop 1 s) i)
    ]

pub constant-part :
    (a : ℕ) (word : List ℕ) (r : Option ℕ) → 0 < length word → get_or word 0 0 ≡ 45
    → BelowZero a (take (length word - 1) (drop 1 word)) r
    → ConstantOf a word r
constant-part a word r h m b = constant-below a word r h m (rw (part_to_end word 1) at b)
