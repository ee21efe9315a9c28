-- A word of decimal digits, read from the first to the last, is the number that they stand for; any other word is
-- none. Assumes nothing.
use mathlib.Core.Path.{◌≡◌, ap, ◌∙◌, subst}
use mathlib.Core.List.{List, ◌∷◌, [], ◌++◌}
use Prim.Native.Nat.{ℕ, ◌+◌, ◌-◌, ◌*◌, ◌≤◌, ◌<◌, min}
use native.Mathlib.Numerals.{add-one}
use native.Mathlib.Omega.{arith}
use lib.ListN.{length, get_or, take}
use lib.Seq.{take-suc, take_all}
use Rattle.numbers.specs.Decimal.{decimal}
use Rattle.numbers.proofs.Cases.{by_order}
use Rattle.numbers.proofs.Value.{
  Digit,
  value,
  value_none,
  value-more,
  decimal-value,
  decimal-digits,
  decimal-positive,
  decimal-no-zero,
}
use Rattle.words.specs.Words.{Counts, large}

-- what is known once the first i bytes are read as digits
pub record Read (word : List ℕ) (i sum : ℕ) : Type 0 where
  pub inside : i ≤ length word
  pub some : 0 < length word
  pub front : 1 < length word → ¬ (get_or word 0 0 ≡ 48)
  pub each : (k : ℕ) → k < i → Digit (get_or word k 0)
  pub total : sum ≡ min (value (take i word)) large

module _ (word : List ℕ) where
  pub natural-empty : length word ≡ 0 → (n : ℕ) → ¬ (decimal n ≡ word)
  natural-empty h n d =
      let p = decimal-positive n in let q : length (decimal n) ≡ length word = ap length d in omega arith

  pub natural-zero : 1 < length word → get_or word 0 0 ≡ 48 → (n : ℕ) → ¬ (decimal n ≡ word)
  natural-zero h z n d =
      let q : length (decimal n) ≡ length word = ap length d in
      decimal-no-zero n (omega arith) (ap (λ (l : List ℕ). get_or l 0 0) d ∙ z)

  pub natural-other : (k : ℕ) → k < length word → ¬ Digit (get_or word k 0) → (n : ℕ) → ¬ (decimal n ≡ word)
  natural-other k h f n d =
      let q : length (decimal n) ≡ length word = ap length d in
      f (subst (λ (l : List ℕ). Digit (get_or l k 0)) d ((decimal-digits n).each k (omega arith)))

  pub read_none : 0 < length word → (1 < length word → ¬ (get_or word 0 0 ≡ 48)) → Read word 0 0
  read_none s f =
      record {
        inside = omega arith;
        some = s;
        front = f;
        each = λ k h. absurd (omega arith);
        total = rw value_none;
      }

  pub read_more :
      (i sum x r : ℕ) → Read word i sum → i < length word → x ≡ get_or word i 0 → 48 ≤ x → x ≤ 57
      → r ≡ min (10 * sum + (x - 48)) large
      → Read word (i + 1) r
  read_more i sum x r known h e low high s =
      record {
        inside = omega arith;
        some = known.some;
        front = known.front;
        each = λ k l.
            by_order k i
            (λ m. known.each k m)
            (λ m. let q : k ≡ i = omega arith in rw (q, ← e) (record { from = low; upto = high }));
        total =
            let t : take (i + 1) word ≡ take i word ++ (x ∷ []) = rw (add-one, e) (take-suc word i 0 h) in
            let v = value-more (take i word) x in
            let k = known.total in
            rw t (omega arith);
      }

  pub natural-read : (i sum : ℕ) → Read word i sum → length word ≤ i → Counts word sum
  natural-read i sum known h =
      record {
        number = value word;
        digits = decimal-value word known.some (record { each = λ k l. known.each k (omega arith) }) known.front;
        small = known.total ∙ ap (λ (l : List ℕ). min (value l) large) (take_all i word h);
      }
