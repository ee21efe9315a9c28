-- An accepted pattern is put together again of its counts, its variables and its conditions. Assumes nothing.
use mathlib.Core.Path.{◌≡◌, ◌∙◌, refl, sym, ap, ap₂}
use mathlib.Core.Bool.{Bool, false, not, ◌||◌}
use mathlib.Core.List.{List, ◌∷◌, ◌++◌, map, flat_map}
use Prim.Native.Nat.{ℕ, zero, suc, ◌+◌, ◌*◌, ◌/◌, ◌^◌, ◌≤◌, ◌<◌}
use native.Mathlib.Nat.{add-suc, div-one}
use native.Mathlib.Omega.{arith}
use borrow.Author.Tests.{eqb-true}
use lib.Dec.{eqb, ltb, leb}
use lib.ListN.{length, take, drop, get_or, take-append-drop, drop_of_length-le}
use lib.Seq.{drop-drop}
use Rattle.numbers.specs.Numbers.{number, field, upto, one_if}
use Rattle.numbers.specs.Bytes.{word_bytes}
use Rattle.numbers.proofs.Bits.{digit-one}
use Rattle.numbers.proofs.Cases.{neither, not-not}
use Rattle.numbers.proofs.First.{first-fails}
use Rattle.patterns.specs.Patterns.{header, variable_count, condition_count, duration, set_number, group_flag, variable_zero}
use Rattle.patterns.specs.Patterns.{variable_broken, condition_of, condition_word, condition_zero, condition_broken}
use Rattle.patterns.specs.Patterns.{form_broken, least_set, greatest_set, members, most_sets, most_in_set}
use Rattle.patterns.specs.Patterns.{last_attribute, last_operator}
use Rattle.patterns.specs.Checked.{pattern_answer, first_bad_variable, first_bad_condition}
use Rattle.patterns.proofs.Answers.{header-in-order}
use Rattle.patterns.proofs.InOrder.{accepted}
use Rattle.form.specs.Packed.{header_bits, condition_bits}
use Rattle.numbers.proofs.WordBytes.{taken, number-bytes, number_bound}
use Rattle.numbers.proofs.Parts.{joined}
use Rattle.form.proofs.Fields.{header-back, condition-back}

-- ## Lists over numbers from a place on

pub map-moved :
    {A : Type 0} (f g : ℕ → A) (s k n : ℕ) → ((i : ℕ) → k ≤ i → i < k + n → f (s + i) ≡ g i)
    → map f (upto (s + k) n) ≡ map g (upto k n)
unfolding upto
map-moved f g s k zero e = refl
map-moved {A} f g s k (suc n) e =
    ap₂ (λ (x : A) (l : List A). x ∷ l) (e k (omega arith) (omega arith))
    (ap (λ (j : ℕ). map f (upto j n)) (sym (add-suc s k)) ∙ map-moved f g s (suc k) n (λ i h l. e i (omega arith) (omega arith)))

pub flat-same :
    {A : Type 0} (f g : ℕ → List A) (k n : ℕ) → ((i : ℕ) → k ≤ i → i < k + n → f i ≡ g i)
    → flat_map f (upto k n) ≡ flat_map g (upto k n)
unfolding upto flat_map
flat-same f g k zero e = refl
flat-same f g k (suc n) e =
    ap₂ ◌++◌ (e k (omega arith) (omega arith)) (flat-same f g (suc k) n (λ i h l. e i (omega arith) (omega arith)))

-- words to the end of a list of bytes
words-behind :
    (l : List ℕ) (at k c : ℕ) → ((i : ℕ) → get_or l i 0 < 256) → length l ≡ at + 8 * (k + c)
    → drop (at + 8 * k) l ≡ flat_map (λ i. word_bytes (number l (at + 8 * i) 8)) (upto k c)
unfolding upto flat_map
words-behind l at k zero small e = drop_of_length-le l {i = at + 8 * k} (omega arith)
words-behind l at k (suc c) small e =
    let next : at + 8 * k + 8 ≡ at + 8 * suc k = omega arith in
    sym (take-append-drop 8 (drop (at + 8 * k) l))
    ∙ ap₂ ◌++◌ (sym (number-bytes l (at + 8 * k) small (omega arith)))
    (drop-drop 8 (at + 8 * k) l ∙ ap (λ (i : ℕ). drop i l) next ∙ words-behind l at (suc k) c small (omega arith))

-- ## The parts of an accepted pattern

-- a variable's byte
weighed : (set flag none : ℕ) → none ≡ 0 → (set * 2 + flag) * 2 ^ 3 + none ≡ set * 2 ^ 4 + flag * 2 ^ 3
weighed set flag none e = omega arith

byte-back : (b : ℕ) → b < 256 → field 3 0 b ≡ 0 → field 4 4 b * 2 ^ 4 + one_if (eqb (field 1 3 b) 1) * 2 ^ 3 ≡ b
byte-back b h z =
    let one = digit-one (field 1 3 b) (omega arith) in
    let top : field 4 4 b ≡ b / 2 ^ 4 = omega arith in
    ap (λ (x : ℕ). field 4 4 b * 2 ^ 4 + x * 2 ^ 3) one
    ∙ sym (weighed (field 4 4 b) (field 1 3 b) (field 3 0 b) z)
    ∙ joined b (2 ^ 3) 1 _ (joined b 2 (2 ^ 3) _ top)
    ∙ div-one b

-- the last two of five tests of which none passes
last-two : (a b c d e : Bool) → a || (b || (c || (d || e))) ≡ false → (d ≡ false) × (e ≡ false)
last-two a b c d e h = neither d e (neither c (d || e) (neither b (c || (d || e)) (neither a (b || (c || (d || e))) h).1).1).1

variable-zero : (pattern : List ℕ) (v : ℕ) → variable_broken pattern v ≡ false → variable_zero pattern v ≡ 0
unfolding variable_broken
variable-zero pattern v h =
    let set = set_number pattern v in
    let two =
    last-two (ltb set (least_set pattern v)) (ltb (greatest_set pattern v) set) (ltb most_sets set)
    (ltb most_in_set (members pattern set (suc v))) (not (eqb (variable_zero pattern v) 0)) h
    in
    eqb-true (variable_zero pattern v) 0 (not-not (eqb (variable_zero pattern v) 0) two.1)

condition-zero : (n word : ℕ) → condition_broken n word ≡ false → condition_zero word ≡ 0
unfolding condition_broken
condition-zero n word h =
    let k = condition_of word in
    let two =
    last-two (leb n k.variable) (ltb last_attribute k.attribute) (ltb last_operator k.operator)
    (not (eqb (condition_zero word) 0)) (form_broken n k) h
    in
    eqb-true (condition_zero word) 0 (not-not (eqb (condition_zero word) 0) two.0)

module _ (pattern : List ℕ) (small : (i : ℕ) → get_or pattern i 0 < 256) (ok : (pattern_answer pattern).code ≡ 0) where
  header-part :
      take 8 pattern ≡ word_bytes (header_bits (variable_count pattern) (condition_count pattern) (duration pattern))
  unfolding header
  header-part =
      let a = accepted pattern ok in
      let o = header-in-order pattern a.head in
      sym (number-bytes pattern 0 small a.long)
      ∙ ap word_bytes (sym (header-back (number pattern 0 8) (number_bound pattern 0 8 small) o.one o.zero))

  variable-part :
      take (variable_count pattern) (drop 8 pattern)
      ≡ map (λ v. set_number pattern v * 2 ^ 4 + one_if (group_flag pattern v) * 2 ^ 3) (upto 0 (variable_count pattern))
  unfolding set_number group_flag variable_zero first_bad_variable
  variable-part =
      let a = accepted pattern ok in
      taken pattern 8 (variable_count pattern) (omega (arith, a.whole))
      ∙ map-moved (λ (i : ℕ). get_or pattern i 0) (λ v. set_number pattern v * 2 ^ 4 + one_if (group_flag pattern v) * 2 ^ 3) 8 0 (variable_count pattern)
      (λ v h l. sym (byte-back (get_or pattern (8 + v) 0) (small (8 + v))
      (variable-zero pattern v (first-fails (variable_broken pattern) (variable_count pattern) v (omega (arith, a.variables))))))

  condition-part :
      drop (8 + variable_count pattern) pattern
      ≡ flat_map (λ i. word_bytes (condition_bits (condition_of (condition_word pattern i)))) (upto 0 (condition_count pattern))
  unfolding condition_word first_bad_condition
  condition-part =
      let a = accepted pattern ok in
      let n = variable_count pattern in
      let start : 8 + n ≡ 8 + n + 8 * 0 = omega arith in
      ap (λ (i : ℕ). drop i pattern) start
      ∙ words-behind pattern (8 + n) 0 (condition_count pattern) small (omega (arith, a.whole))
      ∙ flat-same _ _ 0 (condition_count pattern)
      (λ i h l. ap word_bytes (sym (condition-back (condition_word pattern i) (number_bound pattern (8 + n + 8 * i) 8 small)
      (condition-zero n (condition_word pattern i)
      (first-fails (λ j. condition_broken n (condition_word pattern j)) (condition_count pattern) i (omega (arith, a.conditions)))))))

pub assembled :
    (pattern : List ℕ) → ((i : ℕ) → get_or pattern i 0 < 256) → (pattern_answer pattern).code ≡ 0
    → pattern
    ≡ word_bytes (header_bits (variable_count pattern) (condition_count pattern) (duration pattern))
    ++ (map (λ v. set_number pattern v * 2 ^ 4 + one_if (group_flag pattern v) * 2 ^ 3) (upto 0 (variable_count pattern))
    ++ flat_map (λ i. word_bytes (condition_bits (condition_of (condition_word pattern i)))) (upto 0 (condition_count pattern)))
assembled pattern small ok =
    let n = variable_count pattern in
    sym (take-append-drop 8 pattern)
    ∙ ap₂ ◌++◌ (header-part pattern small ok)
    (sym (take-append-drop n (drop 8 pattern))
    ∙ ap₂ ◌++◌ (variable-part pattern small ok) (drop-drop n 8 pattern ∙ condition-part pattern small ok))
