-- `when a.core != 1` is read and written: a reader that does not know `!=`, and a writer that writes another operator
-- for it, are shut out. Assumes nothing.
use mathlib.Core.Path.{◌≡◌, ◌∙◌, refl, sym, ap}
use mathlib.Core.Bool.{false}
use mathlib.Core.List.Memᴰ
use mathlib.Core.List.{List, [], ◌∷◌, ◌++◌, flat_map}
use Prim.Native.Nat.{ℕ, ◌-◌, ◌≤◌}
use native.Mathlib.Omega.{arith}
use lib.IntN.{pos}
use lib.ListN.{length, replicate}
use Rattle.numbers.specs.Numbers.{number, upto}
use Rattle.numbers.specs.Bytes.{word_bytes}
use Rattle.numbers.specs.Decimal.{decimal, digits}
use Rattle.records.specs.declared.Answer.{Answer}
use Rattle.patterns.specs.Patterns.{header}
use Rattle.patterns.specs.Checked.{pattern_answer}
use Rattle.patterns.proofs.NotEqual.{four-from-six}
use Rattle.form.specs.Form.{When, Making, names, text_of, set_line, when_line, within_line, line, spaced, member_word}
use Rattle.form.specs.Form.{side_word, operand_word, integer, attribute_word, attribute_words, operator_word}
use Rattle.form.specs.Form.{operator_words, Once, in_range, OperandInOrder, WhenInOrder, InOrder}
use Rattle.form.specs.Form.Operand.{constant}
use Rattle.form.specs.Packed.{place_of, member_byte, member_bytes, bits_of, condition_in, condition_bits, when_bits}
use Rattle.form.specs.Packed.{header_bits, pattern_bytes, Fits}
use Rattle.form.specs.Promises.{bytes_written, Names, ReadPromise, WritePromise}
use Rattle.form.proofs.OneRead.{read-promise-one}
use Rattle.form.proofs.OneWritten.{write-promise-one}

-- a.core != 1
abbrev asked : When
asked = record { left = record { name = 97; attribute = 0 }; operator = 5; right = constant (pos 1) }

abbrev making : Making
making = record { sets = (record { name = 97; group = false } ∷ []) ∷ []; whens = asked ∷ []; duration = 0 }

-- `set a`, `when a.core != 1`, `within 0`
abbrev pub other_text : List ℕ
other_text =
    0x73 ∷ 0x65 ∷ 0x74 ∷ 0x20 ∷ 0x61 ∷ 0x0a
    ∷ 0x77 ∷ 0x68 ∷ 0x65 ∷ 0x6e ∷ 0x20 ∷ 0x61 ∷ 0x2e ∷ 0x63 ∷ 0x6f ∷ 0x72 ∷ 0x65 ∷ 0x20 ∷ 0x21 ∷ 0x3d
    ∷ 0x20 ∷ 0x31 ∷ 0x0a
    ∷ 0x77 ∷ 0x69 ∷ 0x74 ∷ 0x68 ∷ 0x69 ∷ 0x6e ∷ 0x20 ∷ 0x30 ∷ 0x0a ∷ []

-- its pattern
abbrev pub other_bytes : List ℕ
other_bytes =
    0x11 ∷ 0x01 ∷ 0 ∷ 0 ∷ 0 ∷ 0 ∷ 0 ∷ 0
    ∷ 0x10
    ∷ 0x01 ∷ 0x40 ∷ 0 ∷ 0 ∷ 0 ∷ 0 ∷ 0 ∷ 0x01 ∷ []

text-is : other_text ≡ text_of making
unfolding text_of set_line when_line within_line line spaced member_word side_word operand_word integer attribute_word
    operator_word attribute_words operator_words decimal digits flat_map
text-is = refl

bytes-are : pattern_bytes making ≡ other_bytes
unfolding pattern_bytes header_bits member_bytes member_byte when_bits condition_in condition_bits bits_of place_of word_bytes
    flat_map names
bytes-are = refl

accepted : (pattern_answer other_bytes).code ≡ 0
accepted = four-from-six.0

asked-order : WhenInOrder (97 ∷ []) asked
unfolding OperandInOrder in_range
asked-order =
    record {
      left = record { named = Memᴰ.head refl; small = omega arith };
      operator = omega arith;
      right = refl;
    }

making-order : InOrder making
unfolding names flat_map Once
making-order =
    record {
      some = λ e. let l = ap length e in omega arith;
      none_empty = λ s m e. let l = ap length (sym (Memᴰ.eq_of_singleton m) ∙ e) in omega arith;
      small = λ x m. let e = Memᴰ.eq_of_singleton m in record { from = omega arith; below = omega arith };
      once = (λ m. Memᴰ.not-nil m, tt);
      conditions = λ w m. rw (Memᴰ.eq_of_singleton m) asked-order;
    }

making-fits : Fits making
unfolding names flat_map
making-fits = record { few = omega arith; few_conditions = omega arith; short = omega arith }

making-names : Names other_bytes making
unfolding names flat_map header number upto
making-names = record { order = making-order; fits = making-fits; alphabet = refl; same = bytes-are }

module _ (lent : ℕ) (answer : Answer) (after : List ℕ) where
  pub reads-not-equal :
      17 ≤ lent → ReadPromise other_text lent answer after
      → (answer ≡ bytes_written 17) × (after ≡ other_bytes ++ replicate (lent - 17) 0)
  reads-not-equal h p =
      read-promise-one other_text lent answer (bytes_written 17) after (other_bytes ++ replicate (lent - 17) 0) p
      (ReadPromise.read making (record { bytes = text-is; order = making-order }) making-fits (rw bytes-are accepted)
      (rw bytes-are h) (rw bytes-are refl) (rw bytes-are refl))

  pub writes-not-equal :
      32 ≤ lent → WritePromise other_bytes lent answer after
      → (answer ≡ bytes_written 32) × (after ≡ other_text ++ replicate (lent - 32) 0)
  writes-not-equal h p =
      write-promise-one other_bytes lent answer (bytes_written 32) after (other_text ++ replicate (lent - 32) 0) p
      (WritePromise.wrote accepted making making-names (rw (sym text-is) h) (rw (sym text-is) refl)
      (rw (sym text-is) refl))
