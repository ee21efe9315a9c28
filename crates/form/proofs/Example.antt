-- The example as text: its bytes are those of the pattern in section 10 of the rules. Assumes nothing.
use mathlib.Core.Path.{◌≡◌, refl}
use mathlib.Core.Bool.{true, false}
use mathlib.Core.List.{[], ◌∷◌, flat_map}
use Prim.Native.Nat.{ℕ}
use lib.IntN.{pos}
use Rattle.numbers.specs.Bytes.{word_bytes}
use Rattle.numbers.specs.Decimal.{digits, decimal}
use Rattle.form.specs.Form.{Side, Making, attribute_words, operator_words, attribute_word, operator_word}
use Rattle.form.specs.Form.{member_word, side_word, integer, operand_word, spaced, line, set_line, when_line, within_line}
use Rattle.form.specs.Form.{text_of, names}
use Rattle.form.specs.Form.Operand.{constant, other}
use Rattle.form.specs.Packed.{place_of, member_byte, member_bytes, bits_of, condition_in, condition_bits, when_bits}
use Rattle.form.specs.Packed.{header_bits, pattern_bytes}

side : ℕ → ℕ → Side
side name attribute = record { name = name; attribute = attribute }

unfoldable pub example : Making
unfolding side
example =
    record {
      sets =
          (record { name = 97; group = false } ∷ record { name = 98; group = true } ∷ [])
          ∷ (record { name = 99; group = false } ∷ [])
          ∷ [];
      whens =
          record { left = side 97 2; operator = 0; right = constant (pos 0) }
          ∷ record { left = side 98 2; operator = 0; right = constant (pos 1) }
          ∷ record { left = side 99 2; operator = 0; right = constant (pos 2) }
          ∷ record { left = side 97 0; operator = 0; right = other (side 98 0) }
          ∷ record { left = side 97 0; operator = 0; right = other (side 99 0) }
          ∷ [];
      duration = 100;
    }

pub example-bytes :
    pattern_bytes example
    ≡ 0x13 ∷ 0x05 ∷ 0 ∷ 0 ∷ 0 ∷ 0 ∷ 0 ∷ 0x64
    ∷ 0x10 ∷ 0x18 ∷ 0x20
    ∷ 0x04 ∷ 0 ∷ 0 ∷ 0 ∷ 0 ∷ 0 ∷ 0 ∷ 0
    ∷ 0x14 ∷ 0 ∷ 0 ∷ 0 ∷ 0 ∷ 0 ∷ 0 ∷ 1
    ∷ 0x24 ∷ 0 ∷ 0 ∷ 0 ∷ 0 ∷ 0 ∷ 0 ∷ 2
    ∷ 0 ∷ 0x22 ∷ 0 ∷ 0 ∷ 0 ∷ 0 ∷ 0 ∷ 0
    ∷ 0 ∷ 0x24 ∷ 0 ∷ 0 ∷ 0 ∷ 0 ∷ 0 ∷ 0
    ∷ []
unfolding example side pattern_bytes header_bits member_bytes member_byte when_bits condition_in condition_bits bits_of place_of word_bytes flat_map names
example-bytes = refl

-- `set a b+`, `set c`, `when a.class = 0` and so on up to `within 100`, in hex as a dump shows them
pub example-text :
    text_of example
    ≡ 0x73 ∷ 0x65 ∷ 0x74 ∷ 0x20 ∷ 0x61 ∷ 0x20 ∷ 0x62 ∷ 0x2b ∷ 0x0a
    ∷ 0x73 ∷ 0x65 ∷ 0x74 ∷ 0x20 ∷ 0x63 ∷ 0x0a
    ∷ 0x77 ∷ 0x68 ∷ 0x65 ∷ 0x6e ∷ 0x20 ∷ 0x61 ∷ 0x2e ∷ 0x63 ∷ 0x6c ∷ 0x61 ∷ 0x73 ∷ 0x73 ∷ 0x20 ∷ 0x3d ∷ 0x20 ∷ 0x30 ∷ 0x0a
    ∷ 0x77 ∷ 0x68 ∷ 0x65 ∷ 0x6e ∷ 0x20 ∷ 0x62 ∷ 0x2e ∷ 0x63 ∷ 0x6c ∷ 0x61 ∷ 0x73 ∷ 0x73 ∷ 0x20 ∷ 0x3d ∷ 0x20 ∷ 0x31 ∷ 0x0a
    ∷ 0x77 ∷ 0x68 ∷ 0x65 ∷ 0x6e ∷ 0x20 ∷ 0x63 ∷ 0x2e ∷ 0x63 ∷ 0x6c ∷ 0x61 ∷ 0x73 ∷ 0x73 ∷ 0x20 ∷ 0x3d ∷ 0x20 ∷ 0x32 ∷ 0x0a
    ∷ 0x77 ∷ 0x68 ∷ 0x65 ∷ 0x6e ∷ 0x20 ∷ 0x61 ∷ 0x2e ∷ 0x63 ∷ 0x6f ∷ 0x72 ∷ 0x65 ∷ 0x20 ∷ 0x3d ∷ 0x20 ∷ 0x62 ∷ 0x2e ∷ 0x63 ∷ 0x6f ∷ 0x72 ∷ 0x65 ∷ 0x0a
    ∷ 0x77 ∷ 0x68 ∷ 0x65 ∷ 0x6e ∷ 0x20 ∷ 0x61 ∷ 0x2e ∷ 0x63 ∷ 0x6f ∷ 0x72 ∷ 0x65 ∷ 0x20 ∷ 0x3d ∷ 0x20 ∷ 0x63 ∷ 0x2e ∷ 0x63 ∷ 0x6f ∷ 0x72 ∷ 0x65 ∷ 0x0a
    ∷ 0x77 ∷ 0x69 ∷ 0x74 ∷ 0x68 ∷ 0x69 ∷ 0x6e ∷ 0x20 ∷ 0x31 ∷ 0x30 ∷ 0x30 ∷ 0x0a
    ∷ []
unfolding example side text_of set_line when_line within_line line spaced member_word side_word operand_word integer attribute_word operator_word attribute_words operator_words decimal digits flat_map
example-text = refl
