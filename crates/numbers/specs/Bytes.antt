-- Numbers written as bytes, high byte first.
use Rattle.std.specs.Prelude.{List, [], ◌∷◌, ℕ}
use Rattle.numbers.specs.Numbers.{field}

-- Rule 7.1: how many bytes a number of 64 bits has
abbrev pub word_size : ℕ
word_size = 8

-- Rules 7.1, 11.5: a number of 64 bits as eight bytes
unfoldable pub word_bytes : ℕ → List ℕ
word_bytes word =
    field 8 56 word
    ∷ field 8 48 word
    ∷ field 8 40 word
    ∷ field 8 32 word
    ∷ field 8 24 word
    ∷ field 8 16 word
    ∷ field 8 8 word
    ∷ field 8 0 word
    ∷ []
