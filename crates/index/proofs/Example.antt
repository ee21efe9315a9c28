-- The index of the example's block (rule 12.2), and that of a block without records. Assumes nothing.
use mathlib.Core.Path.{◌≡◌, refl}
use mathlib.Core.List.{List, [], ◌∷◌}
use Prim.Native.Nat.{ℕ}
use Rattle.numbers.specs.Numbers.{number, bytes_of, count, sum}
use Rattle.numbers.specs.Bits.{mask}
use Rattle.numbers.specs.Bytes.{word_bytes}
use Rattle.records.specs.Records.{record_at, class_of}
use Rattle.rule.specs.Calls.{zeros}
use Rattle.rule.specs.Bench.{bench_block}
use Rattle.index.specs.Index.{index_bytes, is_of_class, is_of_core, count_up_to, has_up_to, cores_up_to, counts_row}
use Rattle.index.specs.Index.{packed_bytes, index_of}

abbrev pub bench_index : List ℕ
bench_index =
    0x00 ∷ 0x18 ∷ 0x01 ∷ 0x40 ∷ 0x06 ∷ 0x00 ∷ 0x00 ∷ 0x00 ∷ 0x00 ∷ 0x01 ∷ 0x80 ∷ 0x00 ∷ 0x00 ∷ 0x00 ∷ 0x00 ∷ 0x00
    ∷ 0x00 ∷ 0x00 ∷ []

pub example-index : index_of bench_block ≡ bench_index
unfolding index_of packed_bytes counts_row cores_up_to has_up_to count_up_to is_of_core is_of_class word_bytes mask count sum number
    bytes_of record_at class_of
example-index = refl

pub nothing-index : index_of [] ≡ zeros index_bytes
unfolding index_of packed_bytes counts_row cores_up_to has_up_to count_up_to is_of_core is_of_class word_bytes mask count sum number
    bytes_of record_at class_of
nothing-index = refl
