-- `index::put_index` meets its contract: two words and two bytes. Assumes nothing.
use Rattle.std.proofs.Common.{◌≡◌, ◌∙◌, ap, ap₂, List, [], ◌∷◌, ◌++◌, ℕ, ◌+◌, ◌*◌, ◌/◌, ◌%◌, get_or}
use lib.ListN.{set}
use Rattle.numbers.specs.Numbers.{bytes_of, written}
use Rattle.numbers.specs.Bytes.{word_bytes}
use Rattle.index.specs.Index.{packed_bytes}
use Rattle.index.proofs.Bytes.{row_high, row_low, row-high, row-low, stored}
use Rattle.index.proofs.put_index.Goals as goal

pub returns : goal.returns
unfolding packed_bytes bytes_of
returns c =
    let counts : ℕ → ℕ = λ k. get_or c.args.counts.now k 0 in
    let bits = c.args.bits in
    let last = c.requires.1 5 in
    let memory : c.store_word-2.new.memory ≡ written (written c.args.index.now 0 (word_bytes (row_high counts))) 8 (word_bytes (row_low counts * 1125899906842624 + bits / 16384)) =
    c.store_word-2.ensures ∙ ap (λ (l : List ℕ). written l 8 (word_bytes (row_low counts * 1125899906842624 + bits / 16384))) c.store_word.ensures
    in
    ap (λ (l : List ℕ). set (set l 16 (bits % 16384 * 4 / 256)) 17 (bits % 16384 * 4 % 256)) memory
    ∙ stored c.args.index.now (row_high counts) (row_low counts * 1125899906842624 + bits / 16384) (bits % 16384 * 4 / 256) (bits % 16384 * 4 % 256) c.requires.0
    ∙ ap₂ (λ (x y : ℕ). word_bytes x ++ (word_bytes (y * 1125899906842624 + bits / 16384) ++ ((bits % 16384 * 4 / 256) ∷ (bits % 16384 * 4 % 256) ∷ []))) (row-high counts last) (row-low counts last)
