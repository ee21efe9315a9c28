-- The fields of an index's bytes. Assumes nothing.
use mathlib.Core.Path.{◌≡◌, ◌∙◌, refl, sym, ap, ap₂}
use mathlib.Core.List.{List, [], ◌∷◌, ◌++◌}
use Prim.Native.Nat.{ℕ, zero, suc, ◌+◌, ◌*◌, ◌/◌, ◌%◌, ◌^◌, ◌<◌}
use native.Mathlib.Nat.{add-zero, zero-add}
use native.Mathlib.Omega.{arith}
use lib.ListN.{length, get_or, set, drop, length-drop}
use Rattle.numbers.specs.Numbers.{number, field, bytes_of, written, sum}
use Rattle.numbers.specs.Bytes.{word_bytes}
use Rattle.numbers.proofs.Parts.{above, lowest, part}
use Rattle.numbers.proofs.WordBytes.{number_behind, word_first, word-behind}
use Rattle.index.specs.Index.{index_bytes, classes, count_bits, front, back, count_place, counts_row, packed_bytes}

-- ## Numbers of some bytes

pub number-10 : (s : List ℕ) → number s 0 10 ≡ number s 0 8 * 2 ^ 16 + number s 8 2
unfolding number
number-10 s = simp (add-zero, zero-add) (omega arith)

pub number-9 : (s : List ℕ) → number s 9 9 ≡ get_or s 9 0 * 2 ^ 64 + number s 10 8
unfolding number
number-9 s = simp (add-zero, zero-add) (omega arith)

-- the last two bits are those of the last byte
pub number-last : (s : List ℕ) → number s 9 9 ≡ number s 9 8 * 256 + get_or s 17 0
unfolding number
number-last s = refl

number_word : (s : List ℕ) → number s 8 8 ≡ get_or s 8 0 * 2 ^ 56 + number s 9 7
unfolding number
number_word s = simp (add-zero, zero-add) (omega arith)

number-tail : (s : List ℕ) → number s 9 9 ≡ number s 9 7 * 2 ^ 16 + number s 16 2
unfolding number
number-tail s = simp (add-zero, zero-add) (omega arith)

-- ## The bytes of a row and of the cores' bits

-- by parts of numbers
two_bytes : (t : ℕ) → number (bytes_of (t ∷ [])) 0 2 ≡ t
unfolding number bytes_of
two_bytes t = omega arith

upper-two : (w : ℕ) → w < 2 ^ 64 → (0 * 256 + field 8 56 w) * 256 + field 8 48 w ≡ w / 2 ^ 48
upper-two w l = omega arith

lower-seven : (w x : ℕ) → w < 2 ^ 64 → w ≡ field 8 56 w * 2 ^ 56 + x → x ≡ w % 2 ^ 56
lower-seven w x l e = omega arith

upper-bits : (m b : ℕ) → (m * 2 ^ 50 + b / 2 ^ 14) / 2 ^ 48 ≡ m * 4 + b / 2 ^ 62
upper-bits m b = omega arith

lower-bits : (m b : ℕ) → b < 2 ^ 50 → (m * 2 ^ 50 + b) % 2 ^ 56 ≡ m % 64 * 2 ^ 50 + b
lower-bits m b l = omega arith

low_small : (m b : ℕ) → m < 2 ^ 14 → b < 2 ^ 50 → m * 2 ^ 50 + b < 2 ^ 64
low_small m b l k = omega arith

front-joint : (row t : ℕ) → row / 2 ^ 14 * 2 ^ 16 + (row % 2 ^ 14 * 4 + t) ≡ row * 4 + t
front-joint row t = omega arith

back-joint : (m b : ℕ) → (m * 2 ^ 50 + b / 2 ^ 14) * 2 ^ 16 + b % 2 ^ 14 * 2 ^ 2 ≡ (m * 2 ^ 64 + b) * 2 ^ 2
back-joint m b = omega arith

module _ (row bits : ℕ) where
  abbrev high : ℕ
  high = row / 2 ^ 14

  abbrev low : ℕ
  low = row % 2 ^ 14 * 2 ^ 50 + bits / 2 ^ 14

  abbrev last : ℕ
  last = bits % 2 ^ 14 * 2 ^ 2

  abbrev bytes : List ℕ
  bytes = word_bytes high ++ (word_bytes low ++ bytes_of (last ∷ []))

  -- 18 of them, and the last two bits are 0
  pub size_back : length (packed_bytes row bits) ≡ index_bytes
  unfolding packed_bytes word_bytes bytes_of
  size_back = refl

  last_byte : get_or bytes 17 0 ≡ last % 256
  unfolding word_bytes bytes_of
  last_byte = refl

  last-bits : (x y : ℕ) → (x * 256 + y * 2 ^ 2 % 256) / 2 ^ 0 % 2 ^ 2 ≡ 0
  last-bits x y = omega arith

  pub zero-back : field 2 0 (back (packed_bytes row bits)) ≡ 0
  unfolding back packed_bytes
  zero-back =
      ap (λ (x : ℕ). field 2 0 x) (number-last bytes ∙ ap (λ (x : ℕ). number bytes 9 8 * 256 + x) last_byte)
      ∙ last-bits (number bytes 9 8) (bits % 2 ^ 14)

  module _ (small : row < 2 ^ 78) (fits : bits < 2 ^ 64) where
    high-bound : high < 2 ^ 64
    high-bound = omega arith

    low-bound : low < 2 ^ 64
    low-bound = low_small (row % 2 ^ 14) (bits / 2 ^ 14) (omega arith) (omega arith)

    first_word : number bytes 0 8 ≡ high
    first_word = word_first high (word_bytes low ++ bytes_of (last ∷ [])) high-bound

    second_word : number bytes 8 8 ≡ low
    unfolding word_bytes
    second_word = word-behind (word_bytes high) low (bytes_of (last ∷ [])) low-bound

    last-two : number bytes 16 2 ≡ last
    unfolding word_bytes
    last-two =
        number_behind (word_bytes high) (word_bytes low ++ bytes_of (last ∷ [])) 8 2
        ∙ number_behind (word_bytes low) (bytes_of (last ∷ [])) 0 2
        ∙ two_bytes last

    middle-two : number bytes 8 2 ≡ low / 2 ^ 48
    unfolding number word_bytes
    middle-two = upper-two low low-bound

    eighth : get_or bytes 8 0 ≡ field 8 56 low
    unfolding word_bytes
    eighth = refl

    seven : number bytes 9 7 ≡ low % 2 ^ 56
    seven =
        lower-seven low (number bytes 9 7) low-bound
        (sym second_word ∙ number_word bytes ∙ ap (λ (x : ℕ). x * 2 ^ 56 + number bytes 9 7) eighth)

    pub front_bytes : front (packed_bytes row bits) ≡ row * 4 + bits / 2 ^ 62
    unfolding front packed_bytes
    front_bytes =
        number-10 bytes
        ∙ ap₂ (λ (x y : ℕ). x * 2 ^ 16 + y) first_word (middle-two ∙ upper-bits (row % 2 ^ 14) bits)
        ∙ front-joint row (bits / 2 ^ 62)

    pub back-bytes : back (packed_bytes row bits) ≡ (row % 2 ^ 14 % 64 * 2 ^ 64 + bits) * 2 ^ 2
    unfolding back packed_bytes
    back-bytes =
        number-tail bytes
        ∙ ap₂ (λ (x y : ℕ). x * 2 ^ 16 + y) (seven ∙ lower-bits (row % 2 ^ 14) (bits / 2 ^ 14) (omega arith)) last-two
        ∙ back-joint (row % 2 ^ 14 % 64) bits

    pub cores-back : field 64 2 (back (packed_bytes row bits)) ≡ bits
    cores-back =
        part (back (packed_bytes row bits)) (2 ^ 64) (2 ^ 2) (row % 2 ^ 14 % 64) bits 0
        (back-bytes ∙ sym (add-zero ((row % 2 ^ 14 % 64 * 2 ^ 64 + bits) * 2 ^ 2)))
        fits
        (omega arith)

-- ## Counts

module _ (counts : ℕ → ℕ) where
  -- the row, count by count
  pub row-sum :
      counts_row counts
      ≡ counts 0 * 2 ^ 65 + counts 1 * 2 ^ 52 + counts 2 * 2 ^ 39 + counts 3 * 2 ^ 26 + counts 4 * 2 ^ 13 + counts 5
  unfolding counts_row sum
  row-sum = omega arith

  module _ (t : ℕ) (top : t < 4) (small : (k : ℕ) → counts k < 2 ^ count_bits) where
    pub row_small : counts_row counts < 2 ^ 78
    row_small =
        let e = row-sum in
        let a = small 0 in
        let b = small 1 in
        let c = small 2 in
        let d = small 3 in
        let f = small 4 in
        let g = small 5 in
        omega arith

    pub count-back : (k : ℕ) → k < classes → field count_bits (count_place k) (counts_row counts * 4 + t) ≡ counts k
    count-back zero l =
        let e = row-sum in
        let b = small 1 in
        let c = small 2 in
        let d = small 3 in
        let f = small 4 in
        let g = small 5 in
        part (counts_row counts * 4 + t) (2 ^ 13) (2 ^ 67) 0 (counts 0)
        (counts 1 * 2 ^ 54 + counts 2 * 2 ^ 41 + counts 3 * 2 ^ 28 + counts 4 * 2 ^ 15 + counts 5 * 4 + t)
        (omega arith) (small 0) (omega arith)
    count-back (suc zero) l =
        let e = row-sum in
        let c = small 2 in
        let d = small 3 in
        let f = small 4 in
        let g = small 5 in
        part (counts_row counts * 4 + t) (2 ^ 13) (2 ^ 54) (counts 0) (counts 1)
        (counts 2 * 2 ^ 41 + counts 3 * 2 ^ 28 + counts 4 * 2 ^ 15 + counts 5 * 4 + t)
        (omega arith) (small 1) (omega arith)
    count-back (suc (suc zero)) l =
        let e = row-sum in
        let d = small 3 in
        let f = small 4 in
        let g = small 5 in
        part (counts_row counts * 4 + t) (2 ^ 13) (2 ^ 41) (counts 0 * 2 ^ 13 + counts 1) (counts 2)
        (counts 3 * 2 ^ 28 + counts 4 * 2 ^ 15 + counts 5 * 4 + t)
        (omega arith) (small 2) (omega arith)
    count-back (suc (suc (suc zero))) l =
        let e = row-sum in
        let f = small 4 in
        let g = small 5 in
        part (counts_row counts * 4 + t) (2 ^ 13) (2 ^ 28) (counts 0 * 2 ^ 26 + counts 1 * 2 ^ 13 + counts 2) (counts 3)
        (counts 4 * 2 ^ 15 + counts 5 * 4 + t)
        (omega arith) (small 3) (omega arith)
    count-back (suc (suc (suc (suc zero)))) l =
        let e = row-sum in
        let g = small 5 in
        part (counts_row counts * 4 + t) (2 ^ 13) (2 ^ 15)
        (counts 0 * 2 ^ 39 + counts 1 * 2 ^ 26 + counts 2 * 2 ^ 13 + counts 3) (counts 4)
        (counts 5 * 4 + t)
        (omega arith) (small 4) (omega arith)
    count-back (suc (suc (suc (suc (suc zero))))) l =
        let e = row-sum in
        part (counts_row counts * 4 + t) (2 ^ 13) (2 ^ 2)
        (counts 0 * 2 ^ 52 + counts 1 * 2 ^ 39 + counts 2 * 2 ^ 26 + counts 3 * 2 ^ 13 + counts 4) (counts 5) t
        (omega arith) (small 5) top
    count-back (suc (suc (suc (suc (suc (suc k)))))) l = absurd (omega arith)

  -- the row as the code puts it together: all but its 14 lowest bits, and these
  abbrev pub row_high : ℕ
  row_high = (((counts 0 * 8192 + counts 1) * 8192 + counts 2) * 8192 + counts 3) * 4096 + counts 4 / 2

  abbrev pub row_low : ℕ
  row_low = counts 4 % 2 * 8192 + counts 5

  module _ (last : counts 5 < 2 ^ count_bits) where
    row-split : counts_row counts ≡ row_high * 2 ^ 14 + row_low
    row-split = row-sum ∙ omega arith

    pub row-high : row_high ≡ counts_row counts / 2 ^ 14
    row-high = sym (ap (λ (x : ℕ). x / 2 ^ 14) row-split ∙ above (2 ^ 14) row_high row_low (omega arith))

    pub row-low : row_low ≡ counts_row counts % 2 ^ 14
    row-low = sym (ap (λ (x : ℕ). x % 2 ^ 14) row-split ∙ lowest (2 ^ 14) row_high row_low (omega arith))

-- ## Two words and two bytes into 18 bytes of memory

two-left : (r : List ℕ) (x y : ℕ) → length r ≡ 2 → set (set r 0 x) 1 y ≡ x ∷ y ∷ []
two-left [] x y e = absurd (omega arith)
two-left (a ∷ []) x y e = absurd (omega arith)
two-left (a ∷ b ∷ []) x y e = refl
two-left (a ∷ b ∷ c ∷ r) x y e = absurd (omega arith)

pub stored :
    (l : List ℕ) (a b x y : ℕ) → length l ≡ index_bytes
    → set (set (written (written l 0 (word_bytes a)) 8 (word_bytes b)) 16 x) 17 y
    ≡ word_bytes a ++ (word_bytes b ++ (x ∷ y ∷ []))
unfolding word_bytes
stored l a b x y e =
    let size : length (drop 8 (drop 8 l)) ≡ 2 = simp (length-drop) (omega arith) in
    ap (λ (r : List ℕ). word_bytes a ++ (word_bytes b ++ r)) (two-left (drop 8 (drop 8 l)) x y size)
