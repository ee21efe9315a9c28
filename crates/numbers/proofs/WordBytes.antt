-- A number of 64 bits as eight bytes among others, and eight bytes as such a number. Assumes nothing.
use Rattle.std.proofs.Common.{◌≡◌, ◌∙◌, refl, sym, ap, ap₂, List, [], ◌∷◌, ◌++◌, map, ℕ, zero, suc, ◌+◌, ◌*◌, ◌/◌, ◌^◌, ◌≤◌, ◌<◌, add-zero, add_assoc, zero-add, div-one, pow-suc, add-one, arith, length, take, drop, get_or, get_or-append-add, drop-cons}
use native.Mathlib.Numerals.{add-two, add-three, add-four, add_five, add_six, add_seven}
use Rattle.numbers.specs.Numbers.{number, field, upto}
use Rattle.numbers.specs.Bytes.{word_bytes}
use Rattle.numbers.proofs.Parts.{part, joined}

-- the number of bytes that stand behind others
pub number_behind : (a l : List ℕ) (k n : ℕ) → number (a ++ l) (length a + k) n ≡ number l k n
unfolding number
number_behind a l k zero = refl
number_behind a l k (suc n) =
    ap₂ (λ (x y : ℕ). x * 256 + y) (number_behind a l k n)
    (ap (λ (i : ℕ). get_or (a ++ l) i 0) (add_assoc (length a) k n) ∙ get_or-append-add a l (k + n) 0)

-- the number of the eight bytes that a list begins with
eight :
    (a b c d e f g h : ℕ) (l : List ℕ)
    → number (a ∷ b ∷ c ∷ d ∷ e ∷ f ∷ g ∷ h ∷ l) 0 8
    ≡ ((((((a * 256 + b) * 256 + c) * 256 + d) * 256 + e) * 256 + f) * 256 + g) * 256 + h
unfolding number
eight a b c d e f g h l = simp zero-add

digits-join :
    (w : ℕ) → w < 2 ^ 64
    → ((((((field 8 56 w * 256 + field 8 48 w) * 256 + field 8 40 w) * 256 + field 8 32 w) * 256 + field 8 24 w) * 256
    + field 8 16 w) * 256 + field 8 8 w) * 256 + field 8 0 w ≡ w
digits-join w h =
    let top : field 8 56 w ≡ w / 2 ^ 56 = omega arith in
    joined w 256 1 _
    (joined w 256 (2 ^ 8) _
    (joined w 256 (2 ^ 16) _
    (joined w 256 (2 ^ 24) _ (joined w 256 (2 ^ 32) _ (joined w 256 (2 ^ 40) _ (joined w 256 (2 ^ 48) _ top))))))
    ∙ div-one w

pub word_first : (w : ℕ) (b : List ℕ) → w < 2 ^ 64 → number (word_bytes w ++ b) 0 8 ≡ w
unfolding word_bytes
word_first w b h = eight _ _ _ _ _ _ _ _ b ∙ digits-join w h

pub word-behind :
    (a : List ℕ) (w : ℕ) (b : List ℕ) → w < 2 ^ 64 → number (a ++ (word_bytes w ++ b)) (length a) 8 ≡ w
word-behind a w b h =
    ap (λ (i : ℕ). number (a ++ (word_bytes w ++ b)) i 8) (sym (add-zero (length a)))
    ∙ number_behind a (word_bytes w ++ b) 0 8 ∙ word_first w b h

-- a part of a list, byte by byte
pub taken :
    (l : List ℕ) (at n : ℕ) → at + n ≤ length l → take n (drop at l) ≡ map (λ (i : ℕ). get_or l i 0) (upto at n)
unfolding upto
taken l at zero h = refl
taken l at (suc n) h =
    ap (take (suc n)) (drop-cons l at 0 (omega arith))
    ∙ ap (λ (r : List ℕ). get_or l at 0 ∷ r) (taken l (suc at) n (omega arith))

-- ---- eight bytes back from their number

module _ (a b c d e f g h : ℕ) where
  abbrev joint : ℕ
  joint = ((((((a * 256 + b) * 256 + c) * 256 + d) * 256 + e) * 256 + f) * 256 + g) * 256 + h

  bytes_back :
      a < 256 → b < 256 → c < 256 → d < 256 → e < 256 → f < 256 → g < 256 → h < 256
      → word_bytes joint ≡ a ∷ b ∷ c ∷ d ∷ e ∷ f ∷ g ∷ h ∷ []
  unfolding word_bytes
  bytes_back la lb lc ld le lf lg lh =
      let p0 = part joint 256 (2 ^ 56) 0 a (b * 2 ^ 48 + c * 2 ^ 40 + d * 2 ^ 32 + e * 2 ^ 24 + f * 2 ^ 16 + g * 2 ^ 8 + h) (omega arith) la (omega arith) in
      let p1 = part joint 256 (2 ^ 48) a b (c * 2 ^ 40 + d * 2 ^ 32 + e * 2 ^ 24 + f * 2 ^ 16 + g * 2 ^ 8 + h) (omega arith) lb (omega arith) in
      let p2 = part joint 256 (2 ^ 40) (a * 2 ^ 8 + b) c (d * 2 ^ 32 + e * 2 ^ 24 + f * 2 ^ 16 + g * 2 ^ 8 + h) (omega arith) lc (omega arith) in
      let p3 = part joint 256 (2 ^ 32) (a * 2 ^ 16 + b * 2 ^ 8 + c) d (e * 2 ^ 24 + f * 2 ^ 16 + g * 2 ^ 8 + h) (omega arith) ld (omega arith) in
      let p4 = part joint 256 (2 ^ 24) (a * 2 ^ 24 + b * 2 ^ 16 + c * 2 ^ 8 + d) e (f * 2 ^ 16 + g * 2 ^ 8 + h) (omega arith) le (omega arith) in
      let p5 = part joint 256 (2 ^ 16) (a * 2 ^ 32 + b * 2 ^ 24 + c * 2 ^ 16 + d * 2 ^ 8 + e) f (g * 2 ^ 8 + h) (omega arith) lf (omega arith) in
      let p6 = part joint 256 (2 ^ 8) (a * 2 ^ 40 + b * 2 ^ 32 + c * 2 ^ 24 + d * 2 ^ 16 + e * 2 ^ 8 + f) g h (omega arith) lg (omega arith) in
      let p7 = part joint 256 1 (a * 2 ^ 48 + b * 2 ^ 40 + c * 2 ^ 32 + d * 2 ^ 24 + e * 2 ^ 16 + f * 2 ^ 8 + g) h 0 (omega arith) lh (omega arith) in
      λ i. p0 i ∷ p1 i ∷ p2 i ∷ p3 i ∷ p4 i ∷ p5 i ∷ p6 i ∷ p7 i ∷ []

pub number-bytes :
    (l : List ℕ) (at : ℕ) → ((i : ℕ) → get_or l i 0 < 256) → at + 8 ≤ length l
    → word_bytes (number l at 8) ≡ take 8 (drop at l)
unfolding number upto
number-bytes l at small h =
    let byte : ℕ → ℕ = λ i. get_or l i 0 in
    ap word_bytes (simp (zero-add, add-zero, add-one, add-two, add-three, add-four, add_five, add_six, add_seven))
    ∙ bytes_back (byte at) (byte (suc at)) (byte (suc (suc at))) (byte (suc (suc (suc at)))) _ _ _ _ (small _) (small _) (small _) (small _) (small _) (small _) (small _) (small _)
    ∙ sym (taken l at 8 h)

pub number_bound : (l : List ℕ) (at n : ℕ) → ((i : ℕ) → get_or l i 0 < 256) → number l at n < 256 ^ n
unfolding number
number_bound l at zero small = omega arith
number_bound l at (suc n) small =
    omega (arith, number_bound l at n small, small (at + n), pow-suc 256 n)

pub word-length : (w : ℕ) → length (word_bytes w) ≡ 8
unfolding word_bytes
word-length w = refl
