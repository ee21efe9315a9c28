-- The pieces of a text, put one behind the other. Assumes nothing.
use mathlib.Core.Path.{◌≡◌, ap}
use Rattle.std.proofs.Common.{get_or, map, zero}
use Rattle.std.proofs.lemmas.List.{get_or-map}
use Rattle.patterns.specs.Patterns.{last_operator}
use mathlib.Core.Bool.{true, false}
use mathlib.Core.List.{List, [], ◌∷◌, ◌++◌, append_assoc, append-nil}
use Prim.Native.Nat.{ℕ, suc, ◌+◌, ◌-◌, ◌^◌, ◌≤◌, ◌<◌}
use native.Mathlib.Omega.{arith}
use borrow.Author.Tests.{lt-ltb, le-ltb, eq-eqb, ne_eqb}
use lib.ListN.{length, set, length-set}
use Rattle.numbers.specs.Put.{Put}
use Rattle.numbers.specs.Decimal.{decimal}
use Rattle.numbers.proofs.Put.{put_byte, put_then}
use Rattle.patterns.specs.declared.Pattern.{Pattern}
use Rattle.patterns.specs.declared.Condition.{Condition}
use Rattle.patterns.specs.Checked.{is_group}
use Rattle.patterns.specs.Comparison.{signed, constant_value}
use Rattle.form.specs.Form.{line_feed, space, plus, minus, set_word, when_word, within_word, member_word}
use Rattle.form.specs.Form.{attribute_words, attribute_word, operator_words, operator_word, constant, other, integer, operand_word, spaced, line, when_line, within_line}
use Rattle.wording.specs.Wording.{letter_of, member_of, begins_set, when_of}
use Rattle.wording.specs.Parts.{member_text, set_text, variable_text, side_text, operator_text}

-- what is put for a number, where it is another one
pub put_as :
    (f : ℕ → List ℕ) (a k : ℕ) → a ≡ k → {x y : List ℕ} {at r : ℕ} → Put x y at (f k) r → Put x y at (f a) r
put_as f a k e p = rw e p

pub put_two :
    (text : List ℕ) (at a b : ℕ) → at + 2 ≤ length text
    → Put text (set (set text at a) (at + 1) b) at (a ∷ b ∷ []) (at + 2)
put_two text at a b h =
    let e : at + 2 ≡ at + 1 + 1 = omega arith in
    rw e (put_then (put_byte text at a (omega arith)) (put_byte (set text at a) (at + 1) b (simp length-set (omega arith))))

pub put_three :
    (text : List ℕ) (at a b c : ℕ) → at + 3 ≤ length text
    → Put text (set (set (set text at a) (at + 1) b) (at + 2) c) at (a ∷ b ∷ c ∷ []) (at + 3)
put_three text at a b c h =
    let e : at + 3 ≡ at + 2 + 1 = omega arith in
    rw e
    (put_then (put_two text at a b (omega arith))
    (put_byte (set (set text at a) (at + 1) b) (at + 2) c (simp length-set (omega arith))))

-- ## Words of attributes and operators

pub attribute-length : (a : ℕ) → length (attribute_word a) ≤ 6
unfolding attribute_word attribute_words
attribute-length zero = omega arith
attribute-length (suc zero) = omega arith
attribute-length (suc (suc zero)) = omega arith
attribute-length (suc (suc (suc zero))) = omega arith
attribute-length (suc (suc (suc (suc zero)))) = omega arith
attribute-length (suc (suc (suc (suc (suc zero))))) = omega arith
attribute-length (suc (suc (suc (suc (suc (suc a)))))) = omega arith

pub operator-length : (a : ℕ) → length (operator_text a) ≤ 4
unfolding operator_text operator_word operator_words
operator-length zero = omega arith
operator-length (suc zero) = omega arith
operator-length (suc (suc zero)) = omega arith
operator-length (suc (suc (suc zero))) = omega arith
operator-length (suc (suc (suc (suc zero)))) = omega arith
operator-length (suc (suc (suc (suc (suc zero))))) = omega arith
operator-length (suc (suc (suc (suc (suc (suc a)))))) = omega arith

-- the operators between spaces, by their numbers
abbrev pub operator_texts : List (List ℕ)
operator_texts = map (λ (word : List ℕ). space ∷ (word ++ (space ∷ []))) operator_words

pub operator-row : (a : ℕ) → a ≤ last_operator → get_or operator_texts a [] ≡ operator_text a
unfolding operator_text operator_word operator_words
operator-row a h = get_or-map (λ (word : List ℕ). space ∷ (word ++ (space ∷ []))) operator_words a [] [] (omega arith)

-- ## Set lines

pub group-text : (p : Pattern) (v : ℕ) → is_group p v ≡ true → member_text p v ≡ space ∷ letter_of v ∷ plus ∷ []
unfolding member_text member_word member_of
group-text p v e = rw e

pub plain-text : (p : Pattern) (v : ℕ) → is_group p v ≡ false → member_text p v ≡ space ∷ letter_of v ∷ []
unfolding member_text member_word member_of
plain-text p v e = rw e

pub later-set : (v : ℕ) → ¬ (v ≡ 0) → set_text v ≡ line_feed ∷ set_word
unfolding set_text
later-set v h = rw (ne_eqb v 0 h, set_text)

pub begins-text : (p : Pattern) (v : ℕ) → begins_set p v ≡ true → variable_text p v ≡ set_text v ++ member_text p v
unfolding variable_text
begins-text p v e = rw (e, variable_text)

pub joins-text : (p : Pattern) (v : ℕ) → begins_set p v ≡ false → variable_text p v ≡ member_text p v
unfolding variable_text
joins-text p v e = rw (e, variable_text)

-- ## When lines and the within line

pub unsigned : (attribute n : ℕ) → ¬ (attribute ≡ 4) → integer (constant_value attribute n) ≡ decimal n
unfolding integer constant_value
unsigned attribute n h = rw (ne_eqb attribute 4 h, constant_value)

pub not-below : (attribute n : ℕ) → attribute ≡ 4 → n < 2 ^ 31 → integer (constant_value attribute n) ≡ decimal n
unfolding integer constant_value signed
not-below attribute n e h = rw (eq-eqb attribute 4 e, constant_value, lt-ltb n (2 ^ 31) h, signed)

pub below :
    (attribute n : ℕ) → attribute ≡ 4 → 2 ^ 31 ≤ n → n < 2 ^ 32
    → integer (constant_value attribute n) ≡ minus ∷ decimal (2 ^ 32 - n)
unfolding integer constant_value signed
below attribute n e h k =
    let f : suc (2 ^ 32 - 1 - n) ≡ 2 ^ 32 - n = omega arith in
    rw (eq-eqb attribute 4 e, constant_value, le-ltb n (2 ^ 31) h, signed) (ap (λ (m : ℕ). minus ∷ decimal m) f)

pub right-constant :
    (k : Condition) → k.form ≡ 0 → (when_of k).right ≡ constant (constant_value k.attribute k.constant)
unfolding when_of
right-constant k e = rw (eq-eqb k.form 0 e, when_of)

pub right-other :
    (k : Condition) → ¬ (k.form ≡ 0)
    → (when_of k).right ≡ other (record { name = letter_of k.variable2; attribute = k.attribute2 })
unfolding when_of
right-other k h = rw (ne_eqb k.form 0 h, when_of)

pub constant-operand :
    (k : Condition) → k.form ≡ 0
    → operand_word (when_of k).right ≡ integer (constant_value k.attribute k.constant)
unfolding operand_word
constant-operand k e = ap operand_word (right-constant k e)

pub other-operand :
    (k : Condition) → ¬ (k.form ≡ 0) → operand_word (when_of k).right ≡ side_text k.variable2 k.attribute2
unfolding operand_word side_text
other-operand k h = ap operand_word (right-other k h)

pub when-text :
    (k : Condition)
    → when_line (when_of k)
    ≡ (((when_word ++ (space ∷ [])) ++ side_text k.variable k.attribute) ++ operator_text k.operator)
    ++ operand_word (when_of k).right ++ (line_feed ∷ [])
unfolding when_line when_of line spaced side_text operator_text
when-text k = simp (append_assoc, append-nil)

pub within_text :
    (duration : ℕ)
    → within_line duration ≡ ((within_word ++ (space ∷ [])) ++ decimal duration) ++ (line_feed ∷ [])
unfolding within_line line spaced
within_text duration = simp (append_assoc, append-nil)
