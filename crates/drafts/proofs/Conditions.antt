-- A condition's words read, the last first. Assumes nothing.
use mathlib.Core.Path.{◌≡◌, ◌∙◌, sym, ap, subst}
use mathlib.Core.Bool.{true}
use mathlib.Core.List.{List, [], ◌∷◌, ◌++◌}
use lib.IntN.{ℤ}
use Prim.Native.Nat.{ℕ, ◌+◌, ◌-◌, ◌*◌, ◌^◌, ◌≤◌, ◌<◌}
use native.Mathlib.Omega.{arith}
use lib.ListN.{length, get_or, take, drop}
use Rattle.patterns.specs.Patterns.{last_operator}
use Rattle.form.specs.Form.{Side, Operand, constant, other, When, space, first_letter, operator_words, operator_word}
use Rattle.form.specs.Form.{side_word, operand_word, in_range, integer}
use Rattle.words.specs.declared.Sided.{Sided}
use Rattle.words.specs.Words.{SideKnown, SideFound, ConstantRead}
use Rattle.std.specs.Prelude.{Option, Some, None}
use Rattle.drafts.specs.Steps.{Spaced, Places, SideRead, OperandKnown, operand_bits, WhenKnown, condition_words}
use Rattle.drafts.specs.Steps.{OperandFound, OperandOf, ComparisonOf, ConditionOf}
use Rattle.drafts.proofs.Split.{operator-clear, side-clear, side-attribute, joined, cut_at, uncut, behind-part}

-- a side that was read is small
pub side-small : (places word : List ℕ) (side : Sided) → Places places → SideFound places word side → SideRead side
side-small places word side p f =
    let b = p.small (f.side.name - first_letter) in
    record {
      from = omega (arith, f.known.known, f.place);
      upto = omega (arith, f.place);
      small = omega (arith, f.known.small, f.attribute);
    }

-- ## The last word

module _ (places : List ℕ) (left : Sided) (operator : ℕ) (word : List ℕ) where
  pub operand-side :
      (right : Sided) (bits : ℕ) → SideFound places word right
      → bits
      ≡ (left.place - 1) * 2 ^ 60 + left.attribute * 2 ^ 57 + operator * 2 ^ 54
      + (2 ^ 53 + (right.place - 1) * 2 ^ 49 + right.attribute * 2 ^ 46)
      → OperandFound places left operator word bits
  unfolding OperandKnown operand_bits operand_word
  operand-side right bits f b =
      record { right = other f.side; known = f.known; words = f.bytes; code = rw (← f.place, ← f.attribute) b }

  pub operand-constant :
      (constant_bits bits : ℕ) → ConstantRead left.attribute word constant_bits
      → bits ≡ (left.place - 1) * 2 ^ 60 + left.attribute * 2 ^ 57 + operator * 2 ^ 54 + constant_bits
      → OperandFound places left operator word bits
  unfolding OperandKnown operand_bits operand_word
  operand-constant k bits f b =
      record { right = constant f.value; known = f.range; words = f.digits; code = rw (← f.packed) b }

  pub no_operand :
      ((s : Side) → SideKnown places s → ¬ (side_word s ≡ word))
      → ((z : ℤ) → in_range left.attribute z ≡ true → ¬ (integer z ≡ word))
      → (x : Operand) → OperandKnown places left.attribute x → ¬ (operand_word x ≡ word)
  unfolding OperandKnown operand_word
  no_operand n m (constant z) g q = m z g q
  no_operand n m (other s) g q = n s g q

-- ## The last two words

module _ (places : List ℕ) (left : Sided) (bytes : List ℕ) where
  pub comparison-uncut :
      ((k : ℕ) → k < length bytes → get_or bytes k 0 ≡ space → ⊥)
      → (operator : ℕ) (right : Operand) → operator ≤ last_operator → OperandKnown places left.attribute right
      → ¬ (operator_word operator ++ (space ∷ operand_word right) ≡ bytes)
  comparison-uncut clear operator right l k e = uncut bytes (operator_word operator) (operand_word right) clear e

  module _ (place : ℕ) (w : Spaced bytes place) where
    pub comparison-other :
        ((k : ℕ) → k < length operator_words → ¬ (get_or operator_words k [] ≡ take place bytes))
        → (operator : ℕ) (right : Operand) → operator ≤ last_operator → OperandKnown places left.attribute right
        → ¬ (operator_word operator ++ (space ∷ operand_word right) ≡ bytes)
    unfolding operator_word operator_words
    comparison-other n operator right l k e =
        n operator (omega arith)
        (cut_at bytes place (operator_word operator) (operand_word right) w (operator-clear operator) e).0

    pub comparison-of :
        (row : ℕ) (r : Option ℕ) → row < length operator_words → get_or operator_words row [] ≡ take place bytes
        → OperandOf places left row (take (length bytes - (place + 1)) (drop (place + 1) bytes)) r
        → ComparisonOf places left bytes r
    unfolding operator_word operator_words
    comparison-of row (Some bits) g p f =
        let q : operand_word f.right ≡ drop (place + 1) bytes = f.words ∙ behind-part bytes (place + 1) in
        record {
          operator = row;
          right = f.right;
          last = omega arith;
          known = f.known;
          words =
              ap (λ (t : List ℕ). t ++ (space ∷ operand_word f.right)) p
              ∙ ap (λ (t : List ℕ). take place bytes ++ (space ∷ t)) q
              ∙ sym (joined bytes place w);
          code = f.code;
        }
    comparison-of row None g p n =
        λ operator right l k e.
        n right k
        ((cut_at bytes place (operator_word operator) (operand_word right) w (operator-clear operator) e).1
        ∙ sym (behind-part bytes (place + 1)))

-- ## All three words

-- the words behind the first
abbrev last_words : When → List ℕ
last_words w = operator_word w.operator ++ (space ∷ operand_word w.right)

module _ (places bytes : List ℕ) where
  pub condition-uncut :
      ((k : ℕ) → k < length bytes → get_or bytes k 0 ≡ space → ⊥)
      → (x : When) → WhenKnown places x → ¬ (condition_words x ≡ bytes)
  condition-uncut clear x k e = uncut bytes (side_word x.left) (last_words x) clear e

  module _ (place : ℕ) (w : Spaced bytes place) where
    cut-side :
        (x : When) → WhenKnown places x → condition_words x ≡ bytes
        → (side_word x.left ≡ take place bytes) × (last_words x ≡ drop (place + 1) bytes)
    cut-side x k e = cut_at bytes place (side_word x.left) (last_words x) w (side-clear x.left k.left.letter) e

    pub condition-other :
        ((s : Side) → SideKnown places s → ¬ (side_word s ≡ take place bytes))
        → (x : When) → WhenKnown places x → ¬ (condition_words x ≡ bytes)
    condition-other n x k e = n x.left k.left (cut-side x k e).0

    pub condition-of :
        (left : Sided) (r : Option ℕ) → SideFound places (take place bytes) left
        → ComparisonOf places left (take (length bytes - (place + 1)) (drop (place + 1) bytes)) r
        → ConditionOf places bytes r
    condition-of left (Some bits) f c =
        let a = f.attribute in
        let t : operator_word c.operator ++ (space ∷ operand_word c.right) ≡ drop (place + 1) bytes =
        c.words ∙ behind-part bytes (place + 1) in
        record {
          when = record { left = f.side; operator = c.operator; right = c.right };
          known = record { left = f.known; operator = c.last; right = rw a at c.known };
          words =
              ap (λ (t : List ℕ). t ++ (space ∷ (operator_word c.operator ++ (space ∷ operand_word c.right)))) f.bytes
              ∙ ap (λ (t : List ℕ). take place bytes ++ (space ∷ t)) t
              ∙ sym (joined bytes place w);
          code = rw (← f.place, ← a) c.code;
        }
    condition-of left None f n =
        λ x m q.
        let c = cut-side x m q in
        let same : x.left.attribute ≡ left.attribute =
        side-attribute x.left f.side m.left.small f.known.small (c.0 ∙ sym f.bytes) ∙ sym f.attribute in
        n x.operator x.right m.operator
        (subst (λ (t : ℕ). OperandKnown places t x.right) same m.right)
        (c.1 ∙ sym (behind-part bytes (place + 1)))
