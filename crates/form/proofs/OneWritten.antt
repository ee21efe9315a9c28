-- The writer's promise fixes its answer and every byte of the slice; a writer that writes nothing breaks it. Assumes
-- nothing.
use mathlib.Core.Path.{◌≡◌, ◌∙◌, refl, sym, ap}
use mathlib.Core.Bool.{false}
use mathlib.Core.List.Memᴰ
use mathlib.Core.List.{List, [], ◌∷◌, ◌++◌, flat_map}
use Prim.Native.Nat.{ℕ, ◌-◌, ◌≤◌, ◌<◌}
use native.Mathlib.Omega.{arith}
use lib.ListN.{length, get_or, replicate, get_or-replicate}
use Rattle.numbers.specs.Numbers.{number, upto, first, first_from, count}
use Rattle.numbers.specs.Bytes.{word_bytes}
use Rattle.numbers.specs.Decimal.{decimal, digits}
use Rattle.records.specs.declared.Answer.{Answer}
use Rattle.patterns.specs.Patterns.{header, header_broken, variable_broken, set_number, least_set, greatest_set}
use Rattle.patterns.specs.Patterns.{variable_zero}
use Rattle.patterns.specs.Checked.{pattern_answer, first_bad_variable, first_bad_condition}
use Rattle.form.specs.Form.{Making, names, text_of, set_line, within_line, line, spaced}
use Rattle.form.specs.Form.{member_word, Once, InOrder}
use Rattle.form.specs.Packed.{pattern_bytes, member_bytes, member_byte, header_bits}
use Rattle.form.specs.Promises.{bytes_written, Names, WritePromise}
use Rattle.form.proofs.OneNames.{names-one}

module _ (pattern : List ℕ) (lent : ℕ) where
  roomy :
      {P : Type 0} (m k : Making) → Names pattern m → Names pattern k
      → lent < length (text_of m) → length (text_of k) ≤ lent
      → P
  roomy m k p q h l =
      let e = ap (λ (m : Making). length (text_of m)) (names-one pattern m k p q) in absurd (omega arith)

  pub write-promise-one :
      (a b : Answer) (x y : List ℕ) → WritePromise pattern lent a x → WritePromise pattern lent b y → (a ≡ b) × (x ≡ y)
  write-promise-one a b x y (WritePromise.bad_pattern n p q) (WritePromise.bad_pattern n2 p2 q2) = (p ∙ sym p2, q ∙ sym q2)
  write-promise-one a b x y (WritePromise.bad_pattern n p q) (WritePromise.no_room z k w l p2 q2) = absurd (n z)
  write-promise-one a b x y (WritePromise.bad_pattern n p q) (WritePromise.wrote z k w l p2 q2) = absurd (n z)
  write-promise-one a b x y (WritePromise.no_room z m v h p q) (WritePromise.bad_pattern n p2 q2) = absurd (n z)
  write-promise-one a b x y (WritePromise.no_room z m v h p q) (WritePromise.no_room z2 k w l p2 q2) = (p ∙ sym p2, q ∙ sym q2)
  write-promise-one a b x y (WritePromise.no_room z m v h p q) (WritePromise.wrote z2 k w l p2 q2) = roomy m k v w h l
  write-promise-one a b x y (WritePromise.wrote z m v h p q) (WritePromise.bad_pattern n p2 q2) = absurd (n z)
  write-promise-one a b x y (WritePromise.wrote z m v h p q) (WritePromise.no_room z2 k w l p2 q2) = roomy k m w v l h
  write-promise-one a b x y (WritePromise.wrote z m v h p q) (WritePromise.wrote z2 k w l p2 q2) =
      let same = names-one pattern m k v w in (
        p ∙ ap (λ (m : Making). bytes_written (length (text_of m))) same ∙ sym p2,
        q ∙ ap (λ (m : Making). text_of m ++ replicate (lent - length (text_of m)) 0) same ∙ sym q2,
      )

-- ## A writer that writes nothing

-- one variable, no condition, duration 100
abbrev plain : List ℕ
plain = 17 ∷ 0 ∷ 0 ∷ 0 ∷ 0 ∷ 0 ∷ 0 ∷ 100 ∷ 16 ∷ []

-- its text: set a, within 100
abbrev plain_making : Making
plain_making = record { sets = (record { name = 97; group = false } ∷ []) ∷ []; whens = []; duration = 100 }

plain-bytes : pattern_bytes plain_making ≡ plain
unfolding pattern_bytes names flat_map member_bytes member_byte header_bits word_bytes
plain-bytes = refl

plain-accepted : (pattern_answer plain).code ≡ 0
unfolding pattern_answer header header_broken variable_broken number first_bad_variable first_bad_condition first first_from set_number
    least_set greatest_set variable_zero count
plain-accepted = refl

plain-text : length (text_of plain_making) ≡ 17
unfolding text_of flat_map set_line within_line line spaced member_word decimal digits
plain-text = refl

plain-first : (l : List ℕ) → get_or (text_of plain_making ++ l) 0 0 ≡ 115
unfolding text_of flat_map set_line line
plain-first l = refl

plain-order : InOrder plain_making
unfolding names flat_map Once
plain-order =
    record {
      some = λ e. let l = ap length e in omega arith;
      none_empty = λ s m e. let l = ap length (sym (Memᴰ.eq_of_singleton m) ∙ e) in omega arith;
      small = λ x m. let e = Memᴰ.eq_of_singleton m in record { from = omega arith; below = omega arith };
      once = (λ m. Memᴰ.not-nil m, tt);
      conditions = λ w m. absurd (Memᴰ.not-nil m);
    }

plain-names : Names plain plain_making
unfolding names flat_map header number upto
plain-names =
    record {
      order = plain-order;
      fits = record { few = omega arith; few_conditions = omega arith; short = omega arith };
      alphabet = refl;
      same = plain-bytes;
    }

-- whatever a writer answers for it with room for its text, something is written
pub writes-something :
    (lent : ℕ) (answer : Answer) (after : List ℕ) → 17 ≤ lent → WritePromise plain lent answer after
    → (0 < answer.used) × ¬ (after ≡ replicate lent 0)
writes-something lent answer after room (WritePromise.bad_pattern n p q) = absurd (n plain-accepted)
writes-something lent answer after room (WritePromise.no_room z m v h p q) =
    let e = ap (λ (m : Making). length (text_of m)) (names-one plain m plain_making v plain-names) ∙ plain-text in
    absurd (omega arith)
writes-something lent answer after room (WritePromise.wrote z m v h p q) =
    let same = names-one plain m plain_making v plain-names in
    let e = ap (λ (m : Making). length (text_of m)) same ∙ plain-text in
    let used = ap (λ (a : Answer). a.used) p in
    let byte : get_or after 0 0 ≡ 115 =
    ap (λ (l : List ℕ). get_or l 0 0) q
    ∙ ap (λ (m : Making). get_or (text_of m ++ replicate (lent - length (text_of m)) 0) 0 0) same
    ∙ plain-first _
    in
    (omega arith, λ none. let z = ap (λ (l : List ℕ). get_or l 0 0) none ∙ get_or-replicate lent 0 0 0 (omega arith) in omega arith)
