-- Readers that the promise shuts out: one that refuses all, one that takes a number with a 0 in front, and one that
-- does without the last line feed. Text is a list of ASCII codes. Assumes nothing.
use mathlib.Core.Path.{◌≡◌, refl, sym, ap, ◌∙◌}
use mathlib.Core.Logic.{⊎_elim}
use mathlib.Core.Bool.{Bool, false, ◌||◌}
use mathlib.Core.List.{List, [], ◌∷◌, ◌++◌, flat_map}
use mathlib.Core.List.Memᴰ
use mathlib.Core.List.{Memᴰ}
use Prim.Native.Nat.{ℕ, ◌≤◌, ◌<◌}
use native.Mathlib.Omega.{arith}
use borrow.Author.Tests.{eqb-false}
use lib.Dec.{eqb}
use lib.IntN.{pos, negsuc}
use lib.ListN.{length}
use Rattle.numbers.specs.Numbers.{number, first, first_from, count}
use Rattle.numbers.specs.Bytes.{word_bytes}
use Rattle.numbers.specs.Decimal.{decimal, digits}
use Rattle.numbers.proofs.Cases.{neither}
use Rattle.numbers.proofs.Value.{decimal-no-zero}
use Rattle.records.specs.declared.Answer.{Answer}
use Rattle.patterns.specs.Patterns.{header, header_broken, set_number, variable_zero, least_set, greatest_set}
use Rattle.patterns.specs.Patterns.{variable_broken}
use Rattle.patterns.specs.Checked.{first_bad_variable, first_bad_condition, pattern_answer}
use Rattle.form.specs.Form.{Operand, constant, other, line_feed, dot, minus, names, line}
use Rattle.form.specs.Form.{member_word, side_word, integer, operand_word, spaced, set_line, within_line, text_of}
use Rattle.form.specs.Form.{InForm}
use Rattle.form.specs.Lines.{FirstBad}
use Rattle.form.specs.Packed.{header_bits, member_byte, member_bytes, pattern_bytes, Fits}
use Rattle.form.specs.Promises.{ReadPromise}
use Rattle.form.specs.Items.{Item, set_item, when_item, within_item, item_line, sets_in, whens_in, duration_in}
use Rattle.form.specs.Items.{start, finished, Next, after, Valid, end}
use Rattle.form.proofs.Cancel.{words_same}
use Rattle.form.proofs.Making.{making_in, making-in, valid-front}
use Rattle.form.proofs.OneLine.{is_inked, are_inked, inked-words, words_of, first_of, line_of, words-plain}
use Rattle.form.proofs.OneMeaning.{lettered-start, lettered-end}
use Rattle.form.proofs.FirstBad.{any_name, shortest, shortest-valid, bad-line, missing-line}
use Rattle.form.proofs.OneRead.{formed, refuses}

-- ## One that refuses all

-- set a
abbrev set_a : List ℕ
set_a = 115 ∷ 101 ∷ 116 ∷ 32 ∷ 97 ∷ []

-- within 0
abbrev within0 : List ℕ
within0 = 119 ∷ 105 ∷ 116 ∷ 104 ∷ 105 ∷ 110 ∷ 32 ∷ 48 ∷ []

abbrev pub shortest_text : List ℕ
shortest_text = set_a ++ (line_feed ∷ (within0 ++ (line_feed ∷ [])))

shortest-form : InForm shortest_text (making_in shortest)
shortest-form = record { bytes = bytes; order = (making-in shortest shortest-valid ended).0 }
  where
    bytes : shortest_text ≡ text_of (making_in shortest)
    bytes =
        unfold shortest sets_in whens_in duration_in text_of set_line within_line line spaced member_word decimal digits flat_map in
        refl

    ended : (end start shortest).phase ≡ finished
    ended = unfold shortest end after in refl

shortest-pattern : pattern_bytes (making_in shortest) ≡ 17 ∷ 0 ∷ 0 ∷ 0 ∷ 0 ∷ 0 ∷ 0 ∷ 0 ∷ 16 ∷ []
unfolding shortest sets_in whens_in duration_in pattern_bytes header_bits member_bytes member_byte word_bytes flat_map names
shortest-pattern = refl

shortest-accepted : (pattern_answer (17 ∷ 0 ∷ 0 ∷ 0 ∷ 0 ∷ 0 ∷ 0 ∷ 0 ∷ 16 ∷ [])).code ≡ 0
unfolding pattern_answer header_broken header number first_bad_variable first first_from variable_broken set_number least_set greatest_set variable_zero count first_bad_condition
shortest-accepted = refl

shortest-fits : Fits (making_in shortest)
unfolding shortest sets_in whens_in duration_in names flat_map
shortest-fits = record { few = omega arith; few_conditions = omega arith; short = omega arith }

module _ (lent : ℕ) (answer : Answer) (after : List ℕ) where
  pub not-all-refused :
      9 ≤ lent → ReadPromise shortest_text lent answer after → (answer.code ≡ 0) × (answer.used ≡ 9)
  not-all-refused h p =
      let e = shortest-pattern in
      let c : (pattern_answer (pattern_bytes (making_in shortest))).code ≡ 0 = rw e shortest-accepted in
      let n : length (pattern_bytes (making_in shortest)) ≡ 9 = rw e refl in
      let r =
      ((formed shortest_text lent answer after p (making_in shortest) shortest-form).good shortest-fits c (omega arith)).0
      in
      (ap (λ (a : Answer). a.code) r, ap (λ (a : Answer). a.used) r ∙ n)

-- ## What a text may not have

-- the first line
abbrev front : List Item
front = set_item (any_name ∷ []) ∷ []

front-valid : Valid start front
unfolding shortest
front-valid = valid-front start front (within_item 0 ∷ []) shortest-valid

front-line : flat_map item_line front ≡ set_a ++ (line_feed ∷ [])
unfolding flat_map item_line set_line line spaced member_word
front-line = refl

front-unfinished : ¬ ((end start front).phase ≡ finished)
unfolding end after
front-unfinished e = omega arith

has_feed : List ℕ → Bool
has_feed [] = false
has_feed (x ∷ l) = eqb line_feed x || has_feed l

no-feed : (l : List ℕ) → has_feed l ≡ false → ¬ Memᴰ line_feed l
unfolding has_feed
no-feed [] e m = Memᴰ.not-nil m
no-feed (x ∷ l) e m =
    let h = neither (eqb line_feed x) (has_feed l) e in
    ⊎_elim (eqb-false line_feed x h.0) (no-feed l h.1) (Memᴰ.cases_cons m)

-- no operand begins with a 0 and a digit
zero-in-front : (o : Operand) (x : ℕ) (l : List ℕ) → 48 ≤ x → ¬ (operand_word o ≡ 48 ∷ x ∷ l)
unfolding operand_word integer side_word
zero-in-front (constant (pos n)) x l h e =
    let long : 1 < length (decimal n) = rw e (omega arith) in
    decimal-no-zero n long (rw e refl)
zero-in-front (constant (negsuc n)) x l h e = let z : minus ≡ 48 = cc in omega arith
zero-in-front (other s) x l h e = let z : dot ≡ x = cc in omega arith

-- a.core = 007
abbrev seven_words : List (List ℕ)
seven_words = (97 ∷ 46 ∷ 99 ∷ 111 ∷ 114 ∷ 101 ∷ []) ∷ (61 ∷ []) ∷ (48 ∷ 48 ∷ 55 ∷ []) ∷ []

-- when a.core = 007
abbrev seven : List ℕ
seven =
    119 ∷ 104 ∷ 101 ∷ 110
    ∷ 32 ∷ 97 ∷ 46 ∷ 99 ∷ 111 ∷ 114 ∷ 101
    ∷ 32 ∷ 61
    ∷ 32 ∷ 48 ∷ 48 ∷ 55
    ∷ []

seven-spaced : seven ++ (line_feed ∷ []) ≡ 119 ∷ 104 ∷ 101 ∷ 110 ∷ (spaced seven_words ++ (line_feed ∷ []))
unfolding spaced
seven-spaced = refl

no_seven : (i : Item) → Next (end start front) i → ¬ (item_line i ≡ seven ++ (line_feed ∷ []))
unfolding first_of
no_seven (set_item members) n e =
    let h = sym (line_of (set_item members)) ∙ e in let z : ◌≡◌ {A = ℕ} 115 119 = cc in omega arith
no_seven (when_item w) n e =
    let h = sym (line_of (when_item w)) ∙ e ∙ seven-spaced in
    let p = words-plain (end start front) (when_item w) (lettered-end start front lettered-start front-valid) n in
    let q = inked-words seven_words (unfold are_inked is_inked in refl) in
    let r = (words_same (words_of (when_item w)) seven_words [] [] p q (cc)).0 in
    last r
  where
    last : words_of (when_item w) ≡ seven_words → ⊥
    last r = unfold words_of in zero-in-front w.right 48 (55 ∷ []) (omega arith) (cc)
no_seven (within_item d) n e =
    let h = sym (line_of (within_item d)) ∙ e in let z : ◌≡◌ {A = ℕ} 105 104 = cc in omega arith

abbrev pub seven_text : List ℕ
seven_text = set_a ++ (line_feed ∷ (seven ++ (line_feed ∷ (within0 ++ (line_feed ∷ [])))))

seven-bad : FirstBad seven_text 1
seven-bad =
    bad-line seven_text front seven (within0 ++ (line_feed ∷ [])) front-valid
    (rw front-line refl)
    (no-feed seven (unfold has_feed in refl))
    no_seven

-- the shortest text without its last line feed
abbrev pub cut_text : List ℕ
cut_text = set_a ++ (line_feed ∷ within0)

cut-bad : FirstBad cut_text 1
cut-bad =
    missing-line cut_text front within0 front-valid (rw front-line refl) (no-feed within0 (unfold has_feed in refl))
    (λ e. front-unfinished)

module _ (lent : ℕ) (answer : Answer) (after : List ℕ) where
  pub no-zero-in-front : ReadPromise seven_text lent answer after → (answer.code ≡ 14) × (answer.place ≡ 1)
  no-zero-in-front p =
      let r = (refuses seven_text lent answer after p 1 seven-bad).0 in
      (ap (λ (a : Answer). a.code) r, ap (λ (a : Answer). a.place) r)

  pub no-text-cut : ReadPromise cut_text lent answer after → (answer.code ≡ 14) × (answer.place ≡ 1)
  no-text-cut p =
      let r = (refuses cut_text lent answer after p 1 cut-bad).0 in
      (ap (λ (a : Answer). a.code) r, ap (λ (a : Answer). a.place) r)
