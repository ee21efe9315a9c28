-- The making that is written of an accepted pattern is in order, fits, has a, b, c for its names and stands for the
-- pattern again. Assumes nothing.
use mathlib.Core.Path.{◌≡◌, refl, sym, ap, ap₂, subst, ◌∙◌}
use mathlib.Core.Bool.{Bool, true, false, not, ◌||◌}
use mathlib.Core.List.Memᴰ
use mathlib.Core.List.{List, [], ◌∷◌, ◌++◌, map, flat_map}
use mathlib.Core.List.{Memᴰ}
use Prim.Native.Nat.{ℕ, zero, suc, ◌+◌, ◌*◌, ◌^◌, ◌≤◌, ◌<◌}
use native.Mathlib.Omega.{arith}
use lib.Dec.{eqb, ltb, leb}
use lib.ListN.{length, get_or, length-map, length-append}
use Rattle.numbers.specs.Numbers.{upto, one_if}
use Rattle.numbers.specs.Bytes.{word_bytes}
use Rattle.numbers.proofs.Cases.{neither}
use Rattle.numbers.proofs.First.{first-fails}
use Rattle.numbers.proofs.Upto.{length-upto}
use Rattle.patterns.specs.declared.Pattern.{Pattern}
use Rattle.patterns.specs.declared.Condition.{Condition}
use Rattle.patterns.specs.Patterns.{variable_count, condition_count, duration, set_number, group_flag, condition_of}
use Rattle.patterns.specs.Patterns.{condition_word, condition_broken, condition_zero, form_broken, last_attribute}
use Rattle.patterns.specs.Patterns.{last_operator, most_variables}
use Rattle.patterns.specs.Checked.{pattern_up_to, pattern_of, pattern_answer, first_bad_condition, condition_at, set_of}
use Rattle.patterns.specs.Checked.{is_group}
use Rattle.patterns.specs.Checked
use Rattle.patterns.proofs.Filled.{filled_at}
use Rattle.patterns.proofs.InOrder.{accepted, accepted-pattern, accepted-in-order, set-of, condition-of}
use Rattle.form.specs.Form.{Member, When, Making, first_letter, names, names_of, Once, WhenInOrder}
use Rattle.form.specs.Form.{InOrder, text_of}
use Rattle.form.specs.Packed.{member_byte, member_bytes, condition_bits, when_bits, header_bits, pattern_bytes, Fits}
use Rattle.form.specs.Promises.{Names, most_text}
use Rattle.form.proofs.Assembled.{assembled, flat-same}
use Rattle.form.proofs.Fields.{condition-within}
use Rattle.form.proofs.OneNames.{names-one}
use Rattle.wording.specs.Wording.{member_of, when_of, making_of}
use Rattle.wording.proofs.Sets.{some-sets}
use Rattle.wording.proofs.Named.{mem-upto, once-upto, names-upto, none_empty}
use Rattle.wording.proofs.Conditions.{Kept, form-unused, form-unused-constant, when-in-order, when-bits}
use Rattle.wording.proofs.Bytes.{member-bytes}
use Rattle.wording.proofs.Lengths.{text-length}

map_same :
    {A : Type 0} (f g : ℕ → A) (k n : ℕ) → ((i : ℕ) → k ≤ i → i < k + n → f i ≡ g i)
    → map f (upto k n) ≡ map g (upto k n)
unfolding upto
map_same f g k zero e = refl
map_same {A} f g k (suc n) e =
    ap₂ (λ (x : A) (l : List A). x ∷ l) (e k (omega arith) (omega arith))
    (map_same f g (suc k) n (λ i h l. e i (omega arith) (omega arith)))

flat-map : {A B C : Type 0} (g : B → List C) (f : A → B) (l : List A) → flat_map g (map f l) ≡ flat_map (λ x. g (f x)) l
unfolding flat_map
flat-map g f [] = refl
flat-map g f (x ∷ l) = ap (λ r. g (f x) ++ r) (flat-map g f l)

-- the last of five tests of which none passes
last-of-five : (a b c d e : Bool) → a || (b || (c || (d || e))) ≡ false → e ≡ false
last-of-five a b c d e h = (neither d e (neither c (d || e) (neither b (c || (d || e)) (neither a (b || (c || (d || e))) h).1).1).1).1

form-kept : (n word : ℕ) → condition_broken n word ≡ false → form_broken n (condition_of word) ≡ false
unfolding condition_broken
form-kept n word h =
    let k = condition_of word in
    last-of-five (leb n k.variable) (ltb last_attribute k.attribute) (ltb last_operator k.operator)
    (not (eqb (condition_zero word) 0)) (form_broken n k) h

module _ (pattern : List ℕ) where
  abbrev p : Pattern
  p = pattern_of pattern

  abbrev n : ℕ
  n = variable_count pattern

  abbrev c : ℕ
  c = condition_count pattern

  count-n : p.n ≡ n
  unfolding pattern_of pattern_up_to
  count-n = refl

  count-c : p.c ≡ c
  unfolding pattern_of pattern_up_to
  count-c = refl

  within : p.duration ≡ duration pattern
  unfolding pattern_of pattern_up_to
  within = refl

  group_of : (v : ℕ) → v < n → is_group p v ≡ group_flag pattern v
  unfolding pattern_of pattern_up_to
  group_of v h = filled_at most_variables false (group_flag pattern) n v false h

  module _ (ok : (pattern_answer pattern).code ≡ 0) where
    pub in_order : Checked.InOrder p
    in_order = subst Checked.InOrder (accepted-pattern pattern ok) (accepted-in-order pattern ok)

    form_of : (i : ℕ) → i < c → form_broken n (condition_at p i) ≡ false
    unfolding first_bad_condition
    form_of i h =
        ap (form_broken n) (condition-of pattern i h)
        ∙ form-kept n (condition_word pattern i)
        (first-fails (λ j. condition_broken n (condition_word pattern j)) c i (omega (arith, (accepted pattern ok).conditions)))

    pub kept : (i : ℕ) → i < c → Kept n (condition_at p i)
    kept i h =
        let o = in_order in
        let k : i < p.c = omega (arith, count-c) in
        record {
          variable = omega (arith, o.variable i k, count-n);
          attribute = o.attribute i k;
          operator = o.operator i k;
          form = o.form i k;
          variable2 = omega (arith, o.variable2 i k, count-n);
          attribute2 = o.attribute2 i k;
          constant =
              subst (λ (x : Condition). x.constant < 2 ^ 32) (sym (condition-of pattern i h))
              (condition-within (condition_word pattern i)).constant;
          unused = form-unused n (condition_at p i) (form_of i h);
          unused-constant = form-unused-constant n (condition_at p i) (form_of i h);
        }

    alphabet : names (making_of p).sets ≡ upto first_letter n
    unfolding making_of
    alphabet = names-upto p p.n ∙ ap (upto first_letter) count-n

    when-kept : (w : When) → Memᴰ w (making_of p).whens → WhenInOrder (upto first_letter n) w
    unfolding making_of
    when-kept w m =
        let a = Memᴰ.of_map (λ i. when_of (condition_at p i)) (upto 0 p.c) m in
        let b = mem-upto 0 p.c a.0 a.1 in
        subst (WhenInOrder (upto first_letter n)) a.2
        (when-in-order n (condition_at p a.0) (kept a.0 (omega (arith, count-c))))

    making-in-order : InOrder (making_of p)
    unfolding making_of
    making-in-order =
        record {
          some = some-sets p p.n in_order.some;
          none_empty = none_empty p p.n;
          small =
              λ x m.
              let b = mem-upto first_letter n x (subst (Memᴰ x) alphabet m) in
              record { from = b.0; below = omega (arith, in_order.few, count-n) };
          once = subst Once (sym alphabet) (once-upto first_letter n);
          conditions = λ w m. subst (λ (known : List ℕ). WhenInOrder known w) (sym alphabet) (when-kept w m);
        }

    count-names : length (names (making_of p).sets) ≡ n
    count-names = ap length alphabet ∙ length-upto first_letter n

    count-whens : length (making_of p).whens ≡ c
    unfolding making_of
    count-whens = length-map (upto 0 p.c) (λ i. when_of (condition_at p i)) ∙ length-upto 0 p.c ∙ count-c

    making-fits : Fits (making_of p)
    unfolding making_of
    making-fits =
        record {
          few = omega (arith, count-names, in_order.few, count-n);
          few_conditions = omega (arith, count-whens, in_order.few_conditions, count-c);
          short = omega (arith, within);
        }

    duration-same : (making_of p).duration ≡ duration pattern
    unfolding making_of
    duration-same = within

    variable-bytes :
        member_bytes 1 (making_of p).sets
        ≡ map (λ v. set_number pattern v * 2 ^ 4 + one_if (group_flag pattern v) * 2 ^ 3) (upto 0 n)
    unfolding making_of member_byte member_of
    variable-bytes =
        let f : ℕ → ℕ = λ u. member_byte (set_of p u) (member_of p u) in
        let g : ℕ → ℕ = λ v. set_number pattern v * 2 ^ 4 + one_if (group_flag pattern v) * 2 ^ 3 in
        member-bytes p in_order p.n (omega arith)
        ∙ ap (λ (j : ℕ). map f (upto 0 j)) count-n
        ∙ map_same f g 0 n
        (λ v h l. ap₂ (λ (s : ℕ) (g : Bool). s * 2 ^ 4 + one_if g * 2 ^ 3) (set-of pattern v (omega arith)) (group_of v (omega arith)))

    condition-bytes :
        flat_map (λ (w : When). word_bytes (when_bits (names (making_of p).sets) w)) (making_of p).whens
        ≡ flat_map (λ i. word_bytes (condition_bits (condition_of (condition_word pattern i)))) (upto 0 c)
    unfolding making_of
    condition-bytes =
        let known : List ℕ = names (making_of p).sets in
        let f : ℕ → List ℕ = λ i. word_bytes (when_bits known (when_of (condition_at p i))) in
        let g : ℕ → List ℕ = λ i. word_bytes (condition_bits (condition_of (condition_word pattern i))) in
        flat-map (λ (w : When). word_bytes (when_bits known w)) (λ i. when_of (condition_at p i)) (upto 0 p.c)
        ∙ ap (λ (j : ℕ). flat_map f (upto 0 j)) count-c
        ∙ flat-same f g 0 c
        (λ i h l.
        let k = condition_at p i in
        ap word_bytes
        (ap (λ (l : List ℕ). when_bits l (when_of k)) alphabet
        ∙ when-bits n k (kept i (omega arith))
        ∙ ap condition_bits (condition-of pattern i (omega arith))))

    written-length : length (text_of (making_of p)) ≤ most_text
    written-length =
        text-length p in_order (omega (arith, within)) (λ j h. (kept j (omega (arith, count-c))).constant)

    module _ (small : (i : ℕ) → get_or pattern i 0 < 256) where
      same_bytes : pattern_bytes (making_of p) ≡ pattern
      unfolding pattern_bytes
      same_bytes =
          ap₂ ◌++◌
          (ap word_bytes
          (ap₂ (λ (x y : ℕ). header_bits x y (making_of p).duration) count-names count-whens
          ∙ ap (header_bits n c) duration-same))
          (ap₂ ◌++◌ variable-bytes condition-bytes)
          ∙ sym (assembled pattern small ok)

      -- Rule 11.7
      pub named : Names pattern (making_of p)
      named = record { order = making-in-order; fits = making-fits; alphabet = alphabet; same = same_bytes }

-- ## The longest text

-- each is below 256
unfoldable AllBytes : List ℕ → Type 0
AllBytes [] = Unit {0}
AllBytes (x ∷ l) = (x < 256) × AllBytes l

bytes-at : (l : List ℕ) → AllBytes l → (i : ℕ) → get_or l i 0 < 256
unfolding AllBytes
bytes-at [] h i = omega arith
bytes-at (x ∷ l) h zero = h.0
bytes-at (x ∷ l) h (suc i) = bytes-at l h.1 i

bytes-append : (l r : List ℕ) → AllBytes l → AllBytes r → AllBytes (l ++ r)
unfolding AllBytes
bytes-append [] r h k = k
bytes-append (x ∷ l) r h k = (h.0, bytes-append l r h.1 k)

word_small : (w : ℕ) → AllBytes (word_bytes w)
unfolding AllBytes word_bytes
word_small w =
    (omega arith, (omega arith, (omega arith, (omega arith, (omega arith, (omega arith, (omega arith, (omega arith, tt))))))))

words_small : {A : Type 0} (f : A → ℕ) (l : List A) → AllBytes (flat_map (λ (x : A). word_bytes (f x)) l)
unfolding AllBytes flat_map
words_small f [] = tt
words_small f (x ∷ l) = bytes-append (word_bytes (f x)) _ (word_small (f x)) (words_small f l)

flag_small : (t : Bool) → one_if t ≤ 1
flag_small true = omega arith
flag_small false = omega arith

set-small : (k : ℕ) (s : List Member) → k < 16 → AllBytes (map (member_byte k) s)
unfolding AllBytes member_byte
set-small k [] h = tt
set-small k (m ∷ s) h = (omega (arith, flag_small m.group), set-small k s h)

-- no more sets than names
sets-few :
    (sets : List (List Member)) → ((s : List Member) → Memᴰ s sets → ¬ (s ≡ []))
    → length sets ≤ length (names sets)
unfolding names flat_map
sets-few [] h = omega arith
sets-few ([] ∷ sets) h = absurd (h [] (Memᴰ.head refl) refl)
sets-few ((m ∷ s) ∷ sets) h =
    let later = sets-few sets (λ x q. h x (Memᴰ.tail q)) in
    omega (arith, length-append (names_of (m ∷ s)) (flat_map names_of sets))

sets-small : (k : ℕ) (sets : List (List Member)) → k + length sets ≤ 16 → AllBytes (member_bytes k sets)
unfolding AllBytes member_bytes
sets-small k [] h = tt
sets-small k (s ∷ sets) h =
    bytes-append (map (member_byte k) s) _ (set-small k s (omega arith)) (sets-small (suc k) sets (omega arith))

pub bytes_small : (pattern : List ℕ) (m : Making) → Names pattern m → (i : ℕ) → get_or pattern i 0 < 256
unfolding pattern_bytes
bytes_small pattern m names i =
    let few = sets-few m.sets names.order.none_empty in
    subst (λ (l : List ℕ). get_or l i 0 < 256) names.same
    (bytes-at (pattern_bytes m)
    (bytes-append (word_bytes _) _ (word_small _)
    (bytes-append (member_bytes 1 m.sets) _ (sets-small 1 m.sets (omega (arith, names.fits.few))) (words_small _ m.whens))) i)

-- Rule 11.7: no pattern has a longer text
pub longest :
    (pattern : List ℕ) (m : Making) → (pattern_answer pattern).code ≡ 0 → Names pattern m
    → length (text_of m) ≤ most_text
longest pattern m ok names =
    let e = names-one pattern m (making_of (pattern_of pattern)) names (named pattern ok (bytes_small pattern m names)) in
    omega (arith, ap (λ (k : Making). length (text_of k)) e, written-length pattern ok)
