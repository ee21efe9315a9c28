-- A pattern has one making: its bytes fix its sets, its conditions and its duration. Assumes nothing.
use mathlib.Core.Path.{◌≡◌, ◌∙◌, refl, sym, ap, subst}
use mathlib.Core.Bool.{Bool, true, false}
use mathlib.Core.List.{List, [], ◌∷◌, ◌++◌, map, flat_map}
use mathlib.Core.List.{Memᴰ}
use mathlib.Core.List.{head-eq_of_cons-eq, tail-eq_of_cons-eq}
use mathlib.Core.Logic.{⊎_elim}
use Prim.Native.Nat.{ℕ, suc, ◌*◌, ◌^◌, ◌≤◌, ◌<◌}
use native.Mathlib.Omega.{arith}
use lib.ListN.{length, take, drop, length-append}
use lib.Seq.{take_at, drop_at}
use Rattle.numbers.specs.Numbers.{number, one_if}
use Rattle.numbers.specs.Bytes.{word_bytes}
use Rattle.numbers.proofs.Count.{one_if-bound}
use Rattle.patterns.specs.declared.Condition.{Condition}
use Rattle.patterns.specs.Patterns.{duration, most_variables, condition_of}
use Rattle.patterns.specs.Comparison.{constant_value}
use Rattle.form.specs.Form.{Member, Side, Operand, constant, other, When, Making, names, names_of}
use Rattle.form.specs.Form.{OperandInOrder, WhenInOrder}
use Rattle.form.specs.Packed.{member_byte, member_bytes, variable_of, condition_in, when_bits}
use Rattle.form.specs.Packed.{header_bits, pattern_bytes}
use Rattle.form.specs.Promises.{Names}
use Rattle.numbers.proofs.WordBytes.{word_first, word-length}
use Rattle.form.proofs.Fields.{condition-fields, condition-bound}
use Rattle.form.proofs.Meaning.{constant-means}
use Rattle.form.proofs.Places.{variable-one}
use Rattle.form.proofs.Sizes.{member-length}
use Rattle.form.proofs.Judged.{when-sound, duration-of}

-- two lists of two parts each, the first parts as long as one another
parts-one :
    (a b c d : List ℕ) → a ++ c ≡ b ++ d → length a ≡ length b → (a ≡ b) × (c ≡ d)
parts-one a b c d e l = (
  sym (take_at a c (length b) l) ∙ ap (take (length b)) e ∙ take_at b d (length b) refl,
  sym (drop_at a c (length b) l) ∙ ap (drop (length b)) e ∙ drop_at b d (length b) refl,
)

-- ## Sets

flag_one : (s t : Bool) → one_if s ≡ one_if t → s ≡ t
flag_one true true e = refl
flag_one true false e = absurd (omega arith)
flag_one false true e = absurd (omega arith)
flag_one false false e = refl

byte-bound : (k : ℕ) (m : Member) → (16 * k ≤ member_byte k m) × (member_byte k m < 16 * suc k)
unfolding member_byte
byte-bound k m = let b = one_if-bound m.group in (omega arith, omega arith)

member-one : (k : ℕ) (x y : Member) → member_byte k x ≡ member_byte k y → x.name ≡ y.name → x ≡ y
unfolding member_byte
member-one k x y e n =
    let f : one_if x.group ≡ one_if y.group = omega arith in
    let g = flag_one x.group y.group f in
    λ i. record { name = n i; group = g i }

-- the bytes of later sets stand above those of this one
bytes-above : (k : ℕ) (sets : List (List Member)) (x : ℕ) → Memᴰ x (member_bytes k sets) → 16 * k ≤ x
unfolding member_bytes
bytes-above k [] x h = absurd (mathlib.Core.List.Memᴰ.not-nil h)
bytes-above k (s ∷ sets) x h =
    let later = bytes-above (suc k) sets x in
    ⊎_elim
    (λ m. let a = mathlib.Core.List.Memᴰ.of_map (member_byte k) s m in
    let b = (byte-bound k a.0).0 in subst (λ (y : ℕ). 16 * k ≤ y) a.2 b)
    (λ m. omega (arith, later m))
    (mathlib.Core.List.Memᴰ.append_cases (map (member_byte k) s) h)

record Parted (s t : List Member) (a b c d : List ℕ) : Type 0 where
  same : s ≡ t
  bytes : a ≡ b
  rest : c ≡ d

not_first :
    {P : Type 0} (k : ℕ) (sets : List (List Member)) (x : Member) (l : List ℕ)
    → member_bytes (suc k) sets ≡ member_byte k x ∷ l → P
not_first k sets x l e =
    let m : Memᴰ (member_byte k x) (member_bytes (suc k) sets) = subst (Memᴰ (member_byte k x)) (sym e) (mathlib.Core.List.Memᴰ.head refl) in
    let above = bytes-above (suc k) sets (member_byte k x) m in
    let below = (byte-bound k x).1 in
    absurd (omega arith)

-- the first sets are the same
parted :
    (k : ℕ) (s t : List Member) (a b : List (List Member)) (c d : List ℕ)
    → map (member_byte k) s ++ member_bytes (suc k) a ≡ map (member_byte k) t ++ member_bytes (suc k) b
    → names_of s ++ c ≡ names_of t ++ d
    → Parted s t (member_bytes (suc k) a) (member_bytes (suc k) b) c d
parted k [] [] a b c d e n = record { same = refl; bytes = e; rest = n }
parted k [] (y ∷ t) a b c d e n = not_first k a y _ e
parted k (x ∷ s) [] a b c d e n = not_first k b x _ (sym e)
parted k (x ∷ s) (y ∷ t) a b c d e n =
    let r = parted k s t a b c d (tail-eq_of_cons-eq e) (tail-eq_of_cons-eq n) in
    let h = member-one k x y (head-eq_of_cons-eq e) (head-eq_of_cons-eq n) in
    record { same = λ i. h i ∷ r.same i; bytes = r.bytes; rest = r.rest }

abbrev NoneEmpty : List (List Member) → Type 0
NoneEmpty sets = (s : List Member) → Memᴰ s sets → ¬ (s ≡ [])

not-empty :
    {P : Type 0} (k : ℕ) (s : List Member) (sets : List (List Member)) → NoneEmpty (s ∷ sets)
    → [] ≡ member_bytes k (s ∷ sets) → P
unfolding member_bytes
not-empty k [] sets none e = absurd (none [] (mathlib.Core.List.Memᴰ.head refl) refl)
not-empty k (x ∷ s) sets none e = let l = ap length e in absurd (omega arith)

sets-one :
    (k : ℕ) (a b : List (List Member)) → NoneEmpty a → NoneEmpty b
    → member_bytes k a ≡ member_bytes k b → names a ≡ names b
    → a ≡ b
unfolding member_bytes names flat_map
sets-one k [] [] p q e n = refl
sets-one k [] (t ∷ b) p q e n = not-empty k t b q e
sets-one k (s ∷ a) [] p q e n = not-empty k s a p (sym e)
sets-one k (s ∷ a) (t ∷ b) p q e n =
    let r = parted k s t a b (flat_map names_of a) (flat_map names_of b) e n in
    let rest = sets-one (suc k) a b (λ x m. p x (mathlib.Core.List.Memᴰ.tail m)) (λ x m. q x (mathlib.Core.List.Memᴰ.tail m)) r.bytes r.rest in
    λ i. r.same i ∷ rest i

-- ## Conditions

word-one : (v w : ℕ) → v < 2 ^ 64 → w < 2 ^ 64 → word_bytes v ≡ word_bytes w → v ≡ w
word-one v w h k e = sym (word_first v [] h) ∙ ap (λ (l : List ℕ). number (l ++ []) 0 8) e ∙ word_first w [] k

module _ (known : List ℕ) where
  module _ (p q : Side) (named : Memᴰ p.name known) (named2 : Memᴰ q.name known) where
    side-one : variable_of known p.name ≡ variable_of known q.name → p.attribute ≡ q.attribute → p ≡ q
    side-one v a =
        let n = variable-one known p.name q.name named named2 v in
        λ i. record { name = n i; attribute = a i }

  -- what stands behind the operator
  operand-one :
      (a : ℕ) (p q : Side) (o u : ℕ) (x y : Operand) → OperandInOrder known a x → OperandInOrder known a y
      → condition_in known p o x ≡ condition_in known q u y → x ≡ y
  unfolding condition_in OperandInOrder
  operand-one a p q o u (constant z) (constant w) h k e =
      let c = ap (λ (k : Condition). k.constant) e in
      ap constant (sym (constant-means a z h) ∙ ap (constant_value a) c ∙ constant-means a w k)
  operand-one a p q o u (constant z) (other t) h k e =
      let f = ap (λ (k : Condition). k.form) e in
      absurd (omega arith)
  operand-one a p q o u (other s) (constant w) h k e =
      let f = ap (λ (k : Condition). k.form) e in
      absurd (omega arith)
  operand-one a p q o u (other s) (other t) h k e =
      let v = ap (λ (k : Condition). k.variable2) e in
      let b = ap (λ (k : Condition). k.attribute2) e in
      ap other (side-one s t h.named k.named v b)

  variable-in : (p : Side) (o : ℕ) (x : Operand) → (condition_in known p o x).variable ≡ variable_of known p.name
  unfolding condition_in
  variable-in p o (constant z) = refl
  variable-in p o (other s) = refl

  attribute-in : (p : Side) (o : ℕ) (x : Operand) → (condition_in known p o x).attribute ≡ p.attribute
  unfolding condition_in
  attribute-in p o (constant z) = refl
  attribute-in p o (other s) = refl

  operator-in : (p : Side) (o : ℕ) (x : Operand) → (condition_in known p o x).operator ≡ o
  unfolding condition_in
  operator-in p o (constant z) = refl
  operator-in p o (other s) = refl

  abbrev condition_for : When → Condition
  condition_for w = condition_in known w.left w.operator w.right

  condition-one : (v w : When) → WhenInOrder known v → WhenInOrder known w → condition_for v ≡ condition_for w → v ≡ w
  condition-one v w h k e =
      let a : v.left.attribute ≡ w.left.attribute =
      sym (attribute-in v.left v.operator v.right) ∙ ap (λ (c : Condition). c.attribute) e
      ∙ attribute-in w.left w.operator w.right
      in
      let n : variable_of known v.left.name ≡ variable_of known w.left.name =
      sym (variable-in v.left v.operator v.right) ∙ ap (λ (c : Condition). c.variable) e
      ∙ variable-in w.left w.operator w.right
      in
      let o : v.operator ≡ w.operator =
      sym (operator-in v.left v.operator v.right) ∙ ap (λ (c : Condition). c.operator) e
      ∙ operator-in w.left w.operator w.right
      in
      let l = side-one v.left w.left h.left.named k.left.named n a in
      let r =
      operand-one v.left.attribute v.left w.left v.operator w.operator v.right w.right h.right
      (subst (λ (b : ℕ). OperandInOrder known b w.right) (sym a) k.right) e
      in
      λ i. record { left = l i; operator = o i; right = r i }

  module _ (few : length known ≤ most_variables) where
    bits_below : (w : When) → WhenInOrder known w → when_bits known w < 2 ^ 64
    unfolding when_bits
    bits_below w h = condition-bound (condition_for w) (when-sound known w few h).within

    when-one : (v w : When) → WhenInOrder known v → WhenInOrder known w → when_bits known v ≡ when_bits known w → v ≡ w
    unfolding when_bits
    when-one v w h k e =
        condition-one v w h k
        (sym (condition-fields (condition_for v) (when-sound known v few h).within) ∙ ap condition_of e
        ∙ condition-fields (condition_for w) (when-sound known w few k).within)

    abbrev when_words : List When → List ℕ
    when_words l = flat_map (λ (w : When). word_bytes (when_bits known w)) l

    whens-one :
        (a b : List When) → ((w : When) → Memᴰ w a → WhenInOrder known w)
        → ((w : When) → Memᴰ w b → WhenInOrder known w)
        → when_words a ≡ when_words b → a ≡ b
    unfolding flat_map
    whens-one [] [] h k e = refl
    whens-one [] (w ∷ b) h k e =
        let l = ap length e ∙ length-append (word_bytes (when_bits known w)) (when_words b) in
        absurd (omega (arith, word-length (when_bits known w)))
    whens-one (v ∷ a) [] h k e =
        let l = ap length (sym e) ∙ length-append (word_bytes (when_bits known v)) (when_words a) in
        absurd (omega (arith, word-length (when_bits known v)))
    whens-one (v ∷ a) (w ∷ b) h k e =
        let two = parts-one _ _ _ _ e (word-length (when_bits known v) ∙ sym (word-length (when_bits known w))) in
        let hv = h v (mathlib.Core.List.Memᴰ.head refl) in
        let kw = k w (mathlib.Core.List.Memᴰ.head refl) in
        let here = when-one v w hv kw (word-one (when_bits known v) (when_bits known w) (bits_below v hv) (bits_below w kw) two.0) in
        let rest = whens-one a b (λ x m. h x (mathlib.Core.List.Memᴰ.tail m)) (λ x m. k x (mathlib.Core.List.Memᴰ.tail m)) two.1 in
        λ i. here i ∷ rest i

-- ## The whole

abbrev header_for : Making → ℕ
header_for m = header_bits (length (names m.sets)) (length m.whens) m.duration

pub names-one : (pattern : List ℕ) (m k : Making) → Names pattern m → Names pattern k → m ≡ k
unfolding pattern_bytes
names-one pattern m k p q =
    let alike : names m.sets ≡ names k.sets = p.alphabet ∙ sym q.alphabet in
    let bytes : pattern_bytes m ≡ pattern_bytes k = p.same ∙ sym q.same in
    let behind =
    (parts-one (word_bytes (header_for m)) (word_bytes (header_for k)) _ _ bytes
    (word-length (header_for m) ∙ sym (word-length (header_for k)))).1
    in
    let two =
    parts-one _ _ _ _ behind
    (member-length 1 m.sets ∙ ap length alike ∙ sym (member-length 1 k.sets))
    in
    let sets : m.sets ≡ k.sets = sets-one 1 m.sets k.sets p.order.none_empty q.order.none_empty two.0 alike in
    let whens : m.whens ≡ k.whens =
    whens-one (names m.sets) p.fits.few m.whens k.whens p.order.conditions
    (subst (λ (n : List ℕ). (w : When) → Memᴰ w k.whens → WhenInOrder n w) (sym alike) q.order.conditions)
    (two.1 ∙ ap (λ (n : List ℕ). flat_map (λ (w : When). word_bytes (when_bits n w)) k.whens) (sym alike))
    in
    let within : m.duration ≡ k.duration =
    sym (duration-of m p.order p.fits) ∙ ap duration bytes ∙ duration-of k q.order q.fits
    in
    λ i. record { sets = sets i; whens = whens i; duration = within i }
