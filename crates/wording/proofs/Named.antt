-- The sets that are written: none is empty, and their names are the first letters, each once. Assumes nothing.
use mathlib.Core.Path.{◌≡◌, refl, sym, ap, subst, ◌∙◌}
use mathlib.Core.Logic.{⊎_elim}
use mathlib.Core.List.{List, [], ◌∷◌, ◌++◌, flat_map, append_assoc, append-nil, append-eq-nil_iff, cons-ne-nil}
use mathlib.Core.List.{Memᴰ}
use Prim.Native.Nat.{ℕ, zero, suc, ◌+◌, ◌≤◌, ◌<◌}
use native.Mathlib.Omega.{arith}
use Rattle.numbers.specs.Numbers.{upto}
use Rattle.numbers.proofs.Cases.{by-test, by_order}
use Rattle.numbers.proofs.Upto.{length-upto, upto_snoc, get_or-upto}
use Rattle.patterns.specs.declared.Pattern.{Pattern}
use Rattle.form.specs.Form.{Member, first_letter, names_of, names, Once}
use Rattle.form.specs.Packed.{variable_of}
use Rattle.form.proofs.Places.{variable-bound, variable-at}
use Rattle.wording.specs.Wording.{letter_of, member_of, begins_set, in_last, sets_up_to}
use Rattle.wording.proofs.Whens.{flat-snoc, map_snoc}
use Rattle.wording.proofs.Sets.{sets-begin, sets-join}

-- ## Numbers from k on

pub upto-mem : (k n x : ℕ) → k ≤ x → x < k + n → Memᴰ x (upto k n)
unfolding upto
upto-mem k zero x h l = absurd (omega arith)
upto-mem k (suc n) x h l =
    by_order k x
    (λ above. mathlib.Core.List.Memᴰ.tail (upto-mem (suc k) n x above (omega arith)))
    (λ below. mathlib.Core.List.Memᴰ.head (omega arith))

pub mem-upto : (k n x : ℕ) → Memᴰ x (upto k n) → (k ≤ x) × (x < k + n)
unfolding upto
mem-upto k zero x m = absurd (mathlib.Core.List.Memᴰ.not-nil m)
mem-upto k (suc n) x m =
    let later = mem-upto (suc k) n x in
    ⊎_elim
    (λ e. (omega arith, omega arith))
    (λ t. let b = later t in (omega arith, omega arith))
    (mathlib.Core.List.Memᴰ.cases_cons m)

pub once-upto : (k n : ℕ) → Once (upto k n)
unfolding Once upto
once-upto k zero = tt
once-upto k (suc n) = (λ m. let b = mem-upto (suc k) n k m in omega arith, once-upto (suc k) n)

-- the variable of a letter
pub letter-place : (n v : ℕ) → v < n → variable_of (upto first_letter n) (letter_of v) ≡ v
letter-place n v h =
    let known : List ℕ = upto first_letter n in
    let named : Memᴰ (letter_of v) known = upto-mem first_letter n (letter_of v) (omega arith) (omega arith) in
    let below = variable-bound known (letter_of v) named in
    let at = variable-at known (letter_of v) named in
    let reads = get_or-upto first_letter n (variable_of known (letter_of v)) 0 (omega (arith, length-upto first_letter n)) in
    omega arith

-- ## Names

names_more : (sets : List (List Member)) (m : Member) → names (sets ++ ((m ∷ []) ∷ [])) ≡ names sets ++ (m.name ∷ [])
unfolding names
names_more sets m = flat-snoc names_of sets (m ∷ [])

names-last : (sets : List (List Member)) (m : Member) → names (in_last sets m) ≡ names sets ++ (m.name ∷ [])
unfolding names in_last flat_map
names-last [] m = refl
names-last (s ∷ []) m =
    append-nil (names_of (s ++ (m ∷ [])))
    ∙ map_snoc (λ (x : Member). x.name) s m
    ∙ ap (λ (l : List ℕ). l ++ (m.name ∷ [])) (sym (append-nil (names_of s)))
names-last (s ∷ t ∷ sets) m =
    ap (λ (l : List ℕ). names_of s ++ l) (names-last (t ∷ sets) m)
    ∙ sym (append_assoc (names_of s) (names (t ∷ sets)) (m.name ∷ []))

-- ## None is empty

last-none-empty :
    (sets : List (List Member)) (m : Member) → ((s : List Member) → Memᴰ s sets → ¬ (s ≡ []))
    → (s : List Member) → Memᴰ s (in_last sets m) → ¬ (s ≡ [])
unfolding in_last
last-none-empty [] m h s k z = cons-ne-nil m [] (sym (mathlib.Core.List.Memᴰ.eq_of_singleton k) ∙ z)
last-none-empty (t ∷ []) m h s k z =
    let e = (append-eq-nil_iff {p = t} {q = m ∷ []}).0 (sym (mathlib.Core.List.Memᴰ.eq_of_singleton k) ∙ z) in
    cons-ne-nil m [] e.1
last-none-empty (t ∷ u ∷ sets) m h s k z =
    let later = last-none-empty (u ∷ sets) m (λ x q. h x (mathlib.Core.List.Memᴰ.tail q)) s in
    ⊎_elim (λ e. h t (mathlib.Core.List.Memᴰ.head refl) (sym e ∙ z)) (λ q. later q z) (mathlib.Core.List.Memᴰ.cases_cons k)

more-none-empty :
    (sets : List (List Member)) (m : Member) → ((s : List Member) → Memᴰ s sets → ¬ (s ≡ []))
    → (s : List Member) → Memᴰ s (sets ++ ((m ∷ []) ∷ [])) → ¬ (s ≡ [])
more-none-empty sets m h s k z =
    ⊎_elim
    (λ q. h s q z)
    (λ q. cons-ne-nil m [] (sym (mathlib.Core.List.Memᴰ.eq_of_singleton q) ∙ z))
    (mathlib.Core.List.Memᴰ.append_cases sets k)

module _ (p : Pattern) where
  pub names-upto : (v : ℕ) → names (sets_up_to p v) ≡ upto first_letter v
  unfolding names flat_map sets_up_to upto member_of
  names-upto zero = refl
  names-upto (suc v) =
      let before = ap (λ (l : List ℕ). l ++ (letter_of v ∷ [])) (names-upto v) ∙ sym (upto_snoc first_letter v) in
      by-test (begins_set p v)
      (λ b. ap names (sets-begin p v b) ∙ names_more (sets_up_to p v) (member_of p v) ∙ before)
      (λ b. ap names (sets-join p v b) ∙ names-last (sets_up_to p v) (member_of p v) ∙ before)

  pub none_empty : (v : ℕ) (s : List Member) → Memᴰ s (sets_up_to p v) → ¬ (s ≡ [])
  unfolding sets_up_to
  none_empty zero s m = absurd (mathlib.Core.List.Memᴰ.not-nil m)
  none_empty (suc v) s m =
      let before = none_empty v in
      by-test (begins_set p v)
      (λ b. more-none-empty (sets_up_to p v) (member_of p v) before s (subst (Memᴰ s) (sets-begin p v b) m))
      (λ b. last-none-empty (sets_up_to p v) (member_of p v) before s (subst (Memᴰ s) (sets-join p v b) m))
