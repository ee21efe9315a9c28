-- The places of names in a table by letters, with one name more. Assumes nothing.
use mathlib.Core.Path.{◌≡◌, ◌∙◌, refl, sym, ap}
use mathlib.Core.Bool.{true, false}
use mathlib.Core.Logic.{⊎_elim}
use mathlib.Core.List.Memᴰ
use mathlib.Core.List.{List, [], ◌∷◌, ◌++◌, map, Memᴰ}
use Prim.Native.Nat.{ℕ, zero, suc, ◌+◌, ◌-◌, ◌≤◌, ◌<◌, min}
use native.Mathlib.Nat.{not-suc-le-zero, le_of_suc-le-suc}
use native.Mathlib.Omega.{arith}
use borrow.Author.Tests.{eqb-true, eqb-false, eq-eqb, ne_eqb}
use lib.Dec.{eqb}
use lib.ListN.{length, get_or, set, length-set, length-map}
use lib.Seq.{ext_get_or, get_or-set_same, get_or-set_other}
use Rattle.numbers.specs.Numbers.{upto}
use Rattle.numbers.proofs.Upto.{length-upto, get_or-upto}
use Rattle.numbers.proofs.Cases.{by-test}
use Rattle.form.specs.Form.{first_letter, letters, IsLetter}
use Rattle.form.specs.Packed.{place_of}
use Rattle.drafts.specs.Drafts.{many_variables, places_of}

-- ## One name among names

place_here : (x y : ℕ) (l : List ℕ) → eqb x y ≡ true → place_of x (y ∷ l) ≡ 1
unfolding place_of
place_here x y l e = rw (place_of, e)

place-gone : (x y : ℕ) (l : List ℕ) → eqb x y ≡ false → place_of x l ≡ 0 → place_of x (y ∷ l) ≡ 0
unfolding place_of
place-gone x y l e z = rw (place_of, e, eq-eqb (place_of x l) 0 z)

place-behind : (x y : ℕ) (l : List ℕ) → eqb x y ≡ false → ¬ (place_of x l ≡ 0) → place_of x (y ∷ l) ≡ suc (place_of x l)
unfolding place_of
place-behind x y l e z = rw (place_of, e, ne_eqb (place_of x l) 0 z)

place-bound : (x : ℕ) (l : List ℕ) → place_of x l ≤ length l
place-bound x [] = unfold place_of in (omega arith)
place-bound x (y ∷ l) =
    let h = place-bound x l in
    by-test (eqb x y)
    (λ e. omega (arith, place_here x y l e))
    (λ e. by-test (eqb (place_of x l) 0)
    (λ z. omega (arith, place-gone x y l e (eqb-true (place_of x l) 0 z)))
    (λ z. omega (arith, place-behind x y l e (eqb-false (place_of x l) 0 z))))

pub place-of-name : (x : ℕ) (l : List ℕ) → Memᴰ x l → 0 < place_of x l
place-of-name x [] m = absurd (Memᴰ.not-nil m)
place-of-name x (y ∷ l) m =
    let r = place-of-name x l in
    by-test (eqb x y)
    (λ e. omega (arith, place_here x y l e))
    (λ e. ⊎_elim (λ q. absurd (eqb-false x y e q)) (λ n. let h = r n in omega (arith, place-behind x y l e (λ z. omega arith))) (Memᴰ.cases_cons m))

pub name-of-place : (x : ℕ) (l : List ℕ) → 0 < place_of x l → Memᴰ x l
unfolding place_of
name-of-place x [] h = absurd (omega arith)
name-of-place x (y ∷ l) h =
    let r = name-of-place x l in
    by-test (eqb x y)
    (λ e. Memᴰ.head (eqb-true x y e))
    (λ e. by-test (eqb (place_of x l) 0)
    (λ z. absurd (omega (arith, place-gone x y l e (eqb-true (place_of x l) 0 z))))
    (λ z. let n = eqb-false (place_of x l) 0 z in Memᴰ.tail (r (omega (arith, n)))))

pub no_place : (x : ℕ) (l : List ℕ) → ¬ Memᴰ x l → place_of x l ≡ 0
no_place x l h =
    by-test (eqb (place_of x l) 0)
    (λ z. eqb-true (place_of x l) 0 z)
    (λ z. let n = eqb-false (place_of x l) 0 z in absurd (h (name-of-place x l (omega (arith, n)))))

-- a name behind the others has the next place
last-place : (x : ℕ) (l : List ℕ) → place_of x l ≡ 0 → place_of x (l ++ (x ∷ [])) ≡ suc (length l)
last-place x [] z = place_here x x [] (eq-eqb x x refl)
last-place x (y ∷ l) z =
    let r = last-place x l in
    by-test (eqb x y)
    (λ e. absurd (omega (arith, place_here x y l e)))
    (λ e. by-test (eqb (place_of x l) 0)
    (λ o. let p = r (eqb-true (place_of x l) 0 o) in place-behind x y (l ++ (x ∷ [])) e (λ q. omega arith) ∙ ap suc p)
    (λ o. absurd (omega (arith, place-behind x y l e (eqb-false (place_of x l) 0 o)))))

-- and the others keep theirs
other_place : (x y : ℕ) (l : List ℕ) → ¬ (x ≡ y) → place_of x (l ++ (y ∷ [])) ≡ place_of x l
unfolding place_of
other_place x y [] d = place-gone x y [] (ne_eqb x y d) refl
other_place x y (z ∷ l) d =
    let r = other_place x y l d in
    by-test (eqb x z)
    (λ e. place_here x z (l ++ (y ∷ [])) e ∙ sym (place_here x z l e))
    (λ e. by-test (eqb (place_of x l) 0)
    (λ o. let q = eqb-true (place_of x l) 0 o in place-gone x z (l ++ (y ∷ [])) e (r ∙ q) ∙ sym (place-gone x z l e q))
    (λ o. let q = eqb-false (place_of x l) 0 o in place-behind x z (l ++ (y ∷ [])) e (λ p. q (sym r ∙ p)) ∙ ap suc r ∙ sym (place-behind x z l e q)))

-- ## The table

at_map : (f : ℕ → ℕ) (l : List ℕ) (n : ℕ) → n < length l → get_or (map f l) n 0 ≡ f (get_or l n 0)
at_map f [] n q = absurd (not-suc-le-zero q)
at_map f (x ∷ l) zero q = refl
at_map f (x ∷ l) (suc n) q = at_map f l n (le_of_suc-le-suc q)

module _ (known : List ℕ) where
  pub places-size : length (places_of known) ≡ letters
  unfolding places_of
  places-size = length-map (upto 0 letters) (λ (k : ℕ). min (place_of (first_letter + k) known) many_variables) ∙ length-upto 0 letters

  pub places-at :
      (k : ℕ) → k < letters → get_or (places_of known) k 0 ≡ min (place_of (first_letter + k) known) many_variables
  unfolding places_of
  places-at k h =
      let e : 0 + k ≡ k = omega arith in
      at_map (λ (k : ℕ). min (place_of (first_letter + k) known) many_variables) (upto 0 letters) k (omega (arith, length-upto 0 letters))
      ∙ ap (λ (k : ℕ). min (place_of (first_letter + k) known) many_variables) (get_or-upto 0 letters k 0 h ∙ e)

  pub place_in : (x : ℕ) → IsLetter x → get_or (places_of known) (x - first_letter) 0 ≡ min (place_of x known) many_variables
  place_in x h =
      let e : first_letter + (x - first_letter) ≡ x = omega arith in
      places-at (x - first_letter) (omega arith) ∙ ap (λ (y : ℕ). min (place_of y known) many_variables) e

  -- a letter has a place above 0 just where it is a name
  pub named-place : (x : ℕ) → IsLetter x → Memᴰ x known → 0 < get_or (places_of known) (x - first_letter) 0
  named-place x h m = let p = place-of-name x known m in omega (arith, place_in x h)

  pub place-named : (x : ℕ) → IsLetter x → 0 < get_or (places_of known) (x - first_letter) 0 → Memᴰ x known
  place-named x h p = name-of-place x known (omega (arith, place_in x h))

  -- of few names the places are whole
  pub place-whole :
      (x : ℕ) → IsLetter x → length known < many_variables → get_or (places_of known) (x - first_letter) 0 ≡ place_of x known
  place-whole x h few = let b = place-bound x known in omega (arith, place_in x h)

-- the table with one name more, at each letter
more-at :
    (known : List ℕ) (x k : ℕ) → IsLetter x → ¬ Memᴰ x known → k < letters
    → get_or (set (places_of known) (x - first_letter) (min (suc (length known)) many_variables)) k 0
    ≡ get_or (places_of (known ++ (x ∷ []))) k 0
more-at known x k h out l =
    let i = x - first_letter in
    let v = min (suc (length known)) many_variables in
    let there = places-at (known ++ (x ∷ [])) k l in
    by-test (eqb k i)
    (λ e.
    let q = eqb-true k i e in
    let n : first_letter + k ≡ x = omega arith in
    let w : place_of (first_letter + k) (known ++ (x ∷ [])) ≡ suc (length known) =
    ap (λ (y : ℕ). place_of y (known ++ (x ∷ []))) n ∙ last-place x known (no_place x known out) in
    ap (λ (j : ℕ). get_or (set (places_of known) i v) j 0) q
    ∙ get_or-set_same (places_of known) i v 0 (omega (arith, places-size known))
    ∙ sym (there ∙ ap (λ (p : ℕ). min p many_variables) w))
    (λ e.
    let q = eqb-false k i e in
    let n : ¬ (first_letter + k ≡ x) = λ m. q (omega arith) in
    get_or-set_other (places_of known) i k v 0 q
    ∙ places-at known k l
    ∙ ap (λ (p : ℕ). min p many_variables) (sym (other_place (first_letter + k) x known n))
    ∙ sym there)

pub places-more :
    (known : List ℕ) (x : ℕ) → IsLetter x → ¬ Memᴰ x known
    → set (places_of known) (x - first_letter) (min (suc (length known)) many_variables) ≡ places_of (known ++ (x ∷ []))
places-more known x h out =
    let i = x - first_letter in
    let v = min (suc (length known)) many_variables in
    let s = length-set (places_of known) i v in
    ext_get_or 0 (set (places_of known) i v) (places_of (known ++ (x ∷ [])))
    (s ∙ places-size known ∙ sym (places-size (known ++ (x ∷ []))))
    (λ k l. more-at known x k h out (omega (arith, places-size known, s)))
