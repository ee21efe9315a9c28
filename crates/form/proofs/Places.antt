-- The place of a name among the names: which it is, and that no two names share one. Assumes nothing.
use mathlib.Core.Path.{◌≡◌, ◌∙◌, refl, sym, ap}
use mathlib.Core.Bool.{true, false}
use mathlib.Core.List.Memᴰ
use mathlib.Core.List.{List, [], ◌∷◌, Memᴰ}
use mathlib.Core.Logic.{⊎_elim}
use Prim.Native.Nat.{ℕ, suc, ◌-◌, ◌≤◌, ◌<◌}
use native.Mathlib.Omega.{arith}
use borrow.Author.Tests.{eqb-true, eqb-false}
use lib.Dec.{eqb}
use lib.ListN.{length, get_or}
use Rattle.numbers.proofs.Cases.{by-test}
use Rattle.form.specs.Packed.{place_of, variable_of}

module _ (x y : ℕ) (l : List ℕ) where
  pub place_here : eqb x y ≡ true → place_of x (y ∷ l) ≡ 1
  unfolding place_of
  place_here e = rw (e, place_of)

  pub place_none : eqb x y ≡ false → eqb (place_of x l) 0 ≡ true → place_of x (y ∷ l) ≡ 0
  unfolding place_of
  place_none e z = rw (e, z, place_of)

  pub place-later : eqb x y ≡ false → eqb (place_of x l) 0 ≡ false → place_of x (y ∷ l) ≡ suc (place_of x l)
  unfolding place_of
  place-later e z = rw (e, z, place_of)

pub place-bound : (x : ℕ) (l : List ℕ) → place_of x l ≤ length l
unfolding place_of
place-bound x [] = omega arith
place-bound x (y ∷ l) =
    let below = place-bound x l in
    by-test (eqb x y)
    (λ e. omega (arith, place_here x y l e))
    (λ e. by-test (eqb (place_of x l) 0)
    (λ z. omega (arith, place_none x y l e z))
    (λ z. omega (arith, place-later x y l e z)))

-- what a name's place says
record Placed (x : ℕ) (l : List ℕ) : Type 0 where
  some : 1 ≤ place_of x l
  here : get_or l (place_of x l - 1) 0 ≡ x

at-later : (x y : ℕ) (l : List ℕ) → Placed x l → eqb x y ≡ false → Placed x (y ∷ l)
at-later x y l p e =
    let z = place-later x y l e (rw (eqb-at p) refl) in
    let step : suc (place_of x l) - 1 ≡ suc (place_of x l - 1) = omega (arith, p.some) in
    record {
      some = omega (arith, z);
      here = ap (λ (i : ℕ). get_or (y ∷ l) (i - 1) 0) z ∙ ap (λ (i : ℕ). get_or (y ∷ l) i 0) step ∙ p.here;
    }
  where
    eqb-at : Placed x l → eqb (place_of x l) 0 ≡ false
    eqb-at q = by-test (eqb (place_of x l) 0) (λ t. let w = eqb-true (place_of x l) 0 t in absurd (omega (arith, q.some))) (λ f. f)

placed : (x : ℕ) (l : List ℕ) → Memᴰ x l → Placed x l
placed x [] h = absurd (Memᴰ.not-nil h)
placed x (y ∷ l) h =
    let below = placed x l in
    by-test (eqb x y)
    (λ e. let z = place_here x y l e in
    record {
      some = omega arith;
      here = ap (λ (i : ℕ). get_or (y ∷ l) (i - 1) 0) z ∙ sym (eqb-true x y e);
    })
    (λ e. ⊎_elim (λ q. absurd (eqb-false x y e q)) (λ m. at-later x y l (below m) e) (Memᴰ.cases_cons h))

-- a variable for each name
pub variable-bound : (known : List ℕ) (x : ℕ) → Memᴰ x known → variable_of known x < length known
variable-bound known x h =
    let p = placed x known h in
    omega (arith, p.some, place-bound x known)

pub variable-at : (known : List ℕ) (x : ℕ) → Memᴰ x known → get_or known (variable_of known x) 0 ≡ x
variable-at known x h = (placed x known h).here

-- no two names for one variable
pub variable-one :
    (known : List ℕ) (x y : ℕ) → Memᴰ x known → Memᴰ y known → variable_of known x ≡ variable_of known y → x ≡ y
variable-one known x y h k e =
    sym (variable-at known x h) ∙ ap (λ (i : ℕ). get_or known i 0) e ∙ variable-at known y k
