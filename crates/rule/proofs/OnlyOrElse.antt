-- Membership in a list that is there by a flag, and in one with an entry to stand in for it; tests that some entry
-- passes; and lists that are collected. Assumes nothing.
use mathlib.Core.Path.{◌≡◌, refl, sym, ap, ap₂, subst, ◌∙◌}
use mathlib.Core.Logic.{◌⊎◌, inl, inr}
use mathlib.Core.Bool.{Bool, true, false, ◌||◌, false≢true}
use mathlib.Core.List.Memᴰ
use mathlib.Core.List.{List, [], ◌∷◌, ◌++◌, map, append_assoc, Memᴰ}
use Rattle.automaton.specs.Filtering.{collect}
use Rattle.rule.specs.Computed.{only, or_else, any}

module _ {A : Type 0} where
  pub mem-only : (b : Bool) {a : A} {l : List A} → Memᴰ a (only b l) → (b ≡ true) × Memᴰ a l
  unfolding only
  mem-only true m = (refl, m)
  mem-only false m = absurd (Memᴰ.not-nil m)

  pub only-mem : {b : Bool} {a : A} {l : List A} → b ≡ true → Memᴰ a l → Memᴰ a (only b l)
  unfolding only
  only-mem {a} {l} h m = subst (λ t. Memᴰ a (only t l)) (sym h) m

  pub mem-or-else : (r : A) (l : List A) {a : A} → Memᴰ a (or_else r l) → ((a ≡ r) × (l ≡ [])) ⊎ Memᴰ a l
  unfolding or_else
  mem-or-else r [] m = inl (Memᴰ.eq_of_singleton m, refl)
  mem-or-else r (s ∷ l) m = inr m

  pub or-else-mem : (r : A) (l : List A) {a : A} → Memᴰ a l → Memᴰ a (or_else r l)
  unfolding or_else
  or-else-mem r [] m = absurd (Memᴰ.not-nil m)
  or-else-mem r (s ∷ l) m = m

  pub or-else-self : (r : A) (l : List A) → ((a : A) → ¬ Memᴰ a l) → Memᴰ r (or_else r l)
  unfolding or_else
  or-else-self r [] n = Memᴰ.head refl
  or-else-self r (s ∷ l) n = absurd (n s (Memᴰ.head refl))

  -- ## Some entry passes

  pub any-mem : (test : A → Bool) {a : A} {l : List A} → Memᴰ a l → test a ≡ true → any test l ≡ true
  unfolding any
  any-mem test (Memᴰ.head {xs} e) h = ap (λ t. t || any test xs) (ap test (sym e) ∙ h)
  any-mem test {a} (Memᴰ.tail {x} {xs} m) h = go (test x) (any-mem test m h)
    where
      go : (t : Bool) → any test xs ≡ true → t || any test xs ≡ true
      go true q = refl
      go false q = q

  pub mem-any : (test : A → Bool) (l : List A) → any test l ≡ true → (a : A) × Memᴰ a l × (test a ≡ true)
  unfolding any
  mem-any test [] h = absurd (false≢true h)
  mem-any test (x ∷ l) h = go (test x) refl h (mem-any test l)
    where
      go :
          (t : Bool) → test x ≡ t → t || any test l ≡ true
          → (any test l ≡ true → (a : A) × Memᴰ a l × (test a ≡ true))
          → (a : A) × Memᴰ a (x ∷ l) × (test a ≡ true)
      go true e q ih = (x, Memᴰ.head refl, e)
      go false e q ih = let r = ih q in (r.0, Memᴰ.tail r.1, r.2)

-- ## Collected

module _ {A C : Type 0} where
  pub collect-append : (f : A → List C) (l m : List A) → collect f (l ++ m) ≡ collect f l ++ collect f m
  unfolding collect
  collect-append f [] m = refl
  collect-append f (a ∷ l) m = ap (λ t. f a ++ t) (collect-append f l m) ∙ sym (append_assoc (f a) (collect f l) (collect f m))

  pub collect-same : (f g : A → List C) (l : List A) → ((a : A) → Memᴰ a l → f a ≡ g a) → collect f l ≡ collect g l
  unfolding collect
  collect-same f g [] h = refl
  collect-same f g (a ∷ l) h = ap₂ ◌++◌ (h a (Memᴰ.head refl)) (collect-same f g l (λ b m. h b (Memᴰ.tail m)))

pub collect-map :
    {A C D : Type 0} (f : C → List D) (g : A → C) (l : List A) → collect f (map g l) ≡ collect (λ a. f (g a)) l
unfolding collect
collect-map f g [] = refl
collect-map f g (a ∷ l) = ap (λ t. f (g a) ++ t) (collect-map f g l)
