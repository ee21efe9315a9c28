-- Lists in which each entry stands in a relation to all that follow it. Where the relation goes one way only, the
-- members settle the list. Assumes nothing.
use Rattle.std.proofs.Common.{◌≡◌, refl, sym, ap₂, subst, ◌∙◌, ◌⊎◌, inl, inr, Bool, true, false, List, [], ◌∷◌, ◌++◌}
use Rattle.std.proofs.Common.{map, ℕ, zero, suc, ◌<◌}
use mathlib.Core.List.Memᴰ
use mathlib.Core.List.{Memᴰ}
use Rattle.numbers.specs.Numbers.{upto}
use Rattle.automaton.specs.Filtering.{keep, filter}
use Rattle.automaton.proofs.Membership.{mem-filter, mem-map, mem-upto}

module _ {A : Type 0} (R : A → A → Type 0) where
  abbrev pub Ordered : List A → Type 0
  Ordered [] = Unit {0}
  Ordered (x ∷ l) = ((y : A) → Memᴰ y l → R x y) × Ordered l

  pub ordered-append :
      (l m : List A) → Ordered l → Ordered m → ((x y : A) → Memᴰ x l → Memᴰ y m → R x y) → Ordered (l ++ m)
  ordered-append [] m p q h = q
  ordered-append (x ∷ l) m p q h = (λ s k. go s (Memᴰ.append_cases l k), ordered-append l m p.1 q (λ a b i j. h a b (Memᴰ.tail i) j))
    where
      go : (s : A) → Memᴰ s l ⊎ Memᴰ s m → R x s
      go s (inl k) = p.0 s k
      go s (inr k) = h x s (Memᴰ.head refl) k

  pub ordered-filter : (f : A → Bool) (l : List A) → Ordered l → Ordered (filter f l)
  unfolding filter keep
  ordered-filter f [] p = tt
  ordered-filter f (x ∷ l) p = go (f x) (ordered-filter f l p.1)
    where
      go : (b : Bool) → Ordered (filter f l) → Ordered (keep b x (filter f l))
      go true r = (λ s k. p.0 s (mem-filter f l k).1, r)
      go false r = r

pub ordered-map :
    {A C : Type 0} (R : A → A → Type 0) (S : C → C → Type 0) (f : A → C)
    → ((x y : A) → R x y → S (f x) (f y)) → (l : List A) → Ordered R l
    → Ordered S (map f l)
ordered-map R S f h [] p = tt
ordered-map R S f h (x ∷ l) p = (λ s m. let k = mem-map f l m in subst (S (f x)) (sym k.2) (h x k.0 (p.0 k.0 k.1)), ordered-map R S f h l p.1)

pub ordered-upto : (k m : ℕ) → Ordered ◌<◌ (upto k m)
unfolding upto
ordered-upto k zero = tt
ordered-upto k (suc m) = (λ w h. mem-upto (suc k) m h, ordered-upto (suc k) m)

module _ {A : Type 0} (R : A → A → Type 0) (asym : (a b : A) → R a b → ¬ R b a) where
  -- a member of an ordered list other than its head is in the tail
  in_tail :
      (x y : A) (l m : List A) → x ≡ y → ((z : A) → Memᴰ z l → R x z)
      → ((z : A) → Memᴰ z (x ∷ l) → Memᴰ z (y ∷ m)) → (z : A) → Memᴰ z l
      → Memᴰ z m
  in_tail x y l m e o f z h = go (Memᴰ.cases_cons (f z (Memᴰ.tail h)))
    where
      go : (z ≡ y) ⊎ Memᴰ z m → Memᴰ z m
      go (inr k) = k
      go (inl d) = let c = subst (R x) (d ∙ sym e) (o z h) in absurd (asym x x c c)

  pub ordered-unique :
      (l m : List A) → Ordered R l → Ordered R m → ((x : A) → Memᴰ x l → Memᴰ x m)
      → ((x : A) → Memᴰ x m → Memᴰ x l)
      → l ≡ m
  ordered-unique [] [] p q f g = refl
  ordered-unique [] (y ∷ m) p q f g = absurd (Memᴰ.not-nil (g y (Memᴰ.head refl)))
  ordered-unique (x ∷ l) [] p q f g = absurd (Memᴰ.not-nil (f x (Memᴰ.head refl)))
  ordered-unique (x ∷ l) (y ∷ m) p q f g = ap₂ ◌∷◌ heads (ordered-unique l m p.1 q.1 (in_tail x y l m heads p.0 f) (in_tail y x m l (sym heads) q.0 g))
    where
      first : (x ≡ y) ⊎ Memᴰ x m → (y ≡ x) ⊎ Memᴰ y l → x ≡ y
      first (inl e) k = e
      first (inr h) (inl e) = sym e
      first (inr h) (inr k) = absurd (asym x y (p.0 y k) (q.0 x h))

      heads : x ≡ y
      heads = first (Memᴰ.cases_cons (f x (Memᴰ.head refl))) (Memᴰ.cases_cons (g y (Memᴰ.head refl)))
