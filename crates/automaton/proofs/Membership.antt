-- Tests, and membership in lists that are filtered, mapped, collected and counted up. Assumes nothing.
use Rattle.std.proofs.Common.{◌≡◌, refl, sym, ap, subst, ◌∙◌, ◌⊎◌, inl, inr, Bool, true, false, ◌&&◌, List, [], ◌∷◌}
use Rattle.std.proofs.Common.{map, ℕ, zero, suc, ◌+◌, ◌≤◌, ◌<◌, arith}
use mathlib.Core.Bool.{false≢true}
use mathlib.Core.List.Memᴰ
use mathlib.Core.List.{Memᴰ}
use native.Mathlib.Decide.{ℕ_discrete}
use Rattle.numbers.specs.Numbers.{upto}
use Rattle.automaton.specs.Filtering.{all, keep, filter, collect}

pub both : {a b : Bool} → a && b ≡ true → (a ≡ true) × (b ≡ true)
both {a} {b} h = go a b h
  where
    go : (a b : Bool) → a && b ≡ true → (a ≡ true) × (b ≡ true)
    go true b h = (refl, h)
    go false b h = absurd (false≢true h)

pub clash : {b : Bool} {X : Type 0} → b ≡ true → b ≡ false → X
clash t f = absurd (false≢true (sym f ∙ t))

pub decide : (b : Bool) → (b ≡ true) ⊎ (b ≡ false)
decide true = inl refl
decide false = inr refl

module _ {A : Type 0} where
  pub all-mem : (f : A → Bool) {a : A} {l : List A} → Memᴰ a l → all f l ≡ true → f a ≡ true
  unfolding all
  all-mem f (Memᴰ.head e) h = ap f e ∙ (both h).0
  all-mem f (Memᴰ.tail {x} m) h = all-mem f m (both {a = f x} h).1

  pub mem-keep : (b : Bool) {a x : A} {l : List A} → Memᴰ a (keep b x l) → ((b ≡ true) × (a ≡ x)) ⊎ Memᴰ a l
  unfolding keep
  mem-keep true (Memᴰ.head e) = inl (refl, e)
  mem-keep true (Memᴰ.tail m) = inr m
  mem-keep false m = inr m

  pub keep-head : {b : Bool} {a x : A} (l : List A) → b ≡ true → a ≡ x → Memᴰ a (keep b x l)
  unfolding keep
  keep-head {a} {x} l h e = subst (λ t. Memᴰ a (keep t x l)) (sym h) (Memᴰ.head e)

  pub keep-tail : (b : Bool) (x : A) {a : A} {l : List A} → Memᴰ a l → Memᴰ a (keep b x l)
  unfolding keep
  keep-tail true x m = Memᴰ.tail m
  keep-tail false x m = m

  pub mem-filter : (f : A → Bool) (l : List A) {a : A} → Memᴰ a (filter f l) → (f a ≡ true) × Memᴰ a l
  unfolding filter
  mem-filter f [] m = absurd (Memᴰ.not-nil m)
  mem-filter f (x ∷ l) {a} m = go (λ k. mem-filter f l k) (mem-keep (f x) m)
    where
      go :
          (Memᴰ a (filter f l) → (f a ≡ true) × Memᴰ a l)
          → ((f x ≡ true) × (a ≡ x)) ⊎ Memᴰ a (filter f l)
          → (f a ≡ true) × Memᴰ a (x ∷ l)
      go ih (inl h) = (ap f h.1 ∙ h.0, Memᴰ.head h.1)
      go ih (inr k) = let h = ih k in (h.0, Memᴰ.tail h.1)

  pub filter-mem : (f : A → Bool) {a : A} {l : List A} → Memᴰ a l → f a ≡ true → Memᴰ a (filter f l)
  unfolding filter
  filter-mem f (Memᴰ.head {xs} e) h = keep-head (filter f xs) (ap f (sym e) ∙ h) e
  filter-mem f (Memᴰ.tail {x} m) h = keep-tail (f x) x (filter-mem f m h)

module _ {A B : Type 0} where
  pub mem-map : (f : A → B) (l : List A) {b : B} → Memᴰ b (map f l) → (a : A) × Memᴰ a l × (b ≡ f a)
  mem-map f [] m = absurd (Memᴰ.not-nil m)
  mem-map f (x ∷ l) (Memᴰ.head e) = (x, Memᴰ.head refl, e)
  mem-map f (x ∷ l) (Memᴰ.tail m) = let h = mem-map f l m in (h.0, Memᴰ.tail h.1, h.2)

  pub map-mem : (f : A → B) {a : A} {l : List A} → Memᴰ a l → Memᴰ (f a) (map f l)
  map-mem f (Memᴰ.head e) = Memᴰ.head (ap f e)
  map-mem f (Memᴰ.tail m) = Memᴰ.tail (map-mem f m)

  pub mem-collect :
      (f : A → List B) (l : List A) {b : B} → Memᴰ b (collect f l) → (a : A) × Memᴰ a l × Memᴰ b (f a)
  unfolding collect
  mem-collect f [] m = absurd (Memᴰ.not-nil m)
  mem-collect f (x ∷ l) {b} m = go (λ k. mem-collect f l k) (Memᴰ.append_cases (f x) m)
    where
      go :
          (Memᴰ b (collect f l) → (a : A) × Memᴰ a l × Memᴰ b (f a))
          → Memᴰ b (f x) ⊎ Memᴰ b (collect f l)
          → (a : A) × Memᴰ a (x ∷ l) × Memᴰ b (f a)
      go ih (inl h) = (x, Memᴰ.head refl, h)
      go ih (inr h) = let r = ih h in (r.0, Memᴰ.tail r.1, r.2)

  pub collect-mem :
      (f : A → List B) {a : A} {b : B} {l : List A} → Memᴰ a l → Memᴰ b (f a) → Memᴰ b (collect f l)
  unfolding collect
  collect-mem f {b} (Memᴰ.head {xs} e) h = Memᴰ.append_left (collect f xs) (subst (λ y. Memᴰ b (f y)) e h)
  collect-mem f (Memᴰ.tail {x} m) h = Memᴰ.append_right (f x) (collect-mem f m h)

pub upto-mem : (k m v : ℕ) → k ≤ v → v < k + m → Memᴰ v (upto k m)
unfolding upto
upto-mem k zero v h g = absurd (omega arith)
upto-mem k (suc m) v h g = go (upto-mem (suc k) m v) (ℕ_discrete v k)
  where
    go : (suc k ≤ v → v < suc k + m → Memᴰ v (upto (suc k) m)) → Dec (v ≡ k) → Memᴰ v (k ∷ upto (suc k) m)
    go ih (yes e) = Memᴰ.head e
    go ih (no n) = Memᴰ.tail (ih (omega arith) (omega arith))

pub mem-upto : (k m : ℕ) {w : ℕ} → Memᴰ w (upto k m) → k ≤ w
unfolding upto
mem-upto k zero h = absurd (Memᴰ.not-nil h)
mem-upto k (suc m) {w} h = go (λ i. mem-upto (suc k) m i) (Memᴰ.cases_cons h)
  where
    go : (Memᴰ w (upto (suc k) m) → suc k ≤ w) → (w ≡ k) ⊎ Memᴰ w (upto (suc k) m) → k ≤ w
    go ih (inl e) = omega arith
    go ih (inr i) = omega (arith, ih i)

pub upto-below : (k m : ℕ) {w : ℕ} → Memᴰ w (upto k m) → w < k + m
unfolding upto
upto-below k zero h = absurd (Memᴰ.not-nil h)
upto-below k (suc m) {w} h = go (λ i. upto-below (suc k) m i) (Memᴰ.cases_cons h)
  where
    go : (Memᴰ w (upto (suc k) m) → w < suc k + m) → (w ≡ k) ⊎ Memᴰ w (upto (suc k) m) → w < k + suc m
    go ih (inl e) = omega arith
    go ih (inr i) = omega (arith, ih i)

-- a test of all numbers below n
module _ (test : ℕ → Bool) where
  all_from : (k n : ℕ) → ((j : ℕ) → k ≤ j → j < k + n → test j ≡ true) → all test (upto k n) ≡ true
  unfolding upto all
  all_from k zero f = refl
  all_from k (suc n) f = rw (f k (omega arith) (omega arith)) (all_from (suc k) n (λ j h g. f j (omega arith) (omega arith)))

  pub all-upto-true : (n : ℕ) → ((j : ℕ) → j < n → test j ≡ true) → all test (upto 0 n) ≡ true
  all-upto-true n f = all_from 0 n (λ j h g. f j (omega arith))
