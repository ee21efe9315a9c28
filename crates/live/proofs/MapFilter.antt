-- Lists that are mapped, filtered and collected, entry by entry; and those whose first entries are the ones that pass.
-- Assumes nothing.
use mathlib.Core.Path.{◌≡◌, refl, sym, ap, ◌∙◌}
use mathlib.Core.Bool.{Bool, true, false, not, ◌||◌, true≢false}
use mathlib.Core.List.{List, [], ◌∷◌, ◌++◌, map, append-nil, Memᴰ}
use Prim.Native.Nat.{ℕ, zero, suc, ◌+◌, ◌-◌, ◌≤◌, ◌<◌}
use native.Mathlib.Nat.{add-zero, add-suc, le_of_suc-le-suc, not-suc-le-zero}
use native.Mathlib.Omega.{arith}
use lib.ListN.{length, take, drop, get_or}
use lib.Seq.{take-nil, drop-nil}
use Rattle.numbers.specs.Numbers.{upto}
use Rattle.numbers.proofs.Cases.{by-test}
use Rattle.numbers.proofs.Upto.{upto_snoc}
use Rattle.automaton.specs.Filtering.{keep, filter, collect}
use Rattle.automaton.proofs.Ordered.{Ordered}
use Rattle.rule.specs.Computed.{only, or_else, any}

module _ {A : Type 0} where
  pub filter-append : (f : A → Bool) (l m : List A) → filter f (l ++ m) ≡ filter f l ++ filter f m
  unfolding filter keep
  filter-append f [] m = refl
  filter-append f (a ∷ l) m = go (f a) (filter-append f l m)
    where
      go : (t : Bool) {k : List A} → k ≡ filter f l ++ filter f m → keep t a k ≡ keep t a (filter f l) ++ filter f m
      go true e = ap (λ (k : List A). a ∷ k) e
      go false e = e

  pub get_or-mem : (l : List A) (k : ℕ) (d : A) → k < length l → Memᴰ (get_or l k d) l
  get_or-mem [] k d h = absurd (not-suc-le-zero h)
  get_or-mem (x ∷ l) zero d h = Memᴰ.head refl
  get_or-mem (x ∷ l) (suc k) d h = Memᴰ.tail (get_or-mem l k d (le_of_suc-le-suc h))

  pub filter_same : (f g : A → Bool) (l : List A) → ((a : A) → Memᴰ a l → f a ≡ g a) → filter f l ≡ filter g l
  unfolding filter
  filter_same f g [] h = refl
  filter_same f g (a ∷ l) h = λ i. keep (h a (Memᴰ.head refl) i) a (filter_same f g l (λ b m. h b (Memᴰ.tail m)) i)

  pub any_same : (f g : A → Bool) (l : List A) → ((a : A) → Memᴰ a l → f a ≡ g a) → any f l ≡ any g l
  unfolding any
  any_same f g [] h = refl
  any_same f g (a ∷ l) h = λ i. h a (Memᴰ.head refl) i || any_same f g l (λ b m. h b (Memᴰ.tail m)) i

  pub filter_none : (f : A → Bool) (l : List A) → ((a : A) → Memᴰ a l → f a ≡ false) → filter f l ≡ []
  unfolding filter keep
  filter_none f [] h = refl
  filter_none f (a ∷ l) h = ap (λ (t : Bool). keep t a (filter f l)) (h a (Memᴰ.head refl)) ∙ filter_none f l (λ b m. h b (Memᴰ.tail m))

  filter-all : (f : A → Bool) (l : List A) → ((a : A) → Memᴰ a l → f a ≡ true) → filter f l ≡ l
  unfolding filter keep
  filter-all f [] h = refl
  filter-all f (a ∷ l) h = ap (λ (t : Bool). keep t a (filter f l)) (h a (Memᴰ.head refl)) ∙ ap (λ (m : List A). a ∷ m) (filter-all f l (λ b m. h b (Memᴰ.tail m)))

  -- where one that passes has only such before it, those that pass stand in front
  module _ (f : A → Bool) where
    abbrev Later : A → A → Type 0
    Later a b = f b ≡ true → f a ≡ true

    behind :
        (x : A) (l : List A) → ((y : A) → Memᴰ y l → Later x y) → f x ≡ false → (y : A) → Memᴰ y l
        → f y ≡ false
    behind x l h e y m = by-test (f y) (λ t. absurd (true≢false (sym (h y m t) ∙ e))) (λ t. t)

    pub front-take :
        (l : List A) (m : ℕ) (d : A) → Ordered Later l → m ≤ length l → ((k : ℕ) → k < m → f (get_or l k d) ≡ true)
        → (m < length l → f (get_or l m d) ≡ false)
        → filter f l ≡ take m l
    unfolding filter keep
    front-take [] m d o h g s = sym (take-nil m)
    front-take (x ∷ l) zero d o h g s =
        let e = s (omega arith) in
        ap (λ (t : Bool). keep t x (filter f l)) e ∙ filter_none f l (behind x l o.0 e)
    front-take (x ∷ l) (suc m) d o h g s =
        ap (λ (t : Bool). keep t x (filter f l)) (g 0 (omega arith))
        ∙ ap (λ (r : List A). x ∷ r) (front-take l m d o.1 (le_of_suc-le-suc h) (λ k q. g (suc k) (omega arith)) (λ q. s (omega arith)))

    pub front-drop :
        (l : List A) (m : ℕ) (d : A) → Ordered Later l → m ≤ length l → ((k : ℕ) → k < m → f (get_or l k d) ≡ true)
        → (m < length l → f (get_or l m d) ≡ false)
        → filter (λ a. not (f a)) l ≡ drop m l
    unfolding filter keep
    front-drop [] m d o h g s = sym (drop-nil m)
    front-drop (x ∷ l) zero d o h g s =
        let e = s (omega arith) in
        ap (λ (t : Bool). keep (not t) x (filter (λ a. not (f a)) l)) e
        ∙ ap (λ (r : List A). x ∷ r) (filter-all (λ a. not (f a)) l (λ y m. ap not (behind x l o.0 e y m)))
    front-drop (x ∷ l) (suc m) d o h g s =
        ap (λ (t : Bool). keep (not t) x (filter (λ a. not (f a)) l)) (g 0 (omega arith))
        ∙ front-drop l m d o.1 (le_of_suc-le-suc h) (λ k q. g (suc k) (omega arith)) (λ q. s (omega arith))

-- where none behind the first n passes
pub filter-upto :
    (f : ℕ → Bool) (n m : ℕ) → n ≤ m → ((v : ℕ) → n ≤ v → f v ≡ false) → filter f (upto 0 m) ≡ filter f (upto 0 n)
unfolding filter keep
filter-upto f n m h g =
    let e : n + (m - n) ≡ m = omega arith in
    ap (λ (k : ℕ). filter f (upto 0 k)) (sym e) ∙ go (m - n)
  where
    go : (d : ℕ) → filter f (upto 0 (n + d)) ≡ filter f (upto 0 n)
    go zero = ap (λ (k : ℕ). filter f (upto 0 k)) (add-zero n)
    go (suc d) =
        ap (λ (k : ℕ). filter f (upto 0 k)) (add-suc n d)
        ∙ ap (filter f) (upto_snoc 0 (n + d))
        ∙ filter-append f (upto 0 (n + d)) ((0 + (n + d)) ∷ [])
        ∙ ap (λ (t : Bool). filter f (upto 0 (n + d)) ++ keep t (0 + (n + d)) []) (g (0 + (n + d)) (omega arith))
        ∙ append-nil (filter f (upto 0 (n + d)))
        ∙ go d

module _ {A B : Type 0} (f : A → B) where
  pub map-append : (l m : List A) → map f (l ++ m) ≡ map f l ++ map f m
  map-append [] m = refl
  map-append (a ∷ l) m = ap (λ (k : List B). f a ∷ k) (map-append l m)

  pub map_same : (g : A → B) (l : List A) → ((a : A) → Memᴰ a l → f a ≡ g a) → map f l ≡ map g l
  map_same g [] h = refl
  map_same g (a ∷ l) h = λ i. h a (Memᴰ.head refl) i ∷ map_same g l (λ b m. h b (Memᴰ.tail m)) i

  pub map-filter : (t : B → Bool) (l : List A) → filter t (map f l) ≡ map f (filter (λ a. t (f a)) l)
  unfolding filter keep
  map-filter t [] = refl
  map-filter t (a ∷ l) = go (t (f a)) (map-filter t l)
    where
      go :
          (s : Bool) {r : List B} → r ≡ map f (filter (λ a. t (f a)) l)
          → keep s (f a) r ≡ map f (keep s a (filter (λ a. t (f a)) l))
      go true e = ap (λ (m : List B). f a ∷ m) e
      go false e = e

  pub map-take : (m : ℕ) (l : List A) → take m (map f l) ≡ map f (take m l)
  map-take zero l = refl
  map-take (suc m) [] = refl
  map-take (suc m) (a ∷ l) = ap (λ (r : List B). f a ∷ r) (map-take m l)

  pub map-drop : (m : ℕ) (l : List A) → drop m (map f l) ≡ map f (drop m l)
  map-drop zero l = refl
  map-drop (suc m) [] = refl
  map-drop (suc m) (a ∷ l) = map-drop m l

  pub get_d_map : (l : List A) (k : ℕ) (d : A) (e : B) → k < length l → get_or (map f l) k e ≡ f (get_or l k d)
  get_d_map [] k d e h = absurd (not-suc-le-zero h)
  get_d_map (a ∷ l) zero d e h = refl
  get_d_map (a ∷ l) (suc k) d e h = get_d_map l k d e (le_of_suc-le-suc h)

  pub map-collect : (g : A → List A) (l : List A) → collect (λ a. map f (g a)) l ≡ map f (collect g l)
  unfolding collect
  map-collect g [] = refl
  map-collect g (a ∷ l) = ap (λ (r : List B). map f (g a) ++ r) (map-collect g l) ∙ sym (map-append (g a) (collect g l))

  pub map-or-else : (a : A) (l : List A) → or_else (f a) (map f l) ≡ map f (or_else a l)
  unfolding or_else
  map-or-else a [] = refl
  map-or-else a (b ∷ l) = refl

  pub any-map : (t : B → Bool) (l : List A) → any t (map f l) ≡ any (λ a. t (f a)) l
  unfolding any
  any-map t [] = refl
  any-map t (a ∷ l) = ap (λ (s : Bool). t (f a) || s) (any-map t l)

-- what an entry gives where the flag says so
pub collect-only :
    {A C : Type 0} (t : A → Bool) (g : A → List C) (l : List A)
    → collect (λ a. only (t a) (g a)) l ≡ collect g (filter t l)
unfolding collect only filter keep
collect-only t g [] = refl
collect-only {C = C} t g (a ∷ l) = go (t a) (collect-only t g l)
  where
    go : (s : Bool) {r : List C} → r ≡ collect g (filter t l) → only s (g a) ++ r ≡ collect g (keep s a (filter t l))
    go true e = ap (λ (m : List C). g a ++ m) e
    go false e = e
