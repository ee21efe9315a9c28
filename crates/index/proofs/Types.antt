-- What the maker counts by sixteen types, record by record, and the counts by class that it makes of them. Assumes
-- nothing.
use mathlib.Core.Path.{◌≡◌, ◌∙◌, refl, sym, ap, ap₂}
use mathlib.Core.Bool.{Bool, true, false, ◌&&◌}
use mathlib.Core.List.{List, [], ◌∷◌, map}
use Prim.Native.Nat.{ℕ, zero, suc, ◌+◌, ◌*◌, ◌/◌, ◌≤◌, ◌<◌}
use native.Mathlib.Nat.{mul-add, mul-zero, one-mul}
use native.Mathlib.Omega.{arith}
use borrow.Author.Tests.{lt-ltb, ltb-true, eq-eqb, ne_eqb, eqb-true}
use lib.Dec.{eqb, ltb}
use lib.ListN.{get_or, set, replicate}
use Rattle.numbers.specs.Numbers.{upto, count, sum, one_if}
use Rattle.numbers.proofs.Cases.{by-test, same_test}
use Rattle.numbers.proofs.Count.{count-bound, count-more}
use Rattle.numbers.proofs.Sum.{sum_same, sum-zero, sum-add, sum-scale, sum_one}
use Rattle.records.specs.declared.Record.{Record}
use Rattle.records.specs.Records.{record_at, event_kind, class_of}
use Rattle.index.specs.Index.{is_of_class, count_up_to}
use Rattle.index.specs.Upto.{counts_up_to, is_of_types, types_up_to, fold_types}

-- ## Lists of the values of a function

module _ {A : Type 0} where
  pub map-upto-same :
      (f g : ℕ → A) (k m : ℕ) → ((j : ℕ) → k ≤ j → f j ≡ g j) → map f (upto k m) ≡ map g (upto k m)
  unfolding upto
  map-upto-same f g k zero e = refl
  map-upto-same f g k (suc m) e =
      ap₂ (λ (x : A) (l : List A). x ∷ l) (e k (omega arith)) (map-upto-same f g (suc k) m (λ j l. e j (omega arith)))

-- a bound of the values is one of the list, beyond its end too
map-upto-bound : (f : ℕ → ℕ) (n : ℕ) → ((j : ℕ) → f j ≤ n) → (k m i : ℕ) → get_or (map f (upto k m)) i 0 ≤ n
unfolding upto
map-upto-bound f n b k zero i = omega arith
map-upto-bound f n b k (suc m) zero = b k
map-upto-bound f n b k (suc m) (suc i) = map-upto-bound f n b (suc k) m i

module _ (f g : ℕ → ℕ) (at : ℕ) (e : (j : ℕ) → f j + one_if (eqb at j) ≡ g j) where
  elsewhere : (j : ℕ) → ¬ (at ≡ j) → f j ≡ g j
  elsewhere j other =
      let same : f j ≡ f j + one_if false = omega arith in
      same ∙ ap (λ (t : Bool). f j + one_if t) (sym (ne_eqb at j other)) ∙ e j

  -- one more at place i, which has the value of f there
  map-upto-more :
      (k m i : ℕ) → at ≡ k + i → i < m
      → set (map f (upto k m)) i (get_or (map f (upto k m)) i 0 + 1) ≡ map g (upto k m)
  unfolding upto
  map-upto-more k zero i q l = absurd (omega arith)
  map-upto-more k (suc m) zero q l =
      let here : at ≡ k = omega arith in
      ap₂ (λ (x : ℕ) (r : List ℕ). x ∷ r)
      (ap (λ (t : Bool). f k + one_if t) (sym (eq-eqb at k here)) ∙ e k)
      (map-upto-same f g (suc k) m (λ j h. elsewhere j (λ d. omega arith)))
  map-upto-more k (suc m) (suc i) q l =
      ap₂ (λ (x : ℕ) (r : List ℕ). x ∷ r)
      (elsewhere k (λ d. omega arith))
      (map-upto-more (suc k) m i (omega arith) (omega arith))

-- ## Counts by sixteen types

pub types-start : (block : List ℕ) → replicate 16 0 ≡ types_up_to block 0
unfolding types_up_to upto count
types-start block = refl

pub types-bound : (block : List ℕ) (n k : ℕ) → get_or (types_up_to block n) k 0 ≤ n
unfolding types_up_to
types-bound block n k =
    map-upto-bound (λ b. count (is_of_types block b) n) n (λ b. count-bound (is_of_types block b) n) 0 16 k

module _ (block : List ℕ) (i : ℕ) where
  abbrev here : Record
  here = record_at block i

  -- what record i adds, by whether it is an event
  types_more :
      (event : Bool) → eqb here.kind event_kind ≡ event → (b : ℕ)
      → count (is_of_types block b) i + one_if (event && eqb (here.event_type / 16) b) ≡ count (is_of_types block b) (i + 1)
  unfolding is_of_types
  types_more event e b =
      ap (λ (t : Bool). count (is_of_types block b) i + one_if (t && eqb (here.event_type / 16) b)) (sym e)
      ∙ sym (count-more (is_of_types block b) i)

  pub types-gap : ¬ (here.kind ≡ event_kind) → types_up_to block i ≡ types_up_to block (i + 1)
  unfolding types_up_to
  types-gap other =
      map-upto-same (λ b. count (is_of_types block b) i) (λ b. count (is_of_types block b) (i + 1)) 0 16
      (λ b l. same (count (is_of_types block b) i) ∙ types_more false (ne_eqb here.kind event_kind other) b)
    where
      same : (x : ℕ) → x ≡ x + one_if false
      same x = omega arith

  pub types-event :
      here.kind ≡ event_kind → (k : ℕ) → k ≡ here.event_type / 16 → k < 16
      → set (types_up_to block i) k (get_or (types_up_to block i) k 0 + 1) ≡ types_up_to block (i + 1)
  unfolding types_up_to
  types-event event k e l =
      map-upto-more (λ b. count (is_of_types block b) i) (λ b. count (is_of_types block b) (i + 1)) (here.event_type / 16)
      (types_more true (eq-eqb here.kind event_kind event))
      0 16 k (omega arith) l

-- ## Counts by class

-- a count is the sum of the counts of its parts
count-parts :
    (test : ℕ → Bool) (part : ℕ → ℕ → Bool) (w : ℕ → ℕ) (m n : ℕ)
    → ((i : ℕ) → i < n → one_if (test i) ≡ sum (λ b. w b * one_if (part b i)) m)
    → count test n ≡ sum (λ b. w b * count (part b) n) m
unfolding count
count-parts test part w m zero e = sym (sum-zero (λ b. w b * 0) m (λ b l. mul-zero (w b)))
count-parts test part w m (suc n) e =
    ap₂ ◌+◌ (count-parts test part w m n (λ i l. e i (omega arith))) (e n (omega arith))
    ∙ sym (sum-add (λ b. w b * count (part b) n) (λ b. w b * one_if (part b n)) m)
    ∙ sum_same (λ b. w b * count (part b) n + w b * one_if (part b n)) (λ b. w b * (count (part b) n + one_if (part b n))) m
    (λ b l. sym (mul-add (w b) (count (part b) n) (one_if (part b n))))

-- the one part that x is of
sum-pick : (w : ℕ → ℕ) (x n : ℕ) → x < n → sum (λ b. w b * one_if (eqb x b)) n ≡ w x
sum-pick w x n l =
    sum_same (λ b. w b * one_if (eqb x b)) (λ b. one_if (eqb x b) * w x) n (λ b h. turned b)
    ∙ sum-scale (λ b. one_if (eqb x b)) (w x) n
    ∙ ap (λ (s : ℕ). s * w x) (sum_one x n l)
    ∙ one-mul (w x)
  where
    turned : (b : ℕ) → w b * one_if (eqb x b) ≡ one_if (eqb x b) * w x
    turned b =
        by-test (eqb x b)
        (λ t.
        let q : w b ≡ w x = ap w (sym (eqb-true x b t)) in
        let one : w b * one_if true ≡ one_if true * w x = omega arith in
        ap (λ (s : Bool). w b * one_if s) t ∙ one ∙ ap (λ (s : Bool). one_if s * w x) (sym t))
        (λ f.
        let none : w b * one_if false ≡ one_if false * w x = omega arith in
        ap (λ (s : Bool). w b * one_if s) f ∙ none ∙ ap (λ (s : Bool). one_if s * w x) (sym f))

-- sixteen types have one class: that of the first of them
lowest : (t k : ℕ) → ltb t (16 * k) ≡ ltb (16 * (t / 16)) (16 * k)
lowest t k =
    same_test (ltb t (16 * k)) (ltb (16 * (t / 16)) (16 * k))
    (λ e. let l = ltb-true t (16 * k) e in lt-ltb (16 * (t / 16)) (16 * k) (omega arith))
    (λ e. let l = ltb-true (16 * (t / 16)) (16 * k) e in lt-ltb t (16 * k) (omega arith))

class-lowest : (t : ℕ) → class_of t ≡ class_of (16 * (t / 16))
unfolding class_of
class-lowest t = λ j.
    elim (lowest t 1 j) [
      | true ↦ 0
      | false ↦ elim (lowest t 2 j) [
        | true ↦ 1
        | false ↦ elim (lowest t 4 j) [
          | true ↦ 2
          | false ↦ elim (lowest t 6 j) [
            | true ↦ 3
            | false ↦ elim (lowest t 8 j) [
              | true ↦ 4
              | false ↦ 5
            ]
          ]
        ]
      ]
    ]

-- 1 where the b-th sixteen types are of the class
abbrev share : ℕ → ℕ → ℕ
share class b = one_if (eqb (class_of (16 * b)) class)

class-parts :
    (event : Bool) (t class : ℕ) → t < 256
    → one_if (event && eqb (class_of t) class) ≡ sum (λ b. share class b * one_if (event && eqb (t / 16) b)) 16
class-parts true t class l =
    ap (λ (x : ℕ). one_if (eqb x class)) (class-lowest t) ∙ sym (sum-pick (share class) (t / 16) 16 (omega arith))
class-parts false t class l = sym (sum-zero (λ b. share class b * 0) 16 (λ b h. mul-zero (share class b)))

module _ (block : List ℕ) (n : ℕ) (small : (j : ℕ) → j < n → (record_at block j).event_type < 256) where
  class-count : (class : ℕ) → count_up_to block n class ≡ sum (λ b. share class b * count (is_of_types block b) n) 16
  unfolding count_up_to is_of_class is_of_types
  class-count class =
      count-parts (is_of_class block class) (is_of_types block) (share class) 16 n
      (λ i l. class-parts (eqb (record_at block i).kind event_kind) (record_at block i).event_type class (small i l))

  -- the counts by sixteen types, put together, are the counts by class
  pub fold-types : fold_types (types_up_to block n) ≡ counts_up_to block n
  unfolding fold_types types_up_to counts_up_to upto sum class_of
  fold-types =
      let c : ℕ → ℕ = λ b. count (is_of_types block b) n in
      let a0 : c 0 ≡ count_up_to block n 0 = omega (arith, class-count 0) in
      let a1 : c 1 ≡ count_up_to block n 1 = omega (arith, class-count 1) in
      let a2 : c 2 + c 3 ≡ count_up_to block n 2 = omega (arith, class-count 2) in
      let a3 : c 4 + c 5 ≡ count_up_to block n 3 = omega (arith, class-count 3) in
      let a4 : c 6 + c 7 ≡ count_up_to block n 4 = omega (arith, class-count 4) in
      let a5 : c 8 + c 9 + c 10 + c 11 + c 12 + c 13 + c 14 + c 15 ≡ count_up_to block n 5 = omega (arith, class-count 5) in
      λ j. a0 j ∷ a1 j ∷ a2 j ∷ a3 j ∷ a4 j ∷ a5 j ∷ []
