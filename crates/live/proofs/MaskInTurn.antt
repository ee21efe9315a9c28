-- The variables of a mask in turn, the lowest first: one more, none left, and how many there are. Assumes nothing.
use mathlib.Core.Path.{◌≡◌, refl, sym, ap, subst, ◌∙◌}
use mathlib.Core.Bool.{Bool, true, false, not, ◌&&◌, and-false}
use mathlib.Core.List.Memᴰ
use mathlib.Core.List.{List, [], ◌∷◌, ◌++◌, map, Memᴰ}
use mathlib.Core.Logic.{◌⊎◌, inl, inr}
use Prim.Native.Nat.{ℕ, zero, suc, ◌+◌, ◌-◌, ◌^◌, ◌≤◌, ◌<◌}
use native.Mathlib.Nat.{le_refl}
use native.Mathlib.Omega.{arith}
use borrow.Author.Tests.{eq-eqb, ne_eqb}
use lib.Dec.{eqb}
use lib.ListN.{length, length-map}
use Rattle.numbers.specs.Numbers.{upto}
use Rattle.numbers.specs.Bits.{bit, IsLowestBit}
use Rattle.numbers.proofs.Cases.{by_order}
use Rattle.numbers.proofs.Bits.{bit-zero, bit_high}
use Rattle.numbers.proofs.Upto.{length-upto}
use Rattle.automaton.specs.Filtering.{keep, filter}
use Rattle.automaton.proofs.Membership.{clash}
use Rattle.firing.proofs.Joins.{less-bit}
use Rattle.live.proofs.MapFilter.{filter_same, filter_none, map-append}

-- ## Of the numbers from k on

upto_from : (k m : ℕ) {w : ℕ} → Memᴰ w (upto k m) → k ≤ w
unfolding upto
upto_from k zero h = absurd (Memᴰ.not-nil h)
upto_from k (suc m) {w} h = go (λ i. upto_from (suc k) m i) (Memᴰ.cases_cons h)
  where
    go : (Memᴰ w (upto (suc k) m) → suc k ≤ w) → (w ≡ k) ⊎ Memᴰ w (upto (suc k) m) → k ≤ w
    go ih (inl e) = omega arith
    go ih (inr i) = omega (arith, ih i)

module _ {A : Type 0} where
  keep-front : (t : Bool) (a : A) (l : List A) → keep t a l ≡ keep t a [] ++ l
  unfolding keep
  keep-front true a l = refl
  keep-front false a l = refl

  length-filter : (test : A → Bool) (l : List A) → length (filter test l) ≤ length l
  unfolding filter keep
  length-filter test [] = omega arith
  length-filter test (a ∷ l) = go (test a) (length-filter test l)
    where
      go : (t : Bool) → length (filter test l) ≤ length l → length (keep t a (filter test l)) ≤ suc (length l)
      go true h = omega arith
      go false h = omega arith

module _ {A B : Type 0} (make : A → B) where
  map-keep : (t : Bool) (a : A) → map make (keep t a []) ≡ keep t (make a) []
  unfolding keep
  map-keep true a = refl
  map-keep false a = refl

-- none below v passes f, none up to v passes g, and behind v they are the same
module _ (f g : ℕ → Bool) (v : ℕ) (none : (u : ℕ) → u < v → f u ≡ false) (gone : (u : ℕ) → u ≤ v → g u ≡ false)
    (same : (u : ℕ) → v < u → f u ≡ g u) where
  lowest-here : (m : ℕ) → filter f (upto v (suc m)) ≡ keep (f v) v [] ++ filter g (upto v (suc m))
  unfolding upto filter keep
  lowest-here m =
      keep-front (f v) v (filter f (upto (suc v) m))
      ∙ ap (λ (l : List ℕ). keep (f v) v [] ++ l)
      (filter_same f g (upto (suc v) m) (λ u h. same u (upto_from (suc v) m h))
      ∙ sym (ap (λ (t : Bool). keep t v (filter g (upto (suc v) m))) (gone v (le_refl v))))

  filter-lowest : (m k : ℕ) → k ≤ v → v < k + m → filter f (upto k m) ≡ keep (f v) v [] ++ filter g (upto k m)
  unfolding upto filter keep
  filter-lowest zero k a b = absurd (omega arith)
  filter-lowest (suc m) k a b =
      let ih = filter-lowest m (suc k) in
      by_order k v
      (λ l.
      ap (λ (t : Bool). keep t k (filter f (upto (suc k) m))) (none k l)
      ∙ ih l (omega arith)
      ∙ ap (λ (l : List ℕ). keep (f v) v [] ++ l) (sym (ap (λ (t : Bool). keep t k (filter g (upto (suc k) m))) (gone k a))))
      (λ l.
      let e : v ≡ k = omega arith in
      subst (λ (j : ℕ). filter f (upto j (suc m)) ≡ keep (f v) v [] ++ filter g (upto j (suc m))) e (lowest-here m))

-- ## Of a mask

-- a mask of n bits
pub bit_below : (rest n v : ℕ) → rest < 2 ^ n → bit rest v ≡ true → v < n
bit_below rest n v h e = by_order v n (λ l. l) (λ l. clash e (bit_high rest n v h l))

module _ {A : Type 0} (test : ℕ → Bool) (make : ℕ → A) (n : ℕ) where
  -- what is made of the variables of a mask that pass
  abbrev pub made_of : ℕ → List A
  made_of rest = map make (filter (λ v. bit rest v && test v) (upto 0 n))

  pub made_none : made_of 0 ≡ []
  made_none =
      ap (map make) (filter_none (λ v. bit 0 v && test v) (upto 0 n) (λ v m. ap (λ (t : Bool). t && test v) (bit-zero v)))

  pub length-made : (rest : ℕ) → length (made_of rest) ≤ n
  length-made rest =
      let f : ℕ → Bool = λ v. bit rest v && test v in
      omega (arith, length-map (filter f (upto 0 n)) make, length-filter f (upto 0 n), length-upto 0 n)

  module _ (rest v bits : ℕ) (small : rest < 2 ^ n) (low : IsLowestBit bits rest v) where
    less : (u : ℕ) → bit (rest - 2 ^ v) u ≡ not (eqb v u) && bit rest u
    less u = less-bit rest n v u small low.here

    gone : (u : ℕ) → u ≤ v → bit (rest - 2 ^ v) u ≡ false
    gone u l =
        less u
        ∙ by_order u v
        (λ m. ap (λ (t : Bool). not (eqb v u) && t) (low.none u m) ∙ and-false (not (eqb v u)))
        (λ m. let e : v ≡ u = omega arith in ap (λ (t : Bool). not t && bit rest u) (eq-eqb v u e))

    kept : (u : ℕ) → v < u → bit (rest - 2 ^ v) u ≡ bit rest u
    kept u l = less u ∙ ap (λ (t : Bool). not t && bit rest u) (ne_eqb v u (λ e. omega arith))

    -- the lowest, then those that are left
    pub made-lowest : made_of rest ≡ keep (test v) (make v) [] ++ made_of (rest - 2 ^ v)
    made-lowest =
        let f : ℕ → Bool = λ u. bit rest u && test u in
        let g : ℕ → Bool = λ u. bit (rest - 2 ^ v) u && test u in
        let inside : v < n = bit_below rest n v small low.here in
        ap (map make)
        (filter-lowest f g v
        (λ u l. ap (λ (t : Bool). t && test u) (low.none u l))
        (λ u l. ap (λ (t : Bool). t && test u) (gone u l))
        (λ u l. ap (λ (t : Bool). t && test u) (sym (kept u l)))
        n 0 (omega arith) (omega arith))
        ∙ map-append make (keep (f v) v []) (filter g (upto 0 n))
        ∙ ap (λ (l : List A). l ++ made_of (rest - 2 ^ v))
        (map-keep make (f v) v ∙ ap (λ (t : Bool). keep (t && test v) (make v) []) low.here)
