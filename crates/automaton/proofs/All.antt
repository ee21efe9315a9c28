-- Tests of every entry of a list, and implications between tests. Assumes nothing.
use Rattle.std.proofs.Common.{◌≡◌, refl, sym, ap, ap₂, Bool, true, false, ◌&&◌, true≢false, List, [], ◌∷◌, map, ℕ}
use Rattle.std.proofs.Common.{zero-le, arith}
use mathlib.Core.List.{Memᴰ}
use Rattle.numbers.specs.Numbers.{upto, every}
use Rattle.numbers.proofs.Cases.{same_test}
use Rattle.numbers.proofs.Every.{every_of, every_true}
use Rattle.automaton.specs.Filtering.{implies, all}
use Rattle.automaton.proofs.Membership.{all-mem, upto-mem, all-upto-true}

pub implies-of : (s t : Bool) → (s ≡ true → t ≡ true) → implies s t ≡ true
implies-of true t f = f refl
implies-of false t f = refl

pub implies-yes : (t : Bool) → implies t true ≡ true
implies-yes true = refl
implies-yes false = refl

pub implies_true : (s t : Bool) → implies s t ≡ true → s ≡ true → t ≡ true
implies_true true t e h = e
implies_true false t e h = absurd (true≢false (sym h))

module _ {A : Type 0} where
  pub all_of : (f : A → Bool) (l : List A) → ((a : A) → Memᴰ a l → f a ≡ true) → all f l ≡ true
  unfolding all
  all_of f [] h = refl
  all_of f (a ∷ l) h =
      ap₂ (λ (s t : Bool). s && t) (h a (Memᴰ.head refl)) (all_of f l (λ b m. h b (Memᴰ.tail m)))

  -- tests that agree on the entries
  pub all_same : (f g : A → Bool) (l : List A) → ((a : A) → Memᴰ a l → f a ≡ g a) → all f l ≡ all g l
  unfolding all
  all_same f g [] h = refl
  all_same f g (a ∷ l) h =
      ap₂ (λ (s t : Bool). s && t) (h a (Memᴰ.head refl)) (all_same f g l (λ b m. h b (Memᴰ.tail m)))

module _ {A B : Type 0} where
  pub all_map : (f : B → Bool) (g : A → B) (l : List A) → all f (map g l) ≡ all (λ a. f (g a)) l
  unfolding all
  all_map f g [] = refl
  all_map f g (a ∷ l) = ap (λ (t : Bool). f (g a) && t) (all_map f g l)

-- the numbers below n, as a list and by the test of each
pub all-upto : (f : ℕ → Bool) (n : ℕ) → all f (upto 0 n) ≡ every f n
all-upto f n =
    same_test (all f (upto 0 n)) (every f n)
    (λ e. every_of f n (λ v l. all-mem f (upto-mem 0 n v zero-le (omega arith)) e))
    (λ e. all-upto-true f n (every_true f n e))
