-- The list of n numbers from k on. Assumes nothing.
use Rattle.std.proofs.Common.{◌≡◌, ◌∙◌, refl, sym, ap, List, [], ◌∷◌, ◌++◌, ℕ, zero, suc, ◌+◌, ◌<◌, add-zero, add-suc, suc-add, not-suc-le-zero, le_of_suc-le-suc, length, get_or}
use Rattle.numbers.specs.Numbers.{upto}

pub length-upto : (k n : ℕ) → length (upto k n) ≡ n
unfolding upto
length-upto k zero = refl
length-upto k (suc n) = ap suc (length-upto (suc k) n)

pub upto_snoc : (k n : ℕ) → upto k (suc n) ≡ upto k n ++ ((k + n) ∷ [])
unfolding upto
upto_snoc k zero = rw add-zero
upto_snoc k (suc n) = ap (λ (l : List ℕ). k ∷ l) (upto_snoc (suc k) n ∙ ap (λ (m : ℕ). upto (suc k) n ++ (m ∷ [])) (suc-add k n ∙ sym (add-suc k n)))

pub get_or-upto : (k n i d : ℕ) → i < n → get_or (upto k n) i d ≡ k + i
unfolding upto
get_or-upto k zero i d h = absurd (not-suc-le-zero h)
get_or-upto k (suc n) zero d h = sym (add-zero k)
get_or-upto k (suc n) (suc i) d h = get_or-upto (suc k) n i d (le_of_suc-le-suc h) ∙ suc-add k i ∙ sym (add-suc k i)
