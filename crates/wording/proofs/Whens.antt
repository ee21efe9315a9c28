-- The when lines of the first conditions, one more behind those there are. Assumes nothing.
use mathlib.Core.Path.{◌≡◌, refl, sym, ap, ◌∙◌}
use mathlib.Core.List.{List, [], ◌∷◌, ◌++◌, map, flat_map, append_assoc, append-nil}
use Prim.Native.Nat.{ℕ, suc, ◌+◌}
use native.Mathlib.Nat.{zero-add}
use native.Mathlib.Numerals.{add-one}
use Rattle.numbers.specs.Numbers.{upto}
use Rattle.numbers.specs.Put.{Put}
use Rattle.numbers.proofs.Put.{put-none, put_then}
use Rattle.numbers.proofs.Upto.{upto_snoc}
use Rattle.patterns.specs.declared.Pattern.{Pattern}
use Rattle.patterns.specs.Checked.{condition_at}
use Rattle.form.specs.Form.{When, when_line}
use Rattle.wording.specs.Wording.{when_of}

abbrev pub whens_of : Pattern → ℕ → List When
whens_of p i = map (λ j. when_of (condition_at p j)) (upto 0 i)

pub flat-snoc :
    {A B : Type 0} (f : A → List B) (l : List A) (x : A) → flat_map f (l ++ (x ∷ [])) ≡ flat_map f l ++ f x
unfolding flat_map
flat-snoc f [] x = append-nil (f x)
flat-snoc f (y ∷ l) x = ap (λ t. f y ++ t) (flat-snoc f l x) ∙ sym (append_assoc (f y) (flat_map f l) (f x))

pub map_snoc : {A B : Type 0} (f : A → B) (l : List A) (x : A) → map f (l ++ (x ∷ [])) ≡ map f l ++ (f x ∷ [])
map_snoc f [] x = refl
map_snoc f (y ∷ l) x = ap (λ t. f y ∷ t) (map_snoc f l x)

pub whens-snoc : (p : Pattern) (i : ℕ) → whens_of p (suc i) ≡ whens_of p i ++ (when_of (condition_at p i) ∷ [])
whens-snoc p i =
    let e : upto 0 (suc i) ≡ upto 0 i ++ (i ∷ []) = upto_snoc 0 i ∙ ap (λ (j : ℕ). upto 0 i ++ (j ∷ [])) (zero-add i) in
    ap (λ (l : List ℕ). map (λ j. when_of (condition_at p j)) l) e ∙ map_snoc (λ j. when_of (condition_at p j)) (upto 0 i) i

pub no-whens : (p : Pattern) (text : List ℕ) (at : ℕ) → Put text text at (flat_map when_line (whens_of p 0)) at
unfolding flat_map upto
no-whens p text at = put-none text at

pub one-when-more :
    (p : Pattern) (i : ℕ) (start text more : List ℕ) (at end next : ℕ)
    → Put start text at (flat_map when_line (whens_of p i)) end
    → Put text more end (when_line (when_of (condition_at p i))) next
    → Put start more at (flat_map when_line (whens_of p (i + 1))) next
one-when-more p i start text more at end next a b =
    let e : flat_map when_line (whens_of p (i + 1)) ≡ flat_map when_line (whens_of p i) ++ when_line (when_of (condition_at p i)) =
    ap (λ (j : ℕ). flat_map when_line (whens_of p j)) (add-one i)
    ∙ ap (flat_map when_line) (whens-snoc p i)
    ∙ flat-snoc when_line (whens_of p i) (when_of (condition_at p i)) in
    rw e (put_then a b)

pub all-whens :
    (p : Pattern) (i : ℕ) (start text : List ℕ) (at end : ℕ) → i ≡ p.c
    → Put start text at (flat_map when_line (whens_of p i)) end
    → Put start text at (flat_map when_line (whens_of p p.c)) end
all-whens p i start text at end e a = rw e at a
