-- Two texts cut at the first separator. Assumes nothing.
use mathlib.Core.Path.{◌≡◌, refl, sym}
use mathlib.Core.Logic.{◌⊎◌, inl, inr, ⊎_elim}
use mathlib.Core.List.Memᴰ
use mathlib.Core.List.{List, [], ◌∷◌, ◌++◌, append_assoc, Memᴰ}
use Prim.Native.Nat.{ℕ}
use native.Mathlib.Omega.{arith}
use Rattle.form.specs.Form.{line_feed, space, spaced}

-- two lists of bytes, each up to its first byte of a kind
pub cut-first :
    (Kind : ℕ → Type 0) (a b x y : List ℕ) (s t : ℕ) → ((z : ℕ) → Memᴰ z a → ¬ Kind z)
    → ((z : ℕ) → Memᴰ z b → ¬ Kind z)
    → Kind s
    → Kind t
    → a ++ (s ∷ x) ≡ b ++ (t ∷ y)
    → (a ≡ b) × (s ≡ t) × (x ≡ y)
cut-first K [] [] x y s t na nb ks kt e = (refl, (cc), (cc))
cut-first K [] (v ∷ b) x y s t na nb ks kt e = absurd (nb s (Memᴰ.head (cc)) ks)
cut-first K (u ∷ a) [] x y s t na nb ks kt e = let q : t ≡ u = cc in absurd (na t (Memᴰ.head q) kt)
cut-first K (u ∷ a) (v ∷ b) x y s t na nb ks kt e =
    let r = cut-first K a b x y s t (λ z m. na z (Memᴰ.tail m)) (λ z m. nb z (Memᴰ.tail m)) ks kt (cc) in
    let p : u ≡ v = cc in
    let q : a ≡ b = r.0 in
    ((cc), r.1, r.2)

pub cut-same :
    (sep : ℕ) (a b x y : List ℕ) → ¬ Memᴰ sep a → ¬ Memᴰ sep b → a ++ (sep ∷ x) ≡ b ++ (sep ∷ y)
    → (a ≡ b) × (x ≡ y)
cut-same sep a b x y na nb e =
    let r =
    cut-first (λ (z : ℕ). sep ≡ z) a b x y sep sep (λ z m q. na (Memᴰ.cast q m)) (λ z m q. nb (Memᴰ.cast q m)) refl refl
    e in
    (r.0, r.2)

-- a word: neither space nor line feed in it
pub record Plain (word : List ℕ) : Type 0 where
  pub no-space : ¬ Memᴰ space word
  pub no-feed : ¬ Memᴰ line_feed word

-- each of them is a word
abbrev pub AllPlain : List (List ℕ) → Type 0
AllPlain words = (word : List ℕ) → Memᴰ word words → Plain word

abbrev Separator : ℕ → Type 0
Separator z = (z ≡ space) ⊎ (z ≡ line_feed)

plain-separator : (word : List ℕ) → Plain word → (z : ℕ) → Memᴰ z word → ¬ Separator z
plain-separator word p z m s =
    ⊎_elim (λ (q : z ≡ space). p.no-space (Memᴰ.cast (sym q) m))
    (λ (q : z ≡ line_feed). p.no-feed (Memᴰ.cast (sym q) m))
    s

-- what stands behind a word begins with a separator
behind-word :
    (words : List (List ℕ)) (x : List ℕ)
    → (s : ℕ) × (rest : List ℕ) × Separator s × (spaced words ++ (line_feed ∷ x) ≡ s ∷ rest)
unfolding spaced
behind-word [] x = (line_feed, x, inr refl, refl)
behind-word (word ∷ words) x = (space, (word ++ spaced words) ++ (line_feed ∷ x), inl refl, refl)

-- words and what stands behind their line are determined by the bytes
pub words_same :
    (a b : List (List ℕ)) (x y : List ℕ) → AllPlain a → AllPlain b
    → spaced a ++ (line_feed ∷ x) ≡ spaced b ++ (line_feed ∷ y)
    → (a ≡ b) × (x ≡ y)
unfolding spaced
words_same [] [] x y pa pb e = (refl, (cc))
words_same [] (v ∷ b) x y pa pb e = let z : line_feed ≡ space = cc in absurd (omega arith)
words_same (u ∷ a) [] x y pa pb e = let z : space ≡ line_feed = cc in absurd (omega arith)
words_same (u ∷ a) (v ∷ b) x y pa pb e =
    let p = behind-word a x in
    let q = behind-word b y in
    let pe = p.3 in
    let qe = q.3 in
    let l = append_assoc u (spaced a) (line_feed ∷ x) in
    let m = append_assoc v (spaced b) (line_feed ∷ y) in
    let h : u ++ (spaced a ++ (line_feed ∷ x)) ≡ v ++ (spaced b ++ (line_feed ∷ y)) = cc in
    let h' : u ++ (p.0 ∷ p.1) ≡ v ++ (q.0 ∷ q.1) = cc in
    let r =
    cut-first Separator u v p.1 q.1 p.0 q.0 (plain-separator u (pa u (Memᴰ.head refl)))
    (plain-separator v (pb v (Memᴰ.head refl)))
    p.2
    q.2
    h' in
    let r1 = r.1 in
    let r2 = r.2 in
    let g : spaced a ++ (line_feed ∷ x) ≡ spaced b ++ (line_feed ∷ y) = cc in
    let i = words_same a b x y (λ w m. pa w (Memᴰ.tail m)) (λ w m. pb w (Memᴰ.tail m)) g in
    let r0 = r.0 in
    let i0 = i.0 in
    ((cc), i.1)
