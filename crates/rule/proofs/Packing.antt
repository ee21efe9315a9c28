-- How many numbers a reading packs to; the packed numbers give the report back, so different reports have different
-- numbers. Assumes nothing.
use mathlib.Core.Path.{◌≡◌, refl, sym, ap, ap₂, ◌∙◌}
use mathlib.Core.Logic.{◌⊎◌, inl, inr}
use mathlib.Core.List.{List, [], ◌∷◌, ◌++◌, append_assoc, head-eq_of_cons-eq, tail-eq_of_cons-eq, nil≢cons, cons≢nil}
use mathlib.Core.List.Memᴰ
use mathlib.Core.List.{Memᴰ}
use Prim.Native.Nat.{ℕ, zero, suc, ◌^◌, ◌≤◌, ◌<◌}
use native.Mathlib.Omega.{arith}
use lib.ListN.{length, replicate, take, drop, length-append}
use lib.Seq.{take_at, drop_at}
use borrow.Author.Tests.{ne_eqb}
use Rattle.rule.specs.Rule.{Binding, Reading, Line, packed, pack_bindings, pack}
use Rattle.rule.specs.Promises.{most_bindings}
use Rattle.rule.specs.Unpack.{binding_in, bindings_in, mark_in, count_in, unpack_lines, unpack}

-- ## How long

-- lists of one length in front are equal, and so is what follows
pub append-split : {A : Type 0} (a b x y : List A) → length a ≡ length b → a ++ x ≡ b ++ y → (a ≡ b) × (x ≡ y)
append-split [] [] x y n e = (refl, e)
append-split [] (b ∷ bs) x y n e = absurd (omega arith)
append-split (a ∷ s) [] x y n e = absurd (omega arith)
append-split (a ∷ s) (b ∷ t) x y n e = let h = append-split s t x y (omega arith) (tail-eq_of_cons-eq e) in (ap₂ ◌∷◌ (head-eq_of_cons-eq e) h.0, h.1)

pub length-pack-bindings : (r : Reading) → length (pack_bindings r) ≡ length r
length-pack-bindings [] = refl
length-pack-bindings (b ∷ bs) = simp length-append (omega (arith, length-pack-bindings bs))

-- ## What fits its fields

-- the fields of a binding (rule 6.3)
pub record BindingFits (b : Binding) : Type 0 where
  pub variable : b.variable < 16
  pub record-number : b.at < 4096

-- the fields of a head, and of the bindings behind it
pub record LineFits (x : Line) : Type 0 where
  pub mark : x.mark < 16
  pub count : length x.reading ≤ most_bindings
  pub bindings : (b : Binding) → Memᴰ b x.reading → BindingFits b

abbrev pub AllFit : List Line → Type 0
AllFit l = (x : Line) → Memᴰ x l → LineFits x

-- every line has a mark
abbrev pub Marked : List Line → Type 0
Marked l = (x : Line) → Memᴰ x l → 1 ≤ x.mark

-- ## Packed numbers give the report back

binding-back : (b : Binding) → BindingFits b → binding_in (packed b.variable b.at) ≡ b
binding-back b f = λ i. record { variable = variable i; at = at i }
  where
    variable : (binding_in (packed b.variable b.at)).variable ≡ b.variable
    variable = omega (arith, f.variable, f.record-number)

    at : (binding_in (packed b.variable b.at)).at ≡ b.at
    at = omega (arith, f.variable, f.record-number)

bindings-last : (l : List ℕ) (number : ℕ) → bindings_in (l ++ (number ∷ [])) ≡ binding_in number ∷ bindings_in l
bindings-last [] number = refl
bindings-last (x ∷ l) number = ap (λ r. r ++ (binding_in x ∷ [])) (bindings-last l number)

bindings-back : (r : Reading) → ((b : Binding) → Memᴰ b r → BindingFits b) → bindings_in (pack_bindings r) ≡ r
bindings-back [] f = refl
bindings-back (b ∷ r) f =
    bindings-last (pack_bindings r) (packed b.variable b.at)
    ∙ ap₂ ◌∷◌ (binding-back b (f b (Memᴰ.head refl))) (bindings-back r (λ c m. f c (Memᴰ.tail m)))

line-next :
    (n head : ℕ) (l : List ℕ) → ¬ (head ≡ 0)
    → unpack_lines (suc n) (head ∷ l) ≡ record { mark = mark_in head; reading = bindings_in (take (count_in head) l) }
    ∷ unpack_lines n (drop (count_in head) l)
unfolding unpack_lines
line-next n head l h = rw (ne_eqb head 0 h, unpack_lines)

-- one line in front of other numbers
line-back :
    (n : ℕ) (x : Line) (l : List ℕ) → LineFits x → 1 ≤ x.mark
    → unpack_lines (suc n) (packed x.mark (length x.reading) ∷ (pack_bindings x.reading ++ l))
    ≡ x ∷ unpack_lines n l
line-back n x l f g =
    let head = packed x.mark (length x.reading) in
    let mark : mark_in head ≡ x.mark = omega (arith, f.mark, f.count) in
    let count : length (pack_bindings x.reading) ≡ count_in head = omega (arith, f.mark, f.count, length-pack-bindings x.reading) in
    let reading = ap bindings_in (take_at (pack_bindings x.reading) l (count_in head) count) ∙ bindings-back x.reading f.bindings in
    line-next n head (pack_bindings x.reading ++ l) (λ e. omega arith)
    ∙ ap₂ ◌∷◌ (λ i. record { mark = mark i; reading = reading i }) (ap (unpack_lines n) (drop_at (pack_bindings x.reading) l (count_in head) count))

lines-back :
    (n : ℕ) (l : List Line) (spare : ℕ) → length (pack l ++ replicate spare 0) ≤ n → AllFit l → Marked l
    → unpack_lines n (pack l ++ replicate spare 0) ≡ l
unfolding unpack_lines
lines-back zero [] spare h f g = refl
lines-back (suc n) [] zero h f g = refl
lines-back (suc n) [] (suc spare) h f g = refl
lines-back zero (x ∷ l) spare h f g = absurd (omega arith)
lines-back (suc n) (x ∷ l) spare h f g =
    let e = append_assoc (pack_bindings x.reading) (pack l) (replicate spare 0) in
    ap (λ m. unpack_lines (suc n) (packed x.mark (length x.reading) ∷ m)) e
    ∙ line-back n x (pack l ++ replicate spare 0) (f x (Memᴰ.head refl)) (g x (Memᴰ.head refl))
    ∙ ap (λ m. x ∷ m) (lines-back n l spare (omega (arith, ap length e, length-append (pack_bindings x.reading) (pack l ++ replicate spare 0))) (λ y m. f y (Memᴰ.tail m)) (λ y m. g y (Memᴰ.tail m)))

-- what is packed can be read back, zeros behind it or not
pub unpack-pack : (l : List Line) (spare : ℕ) → AllFit l → Marked l → unpack (pack l ++ replicate spare 0) ≡ l
unfolding unpack
unpack-pack l spare f g = lines-back (length (pack l ++ replicate spare 0)) l spare (omega arith) f g

-- ## Lists of lines that differ pack to different numbers

digits : (a b c d : ℕ) → b < 4096 → d < 4096 → packed a b ≡ packed c d → (a ≡ c) × (b ≡ d)
digits a b c d h g e = omega arith

-- whatever marks below 16 they have
pub pack-apart : (l m : List Line) → AllFit l → AllFit m → pack l ≡ pack m → l ≡ m
pack-apart [] [] f g e = refl
pack-apart [] (y ∷ m) f g e = absurd (nil≢cons e)
pack-apart (x ∷ l) [] f g e = absurd (cons≢nil e)
pack-apart (x ∷ l) (y ∷ m) f g e =
    let a = f x (Memᴰ.head refl) in
    let b = g y (Memᴰ.head refl) in
    let d = digits x.mark (length x.reading) y.mark (length y.reading) (omega (arith, a.count)) (omega (arith, b.count)) (head-eq_of_cons-eq e) in
    let h = append-split (pack_bindings x.reading) (pack_bindings y.reading) (pack l) (pack m) (length-pack-bindings x.reading ∙ d.1 ∙ sym (length-pack-bindings y.reading)) (tail-eq_of_cons-eq e) in
    let r = sym (bindings-back x.reading a.bindings) ∙ ap bindings_in h.0 ∙ bindings-back y.reading b.bindings in
    ap₂ ◌∷◌ (λ i. record { mark = d.0 i; reading = r i }) (pack-apart l m (λ z n. f z (Memᴰ.tail n)) (λ z n. g z (Memᴰ.tail n)) h.1)

-- however many unused numbers follow, where every line has a mark
pub padded-apart :
    (l m : List Line) (spare other : ℕ) → AllFit l → Marked l → AllFit m
    → Marked m → pack l ++ replicate spare 0 ≡ pack m ++ replicate other 0
    → l ≡ m
padded-apart l m spare other f a g b e = sym (unpack-pack l spare f a) ∙ ap unpack e ∙ unpack-pack m other g b

-- ## Numbers of 16 bits

bindings-below :
    (r : Reading) → ((b : Binding) → Memᴰ b r → BindingFits b) → (number : ℕ) → Memᴰ number (pack_bindings r)
    → number < 2 ^ 16
bindings-below [] f number m = absurd (Memᴰ.not-nil m)
bindings-below (b ∷ r) f number m = go (bindings-below r (λ c n. f c (Memᴰ.tail n)) number) (Memᴰ.append_cases (pack_bindings r) m)
  where
    go :
        (Memᴰ number (pack_bindings r) → number < 2 ^ 16)
        → Memᴰ number (pack_bindings r) ⊎ Memᴰ number (packed b.variable b.at ∷ [])
        → number < 2 ^ 16
    go ih (inl i) = ih i
    go ih (inr i) = let q = f b (Memᴰ.head refl) in omega (arith, Memᴰ.eq_of_singleton i, q.variable, q.record-number)

pub pack-below : (l : List Line) → AllFit l → (number : ℕ) → Memᴰ number (pack l) → number < 2 ^ 16
pack-below [] f number m = absurd (Memᴰ.not-nil m)
pack-below (x ∷ l) f number (Memᴰ.head e) = let q = f x (Memᴰ.head refl) in omega (arith, q.mark, q.count)
pack-below (x ∷ l) f number (Memᴰ.tail m) = go (pack-below l (λ y n. f y (Memᴰ.tail n)) number) (Memᴰ.append_cases (pack_bindings x.reading) m)
  where
    go :
        (Memᴰ number (pack l) → number < 2 ^ 16)
        → Memᴰ number (pack_bindings x.reading) ⊎ Memᴰ number (pack l)
        → number < 2 ^ 16
    go ih (inl i) = bindings-below x.reading (f x (Memᴰ.head refl)).bindings number i
    go ih (inr i) = ih i
