-- The lines that a result's bytes stand for are those of the report that was packed into it. Assumes nothing.
use mathlib.Core.Path.{◌≡◌, refl, sym, ap, ap₂, subst, ◌∙◌}
use mathlib.Core.List.Memᴰ
use mathlib.Core.List.{List, [], ◌∷◌, ◌++◌, append_assoc, append-nil, Memᴰ}
use Prim.Native.Nat.{ℕ, zero, suc, ◌+◌, ◌*◌, ◌<◌}
use native.Mathlib.Nat.{add-zero}
use native.Mathlib.Omega.{arith}
use lib.ListN.{length, get_or, length-append, get_or-append}
use lib.Seq.{get_or_at, get_or-append-add}
use Rattle.numbers.specs.Numbers.{bytes_of}
use Rattle.numbers.proofs.Numbers.{number-2}
use Rattle.rule.specs.Rule.{Binding, Reading, Line, packed, pack_bindings, pack}
use Rattle.rule.proofs.Packing.{length-pack-bindings, BindingFits, LineFits, AllFit}
use Rattle.rule.proofs.SkipBranch.{pack-append}
use Rattle.lines.specs.Results.{number_at, mark_at, count_at, binding_of, bindings_at, line_at, place_of, lines_in}

-- ## Numbers

pub number-bytes :
    (numbers rest : List ℕ) (i : ℕ) → i < length numbers → number_at (bytes_of numbers ++ rest) i ≡ get_or numbers i 0
unfolding bytes_of
number-bytes [] rest i h = absurd (omega arith)
number-bytes (x ∷ l) rest zero h = number-2 _ 0 ∙ omega arith
number-bytes (x ∷ l) rest (suc i) h =
    let e : 2 * suc i ≡ suc (suc (2 * i)) = omega arith in
    let f : suc (suc (2 * i)) + 1 ≡ suc (suc (2 * i + 1)) = omega arith in
    rw (e, number-2 (bytes_of (x ∷ l) ++ rest) (suc (suc (2 * i))), f) (sym (number-2 (bytes_of l ++ rest) (2 * i)) ∙ number-bytes l rest i (omega arith))

-- ## Lines

binding-back : (b : Binding) → b.at < 4096 → binding_of (packed b.variable b.at) ≡ b
binding-back b h = λ i. record { variable = variable i; at = at i }
  where
    variable : (binding_of (packed b.variable b.at)).variable ≡ b.variable
    variable = omega arith

    at : (binding_of (packed b.variable b.at)).at ≡ b.at
    at = omega arith

bindings-back :
    (result : List ℕ) (first : ℕ) (r : Reading)
    → ((k : ℕ) → k < length r → number_at result (first + k) ≡ get_or (pack_bindings r) k 0)
    → ((b : Binding) → Memᴰ b r → BindingFits b)
    → bindings_at result first (length r) ≡ r
unfolding bindings_at
bindings-back result first [] agrees fits = refl
bindings-back result first (b ∷ bs) agrees fits =
    let last = agrees (length bs) (omega arith) ∙ get_or_at (pack_bindings bs) (packed b.variable b.at) [] 0 (length bs) (length-pack-bindings bs) in
    ap₂ ◌∷◌
    (ap binding_of last ∙ binding-back b (fits b (Memᴰ.head refl)).record-number)
    (bindings-back result first bs
    (λ k h. agrees k (omega arith) ∙ get_or-append (pack_bindings bs) (packed b.variable b.at ∷ []) 0 k (omega (arith, length-pack-bindings bs)))
    (λ c m. fits c (Memᴰ.tail m)))

module _ (result : List ℕ) (at : ℕ) (x : Line) (rest : List Line) (fits : LineFits x)
    (agrees : (k : ℕ) → k < length (pack (x ∷ rest)) → number_at result (at + k) ≡ get_or (pack (x ∷ rest)) k 0) where
  head-back : number_at result at ≡ packed x.mark (length x.reading)
  head-back = ap (number_at result) (sym (add-zero at)) ∙ agrees 0 (omega arith)

  count-back : count_at result at ≡ length x.reading
  count-back = omega (arith, head-back, fits.count)

  line-back : line_at result at ≡ x
  unfolding line_at
  line-back = λ i. record { mark = mark i; reading = reading i }
    where
      mark : mark_at result at ≡ x.mark
      mark = omega (arith, head-back, fits.count)

      bound : (k : ℕ) → k < length x.reading → number_at result (at + 1 + k) ≡ get_or (pack_bindings x.reading) k 0
      bound k h =
          let n = length-pack-bindings x.reading in
          let e : at + 1 + k ≡ at + suc k = omega arith in
          ap (number_at result) e
          ∙ agrees (suc k) (omega (arith, length-append (pack_bindings x.reading) (pack rest)))
          ∙ get_or-append (pack_bindings x.reading) (pack rest) 0 k (omega arith)

      reading : bindings_at result (at + 1) (count_at result at) ≡ x.reading
      reading = ap (bindings_at result (at + 1)) count-back ∙ bindings-back result (at + 1) x.reading bound fits.bindings

-- ## Reports

length-pack-snoc :
    (l : List Line) (x : Line) → length (pack (l ++ (x ∷ []))) ≡ length (pack l) + 1 + length x.reading
length-pack-snoc l x =
    ap length (pack-append l (x ∷ []))
    ∙ length-append (pack l) (pack (x ∷ []))
    ∙ omega (arith, length-append (pack_bindings x.reading) [], length-pack-bindings x.reading)

length-snoc : (l : List Line) (x : Line) → length (l ++ (x ∷ [])) ≡ suc (length l)
length-snoc l x = length-append l (x ∷ []) ∙ omega arith

-- the first lines of a report, as the result has them
record Read (result : List ℕ) (done : List Line) : Type 0 where
  place : place_of result (length done) ≡ length (pack done)
  lines : lines_in result (length done) ≡ done

module _ (result : List ℕ) (report : List Line) (fits : AllFit report)
    (agrees : (i : ℕ) → i < length (pack report) → number_at result i ≡ get_or (pack report) i 0) where
  module _ (done : List Line) (x : Line) (rest : List Line) (e : report ≡ done ++ (x ∷ rest)) where
    split : pack report ≡ pack done ++ pack (x ∷ rest)
    split = ap pack e ∙ pack-append done (x ∷ rest)

    next-agrees :
        (k : ℕ) → k < length (pack (x ∷ rest)) → number_at result (length (pack done) + k) ≡ get_or (pack (x ∷ rest)) k 0
    next-agrees k h =
        agrees (length (pack done) + k) (omega (arith, ap length split, length-append (pack done) (pack (x ∷ rest))))
        ∙ ap (λ (l : List ℕ). get_or l (length (pack done) + k) 0) split
        ∙ get_or-append-add (pack done) (pack (x ∷ rest)) k 0

    next_fits : LineFits x
    next_fits = fits x (rw e (Memᴰ.append_right done (Memᴰ.head refl)))

    next-read : Read result done → Read result (done ++ (x ∷ []))
    unfolding place_of lines_in
    next-read r =
        let at = r.place in
        record {
          place =
              ap (place_of result) (length-snoc done x)
              ∙ ap (λ (n : ℕ). n + 1 + count_at result n) at
              ∙ ap (λ (n : ℕ). length (pack done) + 1 + n) (count-back result (length (pack done)) x rest next_fits next-agrees)
              ∙ sym (length-pack-snoc done x);
          lines =
              ap (lines_in result) (length-snoc done x)
              ∙ ap₂ (λ (l : List Line) (y : Line). l ++ (y ∷ [])) r.lines (ap (line_at result) at ∙ line-back result (length (pack done)) x rest next_fits next-agrees);
        }

  read : (done rest : List Line) → report ≡ done ++ rest → Read result done → Read result report
  read done [] e r = subst (Read result) (sym (e ∙ append-nil done)) r
  read done (x ∷ rest) e r = read (done ++ (x ∷ [])) rest (e ∙ sym (append_assoc done (x ∷ []) rest)) (next-read done x rest e r)

  none_read : Read result []
  unfolding place_of lines_in
  none_read = record { place = refl; lines = refl }

  pub report-place : place_of result (length report) ≡ length (pack report)
  report-place = (read [] report refl none_read).place

  pub report-lines : lines_in result (length report) ≡ report
  report-lines = (read [] report refl none_read).lines
