-- The text of bindings and lines, one more behind those there are. Assumes nothing.
use mathlib.Core.Path.{◌≡◌, refl, sym, ap, ◌∙◌}
use mathlib.Core.List.{List, [], ◌∷◌, ◌++◌, append_assoc, append-nil}
use Prim.Native.Nat.{ℕ, zero, suc, ◌+◌, ◌^◌, ◌/◌, ◌%◌, ◌≤◌, ◌<◌}
use native.Mathlib.Numerals.{add-one}
use native.Mathlib.Omega.{arith}
use Rattle.numbers.proofs.Cases.{by_order}
use Rattle.rule.specs.Rule.{Line}
use Rattle.numbers.specs.Put.{Put}
use Rattle.numbers.specs.Decimal.{decimal}
use Rattle.lines.specs.Text.{line_feed, binding_text, reading_text, line_text, report_text}
use Rattle.lines.specs.Results.{number_at, binding_of, bindings_at, line_at, behind, place_of, lines_in}
use Rattle.numbers.proofs.Put.{put-none, put_then}

pub no-bindings : (text result : List ℕ) (at first : ℕ) → Put text text at (reading_text (bindings_at result first 0)) at
unfolding reading_text bindings_at
no-bindings text result at first = put-none text at

pub one-binding-more :
    (start text more result : List ℕ) (at first i end next binding : ℕ) → binding ≡ number_at result (first + i)
    → Put start text at (reading_text (bindings_at result first i)) end
    → Put text more end (binding_text (binding_of binding)) next
    → Put start more at (reading_text (bindings_at result first (i + 1))) next
unfolding reading_text bindings_at
one-binding-more start text more result at first i end next binding e p q = rw (add-one i, ← e) (put_then p q)

pub all-bindings :
    (start text result : List ℕ) (at first i count end : ℕ) → i ≡ count
    → Put start text at (reading_text (bindings_at result first i)) end
    → Put start text at (reading_text (bindings_at result first count)) end
all-bindings start text result at first i count end e p = rw e at p

pub line-put :
    (start one two three result : List ℕ) (at from middle end next head : ℕ) → head ≡ number_at result at
    → Put start one from (decimal (head / 2 ^ 12)) middle
    → Put one two middle (reading_text (bindings_at result (at + 1) (head % 2 ^ 6))) end
    → Put two three end (line_feed ∷ []) next
    → Put start three from (line_text (line_at result at)) next
unfolding line_text line_at
line-put start one two three result at from middle end next head e p q r = rw (line_text, line_at, ← e) (put_then (put_then p q) r)

report-snoc : (l : List Line) (x : Line) → report_text (l ++ (x ∷ [])) ≡ report_text l ++ line_text x
unfolding report_text
report-snoc [] x = append-nil (line_text x)
report-snoc (y ∷ l) x = ap (λ (t : List ℕ). line_text y ++ t) (report-snoc l x) ∙ sym (append_assoc (line_text y) (report_text l) (line_text x))

pub no_lines : (text result : List ℕ) → Put text text 0 (report_text (lines_in result 0)) 0
unfolding report_text lines_in
no_lines text result = put-none text 0

pub one-line-more :
    (start text more result : List ℕ) (at i end next : ℕ) → at ≡ place_of result i
    → Put start text 0 (report_text (lines_in result i)) end
    → Put text more end (line_text (line_at result at)) next
    → Put start more 0 (report_text (lines_in result (i + 1))) next
unfolding lines_in
one-line-more start text more result at i end next e p q =
    rw (add-one i, lines_in, report-snoc (lines_in result i) (line_at result (place_of result i)), ← e) (put_then p q)

pub all_lines :
    (start text result : List ℕ) (i count end : ℕ) → i ≡ count → Put start text 0 (report_text (lines_in result i)) end
    → Put start text 0 (report_text (lines_in result count)) end
all_lines start text result i count end e p = rw e at p

pub place-next : (result : List ℕ) (at i : ℕ) → at ≡ place_of result i → behind result at ≡ place_of result (i + 1)
unfolding place_of
place-next result at i e = rw (add-one i, e)

pub place-first : (result : List ℕ) → 0 ≡ place_of result 0
unfolding place_of
place-first result = refl

-- lines stand one behind the other
pub place-rises : (result : List ℕ) (i n : ℕ) → i < n → behind result (place_of result i) ≤ place_of result n
unfolding place_of
place-rises result i zero h = absurd (omega arith)
place-rises result i (suc n) h =
    by_order i n
    (λ k. let e : behind result (place_of result i) ≤ place_of result n = place-rises result i n k in omega arith)
    (λ k. let e : i ≡ n = omega arith in rw e (omega arith))

pub line-fits : (result : List ℕ) (at i n : ℕ) → at ≡ place_of result i → i < n → behind result at ≤ place_of result n
line-fits result at i n e h = rw e (place-rises result i n h)
