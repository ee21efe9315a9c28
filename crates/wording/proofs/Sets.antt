-- The set lines of the first variables: one variable more, the last line feed, and how long they are. Assumes nothing.
use mathlib.Core.Path.{◌≡◌, refl, sym, ap, subst, ◌∙◌}
use mathlib.Core.Bool.{true, false, not}
use mathlib.Core.List.{List, [], ◌∷◌, ◌++◌, map, flat_map, append_assoc, append-nil, append-eq-nil_iff, cons-ne-nil}
use Prim.Native.Nat.{ℕ, zero, suc, ◌+◌, ◌*◌, ◌≤◌, ◌<◌}
use native.Mathlib.Numerals.{add-one, unary_clauses}
use native.Mathlib.Omega.{arith}
use borrow.Author.Tests.{ne_eqb, eqb-false, not-true}
use lib.Dec.{eqb}
use lib.ListN.{length, set, length-append}
use Rattle.numbers.specs.Put.{Put}
use Rattle.numbers.proofs.Put.{put-none, put_byte, put_then}
use Rattle.numbers.proofs.Cases.{by-test}
use Rattle.patterns.specs.declared.Pattern.{Pattern}
use Rattle.patterns.specs.Checked.{set_of, is_group, InOrder}
use Rattle.form.specs.Form.{Member, line_feed, space, set_word, member_word, spaced, line, set_line}
use Rattle.wording.specs.Wording.{member_of, begins_set, in_last, sets_up_to}
use Rattle.wording.specs.Parts.{member_text, set_text, variable_text, open_lines}
use Rattle.wording.proofs.Pieces.{group-text, plain-text, later-set, begins-text, joins-text}

-- ## One more

spaced-more :
    (s : List Member) (m : Member)
    → spaced (map member_word (s ++ (m ∷ []))) ≡ spaced (map member_word s) ++ (space ∷ member_word m)
unfolding spaced
spaced-more [] m = simp append-nil
spaced-more (x ∷ s) m =
    ap (λ (l : List ℕ). space ∷ (member_word x ++ l)) (spaced-more s m)
    ∙ ap (λ (l : List ℕ). space ∷ l) (sym (append_assoc (member_word x) (spaced (map member_word s)) (space ∷ member_word m)))

open-last :
    (sets : List (List Member)) (m : Member) → ¬ (sets ≡ [])
    → open_lines (in_last sets m) ≡ open_lines sets ++ (space ∷ member_word m)
unfolding open_lines in_last
open-last [] m h = absurd (h refl)
open-last (s ∷ []) m h =
    ap (λ (l : List ℕ). set_word ++ l) (spaced-more s m)
    ∙ sym (append_assoc set_word (spaced (map member_word s)) (space ∷ member_word m))
open-last (s ∷ t ∷ []) m h =
    ap (λ (l : List ℕ). set_line s ++ l) (open-last (t ∷ []) m (cons-ne-nil t []))
    ∙ sym (append_assoc (set_line s) (open_lines (t ∷ [])) (space ∷ member_word m))
open-last (s ∷ t ∷ u ∷ sets) m h =
    ap (λ (l : List ℕ). set_line s ++ l) (open-last (t ∷ u ∷ sets) m (cons-ne-nil t (u ∷ sets)))
    ∙ sym (append_assoc (set_line s) (open_lines (t ∷ u ∷ sets)) (space ∷ member_word m))

open_more :
    (sets : List (List Member)) (m : Member) → ¬ (sets ≡ [])
    → open_lines (sets ++ ((m ∷ []) ∷ [])) ≡ open_lines sets ++ (line_feed ∷ (set_word ++ (space ∷ member_word m)))
unfolding open_lines set_line line spaced
open_more [] m h = absurd (h refl)
open_more (s ∷ []) m h = simp (append_assoc, append-nil)
open_more (s ∷ t ∷ sets) m h =
    ap (λ (l : List ℕ). set_line s ++ l) (open_more (t ∷ sets) m (cons-ne-nil t sets))
    ∙ sym (append_assoc (set_line s) (open_lines (t ∷ sets)) (line_feed ∷ (set_word ++ (space ∷ member_word m))))

pub closed : (sets : List (List Member)) → ¬ (sets ≡ []) → open_lines sets ++ (line_feed ∷ []) ≡ flat_map set_line sets
unfolding open_lines set_line line flat_map
closed [] h = absurd (h refl)
closed (s ∷ []) h = simp (append_assoc, append-nil)
closed (s ∷ t ∷ sets) h =
    append_assoc (set_line s) (open_lines (t ∷ sets)) (line_feed ∷ [])
    ∙ ap (λ (l : List ℕ). set_line s ++ l) (closed (t ∷ sets) (cons-ne-nil t sets))

last_some : (sets : List (List Member)) (m : Member) → ¬ (in_last sets m ≡ [])
unfolding in_last
last_some [] m e = absurd (cons-ne-nil _ _ e)
last_some (s ∷ []) m e = absurd (cons-ne-nil _ _ e)
last_some (s ∷ t ∷ sets) m e = absurd (cons-ne-nil _ _ e)

-- ## The lines of a pattern

module _ (p : Pattern) where
  pub begins-first : begins_set p 0 ≡ true
  unfolding begins_set
  begins-first = refl

  pub sets-begin :
      (v : ℕ) → begins_set p v ≡ true → sets_up_to p (suc v) ≡ sets_up_to p v ++ ((member_of p v ∷ []) ∷ [])
  unfolding sets_up_to
  sets-begin v e = rw (e, sets_up_to)

  pub sets-join : (v : ℕ) → begins_set p v ≡ false → sets_up_to p (suc v) ≡ in_last (sets_up_to p v) (member_of p v)
  unfolding sets_up_to
  sets-join v e = rw (e, sets_up_to)

  pub begins-later : (v : ℕ) → begins_set p (suc v) ≡ not (eqb (set_of p (suc v)) (set_of p v))
  unfolding begins_set
  begins-later v = rw (ne_eqb (suc v) 0 (λ e. omega arith), begins_set) (simp unary_clauses)

  pub sets-some : (v : ℕ) → ¬ (sets_up_to p (suc v) ≡ [])
  sets-some v e =
      by-test (begins_set p v)
      (λ b. let both = (append-eq-nil_iff {p = sets_up_to p v} {q = (member_of p v ∷ []) ∷ []}).0 (sym (sets-begin v b) ∙ e) in
      cons-ne-nil (member_of p v ∷ []) [] both.1)
      (λ b. last_some (sets_up_to p v) (member_of p v) (sym (sets-join v b) ∙ e))

  pub some-sets : (v : ℕ) → 1 ≤ v → ¬ (sets_up_to p v ≡ [])
  some-sets zero h = absurd (omega arith)
  some-sets (suc v) h = sets-some v

  open-first : open_lines (sets_up_to p 1) ≡ variable_text p 0
  unfolding open_lines set_text member_text sets_up_to spaced
  open-first =
      ap open_lines (sets-begin 0 begins-first)
      ∙ ap (λ (l : List ℕ). set_word ++ (space ∷ l)) (append-nil (member_word (member_of p 0)))
      ∙ sym (begins-text p 0 begins-first)

  open_next : (v : ℕ) → open_lines (sets_up_to p (suc (suc v))) ≡ open_lines (sets_up_to p (suc v)) ++ variable_text p (suc v)
  unfolding member_text
  open_next v =
      by-test (begins_set p (suc v))
      (λ b. ap open_lines (sets-begin (suc v) b)
      ∙ open_more (sets_up_to p (suc v)) (member_of p (suc v)) (sets-some v)
      ∙ ap (λ (l : List ℕ). open_lines (sets_up_to p (suc v)) ++ l)
      (ap (λ (l : List ℕ). l ++ member_text p (suc v)) (sym (later-set (suc v) (λ e. omega arith))) ∙ sym (begins-text p (suc v) b)))
      (λ b. ap open_lines (sets-join (suc v) b)
      ∙ open-last (sets_up_to p (suc v)) (member_of p (suc v)) (sets-some v)
      ∙ ap (λ (l : List ℕ). open_lines (sets_up_to p (suc v)) ++ l) (sym (joins-text p (suc v) b)))

  pub open-variable : (v : ℕ) → open_lines (sets_up_to p (suc v)) ≡ open_lines (sets_up_to p v) ++ variable_text p v
  unfolding open_lines sets_up_to
  open-variable zero = open-first
  open-variable (suc v) = open_next v

  -- ## How long they are

  member-long : (v : ℕ) → length (member_text p v) ≤ 3
  member-long v =
      by-test (is_group p v)
      (λ g. omega (arith, ap length (group-text p v g)))
      (λ g. omega (arith, ap length (plain-text p v g)))

  module _ (o : InOrder p) where
    pub open-long :
        (v : ℕ) → suc v ≤ p.n → length (open_lines (sets_up_to p (suc v))) + 1 ≤ 3 * suc v + 4 * set_of p v
    unfolding set_text
    open-long zero h =
        omega
        (arith, ap length (open-first ∙ begins-text p 0 begins-first), length-append (set_text 0) (member_text p 0), member-long 0, o.begins)
    open-long (suc v) h =
        let before = open-long v (omega arith) in
        let e = ap length (open_next v) in
        let l = length-append (open_lines (sets_up_to p (suc v))) (variable_text p (suc v)) in
        by-test (begins_set p (suc v))
        (λ b. let other = eqb-false (set_of p (suc v)) (set_of p v) (not-true _ (sym (begins-later v) ∙ b)) in
        omega
        (arith, (o.climbs v h).0, ap length (begins-text p (suc v) b), length-append (set_text (suc v)) (member_text p (suc v)), ap length (later-set (suc v) (λ z. omega arith)), member-long (suc v)))
        (λ b. omega (arith, ap length (joins-text p (suc v) b), member-long (suc v), (o.climbs v h).0))

    pub open-short : (v : ℕ) → v ≤ p.n → length (open_lines (sets_up_to p v)) ≤ 67
    unfolding open_lines sets_up_to
    open-short zero h = omega arith
    open-short (suc v) h = omega (arith, open-long v h, o.few, o.few_sets v h)

-- ## Put one behind the other

pub no-sets : (p : Pattern) (text : List ℕ) → Put text text 0 (open_lines (sets_up_to p 0)) 0
unfolding open_lines sets_up_to
no-sets p text = put-none text 0

pub one-variable-more :
    (p : Pattern) (v : ℕ) (start text more : List ℕ) (end next : ℕ)
    → Put start text 0 (open_lines (sets_up_to p v)) end → Put text more end (variable_text p v) next
    → Put start more 0 (open_lines (sets_up_to p (v + 1))) next
one-variable-more p v start text more end next a b = rw (add-one v, open-variable p v) (put_then a b)

pub closed-sets :
    (p : Pattern) → InOrder p → open_lines (sets_up_to p p.n) ++ (line_feed ∷ []) ≡ flat_map set_line (sets_up_to p p.n)
closed-sets p o = closed (sets_up_to p p.n) (some-sets p p.n o.some)

pub all-sets :
    (p : Pattern) → InOrder p → (v : ℕ) (start text : List ℕ) (end : ℕ) → v ≡ p.n → end < length text
    → Put start text 0 (open_lines (sets_up_to p v)) end
    → Put start (set text end line_feed) 0 (flat_map set_line (sets_up_to p p.n)) (end + 1)
all-sets p o v start text end e h a =
    let b : Put start text 0 (open_lines (sets_up_to p p.n)) end = subst (λ (u : ℕ). Put start text 0 (open_lines (sets_up_to p u)) end) e a in
    rw (← closed-sets p o) (put_then b (put_byte text end line_feed h))
