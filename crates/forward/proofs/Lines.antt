-- Lines put one after the other into a result: one that fits, one that does not, and all that stand from a place on.
-- Assumes nothing.
use mathlib.Core.Path.{◌≡◌, refl, sym, ap, ap₂, ◌∙◌}
use mathlib.Core.Bool.{Bool, true, false, true≢false}
use mathlib.Core.List.{List, [], ◌∷◌, ◌++◌, map, append_assoc, append-nil}
use Prim.Native.Nat.{ℕ, zero, suc, ◌+◌, ◌-◌, ◌*◌, ◌/◌, ◌≤◌, ◌<◌}
use native.Mathlib.Nat.{zero-add, add-zero, add-suc}
use native.Mathlib.Numerals.{add-one}
use native.Mathlib.Omega.{arith}
use borrow.Author.Tests.{le-ltb, lt-ltb, ltb-true}
use lib.ListN.{length, take, length-append}
use lib.Seq.{take-append-le, take_all}
use Rattle.std.specs.Prelude.{Result}
use Rattle.std.proofs.lemmas.List.{take-append-drop}
use Rattle.numbers.specs.Numbers.{bytes_of, written}
use Rattle.numbers.specs.Bits.{within}
use Rattle.records.specs.declared.refusals.Refusal.{Refusal}
use Rattle.automaton.specs.Filtering.{keep, filter}
use Rattle.rule.specs.Rule.{Reading, Line, packed, pack_bindings, pack}
use Rattle.rule.specs.Computed.{line}
use Rattle.rule.proofs.Packing.{length-pack-bindings}
use Rattle.rule.proofs.SkipBranch.{pack-append}
use Rattle.slots.specs.Slots.{Held, slot_bytes, state_in, held_in, slot_at, slots_at}
use Rattle.slots.specs.Results.{line_numbers}
use Rattle.slots.proofs.Slots.{length-slots_at, slots_at-drop}
use Rattle.slots.proofs.Results.{length-bytes_of, written-lines, length-written}
use Rattle.live.proofs.MapFilter.{filter-append, map-append}
use Rattle.forward.specs.Closing.{is_full_by, lines_by}
use Rattle.forward.specs.declared.Tell.{Tell}
use Rattle.forward.specs.Lines.{Wrote, Reported}

-- ## One line

length-line : (mark : ℕ) (r : Reading) → length (pack (line mark r ∷ [])) ≡ suc (length r)
length-line mark r = ap suc (ap length (append-nil (pack_bindings r)) ∙ length-pack-bindings r)

length_more : (out : List Line) (xs : List Line) → length (pack (out ++ xs)) ≡ length (pack out) + length (pack xs)
length_more out xs = ap length (pack-append out xs) ∙ length-append (pack out) (pack xs)

wrote_none : (res : List ℕ) (u n : ℕ) → u ≤ length res → n ≤ u → Wrote res res u n false u n false []
wrote_none res u n h k = record { behind = λ lent out t. rw append-nil t; size = refl; room = h; few = k }

-- room that is short stays short
wrote-still : (res : List ℕ) (xs : List Line) → Wrote res res 0 0 true 0 0 true xs
wrote-still res xs =
    record {
      behind = λ lent out t.
          let was = ltb-true (length lent / 2) (length (pack out)) (sym t.fits) in
          record {
            size = t.size;
            fits = sym (lt-ltb (length lent / 2) (length (pack (out ++ xs))) (omega (arith, length_more out xs)));
            used_is = λ f. absurd (true≢false f);
            readings_is = λ f. absurd (true≢false f);
            told = λ f. absurd (true≢false f);
          };
      size = refl;
      room = omega arith;
      few = omega arith;
    }

pub wrote-short :
    (res : List ℕ) (u n mark : ℕ) (r : Reading) → length res < u + 2 + 2 * length r
    → Wrote res res u n false 0 0 true (line mark r ∷ [])
wrote-short res u n mark r l =
    record {
      behind = λ lent out t.
          let size = t.size in
          let used = t.used_is refl in
          record {
            size = size;
            fits = sym (lt-ltb (length lent / 2) (length (pack (out ++ (line mark r ∷ [])))) (omega (arith, length_more out (line mark r ∷ []), length-line mark r)));
            used_is = λ f. absurd (true≢false f);
            readings_is = λ f. absurd (true≢false f);
            told = λ f. absurd (true≢false f);
          };
      size = refl;
      room = omega arith;
      few = omega arith;
    }

line-pack : (mark : ℕ) (r : Reading) → line_numbers mark r ≡ pack (line mark r ∷ [])
line-pack mark r = ap (λ (l : List ℕ). packed mark (length r) ∷ l) (sym (append-nil (pack_bindings r)))

-- one line behind others
line-told :
    (lent : List ℕ) (out : List Line) (mark : ℕ) (r : Reading)
    → written (written lent 0 (bytes_of (pack out))) (2 * length (pack out)) (bytes_of (line_numbers mark r))
    ≡ written lent 0 (bytes_of (pack (out ++ (line mark r ∷ []))))
line-told lent out mark r =
    ap (λ (l : List ℕ). written (written lent 0 (bytes_of (pack out))) (2 * length (pack out)) (bytes_of l)) (line-pack mark r)
    ∙ ap (λ (k : ℕ). written (written lent 0 (bytes_of (pack out))) k (bytes_of (pack (line mark r ∷ [])))) (sym (zero-add (2 * length (pack out))))
    ∙ written-lines lent 0 (pack out) (pack (line mark r ∷ [])) (omega arith)
    ∙ ap (λ (l : List ℕ). written lent 0 (bytes_of l)) (sym (pack-append out (line mark r ∷ [])))

length-line-bytes : (mark : ℕ) (r : Reading) → length (bytes_of (line_numbers mark r)) ≡ 2 + 2 * length r
length-line-bytes mark r = length-bytes_of (line_numbers mark r) ∙ ap (λ (n : ℕ). 2 * suc n) (length-pack-bindings r) ∙ omega arith

pub wrote-fits :
    (res res' : List ℕ) (u n mark : ℕ) (r : Reading) → u ≤ length res → n ≤ u
    → u + 2 + 2 * length r ≤ length res
    → res' ≡ written res u (bytes_of (line_numbers mark r))
    → Wrote res res' u n false (u + 2 + 2 * length r) (n + 1) false (line mark r ∷ [])
wrote-fits res res' u n mark r h k l w =
    let more : List Line = line mark r ∷ [] in
    let size : length res' ≡ length res = ap length w ∙ length-written res u (bytes_of (line_numbers mark r)) h (omega (arith, length-line-bytes mark r)) in
    record {
      behind = λ lent out t.
          let used = t.used_is refl in
          let lines = t.readings_is refl in
          let kept = t.size in
          record {
            size = size ∙ kept;
            fits = sym (le-ltb (length lent / 2) (length (pack (out ++ more))) (omega (arith, length_more out more, length-line mark r)));
            used_is = λ f. omega (arith, length_more out more, length-line mark r);
            readings_is = λ f. simp length-append (omega arith);
            told = λ f. w ∙ (λ i. written (t.told refl i) (used i) (bytes_of (line_numbers mark r))) ∙ line-told lent out mark r;
          };
      size = size;
      room = omega arith;
      few = omega arith;
    }

-- ## Line after line

pub wrote-trans :
    {a b c : List ℕ} {u n u' n' u'' n'' : ℕ} {s s' s'' : Bool} {xs ys : List Line} → Wrote a b u n s u' n' s' xs
    → Wrote b c u' n' s' u'' n'' s'' ys
    → Wrote a c u n s u'' n'' s'' (xs ++ ys)
wrote-trans {xs = xs} {ys = ys} p q =
    record {
      behind = λ lent out t. rw (← append_assoc) (q.behind lent (out ++ xs) (p.behind lent out t));
      size = q.size ∙ p.size;
      room = q.room;
      few = q.few;
    }

pub lines-append :
    (full mark : ℕ) (l m : List Held) → lines_by full mark (l ++ m) ≡ lines_by full mark l ++ lines_by full mark m
unfolding lines_by
lines-append full mark l m =
    ap (map (λ (h : Held). line mark h.bindings)) (filter-append (is_full_by full) l m)
    ∙ map-append (λ (h : Held). line mark h.bindings) (filter (is_full_by full) l) (filter (is_full_by full) m)

pub lines-full :
    (full mark : ℕ) (h : Held) → is_full_by full h ≡ true → lines_by full mark (h ∷ []) ≡ line mark h.bindings ∷ []
unfolding lines_by filter keep
lines-full full mark h e = rw e

pub lines-part : (full mark : ℕ) (h : Held) → is_full_by full h ≡ false → lines_by full mark (h ∷ []) ≡ []
unfolding lines_by filter keep
lines-part full mark h e = rw e

pub wrote-start :
    (res work : List ℕ) (u n full mark src : ℕ) → u ≤ length res → n ≤ u
    → Wrote res res u n false u n false (lines_by full mark (slots_at work src 0))
unfolding slots_at lines_by filter
wrote-start res work u n full mark src h k = wrote_none res u n h k

module _ {res res₁ res₂ : List ℕ} {u n u₁ n₁ u₂ n₂ : ℕ} {s : Bool} (work : List ℕ) (full mark src k : ℕ)
    {slot : List ℕ} (e : slot ≡ slot_at work (src + slot_bytes * k))
    (p : Wrote res res₁ u n false u₁ n₁ false (lines_by full mark (slots_at work src k)))
    (q : Wrote res₁ res₂ u₁ n₁ false u₂ n₂ s (lines_by full mark (held_in slot ∷ []))) where
  pub wrote-turn : Wrote res res₂ u n false u₂ n₂ s (lines_by full mark (slots_at work src (k + 1)))
  unfolding slots_at
  wrote-turn =
      rw (add-one, lines-append full mark (slots_at work src k) (held_in (slot_at work (src + slot_bytes * k)) ∷ [])) (wrote-trans p (rw e at q))

pub slots-take : (work : List ℕ) (at m n : ℕ) → slots_at work at m ≡ take m (slots_at work at (m + n))
unfolding slots_at
slots-take work at m zero =
    sym
    (ap (λ (k : ℕ). take m (slots_at work at k)) (add-zero m)
    ∙ take_all m (slots_at work at m) (omega (arith, length-slots_at work at m)))
slots-take work at m (suc n) =
    slots-take work at m n
    ∙ sym (take-append-le m (slots_at work at (m + n)) (held_in (slot_at work (at + slot_bytes * (m + n))) ∷ []) (omega (arith, length-slots_at work at (m + n))))
    ∙ ap (λ (k : ℕ). take m (slots_at work at k)) (sym (add-suc m n))

slots-split :
    (work : List ℕ) (at m n : ℕ)
    → slots_at work at (m + n) ≡ slots_at work at m ++ slots_at work (at + slot_bytes * m) n
slots-split work at m n =
    sym (take-append-drop m (slots_at work at (m + n)))
    ∙ sym (ap₂ (λ (l r : List Held). l ++ r) (slots-take work at m n) (slots_at-drop work at m n))

-- the room is short for the lines of slot k, and so for those of all
pub wrote-cut :
    {res res₁ res₂ : List ℕ} {u n u₁ n₁ : ℕ} (work : List ℕ) (full mark src count k : ℕ) {slot : List ℕ}
    → slot ≡ slot_at work (src + slot_bytes * k) → k < count
    → Wrote res res₁ u n false u₁ n₁ false (lines_by full mark (slots_at work src k))
    → Wrote res₁ res₂ u₁ n₁ false 0 0 true (lines_by full mark (held_in slot ∷ []))
    → Wrote res res₂ u n false 0 0 true (lines_by full mark (slots_at work src count))
wrote-cut work full mark src count k e l p q =
    let rest : List Held = slots_at work (src + slot_bytes * (k + 1)) (count - (k + 1)) in
    let whole : count ≡ k + 1 + (count - (k + 1)) = omega arith in
    rw (ap (slots_at work src) whole ∙ slots-split work src (k + 1) (count - (k + 1)), lines-append full mark (slots_at work src (k + 1)) rest)
    (wrote-trans (wrote-turn work full mark src k e p q) (wrote-still _ (lines_by full mark rest)))

-- ## A slot that closes

full_by : (full state : ℕ) (slot : List ℕ) → state ≡ state_in slot → within full state ≡ is_full_by full (held_in slot)
unfolding is_full_by held_in
full_by full state slot e = ap (within full) e

pub reported-full :
    (res res' : List ℕ) (t : Tell) (told : Result Tell Refusal) (full mark : ℕ) (slot : List ℕ) (state : ℕ)
    → state ≡ state_in slot
    → within full state ≡ true
    → Reported res res' t told (line mark (held_in slot).bindings ∷ [])
    → Reported res res' t told (lines_by full mark (held_in slot ∷ []))
reported-full res res' tell told full mark slot state e t p = rw (lines-full full mark (held_in slot) (sym (full_by full state slot e) ∙ t)) p

pub wrote-part :
    (res : List ℕ) (u n full mark : ℕ) (slot : List ℕ) (state : ℕ) → state ≡ state_in slot
    → within full state ≡ false
    → u ≤ length res → n ≤ u
    → Wrote res res u n false u n false (lines_by full mark (held_in slot ∷ []))
wrote-part res u n full mark slot state e t h k =
    rw (lines-part full mark (held_in slot) (sym (full_by full state slot e) ∙ t)) (wrote_none res u n h k)
