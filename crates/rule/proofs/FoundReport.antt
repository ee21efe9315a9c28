-- Where no reading would take a binding too many, the readings that the start-by-start pass finds closed are the list
-- start by start, and so the report. Assumes nothing.
use mathlib.Core.Path.{◌≡◌, refl, sym, ap, ap₂, subst, ◌∙◌}
use mathlib.Core.Bool.{Bool, true, false}
use mathlib.Core.List.Memᴰ
use mathlib.Core.List.{List, [], ◌∷◌, ◌++◌, map, append-nil, Memᴰ}
use Prim.Native.Nat.{ℕ, zero, suc, ◌+◌, ◌-◌, ◌<◌}
use native.Mathlib.Omega.{arith}
use lib.ListN.{length}
use lib.Dec.{ltb}
use borrow.Author.Tests.{ltb-true, ltb-false, le-leb, lt-leb}
use Rattle.numbers.specs.Numbers.{upto}
use Rattle.numbers.proofs.Cases.{by-test, by_order}
use Rattle.patterns.specs.declared.Pattern.{Pattern}
use Rattle.automaton.specs.Filtering.{keep, filter, collect}
use Rattle.automaton.specs.Automaton.{variables_of}
use Rattle.automaton.proofs.Membership.{clash, mem-filter}
use Rattle.rule.specs.Rule.{Block, Binding, Reading, Line, fires, is_full, start_of, time_at, past_mark, gap_mark}
use Rattle.rule.specs.Rule.{end_mark}
use Rattle.rule.specs.Growth.{IsReport}
use Rattle.rule.specs.Promises.{most_bindings}
use Rattle.rule.specs.Computed.{is_event, in_window, only, or_else, fired, extend, line, lines, closing, grow, begin}
use Rattle.rule.specs.Computed.{start_by_start}
use Rattle.rule.specs.Starts.Found.{closed, over}
use Rattle.rule.specs.Starts.{Found, is_past, until, mark_at, mark_of, with_binding, any_fires, in_turn, close}
use Rattle.rule.specs.Starts.{skip_until, branch_until, start_found, found_from, found_all, lines_of}
use Rattle.rule.proofs.OnlyOrElse.{collect-same, collect-map}
use Rattle.rule.proofs.LiveReadings.{fires-variable, event-yes, mem-fired, fired-mem}
use Rattle.rule.proofs.Report.{event-in}
use Rattle.rule.proofs.StartByStartReport.{start-by-start-is}
use Rattle.rule.proofs.SkipBranch.{until-bound, until-after, before-until, at-until, stays_open, fires-any}
use Rattle.rule.proofs.SkipBranch.{any-fires, turn-mem, skip-passes, skip-closes, skip-takes, skip-over}
use Rattle.rule.proofs.SkipBranch.{start-event, start-gap, lines-append}

-- no reading would take a binding too many
abbrev pub NoneOver : List Found → Type 0
NoneOver l = (j : ℕ) → ¬ Memᴰ (over j) l

lines-close : (p : Pattern) (mark : ℕ) (r : Reading) → lines_of (close p mark r) ≡ lines p mark (r ∷ [])
unfolding lines_of close only lines filter keep
lines-close p mark r = go (is_full p r)
  where
    go : (t : Bool) → lines_of (only t (closed mark r ∷ [])) ≡ map (line mark) (keep t r [])
    go true = refl
    go false = refl

lines-collect : {A : Type 0} (f : A → List Found) (l : List A) → lines_of (collect f l) ≡ collect (λ a. lines_of (f a)) l
unfolding collect lines_of
lines-collect f [] = refl
lines-collect f (a ∷ l) = lines-append (f a) (collect f l) ∙ ap (λ t. lines_of (f a) ++ t) (lines-collect f l)

module _ (p : Pattern) (B : Block) where
  -- ## What grows from a reading at one record

  in-window : (r : Reading) (j : ℕ) → is_past p B (start_of r) j ≡ false → in_window p B r j ≡ true
  unfolding is_past in_window
  in-window r j e = le-leb (time_at B j) (time_at B (start_of r) + p.duration) (ltb-false (time_at B (start_of r) + p.duration) (time_at B j) e)

  out-window : (r : Reading) (j : ℕ) → is_past p B (start_of r) j ≡ true → in_window p B r j ≡ false
  unfolding is_past in_window
  out-window r j e = lt-leb (time_at B j) (time_at B (start_of r) + p.duration) (ltb-true (time_at B (start_of r) + p.duration) (time_at B j) e)

  -- past the window it closes
  grow-past :
      (n j : ℕ) (r : Reading) → is_event B j ≡ true → in_window p B r j ≡ false
      → grow p B (suc n) j r ≡ lines p (mark_at p B j) (r ∷ [])
  unfolding grow closing mark_at extend only collect filter keep
  grow-past n j r e w = rw (e, w, closing, mark_at) (append-nil (lines p past_mark (r ∷ [])))

  -- at a gap and at the end it closes
  grow-gap : (n j : ℕ) (r : Reading) → is_event B j ≡ false → grow p B (suc n) j r ≡ lines p (mark_at p B j) (r ∷ [])
  unfolding grow closing mark_at only collect
  grow-gap n j r e = rw (e, closing, mark_at) (append-nil _ ∙ go (ltb j (length B)))
    where
      go :
          (t : Bool)
          → elim t [ true ↦ lines p (gap_mark p) (r ∷ []) | false ↦ lines p end_mark (r ∷ []) ]
          ≡ lines p (elim t [ true ↦ gap_mark p | false ↦ end_mark ]) (r ∷ [])
      go true = refl
      go false = refl

  -- in the window it goes on
  grow-on :
      (n j : ℕ) (r : Reading) → is_event B j ≡ true → in_window p B r j ≡ true
      → grow p B (suc n) j r ≡ collect (grow p B n (suc j)) (or_else r (fired p B j r))
  unfolding grow closing lines extend only filter keep
  grow-on n j r e w = rw (e, w, closing)

  none-fired : (j : ℕ) (r : Reading) → any_fires p B r j ≡ false → or_else r (fired p B j r) ≡ r ∷ []
  unfolding or_else
  none-fired j r e = go (fired p B j r) refl
    where
      go : (l : List Reading) → fired p B j r ≡ l → or_else r l ≡ r ∷ []
      go [] q = refl
      go (s ∷ l) q = let f = mem-fired p B j r (subst (Memᴰ s) (sym q) (Memᴰ.head refl)) in clash (fires-any p B r j f.0 f.1) e

  some-fired : (j : ℕ) (r : Reading) → any_fires p B r j ≡ true → or_else r (fired p B j r) ≡ fired p B j r
  unfolding or_else
  some-fired j r e = go (fired p B j r) refl
    where
      go : (l : List Reading) → fired p B j r ≡ l → or_else r l ≡ l
      go [] q = let f = any-fires p B r j e in absurd (Memᴰ.not-nil (subst (Memᴰ (with_binding r f.0 j)) q (fired-mem p B j r f.0 f.1)))
      go (s ∷ l) q = refl

  collect-fired :
      (f : Reading → List Line) (j : ℕ) (r : Reading)
      → collect f (fired p B j r) ≡ collect (λ v. f (with_binding r v j)) (filter (λ v. fires p B r v j) (variables_of p))
  unfolding fired
  collect-fired f j r = collect-map f (λ v. with_binding r v j) (filter (λ v. fires p B r v j) (variables_of p))

  -- ## From one start

  module _ (i : ℕ) (inside : i < length B) where
    abbrev skips : ℕ → Reading → List Found
    skips j r = skip_until p B (mark_of p B i) (until p B i) j r

    abbrev branches : ℕ → Reading → List Found
    branches j r = branch_until p B (mark_of p B i) (until p B i) j r 0

    -- what is found closed from record j on is what grows there, with n records left
    abbrev AsGrown : ℕ → ℕ → Type 0
    AsGrown n j = (b : Binding) (r : Reading) → start_of (b ∷ r) ≡ i → NoneOver (skips j (b ∷ r)) → lines_of (skips j (b ∷ r)) ≡ grow p B n j (b ∷ r)

    -- each variable that fires, in turn
    branch-lines :
        (f : Reading → List Line) (j : ℕ) (r : Reading) → ((v : ℕ) → NoneOver (skips (suc j) (with_binding r v j))
        → lines_of (skips (suc j) (with_binding r v j)) ≡ f (with_binding r v j)) → NoneOver (branches j r)
        → lines_of (branches j r) ≡ collect f (fired p B j r)
    unfolding in_turn
    branch-lines f j r each h =
        let z : p.n - 0 ≡ p.n = omega arith in
        rw z
        (lines-collect next (filter fire (variables_of p))
        ∙ collect-same (λ v. lines_of (next v)) (λ v. f (with_binding r v j)) (filter fire (variables_of p)) (λ v m. each v (apart v (mem-filter fire (variables_of p) m).0))
        ∙ sym (collect-fired f j r))
      where
        fire : ℕ → Bool
        fire = λ v. fires p B r v j

        next : ℕ → List Found
        next = λ v. skips (suc j) (with_binding r v j)

        apart : (v : ℕ) → fires p B r v j ≡ true → NoneOver (skips (suc j) (with_binding r v j))
        apart v e k o = h k (turn-mem fire next 0 (p.n - 0) v (omega arith) (omega (arith, fires-variable p B r v j e)) e o)

    -- at the record where it closes
    grow-ends :
        (n : ℕ) (r : Reading) → start_of r ≡ i → grow p B (suc n) (until p B i) r ≡ lines p (mark_of p B i) (r ∷ [])
    grow-ends n r s = by-test (is_event B (until p B i)) (λ v. grow-past n (until p B i) r v (out-window r (until p B i) (past v))) (λ v. grow-gap n (until p B i) r v)
      where
        past : is_event B (until p B i) ≡ true → is_past p B (start_of r) (until p B i) ≡ true
        past v = by-test (is_past p B (start_of r) (until p B i)) (λ q. q)
            (λ q. clash (at-until p B i (event-in p B (until p B i) (event-yes p B (until p B i) v))) (stays_open p B i (until p B i) v (subst (λ k. is_past p B k (until p B i) ≡ false) s q)))

    lines_end : (n j : ℕ) → j ≡ until p B i → AsGrown (suc n) j
    lines_end n j e b r s h =
        ap lines_of (skip-closes p B (mark_of p B i) (until p B i) (b ∷ r) j (omega arith))
        ∙ lines-close p (mark_of p B i) (b ∷ r)
        ∙ sym (grow-ends n (b ∷ r) s)
        ∙ ap (λ k. grow p B (suc n) k (b ∷ r)) (sym e)

    lines-passed :
        (n j : ℕ) → j < until p B i → AsGrown n (suc j) → (b : Binding) (r : Reading)
        → start_of (b ∷ r) ≡ i → NoneOver (skips j (b ∷ r)) → any_fires p B (b ∷ r) j ≡ false
        → lines_of (skips j (b ∷ r)) ≡ collect (grow p B n (suc j)) (or_else (b ∷ r) (fired p B j (b ∷ r)))
    unfolding collect
    lines-passed n j l ih b r s h a =
        let q = skip-passes p B (mark_of p B i) (until p B i) (b ∷ r) j l a in
        ap lines_of q ∙ ih b r s (λ k o. h k (rw q o)) ∙ sym (append-nil (grow p B n (suc j) (b ∷ r))) ∙ sym (ap (collect (grow p B n (suc j))) (none-fired j (b ∷ r) a))

    lines-taken :
        (n j : ℕ) → j < until p B i → AsGrown n (suc j) → (b : Binding) (r : Reading)
        → start_of (b ∷ r) ≡ i → NoneOver (skips j (b ∷ r)) → any_fires p B (b ∷ r) j ≡ true
        → lines_of (skips j (b ∷ r)) ≡ collect (grow p B n (suc j)) (or_else (b ∷ r) (fired p B j (b ∷ r)))
    lines-taken n j l ih b r s h a = by_order (length (b ∷ r)) most_bindings
        (λ m.
        let q = skip-takes p B (mark_of p B i) (until p B i) (b ∷ r) j l a m in
        ap lines_of q ∙ branch-lines (grow p B n (suc j)) j (b ∷ r) (λ v g. ih (record { variable = v; at = j }) (b ∷ r) s g) (λ k o. h k (rw q o)) ∙ sym (ap (collect (grow p B n (suc j))) (some-fired j (b ∷ r) a)))
        (λ m. absurd (h j (rw (skip-over p B (mark_of p B i) (until p B i) (b ∷ r) j l a m) (Memᴰ.head refl))))

    lines-skip : (n d j : ℕ) → j + d ≡ until p B i → j + n ≡ suc (length B) → i < j → AsGrown n j
    lines-skip zero d j e f l b r s h = absurd (omega (arith, until-bound p B i))
    lines-skip (suc n) zero j e f l b r s h = lines_end n j (omega arith) b r s h
    lines-skip (suc n) (suc d) j e f l b r s h =
        let ih : AsGrown n (suc j) = lines-skip n d (suc j) (omega arith) (omega arith) (omega arith) in
        let m : j < until p B i = omega arith in
        let w = before-until p B i j l m in
        by-test (any_fires p B (b ∷ r) j) (lines-taken n j m ih b r s h) (lines-passed n j m ih b r s h)
        ∙ sym (grow-on n j (b ∷ r) w.0 (in-window (b ∷ r) j (subst (λ k. is_past p B k j ≡ false) (sym s) w.1)))

    lines_start :
        (n : ℕ) → i + n ≡ length B → NoneOver (start_found p B i)
        → lines_of (start_found p B i) ≡ collect (grow p B n (suc i)) (only (is_event B i) (fired p B i []))
    unfolding only collect lines_of
    lines_start n e h = by-test (is_event B i)
        (λ v.
        let q = start-event p B i v in
        let l = until-after p B i inside in
        ap lines_of q
        ∙ branch-lines (grow p B n (suc i)) i [] (λ w g. lines-skip n (until p B i - suc i) (suc i) (omega arith) (omega arith) (omega arith) (record { variable = w; at = i }) [] refl g) (λ k o. h k (rw q o))
        ∙ rw v)
        (λ v. ap lines_of (start-gap p B i v) ∙ rw v)

  -- ## All starts

  lines_from :
      (n i : ℕ) → i + n ≡ length B → NoneOver (found_from p B i n) → lines_of (found_from p B i n) ≡ begin p B (suc n) i
  unfolding found_from begin upto collect lines_of only
  lines_from zero i e h = by-test (is_event B i) (λ v. absurd (omega (arith, event-in p B i (event-yes p B i v)))) (λ v. rw v)
  lines_from (suc n) i e h =
      lines-append (start_found p B i) (found_from p B (suc i) n)
      ∙ ap₂ ◌++◌ (lines_start i (omega arith) (suc n) e (λ k o. h k (Memᴰ.append_left (found_from p B (suc i) n) o)))
      (lines_from n (suc i) (omega arith) (λ k o. h k (Memᴰ.append_right (start_found p B i) o)))

  pub lines_are : NoneOver (found_all p B) → lines_of (found_all p B) ≡ start_by_start p B
  unfolding found_all start_by_start
  lines_are h = lines_from (length B) 0 (omega arith) h

  pub lines-report : NoneOver (found_all p B) → IsReport p B (length B) (lines_of (found_all p B))
  lines-report h = rw (lines_are h) (start-by-start-is p B)
