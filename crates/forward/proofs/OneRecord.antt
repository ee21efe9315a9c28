-- One record, from the live readings that stand in working memory: what is reported, what goes on, and whether one of
-- them takes a binding too many. Assumes nothing.
use mathlib.Core.Path.{◌≡◌, refl, sym, ap, ap₂, ◌∙◌}
use mathlib.Core.Logic.{◌⊎◌, inl, inr}
use mathlib.Core.Bool.{Bool, true, false, not, ◌&&◌, ◌||◌, true≢false, and-false}
use mathlib.Core.List.Memᴰ
use mathlib.Core.List.{List, [], ◌∷◌, map, Memᴰ}
use Prim.Native.Nat.{ℕ, suc, ◌+◌, ◌-◌, ◌*◌, ◌^◌, ◌≤◌, ◌<◌}
use native.Mathlib.Omega.{arith}
use borrow.Author.Tests.{lt-ltb, le-ltb, eq-eqb, ne_eqb, not-false, not-true}
use lib.Dec.{ltb, eqb}
use lib.ListN.{length, take, drop, get_or, length-map}
use Rattle.numbers.specs.Numbers.{first}
use Rattle.numbers.proofs.Cases.{by-test, by_order}
use Rattle.numbers.proofs.First.{first-bound, first-fails, first_passes}
use Rattle.records.specs.Records.{record_count, records_of}
use Rattle.records.proofs.Listed.{length-records}
use Rattle.patterns.specs.declared.Pattern.{Pattern}
use Rattle.patterns.specs.Checked.{InOrder}
use Rattle.automaton.specs.Filtering.{filter, collect}
use Rattle.automaton.proofs.Membership.{mem-collect}
use Rattle.rule.specs.Rule.{Block, Reading, TimesNeverFall, last_of, gap_mark, past_mark}
use Rattle.rule.specs.Promises.{most_bindings}
use Rattle.rule.specs.Computed.{is_event, in_window, only, any, extend, fired, step, live, lines, closing, is_met}
use Rattle.rule.proofs.OnlyOrElse.{mem-only, mem-or-else, any-mem}
use Rattle.rule.proofs.LiveReadings.{mem-fired, live-sound}
use Rattle.slots.specs.Slots.{Held, slot_bytes, holding, held_in, slot_at, slots_at}
use Rattle.slots.proofs.Slots.{length-slots_at, get_or-slots_at, slots_at-drop}
use Rattle.plans.specs.Plan.{IsPlan}
use Rattle.live.specs.Live.{unbound, step_by, is_long, long, is_event_by, can_at}
use Rattle.live.proofs.MapFilter.{get_or-mem, get_d_map, filter_same, any_same, any-map, map-take, map-drop, front-take}
use Rattle.live.proofs.MapFilter.{front-drop}
use Rattle.live.proofs.Steps.{step-idle}
use Rattle.live.proofs.CanAt.{can-event, can-gap}
use Rattle.forward.specs.Closing.{mark_by, is_late, first_in_time, gone_by, lines_by}
use Rattle.forward.proofs.ClosingCount.{late_at, gone-event, gone-gap, mark-event, mark-gap}
use Rattle.forward.proofs.Lines.{slots-take}
use Rattle.forward.proofs.HeldByRule.{lines-held, step-held, event-held, late_is, live-late}

slots-none : (work : List ℕ) (at : ℕ) → slots_at work at 0 ≡ []
unfolding slots_at
slots-none work at = refl

not-twice : (t : Bool) → not (not t) ≡ t
not-twice true = refl
not-twice false = refl

closing-event :
    (p : Pattern) (B : Block) (k : ℕ) (l : List Reading) → is_event B k ≡ true
    → closing p B k l ≡ lines p past_mark (filter (λ r. not (in_window p B r k)) l)
unfolding closing
closing-event p B k l e = rw (e, closing)

closing-gap :
    (p : Pattern) (B : Block) (k : ℕ) (l : List Reading) → is_event B k ≡ false → k < length B
    → closing p B k l ≡ lines p (gap_mark p) l
unfolding closing
closing-gap p B k l e h = rw (e, lt-ltb k (length B) h, closing)

pub live-gap : (p : Pattern) (B : Block) (k : ℕ) → is_event B k ≡ false → live p B (suc k) ≡ []
unfolding live step only
live-gap p B k e = rw e

module _ (p : Pattern) (o : InOrder p) (plan : List ℕ) (is : IsPlan p plan) (bytes : List ℕ)
    (rising : TimesNeverFall (records_of bytes)) (i : ℕ) (h : i < record_count bytes) (work : List ℕ) (src count : ℕ)
    (held : slots_at work src count ≡ map holding (live p (records_of bytes) i)) where
  abbrev B : Block
  B = records_of bytes

  -- ## The slots of the live readings

  pub count-live : length (live p B i) ≡ count
  count-live = sym (length-map (live p B i) holding) ∙ ap length (sym held) ∙ length-slots_at work src count

  pub slot-holds : (k : ℕ) → k < count → held_in (slot_at work (src + slot_bytes * k)) ≡ holding (get_or (live p B i) k [])
  slot-holds k l =
      sym (get_or-slots_at work src count k unbound l)
      ∙ ap (λ (m : List Held). get_or m k unbound) held
      ∙ get_d_map holding (live p B i) k [] unbound (omega (arith, count-live))

  pub slot-mem : (k : ℕ) → k < count → Memᴰ (get_or (live p B i) k []) (live p B i)
  slot-mem k l = get_or-mem (live p B i) k [] (omega (arith, count-live))

  late_slot :
      (k : ℕ) → k < count
      → late_at bytes i p.duration work src count k ≡ not (in_window p B (get_or (live p B i) k []) i)
  late_slot k l =
      ap (is_late bytes i p.duration) (slot-holds k l)
      ∙ late_is p o plan is bytes rising i h (get_or (live p B i) k []) (live-sound p B i (slot-mem k l))

  abbrev gone : ℕ
  gone = gone_by bytes i p.duration work src count

  -- ## How many close

  module _ (e : is_event_by bytes i ≡ true) where
    abbrev test : ℕ → Bool
    test k = not (late_at bytes i p.duration work src count k)

    gone-first : gone ≡ first test count
    unfolding first_in_time
    gone-first = gone-event bytes i p.duration work src count e

    event-le : gone ≤ count
    event-le = omega (arith, gone-first, first-bound test count)

    in-front : (k : ℕ) → k < gone → not (in_window p B (get_or (live p B i) k []) i) ≡ true
    in-front k l =
        let m : k < first test count = omega (arith, gone-first) in
        sym (late_slot k (omega (arith, event-le))) ∙ not-false (late_at bytes i p.duration work src count k) (first-fails test count k m)

    first-left : gone < length (live p B i) → not (in_window p B (get_or (live p B i) gone []) i) ≡ false
    first-left l =
        let m : first test count < count = omega (arith, gone-first, count-live) in
        let n : gone < count = omega (arith, count-live) in
        sym (late_slot gone n) ∙ not-true (late_at bytes i p.duration work src count gone) (ap test gone-first ∙ first_passes test count m)

    event-take : filter (λ r. not (in_window p B r i)) (live p B i) ≡ take gone (live p B i)
    event-take =
        front-take (λ r. not (in_window p B r i)) (live p B i) gone [] (live-late p o plan is bytes rising i h) (omega (arith, event-le, count-live)) in-front first-left

    event-drop : filter (λ r. in_window p B r i) (live p B i) ≡ drop gone (live p B i)
    event-drop =
        sym (filter_same (λ r. not (not (in_window p B r i))) (λ r. in_window p B r i) (live p B i) (λ r m. not-twice (in_window p B r i)))
        ∙ front-drop (λ r. not (in_window p B r i)) (live p B i) gone [] (live-late p o plan is bytes rising i h) (omega (arith, event-le, count-live)) in-front first-left

  pub gone-le : gone ≤ count
  gone-le = by-test (is_event_by bytes i) event-le (λ e. omega (arith, gone-gap bytes i p.duration work src count e))

  split : gone + (count - gone) ≡ count
  split = omega (arith, gone-le)

  front-held : slots_at work src gone ≡ map holding (take gone (live p B i))
  front-held =
      slots-take work src gone (count - gone)
      ∙ ap (λ (k : ℕ). take gone (slots_at work src k)) split
      ∙ ap (take gone) held
      ∙ map-take holding gone (live p B i)

  rest-held : slots_at work (src + slot_bytes * gone) (count - gone) ≡ map holding (drop gone (live p B i))
  rest-held =
      slots_at-drop work src gone (count - gone)
      ∙ ap (λ (k : ℕ). drop gone (slots_at work src k)) split
      ∙ ap (drop gone) held
      ∙ map-drop holding gone (live p B i)

  inside : i < length B
  inside = omega (arith, length-records bytes)

  same-event : {t : Bool} → is_event_by bytes i ≡ t → is_event B i ≡ t
  same-event e = sym (event-held p o plan is bytes rising i h) ∙ e

  -- ## What is reported

  pub closing-held :
      lines_by (2 ^ p.n - 1) (mark_by bytes (gap_mark p) i) (slots_at work src gone) ≡ closing p B i (live p B i)
  closing-held =
      by-test (is_event_by bytes i)
      (λ e.
      ap₂ (λ (m : ℕ) (l : List Held). lines_by (2 ^ p.n - 1) m l) (sym (mark-event bytes (gap_mark p) i e)) (front-held ∙ ap (map holding) (sym (event-take e)))
      ∙ lines-held p o.few past_mark (filter (λ r. not (in_window p B r i)) (live p B i))
      ∙ sym (closing-event p B i (live p B i) (same-event e)))
      (λ e.
      ap₂ (λ (m : ℕ) (l : List Held). lines_by (2 ^ p.n - 1) m l) (sym (mark-gap bytes (gap_mark p) i e))
      (ap (slots_at work src) (gone-gap bytes i p.duration work src count e) ∙ held)
      ∙ lines-held p o.few (gap_mark p) (live p B i)
      ∙ sym (closing-gap p B i (live p B i) (same-event e) inside))

  -- ## What goes on

  pub next-held :
      step_by plan bytes i (can_at plan p.n p.c bytes i) (slots_at work (src + slot_bytes * gone) (count - gone))
      ≡ map holding (live p B (suc i))
  next-held =
      by-test (is_event_by bytes i)
      (λ e.
      ap₂ (λ (c : ℕ) (l : List Held). step_by plan bytes i c l) (can-event plan p.n p.c bytes i e)
      (rest-held ∙ ap (map holding) (sym (event-drop e)))
      ∙ step-held p o plan is bytes rising i h (same-event e))
      (λ e.
      let z : count - gone ≡ 0 = omega (arith, gone-gap bytes i p.duration work src count e) in
      ap₂ (λ (c : ℕ) (l : List Held). step_by plan bytes i c l) (can-gap plan p.n p.c bytes i e)
      (ap (slots_at work (src + slot_bytes * gone)) z)
      ∙ step-idle plan bytes i (slots_at work (src + slot_bytes * gone) 0)
      ∙ slots-none work (src + slot_bytes * gone)
      ∙ ap (map holding) (sym (live-gap p B i (same-event e))))

-- ## A binding too many

module _ (p : Pattern) (B : Block) (i : ℕ)
    (small : (r : Reading) → Memᴰ r (live p B i) → length r ≤ most_bindings) where
  abbrev Grown : Reading → Type 0
  Grown a = (length a ≤ most_bindings) ⊎ ((last_of a ≡ i) × (length a ≤ suc most_bindings))

  grown : (r : Reading) → length r ≤ most_bindings → {a : Reading} → Memᴰ a (fired p B i r) → Grown a
  grown r l m =
      let f = mem-fired p B i r m in
      inr (ap last_of f.2, omega (arith, ap length f.2))

  next-grown : {a : Reading} → Memᴰ a (live p B (suc i)) → Grown a
  unfolding live step extend
  next-grown {a} m = go (Memᴰ.append_cases (collect (extend p B i) (live p B i)) (mem-only (is_event B i) m).1)
    where
      kept :
          (r : Reading) → length r ≤ most_bindings → ((a ≡ r) × (fired p B i r ≡ [])) ⊎ Memᴰ a (fired p B i r)
          → Grown a
      kept r l (inl e) = inl (omega (arith, ap length e.0))
      kept r l (inr f) = grown r l f

      go : Memᴰ a (collect (extend p B i) (live p B i)) ⊎ Memᴰ a (fired p B i []) → Grown a
      go (inl h) =
          let c = mem-collect (extend p B i) (live p B i) h in
          kept c.0 (small c.0 c.1) (mem-or-else c.0 (fired p B i c.0) (mem-only (in_window p B c.0 i) c.2).1)
      go (inr h) = grown [] (omega arith) h

  one-test :
      (a : Reading) → Grown a → ltb most_bindings (length a) ≡ eqb (last_of a) i && eqb (length a) (suc most_bindings)
  one-test a (inl l) =
      le-ltb most_bindings (length a) l
      ∙ sym (ap (λ (t : Bool). eqb (last_of a) i && t) (ne_eqb (length a) (suc most_bindings) (λ e. omega arith)) ∙ and-false (eqb (last_of a) i))
  one-test a (inr (e, l)) =
      by_order most_bindings (length a)
      (λ m. lt-ltb most_bindings (length a) m ∙ sym (ap₂ ◌&&◌ (eq-eqb (last_of a) i e) (eq-eqb (length a) (suc most_bindings) (omega arith))))
      (λ m. le-ltb most_bindings (length a) m ∙ sym (ap₂ ◌&&◌ (eq-eqb (last_of a) i e) (ne_eqb (length a) (suc most_bindings) (λ q. omega arith))))

  pub long-met : (L room : ℕ) → long (map holding (live p B (suc i))) ≡ is_met p B L room i 1
  unfolding long is_long is_met holding
  long-met L room =
      any-map holding (λ (h : Held). ltb most_bindings (length h.bindings)) (live p B (suc i))
      ∙ any_same (λ (r : Reading). ltb most_bindings (length r)) (λ (r : Reading). eqb (last_of r) i && eqb (length r) (suc most_bindings))
      (live p B (suc i)) (λ a m. one-test a (next-grown m))

pub short-live :
    (l : List Reading) → long (map holding l) ≡ false → (r : Reading) → Memᴰ r l → length r ≤ most_bindings
unfolding long is_long holding
short-live l e r m =
    by_order most_bindings (length r)
    (λ k.
    let found = any-mem (λ (s : Reading). ltb most_bindings (length s)) m (lt-ltb most_bindings (length r) k) in
    absurd (true≢false (sym found ∙ sym (any-map holding (λ (h : Held). ltb most_bindings (length h.bindings)) l) ∙ e)))
    (λ k. k)

pub live-short :
    (l : List Reading) → ((r : Reading) → Memᴰ r l → length r ≤ most_bindings) → long (map holding l) ≡ false
unfolding long is_long holding any
live-short [] h = refl
live-short (r ∷ l) h = ap₂ ◌||◌ (le-ltb most_bindings (length r) (h r (Memᴰ.head refl))) (live-short l (λ s m. h s (Memᴰ.tail m)))
