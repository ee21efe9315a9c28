-- What a gap hid does not matter to a line with mark 4: every block that has the same records up to the gap reports the
-- same reading, whatever stands in the gap's place and behind it. Assumes nothing.
use mathlib.Core.Path.{◌≡◌, refl, sym, ap, ap₂, ◌∙◌}
use mathlib.Core.Bool.{Bool, true, false, ◌&&◌}
use mathlib.Core.List.Memᴰ
use mathlib.Core.List.{List, [], ◌∷◌, map, Memᴰ}
use Prim.Native.Nat.{ℕ, zero, suc, ◌+◌, ◌-◌, ◌≤◌, ◌<◌}
use native.Mathlib.Omega.{arith}
use lib.Dec.{eqb, ltb}
use lib.ListN.{length}
use borrow.Author.Tests.{leb-true, leb-false}
use Rattle.numbers.proofs.Cases.{by-test}
use Rattle.records.specs.declared.Record.{Record}
use Rattle.patterns.specs.declared.Condition.{Condition}
use Rattle.patterns.specs.declared.Pattern.{Pattern}
use Rattle.patterns.specs.Checked.{InOrder}
use Rattle.patterns.specs.Comparison.{holds}
use Rattle.automaton.specs.Filtering.{implies, all, filter}
use Rattle.automaton.specs.Automaton.{conditions, leaves, marked, carries}
use Rattle.automaton.proofs.Membership.{mem-map, mem-filter}
use Rattle.automaton.proofs.All.{all_same}
use Rattle.rule.specs.Rule.{Block, Binding, Reading, Line, Event, InWindow, Closes, IsReported, TimesNeverFall}
use Rattle.rule.specs.Rule.{record_in, time_at, binds, choices, passes, in_order, allowed, fires, is_full, last_of}
use Rattle.rule.specs.Rule.{start_of, gap_mark, past_mark, end_mark, complete_mark}
use Rattle.rule.specs.Growth.{Kept, Partial, Live, Reported}
use Rattle.rule.specs.Calls.{input_answer, pattern_in, block_in}
use Rattle.rule.specs.Computed.{is_event, in_window}
use Rattle.rule.proofs.LiveReadings.{event-yes, event-no, kept_on}
use Rattle.rule.proofs.LiveOrder.{start-le}
use Rattle.rule.proofs.EveryReading.{below}
use Rattle.rule.proofs.Written.{live-after, reported-written}
use Rattle.rule.proofs.Inputs.{times-never-fall, input-in-order}
use Rattle.rule.proofs.GapMarks.{complete-takes-none}

-- C has the first k records of B
pub record SameFront (B C : Block) (k : ℕ) : Type 0 where
  pub size : k ≤ length C
  pub records : (i : ℕ) → i < k → record_in B i ≡ record_in C i

module _ (p : Pattern) (B C : Block) (k : ℕ) (same : SameFront B C k) where
  -- ## Steps that look at the first k records alone

  choice-front :
      (r : Reading) (v j u : ℕ) → j < k → ((b : Binding) → Memᴰ b r → b.at < k)
      → (a : ℕ) → Memᴰ a (choices r v j u)
      → a < k
  unfolding choices
  choice-front r v j u l h a m = go (eqb u v) m
    where
      go :
          (t : Bool)
          → Memᴰ a (elim t [
            | true ↦ j ∷ []
            | false ↦ map (λ (b : Binding). b.at) (filter (λ (b : Binding). eqb b.variable u) r)
          ]) → a < k
      go true m = omega (arith, Memᴰ.eq_of_singleton m)
      go false m =
          let q = mem-map (λ (b : Binding). b.at) (filter (λ (b : Binding). eqb b.variable u) r) m in
          let f = mem-filter (λ (b : Binding). eqb b.variable u) r q.1 in
          omega (arith, h q.0 f.1, q.2)

  module _ (r : Reading) (j : ℕ) (l : j < k) (h : (b : Binding) → Memᴰ b r → b.at < k) (v : ℕ) where
    passes-front : (c : Condition) → passes B r v j c ≡ passes C r v j c
    unfolding passes
    passes-front c = go (eqb c.form 0)
      where
        tests : Block → Bool → Bool
        tests D t =
            elim t [
              | true ↦ holds c (record_in D j) (record_in D j)
              | false ↦ all
                  (λ a. all (λ b. holds c (record_in D a) (record_in D b)) (choices r v j c.variable2))
                  (choices r v j c.variable)
            ]

        go : (t : Bool) → tests B t ≡ tests C t
        go true = ap (λ (x : Record). holds c x x) (same.records j l)
        go false =
            all_same _ _ (choices r v j c.variable) (λ a m.
            all_same _ _ (choices r v j c.variable2) (λ b n.
            ap₂ (λ (x y : Record). holds c x y)
            (same.records a (choice-front r v j c.variable l h a m))
            (same.records b (choice-front r v j c.variable2 l h b n))))

    in-order-front : in_order p B r v j ≡ in_order p C r v j
    unfolding in_order
    in-order-front =
        ap (implies (marked p (binds r) v))
        (all_same (λ (b : Binding). ltb (time_at B b.at) (time_at B j)) (λ (b : Binding). ltb (time_at C b.at) (time_at C j)) r (λ b m.
        ap₂ (λ (x y : Record). ltb x.time y.time) (same.records b.at (h b m)) (same.records j l)))

    allowed-front : allowed p B r v j ≡ allowed p C r v j
    unfolding allowed
    allowed-front =
        all_same (λ c. implies (carries (binds r) v c) (passes B r v j c)) (λ c. implies (carries (binds r) v c) (passes C r v j c)) (conditions p) (λ c m.
        ap (implies (carries (binds r) v c)) (passes-front c))

    fires-front : fires p B r v j ≡ fires p C r v j
    unfolding fires
    fires-front = ap₂ (λ (s t : Bool). leaves p (binds r) v && (s && t)) in-order-front allowed-front

  -- ## Readings of the first k records

  event-front : (i : ℕ) → i < k → Event B i → Event C i
  event-front i l e = sym (ap (λ (x : Record). x.kind) (same.records i l)) ∙ e

  module _ (r : Reading) (h : Partial p B r) (l : last_of r < k) where
    bound-front : (b : Binding) → Memᴰ b r → b.at < k
    bound-front = go r h l
      where
        go : (r : Reading) → Partial p B r → last_of r < k → (b : Binding) → Memᴰ b r → b.at < k
        go [] h l b _ = elim h [ ]
        go (x ∷ r) h l b (Memᴰ.head e) = omega (arith, l, ap (λ (c : Binding). c.at) e)
        go (x ∷ r) h l b (Memᴰ.tail m) = omega (arith, l, below p B x r h m)

    near-front : (i : ℕ) → i < k → InWindow p B r i → InWindow p C r i
    near-front i m w =
        let start : start_of r < k = omega (arith, start-le p B r h) in
        omega (arith, w, ap (λ (x : Record). x.time) (same.records i m), ap (λ (x : Record). x.time) (same.records (start_of r) start))

    kept-front : (n : ℕ) → n ≤ k → Kept p B r n → Kept p C r n
    kept-front n few q =
        record {
          later = q.later;
          passed = λ i lo hi.
              let old = q.passed i lo hi in
              let m : i < k = omega arith in
              record {
                event = event-front i m old.event;
                near = near-front i m old.near;
                none = λ v. sym (fires-front r i m bound-front v) ∙ old.none v;
              };
        }

  partial-front : (r : Reading) → Partial p B r → last_of r < k → Partial p C r
  partial-front [] h l = h
  partial-front (b ∷ []) h l =
      (event-front b.at l h.0, sym (fires-front [] b.at l (λ c m. absurd (Memᴰ.not-nil m)) b.variable) ∙ h.1)
  partial-front (a ∷ b ∷ r) h l =
      let before : b.at < k = omega (arith, l, h.1.later) in (
        partial-front (b ∷ r) h.0 before,
        kept-front (b ∷ r) h.0 before a.at (omega arith) h.1,
        record {
          event = event-front a.at l h.2.event;
          near = near-front (b ∷ r) h.0 before a.at l h.2.near;
          fire = sym (fires-front (b ∷ r) a.at l (bound-front (b ∷ r) h.0 before) a.variable) ∙ h.2.fire;
        },
      )

  live-front : (r : Reading) → Live p B r k → Live p C r k
  live-front r q =
      let l = q.kept.later in
      record { reads = partial-front r q.reads l; kept = kept-front r q.reads l k (omega arith) q.kept }

-- ## To the end of the block

-- what no event can be bound to stays as it is until it closes
module _ (p : Pattern) (o : InOrder p) (C : Block) (r : Reading) (full : is_full p r ≡ true)
    (complete : gap_mark p ≡ complete_mark) where
  ends : (n k : ℕ) → k + n ≡ length C → Live p C r k
      → (m : ℕ) × Reported p C (length C) (record { mark = m; reading = r })
  unfolding in_window
  ends zero k e q =
      (end_mark, record { at = k; by = omega arith; live = q; closes = Closes.end (omega arith) refl; full = full })
  ends (suc n) k e q =
      by-test (is_event C k)
      (λ event.
      by-test (in_window p C r k)
      (λ near.
      ends n (suc k) (omega arith)
      (record {
        reads = q.reads;
        kept = kept_on p C r k q.kept (record {
          event = event-yes p C k event;
          near = leb-true _ _ near;
          none = λ v. complete-takes-none p o r full complete C v k;
        });
      }))
      (λ far. (
        past_mark,
        record {
          at = k;
          by = omega arith;
          live = q;
          closes = Closes.past (event-yes p C k event) (λ w. let z : time_at C (start_of r) + p.duration < time_at C k = leb-false _ _ far in omega arith) refl;
          full = full;
        },
      )))
      (λ gap. (
        gap_mark p,
        record {
          at = k;
          by = omega arith;
          live = q;
          closes = Closes.gap (omega arith) (event-no p C k gap) refl;
          full = full;
        },
      ))

-- mark 4 is given by the gap of a pattern alone
by-gap :
    (p : Pattern) (B : Block) (r : Reading) (j m : ℕ) → Closes p B r j m → m ≡ complete_mark
    → gap_mark p ≡ complete_mark
by-gap p B r j m (Closes.gap a b e) c = sym e ∙ c
by-gap p B r j m (Closes.past a b e) c = absurd (omega arith)
by-gap p B r j m (Closes.end a e) c = absurd (omega arith)

pub complete-stands :
    (p : Pattern) → InOrder p → (B C : Block) → TimesNeverFall B → TimesNeverFall C
    → (J : ℕ) (x : Line) (h : IsReported p B J x) → x.mark ≡ complete_mark → SameFront B C (suc h.after)
    → (m : ℕ) × IsReported p C (length C) (record { mark = m; reading = x.reading })
complete-stands p o B C rising also J x h mark same =
    let k = suc h.after in
    let complete = by-gap p B x.reading k x.mark h.closes mark in
    let q = live-front p B C k same x.reading (live-after p B rising x.reading h.after h.live) in
    let e : k + (length C - k) ≡ length C = omega (arith, same.size) in
    let done = ends p o C x.reading h.full complete (length C - k) k e q in
    (done.0, reported-written p C also (length C) _ done.1)

-- the same from the caller's bytes, of one block and of another
pub input-complete-stands :
    (pattern block other : List ℕ) → (input_answer pattern block).code ≡ 0 → (input_answer pattern other).code ≡ 0
    → (J : ℕ) (x : Line) (h : IsReported (pattern_in pattern) (block_in block) J x) → x.mark ≡ complete_mark
    → SameFront (block_in block) (block_in other) (suc h.after)
    → (m : ℕ)
    × IsReported (pattern_in pattern) (block_in other) (length (block_in other)) (record { mark = m; reading = x.reading })
input-complete-stands pattern block other accepted also J x h mark same =
    let q = input-in-order pattern block accepted in
    let r = input-in-order pattern other also in
    complete-stands (pattern_in pattern) q.checked (block_in block) (block_in other)
    (times-never-fall block q.ordered)
    (times-never-fall other r.ordered)
    J
    x
    h
    mark
    same
