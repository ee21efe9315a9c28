-- The pass record by record: what is known before each record, how a record stops the pass or goes on, and the end.
-- Assumes nothing.
use mathlib.Core.Path.{◌≡◌, refl, sym, ap, subst, ◌∙◌}
use mathlib.Core.Logic.{inl}
use mathlib.Core.Bool.{Bool, true, false, ◌&&◌}
use mathlib.Core.List.Memᴰ
use mathlib.Core.List.{List, [], ◌∷◌, ◌++◌, map, Memᴰ}
use Prim.Native.Nat.{ℕ, suc, ◌+◌, ◌-◌, ◌*◌, ◌^◌, ◌/◌, ◌≤◌, ◌<◌, max}
use native.Mathlib.Nat.{max_comm}
use native.Mathlib.Numerals.{add-one}
use native.Mathlib.Omega.{arith}
use borrow.Author.Tests.{lt-ltb, le-ltb, ltb-false}
use lib.Dec.{eqb, ltb}
use lib.ListN.{length, get_or, replicate, length-map}
use Rattle.numbers.specs.Numbers.{bytes_of}
use Rattle.numbers.proofs.Cases.{by-test}
use Rattle.records.specs.declared.Answer.{Answer}
use Rattle.records.specs.Records.{record_count, records_of}
use Rattle.records.specs.Blocks.{refused}
use Rattle.records.proofs.Listed.{length-records}
use Rattle.patterns.specs.declared.Pattern.{Pattern}
use Rattle.rule.specs.Rule.{Block, Reading, Line, pack, end_mark, gap_mark, last_of, start_of}
use Rattle.rule.specs.Growth.{Partial}
use Rattle.rule.specs.Promises.{most_bindings, refused_with, success}
use Rattle.rule.specs.Calls.{most_live}
use Rattle.rule.specs.Computed.{is_event, live, lines, closing, closed, report, is_met, peak, scan, forward, any}
use Rattle.rule.proofs.LiveReadings.{event-yes, live-sound}
use Rattle.rule.proofs.LiveOrder.{start-lt}
use Rattle.rule.proofs.Report.{event-in}
use Rattle.slots.specs.Slots.{Held, slot_bytes, holding, count_in, held_in, slot_at, slots_at}
use Rattle.slots.proofs.Slots.{length-held_in}
use Rattle.firing.specs.Firing.{Fit}
use Rattle.firing.proofs.Seated.{fit-holding}
use Rattle.closings.specs.Closings.{gap_mark_by}
use Rattle.closings.proofs.GapMarks.{gap-mark-by}
use Rattle.live.specs.Live.{step_by, is_long, long, can_at}
use Rattle.live.specs.Memory.{Standing, Ready, Stands, Moved}
use Rattle.live.proofs.Parts.{length-slot_at}
use Rattle.live.proofs.TooLong.{slots-short, slots-short-of}
use Rattle.live.proofs.Halves.{start-in}
use Rattle.forward.specs.Closing.{mark_by, Begun, gone_by, lines_by}
use Rattle.forward.specs.Lines.{Told, Wrote}
use Rattle.forward.specs.Passes.{Prepared, Ran}
use Rattle.forward.proofs.HeldByRule.{known, lines-held}
use Rattle.forward.proofs.OneRecord.{slot-holds, slot-mem, gone-le, closing-held, next-held, long-met}
use Rattle.forward.proofs.OneRecord.{short-live, live-short, live-gap}

-- ## The scan, record by record

module _ (p : Pattern) (B : Block) (L room j n : ℕ) where
  scan-11 : is_met p B L room j 0 ≡ true → scan p B L room j (suc n) ≡ refused_with room 11 0
  unfolding scan
  scan-11 e = rw (e, scan)

  scan-9 : is_met p B L room j 0 ≡ false → is_met p B L room j 1 ≡ true → scan p B L room j (suc n) ≡ refused_with room 9 j
  unfolding scan
  scan-9 d e = rw (d, e, scan)

  scan-10 :
      is_met p B L room j 0 ≡ false → is_met p B L room j 1 ≡ false → is_met p B L room j 3 ≡ true
      → scan p B L room j (suc n) ≡ refused_with room 10 j
  unfolding scan
  scan-10 c d e = rw (c, d, e, scan)

  scan-on :
      is_met p B L room j 0 ≡ false → is_met p B L room j 1 ≡ false → is_met p B L room j 3 ≡ false
      → scan p B L room j (suc n) ≡ scan p B L room (suc j) n
  unfolding scan
  scan-on c d e = rw (c, d, e, scan)

closed-more : (p : Pattern) (B : Block) (k : ℕ) → closed p B (suc k) ≡ closed p B k ++ closing p B k (live p B k)
unfolding closed
closed-more p B k = refl

met-11 : (p : Pattern) (B : Block) (L room j : ℕ) → is_met p B L room j 0 ≡ ltb room (length (pack (closed p B (suc j))))
unfolding is_met
met-11 p B L room j = refl

met-10 : (p : Pattern) (B : Block) (L room j : ℕ) → is_met p B L room j 3 ≡ ltb L (length (live p B (suc j)))
unfolding is_met
met-10 p B L room j = refl

peak-more : (p : Pattern) (B : Block) (k : ℕ) → peak p B (suc k) ≡ max (length (live p B (suc k))) (peak p B k)
unfolding peak
peak-more p B k = refl

-- ## What is known before record i

pub record Going (p : Pattern) (bytes : List ℕ) (limit : ℕ) (lent : List ℕ) (i : ℕ) (work result : List ℕ)
    (half start count : ℕ) (over : Bool) (used readings most : ℕ) : Type 0 where
  pub scans :
      (n : ℕ) → i + n ≡ suc (length (records_of bytes))
      → forward p (records_of bytes) limit (length lent / 2) ≡ scan p (records_of bytes) limit (length lent / 2) i n
  pub held : slots_at work start count ≡ map holding (live p (records_of bytes) i)
  pub small : (r : Reading) → Memᴰ r (live p (records_of bytes) i) → length r ≤ most_bindings
  pub stands : Stands (length work) limit half start count
  pub near : over ≡ false
  pub told : Told lent result used readings false (closed p (records_of bytes) i)
  pub room : used ≤ length result
  pub few : readings ≤ used
  pub high : most ≡ peak p (records_of bytes) i
  pub low : most ≤ limit

told_none : (lent : List ℕ) → Told lent lent 0 0 false []
unfolding bytes_of
told_none lent =
    record {
      size = refl;
      fits = sym (le-ltb (length lent / 2) 0 (omega arith));
      used_is = λ e. refl;
      readings_is = λ e. refl;
      told = λ e. refl;
    }

pub going_start :
    (p : Pattern) (bytes : List ℕ) (limit : ℕ) (lent work : List ℕ) → limit ≤ most_live
    → slot_bytes * limit + slot_bytes * limit ≤ length work
    → Going p bytes limit lent 0 work lent 0 0 0 false 0 0 0
unfolding live closed peak slots_at forward
going_start p bytes limit lent work few room =
    record {
      scans = λ n e. let q : suc (length (records_of bytes)) ≡ n = omega arith in ap (scan p (records_of bytes) limit (length lent / 2) 0) q;
      held = refl;
      small = λ r m. absurd (Memᴰ.not-nil m);
      stands = record { room = room; few = few; side = inl refl; from = omega arith; to = omega arith };
      near = refl;
      told = told_none lent;
      room = omega arith;
      few = omega arith;
      high = refl;
      low = omega arith;
    }

module _ {p : Pattern} {plan bytes : List ℕ} (q : Prepared p plan bytes) {limit : ℕ} {lent : List ℕ} {i : ℕ}
    {work result : List ℕ} {half start count : ℕ} {over : Bool} {used readings most : ℕ}
    (g : Going p bytes limit lent i work result half start count over used readings most) where
  abbrev B : Block
  B = records_of bytes

  abbrev lent_room : ℕ
  lent_room = length lent / 2

  pub going-short : long (slots_at work start count) ≡ false
  going-short = ap long g.held ∙ live-short (live p B i) g.small

  module _ (h : i < record_count bytes) where
    -- ## The slots

    abbrev reading : ℕ → Reading
    reading k = get_or (live p B i) k []

    holds : (k : ℕ) → k < count → held_in (slot_at work (start + slot_bytes * k)) ≡ holding (reading k)
    holds k l = slot-holds p q.pattern plan q.made bytes q.times i h work start count g.held k l

    among : (k : ℕ) → k < count → Memᴰ (reading k) (live p B i)
    among k l = slot-mem p q.pattern plan q.made bytes q.times i h work start count g.held k l

    same_length : (k : ℕ) → k < count → count_in (slot_at work (start + slot_bytes * k)) ≡ length (reading k)
    unfolding holding
    same_length k l = sym (length-held_in (slot_at work (start + slot_bytes * k))) ∙ ap (λ (x : Held). length x.bindings) (holds k l)

    pub going-ready : Ready work plan bytes i start count
    going-ready =
        record {
          fit = λ k l.
              let slot : List ℕ = slot_at work (start + slot_bytes * k) in
              let is_Known = known p q.pattern plan q.made bytes q.times i (reading k) (live-sound p B i (among k l)) in
              fit-holding p q.pattern bytes slot i h (reading k) is_Known plan q.made
              (length-slot_at work (start + slot_bytes * k) (omega (arith, start-in g.stands)))
              (omega (arith, same_length k l, g.small (reading k) (among k l)))
              (holds k l);
        }

    pub going-begun : Begun work bytes start count
    unfolding holding
    going-begun =
        record {
          some = λ k l. omega (arith, same_length k l, some-length (reading k) (live-sound p B i (among k l)).reads);
          in_block = λ k l.
              let e = ap (λ (x : Held). start_of x.bindings) (holds k l) in
              omega (arith, start-lt p B i (reading k) (live-sound p B i (among k l)));
        }
      where
        some-length : (r : Reading) → Partial p B r → 1 ≤ length r
        some-length [] r = absurd r
        some-length (b ∷ bs) r = omega arith

    -- ## Closings

    module _ {gone : ℕ} (is_gone : gone ≡ gone_by bytes i p.duration work start count) where
      pub going-gone : gone ≤ count
      going-gone = omega (arith, is_gone, gone-le p q.pattern plan q.made bytes q.times i h work start count g.held)

      -- those that are left can be asked too
      pub left-ready : Ready work plan bytes i (start + slot_bytes * gone) (count - gone)
      left-ready =
          record {
            fit = λ k l.
                let e : start + slot_bytes * gone + slot_bytes * k ≡ start + slot_bytes * (gone + k) = omega arith in
                subst (λ (at : ℕ). Fit plan bytes i (slot_at work at)) (sym e) (going-ready.fit (gone + k) (omega arith));
          }

      pub left-stands : Stands (length work) limit half (start + slot_bytes * gone) (count - gone)
      left-stands =
          let from = g.stands.from in
          let to = g.stands.to in
          let le = going-gone in
          record { room = g.stands.room; few = g.stands.few; side = g.stands.side; from = omega arith; to = omega arith }

      -- the readings that close, and those that are left, are short too
      pub front-short : long (slots_at work start gone) ≡ false
      front-short = slots-short-of work start gone (λ k l. slots-short work start count k going-short (omega (arith, going-gone)))

      pub left-short : long (slots_at work (start + slot_bytes * gone) (count - gone)) ≡ false
      left-short =
          slots-short-of work (start + slot_bytes * gone) (count - gone) (λ k l.
          let e : start + slot_bytes * gone + slot_bytes * k ≡ start + slot_bytes * (gone + k) = omega arith in
          ap (λ (at : ℕ). is_long (held_in (slot_at work at))) e ∙ slots-short work start count (gone + k) going-short (omega arith))

      module _ {gap weight : ℕ} (by_plan : gap ≡ gap_mark_by plan p.n) (is_weight : weight ≡ 2 ^ p.n) {result' : List ℕ}
          {used' readings' : ℕ} {short' : Bool}
          (wrote : Wrote result result' used readings false used' readings' short'
          (lines_by (weight - 1) (mark_by bytes gap i) (slots_at work start gone))) where
        is_gap : gap ≡ gap_mark p
        is_gap = by_plan ∙ gap-mark-by p q.pattern plan q.made

        next-told : Told lent result' used' readings' short' (closed p B (suc i))
        next-told =
            let e : closed p B i ++ lines_by (weight - 1) (mark_by bytes gap i) (slots_at work start gone) ≡ closed p B (suc i) =
            ap (λ (l : List Line). closed p B i ++ l)
            ((λ z. lines_by (is_weight z - 1) (mark_by bytes (is_gap z) i) (slots_at work start (is_gone z)))
            ∙ closing-held p q.pattern plan q.made bytes q.times i h work start count g.held)
            ∙ sym (closed-more p B i) in
            subst (λ (l : List Line). Told lent result' used' readings' short' l) e (wrote.behind lent (closed p B i) g.told)

        goes : forward p B limit lent_room ≡ scan p B limit lent_room i (suc (length B - i))
        goes = g.scans (suc (length B - i)) (omega (arith, length-records bytes))

        pub stop-11 : short' ≡ true → forward p B limit lent_room ≡ refused_with lent_room 11 0
        stop-11 e = goes ∙ scan-11 p B limit lent_room i (length B - i) (met-11 p B limit lent_room i ∙ sym next-told.fits ∙ e)

        -- ## Going on

        -- what goes on becomes, by the variables of `can`
        abbrev next : ℕ → List Held
        next can = step_by plan bytes i can (slots_at work (start + slot_bytes * gone) (count - gone))

        module _ {can : ℕ} (is_can : can ≡ can_at plan p.n p.c bytes i)
            {work' : List ℕ} {half' start' count' : ℕ} {over' : Bool}
            (moved : Moved work work' limit half' start' count' over' (next can))
            (roomy : short' ≡ false) where
          is_live : next can ≡ map holding (live p B (suc i))
          is_live =
              (λ z. step_by plan bytes i (is_can z) (slots_at work (start + slot_bytes * is_gone z) (count - is_gone z)))
              ∙ next-held p q.pattern plan q.made bytes q.times i h work start count g.held

          standing : Standing work' start' limit count' over' (map holding (live p B (suc i)))
          standing = subst (λ (l : List Held). Standing work' start' limit count' over' l) is_live moved.standing

          no-11 : is_met p B limit lent_room i 0 ≡ false
          no-11 = met-11 p B limit lent_room i ∙ sym next-told.fits ∙ roomy

          met-9 : over' ≡ is_met p B limit lent_room i 1
          met-9 = standing.noted ∙ long-met p B i g.small limit lent_room

          next-count : count' ≡ length (live p B (suc i))
          next-count = standing.count ∙ length-map (live p B (suc i)) holding

          pub stop-9 : over' ≡ true → forward p B limit lent_room ≡ refused_with lent_room 9 i
          stop-9 e = goes ∙ scan-9 p B limit lent_room i (length B - i) no-11 (sym met-9 ∙ e)

          pub stop-10 : over' ≡ false → limit < count' → forward p B limit lent_room ≡ refused_with lent_room 10 i
          stop-10 e l =
              goes
              ∙ scan-10 p B limit lent_room i (length B - i) no-11 (sym met-9 ∙ e)
              (met-10 p B limit lent_room i ∙ lt-ltb limit (length (live p B (suc i))) (omega (arith, next-count)))

          pub going_on :
              (most' : ℕ) → over' ≡ false → count' ≤ limit → most' ≡ max most count'
              → Going p bytes limit lent (i + 1) work' result' half' start' count' over' used' readings' most'
          going_on most' e l m =
              let few = le-ltb limit (length (live p B (suc i))) (omega (arith, next-count)) in
              let no-10 : is_met p B limit lent_room i 3 ≡ false = met-10 p B limit lent_room i ∙ few in
              let low = g.low in
              rw add-one
              (record {
                scans = λ n z.
                    let k : length B - i ≡ n = omega (arith, length-records bytes) in
                    goes ∙ scan-on p B limit lent_room i (length B - i) no-11 (sym met-9 ∙ e) no-10 ∙ ap (scan p B limit lent_room (suc i)) k;
                held = standing.held e l;
                small = short-live (live p B (suc i)) (sym standing.noted ∙ e);
                stands = moved.stands l;
                near = e;
                told = subst (λ (s : Bool). Told lent result' used' readings' s (closed p B (suc i))) roomy next-told;
                room = wrote.room;
                few = wrote.few;
                high = m ∙ max_comm most count' ∙ (λ z. max (next-count z) (g.high z)) ∙ sym (peak-more p B i);
                low = omega arith;
              })

  -- ## The end

  module _ (h : record_count bytes ≤ i) (up_to : i ≤ record_count bytes) {weight : ℕ} (is_weight : weight ≡ 2 ^ p.n)
      {result' : List ℕ} {used' readings' : ℕ} {short' : Bool}
      (wrote : Wrote result result' used readings false used' readings' short'
      (lines_by (weight - 1) end_mark (slots_at work start count))) where
    at-end : i ≡ length B
    at-end = omega (arith, length-records bytes)

    no-event : is_event B (length B) ≡ false
    no-event = by-test (is_event B (length B)) (λ e. absurd (let l = event-in p B (length B) (event-yes p B (length B) e) in omega arith)) (λ e. e)

    closing_end : closing p B (length B) (live p B (length B)) ≡ lines p end_mark (live p B (length B))
    unfolding closing
    closing_end = rw (no-event, le-ltb (length B) (length B) (omega arith), closing)

    all_told : Told lent result' used' readings' short' (report p B)
    unfolding report
    all_told =
        let e : closed p B i ++ lines_by (weight - 1) end_mark (slots_at work start count) ≡ closed p B (suc (length B)) =
        (λ z. closed p B (at-end z) ++ lines_by (is_weight z - 1) end_mark ((g.held ∙ ap (λ (k : ℕ). map holding (live p B k)) at-end) z))
        ∙ ap (λ (l : List Line). closed p B (length B) ++ l) (lines-held p q.pattern.few end_mark (live p B (length B)) ∙ sym closing_end)
        ∙ sym (closed-more p B (length B)) in
        subst (λ (l : List Line). Told lent result' used' readings' short' l) e (wrote.behind lent (closed p B i) g.told)

    ends : forward p B limit lent_room ≡ scan p B limit lent_room (length B) 1
    ends = g.scans 1 (omega (arith, at-end)) ∙ ap (λ (k : ℕ). scan p B limit lent_room k 1) at-end

    pub end-11 : short' ≡ true → forward p B limit lent_room ≡ refused_with lent_room 11 0
    unfolding report
    end-11 e = ends ∙ scan-11 p B limit lent_room (length B) 0 (met-11 p B limit lent_room (length B) ∙ sym all_told.fits ∙ e)

    no_9 : is_met p B limit lent_room (length B) 1 ≡ false
    unfolding is_met any
    no_9 = ap (any (λ (r : Reading). eqb (last_of r) (length B) && eqb (length r) (suc most_bindings))) (live-gap p B (length B) no-event)

    no-10 : is_met p B limit lent_room (length B) 3 ≡ false
    no-10 =
        met-10 p B limit lent_room (length B)
        ∙ ap (λ (l : List Reading). ltb limit (length l)) (live-gap p B (length B) no-event)
        ∙ le-ltb limit 0 (omega arith)

    end-done : short' ≡ false → forward p B limit lent_room ≡ success lent_room (report p B) (peak p B (length B))
    unfolding report scan
    end-done e = ends ∙ scan-on p B limit lent_room (length B) 0 (met-11 p B limit lent_room (length B) ∙ sym all_told.fits ∙ e) no_9 no-10

    pub end-ran :
        (answer : Answer) → short' ≡ false
        → answer ≡ record { code = 0; place = 0; used = used' / 2; readings = readings'; peak = most }
        → Ran p bytes limit lent result' answer
    end-ran answer e a =
        let used_is = all_told.used_is e in
        let half_used : used' / 2 ≡ length (pack (report p B)) = omega arith in
        let high : most ≡ peak p B (length B) = g.high ∙ ap (peak p B) at-end in
        let is-answer : answer ≡ (success lent_room (report p B) (peak p B (length B))).answer =
        a ∙ (λ z. record { code = 0; place = 0; used = half_used z; readings = all_told.readings_is e z; peak = high z }) in
        record {
          refuses = λ n. absurd (n (ap (λ (x : Answer). x.code) a));
          succeeds = λ z.
              record {
                lines = report p B;
                is = end-done e ∙ (λ y. record { answer = sym is-answer y; numbers = pack (report p B) ++ replicate (lent_room - length (pack (report p B))) 0 });
                used = ap (λ (x : Answer). x.used) is-answer;
                fits = ltb-false lent_room (length (pack (report p B))) (sym all_told.fits ∙ e);
                told = all_told.told e;
              };
        }

pub ran-refused :
    (p : Pattern) (bytes : List ℕ) (limit : ℕ) (lent result : List ℕ) (answer : Answer) (code place : ℕ)
    → answer ≡ refused (suc code) place
    → forward p (records_of bytes) limit (length lent / 2) ≡ refused_with (length lent / 2) (suc code) place
    → Ran p bytes limit lent result answer
ran-refused p bytes limit lent result answer code place a e =
    record {
      refuses = λ n. e ∙ (λ z. record { answer = sym a z; numbers = replicate (length lent / 2) 0 });
      succeeds = λ z. absurd (let y = ap (λ (x : Answer). x.code) a in omega arith);
    }
