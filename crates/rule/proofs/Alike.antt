-- Two blocks are alike to a pattern if they have as many records, of the same kinds and times, and the same steps fire
-- in both. The rule makes the same of two such blocks: the same readings, closings, report, counts and refusals. So
-- what meets the promise of a pass over one of them meets it over the other. Assumes nothing.
use mathlib.Core.Path.{◌≡◌, sym, subst, ◌∙◌}
use mathlib.Core.Logic.{◌⊎◌, inl, inr}
use mathlib.Core.Bool.{false}
use mathlib.Core.List.{List}
use Prim.Native.Nat.{ℕ, zero, suc, ◌<◌}
use native.Mathlib.Omega.{arith}
use lib.ListN.{length}
use Rattle.records.specs.declared.Answer.{Answer}
use Rattle.patterns.specs.declared.Pattern.{Pattern}
use Rattle.rule.specs.Rule.{Block, Binding, Reading, Line, Event, InWindow, Follows, PartialReading, LiveAfter}
use Rattle.rule.specs.Rule.{Closes, IsReported, Report, record_in, time_at, start_of, fires}
use Rattle.rule.specs.Promises.{LiveCount, IsPeak, TooLong, Twice, TooMany, NoRoom, Meets, Outcome, Forward}
use Rattle.rule.specs.Promises.{StartByStart, Measure}

pub record Alike (p : Pattern) (B C : Block) : Type 0 where
  pub size : length B ≡ length C
  pub kind : (i : ℕ) → (record_in B i).kind ≡ (record_in C i).kind
  pub time : (i : ℕ) → time_at B i ≡ time_at C i
  pub fire : (r : Reading) (v j : ℕ) → fires p B r v j ≡ fires p C r v j

alike-back : (p : Pattern) (B C : Block) → Alike p B C → Alike p C B
alike-back p B C a =
    record {
      size = sym a.size;
      kind = λ i. sym (a.kind i);
      time = λ i. sym (a.time i);
      fire = λ r v j. sym (a.fire r v j);
    }

-- ## Readings and how they close

module _ (p : Pattern) (B C : Block) (a : Alike p B C) where
  event : (i : ℕ) → Event B i → Event C i
  event i e = sym (a.kind i) ∙ e

  event-back : (i : ℕ) → Event C i → Event B i
  event-back i e = a.kind i ∙ e

  window : (r : Reading) (i : ℕ) → InWindow p B r i → InWindow p C r i
  window r i h = omega (arith, h, a.time i, a.time (start_of r))

  window-back : (r : Reading) (i : ℕ) → InWindow p C r i → InWindow p B r i
  window-back r i h = omega (arith, h, a.time i, a.time (start_of r))

  no-fire : (r : Reading) (v i : ℕ) → fires p B r v i ≡ false → fires p C r v i ≡ false
  no-fire r v i h = sym (a.fire r v i) ∙ h

  follows : (s : Reading) (b : Binding) → Follows p B s b → Follows p C s b
  follows s b f =
      record {
        event = event b.at f.event;
        fire = sym (a.fire s b.variable b.at) ∙ f.fire;
        rising = f.rising;
        no_fire = λ n i l h e v. no-fire s v i (f.no_fire n i l h (event-back i e) v);
        window = λ n. window s b.at (f.window n);
        no_gap = λ n i l h. event i (f.no_gap n i l h);
      }

  reads : (r : Reading) → PartialReading p B r → PartialReading p C r
  reads r h = record { one_or_more = h.one_or_more; each = λ t b s e. follows s b (h.each t b s e) }

  live : (r : Reading) (j : ℕ) → LiveAfter p B r j → LiveAfter p C r j
  live r j h =
      record {
        reads = reads r h.reads;
        up_to = h.up_to;
        no_gap = λ i l m. event i (h.no_gap i l m);
        window = window r j h.window;
        no_fire = λ i l m e v. no-fire r v i (h.no_fire i l m (event-back i e) v);
      }

  closes : (r : Reading) (j m : ℕ) → Closes p B r j m → Closes p C r j m
  closes r j m (Closes.gap l n e) = Closes.gap (omega (arith, a.size)) (λ h. n (event-back j h)) e
  closes r j m (Closes.past h n e) = Closes.past (event j h) (λ w. n (window-back r j w)) e
  closes r j m (Closes.end h e) = Closes.end (h ∙ a.size) e

  reported : (J : ℕ) (x : Line) → IsReported p B J x → IsReported p C J x
  reported J x h =
      record {
        after = h.after;
        live = live x.reading h.after h.live;
        closes = closes x.reading (suc h.after) x.mark h.closes;
        by = h.by;
        full = h.full;
      }

  too_long : (j : ℕ) → TooLong p B j → TooLong p C j
  too_long j t = record { reading = t.reading; reads = reads t.reading t.reads; ends = t.ends; long = t.long }

  twice : (j : ℕ) → Twice p B j → Twice p C j
  twice j t =
      record {
        last = t.last;
        before = t.before;
        reads = reads _ t.reads;
        ends = t.ends;
        other = t.other;
        bound = t.bound;
        same = t.same;
      }

-- ## Reports, counts and refusals

module _ (p : Pattern) (B C : Block) (a : Alike p B C) where
  report : (J : ℕ) (l : List Line) → Report p B J l → Report p C J l
  report J l r =
      record {
        rising = r.rising;
        sound = λ x m. reported p B C a J x (r.sound x m);
        complete = λ x h. r.complete x (reported p C B (alike-back p B C a) J x h);
      }

  count : (j n : ℕ) → LiveCount p B j n → LiveCount p C j n
  count j n c =
      record {
        readings = c.readings;
        distinct = c.distinct;
        sound = λ r m. live p B C a r j (c.sound r m);
        complete = λ r h. c.complete r (live p C B (alike-back p B C a) r j h);
        size = c.size;
      }

  no_room : (room J : ℕ) → NoRoom p B room J → NoRoom p C room J
  no_room room J n = record { lines = n.lines; report = report J n.lines n.report; more = n.more }

  too_many : (L j : ℕ) → TooMany p B L j → TooMany p C L j
  too_many L j t = record { number = t.number; count = count j t.number t.count; more = t.more }

  meets : (L room j t : ℕ) → Meets p B L room j t → Meets p C L room j t
  meets L room j zero h = no_room room j h
  meets L room j (suc zero) h = too_long p B C a j h
  meets L room j (suc (suc zero)) h = twice p B C a j h
  meets L room j (suc (suc (suc zero))) h = too_many L j h
  meets L room j (suc (suc (suc (suc t)))) h = absurd h

-- ## The promises

module _ (p : Pattern) (B C : Block) (a : Alike p B C) where
  back : Alike p C B
  back = alike-back p B C a

  whole : (l : List Line) → Report p B (length B) l → Report p C (length C) l
  whole l r = subst (λ J. Report p C J l) a.size (report p B C a (length B) l r)

  peak : (n : ℕ) → IsPeak p B n → IsPeak p C n
  peak n h =
      record {
        most = λ j m l c. h.most j m (omega (arith, l, a.size)) (count p C B back j m c);
        reached = go h.reached;
      }
    where
      go : (n ≡ 0) ⊎ ((j : ℕ) × (j < length B) × LiveCount p B j n)
          → (n ≡ 0) ⊎ ((j : ℕ) × (j < length C) × LiveCount p C j n)
      go (inl e) = inl e
      go (inr r) = inr (r.0, omega (arith, r.1, a.size), count p B C a r.0 n r.2)

  none-long : ((i : ℕ) → ¬ TooLong p B i) → (i : ℕ) → ¬ TooLong p C i
  none-long n i t = n i (too_long p C B back i t)

  none-twice : ((i : ℕ) → ¬ Twice p B i) → (i : ℕ) → ¬ Twice p C i
  none-twice n i t = n i (twice p C B back i t)

  pub forward-alike : (L room : ℕ) (o : Outcome) → Forward p B L room o → Forward p C L room o
  forward-alike L room o (Forward.refuses j t l m n e) =
      Forward.refuses j t (omega (arith, l, a.size)) (meets p B C a L room j t m)
      (λ i u h k. n i u h (meets p C B back L room i u k))
      e
  forward-alike L room o (Forward.succeeds l k n r h e) =
      Forward.succeeds l k (λ i u m g. n i u (omega (arith, m, a.size)) (meets p C B back L room i u g)) (whole l r)
      (peak k h)
      e

  pub start-by-start-alike : (room : ℕ) (o : Outcome) → StartByStart p B room o → StartByStart p C room o
  start-by-start-alike room o (StartByStart.long j t n e) =
      StartByStart.long j (too_long p B C a j t) (λ i l u. n i l (too_long p C B back i u)) e
  start-by-start-alike room o (StartByStart.twice j n t m e) =
      StartByStart.twice j (none-long n) (twice p B C a j t) (λ i l u. m i l (twice p C B back i u)) e
  start-by-start-alike room o (StartByStart.full_up n m r e) =
      StartByStart.full_up (none-long n) (none-twice m)
      (subst (NoRoom p C room) a.size (no_room p B C a room (length B) r))
      e
  start-by-start-alike room o (StartByStart.done l n m r h e) =
      StartByStart.done l (none-long n) (none-twice m) (whole l r) h e

  pub measure-alike : (o : Answer) → Measure p B o → Measure p C o
  measure-alike o (Measure.long j t n e) =
      Measure.long j (too_long p B C a j t) (λ i l u. n i l (too_long p C B back i u)) e
  measure-alike o (Measure.twice j n t m e) =
      Measure.twice j (none-long n) (twice p B C a j t) (λ i l u. m i l (twice p C B back i u)) e
  measure-alike o (Measure.done l n m r e) = Measure.done l (none-long n) (none-twice m) (whole l r) e
