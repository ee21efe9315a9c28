-- One start after another: what each way out of a start comes to, and what is left to be done. Assumes nothing.
use Rattle.std.proofs.Common.{◌≡◌, sym, ap, subst, ◌∙◌, List, [], ℕ, suc, ◌+◌, ◌-◌, ◌/◌, ◌≤◌, ◌<◌, ◌^◌, add-one}
use Rattle.std.proofs.Common.{arith, eqb, length, eqb-true}
use mathlib.Core.List.{Memᴰ}
use borrow.Author.Tests.{eqb-false}
use Rattle.numbers.proofs.Cases.{by-test}
use Rattle.records.specs.Records.{record_at, record_count, records_of, event_kind}
use Rattle.records.proofs.Listed.{length-records}
use Rattle.patterns.specs.declared.Pattern.{Pattern}
use Rattle.rule.specs.Rule.{Block, fires, gap_mark}
use Rattle.automaton.proofs.Membership.{upto-mem, collect-mem}
use Rattle.rule.specs.Starts.Found.{over}
use Rattle.rule.specs.Starts.{Found, until, mark_of, with_binding, skip_until, start_found, found_from, found_all}
use Rattle.rule.proofs.SkipBranch.{start-event, found-end, found_all_lem, found_first}
use Rattle.rule.proofs.SkipBranch.{start-gap as found-gap}
use Rattle.slots.specs.Slots.{slot_bytes, count_in, held_in}
use Rattle.closings.proofs.GapMarks.{gap-mark-by}
use Rattle.reach.specs.declared.Start.{Start}
use Rattle.starts.specs.declared.Counts.{Counts}
use Rattle.closings.specs.declared.Window.{Window}
use Rattle.starts.specs.Sinks.{Sink, sink_of, stop, emits, Same}
use Rattle.starts.specs.Sinks.Same.{equal}
use Rattle.reach.specs.Readings.{firing_by, Usable, Of}
use Rattle.starts.specs.Skips.{By, Firing, Branching, Settled, give_up, Branched, branch_over}
use Rattle.starts.specs.Skips.{AllStarted}
use Rattle.closings.specs.Closings.{gap_mark_by, WindowIs}
use Rattle.sweep.specs.Floors.{Floor}
use Rattle.starts.proofs.Sinks.{emits-append}
use Rattle.starts.proofs.Same.{same_refl, same-trans, same-emits, cut}
use Rattle.reach.proofs.Readings.{nothing, firing-begins, firing-bound, empty-reads}
use Rattle.closings.proofs.Windows.{is-event, is-gap}
use Rattle.reach.proofs.MaskInTurn.{turn-none, mask-turn, low_bits}
use Rattle.starts.proofs.Skips.{few_bits, all-taken, settled-idle}

-- one start's findings are among all of them
found-mem :
    (p : Pattern) (B : Block) (i : ℕ) → i < length B → {x : Found} → Memᴰ x (start_found p B i)
    → Memᴰ x (found_all p B)
unfolding found_all found_from
found-mem p B i l m = collect-mem (start_found p B) (upto-mem 0 (length B) i (omega arith) (omega arith)) m

-- the mark of a gap by the plan is that of each pattern that the plan is made of
pub gap_of :
    (plan bytes : List ℕ) (n c gap : ℕ) → gap ≡ gap_mark_by plan n → (p : Pattern) → Of p plan bytes n c
    → gap_mark p ≡ gap
gap_of plan bytes n c gap e p o =
    sym (gap-mark-by p o.order plan o.made) ∙ ap (gap_mark_by plan) (sym o.variables) ∙ sym e

-- a start as it is handed on, by its window
abbrev pub start_of : ℕ → ℕ → ℕ → Window → ℕ → ℕ → ℕ → Start
start_of n c duration w floor most limit =
    record {
      n = n;
      c = c;
      duration = duration;
      until = w.until;
      mark = w.mark;
      floor = floor;
      most = most;
      limit = limit;
    }

-- the counts as a start begins with so many branches
abbrev pub with_steps : Counts → ℕ → Counts
with_steps counts steps = record { used = counts.used; readings = counts.readings; least = counts.least; steps = steps }

-- what is found from record i, unless the start was given up
pub record Started (plan bytes : List ℕ) (n c duration most i : ℕ) (before after : Sink) : Type 0 where
  pub found :
      (p : Pattern) → Of p plan bytes n c → p.duration ≡ duration
      → Same most after (emits before (start_found p (records_of bytes) i))

module _ (plan bytes : List ℕ) (n c duration most i : ℕ) (usable : Usable plan bytes n c)
    (inside : i < record_count bytes) where
  pub started-gap :
      ((record_at bytes i).kind ≡ event_kind → ⊥) → (before : Sink) → Started plan bytes n c duration most i before before
  unfolding emits
  started-gap e before =
      record {
        found = λ p o d.
            subst (λ (l : List Found). Same most before (emits before l)) (sym (found-gap p (records_of bytes) i (is-gap bytes i inside e)))
            (same_refl most before);
      }

  module _ (firing : ℕ) (is : firing ≡ firing_by plan bytes n c i nothing) where
    -- the readings that begin at record i, by the mask of the variables that fire there
    start-over :
        (record_at bytes i).kind ≡ event_kind → (p : Pattern) → Of p plan bytes n c
        → start_found p (records_of bytes) i
        ≡ branch_over p (records_of bytes) (mark_of p (records_of bytes) i) (until p (records_of bytes) i) i [] firing
    start-over event p o =
        start-event p (records_of bytes) i (is-event bytes i inside event)
        ∙ mask-turn (λ v. fires p (records_of bytes) [] v i)
        (λ w. skip_until p (records_of bytes) (mark_of p (records_of bytes) i) (until p (records_of bytes) i) (suc i) (with_binding [] w i))
        p.n firing
        (is ∙ firing-begins p plan bytes n c o i inside)

    pub started_none : firing ≡ 0 → (before : Sink) → Started plan bytes n c duration most i before before
    unfolding emits
    started_none e before =
        by-test (eqb (record_at bytes i).kind event_kind)
        (λ t.
        record {
          found = λ p o d.
              subst (λ (l : List Found). Same most before (emits before l))
              (sym (start-over (eqb-true (record_at bytes i).kind event_kind t) p o
              ∙ turn-none (λ w. skip_until p (records_of bytes) (mark_of p (records_of bytes) i) (until p (records_of bytes) i) (suc i) (with_binding [] w i)) p.n firing e))
              (same_refl most before);
        })
        (λ t. started-gap (eqb-false (record_at bytes i).kind event_kind t) before)

    module _ (event : (record_at bytes i).kind ≡ event_kind) (slot : List ℕ) (none : held_in slot ≡ nothing) (s : Start)
        (gap : ℕ) (of-gap : (p : Pattern) → Of p plan bytes n c → gap_mark p ≡ gap) (w : Window)
        (window : WindowIs bytes duration gap i w)
        (is-start : s ≡ start_of n c duration w s.floor most s.limit) where
      same-until : s.until ≡ w.until
      same-until = ap (λ (x : Start). x.until) is-start

      same-mark : s.mark ≡ w.mark
      same-mark = ap (λ (x : Start). x.mark) is-start

      same-n : s.n ≡ n
      same-n = ap (λ (x : Start). x.n) is-start

      same-c : s.c ≡ c
      same-c = ap (λ (x : Start). x.c) is-start

      same-duration : s.duration ≡ duration
      same-duration = ap (λ (x : Start). x.duration) is-start

      same-most : s.most ≡ most
      same-most = ap (λ (x : Start). x.most) is-start

      -- a pattern of the plan by the start is one by the call, and the other way round
      by_call : (p : Pattern) → By p plan bytes s → (Of p plan bytes n c) × (p.duration ≡ duration)
      by_call p o =
          (subst (λ (k : ℕ). Of p plan bytes k c) same-n (subst (λ (k : ℕ). Of p plan bytes s.n k) same-c o.of), o.duration ∙ same-duration)

      by-start : (p : Pattern) → Of p plan bytes n c → p.duration ≡ duration → By p plan bytes s
      by-start p o d =
          record {
            of = subst (λ (k : ℕ). Of p plan bytes s.n k) (sym same-c) (subst (λ (k : ℕ). Of p plan bytes k c) (sym same-n) o);
            duration = d ∙ sym same-duration;
          }

      -- the list of the start's branch
      start-list :
          (p : Pattern) → By p plan bytes s
          → branch_over p (records_of bytes) s.mark s.until i (held_in slot).bindings firing
          ≡ start_found p (records_of bytes) i
      start-list p o =
          let q = by_call p o in
          (λ k. branch_over p (records_of bytes) ((same-mark ∙ window.mark p q.1 (of-gap p q.0)) k) ((same-until ∙ window.closes p q.1) k) i (none k).bindings firing)
          ∙ sym (start-over event p q.0)

      start-firing : length slot ≡ slot_bytes → count_in slot ≡ 0 → Firing plan bytes s slot i firing
      start-firing size count =
          let after = window.after in
          let end = window.block in
          let u = same-until in
          let few = usable.variables in
          let mark = window.small in
          let m = same-mark in
          let small : firing < 2 ^ n = rw is (firing-bound plan bytes n c i nothing) in
          record {
            ready =
                record {
                  usable = rw (same-n, same-c) usable;
                  mark = omega arith;
                  block = omega arith;
                  within = omega arith;
                  reads = empty-reads slot s.n i none size count;
                };
            before = omega arith;
            room = omega arith;
            variables = few_bits n firing usable.variables small;
            known = λ v t. let l = low_bits firing n v small t in omega (arith, same-n);
          }

      module _ (size : length slot ≡ slot_bytes) (count : count_in slot ≡ 0) (some : firing ≡ 0 → ⊥)
          (floor : Floor plan bytes n c duration s.floor) where
        fire-all : firing ≡ firing_by plan bytes s.n s.c i (held_in slot)
        fire-all = is ∙ (λ k. firing_by plan bytes (sym same-n k) (sym same-c k) i (sym none k))

        -- what is found of the reading of no bindings is what is found from the start
        whole-list :
            (p : Pattern) → By p plan bytes s
            → skip_until p (records_of bytes) s.mark s.until i (held_in slot).bindings
            ≡ start_found p (records_of bytes) i
        whole-list p o =
            all-taken plan bytes s slot i firing (start-firing size count) fire-all (omega (arith, some)) p o ∙ start-list p o

        pub start-branching : Branching plan bytes s slot i firing
        start-branching =
            record {
              fire = start-firing size count;
              all = fire-all;
              some = omega (arith, some);
              above =
                  record {
                    none = λ p o x m.
                        let q = by_call p o in
                        floor.below p q.0 q.1 x (found-mem p (records_of bytes) i (omega (arith, length-records bytes)) (subst (Memᴰ (over x)) (whole-list p o) m));
                  };
            }

        -- a cut: where nothing can change the answer any more, the start is passed over
        pub started-settled :
            (memory : List ℕ) (counts : Counts) → Settled plan bytes s slot i counts (length memory / 2)
            → counts.used ≤ stop → counts.readings ≤ stop
            → Started plan bytes n c duration most i (sink_of memory counts) (sink_of memory counts)
        started-settled memory counts settled used readings =
            record {
              found = λ p o d.
                  let q = by-start p o d in
                  let x : Sink = sink_of memory counts in
                  let within = (start-firing size count).ready.within in
                  subst (λ (k : ℕ). Same k x (emits x (start_found p (records_of bytes) i))) same-most
                  (subst (λ (l : List Found). Same s.most x (emits x l)) (whole-list p q)
                  (cut s.most x (skip_until p (records_of bytes) s.mark s.until i (held_in slot).bindings)
                  (record { none = settled.above.none p q })
                  (settled-idle plan bytes s slot i within memory counts used readings p q settled.mute)));
            }

        pub started-branch :
            (before after : Sink) → after.steps < give_up → Branched plan bytes s slot i firing before after
            → Started plan bytes n c duration most i before after
        started-branch before after steps branched =
            record {
              found = λ p o d.
                  let q = by-start p o d in
                  subst (λ (k : ℕ). Same k after (emits before (start_found p (records_of bytes) i))) same-most
                  (subst (λ (l : List Found). Same s.most after (emits before l)) (start-list p q) (branched.led.found steps p q));
            }

-- ## What is left to be done

-- from record i on, of all that is found
pub record Left (plan bytes : List ℕ) (n c duration most i : ℕ) (none now : Sink) : Type 0 where
  pub found :
      (p : Pattern) → Of p plan bytes n c → p.duration ≡ duration
      → Same most
      (emits now (found_from p (records_of bytes) i (record_count bytes - i)))
      (emits none (found_all p (records_of bytes)))

module _ (plan bytes : List ℕ) (n c duration most : ℕ) (none : Sink) where
  pub left-all : Left plan bytes n c duration most 0 none none
  left-all =
      record {
        found = λ p o d.
            subst (λ (l : List Found). Same most (emits none l) (emits none (found_all p (records_of bytes))))
            (sym (found_all_lem p (records_of bytes)) ∙ ap (λ (k : ℕ). found_from p (records_of bytes) 0 (k - 0)) (length-records bytes))
            (same_refl most (emits none (found_all p (records_of bytes))));
      }

  module _ (i : ℕ) (now : Sink) (left : Left plan bytes n c duration most i none now) where
    pub left-more :
        i < record_count bytes → (next : Sink) → Started plan bytes n c duration most i now next
        → Left plan bytes n c duration most (i + 1) none next
    left-more l next started =
        record {
          found = λ p o d.
              let B : Block = records_of bytes in
              let m : ℕ = record_count bytes in
              let rest : List Found = found_from p B (suc i) (m - suc i) in
              subst (λ (k : ℕ). Same most (emits next (found_from p B k (m - k))) (emits none (found_all p B))) (sym (add-one i))
              (same-trans most (emits next rest) (emits now (found_from p B i (m - i))) (emits none (found_all p B))
              (subst (Same most (emits next rest)) (sym (emits-append now (start_found p B i) rest) ∙ ap (emits now) (sym (found_first p B i m l)))
              (same-emits most next (emits now (start_found p B i)) rest (started.found p o d)))
              (left.found p o d));
        }

    -- the count of branches begins anew
    pub left-begun :
        (then : Sink) → then.memory ≡ now.memory → then.used ≡ now.used → then.readings ≡ now.readings
        → then.least ≡ now.least
        → Left plan bytes n c duration most i none then
    left-begun then a b d e =
        record {
          found = λ p o q.
              let rest : List Found = found_from p (records_of bytes) i (record_count bytes - i) in
              same-trans most (emits then rest) (emits now rest) (emits none (found_all p (records_of bytes)))
              (same-emits most then now rest (equal a b d e))
              (left.found p o q);
        }

    pub left-none :
        record_count bytes ≤ i → (limit : ℕ) → now.steps < give_up
        → AllStarted plan bytes n c duration most limit none now
    unfolding emits
    left-none l limit steps =
        record {
          bounded = λ h. steps;
          found = λ h p o d.
              subst (λ (k : List Found). Same most (emits now k) (emits none (found_all p (records_of bytes)))) (found-end p (records_of bytes) i (record_count bytes) l)
              (left.found p o d);
        }
