-- What each way out of skip and of branch comes to in the lent result and the counts, and what their calls ask for.
-- Assumes nothing.
use Rattle.std.proofs.Common.{◌≡◌, refl, sym, ap, subst, ◌∙◌, true, List, [], ◌++◌, ℕ, suc, ◌+◌, ◌-◌, ◌*◌, ◌/◌, ◌^◌}
use Rattle.std.proofs.Common.{◌≤◌, ◌<◌, min, lt_of_lt_of_le, add-one, arith, length, pow_mono}
use mathlib.Core.List.{Memᴰ}
use Rattle.numbers.specs.Numbers.{one_if}
use Rattle.numbers.specs.Bits.{bit, mask, IsLowestBit}
use Rattle.records.specs.Records.{records_of}
use Rattle.patterns.specs.declared.Pattern.{Pattern}
use Rattle.patterns.specs.Patterns.{most_variables}
use Rattle.automaton.proofs.Membership.{clash}
use Rattle.rule.specs.Rule.{Reading, fires}
use Rattle.rule.specs.Promises.{most_bindings}
use Rattle.rule.specs.Starts.Found.{over}
use Rattle.rule.specs.Starts.{Found, any_fires, with_binding, in_turn, skip_until}
use Rattle.rule.proofs.SkipBranch.{turn-mem, skip-to, skip-takes, next-closes, next-over}
use Rattle.slots.specs.Slots.{slot_bytes, count_in, held_in, grow}
use Rattle.slots.proofs.Slots.{length-held_in}
use Rattle.reach.specs.declared.Start.{Start}
use Rattle.reach.specs.declared.Fire.{Fire}
use Rattle.starts.specs.declared.Counts.{Counts}
use Rattle.starts.specs.Sinks.{Sink, sink_of, stop, emit, emits, Same}
use Rattle.starts.specs.Sinks.Same.{equal}
use Rattle.reach.specs.Readings.{firing_by, Reads, Ready, NextBy}
use Rattle.starts.specs.Skips.{By, Taking, Firing, Branching, Mute, Settled, give_up, Led, Closed, Skipped}
use Rattle.starts.specs.Skips.{branch_over, Branched}
use Rattle.starts.proofs.Sinks.{emits-append, sink-same}
use Rattle.starts.proofs.Same.{same_refl, same-trans, same-emits, Idle, cut}
use Rattle.starts.proofs.Same.Idle.{decided, counted, silent}
use Rattle.reach.proofs.Readings.{next-is, firing-is, some-firing, firing-bound, grown-bindings, grown-reads}
use Rattle.reach.proofs.Growing.{closes-grown}
use Rattle.reach.proofs.MaskInTurn.{turn-none, turn-lowest, mask-turn, low_bits, rest-known}

-- the same reading, held before a later record
pub reads-later : (n j i : ℕ) (slot : List ℕ) → j ≤ i → Reads n j slot → Reads n i slot
reads-later n j i slot h r =
    record {
      size = r.size;
      few = r.few;
      held = r.held;
      variable = r.variable;
      below = λ b m. let l = r.below b m in omega arith;
      latest = r.latest;
    }

-- a mask of n bits, where n is small
pub few_bits : (n firing : ℕ) → n ≤ most_variables → firing < 2 ^ n → firing < 2 ^ most_variables
few_bits n firing few h = lt_of_lt_of_le h (pow_mono few)

-- what a copy of a slot grows to
pub loaded :
    (slot copy more : List ℕ) (j v : ℕ) → copy ≡ slot
    → (held_in more ≡ grow j v (held_in copy)) × (length more ≡ slot_bytes) × (count_in more ≡ count_in copy + 1)
    → (held_in more ≡ grow j v (held_in slot)) × (length more ≡ slot_bytes) × (count_in more ≡ count_in slot + 1)
loaded slot copy more j v e =
    subst
    (λ (x : List ℕ).
    (held_in more ≡ grow j v (held_in copy)) × (length more ≡ slot_bytes) × (count_in more ≡ count_in copy + 1)
    → (held_in more ≡ grow j v (held_in x)) × (length more ≡ slot_bytes) × (count_in more ≡ count_in x + 1))
    e
    (λ g. g)

-- ## What was looked at, in parts

module _ (Q : Pattern → Type 0) (most limit : ℕ) where
  pub led-none :
      (list : Pattern → List Found) (before : Sink) → ((p : Pattern) → Q p → list p ≡ [])
      → Led Q most limit list before before
  unfolding emits
  led-none list before e =
      record {
        longer = omega arith;
        bounded = λ h. h;
        found = λ h p q. subst (λ (l : List Found). Same most before (emits before l)) (sym (e p q)) (same_refl most before);
      }

  -- one list, then another
  pub led-append :
      (first others list : Pattern → List Found) (before middle after : Sink)
      → ((p : Pattern) → Q p → list p ≡ first p ++ others p)
      → Led Q most limit first before middle
      → Led Q most limit others middle after
      → Led Q most limit list before after
  led-append first others list before middle after e a b =
      let l = a.longer in
      let m = b.longer in
      record {
        longer = omega arith;
        bounded = λ h. b.bounded (a.bounded h);
        found = λ h p q.
            subst (λ (k : List Found). Same most after (emits before k)) (sym (e p q))
            (subst (Same most after) (sym (emits-append before (first p) (others p)))
            (same-trans most after (emits middle (others p)) (emits (emits before (first p)) (others p))
            (b.found h p q)
            (same-emits most middle (emits before (first p)) (others p) (a.found (omega arith) p q))));
      }

  pub led-as :
      (list other : Pattern → List Found) (before after : Sink) → ((p : Pattern) → Q p → other p ≡ list p)
      → Led Q most limit list before after
      → Led Q most limit other before after
  led-as list other before after e a =
      record {
        longer = a.longer;
        bounded = a.bounded;
        found = λ h p q. subst (λ (k : List Found). Same most after (emits before k)) (sym (e p q)) (a.found h p q);
      }

  -- all that is found, and no branch
  pub led-exact :
      (list : Pattern → List Found) (before after : Sink) → after.steps ≡ before.steps
      → ((p : Pattern) → Q p → after ≡ emits before (list p))
      → Led Q most limit list before after
  led-exact list before after k e =
      record {
        longer = omega arith;
        bounded = λ h. omega arith;
        found = λ h p q. subst (Same most after) (e p q) (same_refl most after);
      }

  -- after branches that were counted
  pub led-counted :
      (list : Pattern → List Found) (before middle after : Sink) → Same most middle before
      → before.steps ≤ middle.steps
      → (before.steps ≤ limit → middle.steps ≤ limit)
      → Led Q most limit list middle after
      → Led Q most limit list before after
  led-counted list before middle after same k f a =
      let l = a.longer in
      record {
        longer = omega arith;
        bounded = λ h. a.bounded (f h);
        found = λ h p q.
            same-trans most after (emits middle (list p)) (emits before (list p)) (a.found h p q)
            (same-emits most middle before (list p) same);
      }

  -- a start that is given up
  pub led-given-up :
      (list : Pattern → List Found) (before : Sink) → give_up ≤ before.steps → Led Q most limit list before before
  led-given-up list before h = record { longer = omega arith; bounded = λ k. k; found = λ k p q. absurd (omega arith) }

-- all that fires at record j, in turn, is all that is found from there on
pub all-taken :
    (plan bytes : List ℕ) (s : Start) (slot : List ℕ) (j firing : ℕ) → Firing plan bytes s slot j firing
    → firing ≡ firing_by plan bytes s.n s.c j (held_in slot)
    → 0 < firing
    → (p : Pattern) → By p plan bytes s
    → skip_until p (records_of bytes) s.mark s.until j (held_in slot).bindings
    ≡ branch_over p (records_of bytes) s.mark s.until j (held_in slot).bindings firing
all-taken plan bytes s slot j firing at all some p o =
    let r : Reading = (held_in slot).bindings in
    let ready = at.ready in
    let end = ready.block in
    let l = at.before in
    let few = ready.usable.variables in
    let go : ℕ → List Found = λ w. skip_until p (records_of bytes) s.mark s.until (suc j) (with_binding r w j) in
    let here : firing ≡ mask (λ w. fires p (records_of bytes) r w j) p.n =
    all ∙ firing-is s.n j slot ready.reads few p plan bytes s.c o.of j (omega arith) (omega arith) in
    let any : any_fires p (records_of bytes) r j ≡ true =
    some-firing s.n j slot ready.reads few p plan bytes s.c o.of j (omega arith) (omega arith) (subst (λ (k : ℕ). 0 < k) all some) in
    let room = at.room in
    skip-takes p (records_of bytes) s.mark s.until r j l any (omega (arith, length-held_in slot))
    ∙ mask-turn (λ w. fires p (records_of bytes) r w j) go p.n firing here

pub branch-all :
    (plan bytes : List ℕ) (s : Start) (slot : List ℕ) (j firing : ℕ) → Branching plan bytes s slot j firing
    → (p : Pattern) → By p plan bytes s
    → skip_until p (records_of bytes) s.mark s.until j (held_in slot).bindings
    ≡ branch_over p (records_of bytes) s.mark s.until j (held_in slot).bindings firing
branch-all plan bytes s slot j firing at p o =
    all-taken plan bytes s slot j firing at.fire at.all at.some p o

-- why nothing found of the slot's reading changes the answer
pub settled-idle :
    (plan bytes : List ℕ) (s : Start) (slot : List ℕ) (j : ℕ) → j ≤ s.until → (memory : List ℕ) (counts : Counts)
    → counts.used ≤ stop
    → counts.readings ≤ stop
    → (p : Pattern) → By p plan bytes s
    → Mute plan bytes s slot j counts (length memory / 2)
    → Idle s.most (sink_of memory counts)
    (skip_until p (records_of bytes) s.mark s.until j (held_in slot).bindings)
settled-idle plan bytes s slot j within memory counts used readings p o (Mute.decided d) = decided d
settled-idle plan bytes s slot j within memory counts used readings p o (Mute.counted a b c) =
    counted (record { room = a; used = b; readings = c; used_fits = used; readings_fit = readings })
settled-idle plan bytes s slot j within memory counts used readings p o (Mute.silent never) =
    silent
    (λ mark q m.
    let grown = closes-grown p (records_of bytes) s.mark s.until j within (held_in slot).bindings mark q m in
    clash grown.full (never.part p o.of q grown.grown))

module _ (plan bytes : List ℕ) (s : Start) (slot : List ℕ) (j : ℕ) where
  abbrev of : Pattern → Type 0
  of p = By p plan bytes s

  abbrev r : Reading
  r = (held_in slot).bindings

  -- ## Branch

  pub branch-done : (firing : ℕ) (before : Sink) → firing ≡ 0 → Branched plan bytes s slot j firing before before
  branch-done firing before e =
      record {
        led =
            led-none of s.most s.limit _ before
            (λ p o. turn-none (λ w. skip_until p (records_of bytes) s.mark s.until (suc j) (with_binding r w j)) p.n firing e);
      }

  module _ (firing : ℕ) (at : Branching plan bytes s slot j firing) where
    -- a variable of those that fire
    pub firing-taking : (v : ℕ) → bit firing v ≡ true → Taking plan bytes s slot j v
    firing-taking v t =
        record {
          ready = at.fire.ready;
          before = at.fire.before;
          room = at.fire.room;
          known = at.fire.known v t;
          above =
              record {
                none = λ p o x m.
                    let known = at.fire.known v t in
                    let same = o.of.variables in
                    at.above.none p o x
                    (subst (Memᴰ (over x)) (sym (branch-all plan bytes s slot j firing at p o))
                    (turn-mem (bit firing) (λ w. skip_until p (records_of bytes) s.mark s.until (suc j) (with_binding r w j)) 0 p.n v (omega arith) (omega arith) t m));
              };
        }

  module _ (firing v : ℕ) (at : Firing plan bytes s slot j firing) (low : IsLowestBit 64 firing v) where
    pub branch-takes :
        (rest : ℕ) (before middle after : Sink) → rest ≡ firing - one_if (bit firing v) * 2 ^ v
        → Skipped plan bytes s slot j v before middle
        → Branched plan bytes s slot j rest middle after
        → Branched plan bytes s slot j firing before after
    branch-takes rest before middle after q first others =
        let few = at.ready.usable.variables in
        let known = at.known v low.here in
        record {
          led =
              led-append of s.most s.limit _ _ _ before middle after
              (λ p o.
              let next : ℕ → List Found = λ w. skip_until p (records_of bytes) s.mark s.until (suc j) (with_binding r w j) in
              let same = o.of.variables in
              turn-lowest next p.n firing v 64 (omega arith) at.variables low (omega arith)
              ∙ ap (λ (k : ℕ). next v ++ in_turn (bit k) next 0 p.n) (sym q))
              first.led others.led;
        }

    -- the variables that are left
    pub rest-firing : (rest : ℕ) → rest ≡ firing - one_if (bit firing v) * 2 ^ v → Firing plan bytes s slot j rest
    rest-firing rest q =
        let small = at.variables in
        let few = at.ready.usable.variables in
        let known = at.known v low.here in
        rw q
        (record {
          ready = at.ready;
          before = at.before;
          room = at.room;
          variables = omega arith;
          known = λ u t. at.known u (rest-known firing v u small (omega arith) t);
        })

    pub rest-within :
        (rest : ℕ) → rest ≡ firing - one_if (bit firing v) * 2 ^ v → (u : ℕ) → bit rest u ≡ true → bit firing u ≡ true
    rest-within rest q u t =
        let few = at.ready.usable.variables in
        let known = at.known v low.here in
        rest-known firing v u at.variables (omega arith) (subst (λ (k : ℕ). bit k u ≡ true) q t)

  -- ## Skip

  module _ (v : ℕ) (at : Taking plan bytes s slot j v) (more : List ℕ) (grown : (held_in more ≡ grow j v (held_in slot))
      × (length more ≡ slot_bytes) × (count_in more ≡ count_in slot + 1)) where
    abbrev reading : Reading
    reading = (held_in more).bindings

    pub grown-ready : Ready plan bytes s more (j + 1)
    grown-ready =
        let ready = at.ready in
        record {
          usable = ready.usable;
          mark = ready.mark;
          block = ready.block;
          within = let l = at.before in omega arith;
          reads = grown-reads slot more j v grown.0 s.n ready.reads ready.usable.variables at.known grown.1 grown.2 at.room;
        }

    -- the list of the grown slot's reading
    same-list :
        (p : Pattern)
        → skip_until p (records_of bytes) s.mark s.until (suc j) (with_binding r v j)
        ≡ skip_until p (records_of bytes) s.mark s.until (j + 1) reading
    same-list p = λ i. skip_until p (records_of bytes) s.mark s.until (sym (add-one j) i) (sym (grown-bindings slot more j v grown.0) i)

    pub grown-closes : Reads s.n s.until more
    grown-closes = reads-later s.n (j + 1) s.until more grown-ready.within grown-ready.reads

    module _ (f : Fire) (next : NextBy plan bytes s more (j + 1) f) where
      pub skip-closes :
          f.at ≡ s.until → (before after : Sink) → Closed s more before after
          → Skipped plan bytes s slot j v before after
      skip-closes e before after closed =
          record {
            led =
                led-exact of s.most s.limit _ before after closed.steps
                (λ p o.
                closed.found p o.of.variables
                ∙ ap (emits before)
                (sym (same-list p
                ∙ next-closes p (records_of bytes) s.mark s.until reading (j + 1) f.at (next-is p plan bytes s more (j + 1) f o.of grown-ready next) e)));
          }

      module _ (ne : f.at ≡ s.until → ⊥) where
        fires-before : f.at < s.until
        fires-before = let l = next.up_to in omega (arith, ne)

        pub skip-notes :
            count_in more ≡ most_bindings → (memory : List ℕ) (counts o : Counts) → o.used ≡ counts.used
            → o.readings ≡ counts.readings → o.least ≡ min counts.least f.at → o.steps ≡ counts.steps
            → Skipped plan bytes s slot j v (sink_of memory counts) (sink_of memory o)
        unfolding emits emit
        skip-notes full memory counts o a b d k =
            record {
              led =
                  led-exact of s.most s.limit _ (sink_of memory counts) (sink_of memory o) k
                  (λ p o.
                  sink-same refl a b d k
                  ∙ ap (emits (sink_of memory counts))
                  (sym (same-list p
                  ∙ next-over p (records_of bytes) s.mark s.until reading (j + 1) f.at (next-is p plan bytes s more (j + 1) f o.of grown-ready next) fires-before (omega (arith, length-held_in more)))));
            }

        module _ (some : count_in more ≡ most_bindings → ⊥) where
          room : count_in more < most_bindings
          room = let few = grown-ready.reads.few in omega (arith, some)

          next-firing : Firing plan bytes s more f.at f.variables
          next-firing =
              let ready = grown-ready in
              let l = fires-before in
              let bound = firing-bound plan bytes s.n s.c f.at (held_in more) in
              let here = next.here l in
              let small : f.variables < 2 ^ s.n = rw here bound in
              record {
                ready =
                    record {
                      usable = ready.usable;
                      mark = ready.mark;
                      block = ready.block;
                      within = next.up_to;
                      reads = reads-later s.n (j + 1) f.at more next.from ready.reads;
                    };
                before = l;
                room = room;
                variables = few_bits s.n f.variables ready.usable.variables small;
                known = λ w t. low_bits f.variables s.n w small t;
              }

          -- what is found from the next record that fires
          next-list :
              (p : Pattern) → By p plan bytes s
              → skip_until p (records_of bytes) s.mark s.until (suc j) (with_binding r v j)
              ≡ skip_until p (records_of bytes) s.mark s.until f.at reading
          next-list p o =
              same-list p
              ∙ (let n = next-is p plan bytes s more (j + 1) f o.of grown-ready next in
              skip-to p (records_of bytes) s.mark s.until reading (j + 1) f.at n.from n.up_to n.passed)

          pub next-branching : Branching plan bytes s more f.at f.variables
          next-branching =
              record {
                fire = next-firing;
                all = next.here fires-before;
                some = next.some fires-before;
                above =
                    record { none = λ p o x m. at.above.none p o x (subst (Memᴰ (over x)) (sym (next-list p o)) m) };
              }

          -- a cut: where nothing can change the answer any more, no branch is taken
          pub skip-settled :
              (memory : List ℕ) (counts : Counts) → Settled plan bytes s more f.at counts (length memory / 2)
              → counts.used ≤ stop → counts.readings ≤ stop
              → Skipped plan bytes s slot j v (sink_of memory counts) (sink_of memory counts)
          skip-settled memory counts settled used readings =
              record {
                led =
                    record {
                      longer = omega arith;
                      bounded = λ h. h;
                      found = λ h p o.
                          subst (λ (k : List Found). Same s.most (sink_of memory counts) (emits (sink_of memory counts) k)) (sym (next-list p o))
                          (cut s.most (sink_of memory counts) (skip_until p (records_of bytes) s.mark s.until f.at reading)
                          (record { none = settled.above.none p o })
                          (settled-idle plan bytes s more f.at next.up_to memory counts used readings p o settled.mute));
                    };
              }

          pub skip-branches :
              (memory : List ℕ) (counts o : Counts) → o.used ≡ counts.used → o.readings ≡ counts.readings
              → o.least ≡ counts.least
              → counts.steps ≤ o.steps
              → (counts.steps ≤ s.limit → o.steps ≤ s.limit)
              → (after : Sink) → Branched plan bytes s more f.at f.variables (sink_of memory o) after
              → Skipped plan bytes s slot j v (sink_of memory counts) after
          skip-branches memory counts o a b c k g after branched =
              record {
                led =
                    led-counted of s.most s.limit _ (sink_of memory counts) (sink_of memory o) after (equal refl a b c) k g
                    (led-as of s.most s.limit _ _ (sink_of memory o) after
                    (λ p o. next-list p o ∙ branch-all plan bytes s more f.at f.variables next-branching p o)
                    branched.led);
              }
