-- Where no condition joins variables the rule finds all that comes by own conditions and the order mark alone. Assumes
-- nothing.
use Rattle.std.proofs.Common.{◌≡◌, refl, sym, ap, subst, ◌∙◌, true, List, [], ℕ, suc, ◌+◌, ◌-◌, ◌^◌, ◌≤◌, ◌<◌, arith}
use Rattle.std.proofs.Common.{bit_or, length, eq-eqb, le-ltb}
use mathlib.Core.List.{Memᴰ}
use Rattle.numbers.specs.Bits.{bit}
use Rattle.numbers.proofs.Cases.{by-test, by_order}
use Rattle.records.specs.Records.{record_at, records_of, event_kind}
use Rattle.records.proofs.Listed.{length-records}
use Rattle.patterns.specs.declared.Pattern.{Pattern}
use Rattle.patterns.specs.Patterns.{most_variables}
use Rattle.automaton.proofs.Membership.{clash, upto-mem, collect-mem}
use Rattle.rule.specs.Rule.{Block, Binding, Reading, fires, last_of}
use Rattle.rule.specs.Promises.{most_bindings}
use Rattle.rule.specs.Starts.Found.{over}
use Rattle.rule.specs.Starts.{Found, closes_at, until, mark_of, with_binding, skip_until, start_found, found_from, found_all}
use Rattle.rule.proofs.LiveReadings.{fires-variable}
use Rattle.rule.proofs.SkipBranch.{fires-any, none-fires, turn-mem, skip-passes, skip-takes, skip-over, start-event}
use Rattle.rule.proofs.SkipBranch.{until-after, stays_open, at-until}
use Rattle.slots.specs.Slots.{Held, holding, grow}
use Rattle.slots.proofs.Holding.{holding-grow}
use Rattle.firing.specs.Firing.{ReadBelow}
use Rattle.reach.specs.Readings.{leaving_by, Usable, Of}
use Rattle.sweep.specs.Floors.{Open, Steps, Comes, Free, Reached}
use Rattle.sweep.specs.Floors.Comes.{begins, waits, takes}
use Rattle.sweep.proofs.Windows.{event-by, past_by}
use Rattle.sweep.proofs.Coming.{holding-nothing, none_below, read-later, known-variables, fires-steps}
use Rattle.sweep.proofs.Coming.{steps-fires}
use Rattle.sweep.proofs.Coming.{below_more}

-- with no bindings a reading stands where it begins
comes-none :
    (plan bytes : List ℕ) (n c duration i k state last j : ℕ) → k ≡ 0
    → Comes plan bytes n c duration true i k state last j
    → (state ≡ 0) × (j ≡ i)
comes-none plan bytes n c duration i k state last j z (begins a b e) = (b, e)
comes-none plan bytes n c duration i k state last j z (waits b e s opened none comes) = absurd (omega arith)
comes-none plan bytes n c duration i k state last j z (takes b v l s m e g h q opened steps comes) = absurd (omega arith)

module _ (p : Pattern) (plan bytes : List ℕ) (n c duration : ℕ) (o : Of p plan bytes n c) (d : p.duration ≡ duration)
    (usable : Usable plan bytes n c) (free : Free plan) where
  abbrev B : Block
  B = records_of bytes

  -- what follows a reading of k bindings in a state, before record j, is found from record i
  pub record Real (i k state last j : ℕ) : Type 0 where
    pub reading : Reading
    pub size : length reading ≡ k
    pub is : (holding reading).state ≡ state
    pub latest : last_of reading ≡ last
    pub below : ReadBelow p j reading
    pub after : i < j
    pub before : j ≤ until p B i
    pub finds :
        (x : Found) → Memᴰ x (skip_until p B (mark_of p B i) (until p B i) j reading)
        → Memᴰ x (start_found p B i)

  -- a record of the window does not close
  still_open : (i b : ℕ) → i < b → b ≤ until p B i → Open bytes duration i b → b < until p B i
  still_open i b after before opened =
      by_order b (until p B i)
      (λ l. l)
      (λ l.
      let inside = opened.inside in
      let near = opened.near in
      let size = length-records bytes in
      let z : until p B i ≡ b = omega arith in
      clash (subst (λ (x : ℕ). closes_at p B i x ≡ true) z (at-until p B i (omega arith)))
      (stays_open p B i b
      (event-by bytes b inside ∙ eq-eqb (record_at bytes b).kind event_kind opened.event)
      (past_by bytes p i b (omega arith) inside
      ∙ le-ltb ((record_at bytes i).time + p.duration) (record_at bytes b).time (omega arith))))

  grown : (q : Reading) (j v state : ℕ) → v < most_variables → (holding q).state ≡ state
      → (holding (with_binding q v j)).state ≡ bit_or state (2 ^ v)
  unfolding grow
  grown q j v state l e =
      sym (ap (λ (x : Held). x.state) (holding-grow q j v l)) ∙ ap (λ (x : ℕ). bit_or x (2 ^ v)) e

  -- a step of a reading, by its state and its latest binding
  steps_of :
      (q : Reading) (j k state last v : ℕ) → length q ≡ k → (holding q).state ≡ state → last_of q ≡ last
      → Steps plan bytes n c j k state last v
      → Steps plan bytes n c j (length q) (holding q).state (last_of q) v
  steps_of q j k state last v a b d steps =
      subst (λ (x : ℕ). Steps plan bytes n c j x (holding q).state (last_of q) v) (sym a)
      (subst (λ (x : ℕ). Steps plan bytes n c j k x (last_of q) v) (sym b)
      (subst (λ (x : ℕ). Steps plan bytes n c j k state x v) (sym d) steps))

  of_steps :
      (q : Reading) (j k state last v : ℕ) → length q ≡ k → (holding q).state ≡ state → last_of q ≡ last
      → Steps plan bytes n c j (length q) (holding q).state (last_of q) v
      → Steps plan bytes n c j k state last v
  of_steps q j k state last v a b d steps =
      subst (λ (x : ℕ). Steps plan bytes n c j x state last v) a
      (subst (λ (x : ℕ). Steps plan bytes n c j (length q) x last v) b
      (subst (λ (x : ℕ). Steps plan bytes n c j (length q) (holding q).state x v) d steps))

  -- with no bindings there is no latest one
  first-steps :
      (i last v : ℕ) → Steps plan bytes n c i 0 0 last v
      → Steps plan bytes n c i (length {A = Binding} []) (holding []).state (last_of []) v
  first-steps i last v steps =
      record {
        can = steps.can;
        leaves = subst (λ (x : ℕ). bit (leaving_by plan n x) v ≡ true) (sym holding-nothing) steps.leaves;
        later = λ some. absurd (omega arith);
      }

  -- the first binding
  real-first :
      (i last v : ℕ) → Open bytes duration i i → Steps plan bytes n c i 0 0 last v
      → Real i 1 (bit_or 0 (2 ^ v)) i (suc i)
  real-first i last v opened steps =
      let inside = opened.inside in
      let f = steps-fires p plan bytes n c duration o d usable free [] i v (none_below p i) inside (first-steps i last v steps) in
      let known = fires-variable p B [] v i f in
      let few = known-variables p plan bytes n c duration o d usable in
      let event = event-by bytes i inside ∙ eq-eqb (record_at bytes i).kind event_kind opened.event in
      record {
        reading = with_binding [] v i;
        size = refl;
        is = grown [] i v 0 (omega (arith, o.variables)) holding-nothing;
        latest = refl;
        below = below_more p plan bytes n c duration o d usable [] i v (none_below p i) f;
        after = omega arith;
        before = until-after p B i (omega (arith, length-records bytes));
        finds = λ x m.
            subst (Memᴰ x) (sym (start-event p B i event))
            (turn-mem (λ w. fires p B [] w i) (λ w. skip_until p B (mark_of p B i) (until p B i) (suc i) (with_binding [] w i)) 0 (p.n - 0) v (omega arith) (omega arith) f m);
      }

  module _ (i k state last b : ℕ) (r : Real i k state last b) (opened : Open bytes duration i b) where
    inner : b < until p B i
    inner = still_open i b r.after r.before opened

    -- a record that is passed over
    real-waits : ((v : ℕ) → Steps plan bytes n c b k state last v → ⊥) → Real i k state last (suc b)
    real-waits none =
        let q : Reading = r.reading in
        let l = inner in
        let after = r.after in
        let quiet = none-fires p B q b
        (λ v m.
        by-test (fires p B q v b)
        (λ t.
        absurd (none v
        (of_steps q b k state last v r.size r.is r.latest (fires-steps p plan bytes n c duration o d usable q b v r.below opened.inside t))))
        (λ t. t)) in
        record {
          reading = q;
          size = r.size;
          is = r.is;
          latest = r.latest;
          below = read-later p q b r.below;
          after = omega arith;
          before = l;
          finds = λ x m. r.finds x (subst (Memᴰ x) (sym (skip-passes p B (mark_of p B i) (until p B i) q b l quiet)) m);
        }

    module _ (v : ℕ) (steps : Steps plan bytes n c b k state last v) where
      fired : fires p B r.reading v b ≡ true
      fired =
          steps-fires p plan bytes n c duration o d usable free r.reading b v r.below opened.inside
          (steps_of r.reading b k state last v r.size r.is r.latest steps)

      -- one binding more
      real-takes : k < most_bindings → Real i (suc k) (bit_or state (2 ^ v)) b (suc b)
      real-takes fewer =
          let q : Reading = r.reading in
          let l = inner in
          let after = r.after in
          let size = r.size in
          let known = fires-variable p B q v b fired in
          let few = known-variables p plan bytes n c duration o d usable in
          record {
            reading = with_binding q v b;
            size = ap suc r.size;
            is = grown q b v state (omega (arith, o.variables)) r.is;
            latest = refl;
            below = below_more p plan bytes n c duration o d usable q b v r.below fired;
            after = omega arith;
            before = l;
            finds = λ x m.
                r.finds x
                (subst (Memᴰ x) (sym (skip-takes p B (mark_of p B i) (until p B i) q b l (fires-any p B q b v fired) (omega arith)))
                (turn-mem (λ w. fires p B q w b) (λ w. skip_until p B (mark_of p B i) (until p B i) (suc b) (with_binding q w b)) 0 (p.n - 0) v (omega arith) (omega arith) fired m));
          }

      -- one too many
      real-over : k ≡ most_bindings → Memᴰ (over b) (start_found p B i)
      real-over e =
          let size = r.size in
          r.finds (over b)
          (subst (Memᴰ (over b)) (sym (skip-over p B (mark_of p B i) (until p B i) r.reading b inner (fires-any p B r.reading b v fired) (omega arith)))
          (Memᴰ.head refl))

  real :
      (i k state last j : ℕ) → 0 < k → k ≤ most_bindings → Comes plan bytes n c duration true i k state last j
      → Real i k state last j
  real i k state last j some few (begins a b e) = absurd (omega arith)
  real i k state last j some few (waits b e s opened none comes) =
      subst (Real i k state last) (sym e) (real-waits i k state last b (real i k state last b some few comes) opened (none refl))
  real i k state last j some few (takes b v l s m e g h q opened steps comes) =
      subst (Real i k state last) (sym e)
      (subst (λ (x : ℕ). Real i k state x (suc b)) (sym q)
      (subst (λ (x : ℕ). Real i x state b (suc b)) (sym g)
      (subst (λ (x : ℕ). Real i (suc l) x b (suc b)) (sym h)
      (by_order 0 l
      (λ u. real-takes i l s m b (real i l s m b u (omega arith) comes) opened v steps (omega arith))
      (λ u.
      let z : l ≡ 0 = omega arith in
      let first = comes-none plan bytes n c duration i l s m b z comes in
      subst (λ (x : ℕ). Real i (suc x) (bit_or s (2 ^ v)) b (suc b)) (sym z)
      (subst (λ (x : ℕ). Real i 1 (bit_or x (2 ^ v)) b (suc b)) (sym first.0)
      (subst (λ (x : ℕ). Real i 1 (bit_or 0 (2 ^ v)) x (suc x)) (sym first.1)
      (real-first i m v (subst (Open bytes duration i) first.1 opened)
      (subst (λ (x : ℕ). Steps plan bytes n c i x 0 m v) z
      (subst (λ (x : ℕ). Steps plan bytes n c i l x m v) first.0 (subst (λ (x : ℕ). Steps plan bytes n c x l s m v) first.1 steps)))))))))))

  pub comes-found :
      (i state last j v : ℕ) → Comes plan bytes n c duration true i most_bindings state last j
      → Open bytes duration i j
      → Steps plan bytes n c j most_bindings state last v
      → Memᴰ (over j) (found_all p B)
  unfolding found_all found_from
  comes-found i state last j v comes opened steps =
      let r = real i most_bindings state last j (omega arith) (omega arith) comes in
      let after = r.after in
      let inside = opened.inside in
      let size = length-records bytes in
      collect-mem (start_found p B) (upto-mem 0 (length B) i (omega arith) (omega arith))
      (real-over i most_bindings state last j r opened v steps refl)

pub reached-of :
    (plan bytes : List ℕ) (n c duration : ℕ) → Usable plan bytes n c → Free plan → (i state last j v : ℕ)
    → Comes plan bytes n c duration true i most_bindings state last j
    → Open bytes duration i j
    → Steps plan bytes n c j most_bindings state last v
    → Reached plan bytes n c duration j
reached-of plan bytes n c duration usable free i state last j v comes opened steps =
    record {
      inside = let few = usable.records in let here = opened.inside in omega arith;
      found = λ p o d. comes-found p plan bytes n c duration o d usable free i state last j v comes opened steps;
    }
