-- All that the rule finds of a binding too many comes by own conditions and the order mark alone. Assumes nothing.
use Rattle.std.proofs.Common.{◌≡◌, refl, sym, ap, ap₂, subst, ◌∙◌, Bool, true, ◌&&◌, List, [], ◌∷◌, ℕ, zero, suc, ◌+◌}
use Rattle.std.proofs.Common.{◌-◌, ◌≤◌, ◌<◌, arith, length, lt-ltb, ltb-true}
use mathlib.Core.List.{Memᴰ}
use mathlib.Core.List.Memᴰ
use Rattle.numbers.specs.Numbers.{upto}
use Rattle.numbers.specs.Bits.{bit, disjoint}
use Rattle.numbers.proofs.Cases.{by-test, by_order}
use Rattle.numbers.proofs.Every.{every_of}
use Rattle.numbers.proofs.Bits.{bit-zero, mask-inside, mask_bound, mask-nothing}
use Rattle.records.specs.Records.{record_at, record_count, records_of}
use Rattle.records.proofs.Listed.{length-records}
use Rattle.patterns.specs.declared.Pattern.{Pattern}
use Rattle.patterns.specs.Patterns.{most_variables, most_conditions}
use Rattle.automaton.specs.Filtering.{all}
use Rattle.automaton.proofs.All.{implies-of, implies_true}
use Rattle.automaton.proofs.Membership.{clash, mem-collect, upto-below}
use Rattle.rule.specs.Rule.{Block, Reading, binds, fires, last_of, is_full}
use Rattle.rule.specs.Promises.{most_bindings}
use Rattle.rule.specs.Computed.{is_event}
use Rattle.rule.specs.Starts.Found.{closed, over}
use Rattle.rule.specs.Starts.{any_fires, close, until, mark_of, with_binding, skip_until, start_found, found_from, found_all}
use Rattle.rule.proofs.LiveReadings.{fires-variable}
use Rattle.rule.proofs.SkipBranch.{any-fires, fires-none, mem-turn, close-full, close-part, skip-passes, skip-closes}
use Rattle.rule.proofs.SkipBranch.{skip-takes}
use Rattle.rule.proofs.SkipBranch.{skip-over, start-event, start-gap, until-after}
use Rattle.slots.specs.Slots.{Held, holding, grow}
use Rattle.slots.proofs.Holding.{holding-grow}
use Rattle.plans.specs.Plan.{condition_in, marks_in, joins_in}
use Rattle.firing.specs.Firing.{can_by, leaves_by, later_than, later_by, pair_holds, join_holds, joins_by, fires_by, ReadBelow}
use Rattle.firing.proofs.FiresBy.{fires-by}
use Rattle.reach.specs.Readings.{leaving_by, Usable, Of}
use Rattle.reach.specs.Growing.Grows.{here, takes as grown}
use Rattle.reach.proofs.MaskInTurn.{low_bits}
use Rattle.reach.proofs.Growing.{fires-in, grows-below}
use Rattle.sweep.specs.Floors.{Open, Steps, Comes, Free}
use Rattle.sweep.specs.Floors.Comes.{begins, waits, takes}
use Rattle.sweep.proofs.Windows.{open-before, open-first}

pub holding-nothing : (holding []).state ≡ 0
unfolding holding binds
holding-nothing = mask-nothing (binds []) most_variables (λ v l. refl)

pub none_below : (p : Pattern) (i : ℕ) → ReadBelow p i []
none_below p i =
    record {
      variable = λ b m. absurd (Memᴰ.not-nil m);
      below = λ b m. absurd (Memᴰ.not-nil m);
      latest = λ b m. absurd (Memᴰ.not-nil m);
    }

-- the same before the next record
pub read-later : (p : Pattern) (q : Reading) (j : ℕ) → ReadBelow p j q → ReadBelow p (suc j) q
read-later p q j below =
    record {
      variable = below.variable;
      below = λ b m. let l = below.below b m in omega arith;
      latest = below.latest;
    }

-- a reading that takes a binding too many at record x, by own conditions and the order mark alone
pub record OverBy (plan bytes : List ℕ) (n c duration : ℕ) (tight : Bool) (x : ℕ) : Type 0 where
  pub start : ℕ
  pub bindings : ℕ
  pub state : ℕ
  pub last : ℕ
  pub variable : ℕ
  pub comes : Comes plan bytes n c duration tight start bindings state last x
  pub opened : Open bytes duration start x
  pub steps : Steps plan bytes n c x bindings state last variable
  pub many : most_bindings ≤ bindings

module _ (p : Pattern) (plan bytes : List ℕ) (n c duration : ℕ) (o : Of p plan bytes n c) (d : p.duration ≡ duration)
    (usable : Usable plan bytes n c) where
  abbrev B : Block
  B = records_of bytes

  pub known-variables : n ≤ most_variables
  known-variables = usable.variables

  -- the order mark by the latest binding
  later-than :
      (q : Reading) (j : ℕ) → (0 < length q → (record_at bytes (last_of q)).time < (record_at bytes j).time)
      → later_than bytes j q ≡ true
  unfolding later_than
  later-than [] j later = refl
  later-than (b ∷ q) j later =
      lt-ltb (record_at bytes b.at).time (record_at bytes j).time (later (omega arith))

  than-later :
      (q : Reading) (j : ℕ) → later_than bytes j q ≡ true → 0 < length q
      → (record_at bytes (last_of q)).time < (record_at bytes j).time
  unfolding later_than
  than-later [] j t some = absurd (omega arith)
  than-later (b ∷ q) j t some = ltb-true (record_at bytes b.at).time (record_at bytes j).time t

  -- where nothing joins variables a step of the own conditions and the order mark fires
  pub steps-fires :
      Free plan → (q : Reading) (j v : ℕ) → ReadBelow p j q → j < record_count bytes
      → Steps plan bytes n c j (length q) (holding q).state (last_of q) v
      → fires p B q v j ≡ true
  unfolding fires_by later_by joins_by join_holds leaving_by holding
  steps-fires free q j v below l steps =
      let few = known-variables in
      let known = low_bits (leaving_by plan n (holding q).state) n v (mask_bound (leaves_by plan (holding q).state) n) steps.leaves in
      let leaves = sym (mask-inside (leaves_by plan (holding q).state) n v known) ∙ steps.leaves in
      let later = implies-of (disjoint (holding q).state (marks_in plan v)) (later_than bytes j q) (λ e. later-than q j (λ some. steps.later some e)) in
      let joins = every_of (join_holds plan bytes j v q) most_conditions
      (λ k m.
      implies-of (bit (joins_in plan v) k) (all (pair_holds bytes j v (condition_in plan k)) q)
      (λ t. clash t (ap (λ (x : ℕ). bit x k) (free v (omega arith)) ∙ bit-zero k))) in
      sym
      ((λ k. fires_by plan bytes j (can_by plan (o.variables k) (o.conditions k) bytes j) v (holding q))
      ∙ fires-by p o.order plan o.made bytes o.rising j l v (omega (arith, o.variables)) q below)
      ∙ ap₂ ◌&&◌ steps.can (ap₂ ◌&&◌ leaves (ap₂ ◌&&◌ later joins))

  -- a step that fires
  pub fires-steps :
      (q : Reading) (j v : ℕ) → ReadBelow p j q → j < record_count bytes → fires p B q v j ≡ true
      → Steps plan bytes n c j (length q) (holding q).state (last_of q) v
  unfolding leaving_by later_by holding
  fires-steps q j v below l f =
      let parts = fires-in p plan bytes n c o q j below q j v l (here refl refl) f in
      let few = known-variables in
      let known = fires-variable p B q v j f in
      record {
        can = parts.can;
        leaves = mask-inside (leaves_by plan (holding q).state) n v (omega (arith, o.variables)) ∙ parts.leaves;
        later = λ some marked.
            than-later q j
            (implies_true (disjoint (holding q).state (marks_in plan v)) (later_than bytes j q) parts.later marked)
            some;
      }

  -- with one binding more
  pub below_more :
      (q : Reading) (j v : ℕ) → ReadBelow p j q → fires p B q v j ≡ true → ReadBelow p (suc j) (with_binding q v j)
  below_more q j v below f =
      grows-below p B q j (with_binding q v j) (suc j) (grown j v q refl refl (here refl refl) f) below

  module _ (tight : Bool) (free : tight ≡ true → Free plan) where
    -- one binding more
    pub comes-more :
        (i : ℕ) (q : Reading) (j v : ℕ) → ReadBelow p j q → Open bytes duration i j → fires p B q v j ≡ true
        → Comes plan bytes n c duration tight i (length q) (holding q).state (last_of q) j
        → Comes plan bytes n c duration tight i (length (with_binding q v j)) (holding (with_binding q v j)).state j
        (suc j)
    unfolding grow
    comes-more i q j v below opened f comes =
        let few = known-variables in
        let known = fires-variable p B q v j f in
        takes j v (length q) (holding q).state (last_of q) refl refl
        (sym (ap (λ (x : Held). x.state) (holding-grow q j v (omega (arith, o.variables)))))
        refl
        opened
        (fires-steps q j v below opened.inside f)
        comes

    no-over : (mark : ℕ) (q : Reading) (x : ℕ) → Memᴰ (over x) (close p mark q) → ⊥
    no-over mark q x m =
        by-test (is_full p q)
        (λ e. only-closed (subst (Memᴰ (over x)) (close-full p mark q e) m))
        (λ e. absurd (Memᴰ.not-nil (subst (Memᴰ (over x)) (close-part p mark q e) m)))
      where
        not-closed : over x ≡ closed mark q → ⊥
        not-closed e = let z : ◌≡◌ {A = ℕ} 0 1 = cc in omega arith

        only-closed : Memᴰ (over x) (closed mark q ∷ []) → ⊥
        only-closed (Memᴰ.head e) = not-closed e
        only-closed (Memᴰ.tail t) = absurd (Memᴰ.not-nil t)

    one-over : (j x : ℕ) → Memᴰ (over x) (over j ∷ []) → x ≡ j
    one-over j x (Memᴰ.head e) = cc
    one-over j x (Memᴰ.tail t) = absurd (Memᴰ.not-nil t)

    -- all that skip and branch find of a binding too many
    skip-overs :
        (m mark i j : ℕ) → m + j ≡ until p B i → i < j → (q : Reading) → ReadBelow p j q → 0 < length q
        → Comes plan bytes n c duration tight i (length q) (holding q).state (last_of q) j
        → (x : ℕ) → Memᴰ (over x) (skip_until p B mark (until p B i) j q)
        → OverBy plan bytes n c duration tight x
    skip-overs zero mark i j e after q below some comes x found =
        absurd (no-over mark q x (subst (Memᴰ (over x)) (skip-closes p B mark (until p B i) q j (omega arith)) found))
    skip-overs (suc m) mark i j e after q below some comes x found =
        let opened = open-before bytes p duration i j d after (omega arith) in
        by-test (any_fires p B q j)
        (λ f.
        by_order (length q) most_bindings
        (λ l.
        let t = mem-turn (λ w. fires p B q w j) (λ w. skip_until p B mark (until p B i) (suc j) (with_binding q w j)) 0 (p.n - 0) (subst (Memᴰ (over x)) (skip-takes p B mark (until p B i) q j (omega arith) f l) found) in
        skip-overs m mark i (suc j) (omega arith) (omega arith) (with_binding q t.0 j) (below_more q j t.0 below t.1) (omega arith)
        (comes-more i q j t.0 below opened t.1 comes) x t.2)
        (λ l.
        let at = one-over j x (subst (Memᴰ (over x)) (skip-over p B mark (until p B i) q j (omega arith) f l) found) in
        let v = any-fires p B q j f in
        subst (OverBy plan bytes n c duration tight) (sym at)
        (record {
          start = i;
          bindings = length q;
          state = (holding q).state;
          last = last_of q;
          variable = v.0;
          comes = comes;
          opened = opened;
          steps = fires-steps q j v.0 below opened.inside v.1;
          many = l;
        })))
        (λ f.
        skip-overs m mark i (suc j) (omega arith) (omega arith) q
        (read-later p q j below)
        some
        (waits j refl some opened (λ t v steps. clash (steps-fires (free t) q j v below opened.inside steps) (fires-none p B q j f v)) comes) x
        (subst (Memᴰ (over x)) (skip-passes p B mark (until p B i) q j (omega arith) f) found))

    -- from one start
    start-overs :
        (i x : ℕ) → i < record_count bytes → Memᴰ (over x) (start_found p B i)
        → OverBy plan bytes n c duration tight x
    start-overs i x l found =
        by-test (is_event B i)
        (λ e.
        let after = until-after p B i (omega (arith, length-records bytes)) in
        let t = mem-turn (λ w. fires p B [] w i) (λ w. skip_until p B (mark_of p B i) (until p B i) (suc i) (with_binding [] w i)) 0 (p.n - 0) (subst (Memᴰ (over x)) (start-event p B i e) found) in
        skip-overs (until p B i - suc i) (mark_of p B i) i (suc i) (omega arith) (omega arith) (with_binding [] t.0 i)
        (below_more [] i t.0 (none_below p i) t.1) (omega arith)
        (comes-more i [] i t.0 (none_below p i) (open-first bytes duration i l e) t.1
        (begins refl holding-nothing refl))
        x t.2)
        (λ e. absurd (Memᴰ.not-nil (subst (Memᴰ (over x)) (start-gap p B i e) found)))

    pub all-overs : (x : ℕ) → Memᴰ (over x) (found_all p B) → OverBy plan bytes n c duration tight x
    unfolding found_all found_from
    all-overs x found =
        let t = mem-collect (start_found p B) (upto 0 (length B)) found in
        let l = upto-below 0 (length B) t.1 in
        start-overs t.0 x (omega (arith, length-records bytes)) t.2
