-- The latest starts hold all that readings could come to, record by record, and so the record at which the sweep ends
-- is a floor. Assumes nothing.
use Rattle.std.proofs.Common.{◌≡◌, refl, sym, ap, subst, ◌∙◌, Bool, true, false, ◌&&◌, List, ℕ, suc, ◌+◌, ◌^◌, ◌≤◌, ◌<◌}
use Rattle.std.proofs.Common.{lt_of_le_of_lt, add-one, arith, bit_and, bit_or, length, get_or, set, replicate}
use Rattle.std.proofs.Common.{length-set, get_or-set_same, get_or-set_other}
use lib.Bits.{and_le_r}
use lib.ListN.{length-replicate}
use Rattle.numbers.specs.Bits.{bit}
use Rattle.numbers.proofs.Cases.{by-test, by_order}
use Rattle.numbers.proofs.Bits.{bit-zero, bit-and}
use Rattle.records.specs.Records.{record_at, event_kind}
use Rattle.records.specs.Blocks.{most_records}
use Rattle.patterns.specs.Patterns.{most_variables}
use Rattle.automaton.proofs.Membership.{clash}
use Rattle.rule.specs.Promises.{most_bindings}
use Rattle.firing.specs.Firing.{can_by}
use Rattle.reach.specs.Readings.{Usable}
use Rattle.states.specs.States.{link_at, fresh_mark, fresh_of, shown, state_of, leaves_from, Stands, Listed, Inside}
use Rattle.states.specs.States.Stands.{plain, twin}
use Rattle.states.proofs.Fresh.{leaves-bound, shown-plain, shown-fresh, shown-below, shown-above, state-shown}
use Rattle.sweep.specs.Starts.{place_of, most_places, IsOver, Advanced, Settled}
use Rattle.sweep.specs.Floors.{Past, Open, Steps, Comes, Free, Floor}
use Rattle.sweep.specs.Floors.Comes.{begins, waits, takes}
use Rattle.sweep.proofs.Cycles.{is_fresh, fresh-of, not-fresh, taken-small, steps-leave, leave-steps}
use Rattle.sweep.proofs.Starts.{and_left, and_right, no_bits}
use Rattle.sweep.proofs.Coming.{all-overs}

-- the starts hold a reading's start, for its state and count of bindings, fresh where the latest is of the cycle
pub record HeldAt (plan bytes : List ℕ) (n : ℕ) (states : List ℕ) (count : ℕ) (starts : List ℕ)
    (cycle i k state last : ℕ) : Type 0 where
  pub at : ℕ
  pub known : at < count
  pub small : state < fresh_mark
  pub is : get_or states at 0 ≡ shown plan n (is_fresh bytes k last cycle) state
  pub late : i < get_or starts (place_of k at) 0

-- before record j no reading could have taken a binding too many, the starts hold each, and none has a binding that is
-- later than the cycle
pub record Kept (plan bytes : List ℕ) (n c duration : ℕ) (tight : Bool) (states : List ℕ) (count : ℕ) (starts : List ℕ)
    (cycle j : ℕ) : Type 0 where
  pub size : length starts ≡ most_places
  pub few : (i k state last m : ℕ) → m ≤ j → Comes plan bytes n c duration tight i k state last m → k ≤ most_bindings
  pub held :
      (i k state last : ℕ) → 0 < k → Comes plan bytes n c duration tight i k state last j
      → HeldAt plan bytes n states count starts cycle i k state last
  pub recent :
      (i k state last : ℕ) → 0 < k → Comes plan bytes n c duration tight i k state last j
      → (record_at bytes last).time ≤ cycle

-- what a listed state leads to is listed
pub listed-inside :
    (plan : List ℕ) (n : ℕ) (states leaves links : List ℕ) (count : ℕ)
    → Listed plan n states leaves links count count
    → Inside leaves links count
listed-inside plan n states leaves links count listed =
    record {
      wide = listed.wide;
      room = listed.room;
      few = listed.few;
      known = λ i v l t. let k = (listed.leads i v l t).known in let few = listed.few in omega arith;
      onward = λ i v l t. (listed.leads i v l t).onward;
    }

module _ (plan bytes : List ℕ) (n c duration : ℕ) (usable : Usable plan bytes n c) (tight : Bool)
    (free : tight ≡ true → Free plan) where
  abbrev Could : ℕ → ℕ → ℕ → ℕ → ℕ → Type 0
  Could i k state last j = Comes plan bytes n c duration tight i k state last j

  -- no reading takes a binding too many before a record up to which none could
  pub floor-of :
      (floor : ℕ) → floor ≤ most_records
      → ((i k state last m : ℕ) → m ≤ floor → Could i k state last m → k ≤ most_bindings)
      → Floor plan bytes n c duration floor
  floor-of floor most few =
      record {
        few = most;
        below = λ p o d x found.
            let by = all-overs p plan bytes n c duration o d usable tight free x found in
            by_order x floor
            (λ l.
            let more = few by.start (suc by.bindings) (bit_or by.state (2 ^ by.variable)) x (suc x) (omega arith) (takes x by.variable by.bindings by.state by.last refl refl refl refl by.opened by.steps by.comes) in
            let many = by.many in
            absurd (omega arith))
            (λ l. l);
      }

  module _ (states : List ℕ) (count : ℕ) where
    abbrev Holds : List ℕ → ℕ → ℕ → ℕ → ℕ → ℕ → Type 0
    Holds starts cycle i k state last = HeldAt plan bytes n states count starts cycle i k state last

    none_before : (i k state last m : ℕ) → m ≤ 0 → Could i k state last m → k ≡ 0
    none_before i k state last m l (begins a b e) = a
    none_before i k state last m l (waits b e some opened none comes) = absurd (omega arith)
    none_before i k state last m l (takes b v s t u e g h q opened steps comes) = absurd (omega arith)

    pub kept-none :
        (starts : List ℕ) (cycle : ℕ) → starts ≡ replicate most_places 0
        → Kept plan bytes n c duration tight states count starts cycle 0
    kept-none starts cycle e =
        record {
          size = ap length e ∙ length-replicate {A = ℕ} most_places 0;
          few = λ i k state last m l comes. let z = none_before i k state last m l comes in omega arith;
          held = λ i k state last some comes.
              let z = none_before i k state last 0 (omega arith) comes in absurd (omega arith);
          recent = λ i k state last some comes.
              let z = none_before i k state last 0 (omega arith) comes in absurd (omega arith);
        }

    module _ (starts : List ℕ) (cycle j : ℕ)
        (kept : Kept plan bytes n c duration tight states count starts cycle j) where
      -- one record more, of which it is known what could come to stand behind it
      kept_by :
          (new : List ℕ) → length new ≡ most_places
          → ((i k state last : ℕ) → 0 < k → Could i k state last (suc j) → k ≤ most_bindings)
          → ((i k state last : ℕ) → 0 < k → Could i k state last (suc j) → Holds new cycle i k state last)
          → ((i k state last : ℕ) → 0 < k → Could i k state last (suc j) → (record_at bytes last).time ≤ cycle)
          → Kept plan bytes n c duration tight states count new cycle (j + 1)
      kept_by new size few held recent =
          record {
            size = size;
            few = λ i k state last m l comes.
                by_order m (suc j)
                (λ b. kept.few i k state last m (omega arith) comes)
                (λ b.
                let z : m ≡ suc j = omega arith in
                by_order 0 k (λ s. few i k state last s (subst (Could i k state last) z comes)) (λ s. omega arith));
            held = λ i k state last some comes. held i k state last some (subst (Could i k state last) (add-one j) comes);
            recent = λ i k state last some comes.
                recent i k state last some (subst (Could i k state last) (add-one j) comes);
          }

      at_gap :
          ((record_at bytes j).kind ≡ event_kind → ⊥) → (i k state last : ℕ) → 0 < k → Could i k state last (suc j) → ⊥
      at_gap gap i k state last some (begins a b e) = omega arith
      at_gap gap i k state last some (waits b e s opened none comes) =
          let z : b ≡ j = omega arith in gap (subst (λ (x : ℕ). (record_at bytes x).kind ≡ event_kind) z opened.event)
      at_gap gap i k state last some (takes b v l s m e g h q opened steps comes) =
          let z : b ≡ j = omega arith in gap (subst (λ (x : ℕ). (record_at bytes x).kind ≡ event_kind) z opened.event)

      -- a gap
      pub kept-gap :
          ((record_at bytes j).kind ≡ event_kind → ⊥) → (new : List ℕ) → length new ≡ most_places
          → Kept plan bytes n c duration tight states count new cycle (j + 1)
      kept-gap gap new size =
          kept_by new size
          (λ i k state last some comes. absurd (at_gap gap i k state last some comes))
          (λ i k state last some comes. absurd (at_gap gap i k state last some comes))
          (λ i k state last some comes. absurd (at_gap gap i k state last some comes))

      at-idle :
          can_by plan n c bytes j ≡ 0 → (i k state last : ℕ) → 0 < k → Could i k state last (suc j)
          → Could i k state last j
      at-idle idle i k state last some (begins a b e) = absurd (omega arith)
      at-idle idle i k state last some (waits b e s opened none comes) =
          let z : b ≡ j = omega arith in subst (Could i k state last) z comes
      at-idle idle i k state last some (takes b v l s m e g h q opened steps comes) =
          let z : b ≡ j = omega arith in
          clash steps.can (ap (λ (x : ℕ). bit (can_by plan n c bytes x) v) z ∙ ap (λ (x : ℕ). bit x v) idle ∙ bit-zero v)

      -- a record that nothing can be bound to
      pub kept-idle : can_by plan n c bytes j ≡ 0 → Kept plan bytes n c duration tight states count starts cycle (j + 1)
      kept-idle idle =
          kept_by starts kept.size
          (λ i k state last some comes. kept.few i k state last j (omega arith) (at-idle idle i k state last some comes))
          (λ i k state last some comes. kept.held i k state last some (at-idle idle i k state last some comes))
          (λ i k state last some comes. kept.recent i k state last some (at-idle idle i k state last some comes))

      -- a new cycle
      module _ (new : List ℕ) (stands : (i : ℕ) → i < count → Stands states i) (time : ℕ) (later : cycle < time)
          (settled : Settled starts states new count) where
        held-old :
            (i k state last : ℕ) → k ≤ most_bindings → is_fresh bytes k last time ≡ false
            → (h : Holds starts cycle i k state last) → Stands states h.at
            → Holds new time i k state last
        held-old i k state last most old h (plain small) =
            let is = h.is in
            let up = settled.above k h.at most small in
            let late = h.late in
            record {
              at = h.at;
              known = h.known;
              small = h.small;
              is =
                  h.is
                  ∙ shown-below plan n state h.small (is_fresh bytes k last cycle) (omega arith)
                  ∙ sym (ap (λ (t : Bool). shown plan n t state) old ∙ shown-plain plan n state);
              late = omega arith;
            }
        held-old i k state last most old h (twin b e small is) =
            let shows = h.is in
            let known = h.known in
            let mark = shown-above plan n state h.small (is_fresh bytes k last cycle) (omega arith) in
            let up = settled.here k b most (omega arith) (subst (λ (x : ℕ). fresh_mark ≤ get_or states x 0) e (omega arith)) in
            let late = subst (λ (x : ℕ). i < get_or starts (place_of k x) 0) e h.late in
            record {
              at = b;
              known = omega arith;
              small = h.small;
              is =
                  let z : get_or states b 0 ≡ state = omega arith in
                  z ∙ sym (ap (λ (t : Bool). shown plan n t state) old ∙ shown-plain plan n state);
              late = omega arith;
            }

        pub kept-settled : Kept plan bytes n c duration tight states count new time j
        kept-settled =
            record {
              size = settled.size ∙ kept.size;
              few = kept.few;
              held = λ i k state last some comes.
                  let h = kept.held i k state last some comes in
                  let recent = kept.recent i k state last some comes in
                  held-old i k state last (kept.few i k state last j (omega arith) comes)
                  (not-fresh bytes k last time (λ s e. omega arith))
                  h (stands h.at h.known);
              recent = λ i k state last some comes.
                  let recent = kept.recent i k state last some comes in omega arith;
            }

    module _ (starts : List ℕ) (j : ℕ)
        (kept : Kept plan bytes n c duration tight states count starts (record_at bytes j).time j)
        (leaves links : List ℕ) (can low : ℕ) (new : List ℕ) (listed : Listed plan n states leaves links count count)
        (is : can ≡ can_by plan n c bytes j)
        (past : (i : ℕ) → i < low → Past bytes duration i j)
        (over : IsOver (set starts 0 (j + 1)) leaves count can low false)
        (moved : Advanced (set starts 0 (j + 1)) leaves links count can low tight new 0) where
      begun : List ℕ
      begun = set starts 0 (j + 1)

      cycle : ℕ
      cycle = (record_at bytes j).time

      -- with the readings that begin here
      held_none : (i k state last : ℕ) → k ≡ 0 → Could i k state last j → Holds begun cycle i k state last
      unfolding begun
      held_none i k state last z (begins a b e) =
          let size = kept.size in
          let new = get_or-set_same starts 0 (j + 1) 0 (omega arith) in
          let place : place_of k 0 ≡ 0 = omega arith in
          record {
            at = 0;
            known = listed.some;
            small = omega arith;
            is =
                listed.first ∙ sym b
                ∙ sym (ap (λ (t : Bool). shown plan n t state) (not-fresh bytes k last cycle (λ s q. omega arith)) ∙ shown-plain plan n state);
            late = subst (λ (x : ℕ). i < get_or (set starts 0 (j + 1)) x 0) (sym place) (omega arith);
          }
      held_none i k state last z (waits b e s opened none comes) = absurd (omega arith)
      held_none i k state last z (takes b v l s m e g h q opened steps comes) = absurd (omega arith)

      held-some :
          (i k state last : ℕ) → 0 < k → Holds starts cycle i k state last → Holds begun cycle i k state last
      unfolding begun
      held-some i k state last some h =
          let same = get_or-set_other starts 0 (place_of k h.at) (j + 1) 0 (λ e. omega arith) in
          let late = h.late in
          record { at = h.at; known = h.known; small = h.small; is = h.is; late = omega arith }

      held-begun : (i k state last : ℕ) → Could i k state last j → Holds begun cycle i k state last
      unfolding cycle
      held-begun i k state last comes =
          by_order 0 k
          (λ l. held-some i k state last l (kept.held i k state last l comes))
          (λ l. held_none i k state last (omega arith) comes)

      -- what leaves it
      leaves-held :
          (i k state last : ℕ) → (h : Holds begun cycle i k state last)
          → get_or leaves h.at 0 ≡ leaves_from plan n (shown plan n (is_fresh bytes k last cycle) state)
      leaves-held i k state last h = listed.leaving h.at h.known ∙ ap (leaves_from plan n) h.is

      -- a step from what is held
      fires-here :
          (i k state last v : ℕ) → Open bytes duration i j → Steps plan bytes n c j k state last v
          → (h : Holds begun cycle i k state last)
          → (bit (bit_and can (get_or leaves h.at 0)) v ≡ true) × (low < get_or begun (place_of k h.at) 0)
      unfolding cycle
      fires-here i k state last v opened steps h =
          let late = h.late in
          let near = opened.near in (
            bit-and can (get_or leaves h.at 0) v
                ∙ ap (λ (t : Bool). t && bit (get_or leaves h.at 0) v) (ap (λ (x : ℕ). bit x v) is ∙ steps.can)
                ∙ ap (λ (x : ℕ). bit x v) (leaves-held i k state last h)
                ∙ steps-leave plan bytes n c j k state last h.small v steps,
            by_order i low (λ l. let p = past i l in absurd (omega arith)) (λ l. omega arith),
          )

      room :
          (i k state last v : ℕ) → Open bytes duration i j → Steps plan bytes n c j k state last v
          → Could i k state last j
          → k < most_bindings
      unfolding begun
      room i k state last v opened steps comes =
          let h = held-begun i k state last comes in
          let f = fires-here i k state last v opened steps h in
          let few = kept.few i k state last j (omega arith) comes in
          by_order k most_bindings
          (λ l. l)
          (λ l.
          let z : k ≡ most_bindings = omega arith in
          clash f.0
          (ap (λ (x : ℕ). bit x v) (over.none refl h.at h.known (subst (λ (x : ℕ). low < get_or (set starts 0 (j + 1)) (place_of x h.at) 0) z f.1))
          ∙ bit-zero v))

      held-taken :
          (i k state last v : ℕ) → Open bytes duration i j → Steps plan bytes n c j k state last v
          → Could i k state last j
          → Holds new cycle i (suc k) (bit_or state (2 ^ v)) j
      unfolding begun cycle
      held-taken i k state last v opened steps comes =
          let h = held-begun i k state last comes in
          let f = fires-here i k state last v opened steps h in
          let fewer = room i k state last v opened steps comes in
          let leads = listed.leads h.at v h.known (and_right can (get_or leaves h.at 0) v f.0) in
          let late = h.late in
          let up = moved.here k h.at v fewer (omega arith) h.known f.1 f.0 in
          let to : ℕ = get_or links (link_at h.at v) 0 in
          record {
            at = to;
            known = leads.known;
            small = taken-small plan n state v usable.variables h.small steps.leaves;
            is =
                leads.is
                ∙ ap (λ (x : ℕ). fresh_of plan n (bit_or x (2 ^ v))) (ap state_of h.is ∙ state-shown plan n state h.small (is_fresh bytes k last (record_at bytes j).time))
                ∙ sym
                (ap (λ (t : Bool). shown plan n t (bit_or state (2 ^ v))) (fresh-of bytes (suc k) j (record_at bytes j).time (omega arith) refl)
                ∙ shown-fresh plan n (bit_or state (2 ^ v)));
            late = omega arith;
          }

      -- where no step is to be taken no variable leaves
      quiet :
          (i k state last : ℕ) → (0 < k → (record_at bytes last).time ≤ cycle)
          → ((v : ℕ) → Steps plan bytes n c j k state last v → ⊥)
          → (h : Holds begun cycle i k state last)
          → bit_and can (get_or leaves h.at 0) ≡ 0
      unfolding cycle
      quiet i k state last recent none h =
          no_bits (bit_and can (get_or leaves h.at 0))
          (lt_of_le_of_lt (and_le_r can (get_or leaves h.at 0)) (subst (λ (x : ℕ). x < 2 ^ most_variables) (sym (listed.leaving h.at h.known)) (leaves-bound plan n (get_or states h.at 0) usable.variables)))
          (λ v.
          by-test (bit (bit_and can (get_or leaves h.at 0)) v)
          (λ t.
          absurd (none v
          (leave-steps plan bytes n c j k state last h.small v recent
          (sym (ap (λ (x : ℕ). bit x v) is) ∙ and_left can (get_or leaves h.at 0) v t)
          (sym (ap (λ (x : ℕ). bit x v) (leaves-held i k state last h)) ∙ and_right can (get_or leaves h.at 0) v t))))
          (λ t. t))

      held-waited :
          (i k state last : ℕ) → k ≤ most_bindings → (0 < k → (record_at bytes last).time ≤ cycle)
          → (tight ≡ true → (v : ℕ) → Steps plan bytes n c j k state last v → ⊥)
          → Holds begun cycle i k state last
          → Holds new cycle i k state last
      unfolding begun
      held-waited i k state last most recent none h =
          let few = listed.few in
          let known = h.known in
          let up = moved.stays k h.at most (omega arith) (λ t. quiet i k state last recent (none t) h) in
          let late = h.late in
          record { at = h.at; known = h.known; small = h.small; is = h.is; late = omega arith }

      few-after : (i k state last : ℕ) → 0 < k → Could i k state last (suc j) → k ≤ most_bindings
      few-after i k state last some (begins a b e) = absurd (omega arith)
      few-after i k state last some (waits b e s opened none comes) =
          let z : b ≡ j = omega arith in kept.few i k state last j (omega arith) (subst (Could i k state last) z comes)
      few-after i k state last some (takes b v l s m e g h q opened steps comes) =
          let z : b ≡ j = omega arith in
          let fewer = room i l s m v (subst (Open bytes duration i) z opened) (subst (λ (x : ℕ). Steps plan bytes n c x l s m v) z steps) (subst (Could i l s m) z comes) in
          omega arith

      held_after : (i k state last : ℕ) → 0 < k → Could i k state last (suc j) → Holds new cycle i k state last
      unfolding cycle
      held_after i k state last some (begins a b e) = absurd (omega arith)
      held_after i k state last some (waits b e s opened none comes) =
          let z : b ≡ j = omega arith in
          let before = subst (Could i k state last) z comes in
          held-waited i k state last (kept.few i k state last j (omega arith) before)
          (λ positive. kept.recent i k state last positive before)
          (λ t v steps. none t v (subst (λ (x : ℕ). Steps plan bytes n c x k state last v) (sym z) steps))
          (held-begun i k state last before)
      held_after i k state last some (takes b v l s m e g h q opened steps comes) =
          let z : b ≡ j = omega arith in
          subst (λ (x : ℕ). Holds new (record_at bytes j).time i x state last) (sym g)
          (subst (λ (x : ℕ). Holds new (record_at bytes j).time i (suc l) x last) (sym h)
          (subst (Holds new (record_at bytes j).time i (suc l) (bit_or s (2 ^ v))) (sym (q ∙ z))
          (held-taken i l s m v (subst (Open bytes duration i) z opened) (subst (λ (x : ℕ). Steps plan bytes n c x l s m v) z steps) (subst (Could i l s m) z comes))))

      recent-after :
          (i k state last : ℕ) → 0 < k → Could i k state last (suc j)
          → (record_at bytes last).time ≤ (record_at bytes j).time
      recent-after i k state last some (begins a b e) = absurd (omega arith)
      recent-after i k state last some (waits b e s opened none comes) =
          let z : b ≡ j = omega arith in kept.recent i k state last some (subst (Could i k state last) z comes)
      recent-after i k state last some (takes b v l s m e g h q opened steps comes) =
          let z : last ≡ j = omega arith in
          subst (λ (x : ℕ). (record_at bytes x).time ≤ (record_at bytes j).time) (sym z) (omega arith)

      -- a record that moves the starts on
      pub kept-moved : Kept plan bytes n c duration tight states count new (record_at bytes j).time (j + 1)
      unfolding cycle
      kept-moved =
          kept_by starts (record_at bytes j).time j kept new (moved.size ∙ length-set starts 0 (j + 1) ∙ kept.size)
          few-after held_after recent-after
