-- Each of the latest starts is that of a reading that comes by own conditions and the order mark alone, record by
-- record, and so where no condition joins variables one takes a binding too many at the record at which the sweep ends.
-- Assumes nothing.
use Rattle.std.proofs.Common.{◌≡◌, refl, sym, ap, ap₂, subst, ◌∙◌, Bool, true, ◌&&◌, List, ℕ, suc, ◌+◌, ◌-◌, ◌^◌, ◌≤◌}
use Rattle.std.proofs.Common.{◌<◌, lt_of_le_of_lt, add-one, arith, bit_and, bit_or, length, get_or, set, replicate}
use Rattle.std.proofs.Common.{get_or-set_same, get_or-set_other}
use lib.Bits.{and_le_r}
use lib.ListN.{get_or-replicate}
use Rattle.numbers.specs.Bits.{bit}
use Rattle.numbers.proofs.Cases.{by_order}
use Rattle.numbers.proofs.Bits.{bit-zero, bit-and}
use Rattle.records.specs.Records.{record_at, record_count, event_kind}
use Rattle.patterns.specs.Patterns.{most_variables}
use Rattle.automaton.proofs.Membership.{clash}
use Rattle.rule.specs.Promises.{most_bindings}
use Rattle.firing.specs.Firing.{can_by}
use Rattle.reach.specs.Readings.{Usable}
use Rattle.states.specs.States.{most_states, link_at, fresh_mark, fresh_of, shown, state_of, leaves_from, Stands, Listed}
use Rattle.states.specs.States.Stands.{plain, twin}
use Rattle.states.proofs.Fresh.{leaves-bound, shown-plain, shown-fresh, shown-below, shown-above, state-shown}
use Rattle.sweep.specs.Starts.{place_of, most_places, SomeOver, Came, Advanced, Settles, Settled}
use Rattle.sweep.specs.Starts.Came.{stayed, moved}
use Rattle.sweep.specs.Starts.Settles.{empty, stays, folds}
use Rattle.sweep.specs.Floors.{Open, Steps, Comes, Free, Reached, FirstOpen}
use Rattle.sweep.specs.Floors.Comes.{begins, waits, takes}
use Rattle.sweep.proofs.Cycles.{is_fresh, fresh-of, not-fresh, taken-small, steps-leave, leave-steps}
use Rattle.sweep.proofs.Starts.{and_left, and_right, some-bit}
use Rattle.sweep.proofs.Windows.{climbs, near-later}
use Rattle.sweep.proofs.Finding.{reached-of}

-- record m is not past the window of a reading that begins at record i
abbrev pub Near : List ℕ → ℕ → ℕ → ℕ → Type 0
Near bytes duration i m = (record_at bytes m).time ≤ (record_at bytes i).time + duration

-- a reading of k bindings comes to a place before record j, where the last cycle that moved the states is `cycle`
pub record ComesTo (plan bytes : List ℕ) (n c duration : ℕ) (tight : Bool) (states : List ℕ)
    (cycle i k at j : ℕ) : Type 0 where
  pub state : ℕ
  pub last : ℕ
  pub small : state < fresh_mark
  pub is : get_or states at 0 ≡ shown plan n (is_fresh bytes k last cycle) state
  pub recent : 0 < k → (record_at bytes last).time ≤ cycle
  pub comes : Comes plan bytes n c duration tight i k state last j

-- the start of a place, but that of no bindings in their state, is one of a reading that comes there before record j,
-- while its window has a record yet
pub record From (plan bytes : List ℕ) (n c duration : ℕ) (tight : Bool) (states : List ℕ)
    (count cycle i k at j : ℕ) : Type 0 where
  pub some : 0 < k
  pub known : at < count
  pub to : ComesTo plan bytes n c duration tight states cycle i k at j

pub record Backed (plan bytes : List ℕ) (n c duration : ℕ) (tight : Bool) (states : List ℕ) (count : ℕ)
    (starts : List ℕ) (cycle j : ℕ) : Type 0 where
  pub early : (k at : ℕ) → k ≤ most_bindings → at < most_states → get_or starts (place_of k at) 0 ≤ j
  pub back :
      (i k at m : ℕ) → k ≤ most_bindings → at < most_states → 0 < k + at → get_or starts (place_of k at) 0 ≡ suc i
      → j ≤ m → m < record_count bytes → Near bytes duration i m
      → From plan bytes n c duration tight states count cycle i k at j

module _ (plan bytes : List ℕ) (n c duration : ℕ) (usable : Usable plan bytes n c) (tight : Bool) (states : List ℕ)
    (count : ℕ) where
  -- no starts
  pub backed-none :
      (starts : List ℕ) (cycle j : ℕ) → starts ≡ replicate most_places 0
      → Backed plan bytes n c duration tight states count starts cycle j
  backed-none starts cycle j e =
      record {
        early = λ k at a b. let z = nothing k at a b in omega arith;
        back = λ i k at m a b other is. let z = nothing k at a b in absurd (omega arith);
      }
    where
      nothing : (k at : ℕ) → k ≤ most_bindings → at < most_states → get_or starts (place_of k at) 0 ≡ 0
      nothing k at a b =
          ap (λ (x : List ℕ). get_or x (place_of k at) 0) e ∙ get_or-replicate {A = ℕ} most_places (place_of k at) 0 0 (omega arith)

  -- a reading that waits
  waited :
      (cycle i k at j : ℕ) → 0 < k → Open bytes duration i j
      → (to : ComesTo plan bytes n c duration tight states cycle i k at j)
      → (tight ≡ true → (v : ℕ) → Steps plan bytes n c j k to.state to.last v → ⊥)
      → ComesTo plan bytes n c duration tight states cycle i k at (suc j)
  waited cycle i k at j some opened to none =
      record {
        state = to.state;
        last = to.last;
        small = to.small;
        is = to.is;
        recent = to.recent;
        comes = waits j refl some opened none to.comes;
      }

  -- a new cycle
  module _ (starts : List ℕ) (cycle j : ℕ) (backed : Backed plan bytes n c duration tight states count starts cycle j)
      (new : List ℕ) (time : ℕ) (later : cycle < time) (settled : Settled starts states new count)
      (few : count ≤ most_states)
      (stands : (i : ℕ) → i < count → Stands states i)
      (first : get_or states 0 0 ≡ 0) where
    -- the reading is not fresh any more
    older :
        (i k at to : ℕ) → 0 < k → (f : ComesTo plan bytes n c duration tight states cycle i k at j)
        → get_or states to 0 ≡ f.state
        → ComesTo plan bytes n c duration tight states time i k to j
    older i k at to some f e =
        let recent = f.recent some in
        record {
          state = f.state;
          last = f.last;
          small = f.small;
          is =
              e
              ∙ sym (ap (λ (t : Bool). shown plan n t f.state) (not-fresh bytes k f.last time (λ s q. omega arith)) ∙ shown-plain plan n f.state);
          recent = λ s. omega arith;
          comes = f.comes;
        }

    settled-early :
        (k at start : ℕ) → k ≤ most_bindings → at < most_states → Settles starts states count k at start → start ≤ j
    settled-early k at start a b (empty e) = omega arith
    settled-early k at start a b (stays e none) = let l = backed.early k at a b in omega arith
    settled-early k at start a b (folds l f e) = let m = backed.early k (suc at) a (omega arith) in omega arith

    before-twin :
        (at : ℕ) → fresh_mark ≤ get_or states (suc at) 0 → Stands states (suc at)
        → get_or states (suc at) 0 ≡ fresh_mark + get_or states at 0
    before-twin at l (plain small) = absurd (omega arith)
    before-twin at l (twin b e small is) =
        let z : b ≡ at = omega arith in is ∙ ap (λ (x : ℕ). fresh_mark + get_or states x 0) z

    not-marked :
        (at : ℕ) → at < count → (0 < at → at < count → get_or states at 0 < fresh_mark) → get_or states at 0 < fresh_mark
    not-marked at known none =
        by_order 0 at
        (λ l. none l known)
        (λ l. let z : at ≡ 0 = omega arith in let e = ap (λ (x : ℕ). get_or states x 0) z in omega arith)

    settled-from :
        (i k at m start : ℕ) → k ≤ most_bindings → at < most_states → 0 < k + at → start ≡ suc i → j ≤ m
        → m < record_count bytes → Near bytes duration i m
        → Settles starts states count k at start
        → From plan bytes n c duration tight states count time i k at j
    settled-from i k at m start a b other is l inside near (empty e) = absurd (omega arith)
    settled-from i k at m start a b other is l inside near (stays e none) =
        let f = backed.back i k at m a b other (sym e ∙ is) l inside near in
        let to = f.to in
        let plainly = not-marked at f.known none in
        let shows = to.is in
        record {
          some = f.some;
          known = f.known;
          to =
              older i k at at f.some to
              (to.is ∙ shown-below plan n to.state to.small (is_fresh bytes k to.last cycle) (omega arith));
        }
    settled-from i k at m start a b other is l inside near (folds d g e) =
        let f = backed.back i k (suc at) m a (omega arith) (omega arith) (sym e ∙ is) l inside near in
        let to = f.to in
        let shows = to.is in
        let marks = shown-above plan n to.state to.small (is_fresh bytes k to.last cycle) (omega arith) in
        let before = before-twin at g (stands (suc at) d) in
        let z : get_or states at 0 ≡ to.state = omega arith in
        record { some = f.some; known = omega arith; to = older i k (suc at) at f.some to z }

    pub backed-settled : Backed plan bytes n c duration tight states count new time j
    backed-settled =
        record {
          early = λ k at a b. settled-early k at (get_or new (place_of k at) 0) a b (settled.only k at a);
          back = λ i k at m a b other is l inside near.
              settled-from i k at m (get_or new (place_of k at) 0) a b other is l inside near (settled.only k at a);
        }

  module _ (j : ℕ) (inside : j < record_count bytes) (event : (record_at bytes j).kind ≡ event_kind) where
    near_before : (i m : ℕ) → j ≤ m → m < record_count bytes → Near bytes duration i m → Near bytes duration i j
    near_before i m a b near = let rise = climbs bytes usable.climbing j m a b in omega arith

    still_open : (i : ℕ) → Near bytes duration i j → Open bytes duration i j
    still_open i near = record { inside = inside; event = event; near = near }

    -- a record that nothing can be bound to
    pub backed-idle :
        (starts : List ℕ) (cycle : ℕ) → Backed plan bytes n c duration tight states count starts cycle j
        → can_by plan n c bytes j ≡ 0
        → Backed plan bytes n c duration tight states count starts cycle (j + 1)
    backed-idle starts cycle backed idle =
        record {
          early = λ k at a b. let l = backed.early k at a b in omega arith;
          back = λ i k at m a b other is l e near.
              let here = near_before i m (omega arith) e near in
              let from = backed.back i k at j a b other is (omega arith) inside here in
              subst (From plan bytes n c duration tight states count cycle i k at) (sym (add-one j))
              (record {
                some = from.some;
                known = from.known;
                to =
                    waited cycle i k at j from.some (still_open i here) from.to
                    (λ t v steps. clash steps.can (ap (λ (x : ℕ). bit x v) idle ∙ bit-zero v));
              });
        }

    module _ (starts : List ℕ)
        (backed : Backed plan bytes n c duration tight states count starts (record_at bytes j).time j) where
      abbrev cycle : ℕ
      cycle = (record_at bytes j).time

      -- with the readings that begin here
      begun : List ℕ
      begun = set starts 0 (j + 1)

      begun-other : (k at : ℕ) → 0 < k + at → get_or begun (place_of k at) 0 ≡ get_or starts (place_of k at) 0
      unfolding begun
      begun-other k at other = get_or-set_other starts 0 (place_of k at) (j + 1) 0 (λ e. omega arith)

      begun_first : length starts ≡ most_places → get_or begun 0 0 ≡ j + 1
      unfolding begun
      begun_first size = get_or-set_same starts 0 (j + 1) 0 (omega arith)

      begun-early :
          length starts ≡ most_places → (k at : ℕ) → k ≤ most_bindings → at < most_states
          → get_or begun (place_of k at) 0 ≤ j + 1
      begun-early size k at a b =
          by_order 0 (k + at)
          (λ l. let same = begun-other k at l in let e = backed.early k at a b in omega arith)
          (λ l.
          let z : place_of k at ≡ 0 = omega arith in
          let e = ap (λ (x : ℕ). get_or begun x 0) z ∙ begun_first size in
          omega arith)

      module _ (leaves links : List ℕ) (can low : ℕ) (size : length starts ≡ most_places)
          (listed : Listed plan n states leaves links count count) (is : can ≡ can_by plan n c bytes j)
          (opened : FirstOpen bytes duration j low) where
        -- a variable that fires
        fires-steps :
            (i k at v : ℕ) → at < count → (to : ComesTo plan bytes n c duration tight states cycle i k at j)
            → bit (bit_and can (get_or leaves at 0)) v ≡ true
            → Steps plan bytes n c j k to.state to.last v
        fires-steps i k at v known to t =
            leave-steps plan bytes n c j k to.state to.last to.small v to.recent
            (sym (ap (λ (x : ℕ). bit x v) is) ∙ and_left can (get_or leaves at 0) v t)
            (sym (ap (λ (x : ℕ). bit x v) (listed.leaving at known ∙ ap (leaves_from plan n) to.is))
            ∙ and_right can (get_or leaves at 0) v t)

        steps-none :
            (i k at v : ℕ) → at < count → (to : ComesTo plan bytes n c duration tight states cycle i k at j)
            → bit_and can (get_or leaves at 0) ≡ 0
            → Steps plan bytes n c j k to.state to.last v
            → ⊥
        steps-none i k at v known to none steps =
            clash
            (bit-and can (get_or leaves at 0) v
            ∙ ap₂ ◌&&◌ (ap (λ (x : ℕ). bit x v) is ∙ steps.can)
            (ap (λ (x : ℕ). bit x v) (listed.leaving at known ∙ ap (leaves_from plan n) to.is)
            ∙ steps-leave plan bytes n c j k to.state to.last to.small v steps))
            (ap (λ (x : ℕ). bit x v) none ∙ bit-zero v)

        -- what leads on from a place comes there
        begun-comes :
            (i k at : ℕ) → k ≤ most_bindings → at < count → get_or begun (place_of k at) 0 ≡ suc i
            → Near bytes duration i j
            → ComesTo plan bytes n c duration tight states cycle i k at j
        begun-comes i k at a known e near =
            let few = listed.few in
            by_order 0 (k + at)
            (λ l. (backed.back i k at j a (omega arith) l (sym (begun-other k at l) ∙ e) (omega arith) inside near).to)
            (λ l.
            let z : place_of k at ≡ 0 = omega arith in
            let first = sym (ap (λ (x : ℕ). get_or begun x 0) z ∙ begun_first size) ∙ e in
            let none : at ≡ 0 = omega arith in
            record {
              state = 0;
              last = 0;
              small = omega arith;
              is =
                  ap (λ (x : ℕ). get_or states x 0) none ∙ listed.first
                  ∙ sym (ap (λ (t : Bool). shown plan n t 0) (not-fresh bytes k 0 cycle (λ s q. omega arith)) ∙ shown-plain plan n 0);
              recent = λ s. absurd (omega arith);
              comes = begins (omega arith) refl (omega arith);
            })

        module _ (new : List ℕ)
            (advanced : Advanced (set starts 0 (j + 1)) leaves links count can low tight new 0) where
          early-by :
              (k at : ℕ) → k ≤ most_bindings → at < most_states
              → Came begun leaves links count can low tight k at (get_or new (place_of k at) 0)
              → get_or new (place_of k at) 0 ≤ j + 1
          early-by k at a b (stayed e none) = let l = begun-early size k at a b in omega arith
          early-by k at a b (moved l from v next known late e fires link) =
              let few = listed.few in
              let m = begun-early size l from (omega arith) (omega arith) in
              omega arith

          -- one binding more
          taken :
              (i l from v : ℕ) → from < count → Near bytes duration i j
              → bit (bit_and can (get_or leaves from 0)) v ≡ true
              → ComesTo plan bytes n c duration tight states cycle i l from j
              → ComesTo plan bytes n c duration tight states cycle i (suc l) (get_or links (link_at from v) 0) (suc j)
          taken i l from v known near fires to =
              let leads = listed.leads from v known (and_right can (get_or leaves from 0) v fires) in
              let steps = fires-steps i l from v known to fires in
              record {
                state = bit_or to.state (2 ^ v);
                last = j;
                small = taken-small plan n to.state v usable.variables to.small steps.leaves;
                is =
                    leads.is
                    ∙ ap (λ (x : ℕ). fresh_of plan n (bit_or x (2 ^ v))) (ap state_of to.is ∙ state-shown plan n to.state to.small (is_fresh bytes l to.last cycle))
                    ∙ sym
                    (ap (λ (t : Bool). shown plan n t (bit_or to.state (2 ^ v))) (fresh-of bytes (suc l) j cycle (omega arith) refl)
                    ∙ shown-fresh plan n (bit_or to.state (2 ^ v)));
                recent = λ s. omega arith;
                comes = takes j v l to.state to.last refl refl refl refl (still_open i near) steps to.comes;
              }

          back_by :
              (i k at : ℕ) → k ≤ most_bindings → at < most_states → 0 < k + at → get_or new (place_of k at) 0 ≡ suc i
              → Near bytes duration i j
              → Came begun leaves links count can low tight k at (get_or new (place_of k at) 0)
              → From plan bytes n c duration tight states count cycle i k at (suc j)
          back_by i k at a b other e near (stayed same none) =
              let from = backed.back i k at j a b other (sym (begun-other k at other) ∙ same ∙ e) (omega arith) inside near in
              record {
                some = from.some;
                known = from.known;
                to =
                    waited cycle i k at j from.some (still_open i near) from.to
                    (λ t v. steps-none i k at v from.known from.to (none t from.known));
              }
          back_by i k at a b other e near (moved l from v next known late same fires link) =
              let leads = listed.leads from v known (and_right can (get_or leaves from 0) v fires) in
              record {
                some = omega arith;
                known = subst (λ (x : ℕ). x < count) link leads.known;
                to =
                    subst (λ (x : ℕ). ComesTo plan bytes n c duration tight states cycle i x at (suc j)) (sym next)
                    (subst (λ (x : ℕ). ComesTo plan bytes n c duration tight states cycle i (suc l) x (suc j)) link
                    (taken i l from v known near fires (begun-comes i l from (omega arith) known (same ∙ e) near)));
              }

          came-begun :
              (k at : ℕ) → k ≤ most_bindings → at < most_states → low < get_or new (place_of k at) 0
              → Came begun leaves links count can low tight k at (get_or new (place_of k at) 0)
          unfolding begun
          came-begun k at a b late = advanced.came k at a (omega arith) late

          -- a record that moves the starts on
          pub backed-moved : Backed plan bytes n c duration tight states count new (record_at bytes j).time (j + 1)
          backed-moved =
              let up = opened.up_to in
              record {
                early = λ k at a b.
                    by_order low (get_or new (place_of k at) 0)
                    (λ l. early-by k at a b (came-begun k at a b l))
                    (λ l. omega arith);
                back = λ i k at m a b other e l f near.
                    let here = near_before i m (omega arith) f near in
                    let late = by_order i low (λ q. let past = opened.past i q in absurd (omega arith)) (λ q. q) in
                    subst (From plan bytes n c duration tight states count cycle i k at) (sym (add-one j))
                    (back_by i k at a b other e here (came-begun k at a b (omega arith)));
              }

        -- one too many
        pub backed-over :
            tight ≡ true → Free plan → SomeOver (set starts 0 (j + 1)) leaves count can low
            → Reached plan bytes n c duration j
        unfolding begun
        backed-over t free over =
            let at : ℕ = over.at in
            let known = over.known in
            let few = listed.few in
            let late = over.late in
            let i : ℕ = get_or (set starts 0 (j + 1)) (place_of most_bindings at) 0 - 1 in
            let same = begun-other most_bindings at (omega arith) in
            let e : get_or starts (place_of most_bindings at) 0 ≡ suc i = omega arith in
            let early = backed.early most_bindings at (omega arith) (omega arith) in
            let near = near-later bytes usable.climbing duration low i j opened.near (omega arith) (omega arith) in
            let from = backed.back i most_bindings at j (omega arith) (omega arith) (omega arith) e (omega arith) inside near in
            let to = from.to in
            let small = lt_of_le_of_lt (and_le_r can (get_or leaves at 0))
            (subst (λ (x : ℕ). x < 2 ^ most_variables) (sym (listed.leaving at known)) (leaves-bound plan n (get_or states at 0) usable.variables)) in
            let v = some-bit (bit_and can (get_or leaves at 0)) small over.fires in
            reached-of plan bytes n c duration usable free i to.state to.last j v.0
            (subst (λ (x : Bool). Comes plan bytes n c duration x i most_bindings to.state to.last j) t to.comes)
            (still_open i near)
            (fires-steps i most_bindings at v.0 known to v.1)
