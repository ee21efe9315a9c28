-- The sweep from record to record, and what it comes to. Assumes nothing.
use Rattle.std.proofs.Common.{◌≡◌, refl, sym, ap, subst, ◌∙◌, Bool, true, false, List, ℕ, ◌+◌, ◌≤◌, ◌<◌, arith, length}
use Rattle.std.proofs.Common.{replicate}
use lib.ListN.{length-replicate}
use Rattle.numbers.proofs.Cases.{by_order}
use Rattle.records.specs.Records.{record_at, record_count, event_kind}
use Rattle.records.specs.Blocks.{most_records}
use Rattle.firing.specs.Firing.{can_by}
use Rattle.reach.specs.Readings.{Usable}
use Rattle.states.specs.States.{Listed, Inside}
use Rattle.sweep.specs.Starts.{most_places, Moved, SettledBefore}
use Rattle.sweep.specs.Starts.SettledBefore.{goes_on, renewed}
use Rattle.sweep.specs.Floors.{Past, Free, Floor, Reached, FirstOpen}
use Rattle.sweep.proofs.Windows.{climbs, past-later}
use Rattle.sweep.proofs.Keeping.{Kept, listed-inside, floor-of, kept-none, kept-gap, kept-idle, kept-moved}
use Rattle.sweep.proofs.Keeping.{kept-settled}
use Rattle.sweep.proofs.Backing.{Backed, backed-none, backed-idle, backed-settled, backed-moved, backed-over}

-- where it stands before record j
pub record Going (plan bytes : List ℕ) (n c duration : ℕ) (tight : Bool) (states leaves links : List ℕ) (count : ℕ)
    (starts : List ℕ) (cycle low j : ℕ) : Type 0 where
  pub free : tight ≡ true → Free plan
  pub listed : Listed plan n states leaves links count count
  pub kept : Kept plan bytes n c duration tight states count starts cycle j
  pub backed : Backed plan bytes n c duration tight states count starts cycle j
  pub before : low ≤ j
  pub past : (i m : ℕ) → i < low → j ≤ m → m < record_count bytes → Past bytes duration i m
  pub up_to : (m : ℕ) → j ≤ m → m < record_count bytes → cycle ≤ (record_at bytes m).time

module _ (plan bytes : List ℕ) (n c duration : ℕ) (usable : Usable plan bytes n c) (tight : Bool)
    (states leaves links : List ℕ) (count : ℕ) where
  pub going-none :
      (tight ≡ true → Free plan) → (starts : List ℕ) → Listed plan n states leaves links count count
      → starts ≡ replicate most_places 0
      → Going plan bytes n c duration tight states leaves links count starts 0 0 0
  going-none free starts listed e =
      record {
        free = free;
        listed = listed;
        kept = kept-none plan bytes n c duration usable tight free states count starts 0 e;
        backed = backed-none plan bytes n c duration usable tight states count starts 0 0 e;
        before = omega arith;
        past = λ i m l. absurd (omega arith);
        up_to = λ m l i. omega arith;
      }

  module _ (starts : List ℕ) (cycle low j : ℕ)
      (g : Going plan bytes n c duration tight states leaves links count starts cycle low j) where
    pub going-inside : Inside leaves links count
    going-inside = listed-inside plan n states leaves links count g.listed

    pub going-floor : j ≤ most_records → Floor plan bytes n c duration j
    going-floor l = floor-of plan bytes n c duration usable tight g.free j l g.kept.few

    -- a gap
    pub going-gap :
        ((record_at bytes j).kind ≡ event_kind → ⊥) → (new : List ℕ) → new ≡ replicate most_places 0
        → Going plan bytes n c duration tight states leaves links count new cycle low (j + 1)
    going-gap gap new e =
        let before = g.before in
        record {
          free = g.free;
          listed = g.listed;
          kept =
              kept-gap plan bytes n c duration usable tight g.free states count starts cycle j g.kept gap new
              (ap length e ∙ length-replicate {A = ℕ} most_places 0);
          backed = backed-none plan bytes n c duration usable tight states count new cycle (j + 1) e;
          before = omega arith;
          past = λ i m l b. g.past i m l (omega arith);
          up_to = λ m l. g.up_to m (omega arith);
        }

    module _ (inside : j < record_count bytes) where
      -- an event that nothing can be bound to
      pub going-idle :
          (record_at bytes j).kind ≡ event_kind → can_by plan n c bytes j ≡ 0
          → Going plan bytes n c duration tight states leaves links count starts cycle low (j + 1)
      going-idle event idle =
          let before = g.before in
          record {
            free = g.free;
            listed = g.listed;
            kept = kept-idle plan bytes n c duration usable tight g.free states count starts cycle j g.kept idle;
            backed =
                backed-idle plan bytes n c duration usable tight states count j inside event starts cycle g.backed idle;
            before = omega arith;
            past = λ i m l b. g.past i m l (omega arith);
            up_to = λ m l. g.up_to m (omega arith);
          }

      -- the cycle of an event begins, or goes on
      settled-by :
          (new : List ℕ) → SettledBefore starts states count cycle (record_at bytes j).time new
          → Kept plan bytes n c duration tight states count new (record_at bytes j).time j
          × Backed plan bytes n c duration tight states count new (record_at bytes j).time j
      settled-by new (goes_on e is) = (
        subst (λ (x : ℕ). Kept plan bytes n c duration tight states count new x j) (sym e)
            (subst (λ (x : List ℕ). Kept plan bytes n c duration tight states count x cycle j) (sym is) g.kept),
        subst (λ (x : ℕ). Backed plan bytes n c duration tight states count new x j) (sym e)
            (subst (λ (x : List ℕ). Backed plan bytes n c duration tight states count x cycle j) (sym is) g.backed),
      )
      settled-by new (renewed other settled) =
          let up = g.up_to j (omega arith) inside in
          let later : cycle < (record_at bytes j).time =
          by_order cycle (record_at bytes j).time (λ l. l) (λ l. absurd (other (omega arith))) in (
            kept-settled plan bytes n c duration usable tight g.free states count starts cycle j g.kept new
                g.listed.stands (record_at bytes j).time later settled,
            backed-settled plan bytes n c duration usable tight states count starts cycle j g.backed new
                (record_at bytes j).time later settled g.listed.few g.listed.stands g.listed.first,
          )

      pub going_settled :
          (new : List ℕ) → SettledBefore starts states count cycle (record_at bytes j).time new
          → Going plan bytes n c duration tight states leaves links count new (record_at bytes j).time low j
      going_settled new settled =
          let both = settled-by new settled in
          record {
            free = g.free;
            listed = g.listed;
            kept = both.0;
            backed = both.1;
            before = g.before;
            past = g.past;
            up_to = λ m l b. climbs bytes usable.climbing j m l b;
          }

  module _ (starts : List ℕ) (low j : ℕ)
      (g : Going plan bytes n c duration tight states leaves links count starts (record_at bytes j).time low j)
      (inside : j < record_count bytes) (event : (record_at bytes j).kind ≡ event_kind)
      (can first : ℕ)
      (new : List ℕ)
      (is : can ≡ can_by plan n c bytes j)
      (opened : FirstOpen bytes duration j first) where
    -- an event at which all leads on
    pub going-moved :
        Moved starts leaves links count can first tight j new false
        → Going plan bytes n c duration tight states leaves links count new (record_at bytes j).time first (j + 1)
    going-moved moved =
        let up = opened.up_to in
        record {
          free = g.free;
          listed = g.listed;
          kept =
              kept-moved plan bytes n c duration usable tight g.free states count starts j g.kept leaves links can first new
              g.listed is opened.past moved.over (moved.moved refl);
          backed =
              backed-moved plan bytes n c duration usable tight states count j inside event starts g.backed leaves links can first
              g.kept.size g.listed is opened new (moved.moved refl);
          before = omega arith;
          past = λ i m l b e. past-later bytes usable.climbing duration i j m (opened.past i l) (omega arith) e;
          up_to = λ m l. g.up_to m (omega arith);
        }

    -- one at which a reading takes a binding too many
    pub going-over :
        Moved starts leaves links count can first tight j new true → tight ≡ true
        → Reached plan bytes n c duration j
    going-over moved t =
        backed-over plan bytes n c duration usable tight states count j inside event starts g.backed leaves links can first
        g.kept.size g.listed is opened t (g.free t) (moved.over.some refl)
