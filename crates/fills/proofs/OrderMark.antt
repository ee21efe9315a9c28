-- What the order mark asks for: a record later than the latest binding. Where it stands for one variable of the next
-- set, it stands for all; a loop never has it. Assumes nothing.
use mathlib.Core.Path.{◌≡◌, refl, sym, ap, ap₂, subst, ◌∙◌}
use mathlib.Core.Bool.{Bool, true, false, ◌&&◌, ◌||◌, or-true}
use mathlib.Core.List.{List, [], ◌∷◌, Memᴰ}
use Prim.Native.Nat.{ℕ, zero, suc, ◌+◌, ◌-◌, ◌^◌, ◌≤◌, ◌<◌}
use native.Mathlib.Nat.{not-suc-le-zero}
use native.Mathlib.Omega.{arith}
use borrow.Author.Tests.{eq-eqb, lt-ltb, le-ltb}
use lib.Dec.{eqb, ltb, leb}
use Rattle.numbers.specs.Bits.{bit, disjoint}
use Rattle.numbers.proofs.Cases.{by_order}
use Rattle.numbers.proofs.Bits.{mask_bound, mask-inside, mask-same}
use Rattle.numbers.proofs.Bits.{disjoint-true}
use Rattle.records.specs.Records.{record_at, record_count, records_of}
use Rattle.patterns.specs.declared.Pattern.{Pattern}
use Rattle.patterns.specs.Patterns.{most_variables}
use Rattle.patterns.specs.Checked.{set_of}
use Rattle.automaton.proofs.All.{implies-of}
use Rattle.automaton.proofs.Membership.{clash}
use Rattle.rule.specs.Rule.{Binding, Reading, fires}
use Rattle.rule.specs.Starts.{with_binding}
use Rattle.slots.specs.Slots.{bindings_in, count_in, held_in, holding}
use Rattle.plans.specs.Plan.{before_in, marks_in, joins_in, standing, stands, variable_mask}
use Rattle.plans.proofs.Plans.{before-in, marks-in}
use Rattle.firing.specs.Firing.{can_by, leaves_by, later_than, later_by, fires_by, ReadBelow}
use Rattle.firing.proofs.FiresBy.{fires-by}
use Rattle.firing.proofs.Joins.{joins-none}
use Rattle.firing.proofs.Slots.{binding_at}
use Rattle.reach.specs.Readings.{Of}
use Rattle.fills.specs.Opening.{up_to, Marked, Early, Behind}
use Rattle.fills.specs.Opening.Behind.{kept, taken}
use Rattle.fills.proofs.Sets.{IsNext, next-below, next-new, next-leaves, earlier-in}

-- ## The latest binding

latest-of : (slot : List ℕ) (n : ℕ) → 1 ≤ n → up_to (bindings_in slot n) ≡ (binding_at slot (n - 1)).at + 1
unfolding up_to bindings_in
latest-of slot zero h = absurd (not-suc-le-zero h)
latest-of slot (suc n) h =
    let e : n ≡ suc n - 1 = omega arith in
    ap (λ (j : ℕ). (binding_at slot j).at + 1) e

pub up-to-none : (slot : List ℕ) → count_in slot ≡ 0 → up_to (held_in slot).bindings ≡ 0
unfolding held_in up_to bindings_in
up-to-none slot e = ap (λ (n : ℕ). up_to (bindings_in slot n)) e

pub up-to-latest :
    (slot : List ℕ) → 1 ≤ count_in slot → up_to (held_in slot).bindings ≡ (binding_at slot (count_in slot - 1)).at + 1
unfolding held_in
up-to-latest slot h = latest-of slot (count_in slot) h

pub up-to-below : (r : Reading) (j : ℕ) → ((b : Binding) → Memᴰ b r → b.at < j) → up_to r ≤ j
unfolding up_to
up-to-below [] j h = omega arith
up-to-below (b ∷ bs) j h = let l = h b (Memᴰ.head refl) in omega arith

pub behind-bound : (able last i next : ℕ) → Behind able last i next → last ≤ i → next ≤ i + 1
behind-bound able last i next (kept e) l = omega arith
behind-bound able last i next (taken some e) l = omega arith

-- nothing is later than a reading's latest binding that is early by it
pub early-held : (bytes : List ℕ) (i : ℕ) (r : Reading) → Early bytes (up_to r) i → later_than bytes i r ≡ false
unfolding up_to later_than
early-held bytes i [] e = absurd (not-suc-le-zero e.some)
early-held bytes i (b ∷ bs) e =
    let z : (b.at + 1) - 1 ≡ b.at = omega arith in
    le-ltb (record_at bytes b.at).time (record_at bytes i).time
    (subst (λ (k : ℕ). (record_at bytes i).time ≤ (record_at bytes k).time) z e.time)

module _ (bytes : List ℕ)
    (climbing : (i : ℕ) → suc i < record_count bytes → (record_at bytes i).time ≤ (record_at bytes (suc i)).time) where
  climbs : (d i k : ℕ) → k ≡ d + i → k < record_count bytes → (record_at bytes i).time ≤ (record_at bytes k).time
  climbs zero i k e l =
      let z : i ≡ k = omega arith in
      subst (λ (x : ℕ). (record_at bytes i).time ≤ (record_at bytes x).time) z (omega arith)
  climbs (suc d) i k e l =
      let z : suc (d + i) ≡ k = omega arith in
      let before = climbs d i (d + i) refl (omega arith) in
      let next = climbing (d + i) (omega arith) in
      subst (λ (x : ℕ). (record_at bytes i).time ≤ (record_at bytes x).time) z (omega arith)

  -- nor than a binding that was taken at the last of so many records, or behind them
  pub early-taken :
      (o : Reading) (v k last i : ℕ) → last ≤ k + 1 → k < record_count bytes → Early bytes last i
      → later_than bytes i (with_binding o v k) ≡ false
  unfolding later_than
  early-taken o v k last i m l e =
      let some = e.some in
      let up = climbs (k - (last - 1)) (last - 1) k (omega arith) l in
      let time = e.time in
      le-ltb (record_at bytes k).time (record_at bytes i).time (omega arith)

-- ## The order mark of a set

module _ (p : Pattern) (plan bytes : List ℕ) (n c : ℕ) (of : Of p plan bytes n c) where
  narrow : (v : ℕ) → v < n → v < most_variables
  narrow v l = let few = of.order.few in omega (arith, of.variables)

  in-before : (v : ℕ) → v < n → (u : ℕ) → u < n → bit (before_in plan v) u ≡ ltb (set_of p u) (set_of p v)
  unfolding variable_mask standing
  in-before v l u m =
      ap (λ (x : ℕ). bit x u) (before-in p plan of.made v (narrow v l))
      ∙ mask-inside (stands p 0 v) p.n u (omega (arith, of.variables))

  pub before-bound : (v : ℕ) → v < n → before_in plan v < 2 ^ n
  unfolding variable_mask
  before-bound v l =
      subst (λ (x : ℕ). before_in plan v < 2 ^ x) (sym of.variables)
      (subst (λ (x : ℕ). x < 2 ^ p.n) (sym (before-in p plan of.made v (narrow v l))) (mask_bound (stands p 0 v) p.n))

  before_same : (v u : ℕ) → v < n → u < n → set_of p v ≡ set_of p u → before_in plan v ≡ before_in plan u
  unfolding variable_mask standing
  before_same v u l m e =
      before-in p plan of.made v (narrow v l)
      ∙ mask-same (stands p 0 v) (stands p 0 u) p.n (λ w k. ap (λ (x : ℕ). ltb (set_of p w) x) e)
      ∙ sym (before-in p plan of.made u (narrow u m))

  marks-same : (v u : ℕ) → v < n → u < n → set_of p v ≡ set_of p u → marks_in plan v ≡ marks_in plan u
  unfolding variable_mask standing
  marks-same v u l m e =
      marks-in p plan of.made v (narrow v l)
      ∙ mask-same (stands p 2 v) (stands p 2 u) p.n (λ w k. ap (λ (x : ℕ). leb x 1 || eqb (set_of p w) x) e)
      ∙ sym (marks-in p plan of.made u (narrow u m))

  -- a variable stands among those of its own set
  in-marks : (v : ℕ) → v < n → bit (marks_in plan v) v ≡ true
  unfolding variable_mask standing
  in-marks v l =
      ap (λ (x : ℕ). bit x v) (marks-in p plan of.made v (narrow v l))
      ∙ mask-inside (stands p 2 v) p.n v (omega (arith, of.variables))
      ∙ ap (λ (t : Bool). leb (set_of p v) 1 || t) (eq-eqb (set_of p v) (set_of p v) refl)
      ∙ or-true (leb (set_of p v) 1)

  -- what holds of one variable of the next set holds of all
  module _ (reached set : ℕ) (next : IsNext plan n reached set) (v : ℕ) (in-set : bit set v ≡ true)
      (marked : Marked plan v reached) (u : ℕ) (also : bit set u ≡ true) where
    v_below : v < n
    v_below = next-below plan n reached set next v in-set

    u-below : u < n
    u-below = next-below plan n reached set next u also

    one_set : set_of p u ≡ set_of p v
    one_set =
        by_order (set_of p u) (set_of p v)
        (λ l.
        clash
        (ap (λ (x : ℕ). bit x u) (sym marked.exact) ∙ in-before v v_below u u-below ∙ lt-ltb (set_of p u) (set_of p v) l)
        (next-new plan n reached set next u also))
        (λ l.
        by_order (set_of p v) (set_of p u)
        (λ m.
        clash
        (earlier-in p plan bytes n c of reached u u-below (next-new plan n reached set next u also) (next-leaves plan n reached set next u also) v v_below m)
        (next-new plan n reached set next v in-set))
        (λ m. omega arith))

    pub all-marked : Marked plan u reached
    all-marked =
        record {
          exact = before_same u v u-below v_below one_set ∙ marked.exact;
          apart = ap (disjoint reached) (marks-same u v u-below v_below one_set) ∙ marked.apart;
        }

  -- a loop that nothing joins fires where its own conditions hold
  pub loop-fires :
      (q : Reading) (i v : ℕ) → i < record_count bytes → v < n → ReadBelow p i q
      → bit (holding q).state v ≡ true
      → leaves_by plan (holding q).state v ≡ true
      → joins_in plan v ≡ 0
      → bit (can_by plan n c bytes i) v ≡ true
      → fires p (records_of bytes) q v i ≡ true
  unfolding fires_by later_by holding
  loop-fires q i v l small below bound leaves joins can =
      let later = implies-of (disjoint (holding q).state (marks_in plan v)) (later_than bytes i q)
      (λ e. clash (in-marks v small) (disjoint-true (holding q).state (marks_in plan v) e v bound)) in
      sym
      ((λ k. fires_by plan bytes i (can_by plan (of.variables k) (of.conditions k) bytes i) v (holding q))
      ∙ fires-by p of.order plan of.made bytes of.rising i l v (omega (arith, of.variables)) q below)
      ∙ ap₂ ◌&&◌ can (ap₂ ◌&&◌ leaves (ap₂ ◌&&◌ later (joins-none plan bytes i v q joins)))
