-- One set after another: while a variable of the next set is unbound, no variable of a later one is bound. Assumes
-- nothing.
use mathlib.Core.Path.{◌≡◌, sym, ap, ap₂, subst, ◌∙◌}
use mathlib.Core.Bool.{Bool, true, false, not, ◌&&◌, ◌||◌}
use mathlib.Core.List.{List}
use Prim.Native.Nat.{ℕ, ◌-◌, ◌^◌, ◌≤◌, ◌<◌}
use native.Mathlib.Omega.{arith}
use borrow.Author.Tests.{ltb-true, lt-ltb, eqb-true, not-true}
use lib.Bits.{bit_and, bit_or}
use lib.Dec.{eqb}
use Rattle.numbers.specs.Bits.{bit, mask, within, disjoint}
use Rattle.numbers.proofs.Cases.{by-test, by_order, neither, both}
use Rattle.numbers.proofs.Every.{every_true}
use Rattle.numbers.proofs.Bits.{bit-or, bit_high, mask_bound, mask-inside, within-mask, within-mask-of}
use Rattle.records.specs.Records.{record_count, records_of}
use Rattle.patterns.specs.declared.Pattern.{Pattern}
use Rattle.patterns.specs.Patterns.{most_variables}
use Rattle.patterns.specs.Checked.{set_of}
use Rattle.automaton.proofs.Membership.{clash}
use Rattle.automaton.proofs.All.{all-upto}
use Rattle.rule.specs.Rule.{Reading, binds, fires, is_full}
use Rattle.slots.specs.Slots.{Held, held_in, state_in, holding}
use Rattle.slots.proofs.Holding.{holding-bit}
use Rattle.plans.specs.Plan.{before_in, after_in, standing, stands, variable_mask}
use Rattle.plans.proofs.Plans.{before-in}
use Rattle.firing.specs.Firing.{leaves_by}
use Rattle.reach.specs.declared.Start.{Start}
use Rattle.reach.specs.Readings.{Ready, Of, leaving_by}
use Rattle.reach.specs.Growing.{Grows, NeverFull}
use Rattle.reach.specs.Growing.Grows.{here, waits, takes}
use Rattle.reach.proofs.Growing.{grows-later, fires-in}
use Rattle.fills.specs.Filling.{Within, Without, Late}
use Rattle.fills.proofs.Counting.{bit-minus}
use Rattle.reach.proofs.Readings.{read_below}
use Rattle.fills.proofs.Lacking.{binds-more}

-- ## The variables of the next set

-- those outside `reached` that leave it
pub record IsNext (plan : List ℕ) (n reached set : ℕ) : Type 0 where
  pub bound : set < 2 ^ n
  pub each : (v : ℕ) → v < n → bit set v ≡ leaves_by plan reached v && not (bit reached v)

pub next-is :
    (plan : List ℕ) (n reached leave : ℕ) → leave ≡ leaving_by plan n reached
    → IsNext plan n reached (leave - bit_and leave reached)
unfolding leaving_by
next-is plan n reached leave e =
    let small : leave < 2 ^ n = subst (λ (x : ℕ). x < 2 ^ n) (sym e) (mask_bound (leaves_by plan reached) n) in
    record {
      bound = omega arith;
      each = λ v l.
          bit-minus leave reached n v small l
          ∙ ap (λ (t : Bool). t && not (bit reached v)) (ap (λ (x : ℕ). bit x v) e ∙ mask-inside (leaves_by plan reached) n v l);
    }

module _ (plan : List ℕ) (n reached set : ℕ) (next : IsNext plan n reached set) where
  pub next-below : (v : ℕ) → bit set v ≡ true → v < n
  next-below v e = by_order v n (λ l. l) (λ l. clash e (bit_high set n v next.bound l))

  next-parts : (v : ℕ) → bit set v ≡ true → (leaves_by plan reached v ≡ true) × (not (bit reached v) ≡ true)
  next-parts v e =
      both (leaves_by plan reached v) (not (bit reached v)) (sym (next.each v (next-below v e)) ∙ e)

  pub next-new : (v : ℕ) → bit set v ≡ true → bit reached v ≡ false
  next-new v e = not-true (bit reached v) (next-parts v e).1

  pub next-leaves : (v : ℕ) → bit set v ≡ true → leaves_by plan reached v ≡ true
  next-leaves v e = (next-parts v e).0

  -- what is left behind the next set does not leave
  pub beyond-stays : (v : ℕ) → v < n → bit reached v ≡ false → bit set v ≡ false → leaves_by plan reached v ≡ false
  beyond-stays v l free e =
      by-test (leaves_by plan reached v)
      (λ t. clash (next.each v l ∙ ap₂ (λ (a b : Bool). a && not b) t free) e)
      (λ t. t)

-- ## The order of sets

module _ (p : Pattern) (plan bytes : List ℕ) (n c : ℕ) (o : Of p plan bytes n c) (state : ℕ) (v : ℕ) (l : v < n)
    (free : bit state v ≡ false) where
  narrow : v < most_variables
  narrow = let few = o.order.few in omega (arith, o.variables)

  opens : leaves_by plan state v ≡ within (mask (stands p 0 v) p.n) state
  unfolding leaves_by variable_mask
  opens =
      ap (λ (t : Bool). elim t [ true ↦ disjoint state (after_in plan v) | false ↦ within (before_in plan v) state ]) free
      ∙ ap (λ (x : ℕ). within x state) (before-in p plan o.made v narrow)

  -- a variable that leaves has all of the earlier sets behind it
  pub earlier-in : leaves_by plan state v ≡ true → (u : ℕ) → u < n → set_of p u < set_of p v → bit state u ≡ true
  unfolding standing
  earlier-in e u k less =
      within-mask (stands p 0 v) state p.n (sym opens ∙ e) u (omega (arith, o.variables)) (lt-ltb (set_of p u) (set_of p v) less)

  -- and one that has them leaves
  pub leaves_of : ((u : ℕ) → u < n → set_of p u < set_of p v → bit state u ≡ true) → leaves_by plan state v ≡ true
  unfolding standing
  leaves_of f =
      opens
      ∙ within-mask-of (stands p 0 v) state p.n (λ u k t. f u (omega (arith, o.variables)) (ltb-true (set_of p u) (set_of p v) t))

-- the next set stands before what is left behind it
pub set_before :
    (p : Pattern) (plan bytes : List ℕ) (n c : ℕ) → Of p plan bytes n c → (reached set : ℕ) → IsNext plan n reached set
    → (u : ℕ) → bit set u ≡ true → (v : ℕ) → v < n → bit reached v ≡ false → bit set v ≡ false
    → set_of p u < set_of p v
set_before p plan bytes n c o reached set next u e v l free out =
    by_order (set_of p u) (set_of p v) (λ m. m)
    (λ m.
    clash
    (leaves_of p plan bytes n c o reached v l free (λ w k less.
    earlier-in p plan bytes n c o reached u (next-below plan n reached set next u e) (next-new plan n reached set next u e) (next-leaves plan n reached set next u e) w k (omega arith)))
    (beyond-stays plan n reached set next v l free out))

-- ## What is bound

module _ (plan bytes : List ℕ) (s : Start) (slot : List ℕ) (j : ℕ) (ready : Ready plan bytes s slot j) where
  abbrev r : Reading
  r = (held_in slot).bindings

  begins :
      (p : Pattern) (q : Reading) (i : ℕ) → Grows p (records_of bytes) r j q i → i ≤ j → q ≡ r
  begins p q i (here a b) l = a
  begins p q i (waits k e g idle) l = let m = grows-later p (records_of bytes) r j q k g in absurd (omega arith)
  begins p q i (takes k v o e b g f) l = let m = grows-later p (records_of bytes) r j o k g in absurd (omega arith)

  pub within-state : Within plan bytes s slot j (state_in slot) j
  unfolding held_in
  within-state =
      record {
        unbound = λ p o q i g l v small e.
            let few = ready.usable.variables in
            ap (λ (y : Reading). binds y v) (begins p q i g l)
            ∙ sym (ap (λ (h : Held). bit h.state v) ready.reads.held ∙ holding-bit r v (omega arith))
            ∙ e;
      }

  module _ (reached set : ℕ) (next : IsNext plan s.n reached set) (from : ℕ)
      (known : Within plan bytes s slot j reached from) where
    pub without-next : (x : ℕ) → ((v : ℕ) → bit x v ≡ true → bit set v ≡ true) → Without plan bytes s slot j x from
    without-next x inside =
        record {
          unbound = λ p o q i g l v e.
              known.unbound p o q i g l v
              (next-below plan s.n reached set next v (inside v e))
              (next-new plan s.n reached set next v (inside v e));
        }

    module _ (after : j ≤ from) (end : ℕ) (block : end ≤ record_count bytes) (late : Late plan bytes s slot j set end)
        (p : Pattern) (of : Of p plan bytes s.n s.c) (v : ℕ) (small : v < s.n) (free : bit reached v ≡ false)
        (out : bit set v ≡ false) where
      -- a step on v, not bound yet, comes behind the set's records
      step-late :
          (o : Reading) (k : ℕ) → Grows p (records_of bytes) r j o k → k < end → binds o v ≡ false
          → fires p (records_of bytes) o v k ≡ true
          → end ≤ k
      step-late o k g l e f =
          let few = ready.usable.variables in
          let fired = fires-in p plan bytes s.n s.c of r j (read_below p plan bytes s.n s.c of j slot ready.reads) o k v (omega arith) g f in
          late.from p of o k g
          (λ u h.
          let below = next-below plan s.n reached set next u h in
          sym (holding-bit o u (omega arith))
          ∙ earlier-in p plan bytes s.n s.c of (holding o).state v small (holding-bit o v (omega arith) ∙ e) fired.leaves u below (set_before p plan bytes s.n s.c of reached set next u h v small free out))

      still-free : (q : Reading) (i : ℕ) → Grows p (records_of bytes) r j q i → i ≤ end → binds q v ≡ false
      still-free q i (here a b) l = known.unbound p of q i (here a b) (omega arith) v small free
      still-free q i (waits k e g idle) l = still-free q k g (omega arith)
      still-free q i (takes k w o e b g f) l =
          let before = still-free o k g (omega arith) in
          ap (λ (y : Reading). binds y v) b
          ∙ binds-more o w k v
          ∙ by-test (eqb w v)
          (λ t.
          let m = step-late o k g (omega arith) before (subst (λ (y : ℕ). fires p (records_of bytes) o y k ≡ true) (eqb-true w v t) f) in
          absurd (omega arith))
          (λ t. ap₂ (λ (a d : Bool). a || d) t before)

    pub within_more :
        j ≤ from → (end : ℕ) → end ≤ record_count bytes → Late plan bytes s slot j set end
        → Within plan bytes s slot j (bit_or reached set) end
    within_more after end block late =
        record {
          unbound = λ p of q i g l v small e.
              let apart = neither (bit reached v) (bit set v) (sym (bit-or reached set v) ∙ e) in
              still-free after end block late p of v small apart.0 apart.1 q i g l;
        }

  -- a set that is bound too late
  pub never-full :
      (reached set : ℕ) → IsNext plan s.n reached set → (end : ℕ) → Late plan bytes s slot j set end
      → s.until < end
      → NeverFull plan bytes s slot j
  unfolding is_full
  never-full reached set next end late l =
      record {
        part = λ p of q g.
            by-test (is_full p q)
            (λ full.
            let all = sym (all-upto (binds q) p.n) ∙ full in
            let m = late.from p of q s.until g (λ v e.
            let below = next-below plan s.n reached set next v e in
            every_true (binds q) p.n all v (omega (arith, of.variables))) in
            absurd (omega arith))
            (λ e. e);
      }
