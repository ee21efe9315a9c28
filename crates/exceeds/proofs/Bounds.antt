-- How many bindings a reading can have come to, record by record: as many as are counted. Assumes nothing.
use mathlib.Core.Path.{◌≡◌, refl, sym, ap, ap₂, subst, ◌∙◌}
use mathlib.Core.Bool.{Bool, true, false, ◌&&◌, ◌||◌, and-false}
use mathlib.Core.List.{List}
use Prim.Native.Nat.{ℕ, zero, suc, ◌+◌, ◌-◌, ◌≤◌, ◌<◌}
use native.Mathlib.Omega.{arith}
use borrow.Author.Tests.{eq-eqb}
use lib.Bits.{bit_and}
use lib.Dec.{eqb}
use lib.ListN.{length, get_or}
use Rattle.numbers.specs.Numbers.{count}
use Rattle.numbers.specs.Bits.{bit}
use Rattle.numbers.proofs.Cases.{by-test, by_order, both}
use Rattle.numbers.proofs.Bits.{bit-and, mask-inside}
use Rattle.records.specs.Records.{record_count, records_of}
use Rattle.patterns.specs.declared.Pattern.{Pattern}
use Rattle.patterns.specs.Patterns.{most_variables}
use Rattle.automaton.proofs.Membership.{clash}
use Rattle.rule.specs.Rule.{Block, Reading, binds, fires}
use Rattle.rule.specs.Promises.{most_bindings}
use Rattle.rule.specs.Starts.{any_fires, with_binding}
use Rattle.rule.proofs.SkipBranch.{any-fires, fires-none}
use Rattle.slots.specs.Slots.{Held, state_in, held_in, holding}
use Rattle.firing.specs.Firing.{can_by, ReadBelow}
use Rattle.reach.specs.declared.Start.{Start}
use Rattle.reach.specs.Readings.{Cans, NoneJoins, Reads, Of}
use Rattle.reach.specs.Growing.{Grows, NoneOver}
use Rattle.reach.specs.Growing.Grows.{here, waits, takes}
use Rattle.reach.proofs.Readings.{read_below}
use Rattle.exceeds.specs.declared.Open.{Open}
use Rattle.exceeds.specs.declared.Tally.{Tally}
use Rattle.exceeds.specs.Open.{loops_by, again_by, once_by, IsOpen, Counted}
use Rattle.exceeds.specs.Open.Counted.{again, once, full, none}
use Rattle.exceeds.proofs.Places.{grows-length}
use Rattle.exceeds.proofs.Counting.{count-more, count-one-more}
use Rattle.exceeds.proofs.Taken.{Taken, taken, or-true}

-- ## One reading

-- u could be bound once from reading r on, and is bound in q
abbrev bound_once : List ℕ → Reading → Reading → ℕ → Bool
bound_once plan r q u = once_by plan (holding r).state u && binds q u

-- reading q, to which r has grown, has no more bindings than are counted; those that are not in `many` bind variables
-- that could be bound once
pub record Bounded (plan : List ℕ) (n : ℕ) (r q : Reading) (t : Tally) : Type 0 where
  pub sum : length q ≤ t.many + t.single
  pub once : length q ≤ t.many + count (bound_once plan r q) n

-- a record at which no step is taken
waited :
    (plan bytes : List ℕ) (n i can : ℕ) (o : Open) (r q : Reading) (t u : Tally) → Counted plan bytes i can o r t u
    → Bounded plan n r q t
    → Bounded plan n r q u
waited plan bytes n i can o r q t u (again m s) b =
    let x = b.sum in let y = b.once in record { sum = omega arith; once = omega arith }
waited plan bytes n i can o r q t u (once a m s) b =
    let x = b.sum in let y = b.once in record { sum = omega arith; once = omega arith }
waited plan bytes n i can o r q t u (full a l m s) b =
    let x = b.sum in let y = b.once in record { sum = omega arith; once = omega arith }
waited plan bytes n i can o r q t u (none a w m s) b =
    let x = b.sum in let y = b.once in record { sum = omega arith; once = omega arith }

-- ## One step

module _ (plan bytes : List ℕ) (n c i can : ℕ) (is : can ≡ can_by plan n c bytes i) (o : Open) (r : Reading)
    (known : IsOpen plan n (holding r).state o) (q : Reading) (v : ℕ) (step : Taken plan bytes n c r q i v) where
  abbrev grown : Reading
  grown = with_binding q v i

  more : (u : ℕ) → bound_once plan r q u ≡ true → bound_once plan r grown u ≡ true
  unfolding binds
  more u e =
      let h = both (once_by plan (holding r).state u) (binds q u) e in
      ap₂ (λ (a b : Bool). a && b) h.0 (or-true (eqb v u) (binds q u) h.1)

  -- where none that can be bound again joins, v is bound once
  plain : NoneJoins plan bytes i (bit_and can o.again) r → loops_by plan v ≡ false
  plain free =
      by-test (loops_by plan v)
      (λ e.
      clash step.joins
      (free.each v
      (bit-and can o.again v
      ∙ ap₂ (λ (a b : Bool). a && b)
      (ap (λ (x : ℕ). bit x v) is ∙ step.can)
      (ap (λ (x : ℕ). bit x v) known.again ∙ mask-inside (again_by plan (holding r).state) n v step.inside ∙ step.again e))))
      (λ e. e)

  joins-once : loops_by plan v ≡ false → NoneJoins plan bytes i (bit_and can o.once) r → ⊥
  joins-once e free =
      clash step.joins
      (free.each v
      (bit-and can o.once v
      ∙ ap₂ (λ (a b : Bool). a && b)
      (ap (λ (x : ℕ). bit x v) is ∙ step.can)
      (ap (λ (x : ℕ). bit x v) known.once ∙ mask-inside (once_by plan (holding r).state) n v step.inside ∙ step.once e)))

  new-bound : loops_by plan v ≡ false → bound_once plan r grown v ≡ true
  unfolding binds
  new-bound e =
      ap₂ (λ (a b : Bool). a && (b || binds q v)) (step.once e) (eq-eqb v v refl)

  one_more : loops_by plan v ≡ false → count (bound_once plan r q) n < count (bound_once plan r grown) n
  one_more e =
      count-one-more (bound_once plan r q) (bound_once plan r grown) more v n step.inside
      (ap (λ (t : Bool). once_by plan (holding r).state v && t) (step.new e) ∙ and-false (once_by plan (holding r).state v))
      (new-bound e)

  most : count (bound_once plan r grown) n ≤ o.singles
  most =
      subst (λ (x : ℕ). count (bound_once plan r grown) n ≤ x) (sym known.singles)
      (count-more (bound_once plan r grown) (once_by plan (holding r).state) (λ u e. (both (once_by plan (holding r).state u) (binds grown u) e).0) n)

  stepped : (t u : Tally) → Counted plan bytes i can o r t u → Bounded plan n r q t → Bounded plan n r grown u
  stepped t u (again m s) b =
      let x = b.sum in
      let y = b.once in
      let w = count-more (bound_once plan r q) (bound_once plan r grown) more n in
      record { sum = omega arith; once = omega arith }
  stepped t u (once a m s) b =
      let x = b.sum in
      let y = b.once in
      let w = one_more (plain a) in
      record { sum = omega arith; once = omega arith }
  stepped t u (full a l m s) b =
      let x = b.sum in
      let y = b.once in
      let w = one_more (plain a) in
      let z = most in
      record { sum = omega arith; once = omega arith }
  stepped t u (none a w m s) b = absurd (joins-once (plain a) w)

-- ## All readings

-- each reading that r, held before record j, can have become before record i is so bounded
pub record Few (plan bytes : List ℕ) (n c : ℕ) (r : Reading) (j i : ℕ) (t : Tally) : Type 0 where
  pub each :
      (p : Pattern) → Of p plan bytes n c → (q : Reading) → Grows p (records_of bytes) r j q i → Bounded plan n r q t

pub few-first :
    (plan bytes : List ℕ) (n c : ℕ) (r : Reading) (j : ℕ) (t : Tally) → length r ≤ t.many
    → Few plan bytes n c r j j t
few-first plan bytes n c r j t l =
    record {
      each = λ p of q g.
          let x = grows-length p (records_of bytes) r j q j g in
          record { sum = omega arith; once = omega arith };
    }

module _ (plan bytes : List ℕ) (n c : ℕ) (few : n ≤ most_variables) (r : Reading) (j : ℕ)
    (below : (p : Pattern) → Of p plan bytes n c → ReadBelow p j r) (i : ℕ) (from : j ≤ i)
    (inside : i < record_count bytes) (can : ℕ) (is : can ≡ can_by plan n c bytes i) (o : Open)
    (known : IsOpen plan n (holding r).state o) (t u : Tally)
    (counted : Counted plan bytes i can o r t u) (before : Few plan bytes n c r j i t) where
  next-each :
      (p : Pattern) → Of p plan bytes n c → (q : Reading) (k : ℕ) → k ≡ suc i → Grows p (records_of bytes) r j q k
      → Bounded plan n r q u
  next-each p of q k e (here a b) = absurd (omega arith)
  next-each p of q k e (waits m b g idle) =
      let z : m ≡ i = omega arith in
      waited plan bytes n i can o r q t u counted
      (before.each p of q (subst (λ (x : ℕ). Grows p (records_of bytes) r j q x) z g))
  next-each p of q k e (takes m v s b a g f) =
      let z : m ≡ i = omega arith in
      let g' = subst (λ (x : ℕ). Grows p (records_of bytes) r j s x) z g in
      let f' = subst (λ (x : ℕ). fires p (records_of bytes) s v x ≡ true) z f in
      subst (λ (x : Reading). Bounded plan n r x u) (sym (a ∙ ap (with_binding s v) z))
      (stepped plan bytes n c i can is o r known s v
      (taken p plan bytes n c of few r j (below p of) s i v inside g' f') t u counted (before.each p of s g'))

  pub few-next : Few plan bytes n c r j (i + 1) u
  few-next = record { each = λ p of q g. next-each p of q (i + 1) (omega arith) g }

-- ## The reading of a slot

-- what stays from record to record
pub record Fixed (plan bytes cans slot : List ℕ) (n c j : ℕ) (o : Open) : Type 0 where
  pub few : n ≤ most_variables
  pub reads : Reads n j slot
  pub settled : Cans plan bytes n c cans
  pub known : IsOpen plan n (state_in slot) o

module _ (plan bytes cans slot : List ℕ) (n c j : ℕ) (o : Open) (fixed : Fixed plan bytes cans slot n c j o) where
  known-state : IsOpen plan n (holding (held_in slot).bindings).state o
  unfolding held_in
  known-state =
      subst (λ (x : ℕ). IsOpen plan n x o) (ap (λ (x : Held). x.state) fixed.reads.held) fixed.known

  pub few-turn :
      (i : ℕ) → j ≤ i → i < record_count bytes → (t u : Tally)
      → Counted plan bytes i (get_or cans i 0) o (held_in slot).bindings t u
      → Few plan bytes n c (held_in slot).bindings j i t
      → Few plan bytes n c (held_in slot).bindings j (i + 1) u
  few-turn i from inside t u counted before =
      few-next plan bytes n c fixed.few (held_in slot).bindings j
      (λ p of. read_below p plan bytes n c of j slot fixed.reads) i from inside (get_or cans i 0)
      (fixed.settled.each i inside) o known-state t u counted before

-- ## None over

module _ (p : Pattern) (B : Block) (r : Reading) (j : ℕ) where
  record Longer (q : Reading) (k : ℕ) : Type 0 where
    reading : Reading
    grown : Grows p B r j reading k
    more : length q ≤ length reading

  -- what becomes of a reading at one record
  longer-next : (q o : Reading) (k : ℕ) → Grows p B r j o k → length q ≤ length o → Longer q (suc k)
  longer-next q o k g l =
      by-test (any_fires p B o k)
      (λ e.
      let f = any-fires p B o k e in
      record { reading = with_binding o f.0 k; grown = takes k f.0 o refl refl g f.1; more = omega arith })
      (λ e. record { reading = o; grown = waits k refl g (fires-none p B o k e); more = l })

  -- and up to a later record
  longer : (q : Reading) (i d k : ℕ) → k ≡ d + i → Grows p B r j q i → Longer q k
  longer q i zero k e g =
      let z : i ≡ k = omega arith in
      record { reading = q; grown = subst (λ (x : ℕ). Grows p B r j q x) z g; more = omega arith }
  longer q i (suc d) k e g =
      let h = longer q i d (d + i) refl g in
      let z : suc (d + i) ≡ k = omega arith in
      subst (Longer q) z (longer-next q h.reading (d + i) h.grown h.more)

  record Earlier (q : Reading) (i k : ℕ) : Type 0 where
    reading : Reading
    grown : Grows p B r j reading i
    near : length q ≤ length reading + (k - i)

  -- what stood before an earlier record
  earlier : (q : Reading) (k : ℕ) → Grows p B r j q k → (i : ℕ) → j ≤ i → i ≤ k → Earlier q i k
  earlier q k (here a b) i l m =
      let z : i ≡ j = omega arith in record { reading = q; grown = here a z; near = omega arith }
  earlier q k (waits x e g idle) i l m =
      by_order i k
      (λ w.
      let h = earlier q x g i l (omega arith) in
      let y = h.near in
      record { reading = h.reading; grown = h.grown; near = omega arith })
      (λ w. let z : i ≡ suc x = omega arith in record { reading = q; grown = waits x z g idle; near = omega arith })
  earlier q k (takes x v o e a g f) i l m =
      by_order i k
      (λ w.
      let h = earlier o x g i l (omega arith) in
      let y = h.near in
      record { reading = h.reading; grown = h.grown; near = omega (arith, ap length a) })
      (λ w. let z : i ≡ suc x = omega arith in record { reading = q; grown = takes x v o z a g f; near = omega arith })

-- so few bindings, and so few records left
pub few-over :
    (plan bytes : List ℕ) (s : Start) (slot : List ℕ) (j i end : ℕ) (t : Tally)
    → Few plan bytes s.n s.c (held_in slot).bindings j i t
    → j ≤ i
    → (t.many + t.single) + (end - i) ≤ most_bindings
    → NoneOver plan bytes s slot j end
few-over plan bytes s slot j i end t few from small =
    record {
      few = λ p of q k v g l f.
          let r : Reading = (held_in slot).bindings in
          let more = takes k v q refl refl g f in
          by_order (suc k) i
          (λ w.
          let h = longer p (records_of bytes) r j (with_binding q v k) (suc k) (i - suc k) i (omega arith) more in
          let b = (few.each p of h.reading h.grown).sum in
          let y = h.more in
          omega arith)
          (λ w.
          let h = earlier p (records_of bytes) r j (with_binding q v k) (suc k) more i from w in
          let b = (few.each p of h.reading h.grown).sum in
          let y = h.near in
          omega arith);
    }
