-- What the readings that a reading can grow to have in common: where they stand, what they bind, which steps fire for
-- them; and that all that skip and branch find is among them. Assumes nothing.
use mathlib.Core.Path.{◌≡◌, refl, sym, ap, ap₂, subst, ◌∙◌}
use mathlib.Core.Bool.{Bool, true, false, ◌&&◌}
use mathlib.Core.List.Memᴰ
use mathlib.Core.List.{List, [], ◌∷◌, Memᴰ}
use Prim.Native.Nat.{ℕ, zero, suc, ◌+◌, ◌-◌, ◌≤◌, ◌<◌}
use native.Mathlib.Omega.{arith}
use lib.ListN.{length}
use Rattle.numbers.specs.Bits.{bit}
use Rattle.numbers.proofs.Cases.{by-test, by_order}
use Rattle.numbers.proofs.Every.{every_of, every_true}
use Rattle.records.specs.Records.{record_count, records_of}
use Rattle.patterns.specs.declared.Pattern.{Pattern}
use Rattle.patterns.specs.Patterns.{most_conditions}
use Rattle.automaton.specs.Filtering.{all}
use Rattle.automaton.proofs.All.{implies-of, implies_true}
use Rattle.automaton.proofs.Membership.{both, all-mem}
use Rattle.rule.specs.Rule.{Block, Binding, Reading, fires, is_full}
use Rattle.rule.specs.Promises.{most_bindings}
use Rattle.rule.specs.Starts.Found.{closed, over}
use Rattle.rule.specs.Starts.{Found, any_fires, with_binding, close, skip_until}
use Rattle.rule.proofs.LiveReadings.{fires-variable}
use Rattle.rule.proofs.SkipBranch.{any-fires, fires-none, mem-turn, close-full, close-part, skip-passes, skip-closes, skip-takes}
use Rattle.rule.proofs.SkipBranch.{skip-over}
use Rattle.slots.specs.Slots.{holding}
use Rattle.plans.specs.Plan.{condition_in, joins_in}
use Rattle.firing.specs.Firing.{can_by, leaves_by, join_holds, joins_by, later_by, fires_by, ReadBelow}
use Rattle.firing.specs.Firing.{pair_holds}
use Rattle.firing.proofs.FiresBy.{fires-by}
use Rattle.reach.specs.Readings.{Of}
use Rattle.reach.specs.Growing.{Grows}
use Rattle.reach.specs.Growing.Grows.{here, waits, takes}

module _ (p : Pattern) (B : Block) where
  pub grows-later : (r : Reading) (j : ℕ) (q : Reading) (i : ℕ) → Grows p B r j q i → j ≤ i
  grows-later r j q i (here a b) = omega arith
  grows-later r j q i (waits k e g idle) = let l = grows-later r j q k g in omega arith
  grows-later r j q i (takes k v o e b g f) = let l = grows-later r j o k g in omega arith

  -- a step more at the beginning
  pub grows-after :
      (r : Reading) (j v : ℕ) → fires p B r v j ≡ true → (q : Reading) (i : ℕ)
      → Grows p B (with_binding r v j) (suc j) q i
      → Grows p B r j q i
  grows-after r j v f q i (here a b) = takes j v r b a (here refl refl) f
  grows-after r j v f q i (waits k e g idle) = waits k e (grows-after r j v f q k g) idle
  grows-after r j v f q i (takes k w o e b g h) = takes k w o e b (grows-after r j v f o k g) h

  -- a record more at the beginning at which no step fires
  pub grows-waited :
      (r : Reading) (j : ℕ) → ((v : ℕ) → fires p B r v j ≡ false) → (q : Reading) (i : ℕ) → Grows p B r (suc j) q i
      → Grows p B r j q i
  grows-waited r j f q i (here a b) =
      waits j b (here a refl) (λ v. ap (λ (x : Reading). fires p B x v j) a ∙ f v)
  grows-waited r j f q i (waits k e g idle) = waits k e (grows-waited r j f q k g) idle
  grows-waited r j f q i (takes k w o e b g h) = takes k w o e b (grows-waited r j f o k g) h

  -- what was bound stays bound
  pub grows-keeps :
      (r : Reading) (j : ℕ) (q : Reading) (i : ℕ) → Grows p B r j q i → (b : Binding) → Memᴰ b r → Memᴰ b q
  grows-keeps r j q i (here a e) b m = subst (Memᴰ b) (sym a) m
  grows-keeps r j q i (waits k e g idle) b m = grows-keeps r j q k g b m
  grows-keeps r j q i (takes k v o e a g f) b m = subst (Memᴰ b) (sym a) (Memᴰ.tail (grows-keeps r j o k g b m))

  taken-below :
      (o : Reading) (k v : ℕ) → v < p.n → ReadBelow p k o → ReadBelow p (suc k) (with_binding o v k)
  taken-below o k v l before = record { variable = variable; below = below; latest = latest }
    where
      variable : (b : Binding) → Memᴰ b (with_binding o v k) → b.variable < p.n
      variable b (Memᴰ.head q) = let w = ap (λ (x : Binding). x.variable) q in omega arith
      variable b (Memᴰ.tail m) = before.variable b m

      below : (b : Binding) → Memᴰ b (with_binding o v k) → b.at < suc k
      below b (Memᴰ.head q) = let w = ap (λ (x : Binding). x.at) q in omega arith
      below b (Memᴰ.tail m) = let w = before.below b m in omega arith

      latest : (b : Binding) → Memᴰ b (with_binding o v k) → b.at ≤ k
      latest b m = let w = below b m in omega arith

  -- the records of a grown reading stand below i, and its variables are the pattern's
  pub grows-below :
      (r : Reading) (j : ℕ) (q : Reading) (i : ℕ) → Grows p B r j q i → ReadBelow p j r → ReadBelow p i q
  grows-below r j q i (here a e) known = subst (ReadBelow p i) (sym a) (subst (λ (k : ℕ). ReadBelow p k r) (sym e) known)
  grows-below r j q i (waits k e g idle) known =
      let below = grows-below r j q k g known in
      record {
        variable = below.variable;
        below = λ b m. let l = below.below b m in omega arith;
        latest = below.latest;
      }
  grows-below r j q i (takes k v o e a g f) known =
      subst (ReadBelow p i) (sym a)
      (subst (λ (x : ℕ). ReadBelow p x (with_binding o v k)) (sym e)
      (taken-below o k v (fires-variable p B o v k f) (grows-below r j o k g known)))

  -- ## What skip and branch find

  -- a reading that closes has grown to be full
  pub record ClosedAs (r : Reading) (j end : ℕ) (q : Reading) : Type 0 where
    pub grown : Grows p B r j q end
    pub full : is_full p q ≡ true

  -- a reading with a binding too many at record x has grown to all its bindings
  pub record OverAt (r : Reading) (j end x : ℕ) : Type 0 where
    pub reading : Reading
    pub grown : Grows p B r j reading x
    pub variable : ℕ
    pub fired : fires p B reading variable x ≡ true
    pub before : x < end
    pub many : most_bindings ≤ length reading

  -- one finding
  unfoldable pub Among : Reading → ℕ → ℕ → Found → Type 0
  Among r j end (closed mark q) = ClosedAs r j end q
  Among r j end (over x) = OverAt r j end x

  among-after :
      (r : Reading) (j end v : ℕ) → fires p B r v j ≡ true → (x : Found)
      → Among (with_binding r v j) (suc j) end x
      → Among r j end x
  unfolding Among
  among-after r j end v f (closed mark q) a =
      record { grown = grows-after r j v f q end a.grown; full = a.full }
  among-after r j end v f (over x) a =
      record {
        reading = a.reading;
        grown = grows-after r j v f a.reading x a.grown;
        variable = a.variable;
        fired = a.fired;
        before = a.before;
        many = a.many;
      }

  among-waited :
      (r : Reading) (j end : ℕ) → ((v : ℕ) → fires p B r v j ≡ false) → (x : Found) → Among r (suc j) end x
      → Among r j end x
  unfolding Among
  among-waited r j end f (closed mark q) a = record { grown = grows-waited r j f q end a.grown; full = a.full }
  among-waited r j end f (over x) a =
      record {
        reading = a.reading;
        grown = grows-waited r j f a.reading x a.grown;
        variable = a.variable;
        fired = a.fired;
        before = a.before;
        many = a.many;
      }

  among-full :
      (mark : ℕ) (r : Reading) (end : ℕ) → is_full p r ≡ true → (x : Found) → Memᴰ x (closed mark r ∷ [])
      → Among r end end x
  unfolding Among
  among-full mark r end e x (Memᴰ.head q) =
      subst (Among r end end) (sym q) (record { grown = here refl refl; full = e })
  among-full mark r end e x (Memᴰ.tail t) = absurd (Memᴰ.not-nil t)

  among-closed : (mark : ℕ) (r : Reading) (end : ℕ) (x : Found) → Memᴰ x (close p mark r) → Among r end end x
  among-closed mark r end x m =
      by-test (is_full p r)
      (λ e. among-full mark r end e x (subst (Memᴰ x) (close-full p mark r e) m))
      (λ e. absurd (Memᴰ.not-nil (subst (Memᴰ x) (close-part p mark r e) m)))

  among-over :
      (r : Reading) (j end : ℕ) → j < end → any_fires p B r j ≡ true → most_bindings ≤ length r
      → (x : Found) → Memᴰ x (over j ∷ [])
      → Among r j end x
  unfolding Among
  among-over r j end l e many x (Memᴰ.head q) =
      let f = any-fires p B r j e in
      subst (Among r j end) (sym q)
      (record {
        reading = r;
        grown = here refl refl;
        variable = f.0;
        fired = f.1;
        before = l;
        many = many;
      })
  among-over r j end l e many x (Memᴰ.tail t) = absurd (Memᴰ.not-nil t)

  among-by :
      (n : ℕ) (mark end j : ℕ) → n + j ≡ end → (r : Reading) (x : Found)
      → Memᴰ x (skip_until p B mark end j r)
      → Among r j end x
  among-by zero mark end j e r x m =
      let z : j ≡ end = omega arith in
      subst (λ (k : ℕ). Among r k end x) (sym z)
      (among-closed mark r end x (subst (Memᴰ x) (skip-closes p B mark end r j (omega arith)) m))
  among-by (suc n) mark end j e r x m =
      by-test (any_fires p B r j)
      (λ f.
      by_order (length r) most_bindings
      (λ l.
      let t = mem-turn (λ w. fires p B r w j) (λ w. skip_until p B mark end (suc j) (with_binding r w j)) 0 (p.n - 0) (subst (Memᴰ x) (skip-takes p B mark end r j (omega arith) f l) m) in
      among-after r j end t.0 t.1 x (among-by n mark end (suc j) (omega arith) (with_binding r t.0 j) x t.2))
      (λ l. among-over r j end (omega arith) f l x (subst (Memᴰ x) (skip-over p B mark end r j (omega arith) f l) m)))
      (λ f. among-waited r j end (fires-none p B r j f) x (among-by n mark end (suc j) (omega arith) r x (subst (Memᴰ x) (skip-passes p B mark end r j (omega arith) f) m)))

  -- all that is found of a reading from record j on
  pub among :
      (mark end j : ℕ) → j ≤ end → (r : Reading) (x : Found) → Memᴰ x (skip_until p B mark end j r)
      → Among r j end x
  among mark end j l r x m = among-by (end - j) mark end j (omega arith) r x m

  pub closes-grown :
      (mark end j : ℕ) → j ≤ end → (r : Reading) (m : ℕ) (q : Reading)
      → Memᴰ (closed m q) (skip_until p B mark end j r)
      → ClosedAs r j end q
  unfolding Among
  closes-grown mark end j l r m q h = among mark end j l r (closed m q) h

  pub over-grown :
      (mark end j : ℕ) → j ≤ end → (r : Reading) (x : ℕ) → Memᴰ (over x) (skip_until p B mark end j r)
      → OverAt r j end x
  unfolding Among
  over-grown mark end j l r x h = among mark end j l r (over x) h

-- ## Which steps fire for a grown reading

-- the parts of a test that fires, by the plan
pub record FiresIn (plan bytes : List ℕ) (n c : ℕ) (r q : Reading) (i v : ℕ) : Type 0 where
  pub can : bit (can_by plan n c bytes i) v ≡ true
  pub leaves : leaves_by plan (holding q).state v ≡ true
  pub later : later_by plan bytes i v (holding q) ≡ true
  pub joins : joins_by plan bytes i v r ≡ true

all-fewer :
    (f : Binding → Bool) (r q : Reading) → ((b : Binding) → Memᴰ b r → Memᴰ b q) → all f q ≡ true
    → all f r ≡ true
unfolding all
all-fewer f [] q h e = refl
all-fewer f (b ∷ r) q h e =
    ap₂ ◌&&◌ (all-mem f (h b (Memᴰ.head refl)) e) (all-fewer f r q (λ d m. h d (Memᴰ.tail m)) e)

-- joins that hold with every binding of a reading hold with those that it had before
joins_fewer :
    (plan bytes : List ℕ) (i v : ℕ) (r q : Reading) → ((b : Binding) → Memᴰ b r → Memᴰ b q)
    → joins_by plan bytes i v q ≡ true
    → joins_by plan bytes i v r ≡ true
unfolding joins_by join_holds
joins_fewer plan bytes i v r q h e =
    every_of (join_holds plan bytes i v r) most_conditions
    (λ k l.
    implies-of (bit (joins_in plan v) k) (all (pair_holds bytes i v (condition_in plan k)) r)
    (λ t.
    all-fewer (pair_holds bytes i v (condition_in plan k)) r q h
    (implies_true (bit (joins_in plan v) k) (all (pair_holds bytes i v (condition_in plan k)) q) (every_true (join_holds plan bytes i v q) most_conditions e k l) t)))

pub fires-in :
    (p : Pattern) (plan bytes : List ℕ) (n c : ℕ) → Of p plan bytes n c → (r : Reading) (j : ℕ) → ReadBelow p j r
    → (q : Reading) (i v : ℕ) → i < record_count bytes → Grows p (records_of bytes) r j q i
    → fires p (records_of bytes) q v i ≡ true
    → FiresIn plan bytes n c r q i v
unfolding fires_by holding
fires-in p plan bytes n c o r j known q i v l g f =
    let below = grows-below p (records_of bytes) r j q i g known in
    let by : fires_by plan bytes i (can_by plan n c bytes i) v (holding q) ≡ true =
    (λ k. fires_by plan bytes i (can_by plan (o.variables k) (o.conditions k) bytes i) v (holding q))
    ∙ fires-by p o.order plan o.made bytes o.rising i l v (fires-variable p (records_of bytes) q v i f) q below
    ∙ f in
    let a = both by in
    let b = both a.1 in
    let d = both b.1 in
    record {
      can = a.0;
      leaves = b.0;
      later = d.0;
      joins = joins_fewer plan bytes i v r q (grows-keeps p (records_of bytes) r j q i g) d.1;
    }
