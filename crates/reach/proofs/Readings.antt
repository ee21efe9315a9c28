-- The reading that a slot holds: the plan's tests on the slot are the rule's on the reading, and so are what fires next
-- and whether the reading is full; a slot grows with its reading. Assumes nothing.
use mathlib.Core.Path.{◌≡◌, refl, sym, ap, ap₂, subst, ◌∙◌}
use mathlib.Core.Bool.{true, false}
use mathlib.Core.List.Memᴰ
use mathlib.Core.List.{List, [], Memᴰ}
use Prim.Native.Nat.{ℕ, zero, suc, ◌+◌, ◌-◌, ◌^◌, ◌≤◌, ◌<◌}
use native.Mathlib.Nat.{pow-suc}
use native.Mathlib.Omega.{arith}
use lib.ListN.{length}
use Rattle.numbers.specs.Numbers.{every}
use Rattle.numbers.specs.Bits.{bit, mask, within}
use Rattle.numbers.proofs.Cases.{by-test, same_test}
use Rattle.numbers.proofs.Every.{every_of, every_true}
use Rattle.numbers.proofs.Bits.{bit-zero, mask-inside, mask-same, mask_bound, within-mask, within-mask-of}
use Rattle.records.specs.Records.{record_count, records_of}
use Rattle.patterns.specs.declared.Pattern.{Pattern}
use Rattle.patterns.specs.Patterns.{most_variables}
use Rattle.automaton.proofs.All.{all-upto}
use Rattle.rule.specs.Rule.{Binding, Reading, binds, fires, is_full, last_of}
use Rattle.rule.specs.Promises.{most_bindings}
use Rattle.rule.specs.Starts.{any_fires, with_binding, NextFire}
use Rattle.rule.proofs.EveryReading.{binds-mem}
use Rattle.rule.proofs.SkipBranch.{none-fires, fires-none}
use Rattle.slots.specs.Slots.{Held, slot_bytes, count_in, state_in, held_in, holding, grow}
use Rattle.slots.proofs.Holding.{holding-grow, holding-bit}
use Rattle.firing.specs.Firing.{can_by, fires_by, ReadBelow, Seated, Fit}
use Rattle.firing.proofs.FiresBy.{fires-by}
use Rattle.reach.specs.declared.Start.{Start}
use Rattle.reach.specs.declared.Fire.{Fire}
use Rattle.reach.specs.Readings.{firing_by, Reads, Usable, Ready, NextBy, Of}

mask-empty : (n : ℕ) → mask (λ v. false) n ≡ 0
unfolding mask
mask-empty zero = refl
mask-empty (suc n) = let e = mask-empty n in omega arith

mask_full : (n : ℕ) → mask (λ v. true) n ≡ 2 ^ n - 1
unfolding mask
mask_full zero = refl
mask_full (suc n) = let e = mask_full n in omega (arith, pow-suc 2 n, mask_bound (λ v. true) n)

-- the variables that fire for a reading, by the rule
holding-firing :
    (p : Pattern) (plan bytes : List ℕ) (n c : ℕ) → Of p plan bytes n c → (i : ℕ) → i < record_count bytes
    → (reading : Reading) → ReadBelow p i reading
    → firing_by plan bytes n c i (holding reading) ≡ mask (λ v. fires p (records_of bytes) reading v i) p.n
unfolding firing_by
holding-firing p plan bytes n c o i h reading below =
    ap (mask (λ v. fires_by plan bytes i (can_by plan n c bytes i) v (holding reading))) o.variables
    ∙ mask-same (λ v. fires_by plan bytes i (can_by plan n c bytes i) v (holding reading)) (λ v. fires p (records_of bytes) reading v i) p.n
    (λ v l.
    (λ k. fires_by plan bytes i (can_by plan (o.variables k) (o.conditions k) bytes i) v (holding reading))
    ∙ fires-by p o.order plan o.made bytes o.rising i h v l reading below)

-- no bindings
abbrev pub nothing : Held
nothing = record { state = 0; bindings = [] }

holding-none : nothing ≡ holding []
unfolding holding binds
holding-none = λ k. record { state = sym (mask-same (binds []) (λ v. false) most_variables (λ v l. refl) ∙ mask-empty most_variables) k; bindings = [] }

pub firing-begins :
    (p : Pattern) (plan bytes : List ℕ) (n c : ℕ) → Of p plan bytes n c → (i : ℕ) → i < record_count bytes
    → firing_by plan bytes n c i nothing ≡ mask (λ v. fires p (records_of bytes) [] v i) p.n
firing-begins p plan bytes n c o i h =
    ap (firing_by plan bytes n c i) holding-none
    ∙ holding-firing p plan bytes n c o i h []
    (record {
      variable = λ b m. absurd (Memᴰ.not-nil m);
      below = λ b m. absurd (Memᴰ.not-nil m);
      latest = λ b m. absurd (Memᴰ.not-nil m);
    })

-- ## A slot as the tests of a plan ask for it

module _ (n j : ℕ) (slot : List ℕ) (r : Reads n j slot) (few : n ≤ most_variables) where
  pub seated : (bytes : List ℕ) → j ≤ record_count bytes → Seated bytes slot
  unfolding held_in
  seated bytes h =
      record {
        size = r.size;
        few = r.few;
        bound = λ b m.
            let v = r.variable b m in
            ap (λ (x : Held). bit x.state b.variable) r.held
            ∙ holding-bit (held_in slot).bindings b.variable (omega arith)
            ∙ binds-mem (held_in slot).bindings m;
        in_block = λ b m. let v = r.below b m in omega arith;
      }

  -- whether the state holds all variables
  pub full_is : (p : Pattern) → n ≡ p.n → within (2 ^ n - 1) (state_in slot) ≡ is_full p (held_in slot).bindings
  unfolding held_in is_full
  full_is p e =
      let reading : Reading = (held_in slot).bindings in
      let state : ℕ = (holding reading).state in
      ap₂ within (sym (mask_full n)) (ap (λ (x : Held). x.state) r.held)
      ∙ same_test (within (mask (λ v. true) n) state) (every (binds reading) n)
      (λ t. every_of (binds reading) n (λ v l. sym (holding-bit reading v (omega arith)) ∙ within-mask (λ v. true) state n t v l refl))
      (λ t. within-mask-of (λ v. true) state n (λ v l u. holding-bit reading v (omega arith) ∙ every_true (binds reading) n t v l))
      ∙ sym (all-upto (binds reading) n)
      ∙ ap (λ (k : ℕ). Rattle.automaton.specs.Filtering.all (binds reading) (Rattle.numbers.specs.Numbers.upto 0 k)) e

  -- ## What fires

  module _ (p : Pattern) (plan bytes : List ℕ) (c : ℕ) (o : Of p plan bytes n c) (i : ℕ) (after : j ≤ i)
      (h : i < record_count bytes) where
    abbrev reading : Reading
    reading = (held_in slot).bindings

    read-so_far : ReadBelow p i reading
    read-so_far =
        record {
          variable = λ b m. let v = r.variable b m in omega (arith, o.variables);
          below = λ b m. let v = r.below b m in omega arith;
          latest = r.latest;
        }

    pub firing-is : firing_by plan bytes n c i (held_in slot) ≡ mask (λ v. fires p (records_of bytes) reading v i) p.n
    firing-is = ap (firing_by plan bytes n c i) r.held ∙ holding-firing p plan bytes n c o i h reading read-so_far

    pub none-firing : firing_by plan bytes n c i (held_in slot) ≡ 0 → any_fires p (records_of bytes) reading i ≡ false
    none-firing z =
        none-fires p (records_of bytes) reading i
        (λ v l.
        sym (mask-inside (λ v. fires p (records_of bytes) reading v i) p.n v l)
        ∙ ap (λ (m : ℕ). bit m v) (sym firing-is ∙ z)
        ∙ bit-zero v)

    pub some-firing : 0 < firing_by plan bytes n c i (held_in slot) → any_fires p (records_of bytes) reading i ≡ true
    some-firing some =
        by-test (any_fires p (records_of bytes) reading i) (λ e. e)
        (λ e.
        let z : firing_by plan bytes n c i (held_in slot) ≡ 0 =
        firing-is
        ∙ mask-same (λ v. fires p (records_of bytes) reading v i) (λ v. false) p.n (λ v l. fires-none p (records_of bytes) reading i e v)
        ∙ mask-empty p.n in
        absurd (omega arith))

-- the slot's reading, as a reading of the pattern
pub read_below :
    (p : Pattern) (plan bytes : List ℕ) (n c : ℕ) → Of p plan bytes n c → (j : ℕ) (slot : List ℕ) → Reads n j slot
    → ReadBelow p j (held_in slot).bindings
read_below p plan bytes n c o j slot r =
    record {
      variable = λ b m. let v = r.variable b m in omega (arith, o.variables);
      below = r.below;
      latest = r.latest;
    }

-- what a call of `fires` asks for
pub fit :
    (plan bytes : List ℕ) (n c j : ℕ) (slot : List ℕ) → Usable plan bytes n c
    → Reads n j slot → (i : ℕ) → j ≤ i → i < record_count bytes
    → Fit plan bytes i slot
fit plan bytes n c j slot u r i after h =
    record {
      sound = u.sound;
      here = omega arith;
      seated = seated n j slot r u.variables bytes (omega arith);
    }

pub next-is :
    (p : Pattern) (plan bytes : List ℕ) (s : Start) (slot : List ℕ) (j : ℕ) (f : Fire) → Of p plan bytes s.n s.c
    → Ready plan bytes s slot j
    → NextBy plan bytes s slot j f
    → NextFire p (records_of bytes) (held_in slot).bindings j s.until f.at
next-is p plan bytes s slot j f o ready next =
    let few = ready.usable.variables in
    let end = ready.block in
    let last = next.up_to in
    record {
      from = next.from;
      up_to = last;
      passed = λ i a b.
          none-firing s.n j slot ready.reads few p plan bytes s.c o i a (omega arith) (next.passed i a b);
      here = λ l.
          some-firing s.n j slot ready.reads few p plan bytes s.c o f.at next.from (omega arith)
          (subst (λ (m : ℕ). 0 < m) (next.here l) (next.some l));
    }

-- the mask has bits of the pattern's variables only
pub firing-bound : (plan bytes : List ℕ) (n c i : ℕ) (h : Held) → firing_by plan bytes n c i h < 2 ^ n
unfolding firing_by
firing-bound plan bytes n c i h = mask_bound (λ v. fires_by plan bytes i (can_by plan n c bytes i) v h) n

-- ## Slots that grow

module _ (slot more : List ℕ) (j v : ℕ) (e : held_in more ≡ grow j v (held_in slot)) where
  pub grown-bindings : (held_in more).bindings ≡ with_binding (held_in slot).bindings v j
  unfolding grow
  grown-bindings = ap (λ (x : Held). x.bindings) e

  module _ (n : ℕ) (r : Reads n j slot) (few : n ≤ most_variables) (l : v < n) where
    grown-held : held_in more ≡ holding (with_binding (held_in slot).bindings v j)
    grown-held = e ∙ ap (grow j v) r.held ∙ holding-grow (held_in slot).bindings j v (omega arith)

    pub grown-reads :
        length more ≡ slot_bytes → count_in more ≡ count_in slot + 1 → count_in slot < most_bindings → Reads n (j + 1) more
    grown-reads size count room =
        record {
          size = size;
          few = omega arith;
          held = grown-held ∙ ap holding (sym grown-bindings);
          variable = λ b m. variable b (subst (Memᴰ b) grown-bindings m);
          below = λ b m. below b (subst (Memᴰ b) grown-bindings m);
          latest = λ b m. subst (λ (x : Reading). b.at ≤ last_of x) (sym grown-bindings) (latest b (subst (Memᴰ b) grown-bindings m));
        }
      where
        variable : (b : Binding) → Memᴰ b (with_binding (held_in slot).bindings v j) → b.variable < n
        variable b (Memᴰ.head q) = let w = ap (λ (x : Binding). x.variable) q in omega arith
        variable b (Memᴰ.tail m) = r.variable b m

        below : (b : Binding) → Memᴰ b (with_binding (held_in slot).bindings v j) → b.at < j + 1
        below b (Memᴰ.head q) = let w = ap (λ (x : Binding). x.at) q in omega arith
        below b (Memᴰ.tail m) = let w = r.below b m in omega arith

        latest : (b : Binding) → Memᴰ b (with_binding (held_in slot).bindings v j) → b.at ≤ j
        latest b m = let w = below b m in omega arith

pub empty-reads :
    (slot : List ℕ) (n j : ℕ) → held_in slot ≡ nothing → length slot ≡ slot_bytes → count_in slot ≡ 0 → Reads n j slot
empty-reads slot n j e size count =
    let z : (held_in slot).bindings ≡ [] = ap (λ (x : Held). x.bindings) e in
    record {
      size = size;
      few = omega arith;
      held = e ∙ holding-none ∙ ap holding (sym z);
      variable = λ b m. absurd (Memᴰ.not-nil (subst (Memᴰ b) z m));
      below = λ b m. absurd (Memᴰ.not-nil (subst (Memᴰ b) z m));
      latest = λ b m. absurd (Memᴰ.not-nil (subst (Memᴰ b) z m));
    }
