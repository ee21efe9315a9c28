-- The variables that fire, in parts: what each record's own conditions allow, settled once a call; of it the variables
-- that leave the state; of these the ones that agree with what is bound. Assumes nothing.
use mathlib.Core.Path.{◌≡◌, refl, sym, ap, ap₂, ◌∙◌}
use mathlib.Core.Bool.{Bool, true, false, not, ◌&&◌, and-true, and_assoc}
use mathlib.Core.List.{List, []}
use mathlib.Core.Logic.{⊎_elim}
use Prim.Native.Nat.{ℕ, ◌+◌, ◌-◌, ◌*◌, ◌/◌, ◌%◌, ◌^◌, ◌≤◌, ◌<◌}
use native.Mathlib.Nat.{eq-or-lt_of_le, lt_of_le_of_lt, lt_of_lt_of_le}
use native.Mathlib.Omega.{arith}
use lib.Bits.{bit_and, and_le_l}
use borrow.Author.Tests.{eqb-true}
use lib.Dec.{eqb}
use lib.ListN.{get_or}
use lib.Pow.{pow_mono}
use Rattle.numbers.specs.Numbers.{one_if, every}
use Rattle.numbers.specs.Bits.{bit, mask, disjoint, IsLowestBit}
use Rattle.numbers.proofs.Cases.{by-test, by_order}
use Rattle.numbers.proofs.Every.{every_of}
use Rattle.numbers.proofs.Bits.{bit_high, bit-zero, bit-and, bit-without, bits-same, mask_bound, mask-inside}
use Rattle.numbers.proofs.Bits.{mask-nothing, mask-same, mask-without, weight-in, weight-in-le}
use Rattle.records.specs.Records.{record_count}
use Rattle.patterns.specs.Patterns.{most_variables, most_conditions}
use Rattle.automaton.specs.Filtering.{all}
use Rattle.automaton.proofs.All.{implies-of}
use Rattle.slots.specs.Slots.{Held}
use Rattle.plans.specs.Plan.{marks_in, joins_in}
use Rattle.firing.specs.Firing.{own_holds, can_by, leaves_by, later_than, later_by, join_holds, joins_by, agrees_by, fires_by}
use Rattle.reach.specs.Readings.{firing_by, leaving_by, agreeing_by, Cans}
use Rattle.reach.proofs.MaskInTurn.{low_bits}

-- ## One variable of a mask after another

-- a part of a number, taken out of it and put back
put_back : (whole part weight rest : ℕ) → part ≤ whole → part ≡ weight → whole - weight ≡ rest → whole ≡ weight + rest
put_back whole part weight rest h e l = omega arith

module _ (plan bytes : List ℕ) (i : ℕ) (h : Held) where
  abbrev agree : ℕ → ℕ → Bool
  agree asked v = bit asked v && agrees_by plan bytes i v h

  pub agreeing-none : agreeing_by plan bytes i 0 h ≡ 0
  unfolding agreeing_by
  agreeing-none =
      mask-nothing (agree 0) most_variables (λ v l. ap (λ (t : Bool). t && agrees_by plan bytes i v h) (bit-zero v))

  pub agreeing-bound : (asked : ℕ) → agreeing_by plan bytes i asked h < 2 ^ most_variables
  unfolding agreeing_by
  agreeing-bound asked = mask_bound (agree asked) most_variables

  -- the lowest variable, and the others
  pub agreeing-lowest :
      (rest v : ℕ) → rest < 2 ^ most_variables → IsLowestBit 64 rest v
      → agreeing_by plan bytes i rest h
      ≡ one_if (agrees_by plan bytes i v h) * 2 ^ v + agreeing_by plan bytes i (rest - one_if (bit rest v) * 2 ^ v) h
  unfolding agreeing_by
  agreeing-lowest rest v small low =
      let whole : ℕ = mask (agree rest) most_variables in
      let others : ℕ = rest - one_if (bit rest v) * 2 ^ v in
      let here : bit whole v ≡ agrees_by plan bytes i v h =
      mask-inside (agree rest) most_variables v (low_bits rest most_variables v small low.here)
      ∙ ap (λ (t : Bool). t && agrees_by plan bytes i v h) low.here in
      let weight : one_if (bit whole v) * 2 ^ v ≡ one_if (agrees_by plan bytes i v h) * 2 ^ v = ap (λ (t : Bool). one_if t * 2 ^ v) here in
      put_back whole (whole / 2 ^ v % 2 * 2 ^ v) (one_if (agrees_by plan bytes i v h) * 2 ^ v) (mask (agree others) most_variables)
      (weight-in-le whole v) (weight-in whole v ∙ weight)
      (ap (λ (x : ℕ). whole - x) (sym weight)
      ∙ mask-without (agree rest) most_variables v
      ∙ mask-same (λ u. not (eqb v u) && agree rest u) (agree others) most_variables
      (λ u l.
      sym (and_assoc (not (eqb v u)) (bit rest u) (agrees_by plan bytes i u h))
      ∙ ap (λ (t : Bool). t && agrees_by plan bytes i u h) (sym (bit-without rest most_variables v u small))))

-- one variable more of a mask is tested, in vain
pub tested-more :
    (test : ℕ → Bool) (asked rest n w : ℕ) → rest < 2 ^ n
    → ((v : ℕ) → bit asked v ≡ true → bit rest v ≡ false → test v ≡ false)
    → test w ≡ false → (v : ℕ) → bit asked v ≡ true → bit (rest - one_if (bit rest w) * 2 ^ w) v ≡ false
    → test v ≡ false
tested-more test asked rest n w small known none v e out =
    by-test (eqb w v)
    (λ t. ap test (sym (eqb-true w v t)) ∙ none)
    (λ t. known v e (ap (λ (b : Bool). not b && bit rest v) (sym t) ∙ sym (bit-without rest n w v small) ∙ out))

-- ## The parts together

module _ (plan bytes : List ℕ) (n c i : ℕ) where
  abbrev can : ℕ
  can = can_by plan n c bytes i

  can-bound : can < 2 ^ n
  unfolding can_by
  can-bound = mask_bound (λ v. every (own_holds plan bytes i v) c) n

  -- the variables that can fire and leave a state
  allowed-bound : (leave : ℕ) → bit_and can leave < 2 ^ n
  allowed-bound leave = lt_of_le_of_lt (and_le_l can leave) can-bound

  allowed-bit : (state v : ℕ) → v < n → bit (bit_and can (leaving_by plan n state)) v ≡ bit can v && leaves_by plan state v
  unfolding leaving_by
  allowed-bit state v l =
      bit-and can (mask (leaves_by plan state) n) v
      ∙ ap (λ (t : Bool). bit can v && t) (mask-inside (leaves_by plan state) n v l)

  pub firing-parts :
      (h : Held) → n ≤ most_variables
      → agreeing_by plan bytes i (bit_and can (leaving_by plan n h.state)) h ≡ firing_by plan bytes n c i h
  unfolding agreeing_by firing_by fires_by
  firing-parts h few =
      bits-same (mask (agree plan bytes i h allowed) most_variables) (mask fires n) most_variables (mask_bound (agree plan bytes i h allowed) most_variables)
      (lt_of_lt_of_le (mask_bound fires n) (pow_mono few))
      (λ v l. mask-inside (agree plan bytes i h allowed) most_variables v l ∙ by_order v n (inside v) (outside v))
    where
      allowed : ℕ
      allowed = bit_and can (leaving_by plan n h.state)

      fires : ℕ → Bool
      fires v = bit can v && (leaves_by plan h.state v && agrees_by plan bytes i v h)

      inside : (v : ℕ) → v < n → agree plan bytes i h allowed v ≡ bit (mask fires n) v
      inside v l =
          ap (λ (t : Bool). t && agrees_by plan bytes i v h) (allowed-bit h.state v l)
          ∙ and_assoc (bit can v) (leaves_by plan h.state v) (agrees_by plan bytes i v h)
          ∙ sym (mask-inside fires n v l)

      outside : (v : ℕ) → n ≤ v → agree plan bytes i h allowed v ≡ bit (mask fires n) v
      outside v l =
          ap (λ (t : Bool). t && agrees_by plan bytes i v h) (bit_high allowed n v (allowed-bound (leaving_by plan n h.state)) l)
          ∙ sym (bit_high (mask fires n) n v (mask_bound fires n) l)

  -- nothing is asked of a reading without bindings
  agrees-none : (state v : ℕ) → agrees_by plan bytes i v (record { state = state; bindings = [] }) ≡ true
  unfolding later_by later_than joins_by join_holds all
  agrees-none state v =
      ap (λ (t : Bool). t && every (join_holds plan bytes i v []) most_conditions) (implies-of (disjoint state (marks_in plan v)) true (λ e. refl))
      ∙ every_of (join_holds plan bytes i v []) most_conditions (λ k l. implies-of (bit (joins_in plan v) k) true (λ e. refl))

  pub firing-first :
      (state : ℕ)
      → bit_and can (leaving_by plan n state) ≡ firing_by plan bytes n c i (record { state = state; bindings = [] })
  unfolding firing_by fires_by
  firing-first state =
      bits-same (bit_and can (leaving_by plan n state)) (mask fires n) n (allowed-bound (leaving_by plan n state)) (mask_bound fires n)
      (λ v l.
      allowed-bit state v l
      ∙ ap (λ (t : Bool). bit can v && t)
      (sym (and-true (leaves_by plan state v)) ∙ ap (λ (t : Bool). leaves_by plan state v && t) (sym (agrees-none state v)))
      ∙ sym (mask-inside fires n v l))
    where
      fires : ℕ → Bool
      fires v = bit can v && (leaves_by plan state v && agrees_by plan bytes i v (record { state = state; bindings = [] }))

-- ## Once a call

module _ (plan bytes : List ℕ) (n c : ℕ) (few : n ≤ most_variables) (cans : List ℕ) (settled : Cans plan bytes n c cans)
    (i : ℕ) (inside : i < record_count bytes) where
  pub read-bound : get_or cans i 0 < 2 ^ most_variables
  read-bound = rw (settled.each i inside) (lt_of_lt_of_le (can-bound plan bytes n c i) (pow_mono few))

  pub allowed-read : (leave : ℕ) → bit_and (get_or cans i 0) leave < 2 ^ most_variables
  allowed-read leave = lt_of_le_of_lt (and_le_l (get_or cans i 0) leave) read-bound

  pub firing-read :
      (h : Held) (leave : ℕ) → leave ≡ leaving_by plan n h.state
      → agreeing_by plan bytes i (bit_and (get_or cans i 0) leave) h ≡ firing_by plan bytes n c i h
  firing-read h leave e =
      ap₂ (λ (x y : ℕ). agreeing_by plan bytes i (bit_and x y) h) (settled.each i inside) e ∙ firing-parts plan bytes n c i h few

  -- where no variable can fire and leave the state
  pub none_read :
      (h : Held) (leave : ℕ) → leave ≡ leaving_by plan n h.state → bit_and (get_or cans i 0) leave ≡ 0
      → firing_by plan bytes n c i h ≡ 0
  none_read h leave e z =
      sym (firing-read h leave e) ∙ ap (λ (x : ℕ). agreeing_by plan bytes i x h) z ∙ agreeing-none plan bytes i h

  pub first_read :
      (leave : ℕ) → leave ≡ leaving_by plan n 0
      → bit_and (get_or cans i 0) leave ≡ firing_by plan bytes n c i (record { state = 0; bindings = [] })
  first_read leave e = ap₂ bit_and (settled.each i inside) e ∙ firing-first plan bytes n c i 0

-- one record more is passed
pub passed-more :
    (fires : ℕ → ℕ) (j i : ℕ) → fires i ≡ 0 → ((k : ℕ) → j ≤ k → k < i → fires k ≡ 0) → (k : ℕ) → j ≤ k → k < i + 1
    → fires k ≡ 0
passed-more fires j i none passed k from below =
    ⊎_elim
    (λ e. ap fires e ∙ none)
    (λ l. passed k from l)
    (eq-or-lt_of_le {n = k} {m = i} (omega arith))
