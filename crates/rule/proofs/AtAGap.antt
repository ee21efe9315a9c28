-- At a gap and at the end of the block the forward pass can refuse by 11 alone: no reading ends there, and none is live
-- after it. So the place of every other refusal that it gives is an event. Assumes nothing.
use mathlib.Core.Path.{◌≡◌, refl, sym, ap, subst}
use mathlib.Core.Logic.{◌⊎◌, inl, inr}
use mathlib.Core.List.{List, [], ◌∷◌, Memᴰ}
use Prim.Native.Nat.{ℕ, zero, suc, ◌≤◌, ◌<◌}
use native.Mathlib.Omega.{arith}
use native.Mathlib.Decide.{ℕ_discrete}
use lib.ListN.{length}
use Rattle.numbers.proofs.Cases.{by_order}
use Rattle.records.specs.declared.Answer.{Answer}
use Rattle.records.specs.Records.{event_kind}
use Rattle.records.specs.Blocks.{refused}
use Rattle.patterns.specs.declared.Pattern.{Pattern}
use Rattle.rule.specs.Rule.{Block, Binding, Reading, record_in, Event, start_of, last_of, PartialReading, LiveAfter}
use Rattle.rule.specs.Promises.{Outcome, TooLong, Twice, TooMany, Meets, refusal, refused_with, Forward}
use Rattle.rule.specs.Calls.{pattern_in, block_in, room_in, ForwardCall}
use Rattle.rule.proofs.Report.{event-in}
use Rattle.rule.proofs.EveryReading.{rises}
use Rattle.rule.proofs.Inputs.{input-refused}

-- the first record of a reading is one that it binds
start-bound : (x : Binding) (s : Reading) → (b : Binding) × Memᴰ b (x ∷ s) × (start_of (x ∷ s) ≡ b.at)
start-bound x [] = (x, Memᴰ.head refl, refl)
start-bound x (y ∷ s) = let q = start-bound y s in (q.0, Memᴰ.tail q.1, q.2)

module _ (p : Pattern) (B : Block) where
  -- the last record of a partial reading is an event
  last-event : (r : Reading) → PartialReading p B r → Event B (last_of r)
  last-event [] h = absurd (h.one_or_more refl)
  last-event (b ∷ s) h = (h.each [] b s refl).event

  start-before-last : (r : Reading) → PartialReading p B r → start_of r ≤ last_of r
  start-before-last [] h = absurd (h.one_or_more refl)
  start-before-last (x ∷ []) h = omega arith
  start-before-last (x ∷ y ∷ s) h =
      let q = start-bound y s in
      let e : start_of (x ∷ y ∷ s) ≡ q.0.at = q.2 in
      let l : q.0.at < x.at = rises p B x (y ∷ s) h q.1 in
      omega arith

  module _ (j : ℕ) (gap : ¬ Event B j) where
    -- nothing is live after a gap
    pub none-live : (r : Reading) → ¬ LiveAfter p B r j
    none-live r h =
        by_order (last_of r) j
        (λ l. gap (h.no_gap j (omega (arith, start-before-last r h.reads)) (omega arith)))
        (λ l. let e : last_of r ≡ j = omega (arith, h.up_to) in gap (subst (Event B) e (last-event r h.reads)))

    not-long : ¬ TooLong p B j
    not-long h = gap (subst (Event B) h.ends (last-event h.reading h.reads))

    not-twice : ¬ Twice p B j
    not-twice h = gap (subst (Event B) h.ends (last-event (h.last ∷ h.before) h.reads))

    not-many : (L : ℕ) → ¬ TooMany p B L j
    not-many L h = go h.count.readings h.count.sound h.count.size
      where
        go : (l : List Reading) → ((r : Reading) → Memᴰ r l → LiveAfter p B r j) → length l ≡ h.number → ⊥
        go [] live e = omega (arith, h.more)
        go (r ∷ l) live e = none-live r (live r (Memᴰ.head refl))

    -- of the rows that may be met at a record, a gap meets the first alone: 11
    pub at-a-gap : (L room t : ℕ) → Meets p B L room j t → t ≡ 0
    at-a-gap L room zero h = refl
    at-a-gap L room (suc zero) h = absurd (not-long h)
    at-a-gap L room (suc (suc zero)) h = absurd (not-twice h)
    at-a-gap L room (suc (suc (suc zero))) h = absurd (not-many L h)
    at-a-gap L room (suc (suc (suc (suc t)))) h = absurd h

    -- so a refusal there is 11 with place 0
    pub refusal-at-a-gap : (L room t : ℕ) → Meets p B L room j t → refusal room j t ≡ refused_with room 11 0
    refusal-at-a-gap L room t h = ap (refusal room j) (at-a-gap L room t h)

  -- the end of the block is no event
  pub end-no-event : ¬ Event B (length B)
  end-no-event e = omega (arith, event-in p B (length B) e)

  pub at-the-end : (L room t : ℕ) → Meets p B L room (length B) t → t ≡ 0
  at-the-end L room t h = at-a-gap (length B) end-no-event L room t h

  placed : {place j : ℕ} → place ≡ j → Event B j → Event B place
  placed e = subst (Event B) (sym e)

  -- what is met but 11 is met at an event
  met-at-event : (L room j t : ℕ) → Meets p B L room j (suc t) → Event B j
  met-at-event L room j t h = go (ℕ_discrete (record_in B j).kind event_kind)
    where
      go : Dec ((record_in B j).kind ≡ event_kind) → Event B j
      go (yes e) = e
      go (no n) = absurd (omega (arith, at-a-gap j n L room (suc t) h))

  -- a refusal of the forward pass is 11 with place 0, or its place is an event
  pub forward-refusals : (L room : ℕ) (a : Outcome)
      → Forward p B L room a → ¬ (a.answer.code ≡ 0) → (a ≡ refused_with room 11 0) ⊎ Event B a.answer.place
  forward-refusals L room a (Forward.succeeds l peak n r k e) z = absurd (z (ap (λ (o : Outcome). o.answer.code) e))
  forward-refusals L room a (Forward.refuses j zero i h f e) z = inl e
  forward-refusals L room a (Forward.refuses j (suc zero) i h f e) z =
      inr (placed (ap (λ (o : Outcome). o.answer.place) e) (met-at-event L room j 0 h))
  forward-refusals L room a (Forward.refuses j (suc (suc zero)) i h f e) z =
      inr (placed (ap (λ (o : Outcome). o.answer.place) e) (met-at-event L room j 1 h))
  forward-refusals L room a (Forward.refuses j (suc (suc (suc t))) i h f e) z =
      inr (placed (ap (λ (o : Outcome). o.answer.place) e) (met-at-event L room j (suc (suc t)) h))

-- of the whole call, whose refusals up to 8 are of the input, the limit and working memory
pub call-refusals : (pattern block : List ℕ) (limit lent_work lent_result : ℕ) (a : Answer) (work result : List ℕ)
    → ForwardCall pattern block limit lent_work lent_result a work result
    → 8 < a.code
    → (a ≡ refused 11 0) ⊎ Event (block_in block) a.place
call-refusals pattern block limit lent_work lent_result a work result (ForwardCall.refused_input n e w r) l =
    absurd (omega (arith, (input-refused pattern block n).up_to, ap (λ (x : Answer). x.code) e))
call-refusals pattern block limit lent_work lent_result a work result (ForwardCall.refused_limit y n e w r) l =
    absurd (omega (arith, ap (λ (x : Answer). x.code) e))
call-refusals pattern block limit lent_work lent_result a work result (ForwardCall.answered y k numbers h w r) l =
    go (forward-refusals (pattern_in pattern) (block_in block) limit (room_in lent_result) outcome h (λ z. omega arith))
  where
    outcome : Outcome
    outcome = record { answer = a; numbers = numbers }

    go : (outcome ≡ refused_with (room_in lent_result) 11 0) ⊎ Event (block_in block) a.place
        → (a ≡ refused 11 0) ⊎ Event (block_in block) a.place
    go (inl e) = inl (ap (λ (o : Outcome). o.answer) e)
    go (inr e) = inr e
