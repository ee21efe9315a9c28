-- The live readings stand in one half of working memory, and what they become in the other; where nothing moves they
-- stay. Assumes nothing.
use mathlib.Core.Path.{◌≡◌, refl, sym, ap, ◌∙◌}
use mathlib.Core.Logic.{◌⊎◌, ⊎_elim, inl, inr}
use mathlib.Core.Bool.{Bool, false}
use mathlib.Core.List.{List, []}
use Prim.Native.Nat.{ℕ, ◌+◌, ◌-◌, ◌*◌, ◌≤◌, ◌<◌}
use native.Mathlib.Omega.{arith}
use lib.ListN.{length}
use Rattle.slots.specs.Slots.{Held, slot_bytes, slots_at}
use Rattle.slots.proofs.Slots.{length-slots_at}
use Rattle.live.specs.Live.{long, step_by}
use Rattle.live.specs.Memory.{Added, Stands, Moved}
use Rattle.live.proofs.Steps.{step-idle}
use Rattle.live.proofs.Memory.{standing-none}

module _ {lent limit half start count : ℕ} (s : Stands lent limit half start count) where
  pub half_in : half ≤ slot_bytes * limit
  half_in = ⊎_elim (λ (e : half ≡ 0). omega arith) (λ (e : half ≡ slot_bytes * limit). omega arith) s.side

  pub start-in : start + slot_bytes * count ≤ lent
  start-in = let room = s.room in let to = s.to in let h = half_in in omega arith

  -- no place is beyond what a number of 64 bits holds
  pub start_small : start + slot_bytes * count < 9223372036854775808
  start_small = let few = s.few in let to = s.to in let h = half_in in omega arith

  pub other-side : (slot_bytes * limit - half ≡ 0) ⊎ (slot_bytes * limit - half ≡ slot_bytes * limit)
  other-side = ⊎_elim (λ (e : half ≡ 0). inr (omega arith)) (λ (e : half ≡ slot_bytes * limit). inl (omega arith)) s.side

pub moved-idle :
    {work : List ℕ} {can limit half start count : ℕ} {over : Bool} (plan bytes : List ℕ) (i : ℕ) → can ≡ 0
    → Stands (length work) limit half start count
    → long (slots_at work start count) ≡ false
    → over ≡ false
    → Moved work work limit half start count over (step_by plan bytes i can (slots_at work start count))
moved-idle {work} {can} {limit} {half} {start} {count} {over} plan bytes i z s l o =
    let l₀ : List Held = slots_at work start count in
    let e : step_by plan bytes i can l₀ ≡ l₀ = ap (λ (k : ℕ). step_by plan bytes i k l₀) z ∙ step-idle plan bytes i l₀ in
    rw e
    (record {
      standing = record { count = sym (length-slots_at work start count); noted = o ∙ sym l; held = λ f h. refl };
      stands = λ h. s;
      size = refl;
    })

pub moved-over :
    {work new : List ℕ} {limit half start count t : ℕ} {o : Bool} {out : List Held}
    → Stands (length work) limit half start count
    → Added work new (slot_bytes * limit - half) limit 0 false t o out
    → Moved work new limit (slot_bytes * limit - half) (slot_bytes * limit - half) t o out
moved-over {work} {new} {limit} {half} s a =
    let room = s.room in
    let size = a.size in
    record {
      standing = a.behind [] (standing-none work (slot_bytes * limit - half) limit);
      stands = λ h. record { room = omega arith; few = s.few; side = other-side s; from = omega arith; to = omega arith };
      size = a.size;
    }
