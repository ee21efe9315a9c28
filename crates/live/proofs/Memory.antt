-- Readings put one after the other into working memory: one by one, one part after another, and what stands elsewhere
-- is kept. Assumes nothing.
use mathlib.Core.Path.{◌≡◌, refl, sym, ap, ◌∙◌}
use mathlib.Core.Logic.{⊎_elim, inl, inr}
use mathlib.Core.Bool.{Bool, true, false}
use mathlib.Core.List.{List, [], ◌∷◌, ◌++◌, append_assoc, append-nil}
use Prim.Native.Nat.{ℕ, ◌+◌, ◌-◌, ◌*◌, ◌≤◌, ◌<◌}
use native.Mathlib.Numerals.{add-one}
use native.Mathlib.Omega.{arith}
use lib.ListN.{length, take, drop, length-append}
use lib.Seq.{take-take, drop-drop}
use Rattle.numbers.specs.Numbers.{written}
use Rattle.rule.specs.Promises.{most_bindings}
use Rattle.slots.specs.Slots.{Held, slot_bytes, count_in, held_in, grow, slot_at, slots_at}
use Rattle.slots.proofs.Results.{put_written, take-written, drop-written, length-written}
use Rattle.slots.proofs.Slots.{slot_at-before, slot_at-after, slot_at-written, slots_at-stored}
use Rattle.live.specs.Live.{is_long, long}
use Rattle.live.specs.Memory.{Standing, Outside, Apart, Added}
use Rattle.live.proofs.Parts.{part_at, put_slot, part-slot}
use Rattle.live.proofs.TooLong.{long-short, long-over, grow-short}

-- ## What stands elsewhere

pub outside-none : (w : List ℕ) (low high : ℕ) → Outside w w low high
outside-none w low high = record { before = refl; after = refl }

pub outside_trans : {a b c : List ℕ} {low high : ℕ} → Outside a b low high → Outside b c low high → Outside a c low high
outside_trans p q = record { before = q.before ∙ p.before; after = q.after ∙ p.after }

drop-from : (high at : ℕ) (w : List ℕ) → high ≤ at → drop (at - high) (drop high w) ≡ drop at w
drop-from high at w h =
    let e : high + (at - high) ≡ at = omega arith in drop-drop (at - high) high w ∙ ap (λ (k : ℕ). drop k w) e

pub outside_wider :
    (old new : List ℕ) (low high low' high' : ℕ) → Outside old new low high → low' ≤ low → high ≤ high'
    → Outside old new low' high'
outside_wider old new low high low' high' o h k =
    record {
      before = sym (take-take low' low new h) ∙ ap (λ (l : List ℕ). take low' l) o.before ∙ take-take low' low old h;
      after = sym (drop-from high high' new k) ∙ ap (λ (l : List ℕ). drop (high' - high) l) o.after ∙ drop-from high high' old k;
    }

pub outside-written :
    (w : List ℕ) (at : ℕ) (bytes : List ℕ) → at ≤ length w → Outside w (written w at bytes) at (at + length bytes)
outside-written w at bytes h =
    record { before = take-written w at bytes h at (omega arith); after = drop-written w at bytes h (at + length bytes) (omega arith) }

-- a slot before dst, or behind all that stands from there
module _ {low high dst limit : ℕ} (apart : Apart low high dst limit) where
  pub apart-part : (low' high' : ℕ) → low ≤ low' → high' ≤ high → Apart low' high' dst limit
  apart-part low' high' h k =
      record { sides = ⊎_elim (λ (p : high ≤ dst). inl (omega arith)) (λ (p : dst + slot_bytes * limit ≤ low). inr (omega arith)) apart.sides }

  pub slot_kept :
      (old new : List ℕ) (at : ℕ) → low ≤ at → at + slot_bytes ≤ high → Outside old new dst (dst + slot_bytes * limit)
      → slot_at new at ≡ slot_at old at
  slot_kept old new at h k o =
      ⊎_elim
      (λ (p : high ≤ dst). slot_at-before new old dst at o.before (omega arith))
      (λ (p : dst + slot_bytes * limit ≤ low). slot_at-after new old (dst + slot_bytes * limit) at o.after (omega arith))
      apart.sides

  -- the same, as a part that is lent
  pub part-kept :
      (old new : List ℕ) (at : ℕ) → low ≤ at → at + slot_bytes ≤ high → Outside old new dst (dst + slot_bytes * limit)
      → part_at new at ≡ slot_at old at
  part-kept old new at h k o = part-slot new at ∙ slot_kept old new at h k o

-- ## Put out

pub added_none : (w : List ℕ) (dst limit t : ℕ) (o : Bool) → Added w w dst limit t o t o []
added_none w dst limit t o =
    record {
      total = omega arith;
      behind = λ out h. rw append-nil h;
      outside = outside-none w dst (dst + slot_bytes * limit);
      size = refl;
    }

pub added-trans :
    {a b c : List ℕ} {dst limit t t' t'' : ℕ} {o o' o'' : Bool} {xs ys : List Held} → Added a b dst limit t o t' o' xs
    → Added b c dst limit t' o' t'' o'' ys
    → Added a c dst limit t o t'' o'' (xs ++ ys)
added-trans {xs = xs} {ys = ys} p q =
    record {
      total = simp length-append (omega (arith, p.total, q.total));
      behind = λ out h. rw (← append_assoc) (q.behind (out ++ xs) (p.behind out h));
      outside = outside_trans p.outside q.outside;
      size = q.size ∙ p.size;
    }

length-snoc : (out : List Held) (x : Held) (t : ℕ) → t ≡ length out → t + 1 ≡ length (out ++ (x ∷ []))
length-snoc out x t e = simp length-append (omega arith)

-- a reading stored in the next slot
added-stored :
    (w slot : List ℕ) (dst limit t : ℕ) (o : Bool) → t < limit → dst + slot_bytes * limit ≤ length w
    → length slot ≡ slot_bytes
    → is_long (held_in slot) ≡ false
    → Added w (written w (dst + slot_bytes * t) slot) dst limit t o (t + 1) o (held_in slot ∷ [])
added-stored w slot dst limit t o h k n short =
    let at : ℕ = dst + slot_bytes * t in
    let inside : at ≤ length w = omega arith in
    let e : at + length slot ≡ at + slot_bytes = omega arith in
    record {
      total = refl;
      behind = λ out s.
          record {
            count = length-snoc out (held_in slot) t s.count;
            noted = long-short (held_in slot) out o short s.noted;
            held = λ f u.
                ap (slots_at (written w at slot) dst) (add-one t)
                ∙ slots_at-stored w dst t slot inside n
                ∙ ap (λ (l : List Held). l ++ (held_in slot ∷ [])) (s.held f (omega arith));
          };
      outside = outside_wider w (written w at slot) at (at + length slot) dst (dst + slot_bytes * limit) (outside-written w at slot inside) (omega arith) (omega arith);
      size = length-written w at slot inside (omega arith);
    }

-- the same, as a part that was lent comes back
module _ (w slot : List ℕ) (at : ℕ) (inside : at ≤ length w) (size : length slot ≡ slot_bytes) where
  put_is : put_slot w at slot ≡ written w at slot
  put_is = put_written at (at + slot_bytes) w slot (omega arith)

  -- lent once more
  pub put-part : part_at (put_slot w at slot) at ≡ slot
  put-part = part-slot (put_slot w at slot) at ∙ ap (λ (m : List ℕ). slot_at m at) put_is ∙ slot_at-written w at slot inside size

  put-again : (more : List ℕ) → length more ≡ slot_bytes → put_slot (put_slot w at slot) at more ≡ written w at more
  put-again more n =
      put_written at (at + slot_bytes) (put_slot w at slot) more (omega arith)
      ∙ ap (λ (m : List ℕ). written m at more) put_is
      ∙ (λ i. take-written w at slot inside at (omega arith) i ++ more ++ drop-written w at slot inside (at + length more) (omega arith) i)

pub added-put :
    {w : List ℕ} {dst limit t : ℕ} {o : Bool} (slot : List ℕ) → t < limit → dst + slot_bytes * limit ≤ length w
    → length slot ≡ slot_bytes
    → is_long (held_in slot) ≡ false
    → Added w (put_slot w (dst + slot_bytes * t) slot) dst limit t o (t + 1) o (held_in slot ∷ [])
added-put {w} {dst} {limit} {t} {o} slot h k n short =
    rw (put_is w slot (dst + slot_bytes * t) (omega arith) n) (added-stored w slot dst limit t o h k n short)

-- a reading stored in the next slot, then bound there
pub added-bound :
    {w slot first : List ℕ} {dst limit t : ℕ} {o : Bool} (i v : ℕ) (bound : List ℕ) → t < limit
    → dst + slot_bytes * limit ≤ length w
    → length slot ≡ slot_bytes
    → count_in slot < most_bindings
    → first ≡ slot
    → held_in bound ≡ grow i v (held_in (part_at (put_slot w (dst + slot_bytes * t) first) (dst + slot_bytes * t)))
    → length bound ≡ slot_bytes
    → Added w (put_slot (put_slot w (dst + slot_bytes * t) first) (dst + slot_bytes * t) bound) dst limit t o (t + 1) o
    (grow i v (held_in slot) ∷ [])
added-bound {w} {slot} {first} {dst} {limit} {t} {o} i v bound h k n few same grown size =
    let at : ℕ = dst + slot_bytes * t in
    let inside : at ≤ length w = omega arith in
    let m : length first ≡ slot_bytes = ap length same ∙ n in
    let part : part_at (put_slot w at first) at ≡ slot = put-part w first at inside m ∙ same in
    let holds : held_in bound ≡ grow i v (held_in slot) = grown ∙ ap (λ (s : List ℕ). grow i v (held_in s)) part in
    let short : is_long (held_in bound) ≡ false = ap is_long holds ∙ grow-short slot i v few in
    rw (put-again w first at inside m bound size) (rw holds at (added-stored w bound dst limit t o h k size short))

-- no room: only counted
pub added-over :
    {w : List ℕ} {x : Held} {dst limit t : ℕ} {o : Bool} → limit ≤ t → is_long x ≡ false
    → Added w w dst limit t o (t + 1) o (x ∷ [])
added-over {w} {x} {dst} {limit} {t} {o} h short =
    record {
      total = refl;
      behind = λ out s.
          record {
            count = length-snoc out x t s.count;
            noted = long-short x out o short s.noted;
            held = λ f u. absurd (omega arith);
          };
      outside = outside-none w dst (dst + slot_bytes * limit);
      size = refl;
    }

-- a binding too many: noted
pub added-long :
    {w : List ℕ} {x : Held} {dst limit t : ℕ} {o : Bool} → is_long x ≡ true
    → Added w w dst limit t o (t + 1) true (x ∷ [])
added-long {w} {x} {dst} {limit} {t} {o} h =
    record {
      total = refl;
      behind = λ out s.
          record {
            count = length-snoc out x t s.count;
            noted = long-over x out h;
            held = λ f u. absurd (let z : ◌≡◌ {A = ℕ} 0 1 = cc in omega arith);
          };
      outside = outside-none w dst (dst + slot_bytes * limit);
      size = refl;
    }

pub standing-none : (w : List ℕ) (dst limit : ℕ) → Standing w dst limit 0 false []
unfolding slots_at long Rattle.rule.specs.Computed.any
standing-none w dst limit = record { count = refl; noted = refl; held = λ e h. refl }
