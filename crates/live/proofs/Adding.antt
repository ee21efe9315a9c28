-- What each function that puts readings out adds: one extension, all of a reading's, what it becomes, and what all
-- become. Assumes nothing.
use mathlib.Core.Path.{◌≡◌, refl, sym, ap, ◌∙◌}
use mathlib.Core.Bool.{Bool, true, false}
use mathlib.Core.List.{List, [], ◌∷◌, ◌++◌, append-nil, append_assoc}
use Prim.Native.Nat.{ℕ, ◌+◌, ◌*◌, ◌≤◌, ◌<◌}
use native.Mathlib.Numerals.{add-one}
use native.Mathlib.Omega.{arith}
use lib.ListN.{length, length-append}
use Rattle.automaton.specs.Filtering.{collect}
use Rattle.rule.proofs.OnlyOrElse.{collect-append}
use Rattle.slots.specs.Slots.{Held, slot_bytes, grow, state_in, held_in, slot_at, slots_at}
use Rattle.firing.specs.Firing.{leaves_by, agrees_by}
use Rattle.live.specs.Live.{one_by, fired_by, extend_by, unbound, step_by, first_by, begun_by}
use Rattle.live.specs.Memory.{Apart, Added}
use Rattle.live.proofs.Parts.{part_at, part-slot}
use Rattle.live.proofs.Steps.{one-fires, one-stays, one-fails, extend-fired, extend-kept, first-fires}
use Rattle.live.proofs.Steps.{first-stays, begun-fired}
use Rattle.live.proofs.Memory.{added_none, added-trans, slot_kept}

-- ## Part by part

-- of `all` those before `rest` were put out
pub record Partly (old new : List ℕ) (dst limit t : ℕ) (o : Bool) (t' : ℕ) (o' : Bool)
    (all rest : List Held) : Type 0 where
  pub done : List Held
  pub added : Added old new dst limit t o t' o' done
  pub whole : all ≡ done ++ rest

module _ {a b : List ℕ} {dst limit t t' : ℕ} {o o' : Bool} {all rest : List Held}
    (p : Partly a b dst limit t o t' o' all rest) where
  pub partly-turn :
      {c : List ℕ} {t'' : ℕ} {o'' : Bool} {xs rest' : List Held} → rest ≡ xs ++ rest' → Added b c dst limit t' o' t'' o'' xs
      → Partly a c dst limit t o t'' o'' all rest'
  partly-turn {xs = xs} {rest' = rest'} e q =
      record {
        done = p.done ++ xs;
        added = added-trans p.added q;
        whole = p.whole ∙ ap (λ (l : List Held). p.done ++ l) e ∙ sym (append_assoc p.done xs rest');
      }

  pub partly-all : rest ≡ [] → Added a b dst limit t o t' o' all
  partly-all e =
      let same : all ≡ p.done = p.whole ∙ ap (λ (l : List Held). p.done ++ l) e ∙ append-nil p.done in
      rw same p.added

  -- no more than all were counted
  pub partly-total : t' ≤ t + length all
  partly-total = omega (arith, p.added.total, ap length p.whole, length-append p.done rest)

-- ## What the slot at a place is asked

module _ (plan : List ℕ) (v : ℕ) (work : List ℕ) (at : ℕ) where
  pub leaves-held :
      {state : ℕ} {found t : Bool} → state ≡ state_in (part_at work at) → found ≡ leaves_by plan state v → found ≡ t
      → leaves_by plan (held_in (slot_at work at)).state v ≡ t
  unfolding held_in
  leaves-held e f g = ap (λ (s : ℕ). leaves_by plan s v) (sym (e ∙ ap state_in (part-slot work at))) ∙ sym f ∙ g

module _ (plan bytes : List ℕ) (i v : ℕ) (work : List ℕ) (at : ℕ) where
  pub agrees-held :
      {found t : Bool} → found ≡ agrees_by plan bytes i v (held_in (part_at work at)) → found ≡ t
      → agrees_by plan bytes i v (held_in (slot_at work at)) ≡ t
  agrees-held e f = ap (λ (s : List ℕ). agrees_by plan bytes i v (held_in s)) (sym (part-slot work at)) ∙ sym e ∙ f

module _ (plan bytes : List ℕ) (i : ℕ) where
  -- ## One variable

  module _ (v : ℕ) (h : Held) where
    pub added-one :
        {w w' : List ℕ} {dst limit t t' : ℕ} {o o' : Bool} → leaves_by plan h.state v ≡ true
        → agrees_by plan bytes i v h ≡ true
        → Added w w' dst limit t o t' o' (grow i v h ∷ [])
        → Added w w' dst limit t o t' o' (one_by plan bytes i v h)
    added-one e f p = rw (one-fires plan bytes i h v e f) p

    module _ {w : List ℕ} {dst limit t : ℕ} {o : Bool} where
      pub added-stays : leaves_by plan h.state v ≡ false → Added w w dst limit t o t o (one_by plan bytes i v h)
      added-stays e = rw (one-stays plan bytes i h v e) (added_none w dst limit t o)

      pub added-fails :
          leaves_by plan h.state v ≡ true → agrees_by plan bytes i v h ≡ false
          → Added w w dst limit t o t o (one_by plan bytes i v h)
      added-fails e f = rw (one-fails plan bytes i h v e f) (added_none w dst limit t o)

  module _ (can : ℕ) where
    -- ## A reading's extensions, or itself

    pub added-extended :
        {w w' : List ℕ} {dst limit t t' : ℕ} {o o' : Bool} (h : Held) → t < t'
        → Added w w' dst limit t o t' o' (fired_by plan bytes i can h)
        → Added w w' dst limit t o t' o' (extend_by plan bytes i can h)
    added-extended h l p = rw (extend-fired plan bytes i h can (omega (arith, p.total))) p

    length-zero : (l : List Held) → length l ≡ 0 → l ≡ []
    length-zero [] e = refl
    length-zero (y ∷ l) e = absurd (omega arith)

    pub added-kept :
        {a b c : List ℕ} {dst limit t t' t'' : ℕ} {o o' o'' : Bool} (h : Held) → t' ≤ t
        → Added a b dst limit t o t' o' (fired_by plan bytes i can h)
        → Added b c dst limit t' o' t'' o'' (h ∷ [])
        → Added a c dst limit t o t'' o'' (extend_by plan bytes i can h)
    added-kept h l p q =
        let e : fired_by plan bytes i can h ≡ [] = length-zero (fired_by plan bytes i can h) (omega (arith, p.total)) in
        rw (extend-kept plan bytes i h can e) (rw e at (added-trans p q))

    -- ## The live readings one by one

    pub all_start :
        (w : List ℕ) (dst limit src : ℕ)
        → Added w w dst limit 0 false 0 false (collect (extend_by plan bytes i can) (slots_at w src 0))
    unfolding slots_at collect
    all_start w dst limit src = added_none w dst limit 0 false

    collect-one : (f : Held → List Held) (h : Held) → collect f (h ∷ []) ≡ f h
    unfolding collect
    collect-one f h = append-nil (f h)

    pub all-turn :
        {w₀ w w' : List ℕ} {dst limit t t' : ℕ} {o o' : Bool} (src count k : ℕ)
        → Apart src (src + slot_bytes * count) dst limit → k < count
        → Added w₀ w dst limit 0 false t o (collect (extend_by plan bytes i can) (slots_at w₀ src k))
        → Added w w' dst limit t o t' o' (extend_by plan bytes i can (held_in (slot_at w (src + slot_bytes * k))))
        → Added w₀ w' dst limit 0 false t' o' (collect (extend_by plan bytes i can) (slots_at w₀ src (k + 1)))
    unfolding slots_at
    all-turn {w₀} {w} src count k apart h p q =
        let f : Held → List Held = extend_by plan bytes i can in
        let at : ℕ = src + slot_bytes * k in
        let last : List ℕ = slot_at w₀ at in
        let s : slot_at w at ≡ last = slot_kept apart w₀ w at (omega arith) (omega arith) p.outside in
        rw (add-one, collect-append f (slots_at w₀ src k) (held_in last ∷ []), collect-one f (held_in last)) (added-trans p (rw s at q))

    -- then those that begin
    pub added-step :
        {a b c : List ℕ} {dst limit t t' : ℕ} {o o' : Bool} (l : List Held)
        → Added a b dst limit 0 false t o (collect (extend_by plan bytes i can) l)
        → Added b c dst limit t o t' o' (begun_by plan i can)
        → Added a c dst limit 0 false t' o' (step_by plan bytes i can l)
    unfolding step_by
    added-step l p q = added-trans p (rw (begun-fired plan i bytes can) at q)

-- ## A reading that begins

module _ (plan : List ℕ) (i v : ℕ) where
  pub added-first :
      {w w' : List ℕ} {dst limit t t' : ℕ} {o o' : Bool} (none : Held) → none ≡ unbound → leaves_by plan 0 v ≡ true
      → Added w w' dst limit t o t' o' (grow i v none ∷ [])
      → Added w w' dst limit t o t' o' (first_by plan i v)
  added-first none e f p = rw (first-fires plan i v f) (rw e at p)

  pub added-none-first :
      {w : List ℕ} {dst limit t : ℕ} {o : Bool} → leaves_by plan 0 v ≡ false
      → Added w w dst limit t o t o (first_by plan i v)
  added-none-first {w} {dst} {limit} {t} {o} e = rw (first-stays plan i v e) (added_none w dst limit t o)
