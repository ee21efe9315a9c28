-- A slot with one binding more, as `slots::bind` stores it, and the slot of zeros. Assumes nothing.
use Rattle.std.proofs.Common.{arith, ◌≡◌, refl, sym, ap, ap₂, ◌∙◌, List, [], ◌∷◌, ℕ, ◌+◌, ◌-◌, ◌*◌, ◌^◌, ◌/◌, ◌%◌}
use Rattle.std.proofs.Common.{◌≤◌, ◌<◌, length, get_or, bit_or, add-one, get_or-set_same, get_or-set_other, suc}
use Rattle.std.specs.Int.{w16, to_be_bytes}
use Rattle.std.proofs.Math.ListN.{set, length-set}
use Rattle.std.proofs.lemmas.List.{take-append-drop}
use borrow.Rule.Slice.PartMut.{put_mid}
use Rattle.numbers.specs.Numbers.{number}
use Rattle.numbers.proofs.Numbers.{number-2}
use Rattle.records.specs.Blocks.{most_records}
use Rattle.rule.specs.Promises.{most_bindings}
use Rattle.slots.specs.Slots.{slot_bytes, binding_of, bindings_in, count_in, state_in, held_in, grow}
use Rattle.patterns.specs.Patterns.{most_variables}
use Rattle.slots.proofs.Results.{put_written, put-head}
use Rattle.slots.proofs.Slots.{bindings_in-same}

-- two bytes stored are a number
number-set :
    (l : List ℕ) (at x : ℕ) → at + 1 < length l → number (set (set l at (x / 256)) (at + 1) (x % 256)) at 2 ≡ x
number-set l at x h =
    let one : List ℕ = set l at (x / 256) in
    let p : at + 1 < length one = simp length-set h in
    let a : get_or (set one (at + 1) (x % 256)) at 0 ≡ x / 256 = get_or-set_other one (at + 1) at (x % 256) 0 (omega arith) ∙ get_or-set_same l at (x / 256) 0 (omega arith) in
    let b : get_or (set one (at + 1) (x % 256)) (at + 1) 0 ≡ x % 256 = get_or-set_same one (at + 1) (x % 256) 0 p in
    number-2 (set one (at + 1) (x % 256)) at ∙ omega arith

number-set-other :
    (l : List ℕ) (at x k : ℕ) → ((at ≡ k) → ⊥) → ((at + 1 ≡ k) → ⊥) → number (set l k x) at 2 ≡ number l at 2
number-set-other l at x k f g =
    number-2 (set l k x) at ∙ omega (arith, get_or-set_other l k at x 0 f, get_or-set_other l k (at + 1) x 0 g, number-2 l at)

-- the count, the state and the binding stored
abbrev stored : List ℕ → ℕ → ℕ → ℕ → List ℕ
stored slot count state word =
    set (set (set (set (set slot 1 (count + 1)) 2 (state / 256)) 3 (state % 256)) (4 + 2 * count) (word / 256)) (4 + 2 * count + 1) (word % 256)

-- the same, with state and binding given back two bytes at a time
abbrev pub put_back : List ℕ → ℕ → List ℕ → List ℕ → List ℕ
put_back slot count first second =
    put_mid (4 + 2 * count) (4 + 2 * count + 2 - (4 + 2 * count)) (put_mid 2 2 (set slot 1 (count + 1)) first) second

module _ (slot : List ℕ) (count state word : ℕ) (size : length slot ≡ slot_bytes) (e : count ≡ count_in slot)
    (h : count < most_bindings) where
  length-stored : length (stored slot count state word) ≡ slot_bytes
  length-stored = simp length-set size

  count-stored : count_in (stored slot count state word) ≡ count + 1
  count-stored =
      let one : List ℕ = set slot 1 (count + 1) in
      let two : List ℕ = set one 2 (state / 256) in
      let three : List ℕ = set two 3 (state % 256) in
      let four : List ℕ = set three (4 + 2 * count) (word / 256) in
      let a : get_or one 0 0 ≡ get_or slot 0 0 = get_or-set_other slot 1 0 (count + 1) 0 (omega arith) in
      let b : get_or one 1 0 ≡ count + 1 = get_or-set_same slot 1 (count + 1) 0 (omega arith) in
      number-set-other four 0 (word % 256) (4 + 2 * count + 1) (omega arith) (omega arith)
      ∙ number-set-other three 0 (word / 256) (4 + 2 * count) (omega arith) (omega arith)
      ∙ number-set-other two 0 (state % 256) 3 (omega arith) (omega arith)
      ∙ number-set-other one 0 (state / 256) 2 (omega arith) (omega arith)
      ∙ number-2 one 0
      ∙ omega (arith, number-2 slot 0)

  state-stored : state_in (stored slot count state word) ≡ state
  state-stored =
      let one : List ℕ = set slot 1 (count + 1) in
      let three : List ℕ = set (set one 2 (state / 256)) 3 (state % 256) in
      let four : List ℕ = set three (4 + 2 * count) (word / 256) in
      number-set-other four 2 (word % 256) (4 + 2 * count + 1) (omega arith) (omega arith)
      ∙ number-set-other three 2 (word / 256) (4 + 2 * count) (omega arith) (omega arith)
      ∙ number-set one 2 state (simp length-set (omega arith))

  bindings-stored : bindings_in (stored slot count state word) (suc count) ≡ binding_of word ∷ bindings_in slot count
  unfolding bindings_in
  bindings-stored =
      let one : List ℕ = set slot 1 (count + 1) in
      let two : List ℕ = set one 2 (state / 256) in
      let three : List ℕ = set two 3 (state % 256) in
      let four : List ℕ = set three (4 + 2 * count) (word / 256) in
      let w : number (stored slot count state word) (4 + 2 * count) 2 ≡ word = number-set three (4 + 2 * count) word (simp length-set (omega arith)) in
      let b : bindings_in (stored slot count state word) count ≡ bindings_in slot count =
      bindings_in-same (stored slot count state word) slot count
      (λ k y z.
      get_or-set_other four (4 + 2 * count + 1) k (word % 256) 0 (omega arith)
      ∙ get_or-set_other three (4 + 2 * count) k (word / 256) 0 (omega arith)
      ∙ get_or-set_other two 3 k (state % 256) 0 (omega arith)
      ∙ get_or-set_other one 2 k (state / 256) 0 (omega arith)
      ∙ get_or-set_other slot 1 k (count + 1) 0 (omega arith)) in
      λ i. binding_of (w i) ∷ b i

  held-stored :
      held_in (stored slot count state word)
      ≡ record { state = state; bindings = binding_of word ∷ bindings_in slot (count_in slot) }
  unfolding held_in
  held-stored =
      let n : count_in (stored slot count state word) ≡ suc count = count-stored ∙ add-one count in
      let b : bindings_in (stored slot count state word) (count_in (stored slot count state word)) ≡ binding_of word ∷ bindings_in slot (count_in slot) =
      ap (λ (k : ℕ). bindings_in (stored slot count state word) k) n
      ∙ bindings-stored
      ∙ ap (λ (k : ℕ). binding_of word ∷ bindings_in slot k) e in
      λ i. record { state = state-stored i; bindings = b i }

-- two bytes lent and given back, as two bytes stored
pair-put :
    (l bytes : List ℕ) (at n x : ℕ) → at + 2 ≤ length l → n ≡ 2 → x < 65536 → bytes ≡ to_be_bytes w16 x
    → put_mid at n l bytes ≡ set (set l at (x / 256)) (at + 1) (x % 256)
pair-put l bytes at n x h two small e =
    let pair : List ℕ = (x / 256) ∷ (x % 256) ∷ [] in
    let high : x / 256 % 256 ≡ x / 256 = omega arith in
    let is : bytes ≡ pair = e ∙ ap (λ (y : ℕ). y ∷ (x % 256) ∷ []) high in
    let m : n ≡ at + 2 - at = omega arith in
    let none : at + 2 + 0 ≡ at + 2 = omega arith in
    ap₂ (λ (k : ℕ) (b : List ℕ). put_mid at k l b) m is
    ∙ put_written at (at + 2) l pair refl
    ∙ sym (put-head at (at + 2) (x / 256) (x % 256) l [] none h)
    ∙ put-none (at + 2) (at + 2 - (at + 2)) (set (set l at (x / 256)) (at + 1) (x % 256)) (omega arith)
  where
    put-none : (k n : ℕ) (l : List ℕ) → n ≡ 0 → put_mid k n l [] ≡ l
    put-none k n l e = ap (λ (m : ℕ). put_mid k m l []) e ∙ take-append-drop k l

-- the slot as it is stored, with variable v bound to record i
pub held_grown :
    (slot first second : List ℕ) (i v count state : ℕ) → length slot ≡ slot_bytes → count ≡ count_in slot → count < most_bindings
    → i < most_records
    → v < most_variables
    → state ≡ bit_or (state_in slot) (2 ^ v)
    → state < 65536
    → first ≡ to_be_bytes w16 state
    → second ≡ to_be_bytes w16 (v * 4096 + i)
    → (held_in (put_back slot count first second) ≡ grow i v (held_in slot))
    × (length (put_back slot count first second) ≡ slot_bytes)
    × (count_in (put_back slot count first second) ≡ count_in slot + 1)
unfolding grow held_in
held_grown slot first second i v count state size e h r small s fits p q =
    let word : ℕ = v * 4096 + i in
    let a : word / 2 ^ 12 ≡ v = omega arith in
    let b : word % 2 ^ 12 ≡ i = omega arith in
    let one : List ℕ = set slot 1 (count + 1) in
    let three : List ℕ = set (set one 2 (state / 256)) 3 (state % 256) in
    let same : put_back slot count first second ≡ stored slot count state word =
    ap (λ (l : List ℕ). put_mid (4 + 2 * count) (4 + 2 * count + 2 - (4 + 2 * count)) l second) (pair-put one first 2 2 state (simp length-set (omega arith)) refl fits p)
    ∙ pair-put three second (4 + 2 * count) _ word (simp length-set (omega arith)) (omega arith) (omega arith) q in
    rw same (
      held-stored slot count state word size e h
          ∙ (λ j. record { state = s j; bindings = record { variable = a j; at = b j } ∷ bindings_in slot (count_in slot) }),
      length-stored slot count state word size e h,
      count-stored slot count state word size e h ∙ ap (λ (k : ℕ). k + 1) e,
    )
