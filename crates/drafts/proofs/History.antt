-- What lines that follow each other leave behind: no condition before the last set line, and names that are letters,
-- each once. Assumes nothing.
use mathlib.Core.Path.{◌≡◌, refl, subst}
use mathlib.Core.Logic.{⊎_elim}
use mathlib.Core.List.Memᴰ
use mathlib.Core.List.{List, [], ◌∷◌, Memᴰ}
use Prim.Native.Nat.{ℕ, ◌≤◌}
use native.Mathlib.Omega.{arith}
use Rattle.form.specs.Form.{names, IsLetter, Once}
use Rattle.form.specs.Items.{Item, set_item, when_item, within_item, State, start, in_sets, sets_in, whens_in}
use Rattle.form.specs.Items.{Next, after, Valid, end}
use Rattle.form.proofs.Making.{known-names}

phase-grows : (s : State) (l : List Item) → Valid s l → s.phase ≤ (end s l).phase
unfolding Valid Next after end
phase-grows s [] v = omega arith
phase-grows s (set_item t ∷ l) v = let h = phase-grows (after s (set_item t)) l v.1 in let k = v.0.phase in omega arith
phase-grows s (when_item w ∷ l) v = let h = phase-grows (after s (when_item w)) l v.1 in let k = v.0.0.upto in omega arith
phase-grows s (within_item n ∷ l) v = let h = phase-grows (after s (within_item n)) l v.1 in let k = v.0.upto in omega arith

no-whens : (s : State) (l : List Item) → Valid s l → (end s l).phase ≤ in_sets → whens_in l ≡ []
unfolding Valid Next after end whens_in
no-whens s [] v h = refl
no-whens s (set_item t ∷ l) v h = no-whens (after s (set_item t)) l v.1 h
no-whens s (when_item w ∷ l) v h = let k = phase-grows (after s (when_item w)) l v.1 in absurd (omega arith)
no-whens s (within_item n ∷ l) v h = let k = phase-grows (after s (within_item n)) l v.1 in absurd (omega arith)

pub whens-none : (l : List Item) → Valid start l → (end start l).phase ≤ in_sets → whens_in l ≡ []
whens-none l v h = no-whens start l v h

once-from : (s : State) (l : List Item) → Once s.known → Valid s l → Once (end s l).known
unfolding Valid Next after end
once-from s [] o v = o
once-from s (set_item t ∷ l) o v = once-from (after s (set_item t)) l v.0.once v.1
once-from s (when_item w ∷ l) o v = once-from (after s (when_item w)) l o v.1
once-from s (within_item n ∷ l) o v = once-from (after s (within_item n)) l o v.1

pub known-once : (l : List Item) → Valid start l → Once (names (sets_in l))
unfolding Once
known-once l v = subst Once (known-names l) (once-from start l tt v)

letters-from :
    (s : State) (l : List Item) → ((x : ℕ) → Memᴰ x s.known → IsLetter x) → Valid s l
    → (x : ℕ) → Memᴰ x (end s l).known → IsLetter x
unfolding Valid Next after end
letters-from s [] o v = o
letters-from s (set_item t ∷ l) o v =
    letters-from (after s (set_item t)) l
    (λ x m. ⊎_elim (λ a. o x a) (λ b. v.0.small x b) (Memᴰ.append_cases s.known m))
    v.1
letters-from s (when_item w ∷ l) o v = letters-from (after s (when_item w)) l o v.1
letters-from s (within_item n ∷ l) o v = letters-from (after s (within_item n)) l o v.1

pub known-letters : (l : List Item) → Valid start l → (x : ℕ) → Memᴰ x (names (sets_in l)) → IsLetter x
known-letters l v x m =
    letters-from start l (λ y n. absurd (Memᴰ.not-nil n)) v x (rw (known-names l) m)
