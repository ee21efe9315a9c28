-- A text line by line and by its parts: each form gives the other. Assumes nothing.
use mathlib.Core.Path.{◌≡◌, refl, sym, ap, ◌∙◌, subst}
use mathlib.Core.Logic.{⊎_elim}
use mathlib.Core.List.{List, [], ◌∷◌, ◌++◌, map, flat_map, append_assoc, append-nil}
use mathlib.Core.List.Memᴰ
use mathlib.Core.List.{Memᴰ}
use Prim.Native.Nat.{ℕ, ◌≤◌}
use native.Mathlib.Omega.{arith}
use lib.ListN.{length, length-append}
use Rattle.form.specs.Form.{Member, When, Making, set_line, when_line, within_line, text_of, names_of, names}
use Rattle.form.specs.Form.{IsLetter, Once, WhenInOrder, InOrder}
use Rattle.form.specs.Items.{Item, set_item, when_item, within_item, item_line, items_of}
use Rattle.form.specs.Items.{sets_in, whens_in, duration_in}
use Rattle.form.specs.Items.{in_sets, in_whens, finished, State, start, Named, Next, after}
use Rattle.form.specs.Items.{Valid, end}

-- ## Lists of lists

module _ {A B : Type 0} where
  pub flat_append : (f : A → List B) (l m : List A) → flat_map f (l ++ m) ≡ flat_map f l ++ flat_map f m
  unfolding flat_map
  flat_append f [] m = refl
  flat_append f (x ∷ l) m =
      ap (λ (r : List B). f x ++ r) (flat_append f l m) ∙ sym (append_assoc (f x) (flat_map f l) (flat_map f m))

  pub flat-one : (f : A → List B) (x : A) → flat_map f (x ∷ []) ≡ f x
  unfolding flat_map
  flat-one f x = append-nil (f x)

module _ {A B C : Type 0} where
  pub flat-map : (f : B → List C) (g : A → B) (l : List A) → flat_map f (map g l) ≡ flat_map (λ x. f (g x)) l
  unfolding flat_map
  flat-map f g [] = refl
  flat-map f g (x ∷ l) = ap (λ (r : List C). f (g x) ++ r) (flat-map f g l)

pub names-append : (a b : List (List Member)) → names (a ++ b) ≡ names a ++ names b
unfolding names
names-append a b = flat_append names_of a b

pub names_more :
    (members : List Member) (sets : List (List Member)) → names (members ∷ sets) ≡ names_of members ++ names sets
unfolding names flat_map
names_more members sets = refl

-- ## The bytes

sets-lines : (l : List (List Member)) → flat_map set_line l ≡ flat_map item_line (map set_item l)
unfolding item_line
sets-lines l = sym (flat-map item_line set_item l)

whens-lines : (l : List When) → flat_map when_line l ≡ flat_map item_line (map when_item l)
unfolding item_line
whens-lines l = sym (flat-map item_line when_item l)

within-line : (n : ℕ) → within_line n ≡ flat_map item_line (within_item n ∷ [])
unfolding item_line
within-line n = sym (flat-one item_line (within_item n))

pub text-items : (m : Making) → text_of m ≡ flat_map item_line (items_of m)
unfolding text_of items_of
text-items m =
    let s = map set_item m.sets in
    let w = map when_item m.whens in
    let d : List Item = within_item m.duration ∷ [] in
    let p = sets-lines m.sets in
    let q = whens-lines m.whens in
    let r = within-line m.duration in
    let a = flat_append item_line s (w ++ d) in
    let b = flat_append item_line w d in
    cc

-- ## One line more

pub sets-append : (l m : List Item) → sets_in (l ++ m) ≡ sets_in l ++ sets_in m
unfolding sets_in
sets-append [] m = refl
sets-append (set_item s ∷ l) m = ap (λ (r : List (List Member)). s ∷ r) (sets-append l m)
sets-append (when_item w ∷ l) m = sets-append l m
sets-append (within_item n ∷ l) m = sets-append l m

pub whens-append : (l m : List Item) → whens_in (l ++ m) ≡ whens_in l ++ whens_in m
unfolding whens_in
whens-append [] m = refl
whens-append (set_item s ∷ l) m = whens-append l m
whens-append (when_item w ∷ l) m = ap (λ (r : List When). w ∷ r) (whens-append l m)
whens-append (within_item n ∷ l) m = whens-append l m

pub end-append : (s : State) (l m : List Item) → end s (l ++ m) ≡ end (end s l) m
unfolding end
end-append s [] m = refl
end-append s (i ∷ l) m = end-append (after s i) l m

pub valid-append : (s : State) (l m : List Item) → Valid s l → Valid (end s l) m → Valid s (l ++ m)
unfolding Valid end
valid-append s [] m v w = w
valid-append s (i ∷ l) m v w = (v.0, valid-append (after s i) l m v.1 w)

pub valid-front : (s : State) (l m : List Item) → Valid s (l ++ m) → Valid s l
unfolding Valid
valid-front s [] m v = tt
valid-front s (i ∷ l) m v = (v.0, valid-front (after s i) l m v.1)

pub valid-back : (s : State) (l m : List Item) → Valid s (l ++ m) → Valid (end s l) m
unfolding Valid end
valid-back s [] m v = v
valid-back s (i ∷ l) m v = valid-back (after s i) l m v.1

pub sets-snoc-set : (l : List Item) (s : List Member) → sets_in (l ++ (set_item s ∷ [])) ≡ sets_in l ++ (s ∷ [])
unfolding sets_in
sets-snoc-set l s = sets-append l (set_item s ∷ [])

pub sets-snoc-when : (l : List Item) (w : When) → sets_in (l ++ (when_item w ∷ [])) ≡ sets_in l
unfolding sets_in
sets-snoc-when l w = sets-append l (when_item w ∷ []) ∙ append-nil (sets_in l)

pub sets-snoc-within : (l : List Item) (n : ℕ) → sets_in (l ++ (within_item n ∷ [])) ≡ sets_in l
unfolding sets_in
sets-snoc-within l n = sets-append l (within_item n ∷ []) ∙ append-nil (sets_in l)

pub whens-snoc-set : (l : List Item) (s : List Member) → whens_in (l ++ (set_item s ∷ [])) ≡ whens_in l
unfolding whens_in
whens-snoc-set l s = whens-append l (set_item s ∷ []) ∙ append-nil (whens_in l)

pub whens-snoc-when : (l : List Item) (w : When) → whens_in (l ++ (when_item w ∷ [])) ≡ whens_in l ++ (w ∷ [])
unfolding whens_in
whens-snoc-when l w = whens-append l (when_item w ∷ [])

pub whens-snoc-within : (l : List Item) (n : ℕ) → whens_in (l ++ (within_item n ∷ [])) ≡ whens_in l
unfolding whens_in
whens-snoc-within l n = whens-append l (within_item n ∷ []) ∙ append-nil (whens_in l)

pub duration-snoc-set : (l : List Item) (s : List Member) → duration_in (l ++ (set_item s ∷ [])) ≡ duration_in l
unfolding duration_in
duration-snoc-set [] s = refl
duration-snoc-set (set_item t ∷ l) s = duration-snoc-set l s
duration-snoc-set (when_item w ∷ l) s = duration-snoc-set l s
duration-snoc-set (within_item n ∷ l) s = refl

pub duration-snoc-when : (l : List Item) (w : When) → duration_in (l ++ (when_item w ∷ [])) ≡ duration_in l
unfolding duration_in
duration-snoc-when [] w = refl
duration-snoc-when (set_item t ∷ l) w = duration-snoc-when l w
duration-snoc-when (when_item k ∷ l) w = duration-snoc-when l w
duration-snoc-when (within_item n ∷ l) w = refl

pub end_snoc : (s : State) (l : List Item) (i : Item) → end s (l ++ (i ∷ [])) ≡ after (end s l) i
unfolding end
end_snoc s l i = end-append s l (i ∷ [])

pub valid-snoc : (s : State) (l : List Item) (i : Item) → Valid s l → Next (end s l) i → Valid s (l ++ (i ∷ []))
unfolding Valid
valid-snoc s l i v n = valid-append s l (i ∷ []) v (n, tt)

-- nothing stands behind the within line
pub nothing-behind : (s : State) (l : List Item) → s.phase ≡ finished → Valid s l → l ≡ []
unfolding Valid Next
nothing-behind s [] p v = refl
nothing-behind s (set_item t ∷ l) p v = let h = v.0.phase in absurd (omega arith)
nothing-behind s (when_item w ∷ l) p v = let h = v.0.0.upto in absurd (omega arith)
nothing-behind s (within_item n ∷ l) p v = let h = v.0.upto in absurd (omega arith)

-- the within line is the last
within-last :
    (s : State) (n : ℕ) (l : List Item) → Valid (after s (within_item n)) l
    → (end (after s (within_item n)) l).phase ≡ finished
unfolding after end
within-last s n l v =
    let e = nothing-behind (after s (within_item n)) l refl v in
    subst (λ (l : List Item). (end (after s (within_item n)) l).phase ≡ finished) (sym e) refl

-- no duration stands before the within line
pub duration-none : (s : State) (l : List Item) → Valid s l → (end s l).phase ≤ in_whens → duration_in l ≡ 0
unfolding Valid end duration_in
duration-none s [] v h = refl
duration-none s (set_item t ∷ l) v h = duration-none (after s (set_item t)) l v.1 h
duration-none s (when_item w ∷ l) v h = duration-none (after s (when_item w)) l v.1 h
duration-none s (within_item n ∷ l) v h = absurd (omega (arith, within-last s n l v.1))

pub duration-snoc-within :
    (s : State) (l : List Item) (n : ℕ) → Valid s l → (end s l).phase ≤ in_whens
    → duration_in (l ++ (within_item n ∷ [])) ≡ n
unfolding Valid end duration_in
duration-snoc-within s [] n v h = refl
duration-snoc-within s (set_item t ∷ l) n v h = duration-snoc-within (after s (set_item t)) l n v.1 h
duration-snoc-within s (when_item w ∷ l) n v h = duration-snoc-within (after s (when_item w)) l n v.1 h
duration-snoc-within s (within_item k ∷ l) n v h = absurd (omega (arith, within-last s k l v.1))

-- ## Names

pub known_more : (s : State) (l : List Item) → (end s l).known ≡ s.known ++ names (sets_in l)
unfolding end after sets_in names flat_map
known_more s [] = sym (append-nil s.known)
known_more s (set_item t ∷ l) =
    known_more (after s (set_item t)) l ∙ append_assoc s.known (names_of t) (names (sets_in l))
known_more s (when_item w ∷ l) = known_more (after s (when_item w)) l
known_more s (within_item n ∷ l) = known_more (after s (within_item n)) l

pub known-names : (l : List Item) → (end start l).known ≡ names (sets_in l)
known-names l = known_more start l

not-empty-long : (t : List Member) → ¬ (t ≡ []) → 1 ≤ length (names_of t)
not-empty-long [] n = absurd (n refl)
not-empty-long (x ∷ t) n = omega arith

sets-few-from : (s : State) (l : List Item) → Valid s l → length (sets_in l) ≤ length (names (sets_in l))
unfolding Valid Next sets_in names flat_map
sets-few-from s [] v = omega arith
sets-few-from s (set_item t ∷ l) v =
    let r = sets-few-from (after s (set_item t)) l v.1 in
    let k = not-empty-long t v.0.some in
    let a = length-append (names_of t) (names (sets_in l)) in
    omega arith
sets-few-from s (when_item w ∷ l) v = sets-few-from (after s (when_item w)) l v.1
sets-few-from s (within_item n ∷ l) v = sets-few-from (after s (within_item n)) l v.1

-- each set has a name, so there are no more sets than names
pub sets-few : (l : List Item) → Valid start l → length (sets_in l) ≤ length (names (sets_in l))
sets-few l v = sets-few-from start l v

-- ## The parts of the lines of a text

sets-of-sets : (l : List (List Member)) → sets_in (map set_item l) ≡ l
unfolding sets_in
sets-of-sets [] = refl
sets-of-sets (s ∷ l) = ap (λ (r : List (List Member)). s ∷ r) (sets-of-sets l)

sets-of-whens : (l : List When) (n : ℕ) → sets_in (map when_item l ++ (within_item n ∷ [])) ≡ []
unfolding sets_in
sets-of-whens [] n = refl
sets-of-whens (w ∷ l) n = sets-of-whens l n

whens-of-sets : (l : List (List Member)) → whens_in (map set_item l) ≡ []
unfolding whens_in
whens-of-sets [] = refl
whens-of-sets (s ∷ l) = whens-of-sets l

whens-of-whens : (l : List When) (n : ℕ) → whens_in (map when_item l ++ (within_item n ∷ [])) ≡ l
unfolding whens_in
whens-of-whens [] n = refl
whens-of-whens (w ∷ l) n = ap (λ (r : List When). w ∷ r) (whens-of-whens l n)

duration-of-sets : (l : List (List Member)) (m : List Item) → duration_in (map set_item l ++ m) ≡ duration_in m
unfolding duration_in
duration-of-sets [] m = refl
duration-of-sets (s ∷ l) m = duration-of-sets l m

duration-of-whens : (l : List When) (n : ℕ) → duration_in (map when_item l ++ (within_item n ∷ [])) ≡ n
unfolding duration_in
duration-of-whens [] n = refl
duration-of-whens (w ∷ l) n = duration-of-whens l n

pub sets-items : (m : Making) → sets_in (items_of m) ≡ m.sets
unfolding items_of
sets-items m =
    let back = map when_item m.whens ++ (within_item m.duration ∷ []) in
    sets-append (map set_item m.sets) back
    ∙ ap (λ (r : List (List Member)). sets_in (map set_item m.sets) ++ r) (sets-of-whens m.whens m.duration)
    ∙ append-nil (sets_in (map set_item m.sets))
    ∙ sets-of-sets m.sets

pub whens-items : (m : Making) → whens_in (items_of m) ≡ m.whens
unfolding items_of
whens-items m =
    let back = map when_item m.whens ++ (within_item m.duration ∷ []) in
    whens-append (map set_item m.sets) back
    ∙ ap (λ (r : List When). r ++ whens_in back) (whens-of-sets m.sets)
    ∙ whens-of-whens m.whens m.duration

pub duration-items : (m : Making) → duration_in (items_of m) ≡ m.duration
unfolding items_of
duration-items m =
    duration-of-sets m.sets (map when_item m.whens ++ (within_item m.duration ∷ []))
    ∙ duration-of-whens m.whens m.duration

-- ## The lines of a text in order

pub once-front : (a b : List ℕ) → Once (a ++ b) → Once a
unfolding Once
once-front [] b o = tt
once-front (x ∷ a) b o = (λ m. o.0 (Memᴰ.append_left b m), once-front a b o.1)

names-front :
    (t : List Member) (l : List (List Member)) {x : ℕ} → Memᴰ x (names_of t) → Memᴰ x (names (t ∷ l))
unfolding names flat_map
names-front t l m = Memᴰ.append_left (names l) m

names-back : (t : List Member) (l : List (List Member)) {x : ℕ} → Memᴰ x (names l) → Memᴰ x (names (t ∷ l))
unfolding names flat_map
names-back t l m = Memᴰ.append_right (names_of t) m

sets-valid :
    (s : State) (l : List (List Member)) → s.phase ≤ in_sets → ((t : List Member) → Memᴰ t l → ¬ (t ≡ []))
    → ((x : ℕ) → Memᴰ x (names l) → IsLetter x)
    → Once (s.known ++ names l)
    → Valid s (map set_item l)
unfolding Valid Next after
sets-valid s [] p f g o = tt
sets-valid s (t ∷ l) p f g o =
    let e : s.known ++ names (t ∷ l) ≡ (s.known ++ names_of t) ++ names l =
    rw names_more (sym (append_assoc s.known (names_of t) (names l))) in
    let o' : Once ((s.known ++ names_of t) ++ names l) = rw e at o in
    let r = sets-valid (after s (set_item t)) l in (
      record {
        phase = p;
        some = f t (Memᴰ.head refl);
        small = λ x m. g x (names-front t l m);
        once = once-front (s.known ++ names_of t) (names l) o';
      },
      r (omega arith) (λ u m. f u (Memᴰ.tail m)) (λ x m. g x (names-back t l m)) o',
    )

whens-valid :
    (s : State) (l : List When) (n : ℕ) → Named s → ((w : When) → Memᴰ w l → WhenInOrder s.known w)
    → Valid s (map when_item l ++ (within_item n ∷ []))
unfolding Valid Next after
whens-valid s [] n p f = (p, tt)
whens-valid s (w ∷ l) n p f =
    let r = whens-valid (after s (when_item w)) l n (record { from = omega arith; upto = omega arith }) in
    ((p, f w (Memᴰ.head refl)), r (λ k m. f k (Memᴰ.tail m)))

sets-named : (s : State) (l : List (List Member)) → ¬ (l ≡ []) → (end s (map set_item l)).phase ≡ in_sets
unfolding end after
sets-named s [] h = absurd (h refl)
sets-named s (t ∷ []) h = refl
sets-named s (t ∷ u ∷ l) h =
    sets-named (after s (set_item t)) (u ∷ l) (λ e. let z : ◌≡◌ {A = ℕ} 0 1 = cc in omega arith)

pub items-valid : (m : Making) → InOrder m → Valid start (items_of m)
unfolding items_of
items-valid m o =
    let s = map set_item m.sets in
    let p = sets-named start m.sets o.some in
    let k : (end start s).known ≡ names m.sets =
    known-names s ∙ ap (λ (l : List (List Member)). names l) (sets-of-sets m.sets) in
    valid-append start s (map when_item m.whens ++ (within_item m.duration ∷ []))
    (sets-valid start m.sets (omega arith) o.none_empty o.small o.once)
    (whens-valid (end start s) m.whens m.duration (record { from = omega arith; upto = omega arith })
    (λ w h. subst (λ (l : List ℕ). WhenInOrder l w) (sym k) (o.conditions w h)))

finished-items : (l : List Item) (n : ℕ) (s : State) → (end s (l ++ (within_item n ∷ []))).phase ≡ finished
unfolding end after
finished-items [] n s = refl
finished-items (i ∷ l) n s = finished-items l n (after s i)

pub items-finished : (m : Making) → (end start (items_of m)).phase ≡ finished
unfolding items_of
items-finished m =
    let s = map set_item m.sets in
    let w = map when_item m.whens in
    let e = append_assoc s w (within_item m.duration ∷ []) in
    subst (λ (l : List Item). (end start l).phase ≡ finished) e (finished-items (s ++ w) m.duration start)

-- ## The text of lines in order

-- no set line stands behind a when line
no-sets : (s : State) (l : List Item) → in_whens ≤ s.phase → Valid s l → sets_in l ≡ []
unfolding Valid Next after sets_in
no-sets s [] p v = refl
no-sets s (set_item t ∷ l) p v = let h = v.0.phase in absurd (omega arith)
no-sets s (when_item w ∷ l) p v = no-sets (after s (when_item w)) l (omega arith) v.1
no-sets s (within_item n ∷ l) p v = no-sets (after s (within_item n)) l (omega arith) v.1

-- a making of any lines
abbrev pub making_in : List Item → Making
making_in l = record { sets = sets_in l; whens = whens_in l; duration = duration_in l }

whens-shape :
    (s : State) (l : List Item) → s.phase ≡ in_whens → Valid s l → (end s l).phase ≡ finished
    → map when_item (whens_in l) ++ (within_item (duration_in l) ∷ []) ≡ l
unfolding Valid Next end after whens_in duration_in
whens-shape s [] p v f = absurd (omega arith)
whens-shape s (set_item t ∷ l) p v f = let h = v.0.phase in absurd (omega arith)
whens-shape s (when_item w ∷ l) p v f =
    ap (λ (r : List Item). when_item w ∷ r) (whens-shape (after s (when_item w)) l refl v.1 f)
whens-shape s (within_item n ∷ l) p v f =
    let e = nothing-behind (after s (within_item n)) l refl v.1 in
    ap (λ (r : List Item). map when_item (whens_in r) ++ (within_item n ∷ [])) e
    ∙ ap (λ (r : List Item). within_item n ∷ r) (sym e)

items-shape :
    (s : State) (l : List Item) → s.phase ≤ in_sets → Valid s l → (end s l).phase ≡ finished → items_of (making_in l) ≡ l
unfolding Valid Next end after sets_in whens_in duration_in items_of
items-shape s [] p v f = absurd (omega arith)
items-shape s (set_item t ∷ l) p v f =
    ap (λ (r : List Item). set_item t ∷ r) (items-shape (after s (set_item t)) l (omega arith) v.1 f)
items-shape s (when_item w ∷ l) p v f =
    let e = no-sets (after s (when_item w)) l (omega arith) v.1 in
    let whens = map when_item (whens_in l) ++ (within_item (duration_in l) ∷ []) in
    ap (λ (r : List (List Member)). map set_item r ++ (when_item w ∷ whens)) e
    ∙ ap (λ (r : List Item). when_item w ∷ r) (whens-shape (after s (when_item w)) l refl v.1 f)
items-shape s (within_item n ∷ l) p v f =
    let e = nothing-behind (after s (within_item n)) l refl v.1 in
    ap (λ (r : List Item). map set_item (sets_in r) ++ (map when_item (whens_in r) ++ (within_item n ∷ []))) e
    ∙ ap (λ (r : List Item). within_item n ∷ r) (sym e)

sets-some : (l : List Item) → Valid start l → ¬ (l ≡ []) → ¬ (sets_in l ≡ [])
unfolding Valid Next sets_in
sets-some [] v n = absurd (n refl)
sets-some (set_item t ∷ l) v n = λ e. let z : ◌≡◌ {A = ℕ} 0 1 = cc in omega arith
sets-some (when_item w ∷ l) v n = let h = v.0.0.from in absurd (omega arith)
sets-some (within_item d ∷ l) v n = let h = v.0.from in absurd (omega arith)

sets-none-empty :
    (s : State) (l : List Item) → Valid s l → (t : List Member) → Memᴰ t (sets_in l) → ¬ (t ≡ [])
unfolding Valid Next sets_in
sets-none-empty s [] v t m = absurd (Memᴰ.not-nil m)
sets-none-empty s (set_item u ∷ l) v t m =
    let r = sets-none-empty (after s (set_item u)) l v.1 t in
    ⊎_elim (λ e. λ k. v.0.some (sym e ∙ k)) r (Memᴰ.cases_cons m)
sets-none-empty s (when_item w ∷ l) v t m = sets-none-empty (after s (when_item w)) l v.1 t m
sets-none-empty s (within_item n ∷ l) v t m = sets-none-empty (after s (within_item n)) l v.1 t m

sets-small :
    (s : State) (l : List Item) → Valid s l → (x : ℕ) → Memᴰ x (names (sets_in l)) → IsLetter x
unfolding Valid Next sets_in names flat_map
sets-small s [] v x m = absurd (Memᴰ.not-nil m)
sets-small s (set_item u ∷ l) v x m =
    let r = sets-small (after s (set_item u)) l v.1 x in
    ⊎_elim (v.0.small x) r (Memᴰ.append_cases (names_of u) m)
sets-small s (when_item w ∷ l) v x m = sets-small (after s (when_item w)) l v.1 x m
sets-small s (within_item n ∷ l) v x m = sets-small (after s (within_item n)) l v.1 x m

sets-once : (s : State) (l : List Item) → Once s.known → Valid s l → Once (s.known ++ names (sets_in l))
unfolding Valid Next after sets_in names flat_map
sets-once s [] o v = rw append-nil o
sets-once s (set_item u ∷ l) o v =
    let r = sets-once (after s (set_item u)) l v.0.once v.1 in
    rw (append_assoc s.known (names_of u) (names (sets_in l))) at r
sets-once s (when_item w ∷ l) o v = sets-once (after s (when_item w)) l o v.1
sets-once s (within_item n ∷ l) o v = sets-once (after s (within_item n)) l o v.1

whens-in-order :
    (s : State) (l : List Item) → Valid s l → (w : When) → Memᴰ w (whens_in l)
    → WhenInOrder (s.known ++ names (sets_in l)) w
unfolding Valid Next after sets_in whens_in names flat_map
whens-in-order s [] v w m = absurd (Memᴰ.not-nil m)
whens-in-order s (set_item u ∷ l) v w m =
    let r = whens-in-order (after s (set_item u)) l v.1 w m in
    rw (append_assoc s.known (names_of u) (names (sets_in l))) at r
whens-in-order s (when_item k ∷ l) v w m =
    let e = no-sets (after s (when_item k)) l (omega arith) v.1 in
    let r = whens-in-order (after s (when_item k)) l v.1 w in
    ⊎_elim
    (λ q.
    subst (λ (t : List (List Member)). WhenInOrder (s.known ++ names t) w) (sym e)
    (rw (append-nil s.known) (subst (λ (w : When). WhenInOrder s.known w) (sym q) v.0.1)))
    r (Memᴰ.cases_cons m)
whens-in-order s (within_item n ∷ l) v w m = whens-in-order (after s (within_item n)) l v.1 w m

-- lines in order up to a within line are those of a making in order
pub making-in :
    (l : List Item) → Valid start l → (end start l).phase ≡ finished → InOrder (making_in l) × (items_of (making_in l) ≡ l)
making-in l v f =
    let n : ¬ (l ≡ []) = λ e. let k = subst (λ (l : List Item). (end start l).phase ≡ finished) e f in never k in (
      record {
        some = sets-some l v n;
        none_empty = sets-none-empty start l v;
        small = sets-small start l v;
        once = sets-once start l (unfold Once in tt) v;
        conditions = whens-in-order start l v;
      },
      items-shape start l (omega arith) v f,
    )
  where
    never : (end start []).phase ≡ finished → ⊥
    never k = unfold end in omega arith

pub making-of :
    (l : List Item) → Valid start l → (end start l).phase ≡ finished → (m : Making) × InOrder m × (items_of m ≡ l)
making-of l v f = let r = making-in l v f in (making_in l, r.0, r.1)
