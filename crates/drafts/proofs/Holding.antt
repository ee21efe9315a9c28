-- What a draft tells after a set line, a name, a condition and a duration more. Assumes nothing.
use mathlib.Core.Path.{◌≡◌, ◌∙◌, refl, sym, ap, subst}
use mathlib.Core.Bool.{Bool}
use mathlib.Core.List.{List, [], ◌∷◌, ◌++◌, map, flat_map, append_assoc, append-nil, map-append, Memᴰ}
use Prim.Native.Nat.{ℕ, suc, ◌+◌, ◌-◌, ◌*◌, ◌≤◌, ◌<◌, min}
use native.Mathlib.Omega.{arith}
use borrow.Author.Tests.{eqb-true, eqb-false}
use lib.Dec.{eqb}
use lib.ListN.{length, get_or, take, set, length-append, length-set}
use lib.Seq.{get_or-set_same, get_or-set_other, take-suc-set}
use Rattle.numbers.specs.Numbers.{one_if}
use Rattle.numbers.proofs.Cases.{by-test}
use Rattle.patterns.specs.Patterns.{most_variables}
use Rattle.form.specs.Form.{Member, When, first_letter, names_of, names, IsLetter}
use Rattle.form.specs.Packed.{member_byte, member_bytes, when_bits}
use Rattle.form.proofs.Making.{names-append}
use Rattle.drafts.specs.declared.Draft.{Draft}
use Rattle.drafts.specs.Drafts.{many_variables, places_of, Small, Holds}
use Rattle.drafts.specs.Steps.{with_set, with_member, with_condition, with_duration}
use Rattle.drafts.proofs.Places.{places-more}

-- ## Lists with one thing more

length-snoc : {A : Type 0} (l : List A) (x : A) → length (l ++ (x ∷ [])) ≡ suc (length l)
length-snoc l x = omega (arith, length-append l (x ∷ []))

pub names-last : (sets : List (List Member)) (s : List Member) → names (sets ++ (s ∷ [])) ≡ names sets ++ names_of s
unfolding names flat_map
names-last sets s =
    names-append sets (s ∷ []) ∙ ap (λ (l : List ℕ). names sets ++ l) (append-nil (names_of s))

pub names-member :
    (sets : List (List Member)) (s : List Member) (m : Member)
    → names (sets ++ ((s ++ (m ∷ [])) ∷ [])) ≡ names (sets ++ (s ∷ [])) ++ (m.name ∷ [])
names-member sets s m =
    names-last sets (s ++ (m ∷ []))
    ∙ ap (λ (l : List ℕ). names sets ++ l) (map-append (λ (m : Member). m.name) s (m ∷ []))
    ∙ sym (append_assoc (names sets) (names_of s) (m.name ∷ []))
    ∙ ap (λ (l : List ℕ). l ++ (m.name ∷ [])) (sym (names-last sets s))

bytes-last :
    (k : ℕ) (sets : List (List Member)) (s : List Member)
    → member_bytes k (sets ++ (s ∷ [])) ≡ member_bytes k sets ++ map (member_byte (k + length sets)) s
unfolding member_bytes
bytes-last k [] s =
    let e : k ≡ k + 0 = omega arith in
    append-nil (map (member_byte k) s) ∙ ap (λ (j : ℕ). map (member_byte j) s) e
bytes-last k (t ∷ sets) s =
    let e : suc k + length sets ≡ k + suc (length sets) = omega arith in
    ap (λ (l : List ℕ). map (member_byte k) t ++ l) (bytes-last (suc k) sets s ∙ ap (λ (j : ℕ). member_bytes (suc k) sets ++ map (member_byte j) s) e)
    ∙ sym (append_assoc (map (member_byte k) t) (member_bytes (suc k) sets) (map (member_byte (k + suc (length sets))) s))

bytes-member :
    (sets : List (List Member)) (s : List Member) (m : Member)
    → member_bytes 1 (sets ++ ((s ++ (m ∷ [])) ∷ []))
    ≡ member_bytes 1 (sets ++ (s ∷ [])) ++ (member_byte (1 + length sets) m ∷ [])
bytes-member sets s m =
    let f = member_byte (1 + length sets) in
    bytes-last 1 sets (s ++ (m ∷ []))
    ∙ ap (λ (l : List ℕ). member_bytes 1 sets ++ l) (map-append f s (m ∷ []))
    ∙ sym (append_assoc (member_bytes 1 sets) (map f s) (f m ∷ []))
    ∙ ap (λ (l : List ℕ). l ++ (f m ∷ [])) (sym (bytes-last 1 sets s))

-- ## A set line more

pub holds-set : (sets : List (List Member)) (d : Draft) → Holds sets [] d → Holds (sets ++ ([] ∷ [])) [] (with_set d)
holds-set sets d h =
    let e : names (sets ++ ([] ∷ [])) ≡ names sets = names-last sets [] ∙ append-nil (names sets) in
    let b : member_bytes 1 (sets ++ ([] ∷ [])) ≡ member_bytes 1 sets = bytes-last 1 sets [] ∙ append-nil (member_bytes 1 sets) in
    record {
      n = rw e h.n;
      set = omega (arith, h.set, length-snoc sets []);
      c = h.c;
      places = rw e h.places;
      variables = rw (e, b) h.variables;
      conditions = λ f g. refl;
    }

pub small-set : (d : Draft) → Small d → Small (with_set d)
small-set d s =
    record {
      n = s.n;
      set = omega arith;
      c = s.c;
      places = s.places;
      letters = s.letters;
      variables = s.variables;
      conditions = s.conditions;
    }

-- ## A name more

pub small-member : (d : Draft) (name : ℕ) (group : Bool) → IsLetter name → Small d → Small (with_member d name group)
small-member d name group l s =
    let i = name - first_letter in
    let v = min (d.n + 1) many_variables in
    record {
      n = omega arith;
      set = s.set;
      c = s.c;
      places = λ k.
          by-test (eqb k i)
          (λ e. let q = eqb-true k i e in let w = get_or-set_same d.places i v 0 (omega (arith, s.letters)) in subst (λ (j : ℕ). get_or (set d.places i v) j 0 ≤ many_variables) (sym q) (omega arith))
          (λ e. let w = get_or-set_other d.places i k v 0 (eqb-false k i e) in omega (arith, s.places k));
      letters = length-set d.places i v ∙ s.letters;
      variables = length-set d.variables d.n (d.set * 16 + one_if group * 8) ∙ s.variables;
      conditions = s.conditions;
    }

module _ (sets : List (List Member)) (s : List Member) (m : Member) (d : Draft) where
  pub holds-member :
      Small d → length sets ≤ length (names sets) → IsLetter m.name
      → ¬ Memᴰ m.name (names (sets ++ (s ∷ [])))
      → Holds (sets ++ (s ∷ [])) [] d
      → Holds (sets ++ ((s ++ (m ∷ [])) ∷ [])) [] (with_member d m.name m.group)
  unfolding member_byte
  holds-member small few letter out h =
      let old = names (sets ++ (s ∷ [])) in
      let e = names-member sets s m in
      let more : length (names (sets ++ ((s ++ (m ∷ [])) ∷ []))) ≡ suc (length old) = ap length e ∙ length-snoc old m.name in
      let v = min (d.n + 1) many_variables in
      let w : v ≡ min (suc (length old)) many_variables = omega (arith, h.n) in
      record {
        n = omega (arith, h.n);
        set = omega (arith, h.set, length-snoc sets s, length-snoc sets (s ++ (m ∷ [])));
        c = h.c;
        places =
            ap (λ (p : List ℕ). set p (m.name - first_letter) v) h.places
            ∙ ap (set (places_of old) (m.name - first_letter)) w
            ∙ places-more old m.name letter out
            ∙ ap places_of (sym e);
        variables = λ g.
            let a : d.n ≡ length old = omega (arith, h.n) in
            let l : length old < length d.variables = omega (arith, small.variables) in
            let first : length (names sets) ≤ length old = omega (arith, ap length (names-last sets s), length-append (names sets) (names_of s)) in
            let x : d.set * 16 + one_if m.group * 8 ≡ member_byte (1 + length sets) m =
            let q : d.set ≡ 1 + length sets = omega (arith, h.set, length-snoc sets s) in
            ap (λ (t : ℕ). t * 16 + one_if m.group * 8) q in
            ap (λ (t : ℕ). take t (set d.variables d.n (d.set * 16 + one_if m.group * 8))) more
            ∙ ap (λ (t : ℕ). take (suc (length old)) (set d.variables t (d.set * 16 + one_if m.group * 8))) a
            ∙ take-suc-set d.variables (length old) (d.set * 16 + one_if m.group * 8) l
            ∙ ap (λ (t : List ℕ). t ++ ((d.set * 16 + one_if m.group * 8) ∷ [])) (h.variables (omega arith))
            ∙ ap (λ (t : ℕ). member_bytes 1 (sets ++ (s ∷ [])) ++ (t ∷ [])) x
            ∙ sym (bytes-member sets s m);
        conditions = λ f g. refl;
      }

-- ## A condition more

pub holds-condition :
    (sets : List (List Member)) (whens : List When) (w : When) (d : Draft) (word : ℕ)
    → Small d → Holds sets whens d → (length (names sets) ≤ most_variables → word ≡ when_bits (names sets) w)
    → Holds sets (whens ++ (w ∷ [])) (with_condition d word)
holds-condition sets whens w d word small h e =
    let more = length-snoc whens w in
    let f = when_bits (names sets) in
    record {
      n = h.n;
      set = h.set;
      c = omega (arith, h.c);
      places = h.places;
      variables = h.variables;
      conditions = λ a b.
          let q : d.c ≡ length whens = omega (arith, h.c) in
          let l : length whens < length d.conditions = omega (arith, small.conditions) in
          ap (λ (t : ℕ). take t (set d.conditions d.c word)) more
          ∙ ap (λ (t : ℕ). take (suc (length whens)) (set d.conditions t word)) q
          ∙ take-suc-set d.conditions (length whens) word l
          ∙ ap (λ (t : List ℕ). t ++ (word ∷ [])) (h.conditions a (omega arith))
          ∙ ap (λ (t : ℕ). map f whens ++ (t ∷ [])) (e a)
          ∙ sym (map-append f whens (w ∷ []));
    }

-- ## No more told

pub holds_same :
    (sets : List (List Member)) (whens : List When) (d : Draft) (value : ℕ) → Holds sets whens d
    → Holds sets whens (with_duration d value)
holds_same sets whens d value h =
    record {
      n = h.n;
      set = h.set;
      c = h.c;
      places = h.places;
      variables = h.variables;
      conditions = h.conditions;
    }
