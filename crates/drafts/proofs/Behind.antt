-- A when line and the within line behind other lines, and a draft of no lines. Assumes nothing.
use mathlib.Core.Path.{◌≡◌, ◌∙◌, refl, sym, ap, subst}
use mathlib.Core.Bool.{Bool, true, false}
use mathlib.Core.List.{List, [], ◌∷◌, ◌++◌, flat_map, Memᴰ}
use Prim.Native.Nat.{ℕ, ◌≤◌}
use native.Mathlib.Omega.{arith}
use lib.ListN.{length, get_or, replicate, length-replicate, get_or-replicate, get_or-eq_default}
use Rattle.numbers.specs.Numbers.{upto}
use Rattle.numbers.proofs.Cases.{by_order}
use Rattle.patterns.specs.Patterns.{most_variables}
use Rattle.form.specs.Form.{Side, Operand, constant, other, When, space, when_word, within_word, names, IsLetter}
use Rattle.form.specs.Form.{line_feed, SideInOrder, OperandInOrder, WhenInOrder}
use Rattle.form.specs.Packed.{place_of, member_bytes, condition_in, condition_bits, when_bits}
use Rattle.form.specs.Items.{Item, when_item, within_item, item_line, Next, sets_in, whens_in, duration_in, State, start, in_whens}
use Rattle.form.specs.Items.{finished, Named, Valid, after, end}
use Rattle.form.proofs.Making.{sets-snoc-when, sets-snoc-within, whens-snoc-when, whens-snoc-within, duration-snoc-when}
use Rattle.form.proofs.Making.{duration-snoc-within, end_snoc, known-names}
use Rattle.numbers.specs.Decimal.{decimal}
use Rattle.words.specs.Words.{place_in, SideKnown, Counts}
use Rattle.drafts.specs.declared.Draft.{Draft}
use Rattle.drafts.specs.declared.Phase.TheVariants.{Empty}
use Rattle.drafts.specs.Drafts.{places_of, Small, DraftOf, ItemRead}
use Rattle.drafts.specs.Steps.{NamedTest, OperandKnown, operand_bits, code_of, WhenKnown, ConditionFound, condition_words}
use Rattle.drafts.specs.Steps.{with_condition, with_duration}
use Rattle.drafts.proofs.Places.{named-place, place-named, place-whole}
use Rattle.drafts.proofs.Holding.{holds-condition, holds_same}
use Rattle.drafts.proofs.History.{known-letters}
use Rattle.drafts.proofs.Read.{when-good, when-none, within-good, within_none}

-- ## Names and the table of their places

module _ (known : List ℕ) where
  side-order : (s : Side) → SideKnown (places_of known) s → SideInOrder known s
  side-order s k = record { named = place-named known s.name k.letter k.known; small = k.small }

  operand-order :
      (attribute : ℕ) (o : Operand) → OperandKnown (places_of known) attribute o → OperandInOrder known attribute o
  unfolding OperandKnown OperandInOrder
  operand-order attribute (constant z) k = k
  operand-order attribute (other s) k = side-order s k

  when-order : (w : When) → WhenKnown (places_of known) w → WhenInOrder known w
  when-order w k =
      record {
        left = side-order w.left k.left;
        operator = k.operator;
        right = operand-order w.left.attribute w.right k.right;
      }

  code-bits :
      (left : Side) (operator : ℕ) (right : Operand) → length known ≤ most_variables → SideKnown (places_of known) left
      → OperandKnown (places_of known) left.attribute right
      → code_of (places_of known) (place_in (places_of known) left.name) left.attribute operator right
      ≡ condition_bits (condition_in known left operator right)
  unfolding OperandKnown operand_bits condition_bits condition_in
  code-bits left operator (constant z) few k r =
      let e = place-whole known left.name k.letter (omega arith) in
      omega arith
  code-bits left operator (other s) few k r =
      let e = place-whole known left.name k.letter (omega arith) in
      let f = place-whole known s.name r.letter (omega arith) in
      omega arith

  when-bits :
      (w : When) → length known ≤ most_variables → WhenKnown (places_of known) w
      → code_of (places_of known) (place_in (places_of known) w.left.name) w.left.attribute w.operator w.right
      ≡ when_bits known w
  unfolding when_bits
  when-bits w few k = code-bits w.left w.operator w.right few k.left k.right

  module _ (letters : (x : ℕ) → Memᴰ x known → IsLetter x) where
    side-known : (s : Side) → SideInOrder known s → SideKnown (places_of known) s
    side-known s o =
        let l = letters s.name o.named in
        record { letter = l; known = named-place known s.name l o.named; small = o.small }

    operand_known :
        (attribute : ℕ) (o : Operand) → OperandInOrder known attribute o → OperandKnown (places_of known) attribute o
    unfolding OperandKnown OperandInOrder
    operand_known attribute (constant z) k = k
    operand_known attribute (other s) k = side-known s k

    when-known : (w : When) → WhenInOrder known w → WhenKnown (places_of known) w
    when-known w k =
        record {
          left = side-known w.left k.left;
          operator = k.operator;
          right = operand_known w.left.attribute w.right k.right;
        }

-- ## When lines

when-phase : (l : List Item) (w : When) → (end start (l ++ (when_item w ∷ []))).phase ≡ in_whens
unfolding after
when-phase l w = ap (λ (s : State). s.phase) (end_snoc start l (when_item w))

within-phase : (l : List Item) (n : ℕ) → (end start (l ++ (within_item n ∷ []))).phase ≡ finished
unfolding after
within-phase l n = ap (λ (s : State). s.phase) (end_snoc start l (within_item n))

named_in :
    (l : List Item) (d : Draft) (t : Bool) → DraftOf l d → NamedTest d.phase t → t ≡ true → Named (end start l)
named_in l d t h n e =
    let r = n.so e in
    record { from = omega (arith, h.phase); upto = omega (arith, h.phase) }

not_named :
    (l : List Item) (d : Draft) (t : Bool) → DraftOf l d → NamedTest d.phase t → t ≡ false → ¬ Named (end start l)
not_named l d t h n e m =
    n.not_so e (omega (arith, h.phase, m.from)) (omega (arith, h.phase, m.upto))

module _ (l : List Item) (line : List ℕ) (d : Draft) (h : DraftOf l d) (t : Bool) (n : NamedTest d.phase t) where
  pub when-early :
      t ≡ false → (i : Item) → Next (end start l) i
      → ¬ (item_line i ≡ (when_word ++ (space ∷ line)) ++ (line_feed ∷ []))
  when-early e = when-none (end start l) line (λ w m o q. not_named l d t h n e m)

  pub within-early :
      t ≡ false → (i : Item) → Next (end start l) i
      → ¬ (item_line i ≡ (within_word ++ (space ∷ line)) ++ (line_feed ∷ []))
  within-early e = within_none (end start l) line (λ k m q. not_named l d t h n e m)

  pub when-read :
      (word : ℕ) → Small d → t ≡ true → ConditionFound d.places line word
      → ItemRead l (when_word ++ (space ∷ line)) (with_condition d word)
  when-read word s e f =
      let w = f.when in
      let known = names (sets_in l) in
      let p = h.holds.places in
      let j : WhenKnown (places_of known) w = subst (λ (p : List ℕ). WhenKnown p w) p f.known in
      when-good l line (with_condition d word) w (named_in l d t h n e)
      (subst (λ (k : List ℕ). WhenInOrder k w) (sym (known-names l)) (when-order known w j))
      f.words
      (record {
        holds =
            rw (sets-snoc-when l w, whens-snoc-when l w)
            (holds-condition (sets_in l) (whens_in l) w d word s h.holds
            (λ few.
            f.code
            ∙ ap (λ (p : List ℕ). code_of p (place_in p w.left.name) w.left.attribute w.operator w.right) p
            ∙ when-bits known w few j));
        phase = sym (when-phase l w);
        duration = rw (duration-snoc-when l w) h.duration;
      })

  pub within-read :
      (duration : ℕ) → Valid start l → t ≡ true → Counts line duration
      → ItemRead l (within_word ++ (space ∷ line)) (with_duration d duration)
  within-read duration v e f =
      let m = f.number in
      let named = named_in l d t h n e in
      within-good l line (with_duration d duration) m named f.digits
      (record {
        holds =
            rw (sets-snoc-within l m, whens-snoc-within l m) (holds_same (sets_in l) (whens_in l) d duration h.holds);
        phase = sym (within-phase l m);
        duration = rw (duration-snoc-within start l m v named.upto) f.small;
      })

module _ (l : List Item) (line : List ℕ) where
  pub when-unread :
      (d : Draft) → DraftOf l d → Valid start l → ((w : When) → WhenKnown d.places w → ¬ (condition_words w ≡ line))
      → (i : Item) → Next (end start l) i
      → ¬ (item_line i ≡ (when_word ++ (space ∷ line)) ++ (line_feed ∷ []))
  when-unread d h v c =
      when-none (end start l) line
      (λ w m i q.
      let known = names (sets_in l) in
      let j : WhenInOrder known w = subst (λ (k : List ℕ). WhenInOrder k w) (known-names l) i in
      c w (subst (λ (p : List ℕ). WhenKnown p w) (sym h.holds.places) (when-known known (known-letters l v) w j)) q)

  pub within-unread :
      ((k : ℕ) → ¬ (decimal k ≡ line)) → (i : Item) → Next (end start l) i
      → ¬ (item_line i ≡ (within_word ++ (space ∷ line)) ++ (line_feed ∷ []))
  within-unread c = within_none (end start l) line (λ k m q. c k q)

-- ## No lines yet

-- nothing told
abbrev blank_draft : Draft
blank_draft =
    record {
      places = replicate 26 0;
      variables = replicate 12 0;
      conditions = replicate 32 0;
      n = 0;
      set = 0;
      c = 0;
      phase = Empty;
      duration = 0;
    }

zeros-at : (n k d : ℕ) → d ≡ 0 → get_or (replicate n d) k d ≡ 0
zeros-at n k d z =
    by_order k n
    (λ h. get_or-replicate n k d d h ∙ z)
    (λ h. get_or-eq_default (replicate n d) d (omega (arith, length-replicate n d)) ∙ z)

pub blank-small : Small blank_draft
blank-small =
    record {
      n = omega arith;
      set = omega arith;
      c = omega arith;
      places = λ k. omega (arith, zeros-at 26 k 0 refl);
      letters = refl;
      variables = refl;
      conditions = refl;
    }

pub blank-told : DraftOf [] blank_draft
unfolding sets_in whens_in duration_in end names flat_map places_of place_of upto member_bytes
blank-told =
    record {
      holds =
          record {
            n = refl;
            set = refl;
            c = refl;
            places = refl;
            variables = λ h. refl;
            conditions = λ h k. refl;
          };
      phase = refl;
      duration = refl;
    }
