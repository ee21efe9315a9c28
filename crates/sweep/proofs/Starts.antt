-- The latest starts of one state as a record moves them on: those that are handed on, the state that is left, and the
-- states that it leads to. Assumes nothing.
use Rattle.std.proofs.Common.{◌≡◌, sym, ap, subst, ◌∙◌, Bool, true, false, not, ◌&&◌, List, ◌⊎◌, inl, inr, ⊎_elim}
use Rattle.std.proofs.Common.{ℕ, suc, ◌+◌, ◌-◌, ◌*◌, ◌^◌, ◌≤◌, ◌<◌, max, arith, bit_and, eqb, length, get_or, set}
use Rattle.std.proofs.Common.{replicate, length-set, pow_pos, get_or-set_same, get_or-set_other, eqb-true}
use lib.ListN.{length-replicate}
use borrow.Rule.Slice.PartMut.{put_mid}
use borrow.Author.Tests.{eqb-false}
use Rattle.std.proofs.lemmas.Grind.{common_steps}
use Rattle.std.proofs.lemmas.List.{get_or-replicate}
use Rattle.numbers.specs.Numbers.{first, one_if}
use Rattle.numbers.specs.Bits.{bit, IsLowestBit}
use Rattle.numbers.proofs.Cases.{by-test, by_order}
use Rattle.numbers.proofs.First.{first-fails, first_passes}
use Rattle.numbers.proofs.Bits.{bit_high, bit-zero, bit-and, bit-without, bits-same}
use Rattle.patterns.specs.Patterns.{most_variables}
use Rattle.automaton.proofs.Membership.{both}
use Rattle.rule.specs.Promises.{most_bindings}
use Rattle.reach.proofs.MaskInTurn.{low_bits, rest-known}
use Rattle.states.specs.States.{link_at}
use Rattle.sweep.specs.Starts.{row_places, place_of, RowCleared, Grown}
use Rattle.sweep.specs.Starts.{RowRaised, Led}
use Rattle.sweep.specs.Starts.Cleared.{remains, cleared}
use Rattle.sweep.specs.Starts.Grown.{same, grew}
use Rattle.sweep.specs.Starts.Led.{unled, led}

-- ## Bits

pub and_left : (a b v : ℕ) → bit (bit_and a b) v ≡ true → bit a v ≡ true
and_left a b v t = (both {a = bit a v} (sym (bit-and a b v) ∙ t)).0

pub and_right : (a b v : ℕ) → bit (bit_and a b) v ≡ true → bit b v ≡ true
and_right a b v t = (both {a = bit a v} (sym (bit-and a b v) ∙ t)).1

-- a number without bits
pub no_bits : (a : ℕ) → a < 2 ^ most_variables → ((v : ℕ) → bit a v ≡ false) → a ≡ 0
no_bits a small none = bits-same a 0 most_variables small (pow_pos most_variables) (λ v l. none v ∙ sym (bit-zero v))

-- one of the bits of a number that is not 0
pub some-bit : (a : ℕ) → a < 2 ^ most_variables → 0 < a → (v : ℕ) × (bit a v ≡ true)
some-bit a small some =
    by_order (first (bit a) most_variables) most_variables
    (λ l. (first (bit a) most_variables, first_passes (bit a) most_variables l))
    (λ l.
    let z = no_bits a small
    (λ v.
    by_order v most_variables
    (λ m. first-fails (bit a) most_variables v (omega arith))
    (λ m. bit_high a most_variables v small m)) in
    absurd (omega arith))

-- ## Places

-- a place has one count of bindings and one state
pub same_place :
    (k a m b : ℕ) → k ≤ most_bindings → m ≤ most_bindings → place_of k a ≡ place_of m b → (a ≡ b) × (k ≡ m)
same_place k a m b l r e =
    by_order a b
    (λ d. absurd (omega arith))
    (λ d.
    by_order b a
    (λ f. absurd (omega arith))
    (λ f. let z : a ≡ b = omega arith in (z, omega arith)))

-- ## Numbers

-- the larger of two is one of them
pub max-one : (a b x : ℕ) → x ≡ max a b → (x ≡ a) ⊎ (x ≡ b)
max-one a b x e = by_order a b (λ l. inr (omega arith)) (λ l. inl (omega arith))

-- ## The starts of a state

module _ (starts : List ℕ) (low at : ℕ) where
  -- those that are copied, up to `done`
  pub record Copied (own : List ℕ) (done : ℕ) : Type 0 where
    pub size : length own ≡ row_places
    pub late : (k : ℕ) → k < done → low < get_or starts (place_of k at) 0 → get_or own k 0 ≡ get_or starts (place_of k at) 0
    pub out : (k : ℕ) → k < done → get_or starts (place_of k at) 0 ≤ low → get_or own k 0 ≡ 0

-- ## A part that is filled

module _ (old : List ℕ) (row n : ℕ) (part : List ℕ) where
  filled-length : length part ≡ n → row + n ≤ length old → length (put_mid row n old part) ≡ length old
  filled-length size room = grind (arith, common_steps)

  filled-before :
      (place : ℕ) → place < row → row ≤ length old → get_or (put_mid row n old part) place 0 ≡ get_or old place 0
  filled-before place l room = grind (arith, common_steps)

  filled-in :
      (i : ℕ) → i < n → length part ≡ n → row + n ≤ length old
      → get_or (put_mid row n old part) (row + i) 0 ≡ get_or part i 0
  filled-in i l size room = grind (arith, common_steps)

  filled-behind :
      (place : ℕ) → length part ≡ n → row + n ≤ length old → row + n ≤ place
      → get_or (put_mid row n old part) place 0 ≡ get_or old place 0
  filled-behind place size room l = grind (arith, common_steps)

-- ## A state that is left

module _ (old : List ℕ) (tight : Bool) (at : ℕ) where
  -- the places of a row that is filled
  pub cleared_row :
      (zeros : List ℕ) (k : ℕ) → tight ≡ true → k ≡ row_places → zeros ≡ replicate row_places 0
      → place_of row_places at ≤ length old
      → RowCleared old tight at (put_mid (at * row_places) k old zeros) row_places
  cleared_row zeros k t e z room =
      rw e
      (record {
        size = filled-length old (at * row_places) row_places zeros size room;
        only = λ place.
            by_order place (at * row_places)
            (λ l. remains (filled-before old (at * row_places) row_places zeros place l (omega arith)))
            (λ l.
            by_order place (at * row_places + row_places)
            (λ m.
            let i = place - at * row_places in
            let is : place ≡ place_of i at = omega arith in
            cleared i (omega arith) is t (ap (λ (x : ℕ). get_or (put_mid (at * row_places) row_places old zeros) x 0) is ∙ in-row i (omega arith)))
            (λ m. remains (filled-behind old (at * row_places) row_places zeros place size room m)));
        gone = λ t' i l. in-row i l;
      })
    where
      size : length zeros ≡ row_places
      size = ap length z ∙ length-replicate {A = ℕ} row_places 0

      in-row : (i : ℕ) → i < row_places → get_or (put_mid (at * row_places) row_places old zeros) (place_of i at) 0 ≡ 0
      in-row i l =
          filled-in old (at * row_places) row_places zeros i l size room
          ∙ ap (λ (x : List ℕ). get_or x i 0) z
          ∙ get_or-replicate row_places i 0 0 l

-- ## A state that is led to

-- a place has a start now, if it was less
record Raised (old : List ℕ) (at start : ℕ) (new : List ℕ) : Type 0 where
  pub size : length new ≡ length old
  pub above : (place : ℕ) → get_or old place 0 ≤ get_or new place 0
  pub here : start ≤ get_or new at 0
  pub only : (place : ℕ) → (get_or new place 0 ≡ get_or old place 0) ⊎ ((place ≡ at) × (get_or new place 0 ≡ start))

raised_by :
    (old : List ℕ) (at start x : ℕ) → at < length old → get_or old at 0 ≤ x → start ≤ x
    → (x ≡ get_or old at 0) ⊎ (x ≡ start)
    → Raised old at start (set old at x)
raised_by old at start x l a b cases =
    let new = get_or-set_same old at x 0 l in
    record {
      size = length-set old at x;
      above = λ place.
          by-test (eqb at place)
          (λ e. subst (λ (y : ℕ). get_or old y 0 ≤ get_or (set old at x) y 0) (eqb-true at place e) (omega arith))
          (λ e. let z = other place e in omega arith);
      here = omega arith;
      only = λ place.
          by-test (eqb at place)
          (λ e.
          let z = eqb-true at place e in
          ⊎_elim
          (λ q. inl (subst (λ (y : ℕ). get_or (set old at x) y 0 ≡ get_or old y 0) z (new ∙ q)))
          (λ q. inr (sym z, subst (λ (y : ℕ). get_or (set old at x) y 0 ≡ start) z (new ∙ q)))
          cases)
          (λ e. inl (other place e));
    }
  where
    other : (place : ℕ) → eqb at place ≡ false → get_or (set old at x) place 0 ≡ get_or old place 0
    other place e =
        let z = eqb-false at place e in
        get_or-set_other old at place x 0 (λ q. z (sym q))

module _ (old own : List ℕ) (to : ℕ) where
  grown-then :
      (mid new : List ℕ) (place : ℕ) → get_or new place 0 ≡ get_or mid place 0 → Grown old own to mid place
      → Grown old own to new place
  grown-then mid new place e (same a) = same (e ∙ a)
  grown-then mid new place e (grew k l is a) = grew k l is (e ∙ a)

  -- one count of bindings more
  pub row_more :
      (mid : List ℕ) (done place₁ x : ℕ) → RowRaised old own to mid done → done < most_bindings
      → place₁ ≡ place_of (suc done) to → place₁ < length mid
      → x ≡ max (get_or mid place₁ 0) (get_or own done 0)
      → RowRaised old own to (set mid place₁ x) (done + 1)
  row_more mid done place₁ x r room is inside larger =
      record {
        size = raised.size ∙ r.size;
        above = λ place. let c = r.above place in let d = raised.above place in omega arith;
        here = λ k l.
            by_order k done
            (λ m.
            let c = r.here k m in
            let d = raised.above (place_of (suc k) to) in
            omega arith)
            (λ m.
            let z : done ≡ k = omega arith in
            subst (λ (y : ℕ). get_or own y 0 ≤ get_or (set mid place₁ x) (place_of (suc y) to) 0) z
            (subst (λ (y : ℕ). get_or own done 0 ≤ get_or (set mid place₁ x) y 0) is raised.here));
        only = λ place.
            ⊎_elim
            (λ e. grown-then mid (set mid place₁ x) place e (r.only place))
            (λ e. grew done room (e.0 ∙ is) e.1)
            (raised.only place);
      }
    where
      raised : Raised mid place₁ (get_or own done 0) (set mid place₁ x)
      raised =
          raised_by mid place₁ (get_or own done 0) x inside (omega arith) (omega arith)
          (max-one (get_or mid place₁ 0) (get_or own done 0) x larger)

-- ## The states that a state leads to

-- the same as once all are led to, of the variables that are not in `rest`
pub record Spreading (old links own : List ℕ) (at firing : ℕ) (new : List ℕ) (rest : ℕ) : Type 0 where
  pub size : length new ≡ length old
  pub small : rest < 2 ^ most_variables
  pub part : (v : ℕ) → bit rest v ≡ true → bit firing v ≡ true
  pub above : (place : ℕ) → get_or old place 0 ≤ get_or new place 0
  pub here :
      (v k : ℕ) → bit firing v ≡ true → k < most_bindings → bit rest v ≡ false
      → get_or own k 0 ≤ get_or new (place_of (suc k) (get_or links (link_at at v) 0)) 0
  pub only : (place : ℕ) → Led old links own at firing new place

module _ (old links own : List ℕ) (at firing : ℕ) where
  led-then :
      (mid new : List ℕ) (place : ℕ) → get_or new place 0 ≡ get_or mid place 0 → Led old links own at firing mid place
      → Led old links own at firing new place
  led-then mid new place e (unled a) = unled (e ∙ a)
  led-then mid new place e (led v k t l is a) = led v k t l is (e ∙ a)

  module _ (mid : List ℕ) (rest v : ℕ) (l : Spreading old links own at firing mid rest)
      (low : IsLowestBit 64 rest v) where
    pub spread-variable : v < most_variables
    spread-variable = low_bits rest most_variables v l.small low.here

    pub spread-fires : bit firing v ≡ true
    spread-fires = l.part v low.here

    led-next :
        (new : List ℕ) (place : ℕ) → Grown mid own (get_or links (link_at at v) 0) new place
        → Led old links own at firing new place
    led-next new place (same e) = led-then mid new place e (l.only place)
    led-next new place (grew k m is e) = led v k spread-fires m is e

    pub spreading-more :
        (new : List ℕ) (left : ℕ) → left ≡ rest - one_if (bit rest v) * 2 ^ v
        → RowRaised mid own (get_or links (link_at at v) 0) new most_bindings
        → Spreading old links own at firing new left
    spreading-more new left is raised =
        let small = l.small in
        record {
          size = raised.size ∙ l.size;
          small = omega arith;
          part = λ u t.
              l.part u
              (rest-known rest v u l.small spread-variable (sym (ap (λ (x : ℕ). bit x u) is) ∙ t));
          above = λ place. let a = l.above place in let b = raised.above place in omega arith;
          here = λ u k t m f. by-test (eqb v u) (here u k m) (there u k t m f);
          only = λ place. led-next new place (raised.only place);
        }
      where
        here :
            (u k : ℕ) → k < most_bindings → eqb v u ≡ true
            → get_or own k 0 ≤ get_or new (place_of (suc k) (get_or links (link_at at u) 0)) 0
        here u k m e =
            subst (λ (x : ℕ). get_or own k 0 ≤ get_or new (place_of (suc k) (get_or links (link_at at x) 0)) 0) (eqb-true v u e) (raised.here k m)

        there :
            (u k : ℕ) → bit firing u ≡ true → k < most_bindings → bit left u ≡ false → eqb v u ≡ false
            → get_or own k 0 ≤ get_or new (place_of (suc k) (get_or links (link_at at u) 0)) 0
        there u k t m f e =
            let z : bit rest u ≡ false =
            sym (bit-without rest most_variables v u l.small ∙ ap (λ (x : Bool). not x && bit rest u) e)
            ∙ sym (ap (λ (x : ℕ). bit x u) is)
            ∙ f in
            let a = l.here u k t m z in
            let b = raised.above (place_of (suc k) (get_or links (link_at at u) 0)) in
            omega arith

-- ## As many bindings as can be

-- one state more that no variable leaves, or that is out
pub none_more :
    (starts leaves : List ℕ) (can low at : ℕ)
    → ((i : ℕ) → i < at → low < get_or starts (place_of most_bindings i) 0 → bit_and can (get_or leaves i 0) ≡ 0)
    → (low < get_or starts (place_of most_bindings at) 0 → bit_and can (get_or leaves at 0) ≡ 0)
    → (i : ℕ) → i < at + 1 → low < get_or starts (place_of most_bindings i) 0 → bit_and can (get_or leaves i 0) ≡ 0
none_more starts leaves can low at before here i l =
    by_order i at
    (before i)
    (λ m.
    let z : at ≡ i = omega arith in
    subst (λ (x : ℕ). low < get_or starts (place_of most_bindings x) 0 → bit_and can (get_or leaves x 0) ≡ 0) z here)
