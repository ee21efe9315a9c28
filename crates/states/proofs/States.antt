-- The list of states as it grows: a state put into it, one that is linked variable by variable, and all of them.
-- Assumes nothing.
use Rattle.std.proofs.Common.{◌≡◌, sym, ap, subst, ◌∙◌, Bool, true, false, not, ◌&&◌, List, ⊎_elim, ℕ, ◌+◌, ◌-◌, ◌*◌}
use Rattle.std.proofs.Common.{◌^◌, ◌≤◌, ◌<◌, max, Some, arith, bit_or, eqb, length, get_or, set, length-set}
use Rattle.std.proofs.Common.{get_or-set_same, get_or-set_other, eqb-true}
use borrow.Author.Tests.{eqb-false}
use Rattle.std.proofs.lemmas.List.{set-get_or}
use Rattle.numbers.specs.Numbers.{one_if}
use Rattle.numbers.specs.Bits.{bit, IsLowestBit}
use Rattle.numbers.proofs.Cases.{by-test, by_order}
use Rattle.numbers.proofs.Bits.{bit-without, or-weight-bound}
use Rattle.patterns.specs.Patterns.{most_variables}
use Rattle.reach.proofs.MaskInTurn.{low_bits}
use Rattle.states.specs.States.{most_states, link_at, most_links, fresh_mark, fresh_of, state_of, leaves_from, Stands}
use Rattle.states.specs.States.{Put, PutFresh, Leads, Linked, Listed}
use Rattle.states.specs.States.Stands.{plain, twin}
use Rattle.states.proofs.Fresh.{fresh-cases, state-plain, state-fresh, leaves-bound}

-- ## A fresh state

pub stands-kept :
    (old new : List ℕ) (count i : ℕ) → ((i : ℕ) → i < count → get_or new i 0 ≡ get_or old i 0) → i < count → Stands old i
    → Stands new i
stands-kept old new count i kept l (plain small) = let e = kept i l in plain (omega arith)
stands-kept old new count i kept l (twin b e small is) =
    let here = kept i l in
    let before = kept b (omega arith) in
    twin b e (omega arith) (omega arith)

module _ (plan : List ℕ) (n : ℕ) (old : List ℕ) (count state : ℕ) (mid : List ℕ) (at : ℕ)
    (put : Put old count state mid (Some at)) (small : state < fresh_mark) where
  stands-put : ((i : ℕ) → i < count → Stands old i) → (i : ℕ) → i ≤ at → Stands mid i
  stands-put stands i l =
      by_order i count
      (λ m. stands-kept old mid count i put.kept m (stands i m))
      (λ m.
      let up = put.here.1 in
      let z : at ≡ i = omega arith in
      let e = ap (λ (x : ℕ). get_or mid x 0) (sym z) ∙ put.here.2 in
      plain (omega arith))

  -- the state is not listed fresh
  pub fresh-alone : fresh_of plan n state ≡ state → PutFresh plan n old count state mid (Some at)
  fresh-alone e =
      record {
        size = put.size;
        kept = put.kept;
        here = (put.here.0, put.here.2 ∙ sym e);
        stands = stands-put;
      }

  module _ (other : fresh_of plan n state ≡ state → ⊥) (inside : at + 1 < most_states) where
    marked : fresh_of plan n state ≡ fresh_mark + state
    marked = ⊎_elim (λ e. absurd (other e.1)) (λ e. e) (fresh-cases plan n state)

    -- it stands behind the others
    fresh-new :
        count ≤ at + 1
        → PutFresh plan n old count state (set mid (at + 1) (fresh_of plan n state)) (Some (at + 1))
    fresh-new up =
        let size = put.size in
        record {
          size = length-set mid (at + 1) (fresh_of plan n state) ∙ put.size;
          kept = λ i l. same i (omega arith) ∙ put.kept i l;
          here = (inside, new);
          stands = λ stands i m.
              by_order i (at + 1)
              (λ b. stands-kept mid (set mid (at + 1) (fresh_of plan n state)) (at + 1) i same b (stands-put stands i (omega arith)))
              (λ b.
              let before = same at (omega arith) ∙ put.here.2 in
              let mark = marked in
              let z : at + 1 ≡ i = omega arith in
              let here = sym (ap (λ (x : ℕ). get_or (set mid (at + 1) (fresh_of plan n state)) x 0) z) ∙ new in
              twin at (omega arith) (omega arith) (omega arith));
        }
      where
        same : (i : ℕ) → i < at + 1 → get_or (set mid (at + 1) (fresh_of plan n state)) i 0 ≡ get_or mid i 0
        same i l = get_or-set_other mid (at + 1) i (fresh_of plan n state) 0 (λ q. omega arith)

        new : get_or (set mid (at + 1) (fresh_of plan n state)) (at + 1) 0 ≡ fresh_of plan n state
        new = let size = put.size in get_or-set_same mid (at + 1) (fresh_of plan n state) 0 (omega arith)

    -- it is there already
    fresh-there :
        at + 1 < count → get_or mid (at + 1) 0 ≡ fresh_of plan n state
        → PutFresh plan n old count state mid (Some (at + 1))
    fresh-there l e =
        record {
          size = put.size;
          kept = put.kept;
          here = (inside, e);
          stands = λ stands i b. stands-kept old mid count i put.kept (omega arith) (stands i (omega arith));
        }

    -- it is written there, where another does not stand there
    pub fresh-behind :
        (at + 1 < count → get_or mid (at + 1) 0 ≡ fresh_of plan n state)
        → PutFresh plan n old count state (set mid (at + 1) (fresh_of plan n state)) (Some (at + 1))
    fresh-behind e =
        by_order (at + 1) count
        (λ l.
        subst (λ (x : List ℕ). PutFresh plan n old count state x (Some (at + 1)))
        (sym (set-get_or mid (at + 1) 0) ∙ ap (set mid (at + 1)) (e l))
        (fresh-there l (e l)))
        fresh-new

-- the state at a place is one
pub stands-state : (states : List ℕ) (i : ℕ) → Stands states i → state_of (get_or states i 0) < fresh_mark
stands-state states i (plain small) = subst (λ (x : ℕ). x < fresh_mark) (sym (state-plain (get_or states i 0) small)) small
stands-state states i (twin b e small is) =
    subst (λ (x : ℕ). x < fresh_mark) (sym (state-fresh (get_or states i 0) (omega arith))) (omega arith)

-- ## A link

pub leads-by :
    (plan : List ℕ) (n : ℕ) (states links : List ℕ) (count at v to : ℕ) → get_or links (link_at at v) 0 ≡ to → to < count
    → at ≤ to
    → get_or states to 0 ≡ fresh_of plan n (bit_or (state_of (get_or states at 0)) (2 ^ v))
    → Leads plan n states links count at v
leads-by plan n states links count at v to e l up is =
    record {
      known = subst (λ (x : ℕ). x < count) (sym e) l;
      onward = subst (λ (x : ℕ). at ≤ x) (sym e) up;
      is = ap (λ (x : ℕ). get_or states x 0) e ∙ is;
    }

-- a link stays right where the states known by then stay, and the place of the link
pub leads-kept :
    (plan : List ℕ) (n : ℕ) (states links : List ℕ) (count at v : ℕ) (states' links' : List ℕ) (more : ℕ)
    → Leads plan n states links count at v
    → at < count → count ≤ more
    → ((i : ℕ) → i < count → get_or states' i 0 ≡ get_or states i 0)
    → get_or links' (link_at at v) 0 ≡ get_or links (link_at at v) 0
    → Leads plan n states' links' more at v
leads-kept plan n states links count at v states' links' more leads l m kept same =
    let known = leads.known in
    leads-by plan n states' links' more at v (get_or links (link_at at v) 0) same (omega arith) leads.onward
    (kept (get_or links (link_at at v) 0) known ∙ leads.is ∙ ap (λ (x : ℕ). fresh_of plan n (bit_or (state_of x) (2 ^ v))) (sym (kept at l)))

-- ## Linked variable by variable

-- the same as once it is linked, of the variables that are not in `rest`
pub record Linking (plan : List ℕ) (n : ℕ) (states links : List ℕ) (count at leave : ℕ) (states' links' : List ℕ)
    (more rest : ℕ) : Type 0 where
  pub size : length states' ≡ most_states
  pub room : length links' ≡ most_links
  pub from : count ≤ more
  pub few : more ≤ most_states
  pub small : rest < 2 ^ most_variables
  pub kept : (i : ℕ) → i < count → get_or states' i 0 ≡ get_or states i 0
  pub others : (place : ℕ) → place < link_at at 0 → get_or links' place 0 ≡ get_or links place 0
  pub stands : (i : ℕ) → i < more → Stands states' i
  pub leads : (v : ℕ) → bit leave v ≡ true → bit rest v ≡ false → Leads plan n states' links' more at v

module _ (plan : List ℕ) (n : ℕ) (states links : List ℕ) (count at leave : ℕ) where
  module _ (states₁ links₁ : List ℕ) (more rest v from : ℕ)
      (l : Linking plan n states links count at leave states₁ links₁ more rest) (low : IsLowestBit 64 rest v)
      (known : at < count)
      (is : from ≡ state_of (get_or states at 0)) where
    pub small-variable : v < most_variables
    small-variable = low_bits rest most_variables v l.small low.here

    pub small-state : bit_or from (2 ^ v) < fresh_mark
    small-state =
        let begun = l.from in
        or-weight-bound from most_variables v
        (subst (λ (x : ℕ). x < fresh_mark) (sym (is ∙ ap state_of (sym (l.kept at known)))) (stands-state states₁ at (l.stands at (omega arith))))
        small-variable

    -- one variable more
    pub linking-more :
        (states₂ : List ℕ) (to more₂ : ℕ) → PutFresh plan n states₁ more (bit_or from (2 ^ v)) states₂ (Some to)
        → at ≤ to
        → more₂ ≡ max more (to + 1)
        → Linking plan n states links count at leave states₂ (set links₁ (link_at at v) to) more₂
        (rest - one_if (bit rest v) * 2 ^ v)
    linking-more states₂ to more₂ put up larger =
        let begun = l.from in
        let most = l.few in
        let size = l.room in
        let small = l.small in
        let inside = put.here.0 in
        record {
          size = put.size;
          room = length-set links₁ (link_at at v) to ∙ l.room;
          from = omega arith;
          few = omega arith;
          small = omega arith;
          kept = kept;
          others = λ place m.
              get_or-set_other links₁ (link_at at v) place to 0 (λ q. omega arith) ∙ l.others place m;
          stands = λ i m.
              by_order i more
              (λ d. stands-kept states₁ states₂ more i put.kept d (l.stands i d))
              (λ d. put.stands l.stands i (omega arith));
          leads = λ u t f. by-test (eqb v u) (here u) (there u t f);
        }
      where
        kept : (i : ℕ) → i < count → get_or states₂ i 0 ≡ get_or states i 0
        kept i m = let begun = l.from in put.kept i (omega arith) ∙ l.kept i m

        here : (u : ℕ) → eqb v u ≡ true → Leads plan n states₂ (set links₁ (link_at at v) to) more₂ at u
        here u e =
            let below = small-variable in
            let size = l.room in
            let begun = l.from in
            let most = l.few in
            subst (Leads plan n states₂ (set links₁ (link_at at v) to) more₂ at) (eqb-true v u e)
            (leads-by plan n states₂ (set links₁ (link_at at v) to) more₂ at v to
            (get_or-set_same links₁ (link_at at v) to 0 (omega arith))
            (omega arith)
            up
            (put.here.1 ∙ ap (λ (x : ℕ). fresh_of plan n (bit_or x (2 ^ v))) (is ∙ ap state_of (sym (kept at known)))))

        there :
            (u : ℕ) → bit leave u ≡ true → bit (rest - one_if (bit rest v) * 2 ^ v) u ≡ false → eqb v u ≡ false
            → Leads plan n states₂ (set links₁ (link_at at v) to) more₂ at u
        there u t f e =
            let begun = l.from in
            let z : bit rest u ≡ false =
            sym (bit-without rest most_variables v u l.small ∙ ap (λ (x : Bool). not x && bit rest u) e) ∙ f in
            let other = eqb-false v u e in
            leads-kept plan n states₁ links₁ more at u states₂ (set links₁ (link_at at v) to) more₂ (l.leads u t z) (omega arith) (omega arith)
            put.kept
            (get_or-set_other links₁ (link_at at v) (link_at at u) to 0 (λ q. other (omega arith)))

-- ## All of them

module _ (plan : List ℕ) (n : ℕ) (few : n ≤ most_variables) where
  -- one state more is linked
  pub listed_more :
      (states leaves links : List ℕ) (count at leave : ℕ) (states' links' : List ℕ) (more : ℕ)
      → Listed plan n states leaves links count at
      → at < count
      → leave ≡ leaves_from plan n (get_or states at 0)
      → Linked plan n states links count at leave states' links' more
      → more ≤ most_states
      → Listed plan n states' (set leaves at leave) links' more (at + 1)
  listed_more states leaves links count at leave states' links' more listed known is linked most =
      let some = listed.some in
      let from = linked.from in
      record {
        size = linked.size;
        wide = length-set leaves at leave ∙ listed.wide;
        room = linked.room;
        some = omega arith;
        few = most;
        first = linked.kept 0 some ∙ listed.first;
        stands = linked.stands;
        leaving = λ i l. by_order i at (λ m. before i m) (λ m. let z : at ≡ i = omega arith in subst (λ (x : ℕ). get_or leaves' x 0 ≡ leaves_from plan n (get_or states' x 0)) z here);
        leads = λ i v l.
            by_order i at
            (λ m t.
            let t' = sym (ap (λ (x : ℕ). bit x v) (same i m)) ∙ t in
            let below = low_bits (get_or leaves i 0) most_variables v (small i m) t' in
            leads-kept plan n states links count i v states' links' more (listed.leads i v m t') (omega arith) from linked.kept
            (linked.others (link_at i v) (omega arith)))
            (λ m t.
            let z : at ≡ i = omega arith in
            subst (λ (x : ℕ). Leads plan n states' links' more x v) z
            (linked.leads v (sym (ap (λ (x : ℕ). bit x v) (subst (λ (x : ℕ). get_or leaves' x 0 ≡ leave) z new)) ∙ t)));
      }
    where
      leaves' : List ℕ
      leaves' = set leaves at leave

      new : get_or leaves' at 0 ≡ leave
      new = let wide = listed.wide in let most' = listed.few in get_or-set_same leaves at leave 0 (omega arith)

      here : get_or leaves' at 0 ≡ leaves_from plan n (get_or states' at 0)
      here = new ∙ is ∙ ap (leaves_from plan n) (sym (linked.kept at known))

      same : (i : ℕ) → i < at → get_or leaves' i 0 ≡ get_or leaves i 0
      same i m = get_or-set_other leaves at i leave 0 (λ q. omega arith)

      before : (i : ℕ) → i < at → get_or leaves' i 0 ≡ leaves_from plan n (get_or states' i 0)
      before i m = same i m ∙ listed.leaving i m ∙ ap (leaves_from plan n) (sym (linked.kept i (omega arith)))

      small : (i : ℕ) → i < at → get_or leaves i 0 < 2 ^ most_variables
      small i m = subst (λ (x : ℕ). x < 2 ^ most_variables) (sym (listed.leaving i m)) (leaves-bound plan n (get_or states i 0) few)
