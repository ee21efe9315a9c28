-- The promises of the maker and of the search fix what they answer: any two answers and memories that meet the promise
-- are equal, and for every input there are some that do. Assumes nothing.
use mathlib.Core.Path.{◌≡◌, refl, sym, ap, subst, ◌∙◌}
use mathlib.Core.Bool.{false}
use mathlib.Core.Logic.{◌⊎◌, inl, inr, ⊎_elim}
use mathlib.Core.List.{List}
use Prim.Native.Nat.{ℕ, zero, suc, ◌≤◌, ◌<◌}
use native.Mathlib.Decide.{ℕ_discrete}
use native.Mathlib.Omega.{arith}
use Rattle.numbers.proofs.Cases.{by-test, by_order}
use Rattle.records.specs.declared.Answer.{Answer}
use Rattle.std.specs.Prelude.{Result, Ok, Err}
use Rattle.records.specs.Blocks.{refused, block_answer}
use Rattle.records.specs.declared.refusals.Refusal.{Refusal}
use Rattle.records.specs.Refusals.{judged_as}
use Rattle.index.specs.Upto.{Filled}
use Rattle.patterns.specs.declared.Pattern.{Pattern}
use Rattle.patterns.specs.Checked.{condition_at, pattern_answer}
use Rattle.automaton.proofs.Membership.{clash}
use Rattle.rule.specs.Calls.{input_answer, pattern_in, zeros, LimitInOrder}
use Rattle.rule.proofs.Calls.{forward-one, forward-met, by_code, by-limit}
use Rattle.rule.proofs.Inputs.{input-accepts}
use Rattle.index.specs.Index.{index_bytes, index_broken, index_of, rules_out, CannotMatch}
use Rattle.index.specs.Promises.{index_made, nothing, MakePromise, SearchCall}

-- ## The maker

module _ (block : List ℕ) (lent : ℕ) where
  pub make-one :
      (a b : Answer) (index other : List ℕ) → MakePromise block lent a index → MakePromise block lent b other
      → (a ≡ b) × (index ≡ other)
  make-one a b index other (MakePromise.refused_slice n e r) (MakePromise.refused_slice m d s) = (e ∙ sym d, r ∙ sym s)
  make-one a b index other (MakePromise.refused_slice n e r) (MakePromise.refused_block h m d s) = absurd (n h)
  make-one a b index other (MakePromise.refused_slice n e r) (MakePromise.made h z d s) = absurd (n h)
  make-one a b index other (MakePromise.refused_block g n e r) (MakePromise.refused_slice m d s) = absurd (m g)
  make-one a b index other (MakePromise.refused_block g n e r) (MakePromise.refused_block h m d s) = (e ∙ sym d, r ∙ sym s)
  make-one a b index other (MakePromise.refused_block g n e r) (MakePromise.made h z d s) = absurd (n z)
  make-one a b index other (MakePromise.made g z e r) (MakePromise.refused_slice m d s) = absurd (m g)
  make-one a b index other (MakePromise.made g z e r) (MakePromise.refused_block h m d s) = absurd (m z)
  make-one a b index other (MakePromise.made g z e r) (MakePromise.made h y d s) = (e ∙ sym d, r ∙ sym s)

  -- a block that is not in order
  pub bad-block :
      lent ≡ index_bytes → {given : Answer} → block_answer block ≡ given → ¬ (given.code ≡ 0) → {answer : Answer}
      → answer ≡ given → {index : List ℕ} → index ≡ zeros lent
      → MakePromise block lent answer index
  bad-block h is n e r =
      MakePromise.refused_block h (λ z. n (sym (ap (λ (a : Answer). a.code) is) ∙ z)) (e ∙ sym is) r

  -- from a slice that was cleared
  pub filled-made :
      (old new : List ℕ) (made : Result ℕ Refusal) → lent ≡ index_bytes → old ≡ zeros lent → Filled block old new made
      → MakePromise block lent (judged_as made) new
  filled-made old new (Ok n) h z f =
      MakePromise.made h f.1 (λ i. record { code = 0; place = 0; used = f.0 i; readings = 0; peak = 0 }) f.2
  filled-made old new (Err r) h z f = bad-block h f.0 f.1 refl (f.2 ∙ z)

  pub make-met : (answer : Answer) × (index : List ℕ) × MakePromise block lent answer index
  make-met = go (ℕ_discrete lent index_bytes) (ℕ_discrete (block_answer block).code 0)
    where
      go :
          Dec (lent ≡ index_bytes) → Dec ((block_answer block).code ≡ 0)
          → (answer : Answer) × (index : List ℕ) × MakePromise block lent answer index
      go (no n) c = (refused 15 0, zeros lent, MakePromise.refused_slice n refl refl)
      go (yes h) (no n) = (block_answer block, zeros lent, MakePromise.refused_block h n refl refl)
      go (yes h) (yes z) = (index_made, index_of block, MakePromise.made h z refl refl)

-- ## The search

module _ (pattern index block : List ℕ) (limit lent_work lent_result : ℕ) where
  pub search-one :
      (a b : Answer) (work other_work result other : List ℕ)
      → SearchCall pattern index block limit lent_work lent_result a work result
      → SearchCall pattern index block limit lent_work lent_result b other_work other
      → (a ≡ b) × (work ≡ other_work) × (result ≡ other)
  search-one a b work other_work result other (SearchCall.refused_index p t e w r) (SearchCall.refused_index q u d v s) = (e ∙ sym d, w ∙ sym v, r ∙ sym s)
  search-one a b work other_work result other (SearchCall.refused_index p t e w r) (SearchCall.cannot_match z f l c d v s) = clash t f
  search-one a b work other_work result other (SearchCall.refused_index p t e w r) (SearchCall.forwarded f g h) = clash t (f p)
  search-one a b work other_work result other (SearchCall.cannot_match z f l c e w r) (SearchCall.refused_index q u d v s) = clash u f
  search-one a b work other_work result other (SearchCall.cannot_match z f l c e w r) (SearchCall.cannot_match y k m x d v s) = (e ∙ sym d, w ∙ sym v, r ∙ sym s)
  search-one a b work other_work result other (SearchCall.cannot_match z f l c e w r) (SearchCall.forwarded k g h) = absurd (g z l c)
  search-one a b work other_work result other (SearchCall.forwarded f g h) (SearchCall.refused_index q u d v s) = clash u (f q)
  search-one a b work other_work result other (SearchCall.forwarded f g h) (SearchCall.cannot_match y k m x d v s) = absurd (g y m x)
  search-one a b work other_work result other (SearchCall.forwarded f g h) (SearchCall.forwarded k x y) =
      forward-one pattern block limit lent_work lent_result a b work other_work result other h y

-- whether a pattern cannot match can be told
module _ (p : Pattern) (index : List ℕ) where
  -- by one of the first n conditions
  by_first :
      (n : ℕ) → n ≤ p.c
      → CannotMatch p index ⊎ ((i : ℕ) → i < n → rules_out index (condition_at p i) ≡ false)
  by_first zero l = inr (λ i h. absurd (omega arith))
  by_first (suc n) l =
      ⊎_elim inl
      (λ (none : (i : ℕ) → i < n → rules_out index (condition_at p i) ≡ false).
      by-test (rules_out index (condition_at p n))
      (λ t. inl (record { which = n; given = omega arith; without = t }))
      (λ f. inr (λ i h. by_order i n (none i) (λ m. let e : n ≡ i = omega arith in subst (λ (j : ℕ). rules_out index (condition_at p j) ≡ false) e f))))
      (by_first n (omega arith))

  pub can-or-cannot : CannotMatch p index ⊎ (¬ CannotMatch p index)
  can-or-cannot =
      ⊎_elim inl
      (λ (none : (i : ℕ) → i < p.c → rules_out index (condition_at p i) ≡ false).
      inr (λ c. clash c.without (none c.which c.given)))
      (by_first p.c (omega arith))

-- every input gets an answer
module _ (pattern index block : List ℕ) (limit lent_work lent_result : ℕ) where
  abbrev Met : Type 0
  Met =
      (answer : Answer) × (work : List ℕ) × (result : List ℕ)
      × SearchCall pattern index block limit lent_work lent_result answer work result

  passed :
      ((pattern_answer pattern).code ≡ 0 → index_broken index ≡ false)
      → ((input_answer pattern block).code ≡ 0 → LimitInOrder limit lent_work → ¬ CannotMatch (pattern_in pattern) index)
      → Met
  passed f g =
      let h = forward-met pattern block limit lent_work lent_result in
      (h.0, h.1, h.2, SearchCall.forwarded f g h.3)

  missed : index_broken index ≡ false → CannotMatch (pattern_in pattern) index → Met
  missed f c =
      by_code pattern block
      (λ z. by-limit pattern block limit lent_work lent_result
      (λ l. (nothing, zeros lent_work, zeros lent_result, SearchCall.cannot_match z f l c refl refl refl))
      (λ n. passed (λ q. f) (λ y l. absurd (n l))))
      (λ n. passed (λ q. f) (λ y. absurd (n y)))

  checked : (pattern_answer pattern).code ≡ 0 → Met
  checked z =
      by-test (index_broken index)
      (λ t. (refused 15 0, zeros lent_work, zeros lent_result, SearchCall.refused_index z t refl refl refl))
      (λ f. ⊎_elim (missed f) (λ (n : ¬ CannotMatch (pattern_in pattern) index). passed (λ q. f) (λ y l. n)) (can-or-cannot (pattern_in pattern) index))

  pub search-met : Met
  search-met = go (ℕ_discrete (pattern_answer pattern).code 0)
    where
      go : Dec ((pattern_answer pattern).code ≡ 0) → Met
      go (yes z) = checked z
      go (no n) = passed (λ z. absurd (n z)) (λ y. absurd (n (input-accepts pattern block y).0))
