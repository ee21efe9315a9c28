-- What a C call answers where the result slice is not in order. Assumes nothing.
use mathlib.Core.Path.{◌≡◌, ◌∙◌, refl, sym, ap}
use mathlib.Core.Bool.{true, false}
use mathlib.Core.List.{List}
use Prim.Native.Nat.{ℕ}
use native.Mathlib.Omega.{arith}
use borrow.Author.Tests.{eq-eqb, ne_eqb, eqb-true, eqb-false}
use lib.Dec.{eqb}
use Rattle.numbers.proofs.Cases.{by-test}
use Rattle.records.specs.declared.Answer.{Answer}
use Rattle.std.specs.Prelude.{Result, Ok, Err}
use Rattle.records.specs.Blocks.{refused, block_answer}
use Rattle.records.specs.declared.refusals.Refusal.{Refusal}
use Rattle.records.specs.Refusals.{judged_as}
use Rattle.automaton.proofs.Membership.{clash}
use Rattle.patterns.specs.declared.Checked.{Checked}
use Rattle.patterns.specs.Checked.{pattern_answer, checked_of}
use Rattle.rule.specs.Calls.{input_answer, zeros, StartByStartCall, ForwardCall}
use Rattle.rule.proofs.Inputs.{input-pattern, input-block, input-accepts}
use Rattle.forward.proofs.Calls.{code-some}
use Rattle.index.specs.Index.{index_broken}
use Rattle.index.specs.Upto.{first_refusal}
use Rattle.index.specs.Promises.{SearchCall}
use Rattle.index.proofs.Refusals.{first-pattern, first-index, first-none}
use Rattle.spaldep.specs.Packed.{packed_answer}
use Rattle.spaldep.specs.Host.{ResultInOrder, unfit_of, unfit_answer, StartByStartHost, ForwardHost, SearchHost, unfit_search}

module _ (pattern block : List ℕ) where
  pub unfit-input : ¬ ((input_answer pattern block).code ≡ 0) → unfit_answer pattern block ≡ input_answer pattern block
  unfolding unfit_answer
  unfit-input n = rw (ne_eqb (input_answer pattern block).code 0 n, unfit_answer)

  pub unfit-result : (input_answer pattern block).code ≡ 0 → unfit_answer pattern block ≡ refused 8 0
  unfolding unfit_answer
  unfit-result e = rw (eq-eqb (input_answer pattern block).code 0 e, unfit_answer)

  -- what is judged before, by the refusals
  pub unfit-judged :
      (r : Result ℕ Refusal) → judged_as r ≡ input_answer pattern block → unfit_of r ≡ unfit_answer pattern block
  unfit-judged (Ok n) e = sym (unfit-result (ap (λ (a : Answer). a.code) (sym e)))
  unfit-judged (Err r) e = e ∙ sym (unfit-input (λ z. code-some r (ap (λ (a : Answer). a.code) e ∙ z)))

  pub unfit-pattern :
      (r : Refusal) → checked_of (Err r) ≡ pattern_answer pattern → unfit_of (Err r) ≡ unfit_answer pattern block
  unfit-pattern r e =
      unfit-judged (Err r)
      (ap (λ (k : Checked). refused k.code k.place) e
      ∙ sym (input-pattern pattern block (λ z. code-some r (ap (λ (k : Checked). k.code) e ∙ z))))

  pub unfit-block :
      (r : Result ℕ Refusal) → (pattern_answer pattern).code ≡ 0 → judged_as r ≡ block_answer block
      → unfit_of r ≡ unfit_answer pattern block
  unfit-block r p e = unfit-judged r (e ∙ sym (input-block pattern block p))

  pub unfit-start :
      (lent word : ℕ) (result : List ℕ) → ¬ ResultInOrder lent
      → word ≡ packed_answer (unfit_answer pattern block) → result ≡ zeros lent
      → StartByStartHost pattern block lent word result
  unfit-start lent word result bad w z =
      by-test (eqb (input_answer pattern block).code 0)
      (λ t. let e = eqb-true (input_answer pattern block).code 0 t in StartByStartHost.refused_result e bad (w ∙ ap packed_answer (unfit-result e)) z)
      (λ t.
      let n = eqb-false (input_answer pattern block).code 0 t in
      StartByStartHost.called (λ e. absurd (n e)) (input_answer pattern block) (StartByStartCall.refused_input n refl z) (w ∙ ap packed_answer (unfit-input n)))

  pub unfit-forward :
      (limit lent_work lent_result word : ℕ) (work result : List ℕ) → ¬ ResultInOrder lent_result
      → word ≡ packed_answer (unfit_answer pattern block) → work ≡ zeros lent_work → result ≡ zeros lent_result
      → ForwardHost pattern block limit lent_work lent_result word work result
  unfit-forward limit lent_work lent_result word work result bad w y z =
      by-test (eqb (input_answer pattern block).code 0)
      (λ t. let e = eqb-true (input_answer pattern block).code 0 t in ForwardHost.refused_result e bad (w ∙ ap packed_answer (unfit-result e)) y z)
      (λ t.
      let n = eqb-false (input_answer pattern block).code 0 t in
      ForwardHost.called (λ e. absurd (n e)) (input_answer pattern block) (ForwardCall.refused_input n refl y z) (w ∙ ap packed_answer (unfit-input n)))

module _ (pattern index block : List ℕ) where
  abbrev first : Answer
  first = first_refusal (pattern_answer pattern).code (pattern_answer pattern).place (index_broken index)

  unfit-first : ¬ (first.code ≡ 0) → unfit_search pattern index block ≡ first
  unfolding unfit_search
  unfit-first n = rw (ne_eqb first.code 0 n, unfit_search)

  unfit-rest : first.code ≡ 0 → unfit_search pattern index block ≡ unfit_answer pattern block
  unfolding unfit_search
  unfit-rest e = rw (eq-eqb first.code 0 e, unfit_search)

  refused-pattern : ¬ ((pattern_answer pattern).code ≡ 0) → unfit_search pattern index block ≡ input_answer pattern block
  refused-pattern n =
      let e = first-pattern (pattern_answer pattern).code (pattern_answer pattern).place (index_broken index) n in
      unfit-first (λ z. n (sym (ap (λ (a : Answer). a.code) e) ∙ z)) ∙ e ∙ sym (input-pattern pattern block n)

  pub refused_index :
      (pattern_answer pattern).code ≡ 0 → index_broken index ≡ true → unfit_search pattern index block ≡ refused 15 0
  refused_index p b =
      let e = ap (first_refusal (pattern_answer pattern).code (pattern_answer pattern).place) b ∙ first-index (pattern_answer pattern).code (pattern_answer pattern).place p in
      unfit-first (λ z. let q = sym (ap (λ (a : Answer). a.code) e) ∙ z in omega arith) ∙ e

  pub judged-block :
      (pattern_answer pattern).code ≡ 0 → index_broken index ≡ false
      → unfit_search pattern index block ≡ unfit_answer pattern block
  judged-block p f =
      let e = ap (first_refusal (pattern_answer pattern).code (pattern_answer pattern).place) f ∙ first-none (pattern_answer pattern).code (pattern_answer pattern).place p in
      unfit-rest (ap (λ (a : Answer). a.code) e)

  -- what is judged before a search, by the refusals
  pub unfit-search-pattern :
      (r : Refusal) → checked_of (Err r) ≡ pattern_answer pattern → unfit_of (Err r) ≡ unfit_search pattern index block
  unfit-search-pattern r e =
      let n : ¬ ((pattern_answer pattern).code ≡ 0) = λ z. code-some r (ap (λ (k : Checked). k.code) e ∙ z) in
      ap (λ (k : Checked). refused k.code k.place) e ∙ sym (input-pattern pattern block n) ∙ sym (refused-pattern n)

  module _ (limit lent_work lent_result word : ℕ) (work result : List ℕ) (bad : ¬ ResultInOrder lent_result)
      (y : work ≡ zeros lent_work) (z : result ≡ zeros lent_result) where
    -- where pattern or block is refused, the search refuses as the forward pass does
    search-input :
        ¬ ((input_answer pattern block).code ≡ 0) → ((pattern_answer pattern).code ≡ 0 → index_broken index ≡ false)
        → word ≡ packed_answer (input_answer pattern block)
        → SearchHost pattern index block limit lent_work lent_result word work result
    search-input n f w =
        SearchHost.called (λ e. absurd (n e)) (input_answer pattern block)
        (SearchCall.forwarded f (λ e. absurd (n e)) (ForwardCall.refused_input n refl y z))
        w

    search-judged :
        index_broken index ≡ false → word ≡ packed_answer (unfit_answer pattern block)
        → SearchHost pattern index block limit lent_work lent_result word work result
    search-judged f w =
        by-test (eqb (input_answer pattern block).code 0)
        (λ t.
        let e = eqb-true (input_answer pattern block).code 0 t in
        SearchHost.refused_result e f bad (w ∙ ap packed_answer (unfit-result pattern block e)) y z)
        (λ t.
        let n = eqb-false (input_answer pattern block).code 0 t in
        search-input n (λ p. f) (w ∙ ap packed_answer (unfit-input pattern block n)))

    pub unfit-search :
        word ≡ packed_answer (unfit_search pattern index block)
        → SearchHost pattern index block limit lent_work lent_result word work result
    unfit-search w =
        by-test (eqb (pattern_answer pattern).code 0)
        (λ t.
        let p = eqb-true (pattern_answer pattern).code 0 t in
        by-test (index_broken index)
        (λ b.
        SearchHost.called (λ e f. clash b f) (refused 15 0) (SearchCall.refused_index p b refl y z)
        (w ∙ ap packed_answer (refused_index p b)))
        (λ f. search-judged f (w ∙ ap packed_answer (judged-block p f))))
        (λ t.
        let n = eqb-false (pattern_answer pattern).code 0 t in
        search-input (λ e. n (input-accepts pattern block e).0) (λ p. absurd (n p)) (w ∙ ap packed_answer (refused-pattern n)))
