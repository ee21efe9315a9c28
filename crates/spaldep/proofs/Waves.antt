-- The C calls of the passes see no wave that no condition asks for: of a block, and of the block without the waves of
-- its events, they promise the same packed answer and the same bytes of the host's memory. Assumes nothing.
use mathlib.Core.Path.{◌≡◌, sym, ◌∙◌}
use mathlib.Core.List.{List}
use Prim.Native.Nat.{ℕ}
use Rattle.rule.specs.Calls.{pattern_in}
use Rattle.rule.specs.Waves.{AsksNoWave, without_waves}
use Rattle.rule.proofs.Waves.{code_same, start-by-start-with, forward-with}
use Rattle.spaldep.specs.Host.{StartByStartHost, ForwardHost}
use Rattle.spaldep.proofs.One.{start-by-start-host-one, forward-host-one}

module _ (pattern block : List ℕ) (none : AsksNoWave (pattern_in pattern)) where
  start-by-start-host-with :
      (lent word : ℕ) (result : List ℕ)
      → StartByStartHost pattern (without_waves block) lent word result
      → StartByStartHost pattern block lent word result
  start-by-start-host-with lent word result (StartByStartHost.refused_result z n w r) =
      StartByStartHost.refused_result (sym (code_same pattern block) ∙ z) n w r
  start-by-start-host-with lent word result (StartByStartHost.called f a h w) =
      StartByStartHost.called (λ z. f (code_same pattern block ∙ z)) a
      (start-by-start-with pattern block none lent a result h)
      w

  forward-host-with :
      (limit lent_work lent_result word : ℕ) (work result : List ℕ)
      → ForwardHost pattern (without_waves block) limit lent_work lent_result word work result
      → ForwardHost pattern block limit lent_work lent_result word work result
  forward-host-with limit lent_work lent_result word work result (ForwardHost.refused_result z n w y r) =
      ForwardHost.refused_result (sym (code_same pattern block) ∙ z) n w y r
  forward-host-with limit lent_work lent_result word work result (ForwardHost.called f a h w) =
      ForwardHost.called (λ z. f (code_same pattern block ∙ z)) a
      (forward-with pattern block none limit lent_work lent_result a work result h)
      w

  pub host-start-by-start-waves :
      (lent word other : ℕ) (result after : List ℕ)
      → StartByStartHost pattern block lent word result
      → StartByStartHost pattern (without_waves block) lent other after
      → (word ≡ other) × (result ≡ after)
  host-start-by-start-waves lent word other result after f g =
      start-by-start-host-one pattern block lent word other result after f
      (start-by-start-host-with lent other after g)

  pub host-forward-waves :
      (limit lent_work lent_result word other : ℕ) (work other_work result after : List ℕ)
      → ForwardHost pattern block limit lent_work lent_result word work result
      → ForwardHost pattern (without_waves block) limit lent_work lent_result other other_work after
      → (word ≡ other) × (work ≡ other_work) × (result ≡ after)
  host-forward-waves limit lent_work lent_result word other work other_work result after f g =
      forward-host-one pattern block limit lent_work lent_result word other work other_work result after f
      (forward-host-with limit lent_work lent_result other other_work after g)
