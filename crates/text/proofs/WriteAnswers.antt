-- What the writer promises of a pattern that is read. Assumes nothing.
use mathlib.Core.Path.{◌≡◌, sym, subst}
use mathlib.Core.List.{List}
use Prim.Native.Nat.{ℕ, ◌^◌, ◌<◌}
use native.Mathlib.Omega.{arith}
use lib.ListN.{get_or}
use Rattle.std.specs.Prelude.{Ok}
use Rattle.records.specs.declared.Answer.{Answer}
use Rattle.patterns.specs.declared.Pattern.{Pattern}
use Rattle.patterns.specs.Checked.{pattern_up_to, pattern_of, pattern_answer, checked_of}
use Rattle.patterns.proofs.InOrder.{read-accepted, read-pattern}
use Rattle.form.specs.Form.{text_of}
use Rattle.form.specs.Promises.{Names, WritePromise}
use Rattle.wording.specs.Wording.{making_of}
use Rattle.wording.proofs.Written.{named}
use Rattle.text.specs.Given.{Given}

short : (pattern : List ℕ) → (pattern_of pattern).duration < 2 ^ 40
unfolding pattern_of pattern_up_to
short pattern = omega arith

module _ (pattern : List ℕ) (p : Pattern) (is : checked_of (Ok p) ≡ pattern_answer pattern) where
  pub read-short : p.duration < 2 ^ 40
  read-short = subst (λ (q : Pattern). q.duration < 2 ^ 40) (sym (read-pattern pattern p is)) (short pattern)

  read-named : ((i : ℕ) → get_or pattern i 0 < 256) → Names pattern (making_of p)
  read-named small =
      subst (λ (q : Pattern). Names pattern (making_of q)) (sym (read-pattern pattern p is))
      (named pattern (read-accepted pattern p is) small)

  pub write-given :
      (lent : ℕ) (answer : Answer) (after : List ℕ) → ((i : ℕ) → get_or pattern i 0 < 256)
      → Given (text_of (making_of p)) lent answer after
      → WritePromise pattern lent answer after
  write-given lent answer after small (Given.short l r) =
      WritePromise.no_room (read-accepted pattern p is) (making_of p) (read-named small) l r.told r.cleared
  write-given lent answer after small (Given.whole l a x) =
      WritePromise.wrote (read-accepted pattern p is) (making_of p) (read-named small) l a x
