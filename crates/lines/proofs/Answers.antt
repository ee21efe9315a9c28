-- The text of an answer: of a refusal its one line, else the report's lines and the last one. Assumes nothing.
use mathlib.Core.Path.{◌≡◌}
use mathlib.Core.List.{List}
use Prim.Native.Nat.{ℕ}
use borrow.Author.Tests.{eq-eqb, ne_eqb}
use lib.ListN.{take}
use Rattle.records.specs.declared.Answer.{Answer}
use Rattle.rule.specs.Rule.{Line}
use Rattle.numbers.specs.Put.{Put}
use Rattle.lines.specs.Text.{report_text, ok_text, refused_text, answer_text}
use Rattle.numbers.proofs.Put.{put_then}

pub refused-put :
    (before after : List ℕ) (end : ℕ) (a : Answer) (l : List Line) → ¬ (a.code ≡ 0)
    → Put before after 0 (refused_text a) end
    → take end after ≡ answer_text a l
unfolding answer_text
refused-put before after end a l h p = rw (answer_text, ne_eqb a.code 0 h) p.wrote

pub ok-put :
    (before middle after : List ℕ) (last end : ℕ) (a : Answer) (l : List Line) → a.code ≡ 0
    → Put before middle 0 (report_text l) last
    → Put middle after last (ok_text a) end
    → take end after ≡ answer_text a l
unfolding answer_text
ok-put before middle after last end a l h p q = rw (answer_text, eq-eqb a.code 0 h) (put_then p q).wrote
