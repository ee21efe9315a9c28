-- `tables::rows` meets its contract: a row is what stands before the first line feed of what is left. Assumes nothing.
use Rattle.std.proofs.Common.{rules, arith, of_calls, ◌≡◌, ◌+◌, ◌-◌, ◌<◌, List, [], ◌∷◌, ℕ, Result, Ok, Err, length, take, drop, min, subst, length-drop}
use lib.Seq.{take_all}
use Rattle.tables.specs.Rows.{EachRow, FirstFrom, line_feed}
use Rattle.tables.proofs.rows.Goals as goal

module _ {F E : Type 0} {call : F → List ℕ → Result (Unit {0}) E → F → Type 0} where
  one_more :
      {f g : F} {r : Result (Unit {0}) E} (text : List ℕ) (end next : ℕ) → 0 < length text → FirstFrom text line_feed 0 end
      → next ≡ min (end + 1) (length text)
      → call f (take end text) (Ok tt) g
      → EachRow call g (take (length text - next) (drop next text)) r
      → EachRow call f text r
  one_more {f} {g} {r} text end next some found e here later =
      let left : length (drop next text) ≡ length text - next = length-drop next text in
      let same = take_all (length text - next) (drop next text) (omega arith) in
      EachRow.one
      next
      some
      (record { place = end; found = found; behind = λ h. omega arith; at_end = λ h. omega arith })
      here
      (subst (λ rest. EachRow call g rest r) same later)

  one_failed :
      {f : F} {e : E} {r : Result (Unit {0}) E} (g : F) (text : List ℕ) (end : ℕ) → 0 < length text
      → FirstFrom text line_feed 0 end
      → call f (take end text) (Err e) g
      → Err e ≡ r
      → EachRow call f text r
  one_failed {f} {e} {r} g text end some found here same =
      subst
      (EachRow call f text)
      same
      (EachRow.failed
      (min (end + 1) (length text))
      some
      (record { place = end; found = found; behind = λ h. omega arith; at_end = λ h. omega arith })
      here)

  no_more : {f : F} (text : List ℕ) → length text ≡ 0 → EachRow call f text (Ok tt)
  no_more [] h = EachRow.none
  no_more (byte ∷ text) h = absurd (omega arith)

pub loop-rest-preserved : goal.loop-rest-preserved
loop-rest-preserved g c =
    (search of_calls, search rules, λ r rows. c.loop-rest.invariant.2 r (one_more _ c.first_from-end.result c.min.result (search rules) c.first_from-end.ensures c.min.ensures (search rules) rows))

pub returns : goal.returns
returns g c = c.loop-rest.invariant.2 _ (no_more _ (search rules))

pub returns-in_err-row : goal.returns-in_err-row
returns-in_err-row g c = c.loop-rest.invariant.2 _ (one_failed {e = c.in_err-row.field-0.0} c.row.new.self _ c.first_from-end.result (search rules) c.first_from-end.ensures (search rules) (search rules))
