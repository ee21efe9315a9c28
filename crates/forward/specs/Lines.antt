-- Reported readings put one after the other into a result.
use Rattle.std.specs.Prelude.{◌≡◌, Bool, true, false, List, ◌++◌, Result, Ok, Err, ℕ, ◌*◌, ◌/◌, ◌≤◌, ltb, length}
use Rattle.numbers.specs.Numbers.{bytes_of, written}
use Rattle.records.specs.declared.refusals.Refusal.{Refusal}
use Rattle.records.specs.declared.refusals.Refusal.TheVariants.{ResultRoom}
use Rattle.rule.specs.Rule.{Line, pack}
use Rattle.forward.specs.declared.Tell.{Tell}

-- the lines reported so far: whether they fit, and then the bytes and lines counted and the bytes written
pub record Told (lent result : List ℕ) (used readings : ℕ) (short : Bool) (out : List Line) : Type 0 where
  pub size : length result ≡ length lent
  pub fits : short ≡ ltb (length lent / 2) (length (pack out))
  pub used_is : short ≡ false → used ≡ 2 * length (pack out)
  pub readings_is : short ≡ false → readings ≡ length out
  pub told : short ≡ false → result ≡ written lent 0 (bytes_of (pack out))

-- the lines `more` were reported behind any that were reported before
pub record Wrote (old new : List ℕ) (u n : ℕ) (s : Bool) (u' n' : ℕ) (s' : Bool) (more : List Line) : Type 0 where
  pub behind : (lent : List ℕ) (out : List Line) → Told lent old u n s out → Told lent new u' n' s' (out ++ more)
  pub size : length new ≡ length old
  pub room : u' ≤ length new
  pub few : n' ≤ u'

-- the lines `more` were reported behind those of `t`, or the result is too short for them
abbrev pub Reported : List ℕ → List ℕ → Tell → Result Tell Refusal → List Line → Type 0
Reported old new t (Ok t') more = Wrote old new t.used t.readings false t'.used t'.readings false more
Reported old new t (Err r) more = (r ≡ ResultRoom) × Wrote old new t.used t.readings false 0 0 true more
