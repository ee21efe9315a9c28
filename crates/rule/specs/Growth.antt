-- The rule in the form that the list functions are proved by: a reading grows by one binding, `k` records are read. It
-- is the rule of specs/Rule where times never fall (proofs/Written). No promise of a public call names this file.
use Rattle.std.specs.Prelude.{◌≡◌, true, false, ℕ, ◌≤◌, ◌<◌}
use mathlib.Core.List.{List, [], ◌∷◌, Memᴰ}
use Rattle.patterns.specs.declared.Pattern.{Pattern}
use Rattle.rule.specs.Rule.{Block, Binding, Reading, Event, InWindow, last_of, fires, is_full, Line, Closes, Rising}

-- record i leaves the reading r as it is: it is an event inside the window, and fires no step
pub record Passed (p : Pattern) (B : Block) (r : Reading) (i : ℕ) : Type 0 where
  pub event : Event B i
  pub near : InWindow p B r i
  pub none : (v : ℕ) → fires p B r v i ≡ false

-- the records after the last binding of r and below k leave it as it is
pub record Kept (p : Pattern) (B : Block) (r : Reading) (k : ℕ) : Type 0 where
  pub later : last_of r < k
  pub passed : (i : ℕ) → last_of r < i → i < k → Passed p B r i

-- the record of a is bound, as the reading r goes on
pub record Taken (p : Pattern) (B : Block) (r : Reading) (a : Binding) : Type 0 where
  pub event : Event B a.at
  pub near : InWindow p B r a.at
  pub fire : fires p B r a.variable a.at ≡ true

-- rules 5.4 to 5.6, binding by binding
abbrev pub Partial : Pattern → Block → Reading → Type 0
Partial p B [] = ⊥
Partial p B (b ∷ []) = Event B b.at × (fires p B [] b.variable b.at ≡ true)
Partial p B (a ∷ b ∷ bs) = Partial p B (b ∷ bs) × Kept p B (b ∷ bs) a.at × Taken p B (b ∷ bs) a

-- live once the first k records are read; after record j that is Live p B r (suc j)
pub record Live (p : Pattern) (B : Block) (r : Reading) (k : ℕ) : Type 0 where
  pub reads : Partial p B r
  pub kept : Kept p B r k

-- the line is reported at record J or before
pub record Reported (p : Pattern) (B : Block) (J : ℕ) (x : Line) : Type 0 where
  pub at : ℕ
  pub by : at ≤ J
  pub live : Live p B x.reading at
  pub closes : Closes p B x.reading at x.mark
  pub full : is_full p x.reading ≡ true

-- the report of what has closed at record J or before; of the whole block, J is length B
pub record IsReport (p : Pattern) (B : Block) (J : ℕ) (l : List Line) : Type 0 where
  pub rising : Rising l
  pub sound : (x : Line) → Memᴰ x l → Reported p B J x
  pub complete : (x : Line) → Reported p B J x → Memᴰ x l
