-- What comes of the lines of a text.
use Rattle.std.specs.Prelude.{ℕ, take, Result, Ok, Err}
use mathlib.Core.List.{List, ◌++◌, flat_map}
use Rattle.numbers.specs.Bytes.{word_bytes}
use Rattle.form.specs.Form.{Making, InForm}
use Rattle.form.specs.Lines.{FirstBad}
use Rattle.form.specs.Items.{items_of}
use Rattle.form.specs.Packed.{header_bits}
use Rattle.drafts.specs.declared.Draft.{Draft}
use Rattle.drafts.specs.Drafts.{Small, DraftOf}

-- a text of the form, with what it tells
pub record Good (text : List ℕ) (d : Draft) : Type 0 where
  pub making : Making
  pub form : InForm text making
  pub draft : DraftOf (items_of making) d
  pub small : Small d

-- what a text of the form tells, or the first line that is bad or missing
abbrev pub TextRead : List ℕ → Result Draft ℕ → Type 0
TextRead text (Ok d) = Good text d
TextRead text (Err line) = FirstBad text line

-- the bytes of the pattern of a draft
unfoldable pub draft_bytes : Draft → List ℕ
draft_bytes d =
    word_bytes (header_bits d.n d.c d.duration)
    ++ (take d.n d.variables ++ flat_map word_bytes (take d.c d.conditions))
