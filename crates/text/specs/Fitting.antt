-- Whether a pattern has fields for a draft.
use Rattle.std.specs.Prelude.{Bool, true, false, ◌^◌, ◌≤◌, ◌<◌}
use Rattle.patterns.specs.Patterns.{most_variables, most_conditions}
use Rattle.drafts.specs.declared.Draft.{Draft}

pub record DraftFits (d : Draft) : Type 0 where
  pub few : d.n ≤ most_variables
  pub few_conditions : d.c ≤ most_conditions
  pub short : d.duration < 2 ^ 40

-- whether a draft is too large
abbrev pub Measured : Draft → Bool → Type 0
Measured d false = DraftFits d
Measured d true = ¬ DraftFits d
