-- Tests over lists, and the parts of a list that pass one.
use Rattle.std.specs.Prelude.{Bool, true, false, ◌&&◌, List, [], ◌∷◌, ◌++◌}

-- Serves rules 4.1, 4.2, 4.3, 5.2, 5.8
abbrev pub implies : Bool → Bool → Bool
implies true b = b
implies false b = true

module _ {A : Type 0} where
  -- Serves rules 4.1, 4.2, 4.3, 5.2, 5.3, 5.8, 5.9: every entry passes the test
  unfoldable pub all : (A → Bool) → List A → Bool
  all test [] = true
  all test (a ∷ l) = test a && all test l

  -- Serves rule 5.3: a in front of l, where the flag says so
  unfoldable pub keep : Bool → A → List A → List A
  keep true a l = a ∷ l
  keep false a l = l

  -- Serves rules 4.7, 5.3: the entries that pass the test, in their order
  unfoldable pub filter : (A → Bool) → List A → List A
  filter test [] = []
  filter test (a ∷ l) = keep (test a) a (filter test l)

module _ {A B : Type 0} where
  -- Serves rule 7.1: what each entry gives, one after the other
  unfoldable pub collect : (A → List B) → List A → List B
  collect f [] = []
  collect f (a ∷ l) = f a ++ collect f l
