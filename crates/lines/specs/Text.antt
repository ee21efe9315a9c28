-- What the match program writes: a line for each reported reading, and last how the call ended. Text is a list
-- of ASCII codes.
use Rattle.std.specs.Prelude.{true, false, List, [], ◌∷◌, ◌++◌, ℕ, ◌+◌, ◌*◌, ◌/◌, eqb}
use Rattle.numbers.specs.Decimal.{decimal}
use Rattle.records.specs.declared.Answer.{Answer}
use Rattle.rule.specs.Rule.{Binding, Reading, Line}

-- Serves rule 9.2
abbrev pub line_feed : ℕ
line_feed = 10

-- Serves rule 9.2
abbrev pub space : ℕ
space = 32

-- Serves rule 9.2
abbrev pub at_sign : ℕ
at_sign = 64

-- Serves rule 9.2: a number behind a sign
abbrev pub after : ℕ → ℕ → List ℕ
after sign n = sign ∷ decimal n

-- Rule 9.2
unfoldable pub binding_text : Binding → List ℕ
binding_text b = after space b.variable ++ after at_sign b.at

-- Rule 9.2: the oldest binding first; a reading has its latest first
unfoldable pub reading_text : Reading → List ℕ
reading_text [] = []
reading_text (b ∷ bs) = reading_text bs ++ binding_text b

-- Rule 9.2
unfoldable pub line_text : Line → List ℕ
line_text x = decimal x.mark ++ reading_text x.reading ++ (line_feed ∷ [])

-- Rule 9.2
unfoldable pub report_text : List Line → List ℕ
report_text [] = []
report_text (x ∷ l) = line_text x ++ report_text l

-- Serves rule 9.2
abbrev pub ok_word : List ℕ
ok_word = 111 ∷ 107 ∷ []

-- Serves rule 9.2
abbrev pub refused_word : List ℕ
refused_word = 114 ∷ 101 ∷ 102 ∷ 117 ∷ 115 ∷ 101 ∷ 100 ∷ []

-- Rule 9.2
unfoldable pub ok_text : Answer → List ℕ
ok_text a = ok_word ++ after space a.readings ++ after space a.used ++ after space a.peak ++ (line_feed ∷ [])

-- Rule 9.2
unfoldable pub refused_text : Answer → List ℕ
refused_text a = refused_word ++ after space a.code ++ after space a.place ++ (line_feed ∷ [])

-- Rule 9.2: all that is written of an answer and of the lines of its report
unfoldable pub answer_text : Answer → List Line → List ℕ
answer_text a l = elim (eqb a.code 0) [ true ↦ report_text l ++ ok_text a | false ↦ refused_text a ]

-- ## Room for the text

-- a number of a result is a head, at most `15` and its line feed, or a binding, at most ` 15@4095`
abbrev pub number_room : ℕ
number_room = 8

-- the last line has at most a word and three numbers
abbrev pub last_room : ℕ
last_room = 70

-- a result of so many bytes
abbrev pub text_room : ℕ → ℕ
text_room lent = number_room * (lent / 2) + last_room
