-- Patterns: what the bytes mean, and when they are in order.
use Rattle.std.specs.Prelude.{Bool, true, false, not, ◌||◌, List, ℕ, suc, ◌+◌, ◌-◌, ◌*◌, eqb, ltb, leb, get_or}
use Rattle.patterns.specs.declared.Condition.{Condition}
use Rattle.numbers.specs.Numbers.{number, field, count}

-- ## Header

-- Rule 2.1
abbrev pub header_bytes : ℕ
header_bytes = 8

-- Rule 2.1
abbrev pub most_variables : ℕ
most_variables = 12

-- Rule 2.1
abbrev pub most_conditions : ℕ
most_conditions = 32

-- Rule 2.1: the header as one number
unfoldable pub header : List ℕ → ℕ
header bytes = number bytes 0 8

-- Rule 2.1
abbrev pub edition : List ℕ → ℕ
edition bytes = field 4 60 (header bytes)

-- Rule 2.1
abbrev pub variable_count : List ℕ → ℕ
variable_count bytes = field 4 56 (header bytes)

-- Rule 2.1
abbrev pub condition_count : List ℕ → ℕ
condition_count bytes = field 8 48 (header bytes)

-- Rule 2.1
abbrev pub header_zero : List ℕ → ℕ
header_zero bytes = field 8 40 (header bytes)

-- Rule 2.1
abbrev pub duration : List ℕ → ℕ
duration bytes = field 40 0 (header bytes)

-- Rule 8.2
unfoldable pub header_broken : List ℕ → Bool
header_broken bytes =
    not (eqb (edition bytes) 1)
    || (ltb (variable_count bytes) 1
    || (ltb most_variables (variable_count bytes)
    || (ltb most_conditions (condition_count bytes)
    || not (eqb (header_zero bytes) 0))))

-- ## Variables

-- Rule 2.2
abbrev pub most_sets : ℕ
most_sets = 8

-- Rule 2.2
abbrev pub most_in_set : ℕ
most_in_set = 6

-- Rule 2.2
abbrev pub variable_byte : List ℕ → ℕ → ℕ
variable_byte bytes v = get_or bytes (header_bytes + v) 0

-- Rule 2.2
unfoldable pub set_number : List ℕ → ℕ → ℕ
set_number bytes v = field 4 4 (variable_byte bytes v)

-- Rule 2.2
unfoldable pub group_flag : List ℕ → ℕ → Bool
group_flag bytes v = eqb (field 1 3 (variable_byte bytes v)) 1

-- Rule 2.2
unfoldable pub variable_zero : List ℕ → ℕ → ℕ
variable_zero bytes v = field 3 0 (variable_byte bytes v)

-- Rule 2.2: how many of the first k variables are in the set
abbrev pub members : List ℕ → ℕ → ℕ → ℕ
members bytes set k = count (λ u. eqb (set_number bytes u) set) k

-- Rule 2.2: the least set that variable v may be in
unfoldable pub least_set : List ℕ → ℕ → ℕ
least_set bytes v = elim (eqb v 0) [ true ↦ 1 | false ↦ set_number bytes (v - 1) ]

-- Rule 2.2: the greatest set that variable v may be in
unfoldable pub greatest_set : List ℕ → ℕ → ℕ
greatest_set bytes v = elim (eqb v 0) [ true ↦ 1 | false ↦ set_number bytes (v - 1) + 1 ]

-- Rule 8.3: by the bytes of variable v and of those before it
unfoldable pub variable_broken : List ℕ → ℕ → Bool
variable_broken bytes v =
    ltb (set_number bytes v) (least_set bytes v)
    || (ltb (greatest_set bytes v) (set_number bytes v)
    || (ltb most_sets (set_number bytes v)
    || (ltb most_in_set (members bytes (set_number bytes v) (suc v))
    || not (eqb (variable_zero bytes v) 0))))

-- ## Conditions

-- Rule 2.3
abbrev pub condition_bytes : ℕ
condition_bytes = 8

-- Rule 2.3: where condition i begins, behind n variables
abbrev pub condition_place : ℕ → ℕ → ℕ
condition_place n i = header_bytes + n + condition_bytes * i

-- Rule 2.3: the fields of a condition's 64 bits
unfoldable pub condition_of : ℕ → Condition
condition_of word =
    record {
      variable = field 4 60 word;
      attribute = field 3 57 word;
      operator = field 3 54 word;
      form = field 1 53 word;
      variable2 = field 4 49 word;
      attribute2 = field 3 46 word;
      constant = field 32 0 word;
    }

-- Rule 2.3: the bits that must be 0
unfoldable pub condition_zero : ℕ → ℕ
condition_zero word = field 14 32 word

-- Rule 2.3: the 64 bits of condition i
unfoldable pub condition_word : List ℕ → ℕ → ℕ
condition_word bytes i = number bytes (condition_place (variable_count bytes) i) 8

-- Rule 2.3: the greatest attribute
abbrev pub last_attribute : ℕ
last_attribute = 5

-- Rule 2.3: the greatest operator
abbrev pub last_operator : ℕ
last_operator = 5

-- Rule 2.3: a field that the form does not use is not 0, or one that it uses names nothing
unfoldable pub form_broken : ℕ → Condition → Bool
form_broken n k =
    elim (eqb k.form 0) [
      | true ↦ not (eqb k.variable2 0) || not (eqb k.attribute2 0)
      | false ↦ not (eqb k.constant 0) || (leb n k.variable2 || ltb last_attribute k.attribute2)
    ]

-- Rule 8.4: of a pattern with n variables, by the condition's 64 bits
unfoldable pub condition_broken : ℕ → ℕ → Bool
condition_broken n word =
    leb n (condition_of word).variable
    || (ltb last_attribute (condition_of word).attribute
    || (ltb last_operator (condition_of word).operator
    || (not (eqb (condition_zero word) 0)
    || form_broken n (condition_of word))))
