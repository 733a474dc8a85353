-- Words of the command line.
use Rattle.std.specs.Prelude.{◌≡◌, ℕ, ◌+◌, ◌-◌, ◌^◌, List, ◌∷◌, [], ◌++◌, Bool, true, false, ◌==◌, ◌&&◌, Option, Some, None, codes, length, nat_le, nat_lt}
use Rattle.std.specs.Prelude.{option_and_then, option_map, if◌then◌else◌}
use Rattle.std.specs.{Char.is_ascii_digit, List.list_all, List.slice_split, Option.option_map_or, Option.unwrap_or, Str.Parse.digits_value}
use Rattle.clap.specs.{Matches.first_value, Matches.matched_of, Matches.one_text, Matches.raw_values, declared.parser.matches.Found.Found}
use Rattle.dp_model.specs.declared.env.Entry.{Entry, TheVariants.Port, TheVariants.Ring}

-- the number of a node among its kind
abbrev pub number_of : Entry → ℕ
number_of (Port number) = number
number_of (Ring number) = number

-- the word of a node whose number has one digit: `port` or `ring`, and the digit
abbrev pub word_of : Entry → List ℕ
word_of (Port number) = codes "port" ++ (48 + number) ∷ []
word_of (Ring number) = codes "ring" ++ (48 + number) ∷ []

-- a word as a number: one or more decimal digits, below 2^64
abbrev pub number_in : List ℕ → Option ℕ
number_in word = if list_all is_ascii_digit word && (nat_lt 0 (length word) && nat_lt (digits_value 10 word) (2 ^ 64)) then Some (digits_value 10 word)
    else None

-- the number of an option, which is in a range, or its usual one
abbrev pub option_within : Option (List ℕ) → ℕ → ℕ → ℕ → Option ℕ
option_within None usual least most = Some usual
option_within (Some word) usual least most = option_and_then (λ n. if nat_le least n && nat_le n most then Some n else None) (number_in word)

-- a word as a port: below 8
abbrev pub port_in : List ℕ → Option ℕ
port_in word = option_and_then (λ n. if nat_lt n 8 then Some n else None) (number_in word)

-- the numbers of words, after earlier ones of which this is the last; none if a word is not a number above the one before it
abbrev pub ascending_from : ℕ → List ℕ → List (List ℕ) → Option (List ℕ)
ascending_from last earlier [] = Some earlier
ascending_from last earlier (word ∷ words) =
    option_and_then (λ n. if nat_lt last n then ascending_from n (earlier ++ n ∷ []) words else None) (number_in word)

-- the numbers of a list with commas between them, at least 1, ascending
abbrev pub numbers_in : List ℕ → Option (List ℕ)
numbers_in list = ascending_from 0 [] (slice_split (λ b. b == 44) list)

-- the calls that the words refuse: those of the list that is given, if there is one
abbrev pub calls_in : Found → Option (List ℕ)
calls_in found = option_map_or numbers_in (first_value found (codes "refuse")) (Some [])

-- an operand of the command line; empty if it is not there
abbrev pub operand : Found → List ℕ → List ℕ
operand found id = unwrap_or (first_value found id) []

-- the words of an option that may be given several times
abbrev pub words_of : Found → List ℕ → List (List ℕ)
words_of found id = unwrap_or (option_map raw_values (matched_of found id)) []

-- whether a flag of the command line is set
abbrev pub IsFlag : Found → List ℕ → Bool → Type 0
IsFlag found id value = (one_text found id ≡ None → value ≡ false) × (one_text found id ≡ Some (codes "true") → value ≡ true)
    × (one_text found id ≡ Some (codes "false") → value ≡ false)

-- the table of a word TABLE=FILE: TABLE is one digit from 0 to 3, and FILE is not empty
abbrev pub table_in : List ℕ → Option ℕ
table_in (digit ∷ sign ∷ byte ∷ bytes) = if nat_le 48 digit && nat_le digit 51 && (sign == 61) then Some (digit - 48) else None
table_in _ = None

-- the tables of words, after earlier ones; none if a word has not that form
abbrev pub tables_from : List ℕ → List (List ℕ) → Option (List ℕ)
tables_from earlier [] = Some earlier
tables_from earlier (word ∷ words) = option_and_then (λ table. tables_from (earlier ++ table ∷ []) words) (table_in word)
