-- Captures that words give ports in place of those that a pipeline names.
use Rattle.std.specs.Prelude.{ℕ, ◌-◌, List, [], ◌∷◌, ◌++◌, Bool, true, false, ◌==◌, ◌&&◌, ◌||◌, Option, Some, None, codes, find, length}
use Rattle.std.specs.Prelude.{nat_le, nat_lt, option_map, option_and_then, if◌then◌else◌}
use Rattle.std.specs.List.{after_first, before_first, position_or_len}
use Rattle.std.specs.Option.{option_map_or, option_or}
use Rattle.std.specs.Str.{bytes_eq}
use Rattle.dp_captures.specs.declared.words.WordForm.{WordForm}
use Rattle.dp_captures.specs.declared.words.WordForm.TheVariants.{Named, Bare}
use Rattle.dp_captures.specs.declared.words.Place.{Place}
use Rattle.dp_captures.specs.declared.words.Place.TheVariants.{File, Stream, Nowhere}
use Rattle.dp_captures.specs.declared.words.Replaced.{Replaced}

-- the capture that a word gives a port: where it is, and its name
pub record Row : Type 0 where
  pub word : List ℕ
  pub port : ℕ
  pub place : Place
  pub name : List ℕ

abbrev pub row_of : Replaced → Row
row_of one = record { word = one.word.now; port = one.port; place = one.place; name = one.name.now }

-- a word as a port: one digit from 0 to 7
abbrev pub port_digit : List ℕ → Option ℕ
port_digit (digit ∷ []) = if nat_le 48 digit && nat_le digit 55 then Some (digit - 48) else None
port_digit _ = None

-- the capture of this name that a word gives a port: `-` names a standard stream, anything else a file
abbrev pub capture_named : List ℕ → ℕ → List ℕ → Row
capture_named word port name =
    record { word = word; port = port; place = if bytes_eq name (codes "-") then Stream else File; name = name }

-- the same, and none if there is no name
abbrev pub row_named : List ℕ → List ℕ → ℕ → Option Row
row_named word [] port = None
row_named word (byte ∷ bytes) port = Some (capture_named word port (byte ∷ bytes))

abbrev pub is_equals : ℕ → Bool
is_equals byte = byte == 61

-- the parts of a word before and after its first `=`
abbrev pub parts_in : List ℕ → Option (List ℕ × List ℕ)
parts_in word =
    if nat_lt (position_or_len is_equals word) (length word) then Some (before_first is_equals word, after_first is_equals word) else None

-- a word PORT=NAME: before its first `=` is a port, and after it a name
abbrev pub replaced_in : List ℕ → Option Row
replaced_in word = option_and_then (λ (parts : List ℕ × List ℕ). option_and_then (row_named word parts.1) (port_digit parts.0)) (parts_in word)

-- a word PORT: the capture of the port is nowhere
abbrev pub nowhere_in : List ℕ → Option Row
nowhere_in word = option_map (λ port. record { word = word; port = port; place = Nowhere; name = [] }) (port_digit word)

abbrev pub given_by : WordForm → List ℕ → Option Row
given_by Named word = replaced_in word
given_by Bare word = nowhere_in word

abbrev pub is_stream : Place → Bool
is_stream Stream = true
is_stream File = false
is_stream Nowhere = false

-- two captures cannot be given together: those of one port, and one stream for two
abbrev pub clashes : Row → Row → Bool
clashes other one = (other.port == one.port) || (is_stream other.place && is_stream one.place)

abbrev pub unless_found : Row → Option Row → Option Row
unless_found one None = Some one
unless_found one (Some other) = None

-- the capture that a word gives besides earlier ones
abbrev pub added : WordForm → List Row → List ℕ → Option Row
added form earlier word = option_and_then (λ one. unless_found one (find (λ other. clashes other one) earlier)) (given_by form word)

-- the captures that words give after earlier ones; none if a word gives none, or one that cannot be given together with an earlier one
abbrev pub rows_from : WordForm → List Row → List (List ℕ) → Option (List Row)
rows_from form earlier [] = Some earlier
rows_from form earlier (word ∷ words) = option_and_then (λ one. rows_from form (earlier ++ one ∷ []) words) (added form earlier word)

-- the captures of the words PORT=NAME and then PORT
abbrev pub rows_of : List (List ℕ) → List (List ℕ) → Option (List Row)
rows_of named bare = option_and_then (λ rows. rows_from Bare rows bare) (rows_from Named [] named)

-- what a word gives the only port of a pipeline
abbrev pub only : List ℕ → Row
only word = capture_named word 0 word

-- the capture of a port: the one that is given, or else the file of this name
abbrev pub capture_at : List Replaced → ℕ → List ℕ → Place × List ℕ
capture_at given port name = option_map_or (λ (one : Replaced). (one.place, one.name.now)) (find (λ (one : Replaced). one.port == port) given) (File, name)

-- the first port of captures that a pipeline with this number of ports does not have
abbrev pub missing_in : ℕ → List Replaced → Option ℕ
missing_in ports given = option_map (λ (one : Replaced). one.port) (find (λ (one : Replaced). nat_le ports one.port) given)

abbrev pub missing : ℕ → List Replaced → List Replaced → Option ℕ
missing ports inputs outputs = option_or (missing_in ports inputs) (missing_in ports outputs)
