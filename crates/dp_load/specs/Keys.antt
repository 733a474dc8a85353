-- How the values at the keys of a TOML table are read.
use Rattle.std.specs.Prelude.{ℕ, ℤ, pos, negsuc, Bool, ◌&&◌, nat_le, List, [], ◌∷◌, Option, Some, None, is_some, option_and_then, option_map, if◌then◌else◌}
use Rattle.std.specs.List.{list_all, list_any}
use Rattle.std.specs.Option.{option_map_or}
use Rattle.std.specs.Str.{bytes_eq}
use Rattle.toml.specs.Data.{Data, Items, no_items, item, Members, no_members, member, get_member, as_integer, as_str, as_array, as_table}

-- the elements of an array, in order
abbrev pub array_elements : Items → List Data
array_elements no_items = []
array_elements (item d ds) = d ∷ array_elements ds

-- the elements of a value; none if it is not an array
abbrev pub elements_of : Data → List Data
elements_of d = option_map_or array_elements (as_array d) []

-- the elements of the array at a key; none if there is no array
abbrev pub elements_at : List ℕ → Members → List Data
elements_at key table = option_map_or elements_of (get_member key table) []

-- a value is a text, a table, an array
abbrev pub is_text : Data → Bool
is_text d = is_some (as_str d)

abbrev pub is_table : Data → Bool
is_table d = is_some (as_table d)

abbrev pub is_array : Data → Bool
is_array d = is_some (as_array d)

-- an array whose elements are all of a kind
abbrev pub is_array_of : (Data → Bool) → Data → Bool
is_array_of kind d = is_array d && list_all kind (elements_of d)

-- the keys of a table
abbrev pub keys_in : Members → List (List ℕ)
keys_in no_members = []
keys_in (member key value rest) = key ∷ keys_in rest

-- a key is one of these
abbrev pub is_among : List (List ℕ) → List ℕ → Bool
is_among keys key = list_any (λ known. bytes_eq known key) keys

-- each key of the table is one of these
abbrev pub has_only : List (List ℕ) → Members → Bool
has_only keys table = list_all (is_among keys) (keys_in table)

-- a whole number from 0 to `most`
abbrev pub up_to : ℕ → ℤ → Option ℕ
up_to most (pos n) = if nat_le n most then Some n else None
up_to most (negsuc n) = None

-- the whole number at a key, if it is at most that
abbrev pub number_at : List ℕ → ℕ → Members → Option ℕ
number_at key most table = option_and_then (up_to most) (option_and_then as_integer (get_member key table))

-- the text at a key
abbrev pub text_at : List ℕ → Members → Option (List ℕ)
text_at key table = option_and_then as_str (get_member key table)

-- the text at an optional key
abbrev pub text_if_any : Option Data → Option (Option (List ℕ))
text_if_any None = Some None
text_if_any (Some d) = option_map (λ text. Some text) (as_str d)
