-- How a line is cut into its comment, its labels, and the word and the operands of its instruction.
use Rattle.std.specs.Prelude.{ℕ, ◌-◌, Bool, ◌&&◌, ◌||◌, ◌==◌, nat_le, List, [], length, take, drop, map, slice_index_or, if◌then◌else◌}
use Rattle.std.specs.List.{slice_split, before_first, prefix_len, suffix_len, list_all}

-- space, tab, carriage return
abbrev pub is_blank : ℕ → Bool
is_blank b = b == 32 || b == 9 || b == 13

-- bytes that a line may have: 32 to 126, tab, carriage return
abbrev pub is_text : ℕ → Bool
is_text b = (nat_le 32 b && nat_le b 126) || b == 9 || b == 13

abbrev pub is_newline : ℕ → Bool
is_newline b = b == 10

abbrev pub is_hash : ℕ → Bool
is_hash b = b == 35

abbrev pub is_colon : ℕ → Bool
is_colon b = b == 58

abbrev pub is_comma : ℕ → Bool
is_comma b = b == 44

-- a text without the blanks at the front
abbrev pub trim_start : List ℕ → List ℕ
trim_start s = drop (prefix_len is_blank s) s

-- a text without the blanks at the end
abbrev pub trim_end : List ℕ → List ℕ
trim_end s = take (length s - suffix_len is_blank s) s

abbrev pub trim : List ℕ → List ℕ
trim s = trim_end (trim_start s)

-- a line without its comment and the blanks around it, cut at each colon
abbrev pub pieces : List ℕ → List (List ℕ)
pieces line = slice_split is_colon (trim (before_first is_hash line))

-- all pieces but the last are labels
abbrev pub labels_in : List (List ℕ) → List (List ℕ)
labels_in ps = map trim_start (take (length ps - 1) ps)

-- the last piece is empty or an instruction
abbrev pub instruction_in : List (List ℕ) → List ℕ
instruction_in ps = trim_start (slice_index_or ps (length ps - 1) [])

-- the word of an instruction ends at its first blank
abbrev pub word_in : List ℕ → List ℕ
word_in instruction = before_first is_blank instruction

-- what follows the word is cut at each comma; there are no operands if only blanks follow
abbrev pub operands_in : List ℕ → List (List ℕ)
operands_in rest = if list_all is_blank rest then [] else slice_split is_comma rest
