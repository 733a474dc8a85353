-- Names of zones.
use Rattle.std.specs.Prelude.{ℕ, Bool, ◌&&◌, nat_le, List, length}
use Rattle.std.specs.List.{list_all}
use Rattle.std.specs.Str.{bytes_eq}

-- the maximum number of characters of a name
abbrev pub max_name : ℕ
max_name = 31

-- whether a name has 1 to `max_name` characters, each visible: 33 to 126
abbrev pub is_name : List ℕ → Bool
is_name name = nat_le 1 (length name) && nat_le (length name) max_name && list_all (λ b. nat_le 33 b && nat_le b 126) name

-- whether two names are the same
abbrev pub same_name : List ℕ → List ℕ → Bool
same_name = bytes_eq
