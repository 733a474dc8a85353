-- Internal: the names of an engine's zones, and the order in which they are taken.
use Rattle.std.specs.Prelude.{◌≡◌, ℕ, ◌+◌, ◌*◌, ◌<◌, ◌==◌, codes, true, if◌then◌else◌, List, [], ◌∷◌, ◌++◌, length, slice_index}
use Rattle.std.specs.List.{AllByRecursion}
use Rattle.dp_zone.specs.Names.{is_name}
use Rattle.dp_zone.specs.Zones.{max_zones}
use Rattle.dp_engine.specs.declared.names.ListKind.{ListKind}
use Rattle.dp_engine.specs.declared.names.ListKind.TheVariants.{Port, Ring}

-- a word and a digit
abbrev pub numbered : List ℕ → ℕ → List ℕ
numbered word k = word ++ (48 + k) ∷ []

abbrev pub pool_name : ℕ → List ℕ
pool_name k = numbered (codes "pool") k

-- the name of the k-th ring of a kind
abbrev pub ring_name : ListKind → ℕ → List ℕ
ring_name Port k = numbered (codes "port") k
ring_name Ring k = numbered (codes "ring") k

-- the kind of a zone by the third letter of its name: first the spare zone, then those of ports, of rings and of pools
abbrev pub turn_of : ℕ → ℕ
turn_of letter = if letter == 97 then 0 else if letter == 114 then 1 else if letter == 110 then 2 else 3

-- a number that grows in the order in which zones are taken
abbrev pub rank : List ℕ → ℕ
rank name = 1000 * turn_of (slice_index name 2) + (10 * slice_index name 4 + length name)

-- all are taken before one of this rank
abbrev pub AllBefore : ℕ → List (List ℕ) → Type 0
AllBefore r names = AllByRecursion (λ n. rank n < r) names

-- the least rank of a kind
abbrev pub first_of : ListKind → ℕ
first_of Port = 1485
first_of Ring = 2485

-- and that of pools
abbrev pub first_pool : ℕ
first_pool = 3485

-- a name that comes after all of these, and there is room for one more
pub record IsNext (name : List ℕ) (names : List (List ℕ)) : Type 0 where
  pub named : is_name name ≡ true
  pub after : AllBefore (rank name) names
  pub few : length names < max_zones
