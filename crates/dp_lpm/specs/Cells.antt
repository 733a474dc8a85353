-- Internal: the entries of tables in four bytes each.
use Rattle.std.specs.Prelude.{ℕ, ◌/◌, ◌%◌, ◌<◌, ◌≤◌, ◌==◌, nat_le, nat_lt, if◌then◌else◌, List, Option, Some, None, slice_index_or}
use Rattle.dp_lpm.specs.declared.limits.TheConstants.{FIRST_GROUP, GROUP_DEPTH, HOPS, MAX_DEPTH, MAX_GROUPS}
use Rattle.dp_lpm.specs.declared.cell.TableEntry.{TableEntry}
use Rattle.dp_lpm.specs.declared.cell.TableEntry.TheVariants.{Empty, Hop, Group}
use Rattle.dp_lpm.specs.declared.cell.Cell.{Cell}

-- the entry that four bytes encode
abbrev pub entry_in : Cell → TableEntry
entry_in c =
    if c.bits == 0 then Empty
    else if nat_lt c.bits FIRST_GROUP then Hop (c.bits % HOPS) (c.bits / HOPS)
    else Group (c.bits % MAX_GROUPS)

-- whether four bytes can encode it
abbrev pub IsStorable : TableEntry → Type 0
IsStorable Empty = Unit {0}
IsStorable (Hop hop depth) = (hop < HOPS) × (1 ≤ depth) × (depth ≤ MAX_DEPTH)
IsStorable (Group g) = Unit {0}

-- the entry at an index
abbrev pub at : List Cell → ℕ → TableEntry
at cells k = entry_in (slice_index_or cells k (record { bits = 0 }))

-- the depth of an entry's rule; a group is deeper than all
abbrev pub depth_of : TableEntry → ℕ
depth_of Empty = 0
depth_of (Hop hop depth) = depth
depth_of (Group g) = GROUP_DEPTH

-- the entry after it is overwritten, if it is no deeper than that
abbrev pub overwritten : ℕ → TableEntry → TableEntry → TableEntry
overwritten depth to e = if nat_le (depth_of e) depth then to else e

-- the group that an entry names
abbrev pub group_in : TableEntry → Option ℕ
group_in Empty = None
group_in (Hop hop depth) = None
group_in (Group g) = Some g
