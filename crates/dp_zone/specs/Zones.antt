-- Zones, and the table of those that are reserved, as contracts see them.
use Rattle.std.specs.Prelude.{◌≡◌, refl, ℕ, ◌<◌, ◌≤◌, Bool, true, false, List, [], ◌∷◌, length, Option, find, if◌then◌else◌}
use Rattle.std.specs.List.{list_any}
use Rattle.std.specs.Coded.{Coded, code_by, coded×, coded_list, coded_ℕ}
use Rattle.dp_region.specs.Ownership.{Home, home_code}
use Rattle.dp_region.specs.Spans.{refilled, overlaid}
use Rattle.dp_region.specs.Region.{max_region}
use Rattle.dp_heap.specs.declared.elements.Element.{Element}
use Rattle.dp_heap.specs.Elements.{rounded, alignment, NothingFits}
use Rattle.dp_heap.specs.Refusals.{IsAlign}
use Rattle.dp_zone.specs.declared.error.ZoneError.{ZoneError}
use Rattle.dp_zone.specs.declared.error.ZoneError.TheVariants.{BadName, BadLength, BadAlign, Exists, Full, NoRoom}
use Rattle.dp_zone.specs.declared.zones.ZoneInfo.{ZoneInfo}
use Rattle.dp_zone.specs.Names.{is_name, same_name}

-- a zone: its name, the region that it is of, its offset there, and its bytes
pub record ZoneView : Type 0 where
  pub name : List ℕ
  pub home : Home
  pub offset : ℕ
  pub bytes : List ℕ

-- it is stored as the tuple of its fields
abbrev pub zone_code : Coded ZoneView
zone_code =
    code_by (List ℕ × (Home × (ℕ × List ℕ))) (coded× (coded_list coded_ℕ) (coded× home_code (coded× coded_ℕ (coded_list coded_ℕ))))
    (λ z. (z.name, (z.home, (z.offset, z.bytes)))) (λ p. record { name = p.0; home = p.1.0; offset = p.1.1.0; bytes = p.1.1.1 }) (λ _. refl)

-- z with the bytes ws. A longer ws is cut, and a shorter one keeps the rest of z's bytes
abbrev pub with_content : ZoneView → List ℕ → ZoneView
with_content z ws = record z { bytes = refilled z.bytes ws }

-- z with ws written over its bytes at an offset
abbrev pub with_part : ℕ → ZoneView → List ℕ → ZoneView
with_part at z ws = record z { bytes = overlaid z.bytes at ws }

-- what a table knows of a zone
pub record Reserved : Type 0 where
  pub name : List ℕ
  pub offset : ℕ
  pub len : ℕ

abbrev pub reserved_of : ZoneView → Reserved
reserved_of z = record { name = z.name; offset = z.offset; len = length z.bytes }

-- whether the zone has this name
abbrev pub is_named : List ℕ → Reserved → Bool
is_named name r = same_name r.name name

-- whether the table has the name
abbrev pub has_name : List ℕ → List Reserved → Bool
has_name name table = list_any (is_named name) table

-- the zone of that name, if there is one
abbrev pub zone_named : List ℕ → List Reserved → Option Reserved
zone_named name table = find (is_named name) table

-- the table without its first zone of that name
abbrev pub without_name : List ℕ → List Reserved → List Reserved
without_name name [] = []
without_name name (r ∷ rs) = if is_named name r then rs else r ∷ without_name name rs

-- no name occurs twice
abbrev pub AreApart : List Reserved → Type 0
AreApart [] = Unit {0}
AreApart (r ∷ rs) = (has_name r.name rs ≡ false) × AreApart rs

-- the maximum number of zones of a table
abbrev pub max_zones : ℕ
max_zones = 64

-- what holds of every table
pub record IsZoneTable (table : List Reserved) : Type 0 where
  pub few : length table ≤ max_zones
  pub apart : AreApart table

-- what a look-up returns for an entry
abbrev pub info_of : Reserved → ZoneInfo
info_of r = record { offset = r.offset; len = r.len }

-- a length that a zone may have
abbrev pub IsLength : ℕ → Type 0
IsLength len = (0 < len) × (len ≤ max_region)

-- a request is refused with this error: none of the earlier ones applies
abbrev pub IsZoneRefused : ZoneError → List ℕ → ℕ → ℕ → List Reserved → List Element → Type 0
IsZoneRefused BadName name len align table es = is_name name ≡ false
IsZoneRefused BadLength name len align table es = (is_name name ≡ true) × ¬ IsLength len
IsZoneRefused BadAlign name len align table es = (is_name name ≡ true) × IsLength len × ¬ IsAlign align
IsZoneRefused Exists name len align table es = (is_name name ≡ true) × IsLength len × IsAlign align × (has_name name table ≡ true)
IsZoneRefused Full name len align table es =
    (is_name name ≡ true) × IsLength len × IsAlign align × (has_name name table ≡ false) × (length table ≡ max_zones)
IsZoneRefused NoRoom name len align table es =
    (is_name name ≡ true) × IsLength len × IsAlign align × (has_name name table ≡ false) × (length table < max_zones)
    × NothingFits (rounded len) (alignment align) es

-- the number of a cause
abbrev pub number_of : ZoneError → ℕ
number_of BadName = 1
number_of BadLength = 2
number_of BadAlign = 3
number_of Exists = 4
number_of Full = 5
number_of NoRoom = 6

-- a request to which no error but NoRoom applies
pub record IsReservable (name : List ℕ) (len align : ℕ) (table : List Reserved) : Type 0 where
  pub named : is_name name ≡ true
  pub length_fits : IsLength len
  pub aligned : IsAlign align
  pub fresh : has_name name table ≡ false
  pub room : length table < max_zones
