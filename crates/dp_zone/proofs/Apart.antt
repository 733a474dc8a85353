-- Tables in which each name occurs once.
use Rattle.std.proofs.Common.{◌≡◌, ℕ, Bool, true, false, cond, List, [], ◌∷◌, ◌++◌, Some, None, refl, sym, ap, subst, ◌∙◌}
use Rattle.std.proofs.lemmas.Bool.{or_parts, or_from}
use Rattle.std.proofs.lemmas.Bool.Decides.{same_from_decides}
use Rattle.std.proofs.lemmas.Slice.Eq.{bytes_eq-Decides}
use Rattle.std.proofs.lemmas.List.{map-append}
use Rattle.dp_zone.specs.declared.zones.Reservation.{Reservation}
use Rattle.dp_zone.specs.Names.{same_name}
use Rattle.dp_zone.specs.Zones.{Reserved, is_named, has_name, zone_named, without_name, AreApart}
use Rattle.dp_zone.specs.Entries.{entry_of, table_of}

same_back : (a b : List ℕ) → same_name a b ≡ same_name b a
same_back a b = same_from_decides (same_name a b) (same_name b a) (bytes_eq-Decides a b) (
  λ e. sym ((bytes_eq-Decides b a).0 e),
  λ e.
      (bytes_eq-Decides b a).1 (sym e),
)

-- appending a zone adds its name alone
fresh_after : (name : List ℕ) (table : List Reserved) (r : Reserved) → has_name name table ≡ false → same_name r.name name ≡ false →
    has_name name (table ++ r ∷ []) ≡ false
fresh_after name [] r none other = or_from (same_name r.name name) false other refl
fresh_after name (q ∷ table) r none other =
    let parts = or_parts (is_named name q) (has_name name table) none in
    or_from (is_named name q) (has_name name (table ++ r ∷ [])) parts.0 (fresh_after name table r parts.1 other)

-- appending a zone of a new name keeps the names distinct
pub apart_more : (table : List Reserved) (r : Reserved) → AreApart table → has_name r.name table ≡ false → AreApart (table ++ r ∷ [])
apart_more [] r apart fresh = (refl, tt)
apart_more (q ∷ table) r apart fresh =
    let parts = or_parts (is_named r.name q) (has_name r.name table) fresh in
    (fresh_after q.name table r apart.0 (same_back r.name q.name ∙ parts.0), apart_more table r apart.1 parts.1)

-- removing a zone adds no name
none_without : (name other : List ℕ) (table : List Reserved) → has_name name table ≡ false → has_name name (without_name other table) ≡ false
none_without name other [] none = refl
none_without name other (r ∷ table) none = by (is_named other r) (none_without name other table parts.1) where
  parts : (is_named name r ≡ false) × (has_name name table ≡ false)
  parts = or_parts (is_named name r) (has_name name table) none

  by : (b : Bool) → has_name name (without_name other table) ≡ false → has_name name (cond b table (r ∷ without_name other table)) ≡ false
  by true rest = parts.1
  by false rest = or_from (is_named name r) (has_name name (without_name other table)) parts.0 rest

-- removing a zone keeps the names distinct
pub apart_without : (name : List ℕ) (table : List Reserved) → AreApart table → AreApart (without_name name table)
apart_without name [] apart = tt
apart_without name (r ∷ table) apart = by (is_named name r) (apart_without name table apart.1) where
  by : (b : Bool) → AreApart (without_name name table) → AreApart (cond b table (r ∷ without_name name table))
  by true rest = apart.1
  by false rest = (none_without r.name name table apart.0, rest)

not_found : (name : List ℕ) (table : List Reserved) → has_name name table ≡ false → zone_named name table ≡ None
not_found name [] none = refl
not_found name (r ∷ table) none =
    let parts = or_parts (is_named name r) (has_name name table) none in
    ap (λ b. cond b (Some r) (zone_named name table)) parts.0 ∙ not_found name table parts.1

-- a removed name is not found any more
pub gone_without : (name : List ℕ) (table : List Reserved) → AreApart table → zone_named name (without_name name table) ≡ None
gone_without name [] apart = refl
gone_without name (r ∷ table) apart = by (is_named name r) refl (gone_without name table apart.1) where
  by : (b : Bool) → is_named name r ≡ b → zone_named name (without_name name table) ≡ None → zone_named name (cond b table (r ∷ without_name name table)) ≡ None
  by true is rest = not_found name table (subst (λ n. has_name n table ≡ false) ((bytes_eq-Decides r.name name).0 is) apart.0)
  by false is rest = ap (λ b. cond b (Some r) (zone_named name (without_name name table))) is ∙ rest

-- ---- the same for entries

-- appending an entry of a new name keeps the names distinct
pub apart_entries : (entries : List Reservation) (e : Reservation) (name : List ℕ) → AreApart (table_of entries) → e.name.bytes ≡ name → has_name name
    (table_of entries)
    ≡ false → AreApart (table_of (entries ++ e ∷ []))
apart_entries entries e name apart named fresh =
    subst AreApart (sym (map-append entry_of entries (e ∷ []))) (apart_more (table_of entries) (entry_of e) apart
    (subst (λ n. has_name n (table_of entries) ≡ false) (sym named) fresh))
