-- Tables of zones and their entries.
use Rattle.std.proofs.Common.{◌≡◌, ℕ, zero, suc, ◌<◌, length, arith, Bool, true, false, ◌||◌, cond, List, [], ◌∷◌, Option, Some, None, find, position}
use Rattle.std.proofs.Common.{option_map, refl, sym, ap, ◌∙◌}
use lib.ListN.{get_or}
use Rattle.std.proofs.lemmas.Bool.{false≢true, true≢false, or_parts}
use Rattle.std.proofs.lemmas.List.Quantifiers.{position-Some}
use Rattle.std.specs.List.{list_any, remove}
use Rattle.dp_zone.specs.declared.zones.Reservation.{Reservation}
use Rattle.dp_zone.specs.Names.{same_name}
use Rattle.dp_zone.specs.Zones.{Reserved, info_of, has_name, zone_named, without_name}
use Rattle.dp_zone.specs.Entries.{entry_of, table_of}

-- some entry has the name exactly where the table has it
pub has_name_any : (name : List ℕ) (entries : List Reservation) → list_any (λ e. same_name e.name.bytes name) entries ≡ has_name name (table_of entries)
has_name_any name [] = refl
has_name_any name (e ∷ entries) = ap (λ b. same_name e.name.bytes name || b) (has_name_any name entries)

-- the zone of a name is that of the first entry with the name
pub zone_named_entry : (name : List ℕ) (entries : List Reservation) → option_map entry_of (find (λ e. same_name e.name.bytes name) entries)
    ≡ zone_named name (table_of entries)
zone_named_entry name [] = refl
zone_named_entry name (e ∷ entries) = by (same_name e.name.bytes name) (find (λ x. same_name x.name.bytes name) entries) (zone_named name (table_of entries))
    (zone_named_entry name entries) where
      by : (b : Bool) (x : Option Reservation) (y : Option Reserved) → option_map entry_of x ≡ y →
          option_map entry_of (cond b (Some e) x) ≡ cond b (Some (entry_of e)) y
      by true x y is = refl
      by false x y is = is

-- what a look-up returns
pub lookup_found : (name : List ℕ) (entries : List Reservation) (e : Reservation) → find (λ e. same_name e.name.bytes name) entries ≡ Some e
    → Some (record { offset = e.offset; len = e.len }) ≡ option_map info_of (zone_named name (table_of entries))
lookup_found name entries e is = ap (λ o. option_map info_of (option_map entry_of o)) (sym is) ∙ ap (option_map info_of) (zone_named_entry name entries)

pub lookup_missed : (name : List ℕ) (entries : List Reservation) → find (λ e. same_name e.name.bytes name) entries ≡ None →
    None ≡ option_map info_of (zone_named name (table_of entries))
lookup_missed name entries is = ap (λ o. option_map info_of (option_map entry_of o)) (sym is) ∙ ap (option_map info_of) (zone_named_entry name entries)

-- ---- removing an entry

cond_true : {X : Type 0} (b : Bool) (x y : X) → b ≡ true → x ≡ cond b x y
cond_true true x y is = refl
cond_true false x y is = absurd (false≢true is)

cond_false : {X : Type 0} (b : Bool) (x y : X) → b ≡ false → y ≡ cond b x y
cond_false true x y is = absurd (true≢false is)
cond_false false x y is = refl

-- removing its first entry of a name removes that zone from the table
pub table_without : (name : List ℕ) (d : Reservation) (entries : List Reservation) (k : ℕ) → k < length entries → same_name (get_or entries k d).name.bytes
    name ≡ true
    → ((j : ℕ) → j < k → same_name (get_or entries j d).name.bytes name ≡ false)
    → table_of (remove entries k) ≡ without_name name (table_of entries)
table_without name d [] k less named others = absurd (omega (arith, less))
table_without name d (e ∷ entries) zero less named others = cond_true (same_name e.name.bytes name) (table_of entries)
    (entry_of e ∷ without_name name (table_of entries)) named
table_without name d (e ∷ entries) (suc k) less named others =
    ap (λ table. entry_of e ∷ table) (table_without name d entries k (omega (arith, less)) named (λ j before. others (suc j) (omega (arith, before))))
    ∙ cond_false (same_name e.name.bytes name) (table_of entries) (entry_of e ∷ without_name name (table_of entries)) (others 0 (omega arith))

pub table_removed : (name : List ℕ) (d : Reservation) (entries left : List Reservation) (k : ℕ) → position (λ e. same_name e.name.bytes name) entries ≡ Some k →
    left ≡ remove entries k → table_of left ≡ without_name name (table_of entries)
table_removed name d entries left k at is =
    let (less, named, others) = position-Some (λ (e : Reservation). same_name e.name.bytes name) entries k d at in
    ap table_of is ∙ table_without name d entries k less named others

-- removing a name that no entry has changes nothing
pub table_stays : (name : List ℕ) (entries : List Reservation) → list_any (λ e. same_name e.name.bytes name) entries ≡ false →
    table_of entries ≡ without_name name (table_of entries)
table_stays name [] none = refl
table_stays name (e ∷ entries) none =
    let parts = or_parts (same_name e.name.bytes name) (list_any (λ x. same_name x.name.bytes name) entries) none in
    ap (λ table. entry_of e ∷ table) (table_stays name entries parts.1)
    ∙ cond_false (same_name e.name.bytes name) (table_of entries) (entry_of e ∷ without_name name (table_of entries)) parts.0
