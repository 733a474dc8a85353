-- The indexes of a pool: which are in, and how many of them are in the cache.
use Rattle.std.specs.Prelude.{◌≡◌, refl, ℕ, ◌+◌, ◌-◌, ◌*◌, ◌/◌, Bool, true, false, not, ◌==◌, nat_le, if◌then◌else◌, min, List, [], ◌∷◌, Some, slice_get}
use Rattle.std.specs.Prelude.{slice_set, count_by}
use Rattle.std.specs.Coded.{Coded, code_by, coded×, coded_list, coded_ℕ, coded_bool}
use Rattle.dp_region.specs.Ownership.{Home, home_code}

-- the number of indexes, the size of the cache and how many indexes it holds, which indexes are out, and the queue's zone
pub record IndexView : Type 0 where
  pub cache : ℕ
  pub cached : ℕ
  pub out : List Bool
  pub name : List ℕ
  pub home : Home
  pub offset : ℕ
  pub len : ℕ

-- it is stored as the tuple of its fields
abbrev pub index_code : Coded IndexView
index_code =
    code_by (ℕ × (ℕ × (List Bool × (List ℕ × (Home × (ℕ × ℕ)))))) (coded× coded_ℕ
    (coded× coded_ℕ (coded× (coded_list coded_bool) (coded× (coded_list coded_ℕ) (coded× home_code (coded× coded_ℕ coded_ℕ))))))
    (λ v. (v.cache, (v.cached, (v.out, (v.name, (v.home, (v.offset, v.len)))))))
    (λ p. record { cache = p.0; cached = p.1.0; out = p.1.1.0; name = p.1.1.1.0; home = p.1.1.1.1.0; offset = p.1.1.1.1.1.0; len = p.1.1.1.1.1.1 }) (λ _. refl)

-- the maximum number of indexes in a cache at once: one and a half times the maximum size
abbrev pub max_in_cache : ℕ
max_in_cache = 768

-- how many indexes are in
abbrev pub in_count : List Bool → ℕ
in_count out = count_by not out

-- the list after an index that was in is taken
abbrev pub taken : ℕ → List Bool → List Bool
taken i out = slice_set out i true

-- the list after an index that was out is put back
abbrev pub back : ℕ → List Bool → List Bool
back i out = slice_set out i false

-- how many are cached after a get: an empty cache is filled from the queue first
abbrev pub cached_after_get : ℕ → ℕ → ℕ → ℕ
cached_after_get cache cached available =
    if cache == 0 then 0 else (if cached == 0 then min cache available else cached) - 1

-- how many are cached after a put: a cache at one and a half times its size is cut back to its size
abbrev pub cached_after_put : ℕ → ℕ → ℕ
cached_after_put cache cached =
    if cache == 0 then 0 else (if nat_le (3 * cache / 2) (cached + 1) then cache else cached + 1)

-- ---- several indexes, one after another

-- the view after an index is taken, and after one is put back
abbrev pub handed : IndexView → ℕ → IndexView
handed v i = record v { out = taken i v.out; cached = cached_after_get v.cache v.cached (in_count v.out) }

abbrev pub returned : IndexView → ℕ → IndexView
returned v i = record v { out = back i v.out; cached = cached_after_put v.cache v.cached }

-- indexes that were in are taken
abbrev pub AreHanded : IndexView → List ℕ → IndexView → Type 0
AreHanded old [] new = new ≡ old
AreHanded old (i ∷ is) new = (slice_get old.out i ≡ Some false) × AreHanded (handed old i) is new

-- the indexes are out, and none occurs twice in the list
abbrev pub AreOut : List Bool → List ℕ → Type 0
AreOut out [] = Unit {0}
AreOut out (i ∷ is) = (slice_get out i ≡ Some true) × AreOut (back i out) is

-- they are put back
abbrev pub all_returned : IndexView → List ℕ → IndexView
all_returned v [] = v
all_returned v (i ∷ is) = all_returned (returned v i) is
