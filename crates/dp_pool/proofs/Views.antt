-- What a contract sees of indexes, computed from the cache and the queue.
use Rattle.std.proofs.Common.{◌≡◌, ℕ, ◌+◌, ◌-◌, ◌*◌, ◌/◌, ◌<◌, ◌≤◌, Bool, true, false, cond, eqb, leb, List, ◌++◌, length, ap₂, arith, inl, inr}
use Rattle.std.proofs.lemmas.Bool.{cases_Bool, leb-true, leb-false}
use Rattle.std.proofs.lemmas.Bool.Decides.{eqb_tells}
use Rattle.dp_ring.specs.Rings.{RingView}
use Rattle.dp_pool.specs.Once.{absent}
use Rattle.dp_pool.specs.Queues.{IndexView, taken, back, cached_after_put}

abbrev pub view_of : ℕ → ℕ → List ℕ → RingView → IndexView
view_of cache count cached queue = record {
  cache = cache;
  cached = length cached;
  out = absent count (cached ++ queue.entries);
  name = queue.name;
  home = queue.home;
  offset = queue.offset;
  len = queue.len;
}

abbrev pub with_state : IndexView → ℕ → List Bool → IndexView
with_state v cached out = record v { cached = cached; out = out }

-- an index is taken, with or without the cache
abbrev pub got_queued : ℕ → IndexView → IndexView
got_queued k v = record v { out = taken k v.out }

abbrev pub got_cached : ℕ → IndexView → IndexView
got_cached k v = record v { out = taken k v.out; cached = v.cached - 1 }

-- an index is put back, and this number is then cached
abbrev pub put_back : ℕ → ℕ → IndexView → IndexView
put_back k cached v = record v { out = back k v.out; cached = cached }

-- ---- how many are cached after a put

pub eqb-no : (a : ℕ) → 0 < a → eqb a 0 ≡ false
eqb-no a some = elim (eqb_tells a 0) [ inl e ↦ absurd (let none = e.1 in omega (arith, none, some)) | inr e ↦ e.0 ]

leb-yes : (a b : ℕ) → a ≤ b → leb a b ≡ true
leb-yes a b le = elim (cases_Bool (leb a b)) [ inl y ↦ y | inr n ↦ absurd (let more = leb-false a b n in omega (arith, le, more)) ]

leb-no : (a b : ℕ) → b < a → leb a b ≡ false
leb-no a b less = elim (cases_Bool (leb a b)) [ inl y ↦ absurd (let le = leb-true a b y in omega (arith, le, less)) | inr n ↦ n ]

pub put_full : (cache cached : ℕ) → 0 < cache → 3 * cache / 2 ≤ cached + 1 → cached_after_put cache cached ≡ cache
put_full cache cached some full =
    ap₂ (λ a b. cond a 0 (cond b cache (cached + 1))) (eqb-no cache some) (leb-yes (3 * cache / 2) (cached + 1) full)

pub put_more : (cache cached : ℕ) → 0 < cache → cached + 1 < 3 * cache / 2 → cached_after_put cache cached ≡ cached + 1
put_more cache cached some room =
    ap₂ (λ a b. cond a 0 (cond b cache (cached + 1))) (eqb-no cache some) (leb-no (3 * cache / 2) (cached + 1) room)
