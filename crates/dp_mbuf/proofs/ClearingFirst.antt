-- Marking objects: no packet begins there.
use Rattle.std.proofs.Common.{◌≡◌, ℕ, zero, suc, ◌+◌, ◌<◌, ◌≤◌, List, [], ◌∷◌, length, drop, Option, Some, None, refl, sym, ◌∙◌, ap}
use Rattle.std.proofs.Common.{arith, ⊎_elim, get_or, set, below_more}
use Rattle.std.specs.Prelude.{IfSome}
use Rattle.std.specs.List.{AllByRecursion}
use Rattle.std.proofs.lemmas.Bool.{cases_lt}
use Rattle.std.proofs.lemmas.List.{length-set, get_or_past, get_or_default, get_or-set_same, get_or-set_other}
use Rattle.dp_model.specs.declared.env.PoolSpec.{PoolSpec}
use Rattle.dp_model.specs.Buffers.{Number, overwritten}
use Rattle.dp_pool.specs.Pools.{PoolView, object_in, with_written}
use Rattle.dp_mbuf.specs.Headers.{header_of}
use Rattle.dp_mbuf.specs.Objects.{header_at, is_out, present, pool_in, HeadersFirst, PoolsFirst, objects_in_all}
use Rattle.dp_mbuf.specs.Objects.{ArePools, ArePoolSlots, FirstsCleared, FirstsClearedTo}
use Rattle.dp_mbuf.specs.Mbufs.{mbufs_in_all}
use Rattle.dp_mbuf.proofs.PoolLemmas.{pool_written, small_zeros}
use Rattle.dp_mbuf.proofs.ObjectLemmas.{are_pools, map_kept, rest_kept, mbufs_are}

-- no packet begins where there is no object
blank : (header_of []).segs ≡ 0
unfolding header_of
blank = refl

pub no_head_past : (ps : List PoolView) (n : Number) → length (pool_in ps n.pool).objects ≤ n.index → (header_at ps n).segs ≡ 0
no_head_past ps n past = rw (get_or_past (pool_in ps n.pool).objects n.index [] past) blank

-- nor where an object begins with zeros
cleared : (o : List ℕ) → (header_of (overwritten o 0 (0 ∷ 0 ∷ []))).segs ≡ 0
unfolding header_of
cleared o = refl

-- ---- the objects of a pool

-- the pool keeps its number of objects
count_stays : (n : ℕ) (p q : PoolView) → FirstsClearedTo n p q → length q.objects ≡ length p.objects
count_stays n p q u = ap (λ (s : PoolSpec). s.count) u.spec

one_more : (p q : PoolView) (i : ℕ) → FirstsClearedTo i p q → i < length q.objects → FirstsClearedTo (i + 1) p (with_written q i 0 (0 ∷ 0 ∷ []))
one_more p q i u there =
    let old : List ℕ = object_in q i in
    let now : List ℕ = overwritten old 0 (0 ∷ 0 ∷ []) in
    let long : 128 ≤ length old = omega (arith, u.rooms.pool.sizes i there, u.rooms.header) in
    record {
      rooms = record {
        pool = pool_written q i 0 (0 ∷ 0 ∷ []) u.rooms.pool there (omega (arith, u.rooms.header)) (small_zeros 2);
        header = u.rooms.header;
        room = u.rooms.room;
      };
      spec = rw length-set u.spec;
      zones = u.zones;
      buffers = rw (map_kept (drop 128) q.objects i now [] (rest_kept old 0 (0 ∷ 0 ∷ []) (omega arith) long)) u.buffers;
      out = u.out;
      heads = below_more (λ j. (header_of (get_or (set q.objects i now) j [])).segs ≡ 0) i
          (λ j low. rw (get_or-set_other q.objects i j now [] (omega arith)) (u.heads j low))
          (rw (get_or-set_same q.objects i now [] there) (cleared old));
    }

pub firsts_cleared_more : (p q r : PoolView) (i : ℕ) (bytes : List ℕ) → FirstsClearedTo i p q → i < length p.objects → bytes ≡ 0 ∷ 0 ∷ [] → r ≡ with_written q
    i 0 bytes →
    FirstsClearedTo (i + 1) p r
firsts_cleared_more p q r i bytes u there zeros is =
    rw (is, zeros) (one_more p q i u (omega (arith, count_stays i p q u)))

-- ---- the slots for pools

-- afterwards no packet begins at any object of the slot's pool
abbrev pub SlotFirstsCleared : Option PoolView → Option PoolView → Type 0
SlotFirstsCleared None o = o ≡ None
SlotFirstsCleared (Some p) None = ⊥
SlotFirstsCleared (Some p) (Some p') = FirstsClearedTo (length p.objects) p p'

-- after the first empty slot there are no pools
none_after : (pools : List (Option PoolView)) (k : ℕ) → AllByRecursion (λ o. o ≡ None) pools → get_or pools k None ≡ None
none_after [] k none = refl
none_after (o ∷ pools) zero none = none.0
none_after (o ∷ pools) (suc k) none = none_after pools k none.1

header_first : (pools : List (Option PoolView)) (k : ℕ) → HeadersFirst pools → IfSome (get_or pools k None) (λ p. 128 ≤ p.size)
header_first [] k first = tt
header_first (None ∷ pools) zero first = tt
header_first (None ∷ pools) (suc k) first = rw (none_after pools k first) tt
header_first (Some p ∷ pools) zero first = first.0
header_first (Some p ∷ pools) (suc k) first = header_first pools k first.1

-- the first i slots are done, and the others as they were
pub record SlotsTo (i : ℕ) (old new : List (Option PoolView)) : Type 0 where
  pub many : length new ≡ length old
  pub done : (k : ℕ) → k < i → SlotFirstsCleared (get_or old k None) (get_or new k None)
  pub left : (k : ℕ) → i ≤ k → get_or new k None ≡ get_or old k None

pub has_header : (i : ℕ) (old new : List (Option PoolView)) (d : Option PoolView) (p : PoolView) → length old ≡ 8 → HeadersFirst old → SlotsTo i old new
    → i < 8 → get_or new i d ≡ Some p → 128 ≤ p.size
has_header i old new d p eight first s there is =
    let same : get_or old i None ≡ Some p = sym (s.left i (omega arith)) ∙ (sym (get_or_default new i d None (omega (arith, s.many))) ∙ is) in
    rw same at (header_first old i first)

-- ---- all slots

none_left : (old new : List (Option PoolView)) → AllByRecursion (λ o. o ≡ None) old → ((k : ℕ) → SlotFirstsCleared (get_or old k None) (get_or new k None)) →
    AllByRecursion (λ o. o ≡ None) new
none_left old [] none each = tt
none_left [] (x ∷ new) none each = (each 0, none_left [] new tt (λ k. each (suc k)))
none_left (o ∷ old) (x ∷ new) none each =
    (rw none.0 at (each 0), none_left old new none.1 (λ k. each (suc k)))

-- one more pool before the others
module _ (p q : PoolView) (ps qs : List PoolView) (are : ArePools (q ∷ qs)) (u : FirstsClearedTo (length p.objects) p q) (rest : FirstsCleared ps qs) where
  outs : (k i : ℕ) → is_out (q ∷ qs) (record { pool = k; index = i }) ≡ is_out (p ∷ ps) (record { pool = k; index = i })
  outs zero i = rw u.out
  outs (suc k) i = rest.outs (record { pool = k; index = i })

  heads : (k i : ℕ) → (header_at (q ∷ qs) (record { pool = k; index = i })).segs ≡ 0
  heads zero i = ⊎_elim
      (λ low. u.heads i low)
      (λ past. no_head_past (q ∷ qs) (record { pool = 0; index = i }) (omega (arith, past, count_stays (length p.objects) p q u)))
      (cases_lt i (length p.objects))
  heads (suc k) i = rest.heads (record { pool = k; index = i })

  in_front : FirstsCleared (p ∷ ps) (q ∷ qs)
  in_front = record {
    are = are;
    specs = cc (u.spec, rest.specs);
    zones = cc (u.zones, rest.zones);
    buffers = cc (u.buffers, rest.buffers);
    outs = λ m. outs m.pool m.index;
    heads = λ m. heads m.pool m.index;
  }

nothing : FirstsCleared [] []
nothing = record { are = are_pools [] (omega arith) tt; specs = refl; zones = refl; buffers = refl; outs = λ m. refl; heads = λ m. blank }

slots_done : (old new : List (Option PoolView)) → length new ≡ length old → length new ≤ 8 → HeadersFirst old →
    ((k : ℕ) → SlotFirstsCleared (get_or old k None) (get_or new k None)) → PoolsFirst new × FirstsCleared (present old) (present new)
slots_done [] [] many few first each = (tt, nothing)
slots_done [] (x ∷ new) many few first each = absurd (omega arith)
slots_done (o ∷ old) [] many few first each = absurd (omega (arith, many))
slots_done (None ∷ old) (None ∷ new) many few first each = (none_left old new first (λ k. each (suc k)), nothing)
slots_done (None ∷ old) (Some q ∷ new) many few first each = absurd (let e : Some q ≡ None = each 0 in cc)
slots_done (Some p ∷ old) (None ∷ new) many few first each = absurd (each 0)
slots_done (Some p ∷ old) (Some q ∷ new) many few first each =
    let u : FirstsClearedTo (length p.objects) p q = each 0 in
    let rest = slots_done old new (omega (arith, many)) (omega (arith, few)) first.1 (λ k. each (suc k)) in
    let firsts : PoolsFirst (Some q ∷ new) = (u.rooms, rest.0) in
    (firsts, in_front p q (present old) (present new) (are_pools (Some q ∷ new) few firsts) u rest.1)

pub over_done : (i : ℕ) (old new : List (Option PoolView)) → length old ≡ 8 → HeadersFirst old → objects_in_all (present old) ≤ 65535 → SlotsTo i old new →
    8 ≤ i → ArePoolSlots new × FirstsCleared (present old) (present new)
over_done i old new eight first few s all =
    let d = slots_done old new s.many (omega (arith, eight, s.many)) first each in
    ((rw s.many eight, d.0, omega (arith, ap mbufs_in_all d.1.specs, mbufs_are (present old), mbufs_are (present new))), d.1)
  where
    each : (k : ℕ) → SlotFirstsCleared (get_or old k None) (get_or new k None)
    each k = ⊎_elim
        (λ low. s.done k low)
        (λ past. let e : get_or old k None ≡ None = get_or_past old k None (omega arith) in rw e (rw (s.left k past) e))
        (cases_lt k i)
