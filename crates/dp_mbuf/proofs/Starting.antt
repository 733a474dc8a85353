-- Packets over new pools, and pools that are whole again.
use Rattle.std.proofs.Common.{◌≡◌, ℕ, zero, suc, ◌*◌, ◌<◌, ◌≤◌, Bool, true, false, List, [], ◌∷◌, length, Option, Some, None, refl, ap}
use Rattle.std.proofs.Common.{arith, ⊎_elim, get_or}
use Rattle.std.specs.Prelude.{replicate, not, nat_eq, IsTrue, ◌↔◌, count_by}
use Rattle.std.specs.List.{AllByRecursion, list_all}
use Rattle.std.proofs.lemmas.Bool.{cases_lt, cases_Bool, eqb-true, eq-eqb, and_from, and_parts}
use Rattle.std.proofs.lemmas.List.Sums.{sum_by-cons}
use Rattle.std.proofs.lemmas.List.{length-replicate, get_or_past}
use Rattle.std.proofs.lemmas.Option.{slice_get-get_or}
use Rattle.dp_model.specs.Environments.{count_at}
use Rattle.dp_model.specs.Buffers.{Number}
use Rattle.dp_model.specs.Packets.{Packet}
use Rattle.dp_model.specs.Machine.{segments_held}
use Rattle.dp_model.specs.Stores.{Store, IsLive}
use Rattle.dp_pool.specs.Pools.{PoolView}
use Rattle.dp_mbuf.specs.Objects.{header_at, is_out, specs_of, present, pool_in, PoolsFirst, ArePools, FirstsCleared, AreAllIn}
use Rattle.dp_mbuf.specs.Objects.{slot_whole}
use Rattle.dp_mbuf.specs.Mbufs.{numbered, is_positive, is_head, slots_of, shown, MbufsView, viewed, StandsAt, Whole, Sound, AreReady, IsNew}
use Rattle.dp_mbuf.specs.Mbufs.{HasNone, AreBack}
use Rattle.dp_mbuf.proofs.ObjectLemmas.{length_specs, count_is}
use Rattle.dp_mbuf.proofs.Frames.{head_of}
use Rattle.dp_mbuf.proofs.Live.{settled, opened}
use Rattle.dp_model.specs.Laws.Cases.{one_if}

none_held : (n : ℕ) → segments_held (replicate n None) ≡ []
none_held zero = refl
none_held (suc n) = none_held n

none_there : (n h : ℕ) → get_or {A = Option Packet} (replicate n None) h None ≡ None
none_there zero h = refl
none_there (suc n) zero = refl
none_there (suc n) (suc h) = none_there n h

pub whole_new : (ps : List PoolView) → ArePools ps → AreAllIn ps → ((m : Number) → (header_at ps m).segs ≡ 0) → Whole ps [] (replicate (65536 * length ps) None)
whole_new ps are all_in heads = record {
  are = are;
  counted = rw (none_held (65536 * length ps)) (record {
    once = λ n. omega arith;
    direct = λ n q. refl;
    numbers = tt;
    lie = tt;
    stored = λ b q. absurd (omega arith);
    out = λ n h. all_in n;
  });
  shows = record {
    many = length-replicate (65536 * length ps) None;
    each = λ h. none (get_or (replicate (65536 * length ps) None) h None) (numbered h) (none_there (65536 * length ps) h);
  };
}
  where
    none : (o : Option Packet) (n : Number) → o ≡ None → StandsAt ps n o
    none None n e = rw (heads n)
    none (Some k) n e = absurd (cc)

pub new_is : (pools : List (Option PoolView)) (ps : List PoolView) → FirstsCleared (present pools) ps → AreReady pools → Sound ps × IsNew pools (viewed ps)
new_is pools ps u ready =
    let d = settled ps (replicate (65536 * length ps) None) (whole_new ps u.are (λ n. rw (u.outs n) (ready.all_in n)) u.heads) in (
      d.0,
      record {
        pools_are = u.specs;
        buffers = u.buffers;
        zones = u.zones;
        empty = rw (d.1, length_specs ps);
      },
    )

-- ---- without packets all objects are in

all_none : (slots : List (Option Packet)) → ((h : ℕ) → get_or slots h None ≡ None) → segments_held slots ≡ []
all_none [] e = refl
all_none (None ∷ slots) e = all_none slots (λ h. e (suc h))
all_none (Some k ∷ slots) e = absurd (let q = e 0 in cc)

past_out : (ps : List PoolView) (n : Number) → ArePools ps → count_at (specs_of ps) n.pool ≤ n.index → is_out ps n ≡ false
past_out ps n are past = ⊎_elim
    (λ b. get_or_past (pool_in ps n.pool).out n.index false (omega (arith, count_is ps n.pool, (are.rooms n.pool b).pool.out)))
    (λ far. rw (get_or_past ps n.pool _ far))
    (cases_lt n.pool (length ps))

pub all_in_is : (ps : List PoolView) (slots : List (Option Packet)) → Whole ps [] slots → ((h : ℕ) → get_or slots h None ≡ None) → AreAllIn ps
all_in_is ps slots w e n = ⊎_elim
    (λ b. rw (all_none slots e) at (w.counted.out n b))
    (λ past. past_out ps n w.are past)
    (cases_lt n.index (count_at (specs_of ps) n.pool))

pub back_is : (ps : List PoolView) (v : MbufsView) (pools : List (Option PoolView)) → viewed ps ≡ v → Sound ps → HasNone v.store → present pools ≡ ps →
    PoolsFirst pools → AreBack v pools
back_is ps v pools e sound none same first = record {
  first = first;
  all_in = rw same (all_in_is ps (slots_of ps) sound (rw (← e) at none));
  pools_are = rw same (ap (λ m. m.store.pools) e);
  buffers = rw same (ap (λ m. m.store.buffers) e);
  zones = rw same (ap (λ m. m.zones) e);
}

-- ---- whether all objects are in

count_few : (row : List Bool) → count_by not row ≤ length row
count_few [] = omega arith
count_few (true ∷ row) = omega (arith, count_few row, sum_by-cons (λ s. one_if (not s)) true row)
count_few (false ∷ row) = omega (arith, count_few row, sum_by-cons (λ s. one_if (not s)) false row)

row_in : (row : List Bool) (i : ℕ) → count_by not row ≡ length row → get_or row i false ≡ false
row_in [] i e = refl
row_in (true ∷ row) i e = absurd (omega (arith, count_few row, sum_by-cons (λ s. one_if (not s)) true row))
row_in (false ∷ row) zero e = refl
row_in (false ∷ row) (suc i) e = row_in row i (omega (arith, e, sum_by-cons (λ s. one_if (not s)) false row))

row_whole : (row : List Bool) → ((i : ℕ) → get_or row i false ≡ false) → count_by not row ≡ length row
row_whole [] f = refl
row_whole (true ∷ row) f = absurd (let q = f 0 in cc)
row_whole (false ∷ row) f = omega (arith, row_whole row (λ i. f (suc i)), sum_by-cons (λ s. one_if (not s)) false row)

in_from_whole : (pools : List (Option PoolView)) (k i : ℕ) → PoolsFirst pools → list_all slot_whole pools ≡ true →
    get_or (pool_in (present pools) k).out i false ≡ false
in_from_whole [] k i f e = refl
in_from_whole (None ∷ pools) k i f e = refl
in_from_whole (Some p ∷ pools) zero i f e =
    let q = eqb-true (count_by not p.out) (length p.objects) (and_parts (slot_whole (Some p)) (list_all slot_whole pools) e).0 in
    row_in p.out i (omega (arith, q, f.0.pool.out))
in_from_whole (Some p ∷ pools) (suc k) i f e = in_from_whole pools k i f.1 (and_parts (slot_whole (Some p)) (list_all slot_whole pools) e).1

none_whole : (pools : List (Option PoolView)) → AllByRecursion (λ o. o ≡ None) pools → list_all slot_whole pools ≡ true
none_whole [] all = refl
none_whole (o ∷ pools) all = rw all.0 (none_whole pools all.1)

whole_from_in : (pools : List (Option PoolView)) → PoolsFirst pools → ((k i : ℕ) → get_or (pool_in (present pools) k).out i false ≡ false) →
    list_all slot_whole pools ≡ true
whole_from_in [] f e = refl
whole_from_in (None ∷ pools) f e = none_whole pools f
whole_from_in (Some p ∷ pools) f e =
    and_from (slot_whole (Some p)) (list_all slot_whole pools)
    (eq-eqb (count_by not p.out) (length p.objects) (omega (arith, row_whole p.out (e 0), f.0.pool.out)))
    (whole_from_in pools f.1 (λ k. e (suc k)))

pub whole_iff : (pools : List (Option PoolView)) (ps : List PoolView) (b : Bool) → present pools ≡ ps → PoolsFirst pools → b ≡ list_all slot_whole pools →
    IsTrue b ↔ AreAllIn ps
whole_iff pools ps b e first eb = (
  (λ t. rw (← e) (λ n. in_from_whole pools n.pool n.index first (rw (← eb) t))),
  (λ all. let each : AreAllIn (present pools) = rw e all in rw eb (whole_from_in pools first (λ k i. each (record { pool = k; index = i })))),
)

none_from_in : (ps : List PoolView) (slots : List (Option Packet)) → Whole ps [] slots → AreAllIn ps → (h : ℕ) → get_or slots h None ≡ None
none_from_in ps slots w all h = by (get_or slots h None) (w.shows.each h)
  where
    by : (o : Option Packet) → StandsAt ps (numbered h) o → o ≡ None
    by None s = refl
    by (Some k) s = absurd (let out : is_out ps (numbered h) ≡ true = s.out in let none = all (numbered h) in cc)

pub empty_iff : (ps : List PoolView) (v : Store) (b : Bool) → shown ps ≡ v → Sound ps → IsTrue b ↔ AreAllIn ps → IsTrue b ↔ HasNone v
empty_iff ps v b e sound iff = (
  (λ t. rw (← e) (none_from_in ps (slots_of ps) sound (iff.0 t))),
  (λ none. iff.1 (all_in_is ps (slots_of ps) sound (rw (← e) at none))),
)

-- ---- whether a packet exists

pub live_from_head : (ps : List PoolView) (v : Store) (h : ℕ) → shown ps ≡ v → Sound ps → is_head ps (numbered h) ≡ true → IsLive v h
live_from_head ps v h e sound head =
    by (get_or (slots_of ps) h None) refl (sound.shows.each h)
  where
    by : (o : Option Packet) → get_or (slots_of ps) h None ≡ o → StandsAt ps (numbered h) o → IsLive v h
    by None eo s = absurd (cc)
    by (Some k) eo s =
        let there = slot_in (slots_of ps) h k eo in
        (k, rw (← e) (rw (slice_get-get_or (slots_of ps) h None there) (rw eo)), tt)
      where
        slot_in : (slots : List (Option Packet)) (h : ℕ) (k : Packet) → get_or slots h None ≡ Some k → h < length slots
        slot_in slots h k x = ⊎_elim (λ b. b) (λ past. let n = get_or_past slots h None past in absurd (cc)) (cases_lt h (length slots))

pub head_from_live : (ps : List PoolView) (v : Store) (h : ℕ) → shown ps ≡ v → Sound ps → IsLive v h → is_head ps (numbered h) ≡ true
head_from_live ps v h e sound live =
    head_of ps (numbered h) live.0 (opened ps v h live.0 e sound live.1).stands

pub positive_is : (n : ℕ) → is_positive n ≡ not (nat_eq n 0)
positive_is zero = refl
positive_is (suc n) = ⊎_elim
    (λ t. absurd (omega (arith, eqb-true (suc n) 0 t)))
    (λ f. rw f)
    (cases_Bool (nat_eq (suc n) 0))

pub live_iff : (ps : List PoolView) (v : Store) (h : ℕ) (b : Bool) → shown ps ≡ v → Sound ps → b ≡ is_head ps (numbered h) → IsTrue b ↔ IsLive v h
live_iff ps v h b e sound eb = (λ t. live_from_head ps v h e sound (rw (← eb) t), λ l. rw eb (head_from_live ps v h e sound l))
