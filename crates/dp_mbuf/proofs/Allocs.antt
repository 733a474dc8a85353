-- `alloc`: a packet of one free number.
use Rattle.std.proofs.Common.{◌≡◌, ℕ, ◌<◌, List, [], ◌∷◌, length, Option, Some, None, refl, ap, arith, set}
use Rattle.std.specs.Prelude.{slice_set, min}
use Rattle.std.proofs.lemmas.Option.{slice_get-get_or}
use Rattle.dp_model.specs.Environments.{room_at}
use Rattle.dp_model.specs.Buffers.{Number, IsNumber}
use Rattle.dp_model.specs.Packets.{Packet, available, direct, allocated}
use Rattle.dp_model.specs.Machine.{segments_held}
use Rattle.dp_model.specs.Stores.{Store, segments_of, Allocates}
use Rattle.dp_pool.specs.Pools.{PoolView}
use Rattle.dp_mbuf.specs.Objects.{count_in, specs_of, HeaderSet, Taken}
use Rattle.dp_mbuf.specs.Mbufs.{handle, slots_of, shown, Sound}
use Rattle.dp_mbuf.proofs.ObjectLemmas.{length_specs}
use Rattle.dp_mbuf.proofs.Frames.{number_of, number_small}
use Rattle.dp_mbuf.proofs.InHand.{nothing_at}
use Rattle.dp_mbuf.proofs.Taking.{alone, fresh_header, free_from, available_is}
use Rattle.dp_mbuf.proofs.Live.{settled, seen}

pub pool_there : (ps : List PoolView) (v : Store) (pool : ℕ) → shown ps ≡ v → pool < length v.pools → pool < length ps
pool_there ps v pool e h =
    omega (arith, ap (λ s. length s.pools) e, length_specs ps)

pub free_in : (ps : List PoolView) (v : Store) (pool : ℕ) → shown ps ≡ v → Sound ps → pool < length v.pools → available v.pools (segments_of v) pool
    ≡ count_in ps pool
free_in ps v pool e sound h =
    rw (← e) (available_is ps (slots_of ps) pool sound (pool_there ps v pool e h))

pub alloc_none : (ps ps' : List PoolView) (v : Store) (pool : ℕ) → shown ps ≡ v → Sound ps → pool < length v.pools → count_in ps pool ≡ 0 → ps' ≡ ps →
    Allocates v pool (shown ps') None
alloc_none ps ps' v pool e sound h none same =
    (omega (arith, free_in ps v pool e sound h), rw same e)

pub alloc_some : (ps ps1 ps' : List PoolView) (v : Store) (pool : ℕ) (n : Number) (o r : ℕ) → shown ps ≡ v → Sound ps → pool < length v.pools →
    n.pool ≡ pool → Taken ps n ps1 → HeaderSet ps1 n (fresh_header n 1 o 0) ps' → o ≡ min 128 (room_at (specs_of ps1) n.pool) → r ≡ handle n →
    Sound ps' × Allocates v pool (shown ps') (Some r)
alloc_some ps ps1 ps' v pool n o r e sound h ep t done eo er =
    let slots : List (Option Packet) = slots_of ps in
    let eo' : o ≡ min 128 (room_at (specs_of ps) n.pool) = rw (eo, t.specs) in
    let whole = alone ps ps1 ps' slots n o 0 sound t done (omega (arith, eo')) (omega (arith, eo')) in
    let d = settled ps' (set slots (handle n) (Some (direct n o 0 ∷ []))) whole.0 in
    let number : IsNumber (specs_of ps) n = number_of ps n t.object in
    let there : handle n < length slots = omega (arith, sound.shows.many, (number_small ps n sound.are t.object).2) in (
      d.0,
      rw er (
        omega (arith, free_in ps v pool e sound h, rw ep at t.ins),
        rw (← e) (rw (slice_get-get_or slots (handle n) None there) (rw whole.1)),
        n ∷ [],
        v.buffers,
        rw (← e)
            (record {
              count = refl;
              distinct = (tt, tt);
              each = (record { of_pool = ep; exists = number; free = free_from (segments_held slots) n (nothing_at ps [] slots n sound number t.was) }, tt);
            }),
        record { others = λ _ _. refl; lengths = λ _. refl; bytes = λ b. b },
        seen ps ps' v v.buffers (slice_set v.slots (handle n) (Some (allocated v.pools (n ∷ [])))) e (rw done.specs t.specs)
            (rw (done.buffers, t.buffers) (ap (λ s. s.buffers) e)) (rw (d.1, eo', ← e)),
      ),
    )

pub same_min : (a b : ℕ) → min a b ≡ min b a
same_min a b = omega arith
