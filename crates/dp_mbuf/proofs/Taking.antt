-- Taking numbers for new segments.
use Rattle.std.proofs.Common.{◌≡◌, ℕ, zero, suc, ◌+◌, ◌/◌, ◌%◌, ◌<◌, ◌≤◌, Bool, true, false, cond, List, [], ◌∷◌, ◌++◌, length, take, Option, Some, None}
use Rattle.std.proofs.Common.{refl, ap, subst, arith, inl, ⊎_elim, get_or, set}
use Rattle.std.specs.Prelude.{count_by, ◌&&◌, ◌||◌, not}
use Rattle.std.proofs.lemmas.List.{take_all}
use Rattle.std.proofs.lemmas.List.Sums.{sum_by-cons}
use Rattle.dp_model.specs.Environments.{room_at, count_at}
use Rattle.dp_model.specs.Buffers.{Number, same_number, IsNumber}
use Rattle.dp_model.specs.Packets.{Segment, Packet, refs, direct, is_free, free_below, available}
use Rattle.dp_model.specs.Machine.{segments_held}
use Rattle.dp_mbuf.specs.declared.header.Header.{Header}
use Rattle.dp_mbuf.specs.Headers.{header_bytes}
use Rattle.dp_pool.specs.Pools.{PoolView, with_written}
use Rattle.dp_mbuf.specs.Objects.{header_at, is_out, pool_in, count_in, specs_of, HasObject, HeaderSet, Taken}
use Rattle.dp_mbuf.specs.Mbufs.{handle, numbered, is_positive, mbufs, Whole}
use Rattle.dp_mbuf.proofs.PoolLemmas.{Small}
use Rattle.dp_mbuf.proofs.ObjectLemmas.{same_or, count_is}
use Rattle.dp_mbuf.proofs.HeaderFields.{header_set, small_all}
use Rattle.dp_mbuf.proofs.Counting.{mbufs-cons, refs_first}
use Rattle.dp_mbuf.proofs.Links.{alike}
use Rattle.dp_mbuf.proofs.Frames.{object_of, number_of, number_small}
use Rattle.dp_mbuf.proofs.Edits.{first_set}
use Rattle.dp_mbuf.proofs.InHand.{More, grown, nothing_at, zero_at}
use Rattle.dp_model.specs.Laws.References.{refs-cons}

-- ---- taking a number and writing its header

pub more_of : (ps ps1 ps' : List PoolView) (n : Number) (x : Header) → Taken ps n ps1 → HeaderSet ps1 n x ps' → x.segs ≡ 0 → More ps ps' n
more_of ps ps1 ps' n x t done segs = record {
  are = done.are;
  specs = rw done.specs t.specs;
  number = number_of ps n t.object;
  was = t.was;
  here = rw (done.outs n) t.here;
  no_head = rw done.here segs;
  outs = λ m d. rw (done.outs m) (t.others m d);
  headers = λ m d. alike (header_at ps' m) (header_at ps m) (rw (done.others m d) (t.headers m));
}

pub grown_direct : (ps ps1 ps' : List PoolView) (hand : Packet) (slots : List (Option Packet)) (n : Number) (x : Header) (o l : ℕ) → Whole ps hand slots →
    Taken ps n ps1 → HeaderSet ps1 n x ps' → x.segs ≡ 0 → x.refs ≡ 1 → o + l ≤ room_at (specs_of ps) n.pool → Whole ps' (direct n o l ∷ hand) slots
grown_direct ps ps1 ps' hand slots n x o l w t done segs one fits =
    let s : Segment = direct n o l in
    let ss : List Segment = hand ++ segments_held slots in
    let number = number_of ps n t.object in
    let no = nothing_at ps hand slots n w number t.was in
    grown ps ps' hand slots s w (more_of ps ps1 ps' n x t done segs) (record { fits = fits; number = number })
    (λ b q. ⊎_elim
    (λ e. subst (λ m. (header_at ps' m).refs ≡ refs (s ∷ ss) m) e
    (rw done.here (omega (arith, refs_first s ss))))
    (λ d. let z = zero_at n b d in
    rw (done.others b d, t.headers b) (omega (arith, w.counted.stored b (omega (arith, refs-cons s ss b)), refs-cons s ss b)))
    (same_or n b))
    (inl refl)

-- ---- a packet of one segment

pub small_header : (h : Header) → h.segs < 65536 → h.refs < 4294967296 → h.offset < 65536 → h.len < 65536 → (h.next.pool < 65536) × (h.next.index < 65536) →
    (h.last.pool < 65536) × (h.last.index < 65536) → (h.buffer.pool < 65536) × (h.buffer.index < 65536) → Small (header_bytes h)
small_header h a b c d e f g =
    let mbufs : List ℕ = h.next.index ∷ h.next.pool ∷ h.last.index ∷ h.last.pool ∷ h.buffer.index ∷ h.buffer.pool ∷ [] in
    small_all (h.segs ∷ h.refs % 65536 ∷ h.refs / 65536 ∷ h.offset ∷ h.len ∷ mbufs)
    (a, (omega arith, (omega arith, (c, (d, (e.1, (e.0, (f.1, (f.0, (g.1, (g.0, tt)))))))))))

-- ---- setting a header again
set_again : (ps a b : List PoolView) (n : Number) (x y : Header) → HeaderSet ps n x a → HeaderSet ps n y b → HeaderSet a n y b
set_again ps a b n x y f g = record {
  are = g.are;
  specs = rw (g.specs, f.specs);
  zones = rw (g.zones, f.zones);
  buffers = rw (g.buffers, f.buffers);
  outs = λ m. cc (f.outs m, g.outs m);
  ins = λ k. cc (f.ins k, g.ins k);
  here = g.here;
  others = λ m d. cc (f.others m d, g.others m d);
}

abbrev pub fresh_header : Number → ℕ → ℕ → ℕ → Header
fresh_header n segs o l =
    record { segs = segs; refs = 1; offset = o; len = l; next = n; last = n; buffer = n }

pub taken_object : (ps ps1 : List PoolView) (n : Number) → Taken ps n ps1 → HasObject ps1 n
taken_object ps ps1 n t = object_of ps1 n (rw t.specs (number_of ps n t.object))

pub alone : (ps ps1 ps' : List PoolView) (slots : List (Option Packet)) (n : Number) (o l : ℕ) → Whole ps [] slots → Taken ps n ps1 →
    HeaderSet ps1 n (fresh_header n 1 o l) ps' → o + l ≤ room_at (specs_of ps) n.pool → o + l < 65536 →
    Whole ps' [] (set slots (handle n) (Some (direct n o l ∷ []))) × (get_or slots (handle n) None ≡ None) × (numbered (handle n) ≡ n)
alone ps ps1 ps' slots n o l w t done fits low =
    let object = taken_object ps ps1 n t in
    let small = number_small ps1 n t.are object in
    let pool : n.pool < 65536 = omega (arith, t.are.few, small.1) in
    let x : Header = fresh_header n 0 o l in
    let sm : Small (header_bytes x) = small_header x (omega arith) (omega arith) (omega (arith, low)) (omega (arith, low)) (pool, small.0) (
      pool,
      small.0,
    ) (pool, small.0) in
    let mid : List PoolView = set ps1 n.pool (with_written (pool_in ps1 n.pool) n.index 0 (header_bytes x)) in
    let first : HeaderSet ps1 n x mid = header_set ps1 n x t.are object sm in
    let whole : Whole mid (direct n o l ∷ []) slots = grown_direct ps ps1 mid [] slots n x o l w t first refl refl fits in
    first_set mid ps' slots n (direct n o l ∷ []) (fresh_header n 1 o l) whole
    (rw first.here, tt)
    (omega arith) (omega arith) (set_again ps1 mid ps' n x (fresh_header n 1 o l) first done) refl refl (rw first.here)
    (rw first.here (record { offset = refl; len = refl; next = refl; buffer = refl }))

-- ---- what is free

free_is : (ss : List Segment) (n : Number) → not (is_free ss n) ≡ is_positive (mbufs ss n + refs ss n)
free_is [] n = refl
free_is (s ∷ ss) n =
    by (same_number s.mbuf n) (same_number s.buffer n) (is_free ss n) (mbufs ss n) (refs ss n) (mbufs (s ∷ ss) n) (refs (s ∷ ss) n) (free_is ss n)
    (mbufs-cons s ss n) (refs-cons s ss n)
  where
    pos : (k : ℕ) → 1 ≤ k → true ≡ is_positive k
    pos zero h = absurd (omega arith)
    pos (suc k) h = refl

    by : (a b f : Bool) (x y x' y' : ℕ) → not f ≡ is_positive (x + y) → x' ≡ cond a 1 0 + x → y' ≡ cond b 1 0 + y →
        not (not (a || b) && f) ≡ is_positive (x' + y')
    by true b f x y x' y' h e d = pos (x' + y') (omega (arith, e))
    by false true f x y x' y' h e d = pos (x' + y') (omega (arith, d))
    by false false f x y x' y' h e d =
        let q : x' + y' ≡ x + y = omega arith in rw q h

not_twice : (b : Bool) → not (not b) ≡ b
not_twice true = refl
not_twice false = refl

pub free_from : (ss : List Segment) (n : Number) → mbufs ss n + refs ss n ≡ 0 → is_free ss n ≡ true
free_from ss n e =
    rw (← not_twice (is_free ss n), free_is ss n, e)

free_out : (ps : List PoolView) (slots : List (Option Packet)) (n : Number) → Whole ps [] slots → IsNumber (specs_of ps) n → is_free (segments_held slots) n
    ≡ not (is_out ps n)
free_out ps slots n w h =
    rw (← not_twice (is_free (segments_held slots) n), free_is (segments_held slots) n, w.counted.out n h)

count_take : (f : Bool → Bool) (row : List Bool) (k : ℕ) → k < length row → count_by f (take (suc k) row)
    ≡ count_by f (take k row) + cond (f (get_or row k false)) 1 0
count_take f [] k h = absurd (omega arith)
count_take f (x ∷ row) zero h = omega (arith, sum_by-cons (λ s. cond (f s) 1 0) x [])
count_take f (x ∷ row) (suc k) h =
    omega (arith, count_take f row k (omega arith), sum_by-cons (λ s. cond (f s) 1 0) x (take (suc k) row), sum_by-cons (λ s. cond (f s) 1 0) x (take k row))

below_is : (ss : List Segment) (pool : ℕ) (row : List Bool) (k : ℕ) → k ≤ length row →
    ((i : ℕ) → i < k → is_free ss (record { pool = pool; index = i }) ≡ not (get_or row i false)) → free_below ss pool k ≡ count_by not (take k row)
below_is ss pool row zero h e = refl
below_is ss pool row (suc k) h e =
    let one : ℕ = 1 in
    let here : cond (is_free ss (record { pool = pool; index = k })) one 0 ≡ cond (not (get_or row k false)) one 0 =
    ap (λ b. cond b one 0) (e k (omega arith)) in
    omega (arith, here, below_is ss pool row k (omega arith) (λ i b. e i (omega (arith, b))), count_take not row k h)

-- the objects that a pool has in are those that are free
pub available_is : (ps : List PoolView) (slots : List (Option Packet)) (pool : ℕ) → Whole ps [] slots → pool < length ps →
    available (specs_of ps) (segments_held slots) pool ≡ count_in ps pool
available_is ps slots pool w there =
    let l : length (pool_in ps pool).out ≡ count_at (specs_of ps) pool = omega (arith, (w.are.rooms pool there).pool.out, count_is ps pool) in
    rw (
      below_is (segments_held slots) pool (pool_in ps pool).out (count_at (specs_of ps) pool) (omega arith)
          (λ i b. free_out ps slots (record { pool = pool; index = i }) w b),
      take_all (count_at (specs_of ps) pool) (pool_in ps pool).out (omega arith),
    )
