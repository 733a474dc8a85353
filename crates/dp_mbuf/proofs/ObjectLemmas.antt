-- The pools of mbufs after a write into one of them.
use Rattle.std.specs.List.{AllByRecursion}
use Rattle.std.specs.Prelude.{is_some, IsTrue}
use Rattle.std.proofs.Common.{◌≡◌, ◌≢◌, ◌⊎◌, ℕ, zero, suc, ◌+◌, ◌-◌, ◌*◌, ◌/◌, ◌%◌, ◌<◌, ◌≤◌, Bool, true, false, List, [], ◌∷◌, ◌++◌, length, take, drop}
use Rattle.std.proofs.Common.{rules, Option, Some, None, refl, sym, ◌∙◌, ap, arith, inl, inr, ⊎_elim, get_or, set, map}
use Rattle.std.specs.Prelude.{count_by, not, slice_get}
use Rattle.std.proofs.lemmas.Bool.{cases_eq, cases_Bool, eq-eqb, and_from}
use Rattle.std.proofs.lemmas.List.{length-set, length-take-le, get_or-set_same, get_or-set_other, get_or_append_left, get_or-take, drop-drop, drop-take}
use Rattle.std.proofs.lemmas.List.{drop-append-le, length-map, map-set}
use Rattle.std.proofs.Math.Seq.{drop-append-add}
use Rattle.std.proofs.lemmas.List.Sums.{sum_by-cons}
use Rattle.std.proofs.lemmas.Option.{same_Some, slice_get_within}
use Rattle.dp_model.specs.declared.env.PoolSpec.{PoolSpec}
use Rattle.dp_model.specs.Environments.{room_at, count_at}
use Rattle.dp_model.specs.Buffers.{Number, same_number, bytes_of, overwritten}
use Rattle.dp_mbuf.specs.declared.header.Header.{Header}
use Rattle.dp_mbuf.specs.Headers.{header_of, header_bytes, word, mbuf_number}
use Rattle.dp_pool.specs.Pools.{PoolView, object_in, with_written, got, put_back}
use Rattle.dp_mbuf.specs.Objects.{present, no_pool, pool_in, header_at, header_with, is_out, count_in, spec_of, specs_of, rooms_of, buffers_of, zones_of}
use Rattle.dp_mbuf.specs.Objects.{HasObject, HasRooms, PoolsFirst, objects_in_all, ArePools, HeaderSet, RoomWritten, Taken, Given}
use Rattle.dp_mbuf.specs.Mbufs.{mbufs_in_all}
use Rattle.dp_mbuf.proofs.PoolLemmas.{with_out, count_set, Small, pool_out, pool_written}
use Rattle.dp_model.specs.Laws.Stored.{number_path, same_is}
use Rattle.dp_model.specs.Laws.Cases.{one_if}

-- ---- numbers

-- two numbers are the same or not
pub same_or : (n m : Number) → (n ≡ m) ⊎ (same_number n m ≡ false)
same_or n m = ⊎_elim (λ t. inl (same_is n m t)) (λ f. inr f) (cases_Bool (same_number n m))

pub other_index : (n m : Number) → same_number n m ≡ false → n.pool ≡ m.pool → m.index ≢ n.index
other_index n m f e i =
    let t : same_number n m ≡ true = and_from _ _ (eq-eqb n.pool m.pool e) (eq-eqb n.index m.index (sym i)) in cc

-- ---- reading a header back

pub header_eq : (g h : Header) → g.segs ≡ h.segs → g.refs ≡ h.refs → g.offset ≡ h.offset → g.len ≡ h.len → g.next ≡ h.next → g.last ≡ h.last →
    g.buffer ≡ h.buffer → g ≡ h
header_eq g h a b c d e f z = λ i. record { segs = a i; refs = b i; offset = c i; len = d i; next = e i; last = f i; buffer = z i }

pub word_back : (x : ℕ) → x % 256 + (x / 256) * 256 ≡ x
word_back x = omega arith

pub mbuf_back : (n : Number) → record { pool = n.pool % 256 + (n.pool / 256) * 256; index = n.index % 256 + (n.index / 256) * 256 } ≡ n
mbuf_back n = number_path _ n (word_back n.pool) (word_back n.index)

pub header_back : (h : Header) (rest : List ℕ) → header_of (header_bytes h ++ rest) ≡ h
unfolding header_of
header_back h rest =
    header_eq _ h (word_back h.segs) (omega (arith, word_back (h.refs % 65536), word_back (h.refs / 65536))) (word_back h.offset) (word_back h.len)
    (mbuf_back h.next) (mbuf_back h.last) (mbuf_back h.buffer)

word_same : (xs ys : List ℕ) (a : ℕ) → ((k : ℕ) → k < 128 → get_or xs k 0 ≡ get_or ys k 0) → a + 1 < 128 → word xs a ≡ word ys a
word_same xs ys a e h = omega (arith, e a (omega arith), e (a + 1) h)

mbuf_same : (xs ys : List ℕ) (a : ℕ) → ((k : ℕ) → k < 128 → get_or xs k 0 ≡ get_or ys k 0) → a + 3 < 128 → mbuf_number xs a ≡ mbuf_number ys a
mbuf_same xs ys a e h = number_path _ _ (word_same xs ys (a + 2) e (omega arith)) (word_same xs ys a e (omega arith))

-- a header depends on an object's first bytes only
pub header_same : (xs ys : List ℕ) → ((k : ℕ) → k < 128 → get_or xs k 0 ≡ get_or ys k 0) → header_of xs ≡ header_of ys
unfolding header_of
header_same xs ys e =
    header_eq (header_of xs) (header_of ys) (word_same xs ys 0 e (omega arith))
    (omega (arith, word_same xs ys 2 e (omega arith), word_same xs ys 4 e (omega arith))) (word_same xs ys 6 e (omega arith))
    (word_same xs ys 8 e (omega arith)) (mbuf_same xs ys 10 e (omega arith)) (mbuf_same xs ys 14 e (omega arith)) (mbuf_same xs ys 18 e (omega arith))

-- ---- tables

pub map_get : {V W : Type 0} (f : V → W) (xs : List V) (i : ℕ) (d : V) → get_or (map f xs) i (f d) ≡ f (get_or xs i d)
map_get f [] i d = refl
map_get f (x ∷ xs) zero d = refl
map_get f (x ∷ xs) (suc i) d = map_get f xs i d

pub map_kept : {V W : Type 0} (f : V → W) (xs : List V) (i : ℕ) (x d : V) → f x ≡ f (get_or xs i d) → map f (set xs i x) ≡ map f xs
map_kept f [] i x d e = refl
map_kept f (y ∷ xs) zero x d e = rw e
map_kept f (y ∷ xs) (suc i) x d e = rw (map_kept f xs i x d e)

-- ---- what is first

pub present_below : (pools : List (Option PoolView)) → length (present pools) ≤ length pools
present_below [] = omega arith
present_below (None ∷ pools) = omega arith
present_below (Some p ∷ pools) = omega (arith, present_below pools)

pub present_at : (pools : List (Option PoolView)) (k : ℕ) (d : Option PoolView) → k < length (present pools) →
    get_or pools k d ≡ Some (pool_in (present pools) k)
present_at [] k d h = absurd (omega arith)
present_at (None ∷ pools) k d h = absurd (omega arith)
present_at (Some p ∷ pools) zero d h = refl
present_at (Some p ∷ pools) (suc k) d h = present_at pools k d (omega arith)

pub present_set : (pools : List (Option PoolView)) (k : ℕ) (p : PoolView) → k < length (present pools) → present (set pools k (Some p))
    ≡ set (present pools) k p
present_set [] k p h = absurd (omega arith)
present_set (None ∷ pools) k p h = absurd (omega arith)
present_set (Some q ∷ pools) zero p h = refl
present_set (Some q ∷ pools) (suc k) p h = rw (present_set pools k p (omega arith))

pub first_at : (pools : List (Option PoolView)) (k : ℕ) → PoolsFirst pools → k < length (present pools) → HasRooms (pool_in (present pools) k)
first_at [] k f h = absurd (omega arith)
first_at (None ∷ pools) k f h = absurd (omega arith)
first_at (Some p ∷ pools) zero f h = f.0
first_at (Some p ∷ pools) (suc k) f h = first_at pools k f.1 (omega arith)

pub first_set : (pools : List (Option PoolView)) (k : ℕ) (p : PoolView) → PoolsFirst pools → k < length (present pools) → HasRooms p →
    PoolsFirst (set pools k (Some p))
first_set [] k p f h r = absurd (omega arith)
first_set (None ∷ pools) k p f h r = absurd (omega arith)
first_set (Some q ∷ pools) zero p f h r = (r, f.1)
first_set (Some q ∷ pools) (suc k) p f h r = (f.0, first_set pools k p f.1 (omega arith) r)

pub are_pools : (pools : List (Option PoolView)) → length pools ≤ 8 → PoolsFirst pools → ArePools (present pools)
are_pools pools few f = record { few = omega (arith, few, present_below pools); rooms = λ k h. first_at pools k f h }

-- an object's pool exists
pub object_pool : (ps : List PoolView) (n : Number) → HasObject ps n → n.pool < length ps
object_pool ps n h = below ps n.pool n.index h
  where
    below : (ps : List PoolView) (k i : ℕ) → i < length (pool_in ps k).objects → k < length ps
    below [] k i h = absurd (omega arith)
    below (p ∷ ps) zero i h = omega arith
    below (p ∷ ps) (suc k) i h = omega (arith, below ps k i h)

-- ---- writing into one pool

module _ (ps : List PoolView) (k : ℕ) (there : k < length ps) (p' : PoolView) where
  abbrev after : List PoolView
  after = set ps k p'

  pub here : pool_in after k ≡ p'
  here = get_or-set_same ps k p' no_pool there

  pub elsewhere : (j : ℕ) → j ≢ k → pool_in after j ≡ pool_in ps j
  elsewhere j ne = get_or-set_other ps k j p' no_pool ne

  -- what the pool keeps, all pools keep
  pub field_kept : {X : Type 0} (g : PoolView → X) → g p' ≡ g (pool_in ps k) → (j : ℕ) → g (pool_in (set ps k p') j) ≡ g (pool_in ps j)
  field_kept g e j = ⊎_elim
      (λ s. rw s (rw here e))
      (λ ne. rw (elsewhere j ne))
      (cases_eq j k)

  pub specs_kept : spec_of p' ≡ spec_of (pool_in ps k) → specs_of (set ps k p') ≡ specs_of ps
  specs_kept e = map_kept spec_of ps k p' no_pool e

  pub zones_kept : p'.zones ≡ (pool_in ps k).zones → zones_of (set ps k p') ≡ zones_of ps
  zones_kept e = map_kept (λ q. q.zones) ps k p' no_pool e

  pub buffers_kept : rooms_of p' ≡ rooms_of (pool_in ps k) → buffers_of (set ps k p') ≡ buffers_of ps
  buffers_kept e = map_kept rooms_of ps k p' no_pool e

  pub pools_kept : ArePools ps → HasRooms p' → ArePools (set ps k p')
  pools_kept a r = record {
    few = omega (arith, a.few, length-set ps k p');
    rooms = λ j h. ⊎_elim
        (λ s. rw s (rw here r))
        (λ ne. rw (elsewhere j ne) (a.rooms j (omega (arith, length-set ps k p'))))
        (cases_eq j k);
  }

-- ---- rooms and counts

pub room_is : (ps : List PoolView) (k : ℕ) → room_at (specs_of ps) k ≡ (pool_in ps k).size - 128
room_is [] k = refl
room_is (p ∷ ps) zero = refl
room_is (p ∷ ps) (suc k) = room_is ps k

pub count_is : (ps : List PoolView) (k : ℕ) → count_at (specs_of ps) k ≡ length (pool_in ps k).objects
count_is [] k = refl
count_is (p ∷ ps) zero = refl
count_is (p ∷ ps) (suc k) = count_is ps k

pub mbufs_are : (ps : List PoolView) → mbufs_in_all (specs_of ps) ≡ objects_in_all ps
mbufs_are [] = refl
mbufs_are (p ∷ ps) =
    omega (arith, mbufs_are ps, sum_by-cons (λ (s : PoolSpec). s.count) (spec_of p) (specs_of ps), sum_by-cons (λ (q : PoolView). length q.objects) p ps)

pub length_specs : (ps : List PoolView) → length (specs_of ps) ≡ length ps
length_specs ps = length-map ps spec_of

pub bytes_are : (ps : List PoolView) (n : Number) → bytes_of (buffers_of ps) n ≡ drop 128 (object_in (pool_in ps n.pool) n.index)
bytes_are ps n = rw (map_get rooms_of ps n.pool no_pool) (map_get (drop 128) (pool_in ps n.pool).objects n.index [])

-- ---- writing into an object

module _ (ps : List PoolView) (n : Number) (are : ArePools ps) (object : HasObject ps n) (at : ℕ) (bytes : List ℕ) (small : Small bytes)
    (fits : at + length bytes ≤ (pool_in ps n.pool).size) where
  abbrev p : PoolView
  p = pool_in ps n.pool

  abbrev old : List ℕ
  old = object_in p n.index

  abbrev now : List ℕ
  now = overwritten old at bytes

  abbrev pub written_pools : List PoolView
  written_pools = set ps n.pool (with_written p n.index at bytes)

  there : n.pool < length ps
  there = object_pool ps n object

  rooms : HasRooms p
  rooms = are.rooms n.pool there

  pub rooms_written : HasRooms (with_written p n.index at bytes)
  rooms_written = record { pool = pool_written p n.index at bytes rooms.pool object fits small; header = rooms.header; room = rooms.room }

  pub are_written : ArePools written_pools
  are_written = pools_kept ps n.pool there (with_written p n.index at bytes) are rooms_written

  pub specs_written : specs_of written_pools ≡ specs_of ps
  specs_written = specs_kept ps n.pool there (with_written p n.index at bytes) (rw length-set)

  pub zones_written : zones_of written_pools ≡ zones_of ps
  zones_written = zones_kept ps n.pool there (with_written p n.index at bytes) refl

  pub outs_written : (m : Number) → is_out written_pools m ≡ is_out ps m
  outs_written m =
      field_kept ps n.pool there (with_written p n.index at bytes) (λ q. get_or q.out m.index false) refl m.pool

  pub ins_written : (k : ℕ) → count_in written_pools k ≡ count_in ps k
  ins_written k = field_kept ps n.pool there (with_written p n.index at bytes) (λ q. count_by not q.out) refl k

  pub object_written : object_in (pool_in written_pools n.pool) n.index ≡ now
  object_written = rw (here ps n.pool there (with_written p n.index at bytes)) (get_or-set_same p.objects n.index now [] object)

  pub object_kept : (m : Number) → same_number n m ≡ false → object_in (pool_in written_pools m.pool) m.index ≡ object_in (pool_in ps m.pool) m.index
  object_kept m ne = ⊎_elim
      (λ e. rw (← e, here ps n.pool there (with_written p n.index at bytes)) (get_or-set_other p.objects n.index m.index now [] (other_index n m ne e)))
      (λ d. rw (elsewhere ps n.pool there (with_written p n.index at bytes) m.pool (λ e. d cc)))
      (cases_eq n.pool m.pool)

-- ---- setting a header

pub rest_kept : (old : List ℕ) (at : ℕ) (new : List ℕ) → at + length new ≤ 128 → 128 ≤ length old → drop 128 (overwritten old at new) ≡ drop 128 old
rest_kept old at new h long =
    let m : ℕ = 128 - at - length new in
    let rest : List ℕ = drop (at + length new) old in
    let l : length (take at old) ≡ at = length-take-le at old (omega arith) in
    let first : 128 ≡ length (take at old) + (length new + m) = omega arith in
    let all : at + length new + m ≡ 128 = omega arith in
    ap (λ i. drop i (overwritten old at new)) first
    ∙ rw (drop-append-add (take at old) (new ++ rest) (length new + m), drop-append-add new rest m, drop-drop m (at + length new) old, all)

pub object_long : (ps : List PoolView) (n : Number) → ArePools ps → HasObject ps n → 128 ≤ length (object_in (pool_in ps n.pool) n.index)
object_long ps n are object =
    let r = are.rooms n.pool (object_pool ps n object) in omega (arith, r.pool.sizes n.index object, r.header)

pub front_set : (ps : List PoolView) (n : Number) (at : ℕ) (bytes : List ℕ) → ArePools ps → HasObject ps n → Small bytes → at + length bytes ≤ 128 →
    HeaderSet ps n (header_with ps n at bytes) (set ps n.pool (with_written (pool_in ps n.pool) n.index at bytes))
front_set ps n at bytes are object small front =
    let p : PoolView = pool_in ps n.pool in
    let fits : at + length bytes ≤ p.size = omega (arith, front, (are.rooms n.pool (object_pool ps n object)).header) in
    let old : List ℕ = object_in p n.index in
    record {
      are = are_written ps n are object at bytes small fits;
      specs = specs_written ps n are object at bytes small fits;
      zones = zones_written ps n are object at bytes small fits;
      buffers =
          buffers_kept ps n.pool (object_pool ps n object) (with_written p n.index at bytes)
          (map_kept (drop 128) p.objects n.index (overwritten old at bytes) [] (rest_kept old at bytes front (object_long ps n are object)));
      outs = outs_written ps n are object at bytes small fits;
      ins = ins_written ps n are object at bytes small fits;
      here = rw (object_written ps n are object at bytes small fits);
      others = λ m ne. rw (object_kept ps n are object at bytes small fits m ne);
    }

-- ---- writing into a data room

head_kept : (old : List ℕ) (at : ℕ) (new : List ℕ) (k : ℕ) → 128 + at + length new ≤ length old → k < 128 → get_or (overwritten old (128 + at) new) k 0
    ≡ get_or old k 0
head_kept old at new k h b =
    let l : length (take (128 + at) old) ≡ 128 + at = length-take-le (128 + at) old (omega arith) in
    rw (get_or_append_left (take (128 + at) old) (new ++ drop (128 + at + length new) old) 0 k (omega arith)) (get_or-take (128 + at) old k 0 (omega arith))

rest_written : (old : List ℕ) (at : ℕ) (new : List ℕ) → 128 + at + length new ≤ length old → drop 128 (overwritten old (128 + at) new)
    ≡ overwritten (drop 128 old) at new
rest_written old at new h =
    let l : length (take (128 + at) old) ≡ 128 + at = length-take-le (128 + at) old (omega arith) in
    let s : 128 + (at + length new) ≡ 128 + at + length new = omega arith in
    rw (
      drop-append-le 128 (take (128 + at) old) (new ++ drop (128 + at + length new) old) (omega arith),
      drop-take 128 at old,
      drop-drop (at + length new) 128 old,
      s,
    )

pub room_written : (ps : List PoolView) (n : Number) (at : ℕ) (bytes : List ℕ) → ArePools ps → HasObject ps n → Small bytes →
    at + length bytes ≤ room_at (specs_of ps) n.pool → RoomWritten ps n at bytes (set ps n.pool (with_written (pool_in ps n.pool) n.index (128 + at) bytes))
room_written ps n at bytes are object small room =
    let p : PoolView = pool_in ps n.pool in
    let old : List ℕ = object_in p n.index in
    let there : n.pool < length ps = object_pool ps n object in
    let fits : 128 + at + length bytes ≤ p.size = omega (arith, room, room_is ps n.pool, (are.rooms n.pool there).header) in
    let size : length old ≡ p.size = (are.rooms n.pool there).pool.sizes n.index object in
    let fit : 128 + at + length bytes ≤ length old = omega (arith, size, fits) in
    record {
      are = are_written ps n are object (128 + at) bytes small fits;
      specs = specs_written ps n are object (128 + at) bytes small fits;
      zones = zones_written ps n are object (128 + at) bytes small fits;
      buffers =
          rw (
            map-set rooms_of ps n.pool (with_written p n.index (128 + at) bytes),
            map-set (drop 128) p.objects n.index (overwritten old (128 + at) bytes),
            rest_written old at bytes fit,
            ← bytes_are ps n,
            ← map_get rooms_of ps n.pool no_pool,
          );
      outs = outs_written ps n are object (128 + at) bytes small fits;
      ins = ins_written ps n are object (128 + at) bytes small fits;
      headers = λ m. ⊎_elim
          (λ e. rw (← e, object_written ps n are object (128 + at) bytes small fits)
          (header_same (overwritten old (128 + at) bytes) old (λ k b. head_kept old at bytes k fit b)))
          (λ ne. rw (object_kept ps n are object (128 + at) bytes small fits m ne))
          (same_or n m);
    }

-- ---- in and out

out_at : (row : List Bool) (i : ℕ) (b : Bool) → slice_get row i ≡ Some b → get_or row i false ≡ b
out_at [] i b h = cc
out_at (x ∷ row) zero b h = same_Some x b h
out_at (x ∷ row) (suc i) b h = out_at row i b h

module _ (ps : List PoolView) (n : Number) (are : ArePools ps) (there : n.pool < length ps) (b : Bool) (was : Bool)
    (is : slice_get (pool_in ps n.pool).out n.index ≡ Some was) (cached : ℕ) where
  abbrev q : PoolView
  q = pool_in ps n.pool

  abbrev moved : List PoolView
  moved = set ps n.pool (with_out q n.index b cached)

  abbrev below : n.index < length q.out
  below = slice_get_within q.out n.index was is

  are_moved : ArePools moved
  are_moved =
      let r = are.rooms n.pool there in
      pools_kept ps n.pool there (with_out q n.index b cached) are
      (record { pool = pool_out q n.index b cached r.pool; header = r.header; room = r.room })

  header_moved : (m : Number) → header_at moved m ≡ header_at ps m
  header_moved m =
      field_kept ps n.pool there (with_out q n.index b cached) (λ x. header_of (object_in x m.index)) refl m.pool

  here_moved : is_out moved n ≡ b
  here_moved = rw (here ps n.pool there (with_out q n.index b cached)) (get_or-set_same q.out n.index b false below)

  others_moved : (m : Number) → same_number n m ≡ false → is_out moved m ≡ is_out ps m
  others_moved m ne = ⊎_elim
      (λ e. rw (← e, here ps n.pool there (with_out q n.index b cached)) (get_or-set_other q.out n.index m.index b false (other_index n m ne e)))
      (λ d. rw (elsewhere ps n.pool there (with_out q n.index b cached) m.pool (λ e. d cc)))
      (cases_eq n.pool m.pool)

  counted_moved : count_in moved n.pool + one_if (not was) ≡ count_in ps n.pool + one_if (not b)
  counted_moved =
      rw (here ps n.pool there (with_out q n.index b cached)) (omega (arith, count_set q.out n.index was b is))

pub taken : (ps : List PoolView) (n : Number) → ArePools ps → n.pool < length ps → slice_get (pool_in ps n.pool).out n.index ≡ Some false →
    Taken ps n (set ps n.pool (got (pool_in ps n.pool) n.index))
taken ps n are there is = record {
  are = are_moved ps n are there true false is (got (pool_in ps n.pool) n.index).cached;
  specs = specs_kept ps n.pool there (got (pool_in ps n.pool) n.index) refl;
  zones = zones_kept ps n.pool there (got (pool_in ps n.pool) n.index) refl;
  buffers = buffers_kept ps n.pool there (got (pool_in ps n.pool) n.index) refl;
  headers = header_moved ps n are there true false is (got (pool_in ps n.pool) n.index).cached;
  object = omega (arith, slice_get_within (pool_in ps n.pool).out n.index false is, (are.rooms n.pool there).pool.out);
  was = out_at (pool_in ps n.pool).out n.index false is;
  here = here_moved ps n are there true false is (got (pool_in ps n.pool) n.index).cached;
  others = others_moved ps n are there true false is (got (pool_in ps n.pool) n.index).cached;
  ins = omega (arith, counted_moved ps n are there true false is (got (pool_in ps n.pool) n.index).cached);
}

pub given : (ps : List PoolView) (n : Number) → ArePools ps → n.pool < length ps → slice_get (pool_in ps n.pool).out n.index ≡ Some true →
    Given ps n (set ps n.pool (put_back (pool_in ps n.pool) n.index))
given ps n are there is = record {
  are = are_moved ps n are there false true is (put_back (pool_in ps n.pool) n.index).cached;
  specs = specs_kept ps n.pool there (put_back (pool_in ps n.pool) n.index) refl;
  zones = zones_kept ps n.pool there (put_back (pool_in ps n.pool) n.index) refl;
  buffers = buffers_kept ps n.pool there (put_back (pool_in ps n.pool) n.index) refl;
  headers = header_moved ps n are there false true is (put_back (pool_in ps n.pool) n.index).cached;
  here = here_moved ps n are there false true is (put_back (pool_in ps n.pool) n.index).cached;
  others = others_moved ps n are there false true is (put_back (pool_in ps n.pool) n.index).cached;
}

-- ---- slots for pools

pub slot_is : (pools : List (Option PoolView)) (ps : List PoolView) (k : ℕ) (d : Option PoolView) → present pools ≡ ps → k < length ps →
    get_or pools k d ≡ Some (pool_in ps k)
slot_is pools ps k d e h = rw (← e) (present_at pools k d (rw e h))

pub slot_below : (pools : List (Option PoolView)) (ps : List PoolView) (k : ℕ) → present pools ≡ ps → k < length ps → k < length pools
slot_below pools ps k e h =
    omega (arith, present_below pools, rw (← e) at h)

-- a slot that is filled is one of the pools
none_there : (pools : List (Option PoolView)) (k : ℕ) (d : Option PoolView) (p : PoolView) → AllByRecursion (λ o. o ≡ None) pools → k < length pools
    → get_or pools k d ≡ Some p → ⊥
none_there [] k d p all less is = absurd (omega arith)
none_there (o ∷ pools) zero d p all less is = cc
none_there (o ∷ pools) (suc k) d p all less is = none_there pools k d p all.1 (omega arith) is

pub filled_below : (pools : List (Option PoolView)) (k : ℕ) (d : Option PoolView) (p : PoolView) → PoolsFirst pools → k < length pools
    → get_or pools k d ≡ Some p → k < length (present pools)
filled_below [] k d p first less is = absurd (omega arith)
filled_below (None ∷ pools) zero d p first less is = cc
filled_below (None ∷ pools) (suc k) d p first less is = absurd (none_there pools k d p first (omega arith) is)
filled_below (Some q ∷ pools) zero d p first less is = omega arith
filled_below (Some q ∷ pools) (suc k) d p first less is = omega (arith, filled_below pools k d p first.1 (omega arith) is)

-- whether a slot is filled, and whether there is a pool of its number
pub filled_iff : (pools : List (Option PoolView)) (ps : List PoolView) (k : ℕ) (d o : Option PoolView) (b : Bool) → present pools ≡ ps → PoolsFirst pools
    → k < length pools → o ≡ get_or pools k d → b ≡ is_some o → (IsTrue b → k < length ps) × (k < length ps → IsTrue b)
filled_iff pools ps k d None b e first less at is = (
  λ t. absurd (let f : b ≡ false = is in let y : IsTrue b = t in cc),
  λ h. absurd (let there = present_at pools k d (rw e h) in cc),
)
filled_iff pools ps k d (Some p) b e first less at is = (
  λ t. rw (← e) (filled_below pools k d p first less cc),
  λ h. let y : b ≡ true = is in search rules,
)
