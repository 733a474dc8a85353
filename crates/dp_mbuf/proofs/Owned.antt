-- The world of an `Mbufs` is well formed.
use Rattle.std.proofs.Common.{◌≡◌, ℕ, zero, suc, ◌+◌, ◌<◌, ◌≤◌, Bool, true, List, [], ◌∷◌, length, sym, ap, subst, arith, ⊎_elim}
use Rattle.std.specs.Prelude.{◌&&◌, not}
use Rattle.std.specs.List.{AllByRecursion}
use Rattle.std.proofs.lemmas.Bool.{cases_eq}
use Rattle.std.proofs.lemmas.List.Sums.{sum_by-cons}
use Rattle.dp_model.specs.declared.env.PoolSpec.{PoolSpec}
use Rattle.dp_model.specs.Environments.{count_at}
use Rattle.dp_model.specs.Buffers.{Number, same_number, IsNumber}
use Rattle.dp_model.specs.Packets.{Segment, Packet, refs, AreOwned, IsWithin}
use Rattle.dp_model.specs.Machine.{segments_held}
use Rattle.dp_model.specs.Stores.{Store, Has, segments_of}
use Rattle.dp_pool.specs.Pools.{PoolView}
use Rattle.dp_mbuf.specs.Objects.{specs_of, objects_in_all}
use Rattle.dp_mbuf.specs.Mbufs.{mbufs, indirects, slots_of, shown, Sound, mbufs_in_all}
use Rattle.dp_mbuf.proofs.ObjectLemmas.{same_or, mbufs_are}
use Rattle.dp_mbuf.proofs.Counting.{mbufs-cons, mbufs_first, refs_le, indirects-cons}
use Rattle.dp_mbuf.proofs.Live.{opened}
use Rattle.dp_mbuf.proofs.Receiving.{buffer_long, are_bytes}
use Rattle.dp_model.specs.Laws.Stored.{same_number_refl}
use Rattle.dp_model.specs.Laws.Counts.{distinct_mbufs}
use Rattle.dp_model.specs.Laws.Cases.{one_if}
use Rattle.dp_model.specs.Laws.References.{refs-cons}

-- each segment, with its counts among all
each_of : (P : Segment → Type 0) (all ss : List Segment) → ((s : Segment) → ((n : Number) → one_if (same_number s.buffer n) ≤ refs all n) →
    ((n : Number) → one_if (same_number s.mbuf n && not (same_number s.buffer n)) ≤ indirects all n) → P s) → ((n : Number) → refs ss n ≤ refs all n) →
    ((n : Number) → indirects ss n ≤ indirects all n) → AllByRecursion P ss
each_of P all [] f r i = tt
each_of P all (s ∷ ss) f r i = (
  f s (λ n. omega (arith, r n, refs-cons s ss n)) (λ n. omega (arith, i n, indirects-cons s ss n)),
  each_of P all ss f (λ n. omega (arith, r n, refs-cons s ss n)) (λ n. omega (arith, i n, indirects-cons s ss n)),
)

one_true : (b : Bool) → b ≡ true → one_if b ≡ 1
one_true b e = rw e

directs : (ss : List Segment) → ((n : Number) → 1 ≤ indirects ss n → refs ss n ≡ 0) →
    AllByRecursion (λ s. AllByRecursion (λ t. s.buffer ≡ t.mbuf → t.buffer ≡ t.mbuf) ss) ss
directs ss direct =
    each_of (λ s. AllByRecursion (λ t. s.buffer ≡ t.mbuf → t.buffer ≡ t.mbuf) ss) ss ss
    (λ s rs _. each_of (λ t. s.buffer ≡ t.mbuf → t.buffer ≡ t.mbuf) ss ss
    (λ t _ it e. ⊎_elim
    (λ own. own)
    (λ d. absurd (let is : one_if (same_number t.mbuf t.mbuf && not (same_number t.buffer t.mbuf)) ≡ 1 =
    one_true (same_number t.mbuf t.mbuf && not (same_number t.buffer t.mbuf)) (rw (same_number_refl t.mbuf) (ap not d)) in
    let at : one_if (same_number s.buffer t.mbuf) ≡ 1 = one_true (same_number s.buffer t.mbuf) (cc (e, same_number_refl t.mbuf)) in
    omega (arith, direct t.mbuf (omega (arith, it t.mbuf)), rs t.mbuf)))
    (same_or t.buffer t.mbuf))
    (λ n. omega arith) (λ n. omega arith))
    (λ n. omega arith) (λ n. omega arith)

pub owned : (ps : List PoolView) (v : Store) → shown ps ≡ v → Sound ps → AreOwned v.pools (segments_of v)
owned ps v e sound =
    rw (← e) (record {
      mbufs = sound.counted.numbers;
      once = distinct_mbufs (segments_held (slots_of ps)) sound.counted.once;
      direct = directs (segments_held (slots_of ps)) sound.counted.direct;
    })

pub within : (ps : List PoolView) (v : Store) → shown ps ≡ v → Sound ps → IsWithin v.pools v.buffers (segments_of v)
within ps v e sound =
    rw (← e) (record {
      rooms = λ b h. buffer_long ps b sound.are h;
      bytes = are_bytes ps sound.are;
      lie = sound.counted.lie;
    })

-- ---- no more segments than mbufs

row : (Number → ℕ) → ℕ → ℕ → ℕ
row f k zero = 0
row f k (suc i) = f (record { pool = k; index = i }) + row f k i

rows : (Number → ℕ) → ℕ → List PoolSpec → ℕ
rows f k [] = 0
rows f k (s ∷ specs) = row f k s.count + rows f (suc k) specs

row_few : (f : Number → ℕ) (k i : ℕ) → ((n : Number) → f n ≤ 1) → row f k i ≤ i
unfolding row
row_few f k zero h = omega arith
row_few f k (suc i) h = omega (arith, row_few f k i h, h (record { pool = k; index = i }))

rows_few : (f : Number → ℕ) (k : ℕ) (specs : List PoolSpec) → ((n : Number) → f n ≤ 1) → rows f k specs ≤ mbufs_in_all specs
unfolding rows
rows_few f k [] h = omega arith
rows_few f k (s ∷ specs) h =
    omega (arith, rows_few f (suc k) specs h, row_few f k s.count h, sum_by-cons (λ x. x.count) s specs)

row_more : (f g : Number → ℕ) (k i : ℕ) → ((n : Number) → f n ≤ g n) → row f k i ≤ row g k i
unfolding row
row_more f g k zero h = omega arith
row_more f g k (suc i) h = omega (arith, row_more f g k i h, h (record { pool = k; index = i }))

rows_more : (f g : Number → ℕ) (k : ℕ) (specs : List PoolSpec) → ((n : Number) → f n ≤ g n) → rows f k specs ≤ rows g k specs
unfolding rows
rows_more f g k [] h = omega arith
rows_more f g k (s ∷ specs) h =
    omega (arith, rows_more f g (suc k) specs h, row_more f g k s.count h)

row_one : (f g : Number → ℕ) (k i j : ℕ) → j < i → ((n : Number) → f n ≤ g n) → f (record { pool = k; index = j }) + 1 ≤ g (record { pool = k; index = j }) →
    row f k i + 1 ≤ row g k i
unfolding row
row_one f g k zero j b h o = absurd (omega arith)
row_one f g k (suc i) j b h o = ⊎_elim
    (λ e. let x = ap (λ y. f (record { pool = k; index = y })) e in
    let y = ap (λ y. g (record { pool = k; index = y })) e in
    omega (arith, row_more f g k i h, o, x, y))
    (λ ne. let q = row_one f g k i j (omega (arith, b, ne)) h o in let c = h (record { pool = k; index = i }) in omega (arith, q, c))
    (cases_eq j i)

rows_one : (f g : Number → ℕ) (k p j : ℕ) (specs : List PoolSpec) → j < count_at specs p → ((n : Number) → f n ≤ g n) →
    f (record { pool = k + p; index = j }) + 1 ≤ g (record { pool = k + p; index = j }) → rows f k specs + 1 ≤ rows g k specs
unfolding rows
rows_one f g k p j [] b h o = absurd (omega arith)
rows_one f g k zero j (s ∷ specs) b h o =
    let e : k + 0 ≡ k = omega arith in
    let o' : f (record { pool = k; index = j }) + 1 ≤ g (record { pool = k; index = j }) =
    subst (λ x. f (record { pool = x; index = j }) + 1 ≤ g (record { pool = x; index = j })) e o in
    omega (arith, row_one f g k s.count j b h o', rows_more f g (suc k) specs h)
rows_one f g k (suc p) j (s ∷ specs) b h o =
    let e : k + suc p ≡ suc k + p = omega arith in
    let o' : f (record { pool = suc k + p; index = j }) + 1 ≤ g (record { pool = suc k + p; index = j }) =
    subst (λ x. f (record { pool = x; index = j }) + 1 ≤ g (record { pool = x; index = j })) e o in
    omega (arith, rows_one f g (suc k) p j specs b h o', row_more f g k s.count h)

all_counted : (specs : List PoolSpec) (ss : List Segment) → AllByRecursion (λ s. IsNumber specs s.mbuf) ss → length ss ≤ rows (mbufs ss) 0 specs
all_counted specs [] a = omega arith
all_counted specs (s ∷ ss) a =
    let q = all_counted specs ss a.1 in
    let e : 0 + s.mbuf.pool ≡ s.mbuf.pool = omega arith in
    let o : mbufs ss s.mbuf + 1 ≤ mbufs (s ∷ ss) s.mbuf = omega (arith, mbufs_first s ss) in
    let o' : mbufs ss (record { pool = 0 + s.mbuf.pool; index = s.mbuf.index }) + 1 ≤ mbufs (s ∷ ss) (record { pool = 0 + s.mbuf.pool; index = s.mbuf.index }) =
    subst (λ x. mbufs ss (record { pool = x; index = s.mbuf.index }) + 1 ≤ mbufs (s ∷ ss) (record { pool = x; index = s.mbuf.index })) (sym e) o in
    let one = rows_one (mbufs ss) (mbufs (s ∷ ss)) 0 s.mbuf.pool s.mbuf.index specs a.0 (λ n. omega (arith, mbufs-cons s ss n)) o' in
    omega (arith, q, one)

pub few_refs : (ps : List PoolView) (v : Store) → shown ps ≡ v → Sound ps → (b : Number) → refs (segments_of v) b ≤ mbufs_in_all v.pools
few_refs ps v e sound b =
    subst (λ s. refs (segments_of s) b ≤ mbufs_in_all s.pools) e
    (omega (
      arith,
      refs_le (segments_held (slots_of ps)) b,
      all_counted (specs_of ps) (segments_held (slots_of ps)) sound.counted.numbers,
      rows_few (mbufs (segments_held (slots_of ps))) 0 (specs_of ps) sound.counted.once,
    ))

-- ---- the number of mbufs

pub few_mbufs : (ps : List PoolView) (v : Store) → shown ps ≡ v → objects_in_all ps ≤ 65535 → mbufs_in_all v.pools ≤ 65535
few_mbufs ps v e few = omega (arith, ap (λ s. mbufs_in_all s.pools) e, mbufs_are ps)

pub one_to_64 : (ps : List PoolView) (v : Store) → shown ps ≡ v → Sound ps → (h : ℕ) (k : Packet) → Has v h k → (1 ≤ length k) × (length k ≤ 64)
one_to_64 ps v e sound h k has = let stands = (opened ps v h k e sound has).stands in (stands.some, stands.few)
