-- Each number is the mbuf of at most one live segment, and no buffer is an indirect mbuf: by counts, and as packets come, go and change.
use Rattle.std.proofs.Common.{◌≡◌, ◌⊎◌, ℕ, zero, suc, ◌+◌, ◌-◌, ◌≤◌, Bool, true, false, not, ◌||◌, ◌&&◌, List, [], ◌∷◌, length, refl, ◌∙◌, ap, subst, arith}
use Rattle.std.proofs.Common.{inl, inr, ⊎_elim}
use Rattle.std.specs.List.{AllByRecursion}
use Rattle.std.proofs.lemmas.Bool.{and_parts, not-true, or_parts}
use Rattle.dp_model.specs.declared.env.PoolSpec.{PoolSpec}
use Rattle.dp_model.specs.Buffers.{Number, same_number, IsNumber, AreDistinct}
use Rattle.dp_model.specs.Packets.{Segment, Packet, refs, is_free, IsFresh, AreFresh, AreOwned, allocated, received, cloned, direct}
use Rattle.dp_model.specs.Laws.Stored.{same_is, same_number_sym}
use Rattle.dp_model.specs.Laws.Cases.{one_if}
use Rattle.dp_model.specs.Laws.References.{free_zero}
use Rattle.dp_model.proofs.Counts.{tally_le}
use Rattle.dp_model.specs.Laws.Counts.{tally-cons, has_mbuf, is_indirect_at, mbufs, indirects, owned_of_counts, counts_of_owned}

-- ---- the counts

-- an indirect mbuf is an mbuf
pub indirects_le : (live : List Segment) (n : Number) → indirects live n ≤ mbufs live n
indirects_le live n = tally_le (is_indirect_at n) (has_mbuf n) live (λ s yes. (and_parts (same_number s.mbuf n) (not (same_number s.buffer n)) yes).0)

-- ---- from counts to segments, and back
pub free_no_mbuf : (live : List Segment) (n : Number) → is_free live n ≡ true → mbufs live n ≡ 0
free_no_mbuf [] n h = refl
free_no_mbuf (s ∷ rest) n h =
    let t = and_parts (not (same_number s.mbuf n || same_number s.buffer n)) (is_free rest n) h in
    let other : same_number s.mbuf n ≡ false = (or_parts (same_number s.mbuf n) (same_number s.buffer n)
    (not-true (same_number s.mbuf n || same_number s.buffer n) t.0)).0 in
    let none : one_if (same_number s.mbuf n) ≡ 0 = ap one_if other in
    omega (arith, none, tally-cons (has_mbuf n) s rest, free_no_mbuf rest n t.1)

-- ---- packets that may come: their mbufs are free and different, and each buffer is their own or a live one
pub record MayCome (pools : List PoolSpec) (live : List Segment) (k : Packet) : Type 0 where
  pub once : (n : Number) → mbufs k n ≤ 1
  pub fresh : (n : Number) → 1 ≤ mbufs k n → (is_free live n ≡ true) × IsNumber pools n
  pub buffers : (n : Number) → 1 ≤ refs k n → (1 ≤ refs live n) ⊎ ((1 ≤ mbufs k n) × (indirects k n ≡ 0))

-- the live segments are the old ones and the packet's
pub record AreMore (live live' : List Segment) (k : Packet) : Type 0 where
  pub mbufs : (n : Number) → mbufs live' n ≡ mbufs live n + mbufs k n
  pub buffers : (n : Number) → refs live' n ≡ refs live n + refs k n
  pub indirects : (n : Number) → indirects live' n ≡ indirects live n + indirects k n

-- a number is a packet's mbuf or not
some_or_none : (n : ℕ) → (1 ≤ n) ⊎ (n ≡ 0)
some_or_none zero = inr refl
some_or_none (suc n) = inl (omega arith)

pub more_owned : (pools : List PoolSpec) (live live' : List Segment) (k : Packet) → AreMore live live' k → MayCome pools live k → AreOwned pools live →
    AreOwned pools live'
more_owned pools live live' k more comes owned =
    let counts = counts_of_owned pools live owned in
    owned_of_counts pools live' (record {
      exist = λ n one. ⊎_elim
          (λ some. (comes.fresh n some).1)
          (λ none. counts.exist n (omega (arith, one, none, more.mbufs n)))
          (some_or_none (mbufs k n));
      once = λ n. ⊎_elim
          (λ some. omega (arith, comes.once n, free_no_mbuf live n (comes.fresh n some).0, more.mbufs n))
          (λ none. omega (arith, counts.once n, none, more.mbufs n))
          (some_or_none (mbufs k n));
      direct = λ n one. ⊎_elim
          (λ old. let quiet : mbufs k n ≡ 0 = unused n old in omega (arith, counts.direct n old, quiet, indirects_le k n, more.indirects n))
          (λ none. ⊎_elim
          (λ old. absurd (omega (arith, old, none)))
          (λ (own, straight). omega (arith, straight, free_no_mbuf live n (comes.fresh n own).0, indirects_le live n, more.indirects n))
          (comes.buffers n (omega (arith, one, none, more.buffers n))))
          (some_or_none (refs live n));
    })
  where
    unused : (n : Number) → 1 ≤ refs live n → mbufs k n ≡ 0
    unused n old = ⊎_elim
        (λ some. absurd (omega (arith, old, free_zero live n (comes.fresh n some).0)))
        (λ none. none)
        (some_or_none (mbufs k n))

-- ---- packets that come: how often a number occurs in a list
abbrev pub times : List Number → Number → ℕ
times [] n = 0
times (m ∷ ns) n = one_if (same_number m n) + times ns n

times_none : (n : Number) (ns : List Number) → AllByRecursion (λ m. same_number n m ≡ false) ns → times ns n ≡ 0
times_none n [] all = refl
times_none n (m ∷ ns) all = let none : one_if (same_number m n) ≡ 0 = ap one_if (same_number_sym m n ∙ all.0) in omega (arith, none, times_none n ns all.1)

pub times_once : (ns : List Number) (n : Number) → AreDistinct ns → times ns n ≤ 1
times_once [] n distinct = omega arith
times_once (m ∷ ns) n distinct = go (same_number m n) refl (times_once ns n distinct.1)
  where
    go : (b : Bool) → same_number m n ≡ b → times ns n ≤ 1 → one_if (same_number m n) + times ns n ≤ 1
    go true e few =
        let one : one_if (same_number m n) ≡ 1 = ap one_if e in
        let none : times ns n ≡ 0 = subst (λ x. times ns x ≡ 0) (same_is m n e) (times_none m ns distinct.0) in
        omega (arith, one, none)
    go false e few = let none : one_if (same_number m n) ≡ 0 = ap one_if e in omega (arith, none, few)

pub times_fresh : (pools : List PoolSpec) (live : List Segment) (pool : ℕ) (ns : List Number) (n : Number) → AllByRecursion (IsFresh pools live pool) ns →
    1 ≤ times ns n → (is_free live n ≡ true) × IsNumber pools n
times_fresh pools live pool [] n all one = absurd (omega arith)
times_fresh pools live pool (m ∷ ns) n all one = go (same_number m n) refl (times_fresh pools live pool ns n all.1)
  where
    go : (b : Bool) → same_number m n ≡ b → (1 ≤ times ns n → (is_free live n ≡ true) × IsNumber pools n) → (is_free live n ≡ true) × IsNumber pools n
    go true e later = (subst (λ x. is_free live x ≡ true) (same_is m n e) all.0.free, subst (IsNumber pools) (same_is m n e) all.0.exists)
    go false e later = let none : one_if (same_number m n) ≡ 0 = ap one_if e in later (omega (arith, one, none))

-- a direct segment is no indirect one
direct_not : (m : Number) (offset len : ℕ) (n : Number) → is_indirect_at n (direct m offset len) ≡ false
direct_not m offset len n = go (same_number m n) refl
  where
    go : (b : Bool) → same_number m n ≡ b → (same_number m n && not (same_number m n)) ≡ false
    go true e = ap (λ x. x && not x) e
    go false e = ap (λ x. x && not x) e

-- all of these packets' segments are direct
pub record AreDirect (k : Packet) (ns : List Number) : Type 0 where
  pub mbufs : (n : Number) → mbufs k n ≡ times ns n
  pub buffers : (n : Number) → refs k n ≡ times ns n
  pub indirects : (n : Number) → indirects k n ≡ 0

direct_cons : (m : Number) (offset len : ℕ) (k : Packet) (ns : List Number) → AreDirect k ns → AreDirect (direct m offset len ∷ k) (m ∷ ns)
direct_cons m offset len k ns d = record {
  mbufs = λ n. omega (arith, d.mbufs n, tally-cons (has_mbuf n) (direct m offset len) k);
  buffers = λ n. omega (arith, d.buffers n, tally-cons (λ x. same_number x.buffer n) (direct m offset len) k);
  indirects = λ n. let none : one_if (is_indirect_at n (direct m offset len)) ≡ 0 = ap one_if (direct_not m offset len n) in
      omega (arith, none, d.indirects n, tally-cons (is_indirect_at n) (direct m offset len) k);
}

direct_none : AreDirect [] []
direct_none = record { mbufs = λ n. refl; buffers = λ n. refl; indirects = λ n. refl }

pub allocated_direct : (pools : List PoolSpec) (ns : List Number) → AreDirect (allocated pools ns) ns
allocated_direct pools [] = direct_none
allocated_direct pools (n ∷ ns) = direct_cons n _ 0 (allocated pools ns) ns (allocated_direct pools ns)

pub received_direct : (room : ℕ) (ns : List Number) (len : ℕ) → AreDirect (received room ns len) ns
received_direct room [] len = direct_none
received_direct room (n ∷ []) len = direct_cons n 128 len [] [] direct_none
received_direct room (n ∷ m ∷ ns) len =
    direct_cons n 128 (room - 128) (received room (m ∷ ns) (len - (room - 128))) (m ∷ ns) (received_direct room (m ∷ ns) (len - (room - 128)))

pub direct_comes : (pools : List PoolSpec) (live : List Segment) (pool need : ℕ) (k : Packet) (ns : List Number) → AreDirect k ns →
    AreFresh pools live pool need ns → MayCome pools live k
direct_comes pools live pool need k ns d fresh = record {
  once = λ n. omega (arith, d.mbufs n, times_once ns n fresh.distinct);
  fresh = λ n one. times_fresh pools live pool ns n fresh.each (omega (arith, one, d.mbufs n));
  buffers = λ n one. inr (omega (arith, one, d.mbufs n, d.buffers n), d.indirects n);
}

-- ---- clones
pub mbufs_cloned : (ns : List Number) (k : Packet) (n : Number) → length ns ≡ length k → mbufs (cloned ns k) n ≡ times ns n
mbufs_cloned [] [] n e = refl
mbufs_cloned (m ∷ ns) (s ∷ k) n e =
    let clone : Segment = record { mbuf = m; buffer = s.buffer; offset = s.offset; len = s.len } in
    omega (arith, mbufs_cloned ns k n (omega arith), tally-cons (has_mbuf n) clone (cloned ns k))
mbufs_cloned x y n e = absurd (omega arith)

pub clone_comes : (pools : List PoolSpec) (live : List Segment) (pool : ℕ) (ns : List Number) (k : Packet) →
    ((n : Number) → refs (cloned ns k) n ≤ refs live n) → AreFresh pools live pool (length k) ns → MayCome pools live (cloned ns k)
clone_comes pools live pool ns k part fresh = record {
  once = λ n. omega (arith, mbufs_cloned ns k n fresh.count, times_once ns n fresh.distinct);
  fresh = λ n one. times_fresh pools live pool ns n fresh.each (omega (arith, one, mbufs_cloned ns k n fresh.count));
  buffers = λ n one. inl (omega (arith, one, part n));
}
