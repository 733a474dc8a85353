-- Packets along their links.
use Rattle.std.proofs.Common.{◌≡◌, ◌⊎◌, ◌≤◌, false, [], ◌∷◌, ◌++◌, length, refl, sym, ◌∙◌, ap, subst, arith, ⊎_elim}
use Rattle.dp_model.specs.Buffers.{Number, same_number}
use Rattle.dp_model.specs.Packets.{Segment, Packet}
use Rattle.dp_mbuf.specs.declared.header.Header.{Header}
use Rattle.dp_mbuf.specs.Steps.{Linkage, Alike}
use Rattle.dp_mbuf.specs.Mbufs.{mbufs, segment_at, walk, Linked, last_mbuf}
use Rattle.dp_mbuf.proofs.Counting.{mbufs-cons, mbufs-append, mbufs_first}
use Rattle.dp_mbuf.proofs.ObjectLemmas.{same_or}

pub alike : (g h : Header) → g ≡ h → Alike g h
alike g h e = record {
  segs = rw e;
  last = rw e;
  link = record { offset = rw e; len = rw e; next = rw e; buffer = rw e };
}

pub segment_eq : (s t : Segment) → s.mbuf ≡ t.mbuf → s.buffer ≡ t.buffer → s.offset ≡ t.offset → s.len ≡ t.len → s ≡ t
segment_eq s t a b c d = λ i. record { mbuf = a i; buffer = b i; offset = c i; len = d i }

pub segment_alike : (h h' : Number → Header) (n : Number) → Linkage (h' n) (h n) → segment_at h' n ≡ segment_at h n
segment_alike h h' n a = segment_eq (segment_at h' n) (segment_at h n) refl a.buffer a.offset a.len

pub walk_is : (h : Number → Header) (n : Number) (k : Packet) → Linked h n k → walk h (length k) n ≡ k
walk_is h n [] l = refl
walk_is h n (s ∷ rest) l = cc (l.0, walk_is h (h n).next rest l.1)

-- the first mbuf is the one that the links begin at
pub first_mbuf : (h : Number → Header) (n : Number) (s : Segment) (rest : Packet) → Linked h n (s ∷ rest) → s.mbuf ≡ n
first_mbuf h n s rest l = rw (← l.0)

pub mbufs_at : (s : Segment) (rest : Packet) (n : Number) → s.mbuf ≡ n → 1 ≤ mbufs (s ∷ rest) n
mbufs_at s rest n e = subst (λ m. 1 ≤ mbufs (s ∷ rest) m) e (omega (arith, mbufs_first s rest))

pub first_in : (h : Number → Header) (n : Number) (k : Packet) → 1 ≤ length k → Linked h n k → 1 ≤ mbufs k n
first_in h n [] some l = absurd (omega arith)
first_in h n (s ∷ rest) some l = mbufs_at s rest n (first_mbuf h n s rest l)

pub last_in : (s : Segment) (rest : Packet) → 1 ≤ mbufs (s ∷ rest) (last_mbuf s.mbuf rest)
last_in s [] = omega (arith, mbufs_first s [])
last_in s (t ∷ rest) = omega (arith, last_in t rest, mbufs-cons s (t ∷ rest) (last_mbuf t.mbuf rest))

-- links depend on the headers of their own mbufs only
pub linked_kept : (h h' : Number → Header) (n : Number) (k : Packet) → ((m : Number) → 1 ≤ mbufs k m → Linkage (h' m) (h m)) → Linked h n k → Linked h' n k
linked_kept h h' n [] e l = tt
linked_kept h h' n (s ∷ rest) e l =
    let here : Linkage (h' n) (h n) = e n (mbufs_at s rest n (first_mbuf h n s rest l)) in (
      rw (segment_alike h h' n here) l.0,
      rw here.next (linked_kept h h' (h n).next rest (λ m q. e m (omega (arith, q, mbufs-cons s rest m))) l.1),
    )

-- linking the last mbuf to more segments
pub linked_join : (h h' : Number → Header) (n m : Number) (k t : Packet) → 1 ≤ length k → ((x : Number) → mbufs k x ≤ 1) → Linked h n k → Linked h' m t →
    ((x : Number) → 1 ≤ mbufs k x → (x ≡ last_mbuf n k) ⊎ Linkage (h' x) (h x)) → segment_at h' (last_mbuf n k) ≡ segment_at h (last_mbuf n k) →
    (h' (last_mbuf n k)).next ≡ m → Linked h' n (k ++ t)
linked_join h h' n m [] t some once l lt e s nx = absurd (omega arith)
linked_join h h' n m (a ∷ []) t some once l lt e s nx =
    let first = first_mbuf h n a [] l in
    (cc (first, s, l.0), rw (rw first at nx) lt)
linked_join h h' n m (a ∷ b ∷ rest) t some once l lt e s nx =
    let first = first_mbuf h n a (b ∷ rest) l in
    let first' = first_mbuf h (h n).next b rest l.1 in
    let one = mbufs_first a (b ∷ rest) in
    let here : Linkage (h' n) (h n) = ⊎_elim
    (λ same. absurd (omega (arith, one, last_in b rest, once a.mbuf, ap (mbufs (b ∷ rest)) (first ∙ same))))
    (λ alike. alike)
    (e n (mbufs_at a (b ∷ rest) n first)) in (
      rw (segment_alike h h' n here) l.0,
      rw here.next
          (linked_join h h' (h n).next m (b ∷ rest) t (omega arith) (λ x. omega (arith, once x, mbufs-cons a (b ∷ rest) x)) l.1 lt
          (λ x q. e x (omega (arith, q, mbufs-cons a (b ∷ rest) x))) s nx),
    )

-- ---- one segment changed in mbuf

-- the header of each segment is at its mbuf
pub linked_at : (h : Number → Header) (n : Number) (before : Packet) (s : Segment) (rest : Packet) → Linked h n (before ++ s ∷ rest) → segment_at h s.mbuf ≡ s
linked_at h n [] s rest l = cc (first_mbuf h n s rest l, l.0)
linked_at h n (a ∷ before) s rest l = linked_at h (h n).next before s rest l.1

pub mbufs_middle : (before : Packet) (s : Segment) (rest : Packet) → 1 ≤ mbufs (before ++ s ∷ rest) s.mbuf
mbufs_middle before s rest =
    omega (arith, mbufs-append before (s ∷ rest) s.mbuf, mbufs_first s rest)

pub linked_edit : (h h' : Number → Header) (n : Number) (before : Packet) (s s' : Segment) (rest : Packet) →
    ((x : Number) → mbufs (before ++ s ∷ rest) x ≤ 1) → Linked h n (before ++ s ∷ rest) →
    ((x : Number) → same_number s.mbuf x ≡ false → Linkage (h' x) (h x)) → segment_at h' s.mbuf ≡ s' → (h' s.mbuf).next ≡ (h s.mbuf).next →
    Linked h' n (before ++ s' ∷ rest)
linked_edit h h' n [] s s' rest once l e is nx =
    let first = first_mbuf h n s rest l in (
      rw first at is,
      rw (rw first at nx)
          (linked_kept h h' (h n).next rest
          (λ x q. ⊎_elim
          (λ same. absurd (omega (arith, mbufs_first s rest, once s.mbuf, ap (mbufs rest) same)))
          (λ d. e x d)
          (same_or s.mbuf x))
          l.1),
    )
linked_edit h h' n (a ∷ before) s s' rest once l e is nx =
    let first = first_mbuf h n a (before ++ s ∷ rest) l in
    let here : Linkage (h' n) (h n) = ⊎_elim
    (λ same. let c = ap (mbufs (before ++ s ∷ rest)) (same ∙ sym first) in
    absurd (omega (arith, c, mbufs_first a (before ++ s ∷ rest), mbufs_middle before s rest, once a.mbuf)))
    (λ d. e n d)
    (same_or s.mbuf n) in (
      rw (segment_alike h h' n here) l.0,
      rw here.next (linked_edit h h' (h n).next before s s' rest (λ x. omega (arith, once x, mbufs-cons a (before ++ s ∷ rest) x)) l.1 e is nx),
    )

pub last_edit : (n : Number) (before : Packet) (s s' : Segment) (rest : Packet) → s'.mbuf ≡ s.mbuf → last_mbuf n (before ++ s' ∷ rest)
    ≡ last_mbuf n (before ++ s ∷ rest)
last_edit n [] s s' rest e = rw e
last_edit n (a ∷ before) s s' rest e = last_edit a.mbuf before s s' rest e

pub length_edit : (before : Packet) (s s' : Segment) (rest : Packet) → length (before ++ s' ∷ rest) ≡ length (before ++ s ∷ rest)
length_edit [] s s' rest = refl
length_edit (a ∷ before) s s' rest = cc (length_edit before s s' rest)
