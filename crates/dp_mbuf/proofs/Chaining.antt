-- `chain`: one packet's segments after another's.
use Rattle.std.proofs.Common.{◌≡◌, ◌≢◌, ℕ, ◌+◌, ◌≤◌, List, [], ◌∷◌, ◌++◌, length, Option, Some, None, refl, sym, ap, arith, inl, inr, ⊎_elim, set}
use Rattle.std.specs.Prelude.{slice_set}
use Rattle.std.proofs.lemmas.List.{get_or-set_other, set-set, set_comm, length-append}
use Rattle.dp_model.specs.Buffers.{Number, IsNumber}
use Rattle.dp_model.specs.Packets.{Packet}
use Rattle.dp_model.specs.Machine.{segments_held}
use Rattle.dp_model.specs.Stores.{Store, HasSome, Chains}
use Rattle.dp_mbuf.specs.declared.header.Header.{Header}
use Rattle.dp_pool.specs.Pools.{PoolView}
use Rattle.dp_mbuf.specs.Objects.{header_at, specs_of, HasObject, HeaderSet}
use Rattle.dp_mbuf.specs.Steps.{Linkage}
use Rattle.dp_mbuf.specs.Mbufs.{handle, numbered, slots_of, shown, mbufs, Linked, last_mbuf, Stands, Whole, Sound}
use Rattle.dp_mbuf.proofs.ObjectLemmas.{same_or}
use Rattle.dp_mbuf.proofs.Counting.{mbufs-append}
use Rattle.dp_mbuf.proofs.Links.{alike, last_in, linked_kept, linked_join}
use Rattle.dp_mbuf.proofs.Frames.{handle_back, object_of}
use Rattle.dp_mbuf.proofs.Edits.{all_at, first_cleared, firsts_cleared_from, relinked, first_set, linkage_same}
use Rattle.dp_mbuf.proofs.Live.{opened, has_same, settled, seen}
use Rattle.dp_model.specs.Laws.Lists.{all_left}

pub last_of_links : (h : Number → Header) (n : Number) (k : Packet) → 1 ≤ length k → Linked h n k → 1 ≤ mbufs k (last_mbuf n k)
last_of_links h n [] some l = absurd (omega arith)
last_of_links h n (s ∷ rest) some l = last_in s rest

pub last_join : (n m : Number) (k t : Packet) (h : Number → Header) → 1 ≤ length t → Linked h m t → last_mbuf n (k ++ t) ≡ last_mbuf m t
last_join n m [] [] h some l = absurd (omega arith)
last_join n m [] (s ∷ t) h some l = refl
last_join n m (a ∷ k) t h some l = last_join a.mbuf m k t h some l

-- the last segment in hand gets more after it
pub joined : (ps ps' : List PoolView) (k t : Packet) (slots : List (Option Packet)) (n m : Number) → Whole ps (k ++ t) slots → 1 ≤ length k →
    Linked (header_at ps) n k → Linked (header_at ps) m t → HeaderSet ps (last_mbuf n k) (record (header_at ps (last_mbuf n k)) { next = m }) ps' →
    Whole ps' (k ++ t) slots × Linked (header_at ps') n (k ++ t)
joined ps ps' k t slots n m w some lk lt done =
    let l : Number = last_mbuf n k in
    let in_k = last_of_links (header_at ps) n k some lk in
    let once : (x : Number) → mbufs k x + mbufs t x ≤ 1 =
    λ x. omega (arith, w.counted.once x, mbufs-append (k ++ t) (segments_held slots) x, mbufs-append k t x) in
    let one = once l in (
      relinked ps ps' (k ++ t) slots l (record (header_at ps l) { next = m }) w (omega (arith, in_k, mbufs-append k t l)) done refl refl,
      linked_join (header_at ps) (header_at ps') n m k t some (λ x. omega (arith, once x)) lk
          (linked_kept (header_at ps) (header_at ps') m t
          (λ x q. ⊎_elim
          (λ same. absurd (omega (arith, ap (mbufs t) same)))
          (λ d. (alike (header_at ps' x) (header_at ps x) (done.others x d)).link)
          (same_or l x))
          lt)
          (λ x q. ⊎_elim (λ same. inl cc) (λ d. inr (alike (header_at ps' x) (header_at ps x) (done.others x d)).link) (same_or l x))
          (rw done.here) (rw done.here),
    )

-- two packets whose first headers are cleared, the second packet's first mbuf, and the headers before
pub record Heads (ps ps1 ps2 : List PoolView) (h t : ℕ) (front beyond : Header) : Type 0 where
  pub tail_out : HeaderSet ps (numbered t) (record (header_at ps (numbered t)) { segs = 0 }) ps1
  pub head_out : HeaderSet ps1 (numbered h) (record (header_at ps1 (numbered h)) { segs = 0 }) ps2
  pub head_was : front ≡ header_at ps1 (numbered h)
  pub tail_was : beyond ≡ header_at ps (numbered t)

module _ {ps : List PoolView} {v : Store} {h t : ℕ} (e : shown ps ≡ v) (sound : Sound ps) (two : h ≢ t)
    (few : HasSome v h (λ k. HasSome v t (λ j. length k + length j ≤ 64))) where
  abbrev k : Packet
  k = few.0

  abbrev tail_few : HasSome v t (λ j. length k + length j ≤ 64)
  tail_few = few.2

  abbrev j : Packet
  j = tail_few.0

  fits : length k + length j ≤ 64
  fits = tail_few.2

  pub tail_gone : (ps1 : List PoolView) → HeaderSet ps (numbered t) (record (header_at ps (numbered t)) { segs = 0 }) ps1 →
      Whole ps1 j (set (slots_of ps) t None) × Linked (header_at ps1) (numbered t) j × Stands ps (numbered t) j
  tail_gone ps1 done =
      first_cleared ps ps1 (slots_of ps) t j (record (header_at ps (numbered t)) { segs = 0 }) sound (opened ps v t j e sound tail_few.1).slot done refl refl
      (record { offset = refl; len = refl; next = refl; buffer = refl })

  pub head_gone : (ps1 ps2 : List PoolView) → HeaderSet ps (numbered t) (record (header_at ps (numbered t)) { segs = 0 }) ps1 →
      HeaderSet ps1 (numbered h) (record (header_at ps1 (numbered h)) { segs = 0 }) ps2 → Whole ps2 (k ++ j) (set (set (slots_of ps) t None) h None)
      × Linked (header_at ps2) (numbered h) k × Linked (header_at ps2) (numbered t) j × Stands ps1 (numbered h) k
  head_gone ps1 ps2 d1 d2 =
      let (tail_whole, tail_links, _) = tail_gone ps1 d1 in
      let x : Header = record (header_at ps1 (numbered h)) { segs = 0 } in
      let kept : Linkage x (header_at ps1 (numbered h)) = record { offset = refl; len = refl; next = refl; buffer = refl } in
      let (whole, links, stands) = firsts_cleared_from ps1 ps2 j (set (slots_of ps) t None) h k x tail_whole
      (rw (get_or-set_other (slots_of ps) t h None None two) (opened ps v h k e sound few.1).slot) d2 refl refl kept in (
        whole,
        links,
        linked_kept (header_at ps1) (header_at ps2) (numbered t) j
            (λ m _. linkage_same ps1 ps2 (numbered h) x d2 kept m) tail_links,
        stands,
      )

  pub last_there : {ps1 ps2 : List PoolView} {front beyond : Header} → Heads ps ps1 ps2 h t front beyond → HasObject ps2 front.last
  last_there {ps1 = ps1} {ps2 = ps2} g =
      let (whole, links, _, stands) = head_gone ps1 ps2 g.tail_out g.head_out in
      let slots2 : List (Option Packet) = set (set (slots_of ps) t None) h None in
      let n : Number = last_mbuf (numbered h) k in
      let in_k = last_of_links (header_at ps2) (numbered h) k stands.some links in
      rw (g.head_was, stands.last)
      (object_of ps2 n (all_at (IsNumber (specs_of ps2)) (k ++ j) n (all_left (λ s. IsNumber (specs_of ps2) s.mbuf) (k
      ++ j) (segments_held slots2) whole.counted.numbers) (omega (arith, in_k, mbufs-append k j n))))

  pub segs_fit : {ps1 ps2 : List PoolView} {front beyond : Header} → Heads ps ps1 ps2 h t front beyond → front.segs + beyond.segs ≤ 64
  segs_fit {ps1 = ps1} {ps2 = ps2} g =
      let (_, _, tail) = tail_gone ps1 g.tail_out in
      let (_, _, _, head) = head_gone ps1 ps2 g.tail_out g.head_out in
      omega (arith, tail.segs, head.segs, fits, ap (λ x. x.segs) g.head_was, ap (λ x. x.segs) g.tail_was)

  pub chained : {ps1 ps2 ps3 ps4 : List PoolView} {front beyond : Header} → Heads ps ps1 ps2 h t front beyond →
      HeaderSet ps2 front.last (record (header_at ps2 front.last) { next = numbered t }) ps3 →
      HeaderSet ps3 (numbered h) (record (header_at ps3 (numbered h)) { segs = front.segs + beyond.segs; last = beyond.last }) ps4 →
      Sound ps4 × Chains v h t (shown ps4)
  chained {ps1 = ps1} {ps2 = ps2} {ps3 = ps3} {ps4 = ps4} {front = front} {beyond = beyond} g d3 d4 =
      let d1 = g.tail_out in
      let d2 = g.head_out in
      let segs : ℕ = front.segs + beyond.segs in
      let last : Number = beyond.last in
      let es : segs ≡ (header_at ps1 (numbered h)).segs + (header_at ps (numbered t)).segs =
      omega (arith, ap (λ x. x.segs) g.head_was, ap (λ x. x.segs) g.tail_was) in
      let (_, tail_links, sj) = tail_gone ps1 d1 in
      let (whole, head_linked, tail_linked, sk) = head_gone ps1 ps2 d1 d2 in
      let slots2 : List (Option Packet) = set (set (slots_of ps) t None) h None in
      let l_is : front.last ≡ last_mbuf (numbered h) k = rw (g.head_was, sk.last) in
      let c = joined ps2 ps3 k j slots2 (numbered h) (numbered t) whole sk.some head_linked tail_linked
      (rw l_is at d3) in
      let d = first_set ps3 ps4 slots2 (numbered h) (k ++ j) (record (header_at ps3 (numbered h)) { segs = segs; last = last }) c.0 c.1
      (omega (arith, sk.some, length-append k j)) (omega (arith, fits, length-append k j)) d4 (omega (arith, es, sk.segs, sj.segs, length-append k j))
      (rw (g.tail_was, sj.last, last_join (numbered h) (numbered t) k j (header_at ps1) sj.some tail_links))
      refl (record { offset = refl; len = refl; next = refl; buffer = refl }) in
      let slots : set slots2 (handle (numbered h)) (Some (k ++ j)) ≡ set (set (slots_of ps) h (Some (k ++ j))) t None =
      rw (handle_back h, set-set (set (slots_of ps) t None) h None (Some (k ++ j))) (set_comm (slots_of ps) t h None (Some (k ++ j)) (λ q. two (sym q))) in
      let s = settled ps4 (set slots2 (handle (numbered h)) (Some (k ++ j))) d.0 in (
        s.0,
        λ k' has j' has'.
            seen ps ps4 v v.buffers (slice_set (slice_set v.slots h (Some (k' ++ j'))) t None) e (rw (d4.specs, d3.specs, d2.specs) d1.specs)
            (rw (d4.buffers, d3.buffers, d2.buffers, d1.buffers) (ap (λ s. s.buffers) e))
            (cc (s.1, slots, ap (λ s. s.slots) e, has_same v h k k' few.1 has, has_same v t j j' tail_few.1 has')),
      )
