-- What the headers show when one packet changes and all others stay.
use Rattle.std.proofs.Common.{◌≡◌, ◌≢◌, ℕ, zero, suc, ◌+◌, ◌*◌, ◌<◌, ◌≤◌, true, false, List, length, Option, Some, None, refl, ap, arith}
use Rattle.std.proofs.Common.{⊎_elim, get_or, set}
use Rattle.std.specs.List.{AllByRecursion}
use Rattle.std.proofs.lemmas.Bool.{cases_eq}
use Rattle.std.proofs.lemmas.List.{length-set, get_or-set_other, get_or-set_same, ext_get_or}
use Rattle.dp_model.specs.Buffers.{Number, same_number, IsNumber}
use Rattle.dp_model.specs.Packets.{Segment, Packet, refs, Lies}
use Rattle.dp_model.specs.Machine.{segments_held}
use Rattle.dp_pool.specs.Pools.{PoolView}
use Rattle.dp_mbuf.specs.Objects.{header_at, is_out, specs_of, HasObject, ArePools}
use Rattle.dp_mbuf.specs.Steps.{Alike}
use Rattle.dp_mbuf.specs.Mbufs.{handle, numbered, is_positive, is_head, packet_at, slots_from, slots_of, mbufs, Stands, StandsAt, Shows, Counted}
use Rattle.dp_mbuf.proofs.ObjectLemmas.{count_is, object_pool, length_specs}
use Rattle.dp_mbuf.proofs.Counting.{count_of, slot_among, SameCounts}
use Rattle.dp_mbuf.proofs.Links.{linked_kept, first_in, walk_is}
use Rattle.dp_model.specs.Laws.Stored.{number_path}

-- ---- handles

pub handle_back : (h : ℕ) → handle (numbered h) ≡ h
handle_back h = omega arith

pub number_back : (n : Number) → n.index < 65536 → numbered (handle n) ≡ n
number_back n b = number_path (numbered (handle n)) n (omega (arith, b)) (omega (arith, b))

pub numbered_apart : (i j : ℕ) → i ≢ j → numbered i ≡ numbered j → ⊥
numbered_apart i j ne e = ne (omega (arith, handle_back i, handle_back j, ap handle e))

-- ---- numbers and objects

pub object_of : (ps : List PoolView) (n : Number) → IsNumber (specs_of ps) n → HasObject ps n
object_of ps n h = omega (arith, count_is ps n.pool)

pub number_of : (ps : List PoolView) (n : Number) → HasObject ps n → IsNumber (specs_of ps) n
number_of ps n h = omega (arith, count_is ps n.pool)

pub number_small : (ps : List PoolView) (n : Number) → ArePools ps → HasObject ps n → (n.index < 65536) × (n.pool < length ps) × (handle n < 65536 * length ps)
number_small ps n are h =
    let there : n.pool < length ps = object_pool ps n h in
    let small : n.index < 65536 = omega (arith, (are.rooms n.pool there).pool.count) in
    (small, there, omega arith)

pub same_length : (ps ps' : List PoolView) → specs_of ps' ≡ specs_of ps → length ps' ≡ length ps
same_length ps ps' e = rw (← length_specs ps', e, length_specs ps)

-- ---- what a slot shows

pub positive : (n : ℕ) → 1 ≤ n → is_positive n ≡ true
positive zero h = absurd (omega arith)
positive (suc n) h = refl

pub head_of : (ps : List PoolView) (n : Number) (k : Packet) → Stands ps n k → is_head ps n ≡ true
head_of ps n k s = rw s.segs (positive (length k) s.some)

pub packet_is : (ps : List PoolView) (n : Number) (o : Option Packet) → StandsAt ps n o → packet_at ps n ≡ o
packet_is ps n None e = rw e
packet_is ps n (Some k) s = rw (head_of ps n k s, s.segs, walk_is (header_at ps) n k s.links)

-- ---- the headers determine the slots

length_from : (ps : List PoolView) (h k : ℕ) → length (slots_from ps h k) ≡ k
length_from ps h zero = refl
length_from ps h (suc k) = cc (length_from ps (suc h) k)

get_from : (ps : List PoolView) (h k i : ℕ) → i < k → get_or (slots_from ps h k) i None ≡ packet_at ps (numbered (h + i))
get_from ps h zero i b = absurd (omega arith)
get_from ps h (suc k) zero b = let e : h + 0 ≡ h = omega arith in rw e
get_from ps h (suc k) (suc i) b =
    let e : h + suc i ≡ suc h + i = omega arith in rw e (get_from ps (suc h) k i (omega arith))

pub same_slots : (ps : List PoolView) (slots : List (Option Packet)) → Shows ps slots → slots_of ps ≡ slots
unfolding slots_of
same_slots ps slots s =
    let l = length_from ps 0 (65536 * length ps) in
    ext_get_or None (slots_of ps) slots (rw (l, s.many))
    (λ i b. let z : 0 + i ≡ i = omega arith in
    rw (get_from ps 0 (65536 * length ps) i (omega arith), z) (packet_is ps (numbered i) (get_or slots i None) (s.each i)))

-- ---- other packets stay

-- a header, and whether it is out, stays but for references
pub record Stays (ps ps' : List PoolView) (m : Number) : Type 0 where
  pub out : is_out ps' m ≡ is_out ps m
  pub header : Alike (header_at ps' m) (header_at ps m)

pub head_stays : (ps ps' : List PoolView) (m : Number) → Stays ps ps' m → is_head ps' m ≡ is_head ps m
head_stays ps ps' m s = rw s.header.segs

pub stands_kept : (ps ps' : List PoolView) (n : Number) (k : Packet) → Stands ps n k → ((m : Number) → 1 ≤ mbufs k m → Stays ps ps' m) → Stands ps' n k
stands_kept ps ps' n k s e =
    let here = e n (first_in (header_at ps) n k s.some s.links) in
    record {
      out = rw here.out s.out;
      some = s.some;
      few = s.few;
      segs = rw here.header.segs s.segs;
      last = rw here.header.last s.last;
      links = linked_kept (header_at ps) (header_at ps') n k (λ m q. (e m q).header.link) s.links;
    }

-- all slots stay where the mbufs of their packets do, and no other object becomes a first one
pub frame : (ps ps' : List PoolView) (slots : List (Option Packet)) → length ps' ≡ length ps → Shows ps slots →
    ((m : Number) → 1 ≤ mbufs (segments_held slots) m → Stays ps ps' m) →
    ((m : Number) → mbufs (segments_held slots) m ≡ 0 → is_head ps m ≡ false → is_head ps' m ≡ false) → Shows ps' slots
frame ps ps' slots l s e none = record {
  many = rw l s.many;
  each = λ h. stays (numbered h) (get_or slots h None)
      (λ m q. e m (omega (arith, slot_among (λ t. same_number t.mbuf m) slots h)))
      (s.each h);
}
  where
    no_mbufs : (m : Number) (c : ℕ) → mbufs (segments_held slots) m ≡ c → is_head ps m ≡ false → is_head ps' m ≡ false
    no_mbufs m zero is f = none m is f
    no_mbufs m (suc c) is f = rw (head_stays ps ps' m (e m (omega arith))) f

    stays : (n : Number) (o : Option Packet) → ((m : Number) → 1 ≤ count_of (λ t. same_number t.mbuf m) o → Stays ps ps' m) → StandsAt ps n o → StandsAt ps' n o
    stays n None among f = no_mbufs n (mbufs (segments_held slots) n) refl f
    stays n (Some k) among t = stands_kept ps ps' n k t among

-- one slot is set, and the packets of the others stay
pub slot_frame : (ps ps' : List PoolView) (slots : List (Option Packet)) (h : ℕ) (o : Option Packet) → length ps' ≡ length ps → Shows ps slots →
    h < length slots → ((i : ℕ) → i ≢ h → (m : Number) → 1 ≤ count_of (λ t. same_number t.mbuf m) (get_or slots i None) → Stays ps ps' m) →
    ((i : ℕ) → i ≢ h → is_head ps (numbered i) ≡ false → is_head ps' (numbered i) ≡ false) → StandsAt ps' (numbered h) o → Shows ps' (set slots h o)
slot_frame ps ps' slots h o l s b others none here = record {
  many = rw (length-set, l) s.many;
  each = λ i. ⊎_elim
      (λ e. rw e (rw (get_or-set_same slots h o None b) here))
      (λ ne. rw (get_or-set_other slots h i o None ne)
      (stays i (get_or slots i None) (others i ne) (none i ne) (s.each i)))
      (cases_eq i h);
}
  where
    stays : (i : ℕ) (x : Option Packet) → ((m : Number) → 1 ≤ count_of (λ t. same_number t.mbuf m) x → Stays ps ps' m) →
        (is_head ps (numbered i) ≡ false → is_head ps' (numbered i) ≡ false) → StandsAt ps (numbered i) x → StandsAt ps' (numbered i) x
    stays i None among f t = f t
    stays i (Some k) among f t = stands_kept ps ps' (numbered i) k t among

-- ---- the counts stay

pub counted_same : (ps ps' : List PoolView) (ss ss' : List Segment) → Counted ps ss → SameCounts ss ss' → specs_of ps' ≡ specs_of ps →
    ((n : Number) → is_out ps' n ≡ is_out ps n) → ((b : Number) → 1 ≤ refs ss b → (header_at ps' b).refs ≡ (header_at ps b).refs) →
    AllByRecursion (λ s. IsNumber (specs_of ps) s.mbuf) ss' → AllByRecursion (Lies (specs_of ps)) ss' → Counted ps' ss'
counted_same ps ps' ss ss' c e specs outs stored numbers lie = record {
  once = λ n. omega (arith, e.mbufs n, c.once n);
  direct = λ n q. rw (e.refs n) (c.direct n (omega (arith, e.indirects n)));
  numbers = rw specs numbers;
  lie = rw specs lie;
  stored = λ b q. let some : 1 ≤ refs ss b = omega (arith, e.refs b) in rw (stored b some, e.refs b) (c.stored b some);
  out = λ n h. rw (outs n, e.mbufs n, e.refs n) (c.out n (rw specs at h));
}
