-- Putting a packet into its slot, taking it out, and changing it there.
use Rattle.std.proofs.Common.{◌≡◌, ◌≢◌, ℕ, ◌+◌, ◌<◌, ◌≤◌, Bool, true, false, List, [], ◌∷◌, ◌++◌, length, Option, Some, None, refl, subst}
use Rattle.std.proofs.Common.{arith, ⊎_elim, get_or, set}
use Rattle.std.specs.Prelude.{count_by, ◌&&◌, not}
use Rattle.std.specs.List.{AllByRecursion}
use Rattle.std.proofs.lemmas.Bool.{cases_lt}
use Rattle.std.proofs.lemmas.List.{get_or_past, append-nil}
use Rattle.dp_model.specs.Buffers.{Number, same_number, IsNumber}
use Rattle.dp_model.specs.Packets.{Segment, Packet, refs, Lies}
use Rattle.dp_model.specs.Machine.{segments_held}
use Rattle.dp_mbuf.specs.declared.header.Header.{Header}
use Rattle.dp_pool.specs.Pools.{PoolView}
use Rattle.dp_mbuf.specs.Objects.{header_at, is_out, specs_of, HeaderSet, RoomWritten}
use Rattle.dp_mbuf.specs.Steps.{Linkage}
use Rattle.dp_mbuf.specs.Mbufs.{handle, numbered, segment_at, is_head, mbufs, Linked, last_mbuf, Stands, StandsAt, Whole}
use Rattle.dp_mbuf.proofs.ObjectLemmas.{same_or}
use Rattle.dp_mbuf.proofs.Counting.{count_of, count-cons, count-append, slot_counted, slot_among, slots_among, SameCounts, each_count, into_slot}
use Rattle.dp_mbuf.proofs.Counting.{mbufs-append, all_slot, all_set}
use Rattle.dp_mbuf.proofs.Links.{alike, first_in, linked_kept, linked_edit, last_edit, length_edit, mbufs_middle, segment_eq}
use Rattle.dp_mbuf.proofs.Frames.{number_back, numbered_apart, object_of, number_small, same_length, positive, Stays, head_stays, frame, slot_frame}
use Rattle.dp_mbuf.proofs.Frames.{counted_same}
use Rattle.dp_model.specs.Laws.Cases.{one_if}
use Rattle.dp_model.specs.Laws.Lists.{all_join, all_left, all_right}

-- a slot with a packet is one of the slots
pub slot_there : (slots : List (Option Packet)) (h : ℕ) (k : Packet) → get_or slots h None ≡ Some k → h < length slots
slot_there slots h k e = ⊎_elim (λ b. b) (λ past. let n = get_or_past slots h None past in absurd (cc)) (cases_lt h (length slots))

pub same_counts : (ss : List Segment) → SameCounts ss ss
same_counts ss = record { mbufs = λ _. refl; refs = λ _. refl; indirects = λ _. refl }

-- what holds of each mbuf of the segments
pub all_at : (P : Number → Type 0) (ss : List Segment) (m : Number) → AllByRecursion (λ s. P s.mbuf) ss → 1 ≤ mbufs ss m → P m
all_at P [] m all q = absurd (omega arith)
all_at P (s ∷ ss) m all q = ⊎_elim
    (λ same. rw same at all.0)
    (λ d. let z : one_if (same_number s.mbuf m) ≡ 0 = rw d in all_at P ss m all.1 (omega (arith, count-cons (λ t. same_number t.mbuf m) s ss)))
    (same_or s.mbuf m)

-- ---- one header set

module _ (ps ps' : List PoolView) (n : Number) (x : Header) (done : HeaderSet ps n x ps') where
  pub stays_other : (m : Number) → same_number n m ≡ false → Stays ps ps' m
  stays_other m ne = record { out = done.outs m; header = alike (header_at ps' m) (header_at ps m) (done.others m ne) }

  pub stored_same : x.refs ≡ (header_at ps n).refs → (b : Number) → (header_at ps' b).refs ≡ (header_at ps b).refs
  stored_same e b = ⊎_elim
      (λ same. rw (← same, done.here) e)
      (λ d. rw (done.others b d))
      (same_or n b)

  pub linkage_same : Linkage x (header_at ps n) → (m : Number) → Linkage (header_at ps' m) (header_at ps m)
  linkage_same e m = ⊎_elim
      (λ same. rw (← same, done.here) e)
      (λ d. (alike (header_at ps' m) (header_at ps m) (done.others m d)).link)
      (same_or n m)

  pub head_other : (i : Number) → same_number n i ≡ false → is_head ps' i ≡ is_head ps i
  head_other i d = head_stays ps ps' i (stays_other i d)

apart_number : (i h : ℕ) → i ≢ h → same_number (numbered h) (numbered i) ≡ false
apart_number i h ne = ⊎_elim (λ e. absurd (numbered_apart i h ne cc)) (λ d. d) (same_or (numbered h) (numbered i))

-- ---- taking a packet out of its slot: its first header is cleared

all_taken : (P : Segment → Type 0) (hand : Packet) (slots : List (Option Packet)) (h : ℕ) (k : Packet) → get_or slots h None ≡ Some k →
    AllByRecursion P (hand ++ segments_held slots) → AllByRecursion P ((k ++ hand) ++ segments_held (set slots h None))
all_taken P hand slots h k e all =
    let rest = all_right P hand (segments_held slots) all in
    all_join P (k ++ hand) (segments_held (set slots h None))
    (all_join P k hand (rw e at (all_slot P slots h rest)) (all_left P hand (segments_held slots) all))
    (all_set P slots h None tt rest)

pub firsts_cleared_from : (ps ps' : List PoolView) (hand : Packet) (slots : List (Option Packet)) (h : ℕ) (k : Packet) (x : Header) → Whole ps hand slots →
    get_or slots h None ≡ Some k → HeaderSet ps (numbered h) x ps' → x.segs ≡ 0 → x.refs ≡ (header_at ps (numbered h)).refs →
    Linkage x (header_at ps (numbered h)) → Whole ps' (k ++ hand) (set slots h None) × Linked (header_at ps') (numbered h) k × Stands ps (numbered h) k
firsts_cleared_from ps ps' hand slots h k x w e done segs kept link =
    let b = slot_there slots h k e in
    let n : Number = numbered h in
    let s : Stands ps n k = rw e at (w.shows.each h) in
    let in_k = first_in (header_at ps) n k s.some s.links in
    let one = w.counted.once n in
    let none : is_head ps' n ≡ false = rw (done.here, segs) in (
      record {
        are = done.are;
        counted = counted_same ps ps' (hand ++ segments_held slots) ((k ++ hand) ++ segments_held (set slots h None)) w.counted
            (each_count _ _ (λ f. omega (
              arith,
              rw e at (slot_counted f slots h None b),
              count-append f hand (segments_held slots),
              count-append f (k ++ hand) (segments_held (set slots h None)),
              count-append f k hand,
            )))
            done.specs done.outs (λ m _. stored_same ps ps' n x done kept m)
            (all_taken (λ t. IsNumber (specs_of ps) t.mbuf) hand slots h k e w.counted.numbers)
            (all_taken (Lies (specs_of ps)) hand slots h k e w.counted.lie);
        shows = slot_frame ps ps' slots h None (same_length ps ps' done.specs) w.shows b
            (λ i ne m q. ⊎_elim
            (λ same. let two = rw e at (slots_among (λ t. same_number t.mbuf n) slots h i (λ d. ne cc)) in
            absurd (omega (arith, two, rw (← same) at q, mbufs-append hand (segments_held slots) n)))
            (λ d. stays_other ps ps' n x done m d)
            (same_or n m))
            (λ i ne f. rw (head_other ps ps' n x done (numbered i) (apart_number i h ne)) f)
            none;
      },
      linked_kept (header_at ps) (header_at ps') n k (λ m q. linkage_same ps ps' n x done link m) s.links,
      s,
    )

pub first_cleared : (ps ps' : List PoolView) (slots : List (Option Packet)) (h : ℕ) (k : Packet) (x : Header) → Whole ps [] slots → get_or slots h None ≡ Some
    k →
    HeaderSet ps (numbered h) x ps' → x.segs ≡ 0 → x.refs ≡ (header_at ps (numbered h)).refs → Linkage x (header_at ps (numbered h)) →
    Whole ps' k (set slots h None) × Linked (header_at ps') (numbered h) k × Stands ps (numbered h) k
first_cleared ps ps' slots h k x w e done segs kept link =
    let (whole, links, stands) = firsts_cleared_from ps ps' [] slots h k x w e done segs kept link in
    (rw append-nil at whole, links, stands)

-- ---- setting the link of a segment in hand

pub relinked : (ps ps' : List PoolView) (hand : Packet) (slots : List (Option Packet)) (m : Number) (x : Header) → Whole ps hand slots → 1 ≤ mbufs hand m →
    HeaderSet ps m x ps' → x.refs ≡ (header_at ps m).refs → x.segs ≡ (header_at ps m).segs → Whole ps' hand slots
relinked ps ps' hand slots m x w in_hand done kept segs =
    let one = w.counted.once m in
    record {
      are = done.are;
      counted = counted_same ps ps' (hand ++ segments_held slots) (hand
          ++ segments_held slots) w.counted (same_counts (hand ++ segments_held slots)) done.specs done.outs
          (λ b _. stored_same ps ps' m x done kept b) w.counted.numbers w.counted.lie;
      shows = frame ps ps' slots (same_length ps ps' done.specs) w.shows
          (λ n q. ⊎_elim
          (λ same. absurd (omega (arith, rw (← same) at q, mbufs-append hand (segments_held slots) m)))
          (λ d. stays_other ps ps' m x done n d)
          (same_or m n))
          (λ n _ f. ⊎_elim
          (λ same. rw (← same, done.here, segs) (rw (← same) at f))
          (λ d. rw (head_other ps ps' m x done n d) f)
          (same_or m n));
    }

-- ---- putting the segments in hand into a slot

pub first_set : (ps ps' : List PoolView) (slots : List (Option Packet)) (n : Number) (k : Packet) (x : Header) → Whole ps k slots → Linked (header_at ps) n k →
    1 ≤ length k → length k ≤ 64 → HeaderSet ps n x ps' → x.segs ≡ length k → x.last ≡ last_mbuf n k → x.refs ≡ (header_at ps n).refs →
    Linkage x (header_at ps n) → Whole ps' [] (set slots (handle n) (Some k)) × (get_or slots (handle n) None ≡ None) × (numbered (handle n) ≡ n)
first_set ps ps' slots n k x w l some few done segs last kept link =
    let in_k = first_in (header_at ps) n k some l in
    let one = w.counted.once n in
    let both = mbufs-append k (segments_held slots) n in
    let number : IsNumber (specs_of ps) n =
    all_at (IsNumber (specs_of ps)) k n (all_left (λ t. IsNumber (specs_of ps) t.mbuf) k (segments_held slots) w.counted.numbers) in_k in
    let (low, _, small) = number_small ps n w.are (object_of ps n number) in
    let back : numbered (handle n) ≡ n = number_back n low in
    let there : handle n < length slots = omega (arith, w.shows.many) in
    let none : get_or slots (handle n) None ≡ None =
    empty (get_or slots (handle n) None)
    (omega (arith, slot_among (λ t. same_number t.mbuf n) slots (handle n)))
    (rw back at (w.shows.each (handle n))) in
    let out : is_out ps n ≡ true =
    rw (w.counted.out n number) (positive (mbufs (k ++ segments_held slots) n + refs (k ++ segments_held slots) n) (omega arith)) in
    let stands : Stands ps' n k = record {
      out = rw (done.outs n) out;
      some = some;
      few = few;
      segs = rw done.here segs;
      last = rw done.here last;
      links = linked_kept (header_at ps) (header_at ps') n k (λ m q. linkage_same ps ps' n x done link m) l;
    } in (
      record {
        are = done.are;
        counted = counted_same ps ps' (k ++ segments_held slots) (segments_held (set slots (handle n) (Some k))) w.counted
            (into_slot slots (handle n) k there none) done.specs done.outs (λ m _. stored_same ps ps' n x done kept m)
            (all_set (λ t. IsNumber (specs_of ps) t.mbuf) slots (handle n) (Some k)
            (all_left (λ t. IsNumber (specs_of ps) t.mbuf) k (segments_held slots) w.counted.numbers)
            (all_right (λ t. IsNumber (specs_of ps) t.mbuf) k (segments_held slots) w.counted.numbers))
            (all_set (Lies (specs_of ps)) slots (handle n) (Some k) (all_left (Lies (specs_of ps)) k (segments_held slots) w.counted.lie)
            (all_right (Lies (specs_of ps)) k (segments_held slots) w.counted.lie));
        shows = slot_frame ps ps' slots (handle n) (Some k) (same_length ps ps' done.specs) w.shows there
            (λ i ne m q. ⊎_elim
            (λ same. absurd (omega (arith, slot_among (λ t. same_number t.mbuf n) slots i, rw (← same) at q)))
            (λ d. stays_other ps ps' n x done m d)
            (same_or n m))
            (λ i ne f. rw (head_other ps ps' n x done (numbered i) (subst (λ m. same_number m (numbered i) ≡ false) back (apart_number i (handle n) ne))) f)
            (rw back stands);
      },
      none,
      back,
    )
  where
    empty : (o : Option Packet) → count_of (λ t. same_number t.mbuf n) o ≤ 0 → StandsAt ps n o → o ≡ None
    empty None q s = refl
    empty (Some j) q s = absurd (omega (arith, first_in (header_at ps) n j s.some s.links))

-- ---- changing offset and length of one segment

all_edit : (P : Segment → Type 0) (before : Packet) (s s' : Segment) (rest : Packet) → (P s → P s') → AllByRecursion P (before ++ s ∷ rest) →
    AllByRecursion P (before ++ s' ∷ rest)
all_edit P [] s s' rest f a = (f a.0, a.1)
all_edit P (t ∷ before) s s' rest f a = (a.0, all_edit P before s s' rest f a.1)

module _ (ps ps' : List PoolView) (slots : List (Option Packet)) (h : ℕ) (before : Packet) (s s' : Segment) (rest : Packet) (x : Header) (w : Whole ps [] slots)
    (e : get_or slots h None ≡ Some (before ++ s ∷ rest)) (done : HeaderSet ps s.mbuf x ps') (segs : x.segs ≡ (header_at ps s.mbuf).segs)
    (last : x.last ≡ (header_at ps s.mbuf).last) (kept : x.refs ≡ (header_at ps s.mbuf).refs) (next : x.next ≡ (header_at ps s.mbuf).next)
    (buffer : x.buffer ≡ s'.buffer) (offset : x.offset ≡ s'.offset) (len : x.len ≡ s'.len) (mb : s'.mbuf ≡ s.mbuf) (bf : s'.buffer ≡ s.buffer)
    (lies : Lies (specs_of ps) s') where
  abbrev k : Packet
  k = before ++ s ∷ rest

  abbrev k' : Packet
  k' = before ++ s' ∷ rest

  once : (m : Number) → mbufs k m ≤ 1
  once m = omega (arith, rw e at (slot_among (λ t. same_number t.mbuf m) slots h), w.counted.once m)

  head_seg : (m : Number) → (header_at ps' m).segs ≡ (header_at ps m).segs
  head_seg m = ⊎_elim
      (λ same. rw (← same, done.here) segs)
      (λ d. rw (done.others m d))
      (same_or s.mbuf m)

  head_last : (m : Number) → (header_at ps' m).last ≡ (header_at ps m).last
  head_last m = ⊎_elim
      (λ same. rw (← same, done.here) last)
      (λ d. rw (done.others m d))
      (same_or s.mbuf m)

  segment_is : segment_at (header_at ps') s.mbuf ≡ s'
  segment_is =
      segment_eq (segment_at (header_at ps') s.mbuf) s' (rw mb) (rw done.here buffer) (rw done.here offset) (rw done.here len)

  edited_stands : Stands ps' (numbered h) k'
  edited_stands =
      let n : Number = numbered h in
      let st : Stands ps n k = rw e at (w.shows.each h) in
      record {
        out = rw (done.outs n) st.out;
        some = omega (arith, length_edit before s s' rest);
        few = omega (arith, length_edit before s s' rest);
        segs = rw (head_seg n, length_edit before s s' rest) st.segs;
        last = rw (head_last n, last_edit n before s s' rest mb) st.last;
        links = linked_edit (header_at ps) (header_at ps') n before s s' rest once st.links
            (λ m d. (alike (header_at ps' m) (header_at ps m) (done.others m d)).link)
            segment_is
            (rw done.here next);
      }

  edited_count : (f : Segment → Bool) → f s' ≡ f s → count_by f (segments_held (set slots h (Some k'))) ≡ count_by f (segments_held slots)
  edited_count f eq =
      let same : one_if (f s') ≡ one_if (f s) = rw eq in
      omega (
        arith,
        rw e at (slot_counted f slots h (Some k') (slot_there slots h k e)),
        count-append f before (s ∷ rest),
        count-append f before (s' ∷ rest),
        count-cons f s rest,
        count-cons f s' rest,
      )

  edited_all : (P : Segment → Type 0) → (P s → P s') → AllByRecursion P (segments_held slots) → AllByRecursion P (segments_held (set slots h (Some k')))
  edited_all P f a = all_set P slots h (Some k') (all_edit P before s s' rest f (rw e at (all_slot P slots h a))) a

  pub edited : Whole ps' [] (set slots h (Some (before ++ s' ∷ rest)))
  edited =
      let b = slot_there slots h k e in
      let in_k = mbufs_middle before s rest in
      let one = w.counted.once s.mbuf in
      record {
        are = done.are;
        counted = counted_same ps ps' (segments_held slots) (segments_held (set slots h (Some k'))) w.counted
            (record {
              mbufs = λ m. edited_count (λ t. same_number t.mbuf m) (rw mb);
              refs = λ m. edited_count (λ t. same_number t.buffer m) (rw bf);
              indirects = λ m. edited_count (λ t. same_number t.mbuf m && not (same_number t.buffer m)) (rw (mb, bf));
            })
            done.specs done.outs (λ m _. stored_same ps ps' s.mbuf x done kept m)
            (edited_all (λ t. IsNumber (specs_of ps) t.mbuf) (λ p. rw mb p) w.counted.numbers)
            (edited_all (Lies (specs_of ps)) (λ _. lies) w.counted.lie);
        shows = slot_frame ps ps' slots h (Some k') (same_length ps ps' done.specs) w.shows b
            (λ i ne m q. ⊎_elim
            (λ same. absurd (omega (arith, rw e at (slots_among (λ t. same_number t.mbuf s.mbuf) slots h i (λ d. ne cc)), rw (← same) at q)))
            (λ d. stays_other ps ps' s.mbuf x done m d)
            (same_or s.mbuf m))
            (λ i ne f. rw (head_seg (numbered i)) f)
            edited_stands;
      }

-- ---- writing bytes after headers

pub bytes_whole : (ps ps' : List PoolView) (hand : Packet) (slots : List (Option Packet)) (n : Number) (at : ℕ) (bytes : List ℕ) → Whole ps hand slots →
    RoomWritten ps n at bytes ps' → Whole ps' hand slots
bytes_whole ps ps' hand slots n at bytes w done =
    let stay : (m : Number) → Stays ps ps' m =
    λ m. record { out = done.outs m; header = alike (header_at ps' m) (header_at ps m) (done.headers m) } in
    record {
      are = done.are;
      counted = counted_same ps ps' (hand ++ segments_held slots) (hand
          ++ segments_held slots) w.counted (same_counts (hand ++ segments_held slots)) done.specs done.outs
          (λ b _. rw (done.headers b)) w.counted.numbers w.counted.lie;
      shows = frame ps ps' slots (same_length ps ps' done.specs) w.shows (λ m _. stay m) (λ m _ f. rw (head_stays ps ps' m (stay m)) f);
    }
