-- Segments in hand: released, taken and linked.
use Rattle.std.proofs.Common.{◌≡◌, ◌≢◌, ◌⊎◌, ℕ, zero, suc, ◌+◌, ◌-◌, ◌≤◌, Bool, true, false, List, [], ◌∷◌, ◌++◌, Option, refl, sym, ap, subst}
use Rattle.std.proofs.Common.{arith, ⊎_elim}
use Rattle.std.specs.Prelude.{◌&&◌, not}
use Rattle.std.specs.List.{AllByRecursion}
use Rattle.dp_model.specs.Buffers.{Number, same_number, IsNumber}
use Rattle.dp_model.specs.Packets.{Segment, Packet, refs, Lies}
use Rattle.dp_model.specs.Machine.{segments_held}
use Rattle.dp_pool.specs.Pools.{PoolView}
use Rattle.dp_mbuf.specs.Objects.{header_at, is_out, specs_of, buffers_of, zones_of, HasObject, ArePools, HeaderSet}
use Rattle.dp_mbuf.specs.Steps.{Alike, Fewer, MbufBack, BufferLess, CanRelease, Released, Cloned, FilledBy}
use Rattle.dp_mbuf.specs.Mbufs.{is_positive, mbufs, indirects, Linked, Whole}
use Rattle.dp_mbuf.proofs.ObjectLemmas.{same_or}
use Rattle.dp_mbuf.proofs.Counting.{mbufs-cons, indirects-cons, mbufs-append, mbufs_first, refs_first, indirects_le, and_le as by_le}
use Rattle.dp_mbuf.proofs.Links.{alike, linked_kept, first_mbuf}
use Rattle.dp_mbuf.proofs.Frames.{object_of, number_of, same_length, positive, head_stays, frame}
use Rattle.dp_mbuf.proofs.Edits.{all_at}
use Rattle.dp_model.specs.Laws.Stored.{same_number_refl, same_number_sym}
use Rattle.dp_model.specs.Laws.Cases.{one_if}
use Rattle.dp_model.specs.Laws.References.{refs-cons}
use Rattle.dp_model.specs.Laws.Lists.{all_right}

-- ---- counts of one more segment

-- a comparison with its sides swapped
pub turned : (a b : Number) → same_number a b ≡ false → same_number b a ≡ false
turned a b f = rw (same_number_sym b a) f

pub zero_at : (n m : Number) → same_number n m ≡ false → one_if (same_number n m) ≡ 0
zero_at n m d = rw d

-- each segment that has a number as its mbuf is indirect or has it as its buffer
pub mbufs_split : (ss : List Segment) (n : Number) → mbufs ss n ≤ indirects ss n + refs ss n
mbufs_split [] n = omega arith
mbufs_split (s ∷ ss) n =
    omega (arith, mbufs_split ss n, by (same_number s.mbuf n) (same_number s.buffer n), mbufs-cons s ss n, refs-cons s ss n, indirects-cons s ss n)
  where
    by : (a b : Bool) → one_if a ≤ one_if (a && not b) + one_if b
    by true true = omega arith
    by true false = omega arith
    by false b = omega arith

-- ---- one segment less

pub less : (ps ps' : List PoolView) (slots : List (Option Packet)) (s : Segment) (more : Packet) → Whole ps (s ∷ more) slots → Fewer ps ps' →
    ((b : Number) → 1 ≤ refs (more ++ segments_held slots) b → (header_at ps' b).refs ≡ refs (more ++ segments_held slots) b) →
    ((n : Number) → IsNumber (specs_of ps) n → is_out ps' n ≡ is_positive (mbufs (more ++ segments_held slots) n + refs (more ++ segments_held slots) n)) →
    Whole ps' more slots
less ps ps' slots s more w f stored outs =
    let ss : List Segment = more ++ segments_held slots in
    let c = w.counted in
    record {
      are = f.are;
      counted = record {
        once = λ n. omega (arith, c.once n, mbufs-cons s ss n);
        direct = λ n q. omega (arith, c.direct n (omega (arith, indirects-cons s ss n)), refs-cons s ss n);
        numbers = rw f.specs c.numbers.1;
        lie = rw f.specs c.lie.1;
        stored = stored;
        out = λ n h. outs n (rw f.specs at h);
      };
      shows = frame ps ps' slots (same_length ps ps' f.specs) w.shows
          (λ m q. let e = mbufs-append more (segments_held slots) m in
          let number : IsNumber (specs_of ps) m =
          all_at (IsNumber (specs_of ps)) (segments_held slots) m (all_right (λ t. IsNumber (specs_of ps) t.mbuf) (s ∷ more) (segments_held slots) c.numbers)
          q in
          let new = positive (mbufs ss m + refs ss m) (omega arith) in
          let old = positive (mbufs (s ∷ ss) m + refs (s ∷ ss) m) (omega (arith, mbufs-cons s ss m)) in
          record { out = cc (outs m number, c.out m number); header = f.headers m })
          (λ m _ none. rw (f.headers m).segs none);
    }

-- the links of the rest
pub less_links : (ps ps' : List PoolView) (n : Number) (s : Segment) (more : Packet) → Linked (header_at ps) n (s ∷ more) → Fewer ps ps' →
    Linked (header_at ps') (header_at ps n).next more
less_links ps ps' n s more l f =
    linked_kept (header_at ps) (header_at ps') (header_at ps n).next more (λ m _. (f.headers m).link) l.1

-- ---- what a segment in hand has

module _ (ps : List PoolView) (slots : List (Option Packet)) (s : Segment) (more : Packet) (w : Whole ps (s ∷ more) slots) where
  abbrev ss : List Segment
  ss = more ++ segments_held slots

  pub mbuf_number : IsNumber (specs_of ps) s.mbuf
  mbuf_number = w.counted.numbers.0

  pub buffer_number : IsNumber (specs_of ps) s.buffer
  buffer_number = w.counted.lie.0.number

  pub mbuf_out : is_out ps s.mbuf ≡ true
  mbuf_out =
      rw (w.counted.out s.mbuf mbuf_number) (positive (mbufs (s ∷ ss) s.mbuf + refs (s ∷ ss) s.mbuf) (omega (arith, mbufs_first s ss)))

  pub buffer_out : is_out ps s.buffer ≡ true
  buffer_out =
      rw (w.counted.out s.buffer buffer_number) (positive (mbufs (s ∷ ss) s.buffer + refs (s ∷ ss) s.buffer) (omega (arith, refs_first s ss)))

  pub buffer_refs : (header_at ps s.buffer).refs ≡ suc (refs ss s.buffer)
  buffer_refs = rw (w.counted.stored s.buffer (omega (arith, refs_first s ss))) (refs_first s ss)

  -- no other segment has this mbuf
  pub mbuf_gone : mbufs ss s.mbuf ≡ 0
  mbuf_gone = omega (arith, w.counted.once s.mbuf, mbufs_first s ss)

  -- an indirect mbuf is nobody's buffer
  pub indirect_free : same_number s.mbuf s.buffer ≡ false → refs ss s.mbuf ≡ 0
  indirect_free d =
      let t : one_if (same_number s.mbuf s.mbuf && not (same_number s.buffer s.mbuf)) ≡ 1 = rw (same_number_refl s.mbuf, turned s.mbuf s.buffer d) in
      omega (arith, w.counted.direct s.mbuf (omega (arith, t, indirects-cons s ss s.mbuf)), refs-cons s ss s.mbuf)

  -- a buffer without other references is no other segment's mbuf
  pub buffer_gone : refs ss s.buffer ≡ 0 → mbufs ss s.buffer ≡ 0
  buffer_gone z = by (indirects (s ∷ ss) s.buffer) refl
    where
      by : (i : ℕ) → indirects (s ∷ ss) s.buffer ≡ i → mbufs ss s.buffer ≡ 0
      by zero e =
          omega (arith, e, z, mbufs_split ss s.buffer, indirects-cons s ss s.buffer)
      by (suc i) e =
          absurd (omega (arith, w.counted.direct s.buffer (omega arith), refs_first s ss))

  -- at other numbers the counts are the same
  pub elsewhere : (n : Number) → same_number s.mbuf n ≡ false → same_number s.buffer n ≡ false → (mbufs (s ∷ ss) n ≡ mbufs ss n) × (refs (s ∷ ss) n ≡ refs ss n)
  elsewhere n d e = (omega (arith, zero_at s.mbuf n d, mbufs-cons s ss n), omega (arith, zero_at s.buffer n e, refs-cons s ss n))

  pub out_elsewhere : (n : Number) → IsNumber (specs_of ps) n → same_number s.mbuf n ≡ false → same_number s.buffer n ≡ false →
      is_out ps n ≡ is_positive (mbufs ss n + refs ss n)
  out_elsewhere n h d e =
      let q = elsewhere n d e in cc (w.counted.out n h, q.0, q.1)

-- ---- putting the mbuf of a segment in hand back, unless it is its own buffer

pub none_positive : (x y : ℕ) → x ≡ 0 → y ≡ 0 → is_positive (x + y) ≡ false
none_positive x y a b = rw (a, b)

fewer_fewer : (a b c : List PoolView) → Fewer a b → Fewer b c → Fewer a c
fewer_fewer a b c f g = record {
  are = g.are;
  specs = rw g.specs f.specs;
  zones = rw g.zones f.zones;
  buffers = rw g.buffers f.buffers;
  headers = λ m. let x = f.headers m in let y = g.headers m in
      record { segs = cc; last = cc; link = record { offset = cc; len = cc; next = cc; buffer = cc } };
  outs = λ m e. g.outs m (f.outs m e);
}

-- releasing one segment: its mbuf is put back if it is indirect, and its buffer has one reference less
pub released : (ps ps1 ps' : List PoolView) (slots : List (Option Packet)) (s : Segment) (more : Packet) → Whole ps (s ∷ more) slots →
    MbufBack ps s.mbuf s.buffer ps1 → BufferLess ps1 s.buffer ps' → Whole ps' more slots × Fewer ps ps'
released ps ps1 ps' slots s more w a b =
    let ts : List Segment = more ++ segments_held slots in
    let f : Fewer ps ps' = fewer_fewer ps ps1 ps' a.fewer b.fewer in (
      less ps ps' slots s more w f
          (λ n q. ⊎_elim
          (λ e. subst (λ m. (header_at ps' m).refs ≡ refs ts m) e ((at_buffer (refs ts s.buffer) refl).0 (omega (arith, ap (refs ts) e))))
          (λ d. rw (b.refs n d, a.refs n, w.counted.stored n (omega (arith, refs-cons s ts n))) (omega (arith, zero_at s.buffer n d, refs-cons s ts n)))
          (same_or s.buffer n))
          (λ n h. ⊎_elim
          (λ e. subst (λ m. is_out ps' m ≡ is_positive (mbufs ts m + refs ts m)) e (at_buffer (refs ts s.buffer) refl).1)
          (λ d. ⊎_elim
          (λ e. subst (λ m. is_out ps' m ≡ is_positive (mbufs ts m + refs ts m)) e
          (let nb : same_number s.buffer s.mbuf ≡ false = rw e d in
          let ne = turned s.buffer s.mbuf nb in
          let none = none_positive (mbufs ts s.mbuf) (refs ts s.mbuf) (mbuf_gone ps slots s more w) (indirect_free ps slots s more w ne) in
          cc (b.others s.mbuf nb, a.here ne)))
          (λ ne. rw (b.others n d, a.others n ne) (out_elsewhere ps slots s more w n h ne d))
          (same_or s.mbuf n))
          (same_or s.buffer n)),
      f,
    )
  where
    still : is_out ps1 s.buffer ≡ is_out ps s.buffer
    still = ⊎_elim
        (λ e. rw (← e) (a.own e))
        (λ d. a.others s.buffer d)
        (same_or s.mbuf s.buffer)

    at_buffer : (r : ℕ) → refs (more ++ segments_held slots) s.buffer ≡ r →
        (1 ≤ r → (header_at ps' s.buffer).refs ≡ refs (more ++ segments_held slots) s.buffer)
        × (is_out ps' s.buffer ≡ is_positive (mbufs (more ++ segments_held slots) s.buffer + refs (more ++ segments_held slots) s.buffer))
    at_buffer zero e = (
      (λ q. absurd (omega arith)),
      rw (
        b.last (rw (a.refs s.buffer, buffer_refs ps slots s more w, e)),
        none_positive (mbufs (more ++ segments_held slots) s.buffer) (refs (more ++ segments_held slots) s.buffer) (buffer_gone ps slots s more w e) e,
      ),
    )
    at_buffer (suc r) e =
        let less = b.one_less r (rw (a.refs s.buffer, buffer_refs ps slots s more w, e)) in
        let some = positive (mbufs (more ++ segments_held slots) s.buffer + refs (more ++ segments_held slots) s.buffer) (omega arith) in
        ((λ _. cc less.0), cc (less.1, still, buffer_out ps slots s more w))

pub released_whole : (ps ps' : List PoolView) (slots : List (Option Packet)) (s : Segment) (more : Packet) → Whole ps (s ∷ more) slots →
    Released ps s.mbuf s.buffer ps' → Whole ps' more slots × Fewer ps ps'
released_whole ps ps' slots s more w r = released ps r.middle ps' slots s more w r.mbuf r.buffer

-- ---- one segment more

-- n, which was in, is out with a header of its own; other headers stay but for references
pub record More (ps ps' : List PoolView) (n : Number) : Type 0 where
  pub are : ArePools ps'
  pub specs : specs_of ps' ≡ specs_of ps
  pub number : IsNumber (specs_of ps) n
  pub was : is_out ps n ≡ false
  pub here : is_out ps' n ≡ true
  pub no_head : (header_at ps' n).segs ≡ 0
  pub outs : (m : Number) → same_number n m ≡ false → is_out ps' m ≡ is_out ps m
  pub headers : (m : Number) → same_number n m ≡ false → Alike (header_at ps' m) (header_at ps m)

none_of : (n : ℕ) → is_positive n ≡ false → n ≡ 0
none_of zero e = refl
none_of (suc n) e = cc

-- an object that is in belongs to no segment
pub nothing_at : (ps : List PoolView) (hand : Packet) (slots : List (Option Packet)) (n : Number) → Whole ps hand slots → IsNumber (specs_of ps) n →
    is_out ps n ≡ false → mbufs (hand ++ segments_held slots) n + refs (hand ++ segments_held slots) n ≡ 0
nothing_at ps hand slots n w number was =
    none_of (mbufs (hand ++ segments_held slots) n + refs (hand ++ segments_held slots) n) (rw (← w.counted.out n number) was)

and_le : (a b m : Number) → one_if (same_number a m && not (same_number b m)) ≤ one_if (same_number a m)
and_le a b m = by_le (same_number a m) (not (same_number b m))

module _ (ps ps' : List PoolView) (hand : Packet) (slots : List (Option Packet)) (s : Segment) (w : Whole ps hand slots) (f : More ps ps' s.mbuf)
    (lies : Lies (specs_of ps) s)
    (stored : (b : Number) → 1 ≤ refs (s ∷ hand ++ segments_held slots) b → (header_at ps' b).refs ≡ refs (s ∷ hand ++ segments_held slots) b)
    (kind : (s.mbuf ≡ s.buffer) ⊎ ((same_number s.mbuf s.buffer ≡ false) × (1 ≤ refs (hand ++ segments_held slots) s.buffer))) where
  abbrev had : List Segment
  had = hand ++ segments_held slots

  abbrev n : Number
  n = s.mbuf

  no : mbufs had n + refs had n ≡ 0
  no = nothing_at ps hand slots n w f.number f.was

  direct_grown : (m : Number) → 1 ≤ indirects (s ∷ had) m → refs (s ∷ had) m ≡ 0
  direct_grown m q =
      let old : same_number n m ≡ false → refs had m ≡ 0 =
      λ d. w.counted.direct m (omega (arith, and_le n s.buffer m, zero_at n m d, indirects-cons s had m)) in
      ⊎_elim
      (λ e. subst (λ j. refs (s ∷ had) j ≡ 0) e
      (⊎_elim
      (λ own. absurd (let z = ap (indirects (s ∷ had)) e in
      let t : one_if (same_number n n && not (same_number s.buffer n)) ≡ 0 = rw (← own, same_number_refl n) in
      omega (arith, z, no, indirects-cons s had n, indirects_le had n)))
      (λ o. omega (arith, no, zero_at s.buffer n (turned n s.buffer o.0), refs-cons s had n))
      kind))
      (λ d. ⊎_elim
      (λ b. ⊎_elim
      (λ own. absurd (let x : same_number n m ≡ true = cc (own, b, same_number_refl m) in cc))
      (λ o. absurd (omega (arith, old d, ap (refs had) b, o.1)))
      kind)
      (λ b. omega (arith, old d, zero_at s.buffer m b, refs-cons s had m))
      (same_or s.buffer m))
      (same_or n m)

  out_grown : (m : Number) → IsNumber (specs_of ps') m → is_out ps' m ≡ is_positive (mbufs (s ∷ had) m + refs (s ∷ had) m)
  out_grown m h =
      let c = w.counted in
      ⊎_elim
      (λ e. subst (λ j. is_out ps' j ≡ is_positive (mbufs (s ∷ had) j + refs (s ∷ had) j)) e
      (rw f.here (sym (positive (mbufs (s ∷ had) n + refs (s ∷ had) n) (omega (arith, mbufs_first s had))))))
      (λ d. let old : is_out ps' m ≡ is_positive (mbufs had m + refs had m) = rw (f.outs m d) (c.out m (rw f.specs at h)) in
      let mb : mbufs (s ∷ had) m ≡ mbufs had m = omega (arith, zero_at n m d, mbufs-cons s had m) in
      ⊎_elim
      (λ b. ⊎_elim
      (λ own. absurd (let x : same_number n m ≡ true = cc (own, b, same_number_refl m) in cc))
      (λ o. let some : 1 ≤ refs had m = omega (arith, o.1, ap (refs had) b) in
      cc (positive (mbufs had m + refs had m) (omega arith), positive (mbufs (s ∷ had) m + refs (s ∷ had) m) (omega (arith, refs-cons s had m))))
      kind)
      (λ b. let rf : refs (s ∷ had) m ≡ refs had m = omega (arith, zero_at s.buffer m b, refs-cons s had m) in
      cc)
      (same_or s.buffer m))
      (same_or n m)

  -- one segment more in hand, whose mbuf was in
  pub grown : Whole ps' (s ∷ hand) slots
  grown =
      let c = w.counted in
      record {
        are = f.are;
        counted = record {
          once = λ m. ⊎_elim
              (λ e. omega (arith, ap (mbufs (s ∷ had)) e, no, mbufs_first s had))
              (λ d. omega (arith, c.once m, zero_at n m d, mbufs-cons s had m))
              (same_or n m);
          direct = direct_grown;
          numbers = subst (λ x. AllByRecursion (λ t. IsNumber x t.mbuf) (s ∷ had)) (sym f.specs) (f.number, c.numbers);
          lie = subst (λ x. AllByRecursion (Lies x) (s ∷ had)) (sym f.specs) (lies, c.lie);
          stored = stored;
          out = out_grown;
        };
        shows = frame ps ps' slots (same_length ps ps' f.specs) w.shows
            (λ m q. ⊎_elim
            (λ e. absurd (omega (arith, ap (mbufs (segments_held slots)) e, no, mbufs-append hand (segments_held slots) n)))
            (λ d. record { out = f.outs m d; header = f.headers m d })
            (same_or n m))
            (λ m _ none. ⊎_elim
            (λ e. rw (← e, f.no_head))
            (λ d. rw (head_stays ps ps' m (record { out = f.outs m d; header = f.headers m d })) none)
            (same_or n m));
      }

-- ---- the zones of the pools

pub released_zones : (ps ps' : List PoolView) (n b : Number) → Released ps n b ps' → zones_of ps' ≡ zones_of ps
released_zones ps ps' n b r = rw r.buffer.fewer.zones r.mbuf.fewer.zones

pub cloned_zones : (ps ps' : List PoolView) (from n : Number) → Cloned ps from n ps' → zones_of ps' ≡ zones_of ps
cloned_zones ps ps' from n k = rw (k.buffer.zones, k.header.zones) k.taken.zones

pub filled_zones : (ps ps' : List PoolView) (n : Number) (bytes : List ℕ) → FilledBy ps n bytes ps' → zones_of ps' ≡ zones_of ps
filled_zones ps ps' n bytes f = rw (f.bytes_in.zones, f.header.zones) f.taken.zones

-- ---- the steps of the code

pub object_after : (ps ps' : List PoolView) (n : Number) → specs_of ps' ≡ specs_of ps → HasObject ps n → HasObject ps' n
object_after ps ps' n e h = object_of ps' n (rw e (number_of ps n h))

pub less_set : (ps ps' : List PoolView) (b : Number) (j : ℕ) → HeaderSet ps b (record (header_at ps b) { refs = j }) ps' → (header_at ps b).refs ≡ suc j →
    1 ≤ j → BufferLess ps b ps'
less_set ps ps' b j done was some = record {
  fewer = record {
    are = done.are;
    specs = done.specs;
    zones = done.zones;
    buffers = done.buffers;
    headers = λ m. ⊎_elim
        (λ e. rw (← e, done.here) (record { segs = refl; last = refl; link = record { offset = refl; len = refl; next = refl; buffer = refl } }))
        (λ d. alike (header_at ps' m) (header_at ps m) (done.others m d))
        (same_or b m);
    outs = λ m e. rw (done.outs m) e;
  };
  refs = λ m d. rw (done.others m d);
  others = λ m _. done.outs m;
  last = λ e. absurd (omega arith);
  one_less = λ r e. (rw done.here (omega arith), done.outs b);
}

pub can_release : (ps : List PoolView) (slots : List (Option Packet)) (n : Number) (s : Segment) (more : Packet) → Whole ps (s ∷ more) slots →
    Linked (header_at ps) n (s ∷ more) → CanRelease ps n (header_at ps n).buffer
can_release ps slots n s more w l =
    let mb : s.mbuf ≡ n = first_mbuf (header_at ps) n s more l in
    let bf : s.buffer ≡ (header_at ps n).buffer = rw (← l.0) in
    rw (← bf, ← mb) (record {
      are = w.are;
      mbuf = object_of ps s.mbuf (mbuf_number ps slots s more w);
      mbuf_out = mbuf_out ps slots s more w;
      buffer = object_of ps s.buffer (buffer_number ps slots s more w);
      buffer_out = buffer_out ps slots s more w;
      some = omega (arith, buffer_refs ps slots s more w);
    })

pub release_done : (ps ps' : List PoolView) (slots : List (Option Packet)) (n : Number) (s : Segment) (more : Packet) → Whole ps (s ∷ more) slots →
    Linked (header_at ps) n (s ∷ more) → Released ps n (header_at ps n).buffer ps' → Whole ps' more slots × Linked (header_at ps') (header_at ps n).next more
    × (specs_of ps' ≡ specs_of ps) × (buffers_of ps' ≡ buffers_of ps)
release_done ps ps' slots n s more w l r =
    let mb : s.mbuf ≡ n = first_mbuf (header_at ps) n s more l in
    let bf : s.buffer ≡ (header_at ps n).buffer = rw (← l.0) in
    let d = released_whole ps ps' slots s more w (rw bf (rw mb r)) in
    (d.0, less_links ps ps' n s more l d.1, d.1.specs, d.1.buffers)

pub one_reference_less : (r x : ℕ) → r ≡ x → 1 ≤ x → (r ≡ 1 → ⊥) → (x ≡ suc (x - 1)) × (1 ≤ x - 1)
one_reference_less r x e some ne =
    let d : x ≢ 1 = λ i. ne (omega arith) in (omega arith, omega arith)
