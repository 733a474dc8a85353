-- Counting whole records: the count after more bytes.
use Rattle.std.proofs.Common.{◌≡◌, ◌≢◌, ℕ, zero, suc, ◌+◌, ◌^◌, ◌<◌, ◌≤◌, List, [], ◌++◌, length, take, refl, sym, ap, ◌∙◌, inl, inr, arith}
use Rattle.std.proofs.Common.{length-append, length-take, append_assoc, append-nil, take_all, drop}
use Rattle.std.proofs.lemmas.List.{take-append-drop, take-take, length-take-le, length-drop}
use Rattle.std.proofs.lemmas.Slice.{take-put_mid}
use borrow.Rule.Slice.PartMut.{put_mid}
use Rattle.dp_pcap.specs.declared.byte_order.Order.{Order}
use Rattle.dp_pcap.specs.declared.byte_order.Order.TheVariants.{Little, Big}
use Rattle.dp_pcap.specs.declared.time.Unit.{Unit as TimeUnit}
use Rattle.dp_pcap.specs.Capture.{captured, number, IsHeader}
use Rattle.dp_pcap.specs.Counting.{Counted, ArePieces, IsPart, IsAfter, none_left}
use Rattle.std.proofs.Math.Seq.{take-add}
use Rattle.dp_pcap.proofs.Pieces.{take_more-put_mid}

-- ---- the order

-- the version decides it
pub version_big : (o : Order) (u : TimeUnit) (header : List ℕ) → number Big 2 (drop 4 header) ≡ 2 → IsHeader o u header → Big ≡ o
unfolding number
version_big Big u header two is = refl
version_big Little u header two is = absurd (omega (arith, is.version.0))

pub version_little : (o : Order) (u : TimeUnit) (header : List ℕ) → number Big 2 (drop 4 header) ≢ 2 → IsHeader o u header → Little ≡ o
version_little Little u header other is = refl
version_little Big u header other is = absurd (other is.version.0)

-- ---- inside the header, or after a record's head

no_head : (o : Order) (n left : ℕ) (head part : List ℕ) → 0 < left → IsPart o n left head part → [] ≡ head
no_head o n left head part more is = grind arith

one_more : (o : Order) (n left : ℕ) (head whole part before more : List ℕ) → ArePieces o n whole → IsPart o n left head part → before ≡ whole ++ part →
    length more ≡ left → 0 < left
    → ArePieces o (suc n) (before ++ more)
one_more o zero left head whole part before more are (none, some, all) split size any =
    rw (split, are, length-append, size) all
one_more o (suc n) left head whole part before more are (inl (none, few, same)) split size any = absurd (omega arith)
one_more o (suc n) left head whole part before more are (inr (some, none, (h, body, full, rest, inside))) split size any = (
  whole,
  h,
  body ++ more,
  are,
  (full, rw (length-append, size) rest),
  rw (split, inside) (simp append_assoc),
)

-- all that is left
pub completed : (o : Order) (pieces left : ℕ) (head before more : List ℕ) → length more ≡ left → 0 < left →
    IsAfter (record { order = o; pieces = pieces; left = left; head = head }) before
    → IsAfter (record { order = o; pieces = suc pieces; left = 0; head = head }) (before ++ more)
completed o pieces left head before more size any b = record {
  whole = before ++ more;
  part = [];
  split = rw append-nil;
  pieces = one_more o pieces left head b.whole b.part before more b.pieces b.is_part b.split size any;
  is_part = let none = no_head o pieces left head b.part any b.is_part in inl (refl, rw (← none) (omega arith), none);
}

-- the same with the numbers of a call
pub completes : (o : Order) (pieces left pieces' left' n : ℕ) (head before bytes : List ℕ) → pieces' ≡ suc pieces → left' ≡ 0 → n ≡ left → n ≤ length bytes →
    0 < left
    → IsAfter (record { order = o; pieces = pieces; left = left; head = head }) before →
    IsAfter (record { order = o; pieces = pieces'; left = left'; head = head }) (before ++ take n bytes)
completes o pieces left pieces' left' n head before bytes more none all within any b =
    rw (more, none) (completed o pieces left head before (take n bytes) (omega (arith, length-take n bytes)) any b)

-- ---- inside a record's head

part_begun : (o : Order) (n left : ℕ) (head part more : List ℕ) → length head + length more ≡ 16 → left ≡ captured o (head ++ more) → 0 < left →
    IsPart o n 0 head part → IsPart o n left [] (part ++ more)
part_begun o zero left head part more full is_long any (none, some, all) = absurd (omega arith)
part_begun o (suc n) left head part more full is_long any (inl (none, less, same)) =
    inr (any, refl, (head ++ more, [], rw length-append full, omega arith, rw (same, append-nil)))
part_begun o (suc n) left head part more full is_long any (inr (some, none, inside)) = absurd (omega arith)

-- all of it, and bytes are to follow
pub head_whole : (o : Order) (pieces left : ℕ) (head before more : List ℕ) → length head + length more ≡ 16 → left ≡ captured o (head ++ more) → 0 < left
    → IsAfter (record { order = o; pieces = pieces; left = 0; head = head }) before →
    IsAfter (record { order = o; pieces = pieces; left = left; head = [] }) (before ++ more)
head_whole o pieces left head before more full is_long any b = record {
  whole = b.whole;
  part = b.part ++ more;
  split = rw b.split (append_assoc b.whole b.part more);
  pieces = b.pieces;
  is_part = part_begun o pieces left head b.part more full is_long any b.is_part;
}

-- a part of it
part_grows : (o : Order) (n : ℕ) (head part more : List ℕ) → length (head ++ more) < 16 → IsPart o n 0 head part → IsPart o n 0 (head ++ more) (part ++ more)
part_grows o zero head part more few (none, some, all) = absurd (omega arith)
part_grows o (suc n) head part more few (inl (none, less, same)) = inl (refl, few, rw same)
part_grows o (suc n) head part more few (inr (some, none, inside)) = absurd (omega arith)

pub head_grows : (o : Order) (pieces none came k n : ℕ) (xs ys before bytes : List ℕ) → none ≡ 0 → came + n < 16 → came ≤ length xs → n ≤ length bytes →
    ys ≡ take n bytes
    → IsAfter (record { order = o; pieces = pieces; left = none; head = take came xs }) before →
    IsAfter (record { order = o; pieces = pieces; left = none; head = take (came + n) (put_mid came k xs ys) }) (before ++ take n bytes)
head_grows o pieces none came k n xs ys before bytes was few there within same b =
    let more = take n bytes in
    let size : length ys ≡ n = ap length same ∙ length-take-le n bytes within in
    let now : take (came + n) (put_mid came k xs ys) ≡ take came xs ++ more =
    take_more-put_mid came k n xs ys there (omega (arith, size)) ∙ ap (λ l. take came xs ++ l) (take_all n ys (omega (arith, size)) ∙ same) in
    rw (was, now) record {
      whole = b.whole;
      part = b.part ++ more;
      split = rw b.split (append_assoc b.whole b.part more);
      pieces = b.pieces;
      is_part = part_grows o pieces (take came xs) b.part more (omega (arith, length-append (take came xs) more, length-take came xs, length-take n bytes))
          (rw was at b.is_part);
    }

one_empty : (o : Order) (n : ℕ) (head whole part before more : List ℕ) → ArePieces o n whole → IsPart o n 0 head part → before ≡ whole ++ part →
    length head + length more ≡ 16
    → 0 ≡ captured o (head ++ more) → ArePieces o (suc n) (before ++ more)
one_empty o zero head whole part before more are (none, some, all) split full is_long = absurd (omega arith)
one_empty o (suc n) head whole part before more are (inl (none, less, same)) split full is_long = (
  whole,
  head ++ more,
  [],
  are,
  (rw length-append full, is_long),
  rw (split, same) (simp (append_assoc, append-nil)),
)
one_empty o (suc n) head whole part before more are (inr (some, none, inside)) split full is_long = absurd (omega arith)

-- all of it, of a record without bytes
pub head_alone : (o : Order) (pieces : ℕ) (head before more : List ℕ) → length head + length more ≡ 16 → 0 ≡ captured o (head ++ more)
    → IsAfter (record { order = o; pieces = pieces; left = 0; head = head }) before →
    IsAfter (record { order = o; pieces = suc pieces; left = 0; head = [] }) (before ++ more)
head_alone o pieces head before more full is_long b = record {
  whole = before ++ more;
  part = [];
  split = rw append-nil;
  pieces = one_empty o pieces head b.whole b.part before more b.pieces b.is_part b.split full is_long;
  is_part = inl (refl, omega arith, refl);
}

-- ---- a whole record

one_record : (o : Order) (n : ℕ) (whole part before more : List ℕ) → ArePieces o n whole → IsPart o n 0 [] part → before ≡ whole ++ part → 16 ≤ length more
    → length (drop 16 more) ≡ captured o (take 16 more) → ArePieces o (suc n) (before ++ more)
one_record o zero whole part before more are (none, some, all) split full is_long = absurd (omega arith)
one_record o (suc n) whole part before more are (inl (none, less, same)) split full is_long = (
  whole,
  take 16 more,
  drop 16 more,
  are,
  (length-take-le 16 more full, is_long),
  rw (split, same, append-nil, take-append-drop),
)
one_record o (suc n) whole part before more are (inr (some, none, inside)) split full is_long = absurd (omega arith)

-- its head and all of its bytes
pub record_whole : (o : Order) (pieces : ℕ) (before more : List ℕ) → 16 ≤ length more → length (drop 16 more) ≡ captured o (take 16 more)
    → IsAfter (record { order = o; pieces = pieces; left = 0; head = [] }) before →
    IsAfter (record { order = o; pieces = suc pieces; left = 0; head = [] }) (before ++ more)
record_whole o pieces before more full is_long b = record {
  whole = before ++ more;
  part = [];
  split = rw append-nil;
  pieces = one_record o pieces b.whole b.part before more b.pieces b.is_part b.split full is_long;
  is_part = inl (refl, omega arith, refl);
}

-- the same with the numbers of a call
pub record_passed : (o : Order) (pieces none came pieces' size : ℕ) (xs before bytes : List ℕ) → none ≡ 0 → came ≡ 0 → pieces' ≡ suc pieces →
    size ≤ length bytes
    → size ≡ 16 + captured o (take 16 bytes) → IsAfter (record { order = o; pieces = pieces; left = none; head = take came xs }) before
    → IsAfter (record { order = o; pieces = pieces'; left = none; head = take came xs }) (before ++ take size bytes)
record_passed o pieces none came pieces' size xs before bytes was begins more within is_long b =
    let front : take 16 (take size bytes) ≡ take 16 bytes = take-take 16 size bytes (omega arith) in
    let long : length (take size bytes) ≡ size = length-take-le size bytes within in
    rw (was, begins, more) (record_whole o pieces before (take size bytes) (omega (arith, long))
    (rw (length-drop, long, front) (omega arith)) (rw (was, begins) at b))

-- the record at this offset ends at the next one
abbrev pub EndsAt : Order → List ℕ → ℕ → ℕ → Type 0
EndsAt o bytes at next = next ≡ at + (16 + captured o (take 16 (drop at bytes)))

-- n whole records are before this offset
abbrev pub AreBefore : Order → ℕ → List ℕ → ℕ → Type 0
AreBefore o count bytes at = (n : ℕ) (before : List ℕ) → IsAfter (none_left o n) before → IsAfter (none_left o (n + count)) (before ++ take at bytes)

-- one more of the whole records at the front of these bytes
pub front_passed : (o : Order) (count at next : ℕ) (bytes : List ℕ) → EndsAt o bytes at next → next ≤ length bytes → AreBefore o count bytes at
    → AreBefore o (count + 1) bytes next
front_passed o count at next bytes is within b n before from =
    let rest = drop at bytes in
    let size = 16 + captured o (take 16 rest) in
    let same : n + (count + 1) ≡ n + count + 1 = omega arith in
    rw (is, same, take-add at size bytes, ← append_assoc)
    (record_passed o (n + count) 0 0 (n + count + 1) size [] (before ++ take at bytes) rest refl refl (omega arith)
    (omega (arith, length-drop at bytes, is, within)) refl (b n before from))

-- n of them, with the numbers of a call
pub fronts_passed : (o : Order) (pieces none came count pieces' size : ℕ) (xs before bytes : List ℕ) → none ≡ 0 → came ≡ 0 → pieces' ≡ pieces + count →
    ((n : ℕ) (front : List ℕ) → IsAfter (none_left o n) front → IsAfter (none_left o (n + count)) (front ++ take size bytes))
    → IsAfter (record { order = o; pieces = pieces; left = none; head = take came xs }) before
    → IsAfter (record { order = o; pieces = pieces'; left = none; head = take came xs }) (before ++ take size bytes)
fronts_passed o pieces none came count pieces' size xs before bytes was begins more all b =
    rw (was, begins, more) (all pieces before (rw (was, begins) at b))

-- the bytes of a head that is now whole, of which those after the first `came` were written
head_written : (came k n : ℕ) (xs ys bytes : List ℕ) → came + n ≡ 16 → n ≤ length bytes → came ≤ length xs → length (put_mid came k xs ys) ≡ 16 →
    ys ≡ take n bytes
    → put_mid came k xs ys ≡ take came xs ++ take n bytes
head_written came k n xs ys bytes full within there long same =
    sym (take_all 16 (put_mid came k xs ys) (omega arith))
    ∙ rw (take-put_mid came k xs ys 16 (rw (same, length-take) (omega arith)) there, same)

-- the bytes `ys` were written after the first `came` of `xs`, and now that is a whole head of a record with this many bytes
pub record IsHead (o : Order) (came k n left : ℕ) (xs ys bytes : List ℕ) : Type 0 where
  pub full : came + n ≡ 16
  pub within : n ≤ length bytes
  pub there : came ≤ length xs
  pub long : length (put_mid came k xs ys) ≡ 16
  pub written : ys ≡ take n bytes
  pub is_long : left ≡ captured o (put_mid came k xs ys)

head_size : (o : Order) (came k n left : ℕ) (xs ys bytes : List ℕ) → IsHead o came k n left xs ys bytes →
    length (take came xs) + length (take n bytes) ≡ 16
head_size o came k n left xs ys bytes h = omega (arith, h.full, h.within, h.there, length-take came xs, length-take n bytes)

captured_size : (o : Order) (came k n left : ℕ) (xs ys bytes : List ℕ) → IsHead o came k n left xs ys bytes → left ≡ captured o (take came xs ++ take n bytes)
captured_size o came k n left xs ys bytes h = rw (← head_written came k n xs ys bytes h.full h.within h.there h.long h.written) h.is_long

-- with the numbers of a call
module _ {o : Order} {pieces none came k n left : ℕ} {head' xs ys bytes : List ℕ} (before : List ℕ) (was : none ≡ 0) (empty : head' ≡ [])
    (h : IsHead o came k n left xs ys bytes) (b : IsAfter (record { order = o; pieces = pieces; left = none; head = take came xs }) before) where
  -- of a record without bytes
  pub head_ends : {pieces' : ℕ} → pieces' ≡ suc pieces → left ≡ 0 →
      IsAfter (record { order = o; pieces = pieces'; left = left; head = head' }) (before ++ take n bytes)
  head_ends more zero_left =
      rw (more, zero_left, empty) (head_alone o pieces (take came xs) before (take n bytes) (head_size o came k n left xs ys bytes h)
      (sym zero_left ∙ captured_size o came k n left xs ys bytes h) (rw was at b))

  -- and of one with bytes
  pub head_goes_on : 0 < left → IsAfter (record { order = o; pieces = pieces; left = left; head = head' }) (before ++ take n bytes)
  head_goes_on any =
      rw empty (head_whole o pieces left (take came xs) before (take n bytes) (head_size o came k n left xs ys bytes h)
      (captured_size o came k n left xs ys bytes h) any (rw was at b))

-- ---- piece by piece

-- the first `at` bytes have passed
pub record Passing (old new : Counted) (bytes : List ℕ) (at : ℕ) : Type 0 where
  pub within : at ≤ length bytes
  pub order : new.order ≡ old.order
  pub pieces : new.pieces ≤ old.pieces + at
  pub beyond : old.pieces + length bytes < 2 ^ 64 → (before : List ℕ) → IsAfter old before → IsAfter new (before ++ take at bytes)
