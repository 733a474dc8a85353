-- Writing one field of a header keeps the others.
use Rattle.std.proofs.Common.{◌≡◌, ℕ, zero, suc, ◌+◌, ◌-◌, ◌/◌, ◌%◌, ◌<◌, ◌≤◌, List, [], ◌∷◌, ◌++◌, length, take, drop, refl, sym, ◌∙◌, ap, subst, arith}
use Rattle.std.proofs.Common.{⊎_elim, get_or, set}
use Rattle.std.specs.Int.{to_le_bytes, w32}
use Rattle.std.specs.List.{AllByRecursion}
use Rattle.std.proofs.lemmas.Bool.{cases_lt}
use Rattle.std.proofs.lemmas.List.{length-take-le, get_or_append_left, get_or-append_right, get_or-take, get_or-drop, ext_get_or}
use Rattle.dp_model.specs.Buffers.{Number, overwritten}
use Rattle.dp_mbuf.specs.declared.header.Header.{Header}
use Rattle.dp_mbuf.specs.Headers.{header_of, header_bytes, word, mbuf_number, then_word}
use Rattle.dp_pool.specs.Pools.{PoolView, object_in, with_written}
use Rattle.dp_mbuf.specs.Objects.{pool_in, header_at, header_with, HasObject, ArePools, HeaderSet}
use Rattle.dp_mbuf.proofs.PoolLemmas.{Small}
use Rattle.dp_mbuf.proofs.ObjectLemmas.{header_eq, header_back, word_back, mbuf_back, object_long, front_set}
use Rattle.dp_model.specs.Laws.Stored.{number_path, length_overwritten}

-- ---- bytes written over others

module _ (old : List ℕ) (at : ℕ) (new : List ℕ) (fits : at + length new ≤ length old) where
  abbrev rest : List ℕ
  rest = drop (at + length new) old

  front : length (take at old) ≡ at
  front = length-take-le at old (omega arith)

  byte_before : (k : ℕ) → k < at → get_or (overwritten old at new) k 0 ≡ get_or old k 0
  byte_before k b =
      rw (get_or_append_left (take at old) (new ++ rest) 0 k (omega (arith, front))) (get_or-take at old k 0 b)

  byte_in : (i k : ℕ) → i ≡ at + k → k < length new → get_or (overwritten old at new) i 0 ≡ get_or new k 0
  byte_in i k e b =
      let d : i - at ≡ k = omega arith in
      rw (get_or-append_right (take at old) (new ++ rest) at i 0 front (omega arith), d) (get_or_append_left new rest 0 k b)

  byte_after : (k : ℕ) → at + length new ≤ k → get_or (overwritten old at new) k 0 ≡ get_or old k 0
  byte_after k b =
      let d : at + length new + (k - at - length new) ≡ k = omega arith in
      get_or-append_right (take at old) (new ++ rest) at k 0 front (omega arith)
      ∙ (get_or-append_right new rest (length new) (k - at) 0 refl (omega arith)
      ∙ (get_or-drop (at + length new) old (k - at - length new) 0 ∙ ap (λ j. get_or old j 0) d))

  word_before : (a : ℕ) → a + 2 ≤ at → word (overwritten old at new) a ≡ word old a
  word_before a b = omega (arith, byte_before a (omega arith), byte_before (a + 1) (omega arith))

  word_in : (a k : ℕ) → a ≡ at + k → k + 2 ≤ length new → word (overwritten old at new) a ≡ word new k
  word_in a k e b =
      omega (arith, byte_in a k e (omega arith), byte_in (a + 1) (k + 1) (omega arith) (omega arith))

  word_after : (a : ℕ) → at + length new ≤ a → word (overwritten old at new) a ≡ word old a
  word_after a b = omega (arith, byte_after a b, byte_after (a + 1) (omega arith))

  mbuf_before : (a : ℕ) → a + 4 ≤ at → mbuf_number (overwritten old at new) a ≡ mbuf_number old a
  mbuf_before a b = number_path _ _ (word_before (a + 2) (omega arith)) (word_before a (omega arith))

  mbuf_after : (a : ℕ) → at + length new ≤ a → mbuf_number (overwritten old at new) a ≡ mbuf_number old a
  mbuf_after a b = number_path _ _ (word_after (a + 2) (omega arith)) (word_after a b)

-- ---- two numbers, one after the other

two_small : (x : ℕ) (rest : List ℕ) → x < 65536 → Small rest → Small (then_word x rest)
two_small x rest b s zero = omega arith
two_small x rest b s (suc zero) = omega (arith, b)
two_small x rest b s (suc (suc k)) = s k

-- numbers of two bytes each, one after the other
abbrev pub words : List ℕ → List ℕ
words [] = []
words (x ∷ xs) = then_word x (words xs)

pub small_all : (xs : List ℕ) → AllByRecursion (λ x. x < 65536) xs → Small (words xs)
small_all [] all k = omega arith
small_all (x ∷ xs) all k = two_small x (words xs) all.0 (small_all xs all.1) k

pub small_word : (x : ℕ) → x < 65536 → Small (then_word x [])
small_word x a = small_all (x ∷ []) (a, tt)

pub small_words : (x y : ℕ) → x < 65536 → y < 65536 → Small (then_word x (then_word y []))
small_words x y a b = small_all (x ∷ y ∷ []) (a, (b, tt))

pub words_written : (o : List ℕ) (at x y : ℕ) → at + 4 ≤ length o → overwritten (overwritten o at (then_word x [])) (at + 2) (then_word y [])
    ≡ overwritten o at (then_word x (then_word y []))
words_written o at x y fits =
    let a : List ℕ = then_word x [] in
    let b : List ℕ = then_word y [] in
    let both : List ℕ = then_word x (then_word y []) in
    let mid : List ℕ = overwritten o at a in
    let fits_a : at + length a ≤ length o = omega arith in
    let fits_both : at + length both ≤ length o = omega arith in
    let long = length_overwritten o a at fits_a in
    let fits_b : at + 2 + length b ≤ length mid = omega (arith, long) in
    let left = length_overwritten mid b (at + 2) fits_b in
    let right = length_overwritten o both at fits_both in
    ext_get_or 0 (overwritten mid (at + 2) b) (overwritten o at both) (omega arith) (λ k h. ⊎_elim
    (λ before. cc (byte_before mid (at + 2) b fits_b k (omega arith), byte_before o at a fits_a k before, byte_before o at both fits_both k before))
    (λ past. ⊎_elim
    (λ first. byte_before mid (at + 2) b fits_b k first
    ∙ (byte_in o at a fits_a k (k - at) (omega arith) (omega arith)
    ∙ (sym (get_or_append_left a b 0 (k - at) (omega arith)) ∙ sym (byte_in o at both fits_both k (k - at) (omega arith) (omega arith)))))
    (λ more. ⊎_elim
    (λ second. byte_in mid (at + 2) b fits_b k (k - at - 2) (omega arith) (omega arith)
    ∙ (sym (get_or-append_right a b 2 (k - at) 0 refl (omega arith)) ∙ sym (byte_in o at both fits_both k (k - at) (omega arith) (omega arith))))
    (λ beyond. cc (
      byte_after mid (at + 2) b fits_b k (omega arith),
      byte_after o at a fits_a k (omega arith),
      byte_after o at both fits_both k (omega arith),
    ))
    (cases_lt k (at + 4)))
    (cases_lt k (at + 2)))
    (cases_lt k at))

-- the four bytes of a count of references
pub refs_bytes : (x : ℕ) → x < 4294967296 → to_le_bytes w32 x ≡ then_word (x % 65536) (then_word (x / 65536) [])
refs_bytes x small =
    let b1 : x / 256 % 256 ≡ x % 65536 / 256 = omega arith in
    let b0 : x % 256 ≡ x % 65536 % 256 = omega arith in
    let b2 : x / 65536 % 256 ≡ x / 65536 % 256 = refl in
    let b3 : x / 16777216 % 256 ≡ x / 65536 / 256 = omega (arith, small) in
    (λ i. b0 i ∷ b1 i ∷ b2 i ∷ b3 i ∷ [])

-- ---- a field written over a header's

module _ (o : List ℕ) (long : 128 ≤ length o) where
  segs_written : (x : ℕ) → header_of (overwritten o 0 (then_word x [])) ≡ record (header_of o) { segs = x }
  unfolding header_of
  segs_written x =
      let new : List ℕ = then_word x [] in
      let fits : 0 + length new ≤ length o = omega arith in
      header_eq _ _ (word_in o 0 new fits 0 0 refl (omega arith) ∙ word_back x)
      (omega (arith, word_after o 0 new fits 2 (omega arith), word_after o 0 new fits 4 (omega arith))) (word_after o 0 new fits 6 (omega arith))
      (word_after o 0 new fits 8 (omega arith)) (mbuf_after o 0 new fits 10 (omega arith)) (mbuf_after o 0 new fits 14 (omega arith))
      (mbuf_after o 0 new fits 18 (omega arith))

  refs_written : (x : ℕ) → header_of (overwritten o 2 (then_word (x % 65536) (then_word (x / 65536) []))) ≡ record (header_of o) { refs = x }
  unfolding header_of
  refs_written x =
      let new : List ℕ = then_word (x % 65536) (then_word (x / 65536) []) in
      let fits : 2 + length new ≤ length o = omega arith in
      header_eq _ _ (word_before o 2 new fits 0 (omega arith)) (omega (
        arith,
        word_in o 2 new fits 2 0 refl (omega arith),
        word_in o 2 new fits 4 2 refl (omega arith),
        word_back (x % 65536),
        word_back (x / 65536),
      )) (word_after o 2 new fits 6 (omega arith))
      (word_after o 2 new fits 8 (omega arith)) (mbuf_after o 2 new fits 10 (omega arith)) (mbuf_after o 2 new fits 14 (omega arith))
      (mbuf_after o 2 new fits 18 (omega arith))

  bounds_written : (x y : ℕ) → header_of (overwritten o 6 (then_word x (then_word y []))) ≡ record (header_of o) { offset = x; len = y }
  unfolding header_of
  bounds_written x y =
      let new : List ℕ = then_word x (then_word y []) in
      let fits : 6 + length new ≤ length o = omega arith in
      header_eq _ _ (word_before o 6 new fits 0 (omega arith)) (omega (
        arith,
        word_before o 6 new fits 2 (omega arith),
        word_before o 6 new fits 4 (omega arith),
      )) (word_in o 6 new fits 6 0 refl (omega arith) ∙ word_back x) (word_in o 6 new fits 8 2 refl (omega arith)
      ∙ word_back y) (mbuf_after o 6 new fits 10 (omega arith)) (mbuf_after o 6 new fits 14 (omega arith))
      (mbuf_after o 6 new fits 18 (omega arith))

  -- a number that is written at byte 10 or 14 stands there, and keeps the fields before it and the last one
  module _ (at : ℕ) (n : Number) (from : 10 ≤ at) (to : at ≤ 14) where
    abbrev here : List ℕ
    here = then_word n.index (then_word n.pool [])

    fits : at + length here ≤ length o
    fits = omega (arith, long)

    there : mbuf_number (overwritten o at here) at ≡ n
    there =
        number_path _ _ (word_in o at here fits (at + 2) 2 refl (omega arith)) (word_in o at here fits at 0 (omega arith) (omega arith)) ∙ mbuf_back n

    number_written : (next last : Number) → mbuf_number (overwritten o at here) 10 ≡ next → mbuf_number (overwritten o at here) 14 ≡ last
        → header_of (overwritten o at here) ≡ record (header_of o) { next = next; last = last }
    unfolding header_of
    number_written next last is_next is_last =
        header_eq _ _ (word_before o at here fits 0 (omega arith)) (omega (
          arith,
          word_before o at here fits 2 (omega arith),
          word_before o at here fits 4 (omega arith),
        )) (word_before o at here fits 6 (omega arith)) (word_before o at here fits 8 (omega arith)) is_next is_last
        (mbuf_after o at here fits 18 (omega arith))

  next_written : (n : Number) → header_of (overwritten o 10 (then_word n.index (then_word n.pool []))) ≡ record (header_of o) { next = n }
  unfolding header_of
  next_written n =
      let at = mbuf_after o 10 (here 10 n (omega arith) (omega arith)) (fits 10 n (omega arith) (omega arith)) in
      number_written 10 n (omega arith) (omega arith) n (mbuf_number o 14) (there 10 n (omega arith) (omega arith)) (at 14 (omega arith))

  last_written : (n : Number) → header_of (overwritten o 14 (then_word n.index (then_word n.pool []))) ≡ record (header_of o) { last = n }
  unfolding header_of
  last_written n =
      let at = mbuf_before o 14 (here 14 n (omega arith) (omega arith)) (fits 14 n (omega arith) (omega arith)) in
      number_written 14 n (omega arith) (omega arith) (mbuf_number o 10) n (at 10 (omega arith)) (there 14 n (omega arith) (omega arith))

-- ---- the header afterwards

pub written_is : (ps ps' : List PoolView) (n : Number) (at : ℕ) (bytes new : List ℕ) (h : Header) → bytes ≡ new → header_with ps n at new ≡ h →
    HeaderSet ps n (header_with ps n at bytes) ps' → HeaderSet ps n h ps'
written_is ps ps' n at bytes new h e is done = subst (λ x. HeaderSet ps n x ps') (ap (header_with ps n at) e ∙ is) done

module _ (ps ps' : List PoolView) (n : Number) (long : 128 ≤ length (object_in (pool_in ps n.pool) n.index)) (bytes : List ℕ) where
  abbrev object : List ℕ
  object = object_in (pool_in ps n.pool) n.index

  pub header_done : (h : Header) → bytes ≡ header_bytes h → HeaderSet ps n (header_with ps n 0 bytes) ps' → HeaderSet ps n h ps'
  header_done h e = written_is ps ps' n 0 bytes (header_bytes h) h e (header_back h (drop 22 object))

  pub segs_done : (x : ℕ) → bytes ≡ then_word x [] → HeaderSet ps n (header_with ps n 0 bytes) ps' → HeaderSet ps n (record (header_at ps n) { segs = x }) ps'
  segs_done x e = written_is ps ps' n 0 bytes _ _ e (segs_written object long x)

  pub refs_done : (x : ℕ) → bytes ≡ then_word (x % 65536) (then_word (x / 65536) []) → HeaderSet ps n (header_with ps n 2 bytes) ps' →
      HeaderSet ps n (record (header_at ps n) { refs = x }) ps'
  refs_done x e = written_is ps ps' n 2 bytes _ _ e (refs_written object long x)

  pub bounds_done : (x y : ℕ) → bytes ≡ then_word x (then_word y []) → HeaderSet ps n (header_with ps n 6 bytes) ps' →
      HeaderSet ps n (record (header_at ps n) { offset = x; len = y }) ps'
  bounds_done x y e = written_is ps ps' n 6 bytes _ _ e (bounds_written object long x y)

  pub next_done : (m : Number) (x y : ℕ) → x ≡ m.index → y ≡ m.pool → bytes ≡ then_word x (then_word y []) → HeaderSet ps n (header_with ps n 10 bytes) ps' →
      HeaderSet ps n (record (header_at ps n) { next = m }) ps'
  next_done m x y ex ey e =
      let is : bytes ≡ then_word m.index (then_word m.pool []) = rw (e, ex, ey) in
      written_is ps ps' n 10 bytes _ _ is (next_written object long m)

  pub last_done : (m : Number) (x y : ℕ) → x ≡ m.index → y ≡ m.pool → bytes ≡ then_word x (then_word y []) → HeaderSet ps n (header_with ps n 14 bytes) ps' →
      HeaderSet ps n (record (header_at ps n) { last = m }) ps'
  last_done m x y ex ey e =
      let is : bytes ≡ then_word m.index (then_word m.pool []) = rw (e, ex, ey) in
      written_is ps ps' n 14 bytes _ _ is (last_written object long m)

pub header_set : (ps : List PoolView) (n : Number) (h : Header) → ArePools ps → HasObject ps n → Small (header_bytes h) →
    HeaderSet ps n h (set ps n.pool (with_written (pool_in ps n.pool) n.index 0 (header_bytes h)))
header_set ps n h are object small =
    let bytes : List ℕ = header_bytes h in
    header_done ps _ n (object_long ps n are object) bytes h refl
    (front_set ps n 0 bytes are object small (omega arith))

-- two fields written, one after the other
pub first_set_twice : (ps middle ps' : List PoolView) (n : Number) (s : ℕ) (l : Number) → HeaderSet ps n (record (header_at ps n) { segs = s }) middle →
    HeaderSet middle n (record (header_at middle n) { last = l }) ps' → HeaderSet ps n (record (header_at ps n) { segs = s; last = l }) ps'
first_set_twice ps middle ps' n s l a b =
    let f : Header → Header = λ h. record h { last = l } in
    record {
      are = b.are;
      specs = rw b.specs a.specs;
      zones = rw b.zones a.zones;
      buffers = rw b.buffers a.buffers;
      outs = λ m. rw (b.outs m) (a.outs m);
      ins = λ k. rw (b.ins k) (a.ins k);
      here = rw b.here (ap f a.here);
      others = λ m ne. rw (b.others m ne) (a.others m ne);
    }
