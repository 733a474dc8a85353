-- Internal: references: what each packet adds, and what registers hold.
use Rattle.std.proofs.Common.{◌≡◌, ◌≢◌, ℕ, zero, suc, ◌+◌, ◌≤◌, true, cond, List, [], ◌∷◌, ◌++◌, Option, Some, None, refl, sym, ◌∙◌, ap, arith}
use Rattle.std.proofs.Common.{false, not, ◌||◌}
use Rattle.std.specs.Prelude.{slice_get, slice_set}
use Rattle.std.proofs.lemmas.List.Sums.{sum_by-append, sum_by-cons}
use Rattle.std.proofs.lemmas.Option.{same_Some}
use Rattle.std.proofs.lemmas.Bool.{and_parts, not-true, or_parts}
use Rattle.dp_model.specs.Buffers.{Number, same_number}
use Rattle.dp_model.specs.Packets.{Segment, Packet, refs, IsSole, IsHeadSole, is_free}
use Rattle.dp_model.specs.Machine.{segments_held, segments_listed, State, live}
use Rattle.dp_model.specs.Meaning.{HasShare}
use Rattle.dp_model.specs.Laws.Cases.{one_if}
use Rattle.dp_model.specs.Laws.Lists.{get_set_other}
use Rattle.dp_model.specs.Laws.Stored.{same_number_refl}

-- two lists of segments joined
pub refs-append : (xs ys : List Segment) (b : Number) → refs (xs ++ ys) b ≡ refs xs b + refs ys b
refs-append xs ys b = sum_by-append (λ s. cond (same_number s.buffer b) 1 0) xs ys

-- the references of a register's packet
abbrev pub refs_of : Option Packet → Number → ℕ
refs_of None b = 0
refs_of (Some k) b = refs k b

-- a register is set
pub refs_set : (packets : List (Option Packet)) (p : ℕ) (o o' : Option Packet) (b : Number) → slice_get packets p ≡ Some o
    → refs (segments_held (slice_set packets p o')) b + refs_of o b ≡ refs (segments_held packets) b + refs_of o' b
refs_set [] p o o' b h = cc
refs_set (None ∷ packets) zero None None b h = refl
refs_set (None ∷ packets) zero None (Some k) b h = omega (arith, refs-append k (segments_held packets) b)
refs_set (None ∷ packets) zero (Some k) o' b h = cc
refs_set (Some k ∷ packets) zero None o' b h = cc
refs_set (Some k ∷ packets) zero (Some k') None b h =
    let e : refs k b ≡ refs k' b = ap (λ o. refs_of o b) (same_Some (Some k) (Some k') h) in
    omega (arith, e, refs-append k (segments_held packets) b)
refs_set (Some k ∷ packets) zero (Some k') (Some l) b h =
    let e : refs k b ≡ refs k' b = ap (λ o. refs_of o b) (same_Some (Some k) (Some k') h) in
    omega (arith, e, refs-append k (segments_held packets) b, refs-append l (segments_held packets) b)
refs_set (None ∷ packets) (suc p) o o' b h = refs_set packets p o o' b h
refs_set (Some k ∷ packets) (suc p) o o' b h =
    omega (arith, refs_set packets p o o' b h, refs-append k (segments_held packets) b, refs-append k (segments_held (slice_set packets p o')) b)

-- a register's packet is part of all that is held
pub refs_held : (packets : List (Option Packet)) (i : ℕ) (o : Option Packet) (b : Number) → slice_get packets i ≡ Some o
    → refs_of o b ≤ refs (segments_held packets) b
refs_held packets i o b h = omega (arith, refs_set packets i o None b h)

-- the packets of two registers are part of all that is held
pub refs_two : (packets : List (Option Packet)) (i p : ℕ) (o u : Option Packet) (b : Number) → i ≢ p → slice_get packets i ≡ Some o
    → slice_get packets p ≡ Some u → refs_of o b + refs_of u b ≤ refs (segments_held packets) b
refs_two packets i p o u b ne hi hp =
    omega (arith, refs_set packets p u None b hp, refs_held (slice_set packets p None) i o b (get_set_other packets p i None ne ∙ hi))

-- a buffer of the packet with one reference keeps one
abbrev pub Keeps : List Segment → List Segment → Packet → Type 0
Keeps live live' k = (b : Number) → 1 ≤ refs k b → refs live b ≡ 1 → refs live' b ≡ 1

-- one more segment
pub refs-cons : (s : Segment) (rest : Packet) (b : Number) → refs (s ∷ rest) b ≡ one_if (same_number s.buffer b) + refs rest b
refs-cons s rest b = sum_by-cons (λ x. cond (same_number x.buffer b) 1 0) s rest

-- a packet refers to its first segment's buffer
pub refs_first : (s : Segment) (rest : Packet) → 1 ≤ refs (s ∷ rest) s.buffer
refs_first s rest =
    let one : ℕ = 1 in
    let e : cond (same_number s.buffer s.buffer) one 0 ≡ one = ap (λ b. cond b one 0) (same_number_refl s.buffer) in
    omega (arith, e, refs-cons s rest s.buffer)

-- a sole packet stays sole if its buffers keep their one reference
pub sole_kept : (live live' k rest : List Segment) → Keeps live live' k → ((b : Number) → 1 ≤ refs rest b → 1 ≤ refs k b) → IsSole live rest → IsSole live' rest
sole_kept live live' k [] keeps part h = tt
sole_kept live live' k (s ∷ rest) keeps part h =
    (keeps s.buffer (part s.buffer (refs_first s rest)) h.0, sole_kept live live' k rest keeps (λ b m. part b (omega (arith, refs-cons s rest b))) h.1)

-- so facts about its share stay true
pub share_kept : (live live' : List Segment) (share : ℕ) (packet : Packet) → Keeps live live' packet → HasShare live share packet → HasShare live' share packet
share_kept live live' share packet keeps h = record {
  first = λ e. first_kept packet keeps (h.first e);
  each = λ e. sole_kept live live' packet packet keeps (λ b m. m) (h.each e);
}
  where
    first_kept : (packet : Packet) → Keeps live live' packet → IsHeadSole live packet → IsHeadSole live' packet
    first_kept [] keeps h = tt
    first_kept (s ∷ rest) keeps h = keeps s.buffer (refs_first s rest) h

-- where each buffer has one reference, the first has
pub sole_first : (live : List Segment) (k : Packet) → IsSole live k → IsHeadSole live k
sole_first live [] h = tt
sole_first live (s ∷ rest) h = h.0

-- what each share takes: loose takes nothing, head sole the first buffer's one reference, sole that of each
pub says_nothing : {live : List Segment} {k : Packet} → HasShare live 0 k
says_nothing = record { first = λ e. absurd (omega (arith, e)); each = λ e. absurd (omega (arith, e)) }

pub says_first : {live : List Segment} {k : Packet} → IsHeadSole live k → HasShare live 1 k
says_first h = record { first = λ e. h; each = λ e. absurd (omega (arith, e)) }

pub says_each : {live : List Segment} {k : Packet} → IsSole live k → HasShare live 2 k
says_each h = record { first = λ e. absurd (omega (arith, e)); each = λ e. h }

-- there is no reference to a free number
pub free_zero : (live : List Segment) (n : Number) → is_free live n ≡ true → refs live n ≡ 0
free_zero [] n h = refl
free_zero (s ∷ rest) n h =
    let t = and_parts (not (same_number s.mbuf n || same_number s.buffer n)) (is_free rest n) h in
    let other : same_number s.buffer n ≡ false =
    (or_parts (same_number s.mbuf n) (same_number s.buffer n) (not-true (same_number s.mbuf n || same_number s.buffer n) t.0)).1 in
    let none : one_if (same_number s.buffer n) ≡ 0 = ap one_if other in
    omega (arith, none, refs-cons s rest n, free_zero rest n t.1)

-- the references of a state are those of registers, rings and transmit lists
pub live_parts : (s : State) (b : Number)
    → refs (live s) b ≡ refs (segments_held s.packets) b + (refs (segments_listed s.world.rings) b + refs (segments_listed s.world.outboxes) b)
live_parts s b =
    omega (
      arith,
      refs-append (segments_held s.packets) (segments_listed s.world.rings ++ segments_listed s.world.outboxes) b,
      refs-append (segments_listed s.world.rings) (segments_listed s.world.outboxes) b,
    )

-- a packet whose first buffer has one reference has a sole head
pub head_sole : (live : List Segment) (packet : Packet) (r : ℕ) → ((s : Segment) → slice_get packet 0 ≡ Some s → r ≡ refs live s.buffer) → r ≡ 1
    → IsHeadSole live packet
head_sole live [] r f one = tt
head_sole live (s ∷ packet) r f one = sym (f s refl) ∙ one
