-- The live segments of a machine between two runs are those of its store.
use Rattle.std.proofs.Common.{◌≡◌, ◌≢◌, ℕ, zero, suc, ◌+◌, Bool, true, false, not, ◌||◌, List, [], ◌∷◌, ◌++◌, map, Option, Some, None, refl, sym, ◌∙◌, ap}
use Rattle.std.proofs.Common.{arith, nat_eq, zero-add}
use Rattle.std.specs.Prelude.{slice_get, slice_set, ◌==◌, flat_map}
use Rattle.std.specs.List.{list_all, AllByRecursion}
use Rattle.std.proofs.lemmas.Bool.{eq-eqb, eqb-true}
use Rattle.std.proofs.lemmas.Option.{same_Some}
use Rattle.dp_model.specs.declared.env.PoolSpec.{PoolSpec}
use Rattle.dp_model.specs.Environments.{count_at}
use Rattle.dp_model.specs.Buffers.{Number, same_number}
use Rattle.dp_model.specs.Packets.{Segment, Packet, refs, is_free, free_below, available, IsHeadSole, IsTailSole, IsFresh, AreFresh}
use Rattle.dp_model.specs.Machine.{segments_held, segments_listed, live}
use Rattle.dp_model.specs.Stores.{segments_of}
use Rattle.dp_model.specs.Laws.Lists.{get_set_other, get_set_same}
use Rattle.dp_model.specs.Laws.Cases.{one_if}
use Rattle.dp_model.specs.Laws.References.{refs-cons}
use Rattle.dp_engine.specs.Handles.{held_of, packet_at, register_at, handles_held, once, occurs, in_slot, joined, waiting, packets_listed, Lists}
use Rattle.dp_engine.specs.MachineParts.{MachineParts, OccurOnce, core_of}
use Rattle.dp_engine.proofs.Handles.{is_one, in_slot_some, in_slot_few, occurs-append}

-- how many of the segments are such
abbrev pub tally : (Segment → Bool) → List Segment → ℕ
tally f [] = 0
tally f (s ∷ rest) = once (f s) + tally f rest

pub tally-append : (f : Segment → Bool) (xs ys : List Segment) → tally f (xs ++ ys) ≡ tally f xs + tally f ys
tally-append f [] ys = omega arith
tally-append f (s ∷ xs) ys = let more = tally-append f xs ys in omega (arith, more)

abbrev tally_of : (Segment → Bool) → Option Packet → ℕ
tally_of f None = 0
tally_of f (Some k) = tally f k

tally_cleared : (f : Segment → Bool) (slots : List (Option Packet)) (h : ℕ) (k : Packet) → slice_get slots h ≡ Some (Some k) →
    tally f (segments_held (slice_set slots h None)) + tally f k ≡ tally f (segments_held slots)
tally_cleared f [] h k e = cc
tally_cleared f (None ∷ slots) zero k e = cc
tally_cleared f (None ∷ slots) (suc h) k e = tally_cleared f slots h k e
tally_cleared f (Some x ∷ slots) zero k e =
    let same : x ≡ k = same_Some x k (same_Some (Some x) (Some k) e) in
    let counts : tally f x ≡ tally f k = ap (tally f) same in
    omega (arith, tally-append f x (segments_held slots), counts)
tally_cleared f (Some x ∷ slots) (suc h) k e =
    let more = tally_cleared f slots h k e in
    omega (arith, more, tally-append f x (segments_held slots), tally-append f x (segments_held (slice_set slots h None)))

-- the segments of the packets of these handles
abbrev pub segments_at : List (Option Packet) → List ℕ → List Segment
segments_at slots [] = []
segments_at slots (h ∷ handles) = packet_at slots h ++ segments_at slots handles

none_held : (slots : List (Option Packet)) → ((h : ℕ) → 0 ≡ in_slot (slice_get slots h)) → segments_held slots ≡ []
none_held [] none = refl
none_held (None ∷ slots) none = none_held slots (λ h. none (suc h))
none_held (Some k ∷ slots) none = absurd (omega (arith, none 0))

segments_kept : (slots : List (Option Packet)) (h : ℕ) (o : Option Packet) (xs : List ℕ) → occurs h xs ≡ 0 → segments_at (slice_set slots h o) xs
    ≡ segments_at slots xs
segments_kept slots h o [] e = refl
segments_kept slots h o (x ∷ xs) e =
    let ne : x ≢ h = λ same. absurd (omega (arith, e, is_one x h same)) in
    let first : packet_at (slice_set slots h o) x ≡ packet_at slots x = ap held_of (get_set_other slots h x o ne) in
    let rest = segments_kept slots h o xs (omega (arith, e)) in
    rw first (ap (λ l. packet_at slots x ++ l) rest)

-- each packet is counted once
pub spread : (f : Segment → Bool) (handles : List ℕ) (slots : List (Option Packet)) → ((h : ℕ) → occurs h handles ≡ in_slot (slice_get slots h)) →
    tally f (segments_at slots handles) ≡ tally f (segments_held slots)
spread f [] slots each = sym (ap (tally f) (none_held slots each))
spread f (h ∷ handles) slots each =
    let one = is_one h h refl in
    let (k, there) = in_slot_some (slice_get slots h) (omega (arith, one, each h)) in
    let none : occurs h handles ≡ 0 = omega (arith, one, each h, in_slot_few (slice_get slots h)) in
    let rest = spread f handles (slice_set slots h None) (λ x. less x (x == h) refl k there none) in
    let kept : tally f (segments_at (slice_set slots h None) handles) ≡ tally f (segments_at slots handles) =
    ap (tally f) (segments_kept slots h None handles none) in
    let is_k : tally f (packet_at slots h) ≡ tally f k = ap (λ o. tally f (held_of o)) there in
    omega (arith, rest, kept, is_k, tally_cleared f slots h k there, tally-append f (packet_at slots h) (segments_at slots handles))
  where
    less : (x : ℕ) (b : Bool) → (x == h) ≡ b → (k : Packet) → slice_get slots h ≡ Some (Some k) → occurs h handles ≡ 0 →
        occurs x handles ≡ in_slot (slice_get (slice_set slots h None) x)
    less x true e k there none =
        let same : x ≡ h = eqb-true x h e in
        let slot : in_slot (slice_get (slice_set slots h None) x) ≡ 0 = ap (λ x. in_slot (slice_get (slice_set slots h None) x)) same
        ∙ ap in_slot (get_set_same slots h None (Some k) there) in
        ap (λ x. occurs x handles) same ∙ none ∙ sym slot
    less x false e k there none =
        let ne : x ≢ h = λ same. (let yes : (x == h) ≡ true = eq-eqb x h same in cc) in
        let slot : in_slot (slice_get (slice_set slots h None) x) ≡ in_slot (slice_get slots x) = ap in_slot (get_set_other slots h x None ne) in
        omega (arith, slot, each x, no (h == x) refl)
      where
        no : (b : Bool) → (h == x) ≡ b → once (h == x) ≡ 0
        no true f = let same : h ≡ x = eqb-true h x f in let yes : (x == h) ≡ true = eq-eqb x h (sym same) in let bad : true ≡ false = sym yes ∙ e in cc
        no false f = ap once f

-- lists that count the same have the same free numbers
abbrev pub CountSame : List Segment → List Segment → Type 0
CountSame a b = (f : Segment → Bool) → tally f a ≡ tally f b

pub all_counted : (f : Segment → Bool) (xs : List Segment) → list_all (λ s. not (f s)) xs ≡ nat_eq (tally f xs) 0
all_counted f [] = refl
all_counted f (s ∷ xs) = go (f s) refl (all_counted f xs)
  where
    go : (b : Bool) → f s ≡ b → list_all (λ s. not (f s)) xs ≡ nat_eq (tally f xs) 0 → list_all (λ s. not (f s)) (s ∷ xs) ≡ nat_eq (tally f (s ∷ xs)) 0
    go true e rest = rw e (sym (positive (tally f xs)))
      where
        positive : (n : ℕ) → nat_eq (1 + n) 0 ≡ false
        positive n = search (arith)
    go false e rest = rw (e, zero-add (tally f xs)) rest

free_same : (a b : List Segment) (n : Number) → CountSame a b → is_free a n ≡ is_free b n
free_same a b n same =
    let f : Segment → Bool = λ s. same_number s.mbuf n || same_number s.buffer n in
    all_counted f a ∙ ap (λ x. nat_eq x 0) (same f) ∙ sym (all_counted f b)

below_same : (a b : List Segment) (pool n : ℕ) → CountSame a b → free_below a pool n ≡ free_below b pool n
below_same a b pool zero same = refl
below_same a b pool (suc i) same = rw (below_same a b pool i same, free_same a b (record { pool = pool; index = i }) same) refl

pub available_same : (pools : List PoolSpec) (a b : List Segment) (pool : ℕ) → CountSame a b → available pools a pool ≡ available pools b pool
available_same pools a b pool same = below_same a b pool (count_at pools pool) same

each_fresh : (pools : List PoolSpec) (a b : List Segment) (pool : ℕ) (ns : List Number) → CountSame a b → AllByRecursion (IsFresh pools a pool) ns →
    AllByRecursion (IsFresh pools b pool) ns
each_fresh pools a b pool [] same all = tt
each_fresh pools a b pool (n ∷ ns) same all = (
  record { of_pool = all.0.of_pool; exists = all.0.exists; free = sym (free_same a b n same) ∙ all.0.free },
  each_fresh pools a b pool ns same all.1,
)

pub fresh_same : (pools : List PoolSpec) (a b : List Segment) (pool need : ℕ) (ns : List Number) → CountSame a b → AreFresh pools a pool need ns →
    AreFresh pools b pool need ns
fresh_same pools a b pool need ns same fresh = record { count = fresh.count; distinct = fresh.distinct; each = each_fresh pools a b pool ns same fresh.each }

-- ---- between two runs

pub idle_handles : (slots : List (Option Packet)) (registers : List (Option ℕ)) → AllByRecursion (λ o. o ≡ None) (map (register_at slots) registers) →
    handles_held registers ≡ []
idle_handles slots [] all = refl
idle_handles slots (None ∷ registers) all = idle_handles slots registers all.1
idle_handles slots (Some h ∷ registers) all = let no : Some (packet_at slots h) ≡ None = all.0 in cc

tally_at : (f : Segment → Bool) (slots : List (Option Packet)) (xs ys : List ℕ) → tally f (segments_at slots (xs ++ ys))
    ≡ tally f (segments_at slots xs) + tally f (segments_at slots ys)
tally_at f slots [] ys = omega arith
tally_at f slots (h ∷ xs) ys =
    omega (
      arith,
      tally_at f slots xs ys,
      tally-append f (packet_at slots h) (segments_at slots xs),
      tally-append f (packet_at slots h) (segments_at slots (xs ++ ys)),
    )

listed : (slots : List (Option Packet)) (xs : List ℕ) → flat_map (λ k. k) (map (packet_at slots) xs) ≡ segments_at slots xs
listed slots [] = refl
listed slots (h ∷ xs) = ap (λ l. packet_at slots h ++ l) (listed slots xs)

-- the segments of all that waits in these lists
tally_in : (f : Segment → Bool) (slots : List (Option Packet)) (lists : List (List ℕ)) → tally f (segments_listed (packets_listed slots lists))
    ≡ tally f (segments_at slots (joined lists))
tally_in f slots [] = refl
tally_in f slots (xs ∷ lists) =
    let first : tally f (flat_map (λ k. k) (map (packet_at slots) xs)) ≡ tally f (segments_at slots xs) = ap (tally f) (listed slots xs) in
    omega (
      arith,
      first,
      tally_in f slots lists,
      tally_at f slots xs (joined lists),
      tally-append f (flat_map (λ k. k) (map (packet_at slots) xs)) (segments_listed (packets_listed slots lists)),
    )

-- in rings and transmit lists together
tally_waiting : (f : Segment → Bool) (slots : List (Option Packet)) (lists : Lists) →
    tally f (segments_listed (packets_listed slots lists.rings) ++ segments_listed (packets_listed slots lists.outboxes))
    ≡ tally f (segments_at slots (waiting lists))
tally_waiting f slots lists =
    omega (
      arith,
      tally_in f slots lists.rings,
      tally_in f slots lists.outboxes,
      tally_at f slots (joined lists.rings) (joined lists.outboxes),
      tally-append f (segments_listed (packets_listed slots lists.rings)) (segments_listed (packets_listed slots lists.outboxes)),
    )

-- what waits is all that there is
pub idle_counts : (slots : List (Option Packet)) (lists : Lists) → ((h : ℕ) → occurs h (waiting lists) ≡ in_slot (slice_get slots h)) →
    CountSame (segments_listed (packets_listed slots lists.rings) ++ segments_listed (packets_listed slots lists.outboxes)) (segments_held slots)
idle_counts slots lists each f = tally_waiting f slots lists ∙ spread f (waiting lists) slots each

-- ---- at any time

held_at : (slots : List (Option Packet)) (registers : List (Option ℕ)) → segments_held (map (register_at slots) registers)
    ≡ segments_at slots (handles_held registers)
held_at slots [] = refl
held_at slots (None ∷ registers) = held_at slots registers
held_at slots (Some h ∷ registers) = ap (λ l. packet_at slots h ++ l) (held_at slots registers)

-- the packets of registers and lists are all that there are
pub live_counts : (m : MachineParts) → OccurOnce m → CountSame (live (core_of m).state) (segments_of m.store)
live_counts m stand f =
    let slots = m.store.slots in
    let handles = handles_held m.registers in
    let held : tally f (segments_held (map (register_at slots) m.registers)) ≡ tally f (segments_at slots handles) = ap (tally f) (held_at slots m.registers) in
    omega (
      arith,
      held,
      spread f (handles ++ waiting m.lists) slots (λ h. occurs-append h handles (waiting m.lists) ∙ stand h),
      tally_waiting f slots m.lists,
      tally_at f slots handles (waiting m.lists),
      tally-append f (segments_held (map (register_at slots) m.registers)) (segments_listed (packets_listed slots m.lists.rings)
          ++ segments_listed (packets_listed slots m.lists.outboxes)),
    )

once_if : (b : Bool) → one_if b ≡ once b
once_if true = refl
once_if false = refl

refs_counted : (xs : List Segment) (n : Number) → refs xs n ≡ tally (λ s. same_number s.buffer n) xs
refs_counted [] n = refl
refs_counted (s ∷ xs) n = omega (arith, refs-cons s xs n, refs_counted xs n, once_if (same_number s.buffer n))

-- lists that count the same have the same references
pub refs_same : (a b : List Segment) (n : Number) → CountSame a b → refs a n ≡ refs b n
refs_same a b n same = refs_counted a n ∙ same (λ s. same_number s.buffer n) ∙ sym (refs_counted b n)

pub head_sole : (a b : List Segment) (k : Packet) → CountSame a b → IsHeadSole a k → IsHeadSole b k
head_sole a b [] same sole = tt
head_sole a b (s ∷ rest) same sole = sym (refs_same a b s.buffer same) ∙ sole

pub tail_sole : (a b : List Segment) (k : Packet) → CountSame a b → IsTailSole a k → IsTailSole b k
tail_sole a b [] same sole = tt
tail_sole a b (s ∷ []) same sole = sym (refs_same a b s.buffer same) ∙ sole
tail_sole a b (s ∷ t ∷ rest) same sole = tail_sole a b (t ∷ rest) same sole
