-- What is written, piece by piece.
use Rattle.std.proofs.Common.{◌≡◌, ℕ, zero, suc, ◌+◌, ◌<◌, ◌≤◌, Bool, true, false, List, [], ◌∷◌, ◌++◌, length, take, drop, map, Option, Some, refl, sym, ◌∙◌}
use Rattle.std.proofs.Common.{ap, subst, arith, append_assoc, append-nil, length-append, add-one}
use Rattle.std.specs.Prelude.{slice_get, Result, Ok, Err, is_err, OnOk, OnErr}
use Rattle.std.specs.List.{flat_map}
use Rattle.std.specs.Io.KnownBytes.{Appends}
use Rattle.std.proofs.KnownBytes.{Appends-trans}
use Rattle.std.proofs.lemmas.List.{take-append-le, length-map, take_all}
use Rattle.std.proofs.lemmas.List.Concat.{flat_map-append}
use Rattle.std.proofs.lemmas.List.Folds.{flat_map-map}
use Rattle.std.proofs.lemmas.Option.{same_Some}
use Rattle.dp_pcap.specs.declared.time.Time.{Time}
use Rattle.dp_pcap.specs.declared.time.Unit.{Unit as TimeUnit}
use Rattle.dp_pcap.specs.Capture as capture
use Rattle.dp_pcap.specs.Text.{record_text, AppendsPart}
use Rattle.dp_pcap.specs.Laws.Chaining.{AppendsPart-after}
use Rattle.dp_model.specs.Buffers.{Buffers}
use Rattle.dp_model.specs.Packets.{Packet, packet_bytes}
use Rattle.dp_model.specs.Machine.{World}
use Rattle.dp_model.specs.Runs.{drained}
use Rattle.dp_model.specs.Laws.Lists.{map_get, take_more}
use Rattle.dp_engine.specs.Queues.{ring_at}
use Rattle.dp_engine.specs.declared.machine.Machine.TheInside.{Inside}
use Rattle.dp_engine.specs.MachineParts.{parts_of, core_of, OccurOnce}
use Rattle.dp_engine.specs.Handles.{held_of, packet_at, in_slot, occurs, joined, packets_listed, Core, lists_of}
use Rattle.dp_engine.specs.Handles.{without_entries, entries_of}
use Rattle.dp_engine.proofs.RingLemmas.{entries_at, frames_length}
use Rattle.dp_engine.proofs.Machines.{list_of}
use Rattle.dp_engine.specs.Drains.{record_of, captured, WrotePart, Written}
use Rattle.dp_engine.proofs.Handles.{in_slot_some, is_one, occurs-append, waits}
use Rattle.dp_engine.specs.Laws.{get_map}

-- ---- lists, element by element

-- the pieces before one, it, and those after it
pieces : {A : Type 0} (f : A → List ℕ) (xs : List A) (i : ℕ) (x : A) → slice_get xs i ≡ Some x
    → flat_map f xs ≡ (flat_map f (take i xs) ++ f x) ++ flat_map f (drop (suc i) xs)
pieces f [] i x e = cc
pieces f (y ∷ xs) zero x e = ap (λ z. f z ++ flat_map f xs) (same_Some y x e)
pieces f (y ∷ xs) (suc i) x e =
    ap (λ l. f y ++ l) (pieces f xs i x e) ∙ sym (append_assoc (f y) (flat_map f (take i xs) ++ f x) (flat_map f (drop (suc i) xs)))
    ∙ ap (λ l. l ++ flat_map f (drop (suc i) xs)) (sym (append_assoc (f y) (flat_map f (take i xs)) (f x)))

-- ---- one piece more

pub piece_more : {A : Type 0} (head : List ℕ) (f : A → List ℕ) (xs : List A) (i : ℕ) (x : A) → slice_get xs i ≡ Some x
    → (head ++ flat_map f (take i xs)) ++ f x ≡ head ++ flat_map f (take (i + 1) xs)
piece_more head f xs i x here =
    append_assoc head (flat_map f (take i xs)) (f x) ∙ ap (λ l. head ++ l) (ap (λ l. flat_map f (take i xs) ++ l) (sym (append-nil (f x)))
    ∙ sym (flat_map-append f (take i xs) (x ∷ [])) ∙ ap (flat_map f) (sym (take_more xs i x here))) ∙ ap (λ n. head ++ flat_map f (take n xs)) (sym (add-one i))

pub appends_piece : {A : Type 0} (a b d : Option (List ℕ)) (head : List ℕ) (f : A → List ℕ) (xs : List A) (i : ℕ) (x : A) (bytes : List ℕ)
    → slice_get xs i ≡ Some x → bytes ≡ f x → Appends a b (head ++ flat_map f (take i xs)) → Appends b d bytes
    → Appends a d (head ++ flat_map f (take (i + 1) xs))
appends_piece a b d head f xs i x bytes here is before now =
    subst (Appends a d) (piece_more head f xs i x here) (Appends-trans a b d (head ++ flat_map f (take i xs)) (f x) before (subst (Appends b d) is now))

-- a part of a front is a part of the whole
pub part_before : (a b : Option (List ℕ)) (xs ys : List ℕ) → AppendsPart a b xs → AppendsPart a b (xs ++ ys)
part_before a b xs ys (n, less, appends) = (n, omega (arith, less, length-append xs ys), rw (take-append-le n xs ys (omega (arith, less))) appends)

-- a piece was written in part
pub part_piece : {A : Type 0} (a b d : Option (List ℕ)) (head : List ℕ) (f : A → List ℕ) (xs : List A) (i : ℕ) (x : A) (bytes : List ℕ)
    → slice_get xs i ≡ Some x → bytes ≡ f x → Appends a b (head ++ flat_map f (take i xs)) → AppendsPart b d bytes → AppendsPart a d (head ++ flat_map f xs)
part_piece a b d head f xs i x bytes here is before now =
    let e : ((head ++ flat_map f (take i xs)) ++ f x) ++ flat_map f (drop (suc i) xs) ≡ head ++ flat_map f xs =
    ap (λ l. l ++ flat_map f (drop (suc i) xs)) (append_assoc head (flat_map f (take i xs)) (f x)) ∙ append_assoc head (flat_map f (take i xs) ++ f x)
    (flat_map f (drop (suc i) xs)) ∙ ap (λ l. head ++ l) (sym (pieces f xs i x here)) in
    subst (AppendsPart a d) e (part_before a d _ (flat_map f (drop (suc i) xs))
    (AppendsPart-after a b d (head ++ flat_map f (take i xs)) (f x) before (subst (AppendsPart b d) is now)))

-- a device that took a piece is sound after it, if it was before
pub sound_after : {W : Type 0} (is_broken : W → Bool) (w w' : W) (bytes : List ℕ) → is_broken w ≡ false → (0 < length bytes → is_broken w' ≡ false)
    → (length bytes ≡ 0 → w' ≡ w) → is_broken w' ≡ false
sound_after is_broken w w' [] sound some none = ap is_broken (none refl) ∙ sound
sound_after is_broken w w' (x ∷ bytes) sound some none = some (omega arith)

-- ---- the packets of a transmit list

in_list : (xs : List ℕ) (i x : ℕ) → slice_get xs i ≡ Some x → 1 ≤ occurs x xs
in_list [] i x e = cc
in_list (y ∷ xs) zero x e = omega (arith, is_one y x (same_Some y x e))
in_list (y ∷ xs) (suc i) x e = let more = in_list xs i x e in omega (arith, more)

in_lists : (lists : List (List ℕ)) (j x : ℕ) (xs : List ℕ) → slice_get lists j ≡ Some xs → 1 ≤ occurs x xs → 1 ≤ occurs x (joined lists)
in_lists [] j x xs e one = cc
in_lists (ys ∷ lists) zero x xs e one =
    let same : occurs x ys ≡ occurs x xs = ap (occurs x) (same_Some ys xs e) in
    omega (arith, one, same, occurs-append x ys (joined lists))
in_lists (ys ∷ lists) (suc j) x xs e one =
    let more = in_lists lists j x xs e one in omega (arith, more, occurs-append x ys (joined lists))

-- a slot that is filled has the packet of its handle
slot_of : (slots : List (Option Packet)) (h : ℕ) (k : Packet) → 1 ≤ in_slot (slice_get slots h) → packet_at slots h ≡ k → slice_get slots h ≡ Some (Some k)
slot_of slots h k one named =
    let (k', has) = in_slot_some (slice_get slots h) one in has ∙ ap (λ k. Some (Some k)) (sym (ap held_of has) ∙ named)

-- a packet in a transmit list has a handle at its index
pub waits_at : (m : Inside) (core : Core) (port i : ℕ) (packets : List Packet) (k : Packet) → core_of (parts_of m) ≡ core → OccurOnce (parts_of m)
    → port < length core.frames.outboxes → slice_get core.state.world.outboxes port ≡ Some packets → slice_get packets i ≡ Some k
    → (h : ℕ) × (slice_get (ring_at m.queues.outboxes port).entries i ≡ Some h) × (slice_get m.mbufs.store.slots h ≡ Some (Some k))
waits_at m core port i packets k is stand lt box here =
    let slots = m.mbufs.store.slots in
    let long : length (map without_entries m.queues.outboxes) ≡ length core.frames.outboxes = ap (λ (c : Core). length c.frames.outboxes) is in
    let there = entries_at m.queues.outboxes port (omega (arith, lt, long, frames_length m.queues.outboxes)) in
    let listed : slice_get (packets_listed slots (map entries_of m.queues.outboxes)) port ≡ Some packets =
    ap (λ (c : Core). slice_get c.state.world.outboxes port) is ∙ box in
    let same = list_of slots (map entries_of m.queues.outboxes) port (ring_at m.queues.outboxes port).entries packets there listed in
    let (h, at, named) = get_map (packet_at slots) (ring_at m.queues.outboxes port).entries i k (ap (λ l. slice_get l i) same ∙ here) in
    let xs = (ring_at m.queues.outboxes port).entries in
    let one = in_lists (map entries_of m.queues.outboxes) port h xs there (in_list xs i h at) in
    (h, at, slot_of slots h k (omega (arith, stand h, one, waits h (lists_of m.queues.rings m.queues.outboxes))) named)

-- ---- records

-- the record of a packet
abbrev pub packet_record : Time → Buffers → Packet → capture.PacketRecord
packet_record time buffers k = record { time = time; bytes = packet_bytes buffers k }

timed : (time : Time) (buffers : Buffers) (packets : List Packet)
    → map captured (map (λ bytes. (time, bytes)) (drained buffers packets)) ≡ map (packet_record time buffers) packets
timed time buffers [] = refl
timed time buffers (k ∷ packets) = ap (λ l. packet_record time buffers k ∷ l) (timed time buffers packets)

pub map_take : {A B : Type 0} (f : A → B) (n : ℕ) (xs : List A) → take n (map f xs) ≡ map f (take n xs)
map_take f zero xs = refl
map_take f (suc n) [] = refl
map_take f (suc n) (x ∷ xs) = ap (λ l. f x ∷ l) (map_take f n xs)

-- the texts of the first k packets' records
pub taken_records : (unit : TimeUnit) (time : Time) (buffers : Buffers) (packets : List Packet) (m n : ℕ) → m ≡ n
    → flat_map (record_of unit time buffers) (take n packets) ≡ flat_map (record_text unit) (take m (map (packet_record time buffers) packets))
taken_records unit time buffers packets m n is =
    let g = packet_record time buffers in
    sym (flat_map-map (record_text unit) g (take n packets)) ∙ ap (flat_map (record_text unit)) (sym (map_take g n packets))
    ∙ ap (λ m. flat_map (record_text unit) (take m (map g packets))) (sym is)

-- what the drain of a port writes is the records of its packets
pub written_of : (unit : TimeUnit) (time : Time) (port : ℕ) (w : World) (packets : List Packet) (P : List capture.PacketRecord → Type 0)
    → slice_get w.outboxes port ≡ Some packets → P (map (packet_record time w.buffers) packets) → Written unit time port w P
written_of unit time port w packets P box p = (
  map (λ bytes. (time, bytes)) (drained w.buffers packets),
  map_get (λ packets. map (λ bytes. (time, bytes)) (drained w.buffers packets)) w.outboxes port packets box,
  subst P (sym (timed time w.buffers packets)) p,
)

pub all_written : (unit : TimeUnit) (time : Time) (port : ℕ) (w : World) (a b : Option (List ℕ)) (sent n : ℕ) (packets : List Packet)
    → slice_get w.outboxes port ≡ Some packets → sent ≡ n → length packets ≤ n → n ≤ length packets
    → Appends a b (flat_map (record_of unit time w.buffers) (take n packets))
    → Written unit time port w (λ records. (sent ≡ length records) × Appends a b (flat_map (record_text unit) records))
all_written unit time port w a b sent n packets box is least most wrote =
    let g = packet_record time w.buffers in
    let P : List capture.PacketRecord → Type 0 = λ records. (sent ≡ length records) × Appends a b (flat_map (record_text unit) records) in
    let all : flat_map (record_of unit time w.buffers) (take n packets) ≡ flat_map (record_text unit) (map g packets) =
    ap (flat_map (record_of unit time w.buffers)) (take_all n packets least) ∙ sym (flat_map-map (record_text unit) g packets) in
    written_of unit time port w packets P box (omega (arith, is, least, most, length-map packets g), subst (Appends a b) all wrote)

-- the records before one, and a part of its bytes
pub part_written : (unit : TimeUnit) (time : Time) (port : ℕ) (w : World) (a b d : Option (List ℕ)) (sent n : ℕ) (packets : List Packet) (k : Packet)
    → slice_get w.outboxes port ≡ Some packets → sent ≡ n → slice_get packets n ≡ Some k
    → Appends a b (flat_map (record_of unit time w.buffers) (take n packets)) → AppendsPart b d (record_of unit time w.buffers k)
    → Written unit time port w (λ records. WrotePart a d unit records sent)
part_written unit time port w a b d sent n packets k box is here wrote (bytes, less, part) =
    let g = packet_record time w.buffers in
    let same : flat_map (record_of unit time w.buffers) (take n packets) ≡ flat_map (record_text unit) (take sent (map g packets)) =
    taken_records unit time w.buffers packets sent n is in
    let P : List capture.PacketRecord → Type 0 = λ records. WrotePart a d unit records sent in
    written_of unit time port w packets P box (record {
      next = g k;
      next_is = ap (slice_get (map g packets)) is ∙ map_get g packets n k here;
      bytes = bytes;
      part = less;
      wrote = Appends-trans a b d _ _ (subst (Appends a b) same wrote) part;
    })

pub on_err_at : {T E P : Type 0} (r : Result T E) → true ≡ is_err r → OnErr r P → P
on_err_at (Err x) e h = h
on_err_at (Ok x) e h = cc

pub on_ok_at : {T E P : Type 0} (r : Result T E) → false ≡ is_err r → OnOk r P → P
on_ok_at (Ok x) e h = h
on_ok_at (Err x) e h = cc

pub on_err_of : {T E P : Type 0} (r : Result T E) → P → OnErr r P
on_err_of (Ok x) p = tt
on_err_of (Err x) p = p
