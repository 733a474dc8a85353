-- How often a writer is called.
use Rattle.std.proofs.Common.{◌≡◌, ℕ, zero, suc, ◌+◌, ◌≤◌, List, [], ◌∷◌, ◌++◌, length, take, Some, refl, ap, subst, arith, length-append, add-one}
use Rattle.std.specs.Prelude.{slice_get}
use Rattle.std.specs.List.{flat_map}
use Rattle.dp_pcap.specs.declared.time.Time.{Time}
use Rattle.dp_pcap.specs.declared.time.Unit.{Unit as TimeUnit}
use Rattle.dp_pcap.specs.Capture.{PacketRecord}
use Rattle.dp_pcap.specs.Text.{head_text}
use Rattle.dp_pcap.specs.Laws.Chaining.{length_head}
use Rattle.dp_model.specs.Packets.{Packet}
use Rattle.dp_model.specs.Machine.{World}
use Rattle.dp_engine.specs.Drains.{record_of, Written, IsCalledFor}
use Rattle.dp_engine.proofs.Writing.{piece_more, taken_records, written_of}

-- the 16 bytes before the record's alone
pub called_head : (a d : ℕ) (unit : TimeUnit) (time : Time) (len : ℕ) (rest : List ℕ) → d ≤ a + 16 → d ≤ a + length (head_text unit time len ++ rest)
called_head a d unit time len rest le = omega (arith, le, length_head unit time len, length-append (head_text unit time len) rest)

-- one piece more, with at most one call for each byte
pub called_piece : {A : Type 0} (a b d : ℕ) (head : List ℕ) (f : A → List ℕ) (xs : List A) (i : ℕ) (x : A) (bytes : List ℕ) → slice_get xs i ≡ Some x
    → bytes ≡ f x → b ≤ a + length (head ++ flat_map f (take i xs)) → d ≤ b + length bytes → d ≤ a + length (head ++ flat_map f (take (i + 1) xs))
called_piece a b d head f xs i x bytes here is before now =
    let long : length ((head ++ flat_map f (take i xs)) ++ f x) ≡ length (head ++ flat_map f (take (i + 1) xs)) = ap length (piece_more head f xs i x here) in
    omega (arith, before, now, ap length is, long, length-append (head ++ flat_map f (take i xs)) (f x))

front_less : {A : Type 0} (f : A → List ℕ) (xs : List A) (i : ℕ) → length (flat_map f (take i xs)) ≤ length (flat_map f xs)
front_less f [] zero = omega arith
front_less f [] (suc i) = omega arith
front_less f (x ∷ xs) zero = omega arith
front_less f (x ∷ xs) (suc i) = let more = front_less f xs i in omega (
  arith,
  more,
  length-append (f x) (flat_map f (take i xs)),
  length-append (f x) (flat_map f xs),
)

front_twice : {A : Type 0} (xs : List A) (i : ℕ) → take i (take (suc i) xs) ≡ take i xs
front_twice xs zero = refl
front_twice [] (suc i) = refl
front_twice (x ∷ xs) (suc i) = ap (λ l. x ∷ l) (front_twice xs i)

pub called_more : {A : Type 0} (a d : ℕ) (f : A → List ℕ) (xs : List A) (i : ℕ) → d ≤ a + length (flat_map f (take i xs))
    → d ≤ a + length (flat_map f (take (i + 1) xs))
called_more a d f xs i le =
    rw add-one (omega (arith, le, front_less f (take (suc i) xs) i, ap (λ l. length (flat_map f l)) (front_twice xs i)))

-- no more than for all pieces
pub called_front : {A : Type 0} (a d : ℕ) (head : List ℕ) (f : A → List ℕ) (xs : List A) (i : ℕ) → d ≤ a + length (head ++ flat_map f (take i xs))
    → d ≤ a + length (head ++ flat_map f xs)
called_front a d head f xs i le =
    omega (arith, le, front_less f xs i, length-append head (flat_map f (take i xs)), length-append head (flat_map f xs))

-- the records of a transmit list up to one
pub called_written : (unit : TimeUnit) (time : Time) (port : ℕ) (w : World) (packets : List Packet) (a d n : ℕ) → slice_get w.outboxes port ≡ Some packets
    → d ≤ a + length (flat_map (record_of unit time w.buffers) (take n packets)) → Written unit time port w (λ records. IsCalledFor a d unit (take n records))
called_written unit time port w packets a d n box le =
    let P : List PacketRecord → Type 0 = λ records. IsCalledFor a d unit (take n records) in
    written_of unit time port w packets P box (subst (λ l. d ≤ a + length l) (taken_records unit time w.buffers packets n n refl) le)
