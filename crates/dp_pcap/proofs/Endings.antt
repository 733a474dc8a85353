-- Endings of a capture, in numbers: at most one fits.
use Rattle.std.proofs.Common.{◌≡◌, ◌≢◌, ℕ, ◌+◌, ◌<◌, ◌≤◌, List, [], ◌∷◌, ◌++◌, length, take, drop, refl, sym, ap, ◌∙◌, inl, inr, arith, length-append}
use Rattle.std.proofs.Math.Seq.{take-append_seam, drop-append_seam}
use Rattle.dp_pcap.specs.declared.byte_order.Order.{Order}
use Rattle.dp_pcap.specs.declared.time.Unit.{Unit as TimeUnit}
use Rattle.dp_pcap.specs.declared.error.PcapError.TheVariants.{BadTime, TooLong, TooMany}
use Rattle.dp_pcap.specs.Capture.{PacketRecord, number, per_second, captured, IsHead, HasHead, Ending, Stops}
use Rattle.dp_pcap.specs.Capture.Ending.{Whole, Cut, Refused}

pub split_same : (a b c d : List ℕ) → length a ≡ length c → a ++ b ≡ c ++ d → (a ≡ c) × (b ≡ d)
split_same a b c d same e = (
  sym (take-append_seam a b) ∙ rw (same, e) (take-append_seam c d),
  sym (drop-append_seam a b) ∙ rw (same, e) (drop-append_seam c d),
)

front_is : (bytes head rest : List ℕ) → HasHead bytes head rest → take 16 bytes ≡ head
front_is bytes head rest h = rw (h.split, ← h.size) (take-append_seam head rest)

length_is : (bytes head rest : List ℕ) → HasHead bytes head rest → length bytes ≡ 16 + length rest
length_is bytes head rest h = rw (h.split, length-append) (omega (arith, h.size))

some : (xs : List ℕ) → xs ≢ [] → 0 < length xs
some [] h = absurd (h refl)
some (x ∷ xs) h = omega arith

-- where an ending is, how many records there were before it, the length of the rest, and what its first 16 bytes say
pub record Numbers : Type 0 where
  pub offset : ℕ
  pub given : ℕ
  pub long : ℕ
  pub fraction : ℕ
  pub len : ℕ
  pub second : ℕ

abbrev pub numbers_in : Order → TimeUnit → ℕ → ℕ → List ℕ → Numbers
numbers_in o u offset given bytes = record {
  offset = offset;
  given = given;
  long = length bytes;
  fraction = number o 4 (drop 4 (take 16 bytes));
  len = captured o (take 16 bytes);
  second = per_second u;
}

-- an ending in these numbers
pub Facts : Numbers → Ending → Type 0
Facts n Whole = n.long ≡ 0
Facts n (Cut byte) =
    (byte ≡ n.offset) × (n.given < 16777216) × (0 < n.long) × (16 ≤ n.long → n.fraction < n.second) × (16 ≤ n.long → n.len ≤ 262144)
    × (16 ≤ n.long → n.long < 16 + n.len)
Facts n (Refused TooMany) = (n.given ≡ 16777216) × (0 < n.long)
Facts n (Refused BadTime) = (n.given < 16777216) × (16 ≤ n.long) × (n.second ≤ n.fraction)
Facts n (Refused TooLong) = (n.given < 16777216) × (16 ≤ n.long) × (n.fraction < n.second) × (262144 < n.len)
Facts n (Refused error) = ⊥

pub facts : (o : Order) (u : TimeUnit) (offset given : ℕ) (bytes : List ℕ) (e : Ending) → Stops o u offset given bytes e →
    Facts (numbers_in o u offset given bytes) e
unfolding Facts
facts o u offset given bytes Whole s = ap length s
facts o u offset given bytes (Cut byte) (at, few, any, short) =
    elim short [
      | inl less ↦ (at, few, some bytes any, λ h. absurd (omega arith), λ h. absurd (omega arith), λ h. absurd (omega arith))
      | inr (head, rest, is, time, len, ends) ↦
          let front = front_is bytes head rest is in
          let long = length_is bytes head rest is in
          (at, few, some bytes any, λ _. rw front time, λ _. rw front len, λ _. rw (front, long) (omega (arith, ends)))
    ]
facts o u offset given bytes (Refused TooMany) (full, any) = (full, some bytes any)
facts o u offset given bytes (Refused BadTime) (few, head, rest, is, bad) =
    let front = front_is bytes head rest is in
    let long = length_is bytes head rest is in
    (few, omega arith, rw front bad)
facts o u offset given bytes (Refused TooLong) (few, head, rest, is, (early, more)) =
    let front = front_is bytes head rest is in
    let long = length_is bytes head rest is in
    (few, omega arith, rw front early, rw front more)
facts o u offset given bytes (Refused _) s = let (_, _, _, _, bad) = s in absurd bad

pub one_ending : (n : Numbers) (e e' : Ending) → Facts n e → Facts n e' → e ≡ e'
unfolding Facts
one_ending n e e' x y = grind arith

-- where a record is taken, there is no ending
no_ending : (n : Numbers) (e : Ending) → Facts n e → n.given < 16777216 → 16 + n.len ≤ n.long → n.fraction < n.second → n.len ≤ 262144 → ⊥
unfolding Facts
no_ending n e x few room time most = grind arith

pub taken : (o : Order) (u : TimeUnit) (offset given : ℕ) (bytes head more : List ℕ) (packet : PacketRecord) (e : Ending) → IsHead o u packet head →
    bytes ≡ head ++ (packet.bytes ++ more)
    → given < 16777216 → Stops o u offset given bytes e → ⊥
taken o u offset given bytes head more packet e is split few stops =
    let has : HasHead bytes head (packet.bytes ++ more) = record { size = is.size; split = split } in
    let front = front_is bytes head (packet.bytes ++ more) has in
    let long = length_is bytes head (packet.bytes ++ more) has in
    no_ending _ e (facts o u offset given bytes e stops) few
    (rw front (omega (arith, long, is.len, length-append packet.bytes more))) (rw front is.has_time) (rw front (omega (arith, is.len, is.within)))
