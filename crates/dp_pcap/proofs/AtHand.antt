-- Buffered bytes: the front of the bytes that are left.
use Rattle.std.proofs.Common.{◌≡◌, ℕ, ◌+◌, ◌≤◌, Bool, true, false, List, [], ◌++◌, Option, None, Some, if◌then◌else◌, arith, length, take, drop}
use Rattle.std.proofs.Common.{refl, sym, length-drop, length-take-le, take_all}
use Rattle.std.proofs.lemmas.List.{take-append-le, take-append-drop}
use Rattle.std.proofs.Math.Seq.{take-add}
use Rattle.std.specs.Prelude.{IfSome, Ok}
use Rattle.std.specs.Io.KnownBytes.{Consumes, prepend_known}
use Rattle.dp_pcap.specs.declared.source.Next.TheVariants.{Record}
use Rattle.dp_pcap.specs.declared.time.Time.{Time}
use Rattle.dp_pcap.specs.SourceState.{SourceState}
use Rattle.dp_pcap.specs.Capture.{PacketRecord, IsHead}
use Rattle.dp_pcap.specs.Source.{BeginsWith, WhereKnown, IsHeld, body_in, advanced, Continues}
use Rattle.dp_pcap.proofs.History.{HasRead-more}
use Rattle.dp_pcap.proofs.Known.{known}

-- of a buffer, and of none where the reader is broken
pub begins : (is_empty broken : Bool) (known : Option (List ℕ)) (held : List ℕ) →
    BeginsWith (if is_empty then None else prepend_known held known) (if broken then [] else held)
begins true broken known held = tt
begins false broken None held = tt
begins false true (Some ys) held = (held ++ ys, refl)
begins false false (Some ys) held = (ys, refl)

-- and what skipping n of them leaves
pub passes : (is_empty broken : Bool) (known new : Option (List ℕ)) (held : List ℕ) {n : ℕ} → n ≤ length (if broken then [] else held)
    → IfSome (if is_empty then None else prepend_known held known) (λ xs. IfSome (Some (length held)) (λ most. n ≤ most) → new ≡ Some (drop n xs))
    → Consumes (if is_empty then None else prepend_known held known) new (take n (if broken then [] else held))
passes true broken known new held fits drops = tt
passes false broken None new held fits drops = tt
passes false true (Some ys) new held {n = n} fits drops =
    let none : n ≡ 0 = omega arith in rw (drops (omega arith), none)
passes false false (Some ys) new held {n = n} fits drops =
    rw (drops fits, ← take-append-le n held ys fits) (sym (take-append-drop n (held ++ ys)))

-- skipping a buffered record
pub passed : (a b : Option (List ℕ)) (old new : SourceState) (held : List ℕ) (time : Time) (len : ℕ) → IsHeld old held time len →
    Consumes a b (take (16 + len) held) → new ≡ advanced old len
    → WhereKnown a b (λ left rest. Continues old new left rest (body_in held len) (Ok (Record time len)))
passed a b old new held time len h gone moved =
    let long : length (body_in held len) ≡ len = length-take-le len (drop 16 held) (omega (arith, h.whole, length-drop 16 held)) in
    let same : take len (body_in held len) ≡ body_in held len = take_all len (body_in held len) (omega (arith, long)) in
    let packet : PacketRecord = record { time = time; bytes = take len (body_in held len) } in
    let is : IsHead old.order old.unit packet (take 16 held) = rw same h.is_head in
    let whole : take (16 + len) held ≡ take 16 held ++ packet.bytes = rw same (take-add 16 len held) in
    known a b (take (16 + len) held) (λ left rest. Continues old new left rest (body_in held len) (Ok (Record time len))) gone (λ rest bytes records read.
    rw moved (HasRead-more bytes old records packet (take (16 + len) held ++ rest) rest len read (take 16 held, is, rw whole) h.given
    (rw same long)))
