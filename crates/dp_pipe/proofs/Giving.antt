-- What writers were given and what readers gave, piece by piece, with the calls for it.
use Rattle.std.proofs.Common.{◌≡◌, ℕ, ◌+◌, ◌≤◌, List, [], ◌∷◌, ◌++◌, length, map, take, Option, Some, None, refl, sym, ◌∙◌, ap, subst, arith, length-append}
use Rattle.std.proofs.Common.{take_all}
use Rattle.std.specs.Prelude.{slice_get, flat_map}
use Rattle.std.specs.Io.KnownBytes.{Appends}
use Rattle.std.proofs.lemmas.Option.{same_Some}
use Rattle.std.proofs.KnownBytes.{Appends-nil, Appends-trans}
use Rattle.dp_pcap.specs.declared.byte_order.Order.{Order}
use Rattle.dp_pcap.specs.declared.time.Time.{Time}
use Rattle.dp_pcap.specs.declared.time.Unit.{Unit as TimeUnit}
use Rattle.dp_pcap.specs.SourceState.{SourceState}
use Rattle.dp_pcap.specs.Source.{WhereKnown, HasRead}
use Rattle.dp_pcap.specs.Capture.{PacketRecord, AreRecords}
use Rattle.dp_pcap.specs.Text.{header_text, head_text, record_text, text}
use Rattle.dp_pcap.specs.Laws.Chaining.{length_head}
use Rattle.dp_model.specs.Machine.{World}
use Rattle.dp_model.specs.Runs.{records_at}
use Rattle.dp_engine.specs.Drains.{captured, Written, WrotePart, IsCalledFor}
use Rattle.dp_pipe.specs.Devices.{Device, IsGiven}
use Rattle.dp_engine.specs.declared.report.InputState.{InputState}
use Rattle.dp_engine.specs.declared.report.InputState.TheVariants.{Open, Whole, Cut}
use Rattle.dp_pipe.specs.Forwarding.{Input, InputGives, HasReadSo, IsRead, IsReadBy, PullsUpTo, DrainedPart, last_pulls, records_text}

-- ---- lengths of texts

pub length_header : (unit : TimeUnit) → length (header_text unit) ≡ 24
unfolding header_text
length_header unit = refl

length_record : (unit : TimeUnit) (r : PacketRecord) → length (record_text unit r) ≡ 16 + length r.bytes
length_record unit r = omega (arith, length-append (head_text unit r.time (length r.bytes)) r.bytes, length_head unit r.time (length r.bytes))

-- a capture with one record more is longer by that record
length_records : (unit : TimeUnit) (xs : List PacketRecord) (r : PacketRecord) → length (records_text unit (xs ++ r ∷ []))
    ≡ length (records_text unit xs) + (16 + length r.bytes)
length_records unit [] r = omega (arith, length-append (record_text unit r) [], length_record unit r)
length_records unit (x ∷ xs) r = omega (
  arith,
  length-append (record_text unit x) (records_text unit (xs ++ r ∷ [])),
  length-append (record_text unit x) (records_text unit xs),
  length_records unit xs r,
)

pub length_more : (unit : TimeUnit) (xs : List PacketRecord) (r : PacketRecord) → length (text unit (xs ++ r ∷ []))
    ≡ length (text unit xs) + (16 + length r.bytes)
length_more unit xs r = omega (
  arith,
  length-append (header_text unit) (records_text unit (xs ++ r ∷ [])),
  length-append (header_text unit) (records_text unit xs),
  length_records unit xs r,
)

-- a header alone
pub length_none : (unit : TimeUnit) → length (text unit []) ≡ 24
length_none unit = omega (arith, length-append (header_text unit) [], length_header unit)

-- records are as long as their text, in any unit
length_body : (order : Order) (unit to : TimeUnit) (records : List PacketRecord) (body : List ℕ) → AreRecords order unit records body
    → length body ≡ length (records_text to records)
length_body order unit to [] body are = ap length are
length_body order unit to (x ∷ records) body (head, more, is, split, are) =
    let size : length head ≡ 16 = is.size in
    omega (
      arith,
      size,
      ap length split,
      length-append (head ++ x.bytes) more,
      length-append head x.bytes,
      length_body order unit to records more are,
      length-append (record_text to x) (records_text to records),
      length_record to x,
    )

-- and so is all that was read
length_read : (s : SourceState) (to : TimeUnit) (records : List PacketRecord) (bytes rest : List ℕ) (h : HasRead bytes s records rest)
    → length (h.header ++ h.body) ≡ length (text to records)
length_read s to records bytes rest h =
    let size : length h.header ≡ 24 = h.is_header.size in
    omega (
      arith,
      size,
      length-append h.header h.body,
      length_body s.order s.unit to records h.body h.are_records,
      length-append (header_text to) (records_text to records),
      length_header to,
    )

-- ---- writers

pub given_nothing : (d : Device) → IsGiven d d []
given_nothing d = record { grown = Appends-nil d.bytes; calls = omega arith }

pub given_then : (a b c : Device) (bs cs : List ℕ) → IsGiven a b bs → IsGiven b c cs → IsGiven a c (bs ++ cs)
given_then a b c bs cs first next = record {
  grown = Appends-trans a.bytes b.bytes c.bytes bs cs first.grown next.grown;
  calls = omega (arith, first.calls, next.calls, length-append bs cs);
}

-- a drain that wrote all its records
pub drained_whole : (unit : TimeUnit) (time : Time) (port : ℕ) (w : World) (old new : Device) (sent : ℕ) (records : List (Time × List ℕ))
    → slice_get (records_at time w) port ≡ Some records → sent ≡ length (map captured records)
    → Appends old.bytes new.bytes (flat_map (record_text unit) (map captured records))
    → Written unit time port w (λ rs. IsCalledFor old.calls new.calls unit (take (sent + 1) rs))
    → IsGiven old new (flat_map (record_text unit) (map captured records))
drained_whole unit time port w old new sent records at count wrote (others, at', called) =
    let same : others ≡ records = same_Some _ _ (sym at' ∙ at) in
    let all : take (sent + 1) (map captured others) ≡ map captured records =
    ap (λ rs. take (sent + 1) (map captured rs)) same ∙ take_all (sent + 1) (map captured records) (omega (arith, count)) in
    record { grown = wrote; calls = subst (λ rs. new.calls ≤ old.calls + length (flat_map (record_text unit) rs)) all called }

-- a drain that failed
pub drained_part : (unit : TimeUnit) (time : Time) (port : ℕ) (w : World) (old new : Device) (sent : ℕ) (records : List (Time × List ℕ))
    → slice_get (records_at time w) port ≡ Some records → WrotePart old.bytes new.bytes unit (map captured records) sent
    → Written unit time port w (λ rs. IsCalledFor old.calls new.calls unit (take (sent + 1) rs))
    → DrainedPart unit (map captured records) sent old new
drained_part unit time port w old new sent records at wrote (others, at', called) =
    let same : others ≡ records = same_Some _ _ (sym at' ∙ at) in
    record { part = wrote; calls = subst (λ rs. new.calls ≤ old.calls + length (records_text unit (take (sent + 1) (map captured rs)))) same called }

-- ---- readers

pub known_map : (a b : Option (List ℕ)) (P Q : List ℕ → List ℕ → Type 0) → ((left rest : List ℕ) → P left rest → Q left rest) → WhereKnown a b P
    → WhereKnown a b Q
known_map None b P Q f h = tt
known_map (Some x) None P Q f h = absurd h
known_map (Some x) (Some y) P Q f h = f x y h

gives_of : (state : InputState) (s : SourceState) (unit : TimeUnit) (records : List PacketRecord) (bytes rest : List ℕ) → s.unit ≡ unit →
    HasReadSo state s records bytes rest → InputGives state unit records bytes rest
gives_of Open s unit records bytes rest same has = (s, has, same)
gives_of Whole s unit records bytes rest same has = rw (← same) has
gives_of (Cut byte) s unit records bytes rest same has = rw (← same) has

-- what a source has read of an input
pub read_as : (i : Input) (s : SourceState) (a b : Device) → s.unit ≡ i.unit → IsReadBy i s a b → IsRead i a b
read_as i s a b same by = record {
  gives = known_map a.bytes b.bytes _ _ (λ bytes rest has. gives_of i.state s i.unit i.records bytes rest same has) by.has;
  calls = by.calls;
  pulls = by.pulls;
}

-- an open input took at most one call for each byte that came
pulls_open : (state : InputState) (s : SourceState) (unit : TimeUnit) (records : List PacketRecord) (bytes rest : List ℕ) (old new : ℕ) → state ≡ Open
    → HasReadSo state s records bytes rest → new ≤ old + length (text unit records) + last_pulls state → PullsUpTo state old new bytes rest
pulls_open Open s unit records bytes rest old new is h few =
    let most : new ≤ old + length (text unit records) + 0 = few in
    let all : new ≤ old + (length (h.header ++ h.body) + 0) = omega (arith, most, length_read s unit records bytes rest h) in
    (h.header ++ h.body, h.whole, all)
pulls_open Whole s unit records bytes rest old new is h few = cc
pulls_open (Cut byte) s unit records bytes rest old new is h few = cc

pub read_open : (i : Input) (s : SourceState) (a b : Device) → i.state ≡ Open → WhereKnown a.bytes b.bytes (HasReadSo i.state s i.records)
    → b.calls ≤ a.calls + length (text i.unit i.records) + last_pulls i.state → IsReadBy i s a b
read_open i s a b is has calls = record {
  has = has;
  calls = calls;
  pulls = known_map a.bytes b.bytes _ _ (λ bytes rest h. pulls_open i.state s i.unit i.records bytes rest a.calls b.calls is h calls) has;
}
