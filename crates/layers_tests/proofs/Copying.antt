-- What holds while a capture is copied.
use Rattle.std.proofs.Common.{◌≡◌, ℕ, List, [], ◌∷◌, ◌++◌, take, Option, None, Some, true, sym, ap, ◌∙◌, append-nil, inr}
use Rattle.std.specs.Prelude.{Ok, Err, ⊤}
use Rattle.std.proofs.KnownBytes.{Appends-trans}
use Rattle.std.specs.Io.KnownBytes.{Appends}
use Rattle.dp_pcap.specs.declared.time.Time.{Time}
use Rattle.dp_pcap.specs.declared.time.Unit.{Unit as TimeUnit}
use Rattle.dp_pcap.specs.declared.error.PcapError.{PcapError}
use Rattle.dp_pcap.specs.declared.error.PcapError.TheVariants.{BadMagic, BadVersion, BadLink, BadTime, TooLong, ShortHeader, TooMany, Read, Write}
use Rattle.dp_pcap.specs.declared.source.Next.TheVariants.{Record}
use Rattle.dp_pcap.specs.Capture.{PacketRecord}
use Rattle.dp_pcap.specs.SourceState.{SourceState}
use Rattle.dp_pcap.specs.Source.{WhereKnown, HasRead, Continues, IsInRange, advanced}
use Rattle.dp_pcap.specs.Text.{header_text, record_text, text, AppendsPart}
use Rattle.dp_pcap.specs.Laws.Chaining.{AppendsPart-after, text-push, WhereKnown-trans}
use Rattle.layers_tests.specs.Copied.{Copied}

-- these records were read and written so far
pub record Going (a b c d : Option (List ℕ)) (source : SourceState) (unit : TimeUnit) : Type 0 where
  pub records : List PacketRecord
  pub is_open : source.is_open ≡ true
  pub same_unit : source.unit ≡ unit
  pub read : WhereKnown a b (λ bytes left. HasRead bytes source records left)
  pub wrote : Appends c d (text unit records)

-- one more record was read
read_on : (a b b' : Option (List ℕ)) (old new : SourceState) (records : List PacketRecord) (buf : List ℕ) (time : Time) (len : ℕ)
    → WhereKnown a b (λ bytes left. HasRead bytes old records left) → WhereKnown b b' (λ left rest. Continues old new left rest buf (Ok (Record time len)))
    → WhereKnown a b' (λ bytes left. HasRead bytes new (records ++ record { time = time; bytes = take len buf } ∷ []) left)
read_on a b b' old new records buf time len read more =
    WhereKnown-trans a b b' _ _ _ read more (λ x y z had goes. goes x records had)

-- and written
pub went_on : (a b b' c d d' : Option (List ℕ)) (old new : SourceState) (unit : TimeUnit) (buf : List ℕ) (time : Time) (len : ℕ)
    → Going a b c d old unit → WhereKnown b b' (λ left rest. Continues old new left rest buf (Ok (Record time len))) → new ≡ advanced old len
    → Appends d d' (record_text unit (record { time = time; bytes = take len buf })) → Going a b' c d' new unit
went_on a b b' c d d' old new unit buf time len going more moved wrote = record {
  records = going.records ++ record { time = time; bytes = take len buf } ∷ [];
  is_open = ap (λ (s : SourceState). s.is_open) moved ∙ going.is_open;
  same_unit = ap (λ (s : SourceState). s.unit) moved ∙ going.same_unit;
  read = read_on a b b' old new going.records buf time len going.read more;
  wrote = rw (text-push unit going.records (record { time = time; bytes = take len buf })) (Appends-trans c d d' _ _ going.wrote wrote);
}

-- the writer failed at it
pub write_failed : (a b b' c d d' : Option (List ℕ)) (old new : SourceState) (unit : TimeUnit) (buf : List ℕ) (time : Time) (len : ℕ)
    → Going a b c d old unit → WhereKnown b b' (λ left rest. Continues old new left rest buf (Ok (Record time len))) → new ≡ advanced old len
    → AppendsPart d d' (record_text unit (record { time = time; bytes = take len buf })) → Copied a b' c d' (Err Write)
write_failed a b b' c d d' old new unit buf time len going more moved wrote = (
  unit,
  going.records ++ record { time = time; bytes = take len buf } ∷ [],
  WhereKnown-trans a b b' _ _ _ going.read more (λ x y z had goes. (
    new,
    z,
    goes x going.records had,
    ap (λ (s : SourceState). s.unit) moved ∙
        going.same_unit,
  )),
  rw (text-push unit going.records (record { time = time; bytes = take len buf })) (AppendsPart-after c d d' _ _ going.wrote wrote),
)

-- the writer failed at the header
pub header_failed : (a b c d : Option (List ℕ)) (source : SourceState) (unit : TimeUnit) → WhereKnown a b (λ bytes rest. HasRead bytes source [] rest) →
    unit ≡ source.unit
    → AppendsPart c d (header_text unit) → Copied a b c d (Err Write)
header_failed a b c d source unit read same wrote = (
  unit,
  [],
  WhereKnown-trans a b b _ (λ _ _. ⊤) _ read (kept b) (λ x y z had _. (source, y, had, sym same)),
  rw (append-nil (header_text unit)) wrote,
)
  where
    kept : (o : Option (List ℕ)) → WhereKnown o o (λ _ _. ⊤)
    kept None = tt
    kept (Some x) = tt

refused : (a b b' c d : Option (List ℕ)) (old new : SourceState) (unit : TimeUnit) (buf : List ℕ) (error : PcapError) → Going a b c d old unit
    → WhereKnown b b' (λ left rest. Continues old new left rest buf (Err error)) → IsInRange old (Err error) → Copied a b' c d (Err error)
refused a b b' c d old new unit buf Read going more fits =
    inr (unit, going.records, WhereKnown-trans a b b' _ _ _ going.read more (λ x y z had goes. (old, goes x going.records had, going.same_unit)), going.wrote)
refused a b b' c d old new unit buf BadTime going more fits =
    inr (unit, going.records, WhereKnown-trans a b b' _ _ _ going.read more (λ x y z had goes. rw (← going.same_unit) (goes x going.records had)), going.wrote)
refused a b b' c d old new unit buf TooLong going more fits =
    inr (unit, going.records, WhereKnown-trans a b b' _ _ _ going.read more (λ x y z had goes. rw (← going.same_unit) (goes x going.records had)), going.wrote)
refused a b b' c d old new unit buf TooMany going more fits =
    inr (unit, going.records, WhereKnown-trans a b b' _ _ _ going.read more (λ x y z had goes. rw (← going.same_unit) (goes x going.records had)), going.wrote)
refused a b b' c d old new unit buf BadMagic going more fits = absurd fits
refused a b b' c d old new unit buf BadVersion going more fits = absurd fits
refused a b b' c d old new unit buf BadLink going more fits = absurd fits
refused a b b' c d old new unit buf ShortHeader going more fits = absurd fits
refused a b b' c d old new unit buf Write going more fits = absurd fits

-- the reader failed or the record is refused
pub read_failed : (a b b' c d : Option (List ℕ)) (old new : SourceState) (unit : TimeUnit) (buf : List ℕ) (error : PcapError) → Going a b c d old unit
    → WhereKnown b b' (λ left rest. Continues old new left rest buf (Err error)) → IsInRange old (Err error) → Copied a b' c d (Err error)
read_failed = refused
