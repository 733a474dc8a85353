-- Internal: several calls, one after another.
use Rattle.std.specs.Prelude.{◌≡◌, ℕ, ◌+◌, List, [], ◌∷◌, ◌++◌, length, take, Option, None, Some}
use Rattle.std.specs.List.{flat_map}
use Rattle.std.specs.Io.KnownBytes.{Appends}
use Rattle.std.proofs.Common.{◌∙◌, ap, refl, sym, arith, length-append, append_assoc, append-nil}
use Rattle.std.proofs.KnownBytes.{Appends-trans}
use Rattle.std.proofs.Math.Seq.{take-append-add}
use Rattle.std.proofs.lemmas.List.Concat.{flat_map-append}
use Rattle.dp_pcap.specs.declared.time.Time.{Time}
use Rattle.dp_pcap.specs.declared.time.Unit.{Unit as TimeUnit}
use Rattle.dp_pcap.specs.Capture.{PacketRecord}
use Rattle.dp_pcap.specs.Source.{WhereKnown}
use Rattle.dp_pcap.specs.Text.{header_text, head_text, record_text, text, AppendsPart}

-- the head of a record has 16 bytes
pub length_head : (unit : TimeUnit) (time : Time) (len : ℕ) → length (head_text unit time len) ≡ 16
unfolding head_text
length_head unit time len = refl

-- the whole of xs was written, and then a part of ys
pub AppendsPart-after : (a b c : Option (List ℕ)) (xs ys : List ℕ) → Appends a b xs → AppendsPart b c ys → AppendsPart a c (xs ++ ys)
AppendsPart-after a b c xs ys p (n, less, q) =
    (length xs + n, omega (arith, length-append xs ys), rw (take-append-add xs ys n) (Appends-trans a b c xs (take n ys) p q))

-- one more record was written
pub text-push : (unit : TimeUnit) (records : List PacketRecord) (packet : PacketRecord) → text unit (records ++ packet ∷ []) ≡ text unit records
    ++ record_text unit packet
text-push unit records packet =
    sym (append_assoc (header_text unit) (flat_map (record_text unit) records) (record_text unit packet)
    ∙ ap (λ l. header_text unit ++ l) (ap (λ l. flat_map (record_text unit) records ++ l) (sym (append-nil (record_text unit packet)))
    ∙ sym (flat_map-append (record_text unit) records (packet ∷ []))))

-- two reads, one after the other
pub WhereKnown-trans : (a b c : Option (List ℕ)) (P Q S : List ℕ → List ℕ → Type 0) → WhereKnown a b P → WhereKnown b c Q
    → ((x y z : List ℕ) → P x y → Q y z → S x z) → WhereKnown a c S
WhereKnown-trans None b c P Q S p q f = tt
WhereKnown-trans (Some x) None c P Q S p q f = absurd p
WhereKnown-trans (Some x) (Some y) None P Q S p q f = absurd q
WhereKnown-trans (Some x) (Some y) (Some z) P Q S p q f = f x y z p q
