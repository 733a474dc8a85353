-- Internal: the effect of reading, writing or counting bytes.
use Rattle.std.specs.Prelude.{◌≡◌, ℕ, ◌+◌, ◌<◌, ◌≤◌, ◌↔◌, ◌^◌, List, ◌++◌, length, take, Option, Bool, false, Result}
use Rattle.std.specs.Prelude.{OnOk, OnErr, IfOk, IsOk, IsErr, IsTrue, MatchResult}
use Rattle.std.specs.Io.KnownBytes.{Appends, Consumes, IsAtEnd}
use Rattle.dp_pcap.specs.declared.device.Failed.{Failed}
use Rattle.dp_pcap.specs.declared.format.TheConstants.{HEAD_SIZE}
use Rattle.dp_pcap.specs.Counting.{Counted, IsAfter}
use Rattle.dp_pcap.specs.Offering.{OffersWhole, OffersPart, OffersTwo, OffersPartOfTwo}
use Rattle.dp_pcap.specs.Text.{AppendsPart}

-- A reader, from `old` to `new`, was read until a piece was whole or the input ended: that many bytes came into a buffer that had `before` and has
-- `after`, or the reader failed after fewer than were wanted.
pub record FillsWhole {R : Type 0} (remaining : R → Option (List ℕ)) (is_broken : R → Bool) (calls failed_calls truncated : R →
    ℕ) (old new : R) (before after : List ℕ) (answer : Result ℕ Failed) : Type 0 where
  pub bound : IfOk answer (λ n. n ≤ length after)
  pub bytes : MatchResult answer
      (λ n. Consumes (remaining old) (remaining new) (take n after) × (n < length after → IsAtEnd (remaining new)))
      (λ _. (came : List ℕ) × (length came < length before) × Consumes (remaining old) (remaining new) came × (calls new ≤ calls old + length came + 1))
  pub failed : IsErr answer → IsTrue (is_broken new)
  pub sound : 0 < length before → IsOk answer → is_broken new ≡ false
  pub untouched : length before ≡ 0 → new ≡ old
  pub stays : IsTrue (is_broken old) → IsTrue (is_broken new)
  pub counted : calls new ≤ calls old + length before
  pub ends : IfOk answer (λ n. calls new ≤ calls old + n + 1)
  pub noted : truncated new ≡ truncated old
  pub failures : MatchResult answer (λ _. failed_calls new ≡ failed_calls old) (λ _. failed_calls new ≡ failed_calls old + 1)

-- A piece was offered to a writer, from `old` to `new`, until it was taken whole or the writer failed.
pub record PutsWhole {W : Type 0} (contents : W → Option (List ℕ)) (offers : W → List (List ℕ)) (is_broken : W → Bool) (calls failed_calls : W →
    ℕ) (old new : W) (piece : List ℕ) (answer : Result Unit Failed) : Type 0 where
  pub ok : OnOk answer (Appends (contents old) (contents new) piece)
  pub err : OnErr answer (AppendsPart (contents old) (contents new) piece)
  pub failed : IsErr answer → IsTrue (is_broken new)
  pub sound : 0 < length piece → IsOk answer → is_broken new ≡ false
  pub untouched : length piece ≡ 0 → new ≡ old
  pub stays : IsTrue (is_broken old) → IsTrue (is_broken new)
  pub counted : calls new ≤ calls old + length piece
  pub failures : MatchResult answer (λ _. failed_calls new ≡ failed_calls old) (λ _. failed_calls new ≡ failed_calls old + 1)
  pub offered : OnOk answer (OffersWhole (offers old) (offers new) piece)
  pub offered_part : OnErr answer (OffersPart (offers old) (offers new) piece)

-- The same for a record's head and then its body.
pub record PutsTwo {W : Type 0} (contents : W → Option (List ℕ)) (offers : W → List (List ℕ)) (is_broken : W → Bool) (calls failed_calls : W →
    ℕ) (old new : W) (head body : List ℕ) (answer : Result Unit Failed) : Type 0 where
  pub ok : OnOk answer (Appends (contents old) (contents new) (head ++ body))
  pub err : OnErr answer (AppendsPart (contents old) (contents new) (head ++ body))
  pub failed : IsErr answer ↔ IsTrue (is_broken new)
  pub stays : IsTrue (is_broken old) → IsTrue (is_broken new)
  pub counted : calls new ≤ calls old + (HEAD_SIZE + length body)
  pub failures : MatchResult answer (λ _. failed_calls new ≡ failed_calls old) (λ _. failed_calls new ≡ failed_calls old + 1)
  pub offered : OnOk answer (OffersTwo (offers old) (offers new) head body)
  pub offered_part : OnErr answer (OffersPartOfTwo (offers old) (offers new) head body)

-- A count moves past this many of the bytes.
pub record StepsBy (old new : Counted) (bytes : List ℕ) (count : ℕ) : Type 0 where
  pub some : 0 < count
  pub most : count ≤ length bytes
  pub order : new.order ≡ old.order
  pub pieces : new.pieces ≤ old.pieces + count
  pub beyond : old.pieces + count < 2 ^ 64 → (before : List ℕ) → IsAfter old before → IsAfter new (before ++ take count bytes)
