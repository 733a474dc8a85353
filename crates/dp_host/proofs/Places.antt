-- Where the records of a frame are in the batch of its burst.
use Rattle.std.proofs.Common.{◌≡◌, ℕ, zero, suc, ◌+◌, ◌<◌, ◌≤◌, List, [], ◌∷◌, ◌++◌, length, map, take, drop, get_or, refl, sym, ap, ◌∙◌, subst}
use Rattle.std.proofs.Common.{Option, Some, None, inl, inr, arith, length-append, length-take}
use Rattle.std.specs.List.{AllByRecursion}
use Rattle.dp_engine.specs.declared.batch.SentRecord.{SentRecord}
use Rattle.dp_host.specs.declared.numbers.Room.{Room}
use Rattle.dp_engine.specs.Batches.{Frame, Holds, KeepsRest, bytes_of_all, records_for}
use Rattle.dp_engine.specs.Engines.{EngineState}
use Rattle.dp_host.specs.Calls.{frames_by_port}
use Rattle.dp_host.specs.declared.refusal.Refusal.{Refusal}
use Rattle.dp_host.specs.Hosts.{Arrays, PassAnswers, batch_size_of, empty_room}
use Rattle.dp_host.specs.Bursts.{beyond}

-- ---- lists

pub all_at : {X : Type 0} (P : X → Type 0) (xs : List X) (i : ℕ) (d : X) → AllByRecursion P xs → i < length xs → P (get_or xs i d)
all_at P [] i d all lt = absurd (omega arith)
all_at P (x ∷ xs) zero d (here, more) lt = here
all_at P (x ∷ xs) (suc i) d (here, more) lt = all_at P xs i d more (omega arith)

pub all_within : {X : Type 0} (P Q : X → Type 0) → ((x : X) → P x → Q x) → (xs : List X) → AllByRecursion P xs → AllByRecursion Q xs
all_within P Q leads [] all = tt
all_within P Q leads (x ∷ xs) (here, more) = (leads x here, all_within P Q leads xs more)

-- an element that a map in place has not reached
pub not_reached : {X : Type 0} (f : X → X) (xs : List X) (i : ℕ) (d : X) → get_or (map f (take i xs) ++ drop i xs) i d ≡ get_or xs i d
not_reached f [] zero d = refl
not_reached f [] (suc i) d = refl
not_reached f (x ∷ xs) zero d = refl
not_reached f (x ∷ xs) (suc i) d = not_reached f xs i d

-- a map in place that has reached all
pub all_reached : {X : Type 0} (f : X → X) (xs : List X) (i : ℕ) → length xs ≤ i → map f (take i xs) ++ drop i xs ≡ map f xs
all_reached f [] zero le = refl
all_reached f [] (suc i) le = refl
all_reached f (x ∷ xs) zero le = absurd (omega (arith, le))
all_reached f (x ∷ xs) (suc i) le = ap (λ ys. f x ∷ ys) (all_reached f xs i (omega (arith, le)))

records_for_length : (time offset : ℕ) (frames : List Frame) → length (records_for time offset frames) ≡ length frames
records_for_length time offset [] = refl
records_for_length time offset (f ∷ frames) = ap suc (records_for_length time (offset + length f.1) frames)

offsets_within : (time offset most : ℕ) (frames : List Frame) → offset + length (bytes_of_all frames) ≤ most
    → AllByRecursion (λ (r : SentRecord). r.offset ≤ most) (records_for time offset frames)
offsets_within time offset most [] le = tt
offsets_within time offset most (f ∷ frames) le =
    let long : length (bytes_of_all (f ∷ frames)) ≡ length f.1 + length (bytes_of_all frames) = length-append f.1 (bytes_of_all frames) in
    (omega (arith, le), offsets_within time (offset + length f.1) most frames (omega (arith, le, long)))

-- ---- what a pass fills

-- what a pass fills is within the arrays, its records lie in what it fills, and beyond that nothing changes
pub record Fills (had has : Arrays) (filled : Room) : Type 0 where
  pub records : filled.records ≤ length has.records
  pub bytes : filled.bytes ≤ length has.bytes
  pub offsets : AllByRecursion (λ (r : SentRecord). r.offset ≤ filled.bytes) (take filled.records has.records)
  pub rest : beyond filled has ≡ beyond filled had

-- a front that has as many elements as it should is within the list
front_within : {X : Type 0} (n : ℕ) (xs : List X) → length (take n xs) ≡ n → n ≤ length xs
front_within n xs e = omega (arith, e, length-take n xs)

holds_fills : (time : ℕ) (frames : List Frame) (had has : Arrays) (filled : Room) → Holds time frames has.records has.bytes (batch_size_of filled)
    → KeepsRest (batch_size_of filled) had.records has.records had.bytes has.bytes → Fills had has filled
holds_fills time frames had has filled holds keeps = record {
  records = front_within filled.records has.records (ap length holds.records_are ∙ records_for_length time 0 frames ∙ sym holds.count);
  bytes = front_within filled.bytes has.bytes (ap length holds.bytes_are ∙ sym holds.size);
  offsets = subst (λ rs. AllByRecursion (λ (r : SentRecord). r.offset ≤ filled.bytes) rs) (sym holds.records_are)
      (offsets_within time 0 filled.bytes frames (omega (arith, holds.size)));
  rest = λ i. record { records = keeps.records_rest i; bytes = keeps.bytes_rest i };
}

nothing_fills : (had has : Arrays) (filled : Room) → has ≡ had → filled ≡ empty_room → Fills had has filled
nothing_fills had has filled same empty =
    subst (λ (f : Room). Fills had has f) (sym empty) (subst (λ (a : Arrays). Fills had a empty_room) (sym same) (record {
      records = omega arith;
      bytes = omega arith;
      offsets = tt;
      rest = refl;
    }))

pub pass_fills : (old : Option EngineState) (missing : Refusal) (new : Option EngineState) (port time : ℕ) (frame : List ℕ) (had has : Arrays)
    (filled : Room) (n : ℕ) → PassAnswers old missing new port time frame had has filled n → Fills had has filled
pass_fills (Some e) missing (Some e') port time frame had has filled n (inl taken) =
    holds_fills time (frames_by_port 0 taken.sent) had has filled taken.batch taken.rest
pass_fills (Some e) missing (Some e') port time frame had has filled n (inr (why, _, _, _, same, empty)) = nothing_fills had has filled same empty
pass_fills None missing None port time frame had has filled n (_, same, empty) = nothing_fills had has filled same empty
pass_fills None missing (Some e') port time frame had has filled n never = absurd never
pass_fills (Some e) missing None port time frame had has filled n never = absurd never
