-- What the frames of a burst so far have done.
use Rattle.std.proofs.Common.{◌≡◌, ℕ, ◌+◌, ◌-◌, ◌<◌, ◌≤◌, List, [], ◌∷◌, ◌++◌, length, take, drop, get_or, set, refl, sym, ap, ◌∙◌, subst}
use Rattle.std.proofs.Common.{Option, add-one, append_assoc, arith, drop-cons, length-append, length-drop}
use Rattle.std.proofs.Math.ListN.{drop_of_length-le}
use Rattle.std.proofs.Math.Seq.{take-append-add}
use Rattle.std.proofs.lemmas.List.{append-nil, drop-drop, drop-set-lt, drop_at, length-take-le, take-append-drop, take_all, take_at, take_more_set, take_rest}
use borrow.Rule.Slice.PartMut.{put_mid}
use Rattle.dp_engine.specs.Engines.{EngineState}
use Rattle.dp_host.specs.declared.numbers.BurstFrame.{BurstFrame}
use Rattle.dp_host.specs.declared.numbers.Room.{Room}
use Rattle.dp_host.specs.declared.refusal.Refusal.{Refusal}
use Rattle.dp_host.specs.Hosts.{Arrays, empty_room}
use Rattle.dp_host.specs.Bursts.{BurstAnswers, Bursts, FramePassed, beyond, joined}

-- ---- parts of arrays

-- the arrays with this much at their front
abbrev pub front : Room → Arrays → Arrays
front part arrays = record { records = take part.records arrays.records; bytes = take part.bytes arrays.bytes }

-- arrays beside each other
abbrev pub beside : Arrays → Arrays → Arrays
beside a b = record { records = a.records ++ b.records; bytes = a.bytes ++ b.bytes }

-- a part is within the arrays
pub record Within (part : Room) (arrays : Arrays) : Type 0 where
  pub records : part.records ≤ length arrays.records
  pub bytes : part.bytes ≤ length arrays.bytes

-- equal lists are equal arrays
arrays_same : (records records' : List _) (bytes bytes' : List ℕ) → records ≡ records' → bytes ≡ bytes'
    → ◌≡◌ {A = Arrays} (record { records = records; bytes = bytes }) (record { records = records'; bytes = bytes' })
arrays_same records records' bytes bytes' same_records same_bytes = λ i. record { records = same_records i; bytes = same_bytes i }

-- a part that was lent whole is the end of the list
pub end_put : {X : Type 0} (a : ℕ) (xs ys : List X) → put_mid a (length xs - a) xs ys ≡ take a xs ++ ys
end_put a xs ys =
    let none : drop (length xs - a) (drop a xs) ≡ [] = drop_of_length-le (drop a xs) (omega (arith, length-drop a xs)) in
    ap (λ zs. take a xs ++ (ys ++ zs)) none ∙ ap (λ zs. take a xs ++ zs) (append-nil ys)

-- two fronts, one after the other
front_more : {X : Type 0} (a n : ℕ) (xs ys : List X) → a ≤ length xs → take (a + n) (take a xs ++ ys) ≡ take a xs ++ take n ys
front_more a n xs ys le =
    subst (λ m. take (m + n) (take a xs ++ ys) ≡ take a xs ++ take n ys) (length-take-le a xs le) (take-append-add (take a xs) ys n)

front_joined : (before part : Room) (has made left : Arrays) → Within before has
    → beside (front (joined before part) (beside (front before has) made)) left ≡ beside (front before has) (beside (front part made) left)
front_joined before part has made left within =
    arrays_same _ _ _ _
    (ap (λ xs. xs ++ left.records) (front_more before.records part.records has.records made.records within.records)
    ∙ append_assoc (take before.records has.records) (take part.records made.records) left.records)
    (ap (λ xs. xs ++ left.bytes) (front_more before.bytes part.bytes has.bytes made.bytes within.bytes)
    ∙ append_assoc (take before.bytes has.bytes) (take part.bytes made.bytes) left.bytes)

beyond_joined : (before part : Room) (arrays : Arrays) → beyond part (beyond before arrays) ≡ beyond (joined before part) arrays
beyond_joined before part arrays =
    arrays_same _ _ _ _ (drop-drop part.records before.records arrays.records) (drop-drop part.bytes before.bytes arrays.bytes)

beyond_front : (part : Room) (made left : Arrays) → Within part made → beyond part (beside (front part made) left) ≡ left
beyond_front part made left within =
    arrays_same _ _ _ _ (drop_at (take part.records made.records) left.records part.records (length-take-le part.records made.records within.records))
    (drop_at (take part.bytes made.bytes) left.bytes part.bytes (length-take-le part.bytes made.bytes within.bytes))

beyond_made : (before : Room) (has made : Arrays) → Within before has → beyond before (beside (front before has) made) ≡ made
beyond_made before has made within = beyond_front before has made within

front_front : (part : Room) (made left : Arrays) → Within part made → front part (beside (front part made) left) ≡ front part made
front_front part made left within =
    arrays_same _ _ _ _ (take_at (take part.records made.records) left.records part.records (length-take-le part.records made.records within.records))
    (take_at (take part.bytes made.bytes) left.bytes part.bytes (length-take-le part.bytes made.bytes within.bytes))

front_beyond : (part : Room) (arrays : Arrays) → beside (front part arrays) (beyond part arrays) ≡ arrays
front_beyond part arrays =
    arrays_same _ _ _ _ (take-append-drop part.records arrays.records) (take-append-drop part.bytes arrays.bytes)

-- ---- what a call is lent

-- what is left of the arrays, as a call is lent it
abbrev pub lent : Room → Arrays → Arrays
lent used has = record {
  records = take (length has.records - used.records) (drop used.records has.records);
  bytes = take (length has.bytes - used.bytes) (drop used.bytes has.bytes);
}

-- the arrays once the call is over
abbrev pub given_back : Room → Arrays → Arrays → Arrays
given_back used has made = record {
  records = put_mid used.records (length has.records - used.records) has.records made.records;
  bytes = put_mid used.bytes (length has.bytes - used.bytes) has.bytes made.bytes;
}

lent_is : (used : Room) (has : Arrays) → lent used has ≡ beyond used has
lent_is used has = arrays_same _ _ _ _ (take_rest has.records used.records) (take_rest has.bytes used.bytes)

given_back_is : (used : Room) (has made : Arrays) → given_back used has made ≡ beside (front used has) made
given_back_is used has made =
    arrays_same _ _ _ _ (end_put used.records has.records made.records) (end_put used.bytes has.bytes made.bytes)

-- what is left has the bytes that are not filled
pub lent_long : (used : Room) (has : Arrays) → Within used has → used.bytes + length (lent used has).bytes ≡ length has.bytes
lent_long used has within =
    let same : length (lent used has).bytes ≡ length (drop used.bytes has.bytes) = ap length (take_rest has.bytes used.bytes) in
    omega (arith, same, within.bytes, length-drop used.bytes has.bytes)

-- ---- a burst in its course

-- A frame's pass depends on what it filled alone.
framed : (old : Option EngineState) (missing : Refusal) (new : Option EngineState) (port : ℕ) (frame frame' : BurstFrame) (before part : Room)
    (had has has' : Arrays) → front part has' ≡ front part has → FramePassed old missing new port frame frame' before part had has
    → FramePassed old missing new port frame frame' before part had has'
framed old missing new port frame frame' before part had has has' same p = record {
  made = p.made;
  pass = p.pass;
  frame_is = p.frame_is;
  records_are = ap (λ (a : Arrays). a.records) same ∙ p.records_are;
  bytes_are = ap (λ (a : Arrays). a.bytes) same ∙ p.bytes_are;
}

-- After k frames: the others and what is beyond the filled part have not changed, and a burst of the others completes the whole.
pub record SoFar (old : Option EngineState) (missing : Refusal) (port : ℕ) (first : List BurstFrame) (had : Arrays) (k : ℕ) (now : Option EngineState)
    (frames : List BurstFrame) (used : Room) (has : Arrays) : Type 0 where
  pub ahead : drop k frames ≡ drop k first
  pub within : Within used has
  pub rest : beyond used has ≡ beyond used had
  pub goes_on : (new : Option EngineState) (frames' : List BurstFrame) (left : Arrays) (filled : Room)
      → Bursts now missing new port (drop k first) frames' used (beyond used had) left filled
      → Bursts old missing new port first (take k frames ++ frames') empty_room had (beside (front used has) left) filled

pub none_yet : (old : Option EngineState) (missing : Refusal) (port : ℕ) (first : List BurstFrame) (had : Arrays)
    → SoFar old missing port first had 0 old first empty_room had
none_yet old missing port first had = record {
  ahead = refl;
  within = record { records = omega arith; bytes = omega arith };
  rest = refl;
  goes_on = λ new frames' left filled b. b;
}

pub one_more : (old : Option EngineState) (missing : Refusal) (port : ℕ) (first : List BurstFrame) (had : Arrays) (k : ℕ) (now : Option EngineState)
    (frames : List BurstFrame) (used : Room) (has : Arrays) (none frame' : BurstFrame) (new : Option EngineState) (part : Room) (made : Arrays)
    → SoFar old missing port first had k now frames used has → k < length frames
    → FramePassed now missing new port (get_or frames k none) frame' used part (beyond used has) made
    → beyond part made ≡ beyond part (beyond used has) → Within part made
    → SoFar old missing port first had (k + 1) new (set frames k frame') (joined used part) (beside (front used has) made)
one_more old missing port first had k now frames used has none frame' new part made s lt passed stays fits =
    let next : drop k first ≡ get_or frames k none ∷ drop (k + 1) frames =
    sym s.ahead ∙ drop-cons frames k none lt ∙ ap (λ m. get_or frames k none ∷ drop m frames) (sym (add-one k)) in
    let others : drop (k + 1) frames ≡ drop (k + 1) first = sym (drop-drop 1 k frames) ∙ ap (λ fs. drop 1 fs) s.ahead ∙ drop-drop 1 k first in
    let whole : beyond (joined used part) (beside (front used has) made) ≡ beyond part made =
    sym (beyond_joined used part (beside (front used has) made)) ∙ ap (λ a. beyond part a) (beyond_made used has made s.within) in
    let records_long = length-append (take used.records has.records) made.records in
    let bytes_long = length-append (take used.bytes has.bytes) made.bytes in
    record {
      ahead = drop-set-lt (k + 1) frames k frame' (omega arith) ∙ others;
      within = record {
        records = omega (arith, s.within.records, fits.records, records_long, length-take-le used.records has.records s.within.records);
        bytes = omega (arith, s.within.bytes, fits.bytes, bytes_long, length-take-le used.bytes has.bytes s.within.bytes);
      };
      rest = whole ∙ stays ∙ ap (λ a. beyond part a) s.rest ∙ beyond_joined used part had;
      goes_on = λ last frames' left filled b.
          subst (λ fs. Bursts old missing last port first fs empty_room had (beside (front (joined used part) (beside (front used has) made)) left) filled)
          (sym (ap (λ fs. fs ++ frames') (take_more_set frames k frame' lt) ∙ append_assoc (take k frames) (frame' ∷ []) frames'))
          (subst (λ a. Bursts old missing last port first (take k frames ++ frame' ∷ frames') empty_room had a filled)
          (sym (front_joined used part has made left s.within))
          (s.goes_on last (frame' ∷ frames') (beside (front part made) left) filled
          (subst (λ fs. Bursts now missing last port fs (frame' ∷ frames') used (beyond used had) (beside (front part made) left) filled) (sym next) (
            new,
            part,
            subst (λ a. FramePassed now missing new port (get_or frames k none) frame' used part a (beside (front part made) left)) s.rest
                (framed now missing new port (get_or frames k none) frame' used part (beyond used has) made (beside (front part made) left)
                (front_front part made left fits) passed),
            subst (λ a. Bursts new missing last port (drop (k + 1) frames) frames' (joined used part) a (beyond part (beside (front part made) left)) filled)
                (sym (beyond_joined used part had))
                (subst (λ a. Bursts new missing last port (drop (k + 1) frames) frames' (joined used part) (beyond (joined used part) had) a filled)
                (sym (beyond_front part made left fits))
                (subst (λ fs. Bursts new missing last port fs frames' (joined used part) (beyond (joined used part) had) left filled) (sym others) b)),
          ))));
    }

pub one_more_lent : (old : Option EngineState) (missing missing' : Refusal) (port : ℕ) (first : List BurstFrame) (had : Arrays) (k : ℕ)
    (now : Option EngineState) (frames : List BurstFrame) (used : Room) (has : Arrays) (none frame' : BurstFrame) (new : Option EngineState)
    (part : Room) (made : Arrays) → SoFar old missing port first had k now frames used has → k < length frames → missing' ≡ missing
    → FramePassed now missing' new port (get_or frames k none) frame' used part (lent used has) made
    → beyond part made ≡ beyond part (lent used has) → Within part made
    → SoFar old missing port first had (k + 1) new (set frames k frame') (joined used part) (given_back used has made)
one_more_lent old missing missing' port first had k now frames used has none frame' new part made s lt same passed stays fits =
    subst (λ a. SoFar old missing port first had (k + 1) new (set frames k frame') (joined used part) a) (sym (given_back_is used has made))
    (one_more old missing port first had k now frames used has none frame' new part made s lt
    (subst (λ m. FramePassed now m new port (get_or frames k none) frame' used part (beyond used has) made) same
    (subst (λ a. FramePassed now missing' new port (get_or frames k none) frame' used part a made) (lent_is used has) passed))
    (stays ∙ ap (λ a. beyond part a) (lent_is used has)) fits)

pub all_passed : (old : Option EngineState) (missing : Refusal) (port : ℕ) (first : List BurstFrame) (had : Arrays) (k : ℕ) (now : Option EngineState)
    (frames : List BurstFrame) (used : Room) (has : Arrays) → SoFar old missing port first had k now frames used has → length first ≤ k → length frames ≤ k
    → BurstAnswers old missing now port first frames had has used
all_passed old missing port first had k now frames used has s most most' =
    let over : drop k first ≡ [] = drop_of_length-le first most in
    let whole : beside (front used has) (beyond used had) ≡ has = ap (λ a. beside (front used has) a) (sym s.rest) ∙ front_beyond used has in
    let listed : take k frames ++ [] ≡ frames = append-nil (take k frames) ∙ take_all k frames most' in
    subst (λ a. Bursts old missing now port first frames empty_room had a used) whole
    (subst (λ fs. Bursts old missing now port first fs empty_room had (beside (front used has) (beyond used had)) used) listed
    (s.goes_on now [] (beyond used had) used
    (subst (λ fs. Bursts now missing now port fs [] used (beyond used had) (beyond used had) used) (sym over) (refl, refl, refl))))
