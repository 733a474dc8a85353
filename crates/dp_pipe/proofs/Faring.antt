-- Devices that are called one after the other, and one that fails.
use Rattle.std.proofs.Common.{◌≡◌, ◌≢◌, ◌⊎◌, inl, inr, ◌↔◌, ℕ, ◌+◌, ◌<◌, ◌≤◌, ◌||◌, List, Some, Bool, true, false, Result, Ok, Err, length, refl, ap}
use Rattle.std.proofs.Common.{sym, ◌∙◌, subst, arith}
use Rattle.std.specs.Prelude.{slice_get, slice_set, ◌==◌, if◌then◌else◌, IsTrue, IsOk, IsErrOf, ⊤}
use Rattle.std.proofs.lemmas.Bool.{eq-eqb, ne_eqb, cases_lt}
use Rattle.std.proofs.lemmas.Option.{same_Some, slice_get_within, slice_get-get_or}
use Rattle.dp_model.specs.Laws.Lists.{get_set_other, each_at, each_slot}
use Rattle.dp_pcap.specs.declared.error.PcapError.{PcapError}
use Rattle.dp_pcap.specs.declared.error.PcapError.TheVariants.{Read}
use Rattle.dp_pcap.specs.declared.time.Unit.{Unit as TimeUnit}
use Rattle.dp_pcap.specs.Source.{failed_pulls}
use Rattle.dp_pipe.specs.declared.forwarding.RunCause.{RunCause}
use Rattle.dp_pipe.specs.declared.forwarding.RunCause.TheVariants.{Memory, NoRoom, In, Out}
use Rattle.dp_pipe.specs.Devices.{Device, Fared, AllFared, FaredAlone, AllSound, failed_reader, failed_writer}
use Rattle.dp_pipe.specs.Running.{IsHeaderCause, IsWriteCause}
use Rattle.dp_pipe.proofs.Forwarded.{split}
use Rattle.dp_pipe.proofs.Heading.{Changed, is_same, new_of}

-- ---- one device

none_more : (n : ℕ) → n ≡ n + 0
none_more n = omega arith

pub fared_same : {D : Type 0} (is_broken : D → Bool) (failures : D → ℕ) (d : D) → Fared is_broken failures false d d
fared_same is_broken failures d = record { broken = refl; count = none_more (failures d) }

-- it was sound and is
pub fared_sound : {D : Type 0} (is_broken : D → Bool) (failures : D → ℕ) (d d' : D) → is_broken d ≡ false → is_broken d' ≡ false → failures d' ≡ failures d →
    Fared is_broken failures false d d'
fared_sound is_broken failures d d' was is same = record { broken = is ∙ sym was; count = same ∙ none_more (failures d) }

-- it is sound; and what is broken stays so
pub fared_well : {D : Type 0} (is_broken : D → Bool) (failures : D → ℕ) (d d' : D) → (IsTrue (is_broken d) → IsTrue (is_broken d')) → is_broken d' ≡ false →
    failures d' ≡ failures d
    → Fared is_broken failures false d d'
fared_well is_broken failures d d' stays sound same = fared_sound is_broken failures d d' (was (is_broken d) stays) sound same
  where
    was : (b : Bool) → (b ≡ true → is_broken d' ≡ true) → b ≡ false
    was true kept = let bad : true ≡ false = sym (kept refl) ∙ sound in cc
    was false kept = refl

-- a call of it failed
pub fared_badly : {D : Type 0} (is_broken : D → Bool) (failures : D → ℕ) (d d' : D) → is_broken d' ≡ true → failures d' ≡ failures d + 1 →
    Fared is_broken failures true d d'
fared_badly is_broken failures d d' is more = record { broken = is; count = more }

-- it failed at its own index
pub failed_here : {D : Type 0} (is_broken : D → Bool) (failures : D → ℕ) (n : ℕ) (d d' : D) → is_broken d' ≡ true → failures d' ≡ failures d + 1 →
    Fared is_broken failures (n == n) d d'
failed_here is_broken failures n d d' is more = rw (eq-eqb n n refl) (fared_badly is_broken failures d d' is more)

-- it failed in neither of two, or in the second
pub fared_then : {D : Type 0} (is_broken : D → Bool) (failures : D → ℕ) (failed : Bool) (a b c : D) → Fared is_broken failures false a b →
    Fared is_broken failures failed b c → Fared is_broken failures failed a c
fared_then is_broken failures failed a b c first next = record {
  broken = next.broken ∙ ap (λ x. failed || x) first.broken;
  count = next.count ∙ ap (λ n. n + (if failed then 1 else 0)) (first.count ∙ sym (none_more (failures a)));
}

-- ---- all devices

pub all_same : {D : Type 0} (is_broken : D → Bool) (failures : D → ℕ) (failed : ℕ → Bool) (ds : List D) → ((q : ℕ) → failed q ≡ false) →
    AllFared is_broken failures failed ds ds
all_same is_broken failures failed ds none q d d' here there =
    let is : d' ≡ d = same_Some d' d (sym there ∙ here) in
    rw (none q, is) (fared_same is_broken failures d)

pub all_then : {D : Type 0} (is_broken : D → Bool) (failures : D → ℕ) (failed : ℕ → Bool) (olds mids news : List D) → length mids ≡ length olds
    → AllFared is_broken failures (λ q. false) olds mids → AllFared is_broken failures failed mids news → AllFared is_broken failures failed olds news
all_then is_broken failures failed olds mids news many first next q d d' here there =
    let at = slice_get-get_or mids q d (omega (arith, many, slice_get_within olds q d here)) in
    fared_then is_broken failures (failed q) d _ d' (first q d _ here at) (next q _ d' at there)

-- one of them was called
pub one_fared : {D : Type 0} (is_broken : D → Bool) (failures : D → ℕ) (failed : ℕ → Bool) (n : ℕ) (ds : List D) (w w' : D) → slice_get ds n ≡ Some w
    → Fared is_broken failures (failed n) w w' → ((q : ℕ) → q ≢ n → failed q ≡ false) → AllFared is_broken failures failed ds (slice_set ds n w')
one_fared {D} is_broken failures failed n ds w w' at own others q d d' here there = go (split q n)
  where
    go : (q ≡ n) ⊎ (q ≢ n) → Fared is_broken failures (failed q) d d'
    go (inl same) =
        let old : d ≡ w = same_Some d w (sym here ∙ ap (slice_get ds) same ∙ at) in
        let new : d' ≡ w' = new_of n ds w w' d' at (rw same at there) in
        rw (same, old, new) own
    go (inr other) =
        let is : d' ≡ d = same_Some d' d (sym there ∙ get_set_other ds n q w' other ∙ here) in
        rw (others q other, is) (fared_same is_broken failures d)

-- after others that did not fail
pub one_then : {D : Type 0} (is_broken : D → Bool) (failures : D → ℕ) (failed : ℕ → Bool) (n : ℕ) (olds ds : List D) (w w' : D) → length ds ≡ length olds
    → AllFared is_broken failures (λ q. false) olds ds → slice_get ds n ≡ Some w
    → Fared is_broken failures (failed n) w w' → ((q : ℕ) → q ≢ n → failed q ≡ false) → AllFared is_broken failures failed olds (slice_set ds n w')
one_then is_broken failures failed n olds ds w w' many first at own others =
    all_then is_broken failures failed olds ds (slice_set ds n w') many first (one_fared is_broken failures failed n ds w w' at own others)

-- none of them fails in a pass over the first n
pub all_well : {D : Type 0} (is_broken : D → Bool) (failures : D → ℕ) (R : D → D → Type 0) (n : ℕ) (olds news : List D) → Changed R n olds news
    → ((d d' : D) → R d d' → Fared is_broken failures false d d') → AllFared is_broken failures (λ q. false) olds news
all_well is_broken failures R n olds news c well q d d' here there = go (cases_lt q n)
  where
    go : (q < n) ⊎ (n ≤ q) → Fared is_broken failures false d d'
    go (inl below) = well d d' (c.done q d d' below here there)
    go (inr beyond) = rw (is_same olds news q d d' (c.rest q beyond) here there) (fared_same is_broken failures d)

-- all are sound where all were and none failed
pub still_sound : {D : Type 0} (is_broken : D → Bool) (failures : D → ℕ) (olds news : List D) → length news ≡ length olds
    → AllFared is_broken failures (λ q. false) olds news → AllSound is_broken olds → AllSound is_broken news
still_sound is_broken failures olds news many fared sound = each_slot (λ d. is_broken d ≡ false) news (λ q d there.
    let here = slice_get-get_or olds q d (omega (arith, many, slice_get_within news q d there)) in
    (fared q _ d here there).broken ∙ each_at (λ x. is_broken x ≡ false) olds q _ sound here)

-- one reader was called after others that did not fail, or each was, with this result
pub reader_then : {D A : Type 0} (is_broken : D → Bool) (failures : D → ℕ) (answer given : Result A RunCause) (n : ℕ) (olds ds : List D) (d d' : D) →
    length ds ≡ length olds
    → AllFared is_broken failures (λ q. false) olds ds → slice_get ds n ≡ Some d → FaredAlone is_broken failures (failed_reader answer) n d d'
    → answer ≡ given → AllFared is_broken failures (failed_reader given) olds (slice_set ds n d')
reader_then is_broken failures answer given n olds ds d d' many first at fared is =
    rw (← is) (one_then is_broken failures (failed_reader answer) n olds ds d d' many first at fared.own fared.others)

pub readers_then : {D A : Type 0} (is_broken : D → Bool) (failures : D → ℕ) (answer given : Result A RunCause) (olds mids news : List D) →
    length mids ≡ length olds
    → AllFared is_broken failures (λ q. false) olds mids → AllFared is_broken failures (failed_reader answer) mids news → answer ≡ given
    → AllFared is_broken failures (failed_reader given) olds news
readers_then is_broken failures answer given olds mids news many first next is =
    all_then is_broken failures (failed_reader given) olds mids news many first (rw is at next)

-- of writers that are sound
pub writers_then : {D A : Type 0} (is_broken : D → Bool) (failures : D → ℕ) (answer given : Result A RunCause) (olds mids news : List D) →
    length mids ≡ length olds
    → (AllSound is_broken olds → AllFared is_broken failures (λ q. false) olds mids)
    → (AllSound is_broken mids → AllFared is_broken failures (failed_writer answer) mids news) → answer ≡ given
    → AllSound is_broken olds → AllFared is_broken failures (failed_writer given) olds news
writers_then is_broken failures answer given olds mids news many first next is sound =
    all_then is_broken failures (failed_writer given) olds mids news many (first sound)
    (rw is at (next (still_sound is_broken failures olds mids many (first sound) sound)))

pub sound_readers : {D A : Type 0} (is_broken : D → Bool) (failures : D → ℕ) (answer : Result A RunCause) (olds news : List D) → length news ≡ length olds
    → AllFared is_broken failures (failed_reader answer) olds news → AllSound is_broken olds → IsOk answer → AllSound is_broken news
sound_readers is_broken failures (Ok done) olds news many fared sound ok = still_sound is_broken failures olds news many fared sound
sound_readers is_broken failures (Err cause) olds news many fared sound ok = cc

pub sound_writers : {D A : Type 0} (is_broken : D → Bool) (failures : D → ℕ) (answer : Result A RunCause) (olds news : List D) → length news ≡ length olds
    → AllFared is_broken failures (failed_writer answer) olds news → AllSound is_broken olds → IsOk answer → AllSound is_broken news
sound_writers is_broken failures (Ok done) olds news many fared sound ok = still_sound is_broken failures olds news many fared sound
sound_writers is_broken failures (Err cause) olds news many fared sound ok = cc

-- ---- what a cause says about the others

-- a fault of one input is not of another's reader
pub not_other : (error : PcapError) (port q : ℕ) → q ≢ port → failed_reader {A = ⊤} (Err (In port error)) q ≡ false
not_other Read port q other = ne_eqb q port other
not_other error port q other = refl

-- a fault of a header is no writer's, and a header that is not written no reader's
pub no_writer : (olds news : List Device) (cause : RunCause) → IsHeaderCause olds news cause → (q : ℕ) → failed_writer {A = ⊤} (Err cause) q ≡ false
no_writer olds news (In port error) is q = refl
no_writer olds news (Out port) is q = absurd is
no_writer olds news Memory is q = refl
no_writer olds news NoRoom is q = refl

pub no_reader : (unit : TimeUnit) (held holds : List Device) (cause : RunCause) → IsWriteCause unit held holds cause →
    (q : ℕ) → failed_reader {A = ⊤} (Err cause) q ≡ false
no_reader unit held holds (In port error) is q = absurd is
no_reader unit held holds (Out port) is q = refl
no_reader unit held holds Memory is q = refl
no_reader unit held holds NoRoom is q = refl

-- ---- a reader that is read

-- it was at fault, or failed
pub refused : {D A : Type 0} (is_broken : D → Bool) (failures : D → ℕ) (answer : Result A PcapError) (error : PcapError) (port : ℕ) (d d' : D) →
    answer ≡ Err error
    → (IsErrOf answer Read ↔ IsTrue (is_broken d')) → (IsTrue (is_broken d) → IsTrue (is_broken d')) → failures d' ≡ failures d + failed_pulls answer
    → Fared is_broken failures (failed_reader {A = ⊤} (Err (In port error)) port) d d'
refused {D} {A} is_broken failures answer error port d d' err failed stays count = go error err
  where
    never : (b : Bool) → (b ≡ true → ⊥) → b ≡ false
    never true denied = absurd (denied refl)
    never false denied = refl

    sound_so : (is_broken d' ≡ true → ⊥) → failures d' ≡ failures d + 0 → Fared is_broken failures false d d'
    sound_so denied same = fared_well is_broken failures d d' stays (never (is_broken d') denied) (same ∙ sym (none_more (failures d)))

    go : (e : PcapError) → answer ≡ Err e → Fared is_broken failures (failed_reader {A = ⊤} (Err (In port e)) port) d d'
    go Read is = failed_here is_broken failures port d d' (failed.0 is) (subst (λ a. failures d' ≡ failures d + failed_pulls a) is count)
    go e is = sound_so (λ b. let bad = sym is ∙ failed.1 b in cc) (subst (λ a. failures d' ≡ failures d + failed_pulls a) is count)
