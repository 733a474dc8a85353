-- Inputs whose headers were read, and the reports of their states.
use Rattle.std.proofs.Common.{◌≡◌, ◌⊎◌, inl, inr, ℕ, zero, suc, ◌+◌, ◌<◌, ◌≤◌, List, [], ◌∷◌, ◌++◌, Some, Bool, false, length, map, take}
use Rattle.std.proofs.Common.{refl, ap, sym, ◌∙◌, arith}
use Rattle.std.specs.Prelude.{option_map, slice_get, slice_set, slice_index_or}
use Rattle.std.proofs.lemmas.List.{length-map, length-append, length-set}
use Rattle.std.proofs.lemmas.Option.{same_Some, slice_get_within, slice_get-get_or, slice_get-map}
use Rattle.dp_model.specs.Laws.Lists.{get_set_other, get_set_same, each_at, all_join, each_slot}
use Rattle.dp_pipe.proofs.Forwarded.{split}
use Rattle.std.specs.List.{list_any, AllByRecursion}
use Rattle.dp_pcap.specs.declared.time.Unit.{Unit as TimeUnit}
use Rattle.dp_pcap.specs.declared.error.PcapError.{PcapError}
use Rattle.dp_pcap.specs.Source.{WhereKnown, HasRead}
use Rattle.dp_pcap.specs.Text.{header_text}
use Rattle.dp_pcap.specs.SourceState.{SourceState}
use Rattle.dp_engine.specs.declared.report.InputState.{InputState}
use Rattle.dp_engine.specs.declared.report.InputState.TheVariants.{Open}
use Rattle.dp_engine.specs.declared.report.PortReport.{PortReport}
use Rattle.dp_pipe.specs.declared.forwarding.InputProgress.{InputProgress}
use Rattle.dp_pipe.specs.Devices.{Device, IsGiven, IsGivenPart, Fared}
use Rattle.dp_pipe.specs.Forwarding.{is_nano, units_of, IsProgressOf, AreProgressOf, IsReadBy, IsRead, AreRead}
use Rattle.dp_pipe.specs.Running.{all_begun, with_states, AreUnread, HeadersStopped, ReadsBadHeader, HasHeaderFault, IsBegun, begun}
use Rattle.dp_pipe.proofs.Giving.{length_none, read_as, read_open}

-- an input has nanoseconds where its source has
pub any_nano : (inputs : List InputProgress) → list_any is_nano (units_of (all_begun inputs)) ≡ list_any (λ (p : InputProgress). is_nano p.source.unit) inputs
any_nano [] = refl
any_nano (p ∷ inputs) = rw (any_nano inputs) refl

abbrev pub states_of : List InputProgress → List InputState
states_of inputs = map (λ (p : InputProgress). p.state) inputs

-- the state of one more input is reported
pub more_answers : (inputs : List InputProgress) (ports : List PortReport) (k : ℕ) (p : InputProgress) (d : PortReport) → k < length inputs
    → with_states (take (suc k) (states_of inputs)) ports
    ≡ slice_set (with_states (take k (states_of inputs)) ports) k (record (slice_index_or (with_states (take k (states_of inputs)) ports) k d)
    { state = (slice_index_or inputs k p).state })
more_answers [] ports k p d l = absurd (omega (arith, l))
more_answers (i ∷ inputs) [] zero p d l = refl
more_answers (i ∷ inputs) [] (suc k) p d l = refl
more_answers (i ∷ inputs) (n ∷ ports) zero p d l = refl
more_answers (i ∷ inputs) (n ∷ ports) (suc k) p d l = ap (λ more. record n { state = i.state } ∷ more) (more_answers inputs ports k p d (omega (arith, l)))

-- one more of the same
pub same_more : {A B : Type 0} (y : B) (xs : List A) (k : ℕ) → k < length xs → map (λ _. y) (take (suc k) xs) ≡ map (λ _. y) (take k xs) ++ y ∷ []
same_more y [] k l = absurd (omega (arith, l))
same_more y (x ∷ xs) zero l = refl
same_more y (x ∷ xs) (suc k) l = ap (λ ys. y ∷ ys) (same_more y xs k (omega (arith, l)))

-- ---- one device after the other

-- each device so far was changed so, and those after it are as they were
pub record Changed {W : Type 0} (R : W → W → Type 0) (n : ℕ) (olds news : List W) : Type 0 where
  pub many : length news ≡ length olds
  pub done : (q : ℕ) (w w' : W) → q < n → slice_get olds q ≡ Some w → slice_get news q ≡ Some w' → R w w'
  pub rest : (q : ℕ) → n ≤ q → slice_get news q ≡ slice_get olds q

pub no_place : {W A : Type 0} (f : W → A) (q : ℕ) (a : A) → slice_get (map f []) q ≡ Some a → ⊥
no_place f zero a e = cc
no_place f (suc q) a e = cc

-- the known bytes of a device, where the list of those of all has them
pub answers_at : {W A : Type 0} (f : W → A) (xs : List W) (q : ℕ) (a : A) → slice_get (map f xs) q ≡ Some a → (w : W) × (slice_get xs q ≡ Some w) × (a ≡ f w)
answers_at f [] zero a e = absurd (no_place f zero a e)
answers_at f [] (suc q) a e = absurd (no_place f (suc q) a e)
answers_at f (x ∷ xs) zero a e = (x, refl, sym (same_Some _ _ e))
answers_at f (x ∷ xs) (suc q) a e = answers_at f xs q a e

-- one more
pub changed_more : {W : Type 0} {R : W → W → Type 0} {n : ℕ} {olds news : List W} {w : W} (w' : W) → Changed R n olds news
    → slice_get news n ≡ Some w → R w w' → Changed R (n + 1) olds (slice_set news n w')
changed_more {W = W} {R = R} {n = n} {olds = olds} {news = news} {w = w} w' c there is = record {
  many = length-set news n w' ∙ c.many;
  done = done;
  rest = λ q l. get_set_other news n q w' (λ e. absurd (omega (arith, l, e))) ∙ c.rest q (omega (arith, l));
}
  where
    done : (q : ℕ) (x x' : W) → q < n + 1 → slice_get olds q ≡ Some x → slice_get (slice_set news n w') q ≡ Some x' → R x x'
    done q x x' l e e' = elim (split q n) [
      | inl same ↦
          let old : Some x ≡ Some w = sym e ∙ ap (slice_get olds) same ∙ sym (c.rest n (omega arith)) ∙ there in
          let new : Some x' ≡ Some w' = sym e' ∙ ap (slice_get (slice_set news n w')) same ∙ get_set_same news n w' w there in
          rw (same_Some _ _ old, same_Some _ _ new) is
      | inr other ↦ c.done q x x' (omega (arith, l, other)) e (sym (get_set_other news n q w' other) ∙ e')
    ]

-- ---- a pass over all devices, and one that stopped

-- what holds of a device and what it became, where each was changed so
pub all_changed : {W : Type 0} {R : W → W → Type 0} {n : ℕ} {olds news : List W} → Changed R n olds news → n ≡ length olds
    → (q : ℕ) (w w' : W) → slice_get olds q ≡ Some w → slice_get news q ≡ Some w' → R w w'
all_changed {olds = olds} c e q w w' here there = c.done q w w' (omega (arith, e, slice_get_within olds q w here)) here there

-- a fact of the known bytes of devices, before and after
pub in_answers : {W A : Type 0} (f : W → A) (P : A → A → Type 0) (olds news : List W) (q : ℕ) →
    ((w w' : W) → slice_get olds q ≡ Some w → slice_get news q ≡ Some w' → P (f w) (f w'))
    → (a a' : A) → slice_get (map f olds) q ≡ Some a → slice_get (map f news) q ≡ Some a' → P a a'
in_answers f P olds news q is a a' e e' =
    let (w, here, a_is) = answers_at f olds q a e in
    let (w', there, a_is') = answers_at f news q a' e' in
    rw (a_is, a_is') (is w w' here there)

-- a device is what it was
pub is_same : {W : Type 0} (olds news : List W) (q : ℕ) (w w' : W) → slice_get news q ≡ slice_get olds q → slice_get olds q ≡ Some w →
    slice_get news q ≡ Some w' → w' ≡ w
is_same olds news q w w' same here there = same_Some w' w (sym there ∙ same ∙ here)

-- each device that was changed so
pub new_all : {W : Type 0} {R : W → W → Type 0} {n : ℕ} {olds news : List W} (P : W → Type 0) → Changed R n olds news → n ≡ length olds →
    ((w w' : W) → R w w' → P w')
    → AllByRecursion P news
new_all {W = W} {olds = olds} {news = news} P c e implies = each_slot P news each
  where
    each : (q : ℕ) (w : W) → slice_get news q ≡ Some w → P w
    each q w there =
        let within : q < length olds = omega (arith, slice_get_within news q w there, c.many) in
        implies _ w (c.done q (slice_index_or olds q w) w (omega (arith, within, e)) (slice_get-get_or olds q w within) there)

-- where a device is changed another way, those before it were changed so
pub before_of : {W : Type 0} {R : W → W → Type 0} {n : ℕ} {olds news : List W} (u : W) → Changed R n olds news
    → (q : ℕ) (x x' : W) → q < n → slice_get olds q ≡ Some x → slice_get (slice_set news n u) q ≡ Some x' → R x x'
before_of {n = n} {news = news} u c q x x' l here there = c.done q x x' l here (sym (get_set_other news n q u (λ e. absurd (omega (arith, l, e)))) ∙ there)

-- it is this one
pub old_of : {W : Type 0} {R : W → W → Type 0} {n : ℕ} {olds news : List W} {w x : W} → Changed R n olds news → slice_get news n ≡ Some w →
    slice_get olds n ≡ Some x → x ≡ w
old_of {n = n} {w = w} {x = x} c at here = same_Some x w (sym here ∙ sym (c.rest n (omega arith)) ∙ at)

pub new_of : {W : Type 0} (n : ℕ) (news : List W) (w u x' : W) → slice_get news n ≡ Some w → slice_get (slice_set news n u) n ≡ Some x' → x' ≡ u
new_of n news w u x' at there = same_Some x' u (sym there ∙ get_set_same news n u w at)

-- ---- writers

-- those after one that was called are as they were
same_after : {W : Type 0} {R : W → W → Type 0} {n : ℕ} {olds news : List W} (device : W → Device) (u : W) → Changed R n olds news → (q : ℕ) → n < q
    → slice_get (map device (slice_set news n u)) q ≡ slice_get (map device olds) q
same_after {n = n} {olds = olds} {news = news} device u c q l =
    slice_get-map device (slice_set news n u) q
    ∙ ap (option_map device) (get_set_other news n q u (λ e. absurd (omega (arith, l, e))) ∙ c.rest q (omega (arith, l)))
    ∙ sym (slice_get-map device olds q)

-- the number of devices stays
still_many : {W : Type 0} {R : W → W → Type 0} {n : ℕ} {olds news : List W} (device : W → Device) (u : W) → Changed R n olds news
    → length (map device (slice_set news n u)) ≡ length (map device olds)
still_many {n = n} {olds = olds} {news = news} device u c =
    length-map (slice_set news n u) device ∙ length-set news n u ∙ c.many ∙ sym (length-map olds device)

one_there : {W : Type 0} {R : W → W → Type 0} {n : ℕ} {olds news : List W} (device : W → Device) {w : W} → Changed R n olds news
    → slice_get news n ≡ Some w → n < length (map device olds)
one_there {n = n} {olds = olds} {news = news} device {w} c at = omega (arith, slice_get_within news n w at, c.many, length-map olds device)

-- the header of a writer was written in part
pub headers_stopped : {W : Type 0} {R : W → W → Type 0} {n : ℕ} {olds news : List W} (device : W → Device) (unit : TimeUnit) {w : W} (u : W)
    → Changed R n olds news → ((x x' : W) → R x x' → IsGiven (device x) (device x') (header_text unit)) → slice_get news n ≡ Some w →
    IsGivenPart (device w) (device u) (header_text unit)
    → HeadersStopped unit (map device olds) (map device (slice_set news n u)) n
headers_stopped {n = n} {olds = olds} {news = news} device unit {w} u c whole at part = record {
  there = one_there device c at;
  many = still_many device u c;
  before = λ q l. in_answers device (λ a a'. IsGiven a a' (header_text unit)) olds (slice_set news n u) q
      (λ x x' here there. whole x x' (before_of u c q x x' l here there));
  own = in_answers device (λ a a'. IsGivenPart a a' (header_text unit)) olds (slice_set news n u) n
      (λ x x' here there. rw (old_of c at here, new_of n news w u x' at there) part);
  after = same_after device u c;
}

-- ---- readers

-- a header was read
pub record HeaderRead (s : SourceState) (old new : Device) : Type 0 where
  pub has : WhereKnown old.bytes new.bytes (λ bytes rest. HasRead bytes s [] rest)
  pub calls : new.calls ≤ old.calls + 24

-- what was read of the first n inputs: a header each
pub record ReadFirst {R : Type 0} (device : R → Device) (failures : R → ℕ) (is_broken : R →
    Bool) (n : ℕ) (olds news : List R) (inputs : List InputProgress) : Type 0 where
  pub changed : Changed (λ r r'. Fared is_broken failures false r r' × (is_broken r' ≡ false)) n olds news
  pub many : length inputs ≡ n
  pub begun : AllByRecursion IsBegun inputs
  pub read : (q : ℕ) (p : InputProgress) (r r' : R) → slice_get inputs q ≡ Some p → slice_get olds q ≡ Some r → slice_get news q ≡ Some r'
      → HeaderRead p.source (device r) (device r')

pub get_front : {A : Type 0} (xs : List A) (y : A) (q : ℕ) (x : A) → slice_get (xs ++ y ∷ []) q ≡ Some x →
    ((q < length xs) × (slice_get xs q ≡ Some x)) ⊎ ((q ≡ length xs) × (x ≡ y))
get_front [] y zero x e = inr (refl, same_Some _ _ (sym e))
get_front {A = A} [] y (suc q) x e = absurd (no_place {W = A} (λ (z : A). z) q x e)
get_front (z ∷ xs) y zero x e = inl (omega arith, e)
get_front (z ∷ xs) y (suc q) x e = go (get_front xs y q x e)
  where
    go : ((q < length xs) × (slice_get xs q ≡ Some x)) ⊎ ((q ≡ length xs) × (x ≡ y)) → ((suc q < suc (length xs)) × (slice_get (z ∷ xs) (suc q) ≡ Some x))
        ⊎ ((suc q ≡ suc (length xs)) × (x ≡ y))
    go (inl (l, at)) = inl (omega (arith, l), at)
    go (inr (same, at)) = inr (ap suc same, at)

-- one header more
pub read_more : {R : Type 0} {device : R → Device} {failures : R → ℕ} {is_broken : R → Bool} {n : ℕ} {olds news : List R} {inputs : List InputProgress}
    {r : R} (u : R) (p : InputProgress) → ReadFirst device failures is_broken n olds news inputs → slice_get news n ≡ Some r
    → Fared is_broken failures false r u → is_broken u ≡ false → IsBegun p → HeaderRead p.source (device r) (device u) →
    ReadFirst device failures is_broken (n + 1) olds (slice_set news n u) (inputs ++ p ∷ [])
read_more {R = R} {device = device} {n = n} {olds = olds} {news = news} {inputs = inputs} {r = r} u p c at fared sound begun known = record {
  changed = changed_more u c.changed at (fared, sound);
  many = omega (arith, length-append inputs (p ∷ []), c.many);
  begun = all_join IsBegun inputs (p ∷ []) c.begun (begun, tt);
  read = read;
}
  where
    read : (q : ℕ) (i : InputProgress) (x x' : R) → slice_get (inputs ++ p ∷ []) q ≡ Some i → slice_get olds q ≡ Some x
        → slice_get (slice_set news n u) q ≡ Some x'
        → HeaderRead i.source (device x) (device x')
    read q i x x' there_i here there = go (get_front inputs p q i there_i)
      where
        go : ((q < length inputs) × (slice_get inputs q ≡ Some i)) ⊎ ((q ≡ length inputs) × (i ≡ p)) → HeaderRead i.source (device x) (device x')
        go (inl (l, front)) = c.read q i x x' front here (sym (get_set_other news n q u (λ e. absurd (omega (arith, l, e, c.many)))) ∙ there)
        go (inr (e, is)) =
            let index : q ≡ n = e ∙ c.many in
            let old : x ≡ r = old_of c.changed at (rw index at here) in
            let new : x' ≡ u = new_of n news r u x' at (rw index at there) in
            rw (old, new, is) known

-- all headers were read: the inputs are at their first records
pub progress_begun : (p : InputProgress) → IsBegun p → IsProgressOf p (begun p)
progress_begun p is = record {
  unit = refl;
  state = refl;
  goes_on = rw is.state (is.source.is_open, is.source.given);
  few = omega arith;
}

-- so its source has read no record yet
unread_by : (p : InputProgress) (a b : Device) → p.state ≡ Open → HeaderRead p.source a b → IsReadBy (begun p) p.source a b
unread_by p a b is h =
    read_open (begun p) p.source a b is (rw is h.has) (rw is (omega (arith, h.calls, length_none p.source.unit)))

pub all_progress : {R : Type 0} {device : R → Device} {failures : R → ℕ} {is_broken : R → Bool} {n : ℕ} {olds news : List R} {inputs : List InputProgress}
    → ReadFirst device failures is_broken n olds news inputs → AreProgressOf (map device olds) (map device news) inputs (all_begun inputs)
all_progress {device = device} {olds = olds} {news = news} {inputs = inputs} c = record {
  many = sym (length-map inputs begun);
  each = λ q p i at at'. let (w, there, is) = answers_at begun inputs q i at' in
      let same : w ≡ p = same_Some w p (sym there ∙ at) in
      rw (is, same) (progress_begun p (each_at IsBegun inputs q p c.begun at));
  read = λ q p i at at'. let (w, there_w, is) = answers_at begun inputs q i at' in
      let same : w ≡ p = same_Some w p (sym there_w ∙ at) in
      let is_open = (each_at IsBegun inputs q p c.begun at).state in
      in_answers device (IsReadBy i p.source) olds news q
      (λ x x' here there. rw (is, same) (unread_by p (device x) (device x') is_open (c.read q p x x' at here there)));
}

-- what was read of inputs whose headers were read
read_begun : {R : Type 0} {device : R → Device} {failures : R → ℕ} {is_broken : R → Bool} {n : ℕ} {olds news : List R} {inputs : List InputProgress}
    (u : R) → ReadFirst device failures is_broken n olds news inputs → AreRead (map device olds) (map device (slice_set news n u)) (all_begun inputs)
read_begun {device = device} {n = n} {olds = olds} {news = news} {inputs = inputs} u c q i at =
    let (p, there_p, is) = answers_at begun inputs q i at in
    let is_open = (each_at IsBegun inputs q p c.begun there_p).state in
    let below : q < n = omega (arith, slice_get_within inputs q p there_p, c.many) in
    in_answers device (IsRead i) olds (slice_set news n u) q
    (λ x x' here there. rw is (read_as (begun p) p.source (device x) (device x') refl (unread_by p (device x) (device x') is_open
    (c.read q p x x' there_p here (sym (get_set_other news n q u (λ e. absurd (omega (arith, below, e)))) ∙ there)))))

-- inputs of which no record was read
pub none_read : (progress : List InputProgress) → AllByRecursion IsBegun progress → AreUnread (all_begun progress)
none_read [] begun = tt
none_read (x ∷ progress) begun = ((refl, begun.0.state), none_read progress begun.1)

-- the header of an input is at fault
pub header_fault : {R : Type 0} {device : R → Device} {failures : R → ℕ} {is_broken : R → Bool} {n : ℕ} {olds news : List R} {inputs : List InputProgress}
    {r : R} (u : R) (error : PcapError) → ReadFirst device failures is_broken n olds news inputs → slice_get news n ≡ Some r
    → ReadsBadHeader error (device r) (device u) → HasHeaderFault (map device olds) (map device (slice_set news n u)) n error
header_fault {device = device} {n = n} {olds = olds} {news = news} {inputs = inputs} {r = r} u error c at bad = record {
  there = one_there device c.changed at;
  many = still_many device u c.changed;
  before = (
    all_begun inputs,
    length-map inputs begun ∙ c.many,
    none_read inputs c.begun,
    read_begun u c,
  );
  fault = in_answers device (ReadsBadHeader error) olds (slice_set news n u) n
      (λ x x' here there. rw (old_of c.changed at here, new_of n news r u x' at there) bad);
  after = same_after device u c.changed;
}
