-- The drains of all ports, one after the other.
use Rattle.std.proofs.Common.{◌≡◌, ◌≢◌, ℕ, zero, suc, ◌+◌, ◌<◌, Bool, true, false, List, [], ◌∷◌, length, map, Some, refl, sym, ◌∙◌}
use Rattle.std.proofs.Common.{ap, arith, ◌⊎◌, inl, inr}
use Rattle.std.specs.Prelude.{slice_get, slice_set, nat_lt, flat_map, option_map, if◌then◌else◌, Result, Ok, Err, IfOk, IfErr, is_err}
use Rattle.std.specs.Option.{option_map_or}
use Rattle.std.proofs.lemmas.Bool.{lt-ltb, le-ltb, ltb-true, ltb-false}
use Rattle.std.proofs.lemmas.List.{length-map, length-set}
use Rattle.std.proofs.lemmas.Option.{slice_get-map, same_Some, slice_get_within}
use Rattle.std.proofs.KnownBytes.{Appends-trans}
use Rattle.dp_pcap.specs.declared.time.Time.{Time}
use Rattle.dp_pcap.specs.declared.time.Unit.{Unit as TimeUnit}
use Rattle.dp_pcap.specs.Text.{record_text}
use Rattle.dp_model.specs.Packets.{Packet, packet_bytes}
use Rattle.dp_model.specs.Machine.{World}
use Rattle.dp_model.specs.Runs.{records_at}
use Rattle.dp_model.specs.Laws.Lists.{get_set_other, get_set_same, get_within, map_get}
use Rattle.dp_engine.specs.declared.report.Tallies.{Tallies}
use Rattle.dp_engine.specs.Drains.{captured}
use Rattle.dp_engine.specs.Engines.{EngineState, tallies_at, drained}
use Rattle.dp_pipe.specs.Devices.{Device, IsGiven, At}
use Rattle.dp_pipe.specs.Forwarding.{capture_of, records_text, drained_at, first_emptied, DrainedFirst, DrainedPart, DrainsStopped}
use Rattle.dp_pipe.proofs.Giving.{given_then}

pub emptied_all : (lists : List (List Packet)) → first_emptied (length lists) lists ≡ map (λ _. []) lists
emptied_all [] = refl
emptied_all (packets ∷ lists) = ap (λ l. [] ∷ l) (emptied_all lists)

emptied_more : (n : ℕ) (lists : List (List Packet)) → first_emptied (suc n) lists ≡ slice_set (first_emptied n lists) n []
emptied_more zero [] = refl
emptied_more zero (packets ∷ lists) = refl
emptied_more (suc n) [] = refl
emptied_more (suc n) (packets ∷ lists) = ap (λ l. [] ∷ l) (emptied_more n lists)

emptied_same : (n : ℕ) (lists : List (List Packet)) → slice_get (first_emptied n lists) n ≡ slice_get lists n
emptied_same zero lists = refl
emptied_same (suc n) [] = refl
emptied_same (suc n) (packets ∷ lists) = emptied_same n lists

-- what a port's drain writes does not depend on those of the ports before it
pub records_same : (time : Time) (w : World) (n : ℕ) → slice_get (records_at time (record w { outboxes = first_emptied n w.outboxes })) n
    ≡ slice_get (records_at time w) n
records_same time w n =
    let f : List Packet → List (Time × List ℕ) = λ packets. map (λ bytes. (time, bytes)) (map (packet_bytes w.buffers) packets) in
    slice_get-map f (first_emptied n w.outboxes) n ∙ ap (option_map f) (emptied_same n w.outboxes) ∙ sym (slice_get-map f w.outboxes n)

-- an index of a list is another one, or it is this one
pub split : (q n : ℕ) → (q ≡ n) ⊎ (q ≢ n)
split zero zero = inl refl
split zero (suc n) = inr (λ e. absurd (omega (arith, e)))
split (suc q) zero = inr (λ e. absurd (omega (arith, e)))
split (suc q) (suc n) = go (split q n)
  where
    go : (q ≡ n) ⊎ (q ≢ n) → (suc q ≡ suc n) ⊎ (suc q ≢ suc n)
    go (inl e) = inl (ap suc e)
    go (inr d) = inr (λ e. d (omega (arith, e)))

-- whether q is below n + 1 is whether it is below n, except for n itself
below_more : (q n : ℕ) → q ≢ n → nat_lt q (suc n) ≡ nat_lt q n
below_more q n d = go (nat_lt q n) refl
  where
    go : (b : Bool) → nat_lt q n ≡ b → nat_lt q (suc n) ≡ nat_lt q n
    go true e = let lt = ltb-true q n e in lt-ltb q (suc n) (omega (arith, lt)) ∙ sym e
    go false e = let le = ltb-false q n e in le-ltb q (suc n) (omega (arith, le, d)) ∙ sym e

below_next : (n : ℕ) → nat_lt n (suc n) ≡ true
below_next n = lt-ltb n (suc n) (omega arith)

not_below : (n : ℕ) → nat_lt n n ≡ false
not_below n = le-ltb n n (omega arith)

pub tallies_other : (tallies : List Tallies) (n q : ℕ) (t : Tallies) → q ≢ n → tallies_at (slice_set tallies n t) q ≡ tallies_at tallies q
tallies_other [] n q t d = refl
tallies_other (x ∷ tallies) zero zero t d = absurd (d refl)
tallies_other (x ∷ tallies) zero (suc q) t d = refl
tallies_other (x ∷ tallies) (suc n) zero t d = refl
tallies_other (x ∷ tallies) (suc n) (suc q) t d = tallies_other tallies n q t (λ e. d (ap suc e))

pub tallies_same : (tallies : List Tallies) (n : ℕ) (t : Tallies) → n < length tallies → tallies_at (slice_set tallies n t) n ≡ t
tallies_same [] n t lt = absurd (omega (arith, lt))
tallies_same (x ∷ tallies) zero t lt = refl
tallies_same (x ∷ tallies) (suc n) t lt = tallies_same tallies n t (omega (arith, lt))

-- what the drain of a port adds to those before it
pub record DrainsNext (n : ℕ) (unit : TimeUnit) (time : Time) (e1 e2 : EngineState) (mids holds : List Device) : Type 0 where
  pub records : List (Time × List ℕ)
  pub records_is : slice_get (records_at time e1.world) n ≡ Some records
  pub own : At mids holds n (λ old new. IsGiven old new (records_text unit (map captured records)))
  pub others : (q : ℕ) → q ≢ n → slice_get holds q ≡ slice_get mids q
  pub is : e2 ≡ drained n (length records) e1

-- the engine after the drain of one more port
drained_stays : (n : ℕ) (unit : TimeUnit) (time : Time) (e e1 e2 : EngineState) (held mids holds : List Device) →
    DrainedFirst n unit time e e1 held mids → DrainsNext n unit time e1 e2 mids holds →
    e2 ≡ record e { world = record e.world { outboxes = first_emptied (suc n) e.world.outboxes }; tallies = e2.tallies }
drained_stays n unit time e e1 e2 held mids holds first next =
    let a : e2 ≡ record e1 { world = record e1.world { outboxes = slice_set e1.world.outboxes n [] }; tallies = e2.tallies } = rw next.is refl in
    let b : record e1 { world = record e1.world { outboxes = slice_set e1.world.outboxes n [] }; tallies = e2.tallies }
    ≡ record e { world = record e.world { outboxes = slice_set (first_emptied n e.world.outboxes) n [] }; tallies = e2.tallies } =
    ap (λ (x : EngineState). record x { world = record x.world { outboxes = slice_set x.world.outboxes n [] }; tallies = e2.tallies }) first.is in
    a ∙ b ∙ ap (λ l. record e { world = record e.world { outboxes = l }; tallies = e2.tallies }) (sym (emptied_more n e.world.outboxes))

pub drained_next : (n : ℕ) (unit : TimeUnit) (time : Time) (e e1 e2 : EngineState) (held mids holds : List Device)
    → n < length e.tallies → length mids ≡ length held → DrainedFirst n unit time e e1 held mids → DrainsNext n unit time e1 e2 mids holds →
    DrainedFirst (suc n) unit time e e2 held holds
drained_next n unit time e e1 e2 held mids holds lt many first next =
    let world = ap (λ (x : EngineState). x.world) first.is in
    let at_time : slice_get (records_at time e.world) n ≡ Some next.records =
    sym (records_same time e.world n) ∙ ap (λ (w : World). slice_get (records_at time w) n) (sym world) ∙ next.records_is in
    let here : drained_at time e.world n ≡ capture_of next.records = ap (λ o. option_map_or capture_of o []) at_time in
    let count : length (drained_at time e.world n) ≡ length next.records = ap length here ∙ length-map next.records captured in
    record {
      wrote = λ q old new a b. wrote q old new a b (split q n) here;
      is = drained_stays n unit time e e1 e2 held mids holds first next;
      each = ap (λ (x : EngineState). length x.tallies) next.is ∙ length-set e1.tallies n
          (record (tallies_at e1.tallies n) { sent = (tallies_at e1.tallies n).sent + length next.records }) ∙ first.each;
      tallies = λ q less. tallied q less (split q n) count;
    }
  where
    wrote : (q : ℕ) (old new : Device) → slice_get held q ≡ Some old → slice_get holds q ≡ Some new → (q ≡ n) ⊎ (q ≢ n)
        → drained_at time e.world n ≡ capture_of next.records
        → IsGiven old new (if nat_lt q (suc n) then records_text unit (drained_at time e.world q) else [])
    wrote q old new a b (inr other) here =
        let before = first.wrote q old new a (sym (next.others q other) ∙ b) in
        rw (below_more q n other) before
    wrote q old new a b (inl same) here =
        let a' : slice_get held n ≡ Some old = rw same at a in
        let b' : slice_get holds n ≡ Some new = rw same at b in
        let (mid, m) = get_within mids n (omega (arith, slice_get_within held n old a', many)) in
        let before : IsGiven old mid [] = rw (not_below n) at (first.wrote n old mid a' m) in
        let after : IsGiven old new (records_text unit (drained_at time e.world n)) = rw here (given_then old mid new [] _ before (next.own mid new m b')) in
        rw (same, below_next n) after

    tallied : (q : ℕ) → q < length e.setting.env.ports → (q ≡ n) ⊎ (q ≢ n) → length (drained_at time e.world n) ≡ length next.records
        → tallies_at e2.tallies q ≡ record (tallies_at e.tallies q) {
          sent = (tallies_at e.tallies q).sent
              + (if nat_lt q (suc n) then length (drained_at time e.world q) else 0);
        }
    tallied q less (inr other) count =
        let t = ap (λ (x : EngineState). tallies_at x.tallies q) next.is
        ∙ tallies_other e1.tallies n q (record (tallies_at e1.tallies n) { sent = (tallies_at e1.tallies n).sent + length next.records }) other in
        t ∙ rw (below_more q n other) (first.tallies q less)
    tallied q less (inl same) count =
        let before : tallies_at e1.tallies n ≡ record (tallies_at e.tallies n) { sent = (tallies_at e.tallies n).sent + 0 } =
        rw (not_below n) at (first.tallies n (omega (arith, less, same))) in
        let t = ap (λ (x : EngineState). tallies_at x.tallies n) next.is
        ∙ tallies_same e1.tallies n (record (tallies_at e1.tallies n) { sent = (tallies_at e1.tallies n).sent + length next.records })
        (omega (arith, lt, first.each)) in
        let u : tallies_at e2.tallies n ≡ record (tallies_at e.tallies n) { sent = (tallies_at e.tallies n).sent + length (drained_at time e.world n) } =
        t ∙ ap (λ (x : Tallies). record x { sent = x.sent + length next.records }) before
        ∙ ap (λ m. record (tallies_at e.tallies n) { sent = m }) (omega (arith, count)) in
        rw (same, below_next n) u

-- ---- writers by their ports

pub map_other : {A B : Type 0} (f : A → B) (xs : List A) (n q : ℕ) (x : A) → q ≢ n → slice_get (map f (slice_set xs n x)) q ≡ slice_get (map f xs) q
map_other f xs n q x other = slice_get-map f (slice_set xs n x) q ∙ ap (option_map f) (get_set_other xs n q x other) ∙ sym (slice_get-map f xs q)

pub map_here : {A B : Type 0} (f : A → B) (xs : List A) (n : ℕ) (x y : A) → slice_get xs n ≡ Some y → slice_get (map f (slice_set xs n x)) n ≡ Some (f x)
map_here f xs n x y here = slice_get-map f (slice_set xs n x) n ∙ ap (option_map f) (get_set_same xs n x y here)

pub ok_some : {A E : Type 0} (r : Result A E) (P : A → Type 0) → false ≡ is_err r → IfOk r P → (x : A) × (r ≡ Ok x) × P x
ok_some (Ok x) P e h = (x, refl, h)
ok_some (Err x) P e h = cc

pub err_some : {A E : Type 0} (r : Result A E) (P : E → Type 0) → true ≡ is_err r → IfErr r P → (x : E) × (r ≡ Err x) × P x
err_some (Err x) P e h = (x, refl, h)
err_some (Ok x) P e h = cc

-- one drain after those of the ports before it
pub drain_on : {A : Type 0} (f : A → Device) (n : ℕ) (unit : TimeUnit) (time : Time) (e1 e2 : EngineState) (outs : List A) (w w' : A) (sent : ℕ)
    (records : List (Time × List ℕ))
    → slice_get outs n ≡ Some w → slice_get (records_at time e1.world) n ≡ Some records → sent ≡ length (map captured records) →
    IsGiven (f w) (f w') (flat_map (record_text unit) (map captured records))
    → e2 ≡ drained n sent e1 → DrainsNext n unit time e1 e2 (map f outs) (map f (slice_set outs n w'))
drain_on f n unit time e1 e2 outs w w' sent records here at count wrote is = record {
  records = records;
  records_is = at;
  own = λ old new a b.
      let first : f w ≡ old = same_Some _ _ (sym (map_get f outs n w here) ∙ a) in
      let second : f w' ≡ new = same_Some _ _ (sym (map_here f outs n w' w here) ∙ b) in
      rw (← first, ← second) wrote;
  others = λ q other. map_other f outs n q w' other;
  is = is ∙ ap (λ m. drained n m e1) (count ∙ length-map records captured);
}

-- the writer of a port failed after the drains of those before it
pub stopped : {A : Type 0} (f : A → Device) (n : ℕ) (unit : TimeUnit) (time : Time) (e e1 e2 : EngineState) (outs mids : List A) (w w' : A)
    (whole : ℕ) (records : List (Time × List ℕ))
    → n < length e.setting.env.ports → DrainedFirst n unit time e e1 (map f outs) (map f mids) → slice_get mids n ≡ Some w →
    slice_get (records_at time e1.world) n ≡ Some records
    → DrainedPart unit (map captured records) whole (f w) (f w') → e2 ≡ drained n whole e1
    → DrainsStopped unit time e e2 (map f outs) (map f (slice_set mids n w')) n
stopped f n unit time e e1 e2 outs mids w w' whole records there first here at wrote is =
    let world = ap (λ (x : EngineState). x.world) first.is in
    let at_time : slice_get (records_at time e.world) n ≡ Some records =
    sym (records_same time e.world n) ∙ ap (λ (x : World). slice_get (records_at time x) n) (sym world) ∙ at in
    let mine : drained_at time e.world n ≡ capture_of records = ap (λ o. option_map_or capture_of o []) at_time in
    record {
      there = there;
      engine = e1;
      mids = map f mids;
      first = first;
      others = λ q other. map_other f mids n q w' other;
      whole = whole;
      own = λ old new a b. owned mine old new a b;
      is = is;
    }
  where
    owned : drained_at time e.world n ≡ capture_of records → (old new : Device) → slice_get (map f outs) n ≡ Some old →
        slice_get (map f (slice_set mids n w')) n ≡ Some new → DrainedPart unit (drained_at time e.world n) whole old new
    owned mine old new a b =
        let mid = map_get f mids n w here in
        let before : IsGiven old (f w) [] = rw (not_below n) at (first.wrote n old (f w) a mid) in
        let second : f w' ≡ new = same_Some _ _ (sym (map_here f mids n w' w here) ∙ b) in
        rw (mine, ← second) (record {
          part = record {
            next = wrote.part.next;
            next_is = wrote.part.next_is;
            bytes = wrote.part.bytes;
            part = wrote.part.part;
            wrote = Appends-trans old.bytes (f w).bytes (f w').bytes [] _ before.grown wrote.part.wrote;
          };
          calls = omega (arith, before.calls, wrote.calls);
        })
