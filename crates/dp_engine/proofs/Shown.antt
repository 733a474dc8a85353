-- What watchers are shown of a turn: of a record, and of packets in rings.
use Rattle.std.proofs.Common.{◌≡◌, ℕ, zero, suc, ◌+◌, ◌-◌, ◌<◌, ◌≤◌, Bool, true, false, List, [], ◌∷◌, ◌++◌, length, Option, Some, None, refl, sym, ◌∙◌, ap}
use Rattle.std.proofs.Common.{subst, arith, append_assoc, append-nil}
use Rattle.std.specs.Prelude.{slice_get}
use Rattle.dp_model.specs.declared.env.Entry.TheVariants.{Port, Ring}
use Rattle.dp_model.specs.declared.env.PortSpec.{PortSpec}
use Rattle.dp_model.specs.declared.instr.Instr.{Instr}
use Rattle.dp_model.specs.Environments.{room_at}
use Rattle.dp_model.specs.Packets.{needed, received}
use Rattle.dp_model.specs.Machine.{Setting, World, State, Ended, is_denied}
use Rattle.dp_model.specs.Runs.{first_state, between, Outcome, Got, first_waiting, runs_of, packet_received}
use Rattle.dp_model.specs.Safety.{Beginning, IsOfRecord}
use Rattle.dp_engine.specs.declared.run.NodeRun as took
use Rattle.dp_engine.specs.Handles.{Core}
use Rattle.dp_engine.specs.Midway.{Watches}
use Rattle.dp_engine.specs.Schemes.{Scheme}
use Rattle.dp_engine.specs.Serving.{WatchesOne, WatchesArrival, WatchesNext, WatchesServing}
use Rattle.dp_engine.specs.Turns.{IsReceived}
use Rattle.dp_engine.specs.Watching.{Event, Began, SeesAll, ShowsRun, ShowsServing, WatchesTurn, of_ring}
use Rattle.dp_engine.specs.WatchLaws.{sees_join}
use Rattle.dp_engine.proofs.Served.{Next, where_some, where_none}

-- ---- node runs

-- a watcher that is shown the beginning of a run in a state, and then each of its steps, is shown that node run
shows_run : {V : Type 0} (sees : V → Event → V → Type 0) (v v1 v2 : V) (c : Setting) (b : Beginning) (s s' : State)
    → s ≡ first_state b.packet b.number b.world → sees v (Began b.entry s) v1 → Watches sees v1 v2 c b.program s Ended s'
    → (answers : List Bool) × (events : List Event) × ShowsRun c b answers s'.world events × SeesAll sees v events v2
shows_run sees v v1 v2 c b s s' is begun watched =
    let s0 = first_state b.packet b.number b.world in
    let w = subst (λ (x : State). Watches sees v1 v2 c b.program x Ended s') is watched in (
      w.answers,
      Began b.entry s0 ∷ w.events,
      record { steps = w.events; last = s'; passes = w.passes; world_is = refl; events_are = refl },
      (v1, subst (λ (x : State). sees v (Began b.entry x) v1) is begun, w.seen),
    )

-- ---- a record

-- what is shown where a record is received
pub received_shows : {V : Type 0} (sees : V → Event → V
    → Type 0) (v v1 v2 : V) (s : Scheme) (program : List Instr) (port : ℕ) (spec : PortSpec) (bytes : List ℕ)
    (w : World) (st s' : State) → slice_get s.setting.env.ports port ≡ Some spec → slice_get s.nodes.ports port ≡ Some program
    → needed s.setting.env.pools spec.pool (length bytes) ≤ spec.segs
    → is_denied s.setting (between w) spec.pool (needed s.setting.env.pools spec.pool (length bytes)) ≡ false
    → IsReceived s.setting spec.pool port bytes w st → sees v (Began (Port port) st) v1 → Watches sees v1 v2 s.setting program st Ended s'
    → WatchesArrival sees v v2 s port bytes w Got s'.world
received_shows sees v v1 v2 s program port spec bytes w st s' is_spec is_program fits given r begun watched =
    let b : Beginning = record {
      entry = Port port;
      program = program;
      packet = packet_received s.setting spec bytes r.numbers;
      number = port;
      world = record w { buffers = r.buffers; calls = w.calls + 1 };
    } in
    let of_record : IsOfRecord s.setting s.nodes port bytes w b = record {
      spec = spec;
      spec_is = is_spec;
      program = program;
      program_is = is_program;
      reception = record { fits = fits; given = given; numbers = r.numbers; buffers = r.buffers; fresh = r.fresh; filled = r.filled };
      is = refl;
    } in
    let (answers, events, shows, seen) = shows_run sees v v1 v2 s.setting b st s' r.state begun watched in
    record { answers = true ∷ answers; events = events; shows = (b, answers, of_record, refl, shows); seen = seen }

-- ---- a packet that waits

-- what is shown of its node run
pub next_shows : {V : Type 0} (sees : V → Event → V → Type 0) (v v1 v2 : V) (s : Scheme) (program : List Instr) (m m' m2 : Core) (ring : ℕ)
    → slice_get s.nodes.rings ring ≡ Some program → (n : Next s.setting s.nodes m m' ring) → sees v (Began (Ring ring) m'.state) v1
    → Watches sees v1 v2 s.setting program m'.state Ended m2.state → WatchesNext sees v v2 s m.state.world m2.state.world
next_shows sees v v1 v2 s program m m' m2 ring is_program n begun watched =
    let (answers, events, shows, seen) = shows_run sees v v1 v2 s.setting (of_ring program n.next m.state.world) m'.state m2.state
    (ap (λ (x : Core). x.state) n.taken) (subst (λ k. sees v (Began (Ring k) m'.state) v1) (sym n.ring_is) begun) watched in
    record {
      next = n.next;
      waits = n.waits;
      program = program;
      program_is = ap (slice_get s.nodes.rings) n.ring_is ∙ is_program;
      answers = answers;
      events = events;
      shows = shows;
      seen = seen;
    }

-- ---- one after the other

-- where none waits, nothing is shown
shows_none : (c : Setting) (programs : List (List Instr)) (n : ℕ) (w : World) → first_waiting w.rings ≡ None → ShowsServing c programs n w [] 0 w []
shows_none c programs zero w none = (refl, refl, refl, refl)
shows_none c programs (suc n) w none = where_none _ _ (first_waiting w.rings) none (refl, refl, refl, refl)

-- where one waits, its node run is shown first
shows_one : {V : Type 0} (sees : V → Event → V → Type 0) (v v' : V) (s : Scheme) (n : ℕ) (w mid w' : World) (later : List Bool) (more : ℕ) (rest : List Event)
    → (o : WatchesNext sees v v' s w mid) → ShowsServing s.setting s.nodes.rings n mid later more w' rest
    → ShowsServing s.setting s.nodes.rings (suc n) w (o.answers ++ later) (more + 1) w' (o.events ++ rest)
shows_one sees v v' s n w mid w' later more rest o serves =
    where_some _ _ (first_waiting w.rings) o.next o.waits
    (o.program, o.answers, later, mid, more, o.events, rest, o.program_is, o.shows, serves, refl, refl, refl)

-- what was shown of the first i rounds
pub record Seen {V : Type 0} (sees : V → Event → V → Type 0) (v0 v : V) (s : Scheme) (m0 m : Core) (i runs : ℕ) : Type 0 where
  pub answers : List Bool
  pub events : List Event
  pub shows : (later : List Bool) (more : ℕ) (w : World) (rest : List Event) → ShowsServing s.setting s.nodes.rings (32 - i) m.state.world later more w rest
      → ShowsServing s.setting s.nodes.rings 32 m0.state.world (answers ++ later) (runs + more) w (events ++ rest)
  pub seen : SeesAll sees v0 events v

pub nothing_seen : {V : Type 0} (sees : V → Event → V → Type 0) (v : V) (s : Scheme) (m : Core) → Seen sees v v s m m 0 0
nothing_seen sees v s m = record {
  answers = [];
  events = [];
  shows = λ later more w rest serves. subst (λ n. ShowsServing s.setting s.nodes.rings 32 m.state.world later n w rest) (omega arith) serves;
  seen = refl;
}

pub one_seen : {V : Type 0} (sees : V → Event → V → Type 0) (v0 v v' : V) (s : Scheme) (m0 m m' : Core) (i runs : ℕ) → i < 32 → Seen sees v0 v s m0 m i runs
    → WatchesNext sees v v' s m.state.world m'.state.world → Seen sees v0 v' s m0 m' (i + 1) (runs + 1)
one_seen sees v0 v v' s m0 m m' i runs less r o = record {
  answers = r.answers ++ o.answers;
  events = r.events ++ o.events;
  shows = λ later more w rest serves.
      let Serve = ShowsServing s.setting s.nodes.rings in
      let one : ShowsServing s.setting s.nodes.rings (suc (32 - (i + 1))) m.state.world (o.answers ++ later) (more + 1) w (o.events ++ rest) = shows_one sees
      v v' s (32 - (i + 1)) m.state.world m'.state.world w later more rest o serves in
      let left : suc (32 - (i + 1)) ≡ 32 - i = omega (arith, less) in
      let sum : runs + (more + 1) ≡ (runs + 1) + more = omega arith in
      let all = r.shows (o.answers ++ later) (more + 1) w (o.events ++ rest)
      (subst (λ n. ShowsServing s.setting s.nodes.rings n m.state.world (o.answers ++ later) (more + 1) w (o.events ++ rest)) left one) in
      subst (λ n. ShowsServing s.setting s.nodes.rings 32 m0.state.world ((r.answers ++ o.answers) ++ later) n w ((r.events ++ o.events) ++ rest)) sum
      (subst (λ l. ShowsServing s.setting s.nodes.rings 32 m0.state.world ((r.answers ++ o.answers) ++ later) (runs + (more + 1)) w l)
      (sym (append_assoc r.events o.events rest))
      (subst (λ l. ShowsServing s.setting s.nodes.rings 32 m0.state.world l (runs + (more + 1)) w (r.events ++ (o.events ++ rest)))
      (sym (append_assoc r.answers o.answers later)) all));
  seen = sees_join sees v0 v v' r.events o.events r.seen o.seen;
}

-- what was shown in all rounds is what is shown of the serving
seen_end : {V : Type 0} (sees : V → Event → V → Type 0) (v0 v : V) (s : Scheme) (m0 m : Core) (i runs : ℕ) (w : World) → Seen sees v0 v s m0 m i runs
    → ShowsServing s.setting s.nodes.rings (32 - i) m.state.world [] 0 w [] → WatchesServing sees v0 v s m0.state.world runs w
seen_end sees v0 v s m0 m i runs w r last = record {
  answers = r.answers ++ [];
  events = r.events ++ [];
  shows = subst (λ n. ShowsServing s.setting s.nodes.rings 32 m0.state.world (r.answers ++ []) n w (r.events ++ [])) (omega arith) (r.shows [] 0 w [] last);
  seen = subst (λ l. SeesAll sees v0 l v) (sym (append-nil r.events)) r.seen;
}

pub unseen : {V : Type 0} (sees : V → Event → V → Type 0) (v v' : V) (s : Scheme) (w : World) (o : Option took.NodeRun) (w' : World)
    → ((x : took.NodeRun) → o ≡ Some x → ⊥) → WatchesOne sees v v' s w o w' → v' ≡ v
unseen sees v v' s w None w' none h = h
unseen sees v v' s w (Some run) w' none h = absurd (none run refl)

-- because no packet waits any more
pub seen_none : {V : Type 0} (sees : V → Event → V → Type 0) (v0 v v' : V) (s : Scheme) (m0 m : Core) (i runs : ℕ) (w : World) → Seen sees v0 v s m0 m i runs
    → first_waiting m.state.world.rings ≡ None → w ≡ m.state.world → v' ≡ v → WatchesServing sees v0 v' s m0.state.world runs w
seen_none sees v0 v v' s m0 m i runs w r none is same =
    subst (λ x. WatchesServing sees v0 x s m0.state.world runs w) (sym same)
    (seen_end sees v0 v s m0 m i runs w r (subst (λ (x : World). ShowsServing s.setting s.nodes.rings (32 - i) m.state.world [] 0 x []) (sym is)
    (shows_none s.setting s.nodes.rings (32 - i) m.state.world none)))

-- or because there were 32
pub seen_all : {V : Type 0} (sees : V → Event → V → Type 0) (v0 v : V) (s : Scheme) (m0 m : Core) (i runs : ℕ) → 32 ≤ i → Seen sees v0 v s m0 m i runs
    → WatchesServing sees v0 v s m0.state.world runs m.state.world
seen_all sees v0 v s m0 m i runs all r =
    let none : 0 ≡ 32 - i = omega (arith, all) in
    seen_end sees v0 v s m0 m i runs m.state.world r (subst (λ n. ShowsServing s.setting s.nodes.rings n m.state.world [] 0 m.state.world []) none
    (refl, refl, refl, refl))

-- ---- a turn

-- what was shown of its record and of its rings is what is shown of the turn
pub watches_turn : {V : Type 0} (sees : V → Event → V → Type 0) (v v1 v2 : V) (s : Scheme) (port : ℕ) (bytes : List ℕ) (w mid w' : World) (outcome : Outcome)
    (more all : ℕ) → all ≡ runs_of outcome + more → WatchesArrival sees v v1 s port bytes w outcome mid
    → WatchesServing sees v1 v2 s mid more w' → WatchesTurn sees v v2 s.setting s.nodes port bytes w outcome all w'
watches_turn sees v v1 v2 s port bytes w mid w' outcome more all sum a r = record {
  answers = a.answers ++ r.answers;
  events = a.events ++ r.events;
  turn = record {
    mid = mid;
    now = a.answers;
    first = a.events;
    arrives = a.shows;
    later = r.answers;
    more = more;
    rest = r.events;
    serves = r.shows;
    answers_are = refl;
    runs_are = sum;
    events_are = refl;
  };
  seen = sees_join sees v v1 v2 a.events r.events a.seen r.seen;
}
