-- Node runs of a context, on a record and on packets in rings.
use Rattle.std.proofs.Common.{◌≡◌, ℕ, zero, suc, ◌+◌, ◌-◌, ◌*◌, ◌<◌, ◌≤◌, Bool, true, false, List, [], ◌∷◌, ◌++◌, length, Option, Some, None, inl}
use Rattle.std.proofs.Common.{not, ◌&&◌, refl, sym, ◌∙◌, ap, subst, arith, append_assoc}
use Rattle.std.specs.Prelude.{slice_get, slice_index_or, option_map, position, nat_le, MatchOption}
use Rattle.std.specs.List.{AllByRecursion}
use Rattle.std.proofs.lemmas.Bool.{leb-true, and_parts}
use Rattle.std.proofs.lemmas.Option.{same_Some, slice_get_within, slice_get-get_or}
use Rattle.dp_model.specs.declared.env.Entry.TheVariants.{Port, Ring}
use Rattle.dp_model.specs.declared.env.EnvError.TheVariants.{BadNumber, BadPort}
use Rattle.dp_model.specs.declared.env.PoolSpec.{PoolSpec}
use Rattle.dp_model.specs.declared.env.PortSpec.{PortSpec}
use Rattle.dp_model.specs.declared.instr.Instr.{Instr}
use Rattle.dp_model.specs.Environments.{Environment, room_at, is_ring_count, pool_fits, port_fits, numbers_fit, fault_of}
use Rattle.dp_model.specs.Packets.{Packet, first_len, needed}
use Rattle.dp_model.specs.Machine.{Setting, World, State, Holds, live, is_denied}
use Rattle.dp_model.specs.Meaning.{RingHolds}
use Rattle.dp_model.specs.Runs.{first_state, between, Consumed, Receives, Waiting, beyond, first_waiting, Serves, Nodes, packet_received, Reception}
use Rattle.dp_model.specs.Safety.{IsAtRest, Beginning, IsOfRecord, IsSafeBeginning, IsPipeline, KeepsSafe}
use Rattle.dp_model.specs.Laws.Lists.{get_within, zip_back}
use Rattle.dp_model.specs.Laws.Limits.{segs_small, if_none, or_none, map_none, not_false, none_at}
use Rattle.dp_model.specs.Laws.Within.{IsInside, inside_held}
use Rattle.dp_model.specs.Laws.Waiting.{waits}
use Rattle.dp_model.specs.Laws.Runs.{safe_never_stuck, safe_rests}
use Rattle.dp_engine.specs.declared.run.NodeRun as took
use Rattle.dp_engine.specs.Handles.{Core, moved}
use Rattle.dp_engine.specs.Laws.{known}
use Rattle.dp_engine.specs.Schemes.{Scheme}
use Rattle.dp_engine.specs.Serving.{ServesOne, ServesNext, Rests}
use Rattle.dp_engine.specs.Steps.{KeepsFirstsShort, CanRun, Runs}
use Rattle.dp_engine.specs.Tallies.{held_count, listed_count, packet_count}
use Rattle.dp_engine.specs.Turns.{IsReceived}
use Rattle.dp_engine.proofs.Refusals.{within}

-- ---- a node run

-- no data room of an environment is larger than permitted
small_room : (pools : List PoolSpec) (k : ℕ) → AllByRecursion (λ s. pool_fits s ≡ true) pools → room_at pools k ≤ 4096
small_room [] k fit = omega arith
small_room (s ∷ pools) zero fit = (within s fit.0).room
small_room (s ∷ pools) (suc k) fit = small_room pools k fit.1

-- so no segment within one is
short_first : (c : Setting) (s : State) → fault_of c.env ≡ None → IsInside c s → (p : ℕ) (k : Packet) → Holds s p k → first_len k ≤ 4096
short_first c s limits inside p [] holds = omega arith
short_first c s limits inside p (t ∷ k) holds =
    let fits = (inside_held c s p (t ∷ k) inside holds).0.fits in
    omega (arith, fits, small_room c.env.pools t.buffer.pool (known c.env limits).pools_fit)

-- wherever a safe run is
firsts_short : (c : Setting) (b : Beginning) → fault_of c.env ≡ None → IsSafeBeginning c b
    → KeepsFirstsShort c b.program (first_state b.packet b.number b.world)
firsts_short c b limits safe = subst (λ p. KeepsFirstsShort c p (first_state b.packet b.number b.world)) safe.program_is
    (λ n label answers s goes. short_first c s limits (safe.safe.stays n label answers s goes).well_formed.within)

-- a safe run can run
can_run : (c : Setting) (nodes : Nodes) (b : Beginning) → KeepsSafe c nodes → fault_of c.env ≡ None → IsSafeBeginning c b
    → CanRun c b.program (first_state b.packet b.number b.world)
can_run c nodes b keeps limits safe = record {
  first = refl;
  eight = refl;
  never_stuck = safe_never_stuck c b safe;
  leads = keeps.leads b safe;
  firsts = firsts_short c b limits safe;
}

-- ---- a record

-- a port takes packets of at least one segment
segs_some : (e : Environment) (k : ℕ) (p : PortSpec) → fault_of e ≡ None → slice_get e.ports k ≡ Some p → 1 ≤ p.segs
segs_some e k p h is =
    let room = nat_le 129 (room_at e.pools p.pool) in
    let pass : position (λ p. not (port_fits e.pools p)) e.ports ≡ None =
    map_none BadPort _ (or_none _ _ (or_none _ _ (or_none _ _ (if_none (numbers_fit e) _ BadNumber h).1).1).1).0 in
    let fits = not_false (port_fits e.pools p) (none_at (λ p. not (port_fits e.pools p)) e.ports k p pass is) in
    let upper = (and_parts (room && nat_le 1 p.segs && nat_le p.segs 64) (is_ring_count p.queue) fits).0 in
    leb-true 1 p.segs (and_parts room (nat_le 1 p.segs) (and_parts (room && nat_le 1 p.segs) (nat_le p.segs 64) upper).0).1

-- what is known about a port
pub record AtPort (c : Setting) (nodes : Nodes) (port : ℕ) (spec : PortSpec) : Type 0 where
  pub spec_is : slice_get c.env.ports port ≡ Some spec
  pub program : List Instr
  pub program_is : slice_get nodes.ports port ≡ Some program
  pub room : 129 ≤ room_at c.env.pools spec.pool
  pub segs : spec.segs ≤ 64
  pub some_segs : 1 ≤ spec.segs

pub at_port : (c : Setting) (nodes : Nodes) (ports : List PortSpec) (port : ℕ) (d : PortSpec) → IsPipeline c nodes → ports ≡ c.env.ports
    → port < length c.env.ports → AtPort c nodes port (slice_index_or ports port d)
at_port c nodes ports port d pipeline same less =
    let spec = slice_index_or ports port d in
    let long : length ports ≡ length c.env.ports = ap length same in
    let is_spec : slice_get c.env.ports port ≡ Some spec = subst (λ l. slice_get l port ≡ Some spec) same
    (slice_get-get_or ports port d (omega (arith, long, less))) in
    let (program, is_program) = get_within nodes.ports port (omega (arith, less, pipeline.ports)) in
    record {
      spec_is = is_spec;
      program = program;
      program_is = is_program;
      room = pipeline.checked.rooms port spec is_spec;
      some_segs = segs_some c.env port spec pipeline.limits is_spec;
      segs = segs_small c.env port spec.segs pipeline.limits (ap (option_map (λ (p : PortSpec). p.segs)) is_spec);
    }

-- the node run of a received record
pub record Received (c : Setting) (program : List Instr) (port : ℕ) (spec : PortSpec) (bytes : List ℕ) (w : World) (s : State) : Type 0 where
  pub can_run : CanRun c program s
  pub receives : (s' : State) → Runs c program s s' → (answers : List Bool) × Receives c program port spec bytes w answers s'.world

pub received_is : (c : Setting) (nodes : Nodes) (program : List Instr) (port : ℕ) (spec : PortSpec) (bytes : List ℕ) (w : World) (s : State)
    → KeepsSafe c nodes → fault_of c.env ≡ None → slice_get c.env.ports port ≡ Some spec → slice_get nodes.ports port ≡ Some program → IsAtRest c w
    → needed c.env.pools spec.pool (length bytes) ≤ spec.segs → is_denied c (between w) spec.pool (needed c.env.pools spec.pool (length bytes)) ≡ false
    → IsReceived c spec.pool port bytes w s → Received c program port spec bytes w s
received_is c nodes program port spec bytes w s keeps limits is_spec is_program rest fits given r =
    let reception : Reception c spec bytes w =
    record { fits = fits; given = given; numbers = r.numbers; buffers = r.buffers; fresh = r.fresh; filled = r.filled } in
    let b : Beginning = record {
      entry = Port port;
      program = program;
      packet = packet_received c spec bytes r.numbers;
      number = port;
      world = record w { buffers = r.buffers; calls = w.calls + 1 };
    } in
    let of_record : IsOfRecord c nodes port bytes w b = record {
      spec = spec;
      spec_is = is_spec;
      program = program;
      program_is = is_program;
      reception = reception;
      is = refl;
    } in
    subst (Received c program port spec bytes w) (sym r.state) (record {
      can_run = can_run c nodes b keeps limits (keeps.turn_runs port bytes w b rest (inl of_record));
      receives = λ s' (n, answers, goes). (
        true ∷ answers,
        record {
          reception = reception;
          later = answers;
          answers_are = refl;
          run = (n, s', goes, refl);
        },
      );
    })

-- ---- a packet that waits

-- what is served next
pub record Next (c : Setting) (nodes : Nodes) (m m' : Core) (ring : ℕ) : Type 0 where
  pub next : Waiting Packet
  pub waits : first_waiting m.state.world.rings ≡ Some next
  pub ring_is : next.ring ≡ ring
  pub taken : m' ≡ moved (first_state next.packet next.ring (record m.state.world { rings = next.rings })) m
  pub there : ring < length c.env.rings

-- what is known about a machine from which a packet is taken
abbrev IsTaken : Core → Core → ℕ → Option (Waiting Packet) → Type 0
IsTaken m m' ring o =
    MatchOption o ((Some ring ≡ None) × (m' ≡ m))
    (λ (w : Waiting Packet). (Some ring ≡ Some w.ring) × (m' ≡ moved (first_state w.packet w.ring (record m.state.world { rings = w.rings })) m))

pub next_is : (c : Setting) (nodes : Nodes) (m m' : Core) (ring : ℕ) → IsAtRest c m.state.world → IsTaken m m' ring (first_waiting m.state.world.rings)
    → Next c nodes m m' ring
next_is c nodes m m' ring rest = go (first_waiting m.state.world.rings) refl
  where
    within : (next : Waiting Packet) → first_waiting m.state.world.rings ≡ Some next → next.ring < length c.env.rings
    within next e =
        let w = m.state.world in
        let (packets, there, _) = waits w.rings next e in
        let (spec, is_ring, _) = zip_back (RingHolds c.env.pools (live (between w))) c.env.rings w.rings next.ring (next.packet ∷ packets)
        rest.ready.world.rings there in
        slice_get_within c.env.rings next.ring spec is_ring

    go : (o : Option (Waiting Packet)) → first_waiting m.state.world.rings ≡ o → IsTaken m m' ring o → Next c nodes m m' ring
    go None e (never, _) = cc
    go (Some next) e (same, is) =
        let ring_is : next.ring ≡ ring = sym (same_Some ring next.ring same) in
        record { next = next; waits = e; ring_is = ring_is; taken = is; there = omega (arith, ring_is, within next e) }

-- its node can run on it
pub next_runs : (c : Setting) (nodes : Nodes) (program : List Instr) (m m' : Core) (ring : ℕ) → KeepsSafe c nodes → fault_of c.env ≡ None
    → slice_get nodes.rings ring ≡ Some program → IsAtRest c m.state.world → Next c nodes m m' ring → CanRun c program m'.state
next_runs c nodes program m m' ring keeps limits is_program rest n =
    let here : slice_get nodes.rings n.next.ring ≡ Some program = ap (slice_get nodes.rings) n.ring_is ∙ is_program in
    let w : World = record m.state.world { rings = n.next.rings } in
    let b : Beginning = record { entry = Ring n.next.ring; program = program; packet = n.next.packet; number = n.next.ring; world = w } in
    subst (λ (x : Core). CanRun c program x.state) (sym n.taken)
    (can_run c nodes b keeps limits (keeps.waiting n.next program m.state.world rest n.waits here))

-- and that is a node run
pub next_serves : (s : Scheme) (program : List Instr) (m m' m2 : Core) (ring : ℕ) (run : took.NodeRun) → slice_get s.nodes.rings ring ≡ Some program
    → (n : Next s.setting s.nodes m m' ring) → Runs s.setting program m'.state m2.state → Consumed m'.state.world m2.state.world run.steps run.cuts
    → ServesNext s m.state.world run m2.state.world
next_serves s program m m' m2 ring run is_program n runs took =
    let (k, answers, goes) = subst (λ (x : Core). Runs s.setting program x.state m2.state) n.taken runs in
    let t = subst (λ (x : Core). Consumed x.state.world m2.state.world run.steps run.cuts) n.taken took in
    record {
      next = n.next;
      program = program;
      answers = answers;
      waits = n.waits;
      program_is = ap (slice_get s.nodes.rings) n.ring_is ∙ is_program;
      runs = (k, m2.state, goes, refl);
      took = record { steps_are = t.steps_are; cuts_are = t.cuts_are };
    }

-- after it the next can follow
pub served_rests : (s : Scheme) (m m' : Core) (run : took.NodeRun) → KeepsSafe s.setting s.nodes → IsAtRest s.setting m.state.world
    → ServesNext s m.state.world run m'.state.world → IsAtRest s.setting m'.state.world
served_rests s m m' run keeps rest o =
    let w : World = record m.state.world { rings = o.next.rings } in
    let b : Beginning = record { entry = Ring o.next.ring; program = o.program; packet = o.next.packet; number = o.next.ring; world = w } in
    safe_rests s.setting b o.answers m'.state.world (keeps.waiting o.next o.program m.state.world rest o.waits o.program_is) o.runs

-- taking it changes no set of packets
listed_waiting : (rings : List (List Packet)) (next : Waiting Packet) → first_waiting rings ≡ Some next → listed_count next.rings + 1 ≡ listed_count rings
listed_waiting [] next h = cc
listed_waiting ([] ∷ rings) next h = go (first_waiting rings) refl h (listed_waiting rings)
  where
    go : (o : Option (Waiting Packet)) → first_waiting rings ≡ o → option_map (beyond []) o ≡ Some next
        → ((w : Waiting Packet) → first_waiting rings ≡ Some w → listed_count w.rings + 1 ≡ listed_count rings)
        → listed_count next.rings + 1 ≡ 0 + listed_count rings
    go None e h others = cc
    go (Some w) e h others =
        let same : 0 + listed_count w.rings ≡ listed_count next.rings = ap (λ (x : Waiting Packet). listed_count x.rings) (same_Some (beyond [] w) next h) in
        omega (arith, same, others w e)
listed_waiting ((k ∷ packets) ∷ rings) next h =
    let same : length packets + listed_count rings ≡ listed_count next.rings = ap (λ (x : Waiting Packet). listed_count x.rings)
    (same_Some (record { ring = 0; packet = k; rings = packets ∷ rings }) next h) in
    omega (arith, same)

pub idle_count : (packets : List (Option Packet)) → AllByRecursion (λ o. o ≡ None) packets → held_count packets ≡ 0
idle_count [] all = refl
idle_count (None ∷ packets) all = idle_count packets all.1
idle_count (Some k ∷ packets) all = let never = all.0 in cc

pub next_count : (c : Setting) (nodes : Nodes) (m m' : Core) (ring : ℕ) → AllByRecursion (λ o. o ≡ None) m.state.packets → Next c nodes m m' ring
    → packet_count m'.state ≡ packet_count m.state
next_count c nodes m m' ring idle n =
    let e : packet_count m'.state ≡ packet_count (first_state n.next.packet n.next.ring
    (record m.state.world { rings = n.next.rings })) = ap (λ (x : Core). packet_count x.state) n.taken in
    omega (arith, e, idle_count m.state.packets idle, listed_waiting m.state.world.rings n.next n.waits)

-- ---- one after the other

pub where_none : (A : Type 0) (B : Waiting Packet → Type 0) (o : Option (Waiting Packet)) → o ≡ None → A → MatchOption o A B
where_none A B None e a = a
where_none A B (Some w) e a = cc

pub where_some : (A : Type 0) (B : Waiting Packet → Type 0) (o : Option (Waiting Packet)) (next : Waiting Packet) → o ≡ Some next → B next → MatchOption o A B
where_some A B None next e b = cc
where_some A B (Some w) next e b = subst B (sym (same_Some w next e)) b

-- where none waits, none is served
serves_none : (c : Setting) (programs : List (List Instr)) (n : ℕ) (w : World) → first_waiting w.rings ≡ None → Serves c programs n w [] 0 w
serves_none c programs zero w none = (refl, refl, refl)
serves_none c programs (suc n) w none = where_none _ _ (first_waiting w.rings) none (refl, refl, refl)

-- where one waits, it is served first
serves_one : (s : Scheme) (n : ℕ) (w mid w' : World) (run : took.NodeRun) (later : List Bool) (more : ℕ) → (o : ServesNext s w run mid)
    → Serves s.setting s.nodes.rings n mid later more w' → Serves s.setting s.nodes.rings (suc n) w (o.answers ++ later) (more + 1) w'
serves_one s n w mid w' run later more o serves =
    where_some _ _ (first_waiting w.rings) o.next o.waits (o.program, o.answers, later, mid, more, o.program_is, o.runs, serves, refl, refl)

-- what was served in the first i rounds
pub record Rounds (s : Scheme) (m0 m : Core) (i runs steps cuts : ℕ) : Type 0 where
  pub answers : List Bool
  pub serves : (later : List Bool) (more : ℕ) (w : World) → Serves s.setting s.nodes.rings (32 - i) m.state.world later more w
      → Serves s.setting s.nodes.rings 32 m0.state.world (answers ++ later) (runs + more) w
  pub took : Consumed m0.state.world m.state.world steps cuts
  pub few_runs : runs ≤ i
  pub few_steps : steps ≤ runs * 263168
  pub few_cuts : cuts ≤ i
  pub calls : m.state.world.calls ≤ m0.state.world.calls + i * 263168
  pub packets : packet_count m.state + m0.state.world.calls ≤ packet_count m0.state + m.state.world.calls
  pub rests : Rests s m
  pub frames : m.frames ≡ m0.frames

pub no_round : (s : Scheme) (m : Core) → Rests s m → Rounds s m m 0 0 0 0
no_round s m rests = record {
  answers = [];
  serves = λ later more w serves. subst (λ n. Serves s.setting s.nodes.rings 32 m.state.world later n w) (omega arith) serves;
  took = record { steps_are = omega arith; cuts_are = omega arith };
  few_runs = omega arith;
  few_steps = omega arith;
  few_cuts = omega arith;
  calls = omega arith;
  packets = omega arith;
  rests = rests;
  frames = refl;
}

-- what one round keeps
pub record Round (s : Scheme) (m m' : Core) : Type 0 where
  pub calls : m'.state.world.calls ≤ m.state.world.calls + 263168
  pub packets : packet_count m'.state + m.state.world.calls ≤ packet_count m.state + m'.state.world.calls
  pub rests : Rests s m'
  pub frames : m'.frames ≡ m.frames

pub one_round : (s : Scheme) (m0 m m' : Core) (i runs steps cuts : ℕ) (run : took.NodeRun) → i < 32 → Rounds s m0 m i runs steps cuts
    → ServesNext s m.state.world run m'.state.world → run.steps ≤ 263168 → run.cuts ≤ 1 → Round s m m'
    → Rounds s m0 m' (i + 1) (runs + 1) (steps + run.steps) (cuts + run.cuts)
one_round s m0 m m' i runs steps cuts run less r o few_steps few_cuts k =
    record {
      answers = r.answers ++ o.answers;
      serves = λ later more w serves.
          let one : Serves s.setting s.nodes.rings (suc (32 - (i + 1))) m.state.world (o.answers ++ later) (more + 1) w = serves_one s
          (32 - (i + 1)) m.state.world m'.state.world w run later more o serves in
          let left : suc (32 - (i + 1)) ≡ 32 - i = omega (arith, less) in
          let sum : runs + (more + 1) ≡ (runs + 1) + more = omega arith in
          let all = r.serves (o.answers ++ later) (more + 1) w
          (subst (λ n. Serves s.setting s.nodes.rings n m.state.world (o.answers ++ later) (more + 1) w) left one) in
          subst (λ n. Serves s.setting s.nodes.rings 32 m0.state.world ((r.answers ++ o.answers) ++ later) n w) sum
          (subst (λ l. Serves s.setting s.nodes.rings 32 m0.state.world l (runs + (more + 1)) w) (sym (append_assoc r.answers o.answers later)) all);
      took = record { steps_are = omega (arith, r.took.steps_are, o.took.steps_are); cuts_are = omega (arith, r.took.cuts_are, o.took.cuts_are) };
      few_runs = omega (arith, r.few_runs);
      few_steps = omega (arith, r.few_steps, few_steps);
      few_cuts = omega (arith, r.few_cuts, few_cuts);
      calls = omega (arith, r.calls, k.calls);
      packets = omega (arith, r.packets, k.packets);
      rests = k.rests;
      frames = k.frames ∙ r.frames;
    }

-- the rounds so far are what is served
rounds_end : (s : Scheme) (m0 m : Core) (i runs steps cuts : ℕ) (w : World) → Rounds s m0 m i runs steps cuts
    → Serves s.setting s.nodes.rings (32 - i) m.state.world [] 0 w → (answers : List Bool) × Serves s.setting s.nodes.rings 32 m0.state.world answers runs w
rounds_end s m0 m i runs steps cuts w r last =
    (r.answers ++ [], subst (λ n. Serves s.setting s.nodes.rings 32 m0.state.world (r.answers ++ []) n w) (omega arith) (r.serves [] 0 w last))

-- because no packet waits any more
pub rounds_none : (s : Scheme) (m0 m : Core) (i runs steps cuts : ℕ) (w : World) → Rounds s m0 m i runs steps cuts → ServesOne s m.state.world None w
    → (answers : List Bool) × Serves s.setting s.nodes.rings 32 m0.state.world answers runs w
rounds_none s m0 m i runs steps cuts w r (none, is) =
    rounds_end s m0 m i runs steps cuts w r (subst (Serves s.setting s.nodes.rings (32 - i) m.state.world [] 0) (sym is)
    (serves_none s.setting s.nodes.rings (32 - i) m.state.world none))

pub none_of : (s : Scheme) (w w' : World) (o : Option took.NodeRun) → ((x : took.NodeRun) → o ≡ Some x → ⊥) → ServesOne s w o w' → ServesOne s w None w'
none_of s w w' None none is = is
none_of s w w' (Some run) none is = absurd (none run refl)

-- or because there were 32
pub rounds_all : (s : Scheme) (m0 m : Core) (i runs steps cuts : ℕ) → 32 ≤ i → Rounds s m0 m i runs steps cuts
    → (answers : List Bool) × Serves s.setting s.nodes.rings 32 m0.state.world answers runs m.state.world
rounds_all s m0 m i runs steps cuts all r =
    let none : 0 ≡ 32 - i = omega (arith, all) in
    rounds_end s m0 m i runs steps cuts m.state.world r (subst (λ n. Serves s.setting s.nodes.rings n m.state.world [] 0 m.state.world) none
    (refl, refl, refl))
