-- Turns of a pipeline: every node run is safe, there is a turn for each record, and the next one can follow.
use Rattle.std.proofs.Common.{◌≡◌, ℕ, zero, suc, ◌+◌, ◌<◌, ◌≤◌, Bool, true, false, List, [], ◌∷◌, ◌++◌, length, Option, Some, None, refl, sym, ◌∙◌, ap, subst}
use Rattle.std.proofs.Common.{arith, inl, inr}
use Rattle.std.specs.Prelude.{IsTrue, slice_get, slice_set, flat_map, option_map, nat_lt, if◌then◌else◌}
use Rattle.std.specs.List.{AllByRecursion}
use Rattle.std.proofs.lemmas.Bool.{ltb-true, ltb-false, lt-ltb, le-ltb}
use Rattle.std.proofs.lemmas.Option.{same_Some, slice_get_within}
use Rattle.dp_model.specs.declared.env.Entry.{Entry}
use Rattle.dp_model.specs.declared.env.Entry.TheVariants.{Port, Ring}
use Rattle.dp_model.specs.declared.env.PortSpec.{PortSpec}
use Rattle.dp_model.specs.declared.env.RingSpec.{RingSpec}
use Rattle.dp_model.specs.Rows.{is_well_formed_fact}
use Rattle.dp_model.specs.declared.instr.Instr.{Instr}
use Rattle.dp_model.specs.Environments.{room_at, fault_of}
use Rattle.dp_model.specs.Buffers.{Number}
use Rattle.dp_model.specs.Packets.{Segment, Packet, needed, received}
use Rattle.dp_model.specs.Rules.{Question}
use Rattle.dp_model.specs.Machine.{Setting, World, live, segments_listed, is_denied}
use Rattle.dp_model.specs.Meaning.{RingHolds}
use Rattle.dp_model.specs.Runs.{first_state, between, NodeRun, Outcome, Got, NoBuffer, Oversize, Receives, Arrives, Waiting, first_waiting, Serves, Nodes}
use Rattle.dp_model.specs.Runs.{runs_of, Turn, packet_received, Reception}
use Rattle.dp_model.specs.Laws.{Checked}
use Rattle.dp_model.specs.Safety.{IsPacket, ArePackets, IsAtRest, BeginsWell, Beginning, IsOfRecord, HasServed, IsOfTurn, IsSafeBeginning, outcome_for}
use Rattle.dp_model.specs.Safety.{IsSafeTurn, IsPipeline}
use Rattle.dp_model.specs.Laws.Lists.{get_within, zip_back, each_at}
use Rattle.dp_model.proofs.Agreement.{serves_is}
use Rattle.dp_model.proofs.Fresh.{enough}
use Rattle.dp_model.proofs.Sound.{denied_or_enough}
use Rattle.dp_model.proofs.Begin.{length_received, received_begins, ring_begins}
use Rattle.dp_model.specs.Laws.Waiting.{waits}
use Rattle.dp_model.proofs.Counts.{tally_live, tally_listed_set, tally_first}
use Rattle.dp_model.specs.Laws.Counts.{tally, tally-append, fewer_owned, fewer_by}
use Rattle.dp_model.proofs.Owned.{more_owned, received_direct, direct_comes}
use Rattle.dp_model.proofs.OwnedSteps.{more_by}
use Rattle.dp_model.specs.Laws.Limits.{segs_small}
use Rattle.dp_model.proofs.PacketSteps.{each_set}
use Rattle.dp_model.proofs.SafeRuns.{accepted_is_safe}
use Rattle.dp_model.proofs.Filling.{can_fill}
use Rattle.dp_model.specs.Laws.Runs.{safe_never_stuck, safe_rests}

-- ---- packets

-- a node run begins with one packet more
first_packets : (k : Packet) (number : ℕ) (w : World) → IsPacket k → ArePackets (between w) → ArePackets (first_state k number w)
first_packets k number w is are = record { held = (is, (tt, (tt, (tt, (tt, (tt, (tt, (tt, tt)))))))); rings = are.rings; outboxes = are.outboxes }

-- a record that fits a port makes a packet of 1 to 64 segments
received_packet : (c : Setting) (port : ℕ) (spec : PortSpec) (bytes : List ℕ) (numbers : List Number) → slice_get c.env.ports port ≡ Some spec →
    fault_of c.env ≡ None → needed c.env.pools spec.pool (length bytes) ≤ spec.segs → length numbers ≡ needed c.env.pools spec.pool (length bytes) →
    IsPacket (received (room_at c.env.pools spec.pool) numbers (length bytes))
received_packet c port spec bytes numbers is_spec limits fits count =
    let long = length_received (room_at c.env.pools spec.pool) numbers (length bytes) in
    (omega (arith, long, count), omega (arith, long, count, fits, segs_small c.env port spec.segs limits (ap (option_map (λ (p : PortSpec). p.segs)) is_spec)))

-- a packet that waits is one, and so are the others
popped_packets : (w : World) (next : Waiting Packet) → first_waiting w.rings ≡ Some next → ArePackets (between w) →
    IsPacket next.packet × ArePackets (between (record w { rings = next.rings }))
popped_packets w next e are =
    let (packets, there, is) = waits w.rings next e in
    let all = each_at (AllByRecursion IsPacket) w.rings next.ring (next.packet ∷ packets) are.rings there in (
      all.0,
      record {
        held = tt;
        rings = subst (AllByRecursion (AllByRecursion IsPacket)) (sym is)
            (each_set (AllByRecursion IsPacket) w.rings next.ring packets are.rings all.1);
        outboxes = are.outboxes;
      },
    )

-- ---- node runs begin well: on a record that is received
pub record_begins : (c : Setting) (q : Question) (port : ℕ) (spec : PortSpec) (bytes : List ℕ) (w : World) →
    c.env ≡ q.env → q.entry ≡ Port port → slice_get c.env.ports port ≡ Some spec → 129 ≤ room_at c.env.pools spec.pool → fault_of c.env ≡ None → IsAtRest c w
    → (r : Reception c spec bytes w) → BeginsWell c q (packet_received c spec bytes r.numbers) port (record w { buffers = r.buffers; calls = w.calls + 1 })
record_begins c q port spec bytes w env entry is_spec room limits rest r =
    let w1 : World = record w { buffers = r.buffers; calls = w.calls + 1 } in
    let k : Packet = packet_received c spec bytes r.numbers in
    record {
      begins = received_begins c q port spec bytes w env entry is_spec room rest.ready r;
      owned = more_owned c.env.pools (live (between w)) (live (first_state k port w1)) k
          (more_by (live (between w)) (live (first_state k port w1)) k (λ test. omega (arith, tally_first test k port w1)))
          (direct_comes c.env.pools (live (between w)) spec.pool (needed c.env.pools spec.pool (length bytes)) k r.numbers
          (received_direct (room_at c.env.pools spec.pool) r.numbers (length bytes)) r.fresh)
          rest.owned;
      packets = first_packets k port w1 (received_packet c port spec bytes r.numbers is_spec limits r.fits r.fresh.count)
          (record { held = tt; rings = rest.packets.rings; outboxes = rest.packets.outboxes });
    }

-- on a packet of a ring
pub waiting_begins : (c : Setting) (q : Question) (next : Waiting Packet) (w : World) →
    ((spec : RingSpec) → slice_get c.env.rings next.ring ≡ Some spec → IsTrue (is_well_formed_fact spec.fact)) → c.env ≡ q.env → q.entry ≡ Ring next.ring →
    first_waiting w.rings ≡ Some next → IsAtRest c w → BeginsWell c q next.packet next.ring (record w { rings = next.rings })
waiting_begins c q next w facts env entry e rest = record {
  begins = ring_begins c q next w facts env entry e rest.ready;
  packets = let (is, are) = popped_packets w next e rest.packets in first_packets next.packet next.ring (record w { rings = next.rings }) is are;
  owned = let (packets, there, are) = waits w.rings next e in
      fewer_owned c.env.pools (live (between w)) (live (first_state next.packet next.ring (record w { rings = next.rings })))
      (fewer_by (live (between w)) (live (first_state next.packet next.ring (record w { rings = next.rings }))) (λ test. popped packets there are test))
      rest.owned;
}
  where
    popped : (packets : List Packet) → slice_get w.rings next.ring ≡ Some (next.packet ∷ packets) → next.rings ≡ slice_set w.rings next.ring packets →
        (test : Segment → Bool) → tally test (live (first_state next.packet next.ring (record w { rings = next.rings }))) ≤ tally test (live (between w))
    popped packets there are test =
        let e : tally test (segments_listed next.rings) ≡ tally test (segments_listed (slice_set w.rings next.ring packets)) =
        ap (λ rings. tally test (segments_listed rings)) are in
        omega (
          arith,
          e,
          tally_first test next.packet next.ring (record w { rings = next.rings }),
          tally_live test (between w),
          tally_live test (between (record w { rings = next.rings })),
          tally_listed_set test w.rings next.ring (next.packet ∷ packets) packets there,
          tally-append test next.packet (flat_map (λ k. k) packets),
        )

-- a node that is accepted is safe where it begins well
pub safe_beginning : (c : Setting) (entry : Entry) (program : List Instr) (k : Packet) (number : ℕ) (w : World) (node : Checked c.env entry program) →
    BeginsWell c node.question k number w → IsSafeBeginning c (record { entry = entry; program = program; packet = k; number = number; world = w })
safe_beginning c entry program k number w node well = record {
  question = node.question;
  accepted = node.accepted;
  env_is = node.env_is;
  program_is = node.program_is;
  entry_is = node.entry_is;
  safe = accepted_is_safe c node.question k number w node.accepted well;
}

pub safe_ends : (c : Setting) (b : Beginning) → IsSafeBeginning c b → (answers : List Bool) × (w' : World)
    × NodeRun c b.program b.packet b.number b.world answers w'
safe_ends c b s = subst (λ p. (answers : List Bool) × (w' : World) × NodeRun c p b.packet b.number b.world answers w') s.program_is s.safe.ends

-- ---- the node run of the record
pub record_safe : (c : Setting) (nodes : Nodes) (port : ℕ) (bytes : List ℕ) (w : World) (b : Beginning) → IsPipeline c nodes → IsAtRest c w →
    IsOfRecord c nodes port bytes w b → IsSafeBeginning c b
record_safe c nodes port bytes w b checked rest r =
    let node = checked.checked.ports port r.program r.program_is in
    subst (IsSafeBeginning c) (sym r.is)
    (safe_beginning c (Port port) r.program (packet_received c r.spec bytes r.reception.numbers) port
    (record w { buffers = r.reception.buffers; calls = w.calls + 1 }) node
    (record_begins c node.question port r.spec bytes w (sym node.env_is) node.entry_is r.spec_is
    (checked.checked.rooms port r.spec r.spec_is) checked.limits rest r.reception))

-- a whole run on a record that is received begins so
pub receives_of : (c : Setting) (nodes : Nodes) (program : List Instr) (port : ℕ) (spec : PortSpec) (bytes : List ℕ) (w : World) →
    slice_get c.env.ports port ≡ Some spec → slice_get nodes.ports port ≡ Some program → (r : Reception c spec bytes w) →
    IsOfRecord c nodes port bytes w (record {
      entry = Port port;
      program = program;
      packet = packet_received c spec bytes r.numbers;
      number = port;
      world = record w { buffers = r.buffers; calls = w.calls + 1 };
    })
receives_of c nodes program port spec bytes w is_spec is_program r =
    record { spec = spec; spec_is = is_spec; program = program; program_is = is_program; reception = r; is = refl }

rest_calls : (c : Setting) (w : World) (calls : ℕ) → IsAtRest c w → IsAtRest c (record w { calls = calls })
rest_calls c w calls rest = record {
  ready = record {
    world = record { rings = rest.ready.world.rings; outboxes = rest.ready.world.outboxes };
    tables = rest.ready.tables;
    within = rest.ready.within;
  };
  owned = rest.owned;
  packets = record { held = tt; rings = rest.packets.rings; outboxes = rest.packets.outboxes };
}

pub arrives_rest : (c : Setting) (nodes : Nodes) (program : List Instr) (port : ℕ) (spec : PortSpec) (bytes : List ℕ) (w w' : World) (outcome : Outcome)
    (answers : List Bool) → IsPipeline c nodes → slice_get nodes.ports port ≡ Some program → slice_get c.env.ports port ≡ Some spec → IsAtRest c w →
    Arrives c program port spec bytes w outcome answers w' → IsAtRest c w'
arrives_rest c nodes program port spec bytes w w' Oversize answers checked is_program is_spec rest (_, _, is) = subst (IsAtRest c) (sym is) rest
arrives_rest c nodes program port spec bytes w w' NoBuffer answers checked is_program is_spec rest (_, _, _, is) =
    subst (IsAtRest c) (sym is) (rest_calls c w (w.calls + 1) rest)
arrives_rest c nodes program port spec bytes w w' Got answers checked is_program is_spec rest r =
    let k : Packet = packet_received c spec bytes r.reception.numbers in
    let w1 : World = record w { buffers = r.reception.buffers; calls = w.calls + 1 } in
    let b : Beginning = record { entry = Port port; program = program; packet = k; number = port; world = w1 } in
    safe_rests c b r.later w' (record_safe c nodes port bytes w b checked rest (receives_of c nodes program port spec bytes w is_spec is_program r.reception))
    r.run

-- ---- node runs on packets of rings: the node of the ring
pub waiting_safe : (c : Setting) (nodes : Nodes) (next : Waiting Packet) (program : List Instr) (w : World) → IsPipeline c nodes → IsAtRest c w →
    first_waiting w.rings ≡ Some next → slice_get nodes.rings next.ring ≡ Some program →
    IsSafeBeginning c (record {
      entry = Ring next.ring;
      program = program;
      packet = next.packet;
      number = next.ring;
      world = record w { rings = next.rings };
    })
waiting_safe c nodes next program w checked rest e is_program =
    let node = checked.checked.rings next.ring program is_program in
    safe_beginning c (Ring next.ring) program next.packet next.ring (record w { rings = next.rings }) node
    (waiting_begins c node.question next w (checked.checked.facts next.ring) (sym node.env_is) node.entry_is e rest)

pub served_rest : (c : Setting) (nodes : Nodes) (ran : List (List Instr)) (w w' : World) → IsPipeline c nodes → IsAtRest c w →
    HasServed c nodes.rings ran w w' → IsAtRest c w'
served_rest c nodes [] w w' checked rest is = subst (IsAtRest c) (sym is) rest
served_rest c nodes (program ∷ later) w w' checked rest (next, answers, mid, e, is_program, run, served) =
    served_rest c nodes later mid w' checked
    (safe_rests c (record { entry = Ring next.ring; program = program; packet = next.packet; number = next.ring; world = record w { rings = next.rings } })
    answers mid (waiting_safe c nodes next program w checked rest e is_program) run)
    served

serves_rest : (c : Setting) (nodes : Nodes) (n : ℕ) (w w' : World) (answers : List Bool) (runs : ℕ) → IsPipeline c nodes → IsAtRest c w →
    Serves c nodes.rings n w answers runs w' → IsAtRest c w'
serves_rest c nodes n w w' answers runs checked rest serves =
    let s = serves_is c nodes.rings n w answers runs w' serves in served_rest c nodes s.ran w w' checked rest s.served

-- a ring that has a packet has a node
ring_node : (c : Setting) (nodes : Nodes) (w : World) (next : Waiting Packet) → length nodes.rings ≡ length c.env.rings → IsAtRest c w →
    first_waiting w.rings ≡ Some next → (program : List Instr) × (slice_get nodes.rings next.ring ≡ Some program)
ring_node c nodes w next count rest e =
    let (packets, there, _) = waits w.rings next e in
    let (spec, is_ring, _) = zip_back (RingHolds c.env.pools (live (between w))) c.env.rings w.rings next.ring (next.packet ∷ packets) rest.ready.world.rings
    there in
    get_within nodes.rings next.ring (omega (arith, count, slice_get_within c.env.rings next.ring spec is_ring))

serves_exist : (c : Setting) (nodes : Nodes) (n : ℕ) (w : World) → IsPipeline c nodes → IsAtRest c w →
    (answers : List Bool) × (runs : ℕ) × (w' : World) × Serves c nodes.rings n w answers runs w'
serves_exist c nodes zero w pipeline rest = ([], 0, w, (refl, refl, refl))
serves_exist c nodes (suc n) w pipeline rest = go (first_waiting w.rings) refl (λ mid. serves_exist c nodes n mid pipeline)
  where
    go : (o : Option (Waiting Packet)) → first_waiting w.rings ≡ o → ((mid : World) → IsAtRest c mid →
        (answers : List Bool) × (runs : ℕ) × (w' : World) × Serves c nodes.rings n mid answers runs w') →
        (answers : List Bool) × (runs : ℕ) × (w' : World) × Serves c nodes.rings (suc n) w answers runs w'
    go None e on = ([], 0, w, rw e (refl, refl, refl))
    go (Some next) e on =
        let (program, is_program) = ring_node c nodes w next pipeline.rings rest e in
        let safe = waiting_safe c nodes next program w pipeline rest e is_program in
        let (now, mid, run) = safe_ends c _ safe in
        let (later, more, w', serves) = on mid (safe_rests c _ now mid safe run) in
        (now ++ later, more + 1, w', rw e (program, now, later, mid, more, is_program, run, serves, refl, refl))

-- ---- the outcome of a record
received_ends : (c : Setting) (nodes : Nodes) (program : List Instr) (port : ℕ) (spec : PortSpec) (bytes : List ℕ) (w : World) → IsPipeline c nodes →
    slice_get c.env.ports port ≡ Some spec → slice_get nodes.ports port ≡ Some program → IsAtRest c w → Reception c spec bytes w →
    (answers : List Bool) × (w' : World) × Receives c program port spec bytes w answers w'
received_ends c nodes program port spec bytes w checked is_spec is_program rest r =
    let (answers, w', run) =
    safe_ends c _ (record_safe c nodes port bytes w _ checked rest (receives_of c nodes program port spec bytes w is_spec is_program r)) in
    (true ∷ answers, w', record { reception = r; later = answers; answers_are = refl; run = run })

-- a record that is small enough and whose call is not refused is received
receives_exist : (c : Setting) (nodes : Nodes) (program : List Instr) (port : ℕ) (spec : PortSpec) (bytes : List ℕ) (w : World) → IsPipeline c nodes →
    slice_get c.env.ports port ≡ Some spec → slice_get nodes.ports port ≡ Some program → IsAtRest c w → AllByRecursion (λ x. x < 256) bytes →
    needed c.env.pools spec.pool (length bytes) ≤ spec.segs → is_denied c (between w) spec.pool (needed c.env.pools spec.pool (length bytes)) ≡ false →
    (answers : List Bool) × (w' : World) × Receives c program port spec bytes w answers w'
receives_exist c nodes program port spec bytes w pipeline is_spec is_program rest small fits given =
    let pools = c.env.pools in
    let need = needed pools spec.pool (length bytes) in
    let (ns, fresh) = enough pools (live (between w)) spec.pool need (denied_or_enough c (between w) spec.pool need given) in
    let (buffers, filled) = can_fill pools (live (between w)) spec.pool bytes ns w.buffers (pipeline.checked.rooms port spec is_spec) rest.ready.within.rooms
    fresh small in
    received_ends c nodes program port spec bytes w pipeline is_spec is_program rest
    (record { fits = fits; given = given; numbers = ns; buffers = buffers; fresh = fresh; filled = filled })

pub arrives_exist : (c : Setting) (nodes : Nodes) (program : List Instr) (port : ℕ) (spec : PortSpec) (bytes : List ℕ) (w : World) → IsPipeline c nodes →
    slice_get c.env.ports port ≡ Some spec → slice_get nodes.ports port ≡ Some program → IsAtRest c w → AllByRecursion (λ x. x < 256) bytes →
    (answers : List Bool) × (w' : World) × Arrives c program port spec bytes w (outcome_for c spec bytes w) answers w'
arrives_exist c nodes program port spec bytes w pipeline is_spec is_program rest small =
    go (nat_lt spec.segs (needed c.env.pools spec.pool (length bytes))) (is_denied c (between w) spec.pool (needed c.env.pools spec.pool (length bytes))) refl
    refl
  where
    go : (large denied : Bool) → nat_lt spec.segs (needed c.env.pools spec.pool (length bytes)) ≡ large →
        is_denied c (between w) spec.pool (needed c.env.pools spec.pool (length bytes)) ≡ denied →
        (answers : List Bool) × (w' : World) × Arrives c program port spec bytes w (if large then Oversize else if denied then NoBuffer else Got) answers w'
    go true denied e f = ([], w, (ltb-true spec.segs (needed c.env.pools spec.pool (length bytes)) e, refl, refl))
    go false true e f = (false ∷ [], record w { calls = w.calls + 1 }, (ltb-false spec.segs (needed c.env.pools spec.pool (length bytes)) e, f, refl, refl))
    go false false e f = receives_exist c nodes program port spec bytes w pipeline is_spec is_program rest small
        (ltb-false spec.segs (needed c.env.pools spec.pool (length bytes)) e) f

-- the outcome is the one that the pattern and the free buffers decide
pub arrives_outcome : (c : Setting) (program : List Instr) (port : ℕ) (spec : PortSpec) (bytes : List ℕ) (w w' : World) (outcome : Outcome)
    (answers : List Bool)
    → Arrives c program port spec bytes w outcome answers w' → outcome ≡ outcome_for c spec bytes w
arrives_outcome c program port spec bytes w w' Oversize answers (large, _, _) =
    let e = lt-ltb spec.segs (needed c.env.pools spec.pool (length bytes)) large in
    sym (ap (λ b. if b then Oversize else if is_denied c (between w) spec.pool (needed c.env.pools spec.pool (length bytes)) then NoBuffer else Got) e)
arrives_outcome c program port spec bytes w w' NoBuffer answers (fits, denied, _, _) =
    let e = le-ltb spec.segs (needed c.env.pools spec.pool (length bytes)) fits in
    sym (ap (λ b. if b then Oversize else if is_denied c (between w) spec.pool (needed c.env.pools spec.pool (length bytes)) then NoBuffer else Got) e
    ∙ ap (λ b. if b then NoBuffer else Got) denied)
arrives_outcome c program port spec bytes w w' Got answers r =
    let e = le-ltb spec.segs (needed c.env.pools spec.pool (length bytes)) r.reception.fits in
    sym (ap (λ b. if b then Oversize else if is_denied c (between w) spec.pool (needed c.env.pools spec.pool (length bytes)) then NoBuffer else Got) e
    ∙ ap (λ b. if b then NoBuffer else Got) r.reception.given)

-- ---- a turn
pub turn_rest : (c : Setting) (nodes : Nodes) (port : ℕ) (bytes : List ℕ) (w w' : World) (outcome : Outcome) (runs : ℕ) (answers : List Bool) →
    IsPipeline c nodes → IsAtRest c w → Turn c nodes port bytes w outcome runs answers w' → IsAtRest c w'
turn_rest c nodes port bytes w w' outcome runs answers checked rest t =
    serves_rest c nodes 32 t.mid w' t.later t.more checked
    (arrives_rest c nodes t.program port t.spec bytes w t.mid outcome t.now checked t.program_is t.spec_is rest t.arrives) t.serves

pub turn_exists : (c : Setting) (nodes : Nodes) (port : ℕ) (spec : PortSpec) (bytes : List ℕ) (w : World) → IsPipeline c nodes → slice_get c.env.ports port
    ≡ Some spec → IsAtRest c w → AllByRecursion (λ x. x < 256) bytes → (outcome : Outcome) × (runs : ℕ) × (answers : List Bool) × (w' : World)
    × Turn c nodes port bytes w outcome runs answers w'
turn_exists c nodes port spec bytes w pipeline is_spec rest small =
    let (program, is_program) = get_within nodes.ports port (omega (arith, pipeline.ports, slice_get_within c.env.ports port spec is_spec)) in
    let outcome = outcome_for c spec bytes w in
    let (now, mid, arrives) = arrives_exist c nodes program port spec bytes w pipeline is_spec is_program rest small in
    let (later, more, w', serves) = serves_exist c nodes 32 mid pipeline
    (arrives_rest c nodes program port spec bytes w mid outcome now pipeline is_program is_spec rest arrives) in
    let t : Turn c nodes port bytes w outcome (runs_of outcome + more) (now ++ later) w' = record {
      spec = spec;
      program = program;
      spec_is = is_spec;
      program_is = is_program;
      mid = mid;
      now = now;
      arrives = arrives;
      later = later;
      more = more;
      serves = serves;
      answers_are = refl;
      runs_is = refl;
    } in
    (outcome, runs_of outcome + more, now ++ later, w', t)

-- every node run of a turn is safe
pub turn_runs_safe : (c : Setting) (nodes : Nodes) (port : ℕ) (bytes : List ℕ) (w : World) (b : Beginning) → IsPipeline c nodes → IsAtRest c w →
    IsOfTurn c nodes port bytes w b → IsSafeBeginning c b
turn_runs_safe c nodes port bytes w b checked rest (inl r) = record_safe c nodes port bytes w b checked rest r
turn_runs_safe c nodes port bytes w b checked rest (inr r) =
    let mid = arrives_rest c nodes r.own port r.spec bytes w r.mid r.outcome r.answers checked r.own_is r.spec_is rest r.arrives in
    let last = served_rest c nodes r.served r.mid r.last checked mid r.has_served in
    subst (IsSafeBeginning c) (sym r.is) (waiting_safe c nodes r.next r.program r.last checked last r.waits r.program_is)

pub turn_safe : (c : Setting) (nodes : Nodes) (port : ℕ) (spec : PortSpec) (bytes : List ℕ) (w : World) → IsPipeline c nodes → slice_get c.env.ports port
    ≡ Some spec → IsAtRest c w → AllByRecursion (λ x. x < 256) bytes → IsSafeTurn c nodes port spec bytes w
turn_safe c nodes port spec bytes w pipeline is_spec rest small = record {
  never_stuck = λ b of. safe_never_stuck c b (turn_runs_safe c nodes port bytes w b pipeline rest of);
  runs = λ b of. turn_runs_safe c nodes port bytes w b pipeline rest of;
  exists = turn_exists c nodes port spec bytes w pipeline is_spec rest small;
  outcome = λ outcome runs answers w' t.
      let same : t.spec ≡ spec = same_Some t.spec spec (sym t.spec_is ∙ is_spec) in
      subst (λ x. outcome ≡ outcome_for c x bytes w) same (arrives_outcome c t.program port t.spec bytes w t.mid outcome t.now t.arrives);
  rests = λ outcome runs answers w' t. turn_rest c nodes port bytes w w' outcome runs answers pipeline rest t;
}
