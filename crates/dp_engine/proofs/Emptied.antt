-- Engines whose rings and transmit lists are emptied.
use Rattle.std.proofs.Common.{◌≡◌, ℕ, zero, suc, ◌+◌, ◌*◌, ◌<◌, ◌≤◌, List, [], ◌∷◌, length, map, Some, refl, sym, ◌∙◌, ap, subst, arith, add-zero}
use Rattle.std.specs.Prelude.{slice_get, slice_set, slice_index_or}
use Rattle.std.proofs.lemmas.Option.{same_Some}
use Rattle.std.proofs.lemmas.Slice.Zip.{AllZip-long}
use Rattle.std.proofs.lemmas.List.{length-set}
use Rattle.dp_model.specs.Packets.{Packet}
use Rattle.dp_model.specs.declared.env.PortSpec.{PortSpec}
use Rattle.dp_model.specs.declared.env.RingSpec.{RingSpec}
use Rattle.dp_model.specs.Environments.{Environment}
use Rattle.dp_model.specs.declared.queue.Queue.{Queue}
use Rattle.dp_model.specs.declared.queue.Queue.TheVariants.{Tx, Ring}
use Rattle.dp_model.specs.Machine.{State, live, segments_listed, packets_in, with_queue}
use Rattle.dp_model.specs.Runs.{between, with_empty_outboxes, with_empty_rings, left_in_rings}
use Rattle.dp_model.specs.Laws.Waiting.{nothing_listed}
use Rattle.dp_model.specs.Laws.Lists.{get_within}
use Rattle.dp_engine.specs.declared.report.Tallies.{Tallies}
use Rattle.dp_engine.specs.Handles.{Core, moved}
use Rattle.dp_engine.specs.Schemes.{Scheme}
use Rattle.dp_engine.specs.Memories.{EngineMemoryView}
use Rattle.dp_engine.specs.Tallies.{listed_count, packet_count}
use Rattle.dp_engine.specs.Engines.{EngineState, engine_of, IsEngine, sent_by, records_of, over_ports, sum, tallies_at, sent_at, drained, left_at, with_left}
use Rattle.dp_engine.specs.Engines.{flushed}
use Rattle.dp_engine.specs.Batches.{with_sent, all_drained}
use Rattle.dp_engine.proofs.Resting.{emptied_rests}
use Rattle.dp_engine.specs.Laws.{known}
use Rattle.dp_engine.proofs.Turning.{one_changed, one_of_all}

-- ---- sums

-- a list emptied
listed_less : (lists : List (List Packet)) (i : ℕ) (packets : List Packet) → slice_get lists i ≡ Some packets
    → listed_count (slice_set lists i []) + length packets ≡ listed_count lists
listed_less [] i packets e = cc
listed_less (l ∷ lists) zero packets e = let same : length l ≡ length packets = ap length (same_Some l packets e) in omega (arith, same)
listed_less (l ∷ lists) (suc i) packets e = let more = listed_less lists i packets e in omega (arith, more)

-- a count set
sum_set : (counts : List ℕ) (i n : ℕ) → i < length counts → sum (slice_set counts i n) + slice_index_or counts i 0 ≡ sum counts + n
sum_set [] i n lt = absurd (omega (arith, lt))
sum_set (x ∷ counts) zero n lt = omega arith
sum_set (x ∷ counts) (suc i) n lt = let more = sum_set counts i n (omega (arith, lt)) in omega (arith, more)

pub sum_at : (counts : List ℕ) (i : ℕ) → slice_index_or counts i 0 ≤ sum counts
sum_at [] i = omega arith
sum_at (x ∷ counts) zero = omega arith
sum_at (x ∷ counts) (suc i) = let more = sum_at counts i in omega (arith, more)

-- ---- what a queue that is emptied leaves

record HasLess (n : ℕ) (s s' : State) : Type 0 where
  packets : packet_count s' + n ≡ packet_count s
  calls : s'.world.calls ≡ s.world.calls
  cuts : s'.world.cuts ≡ s.world.cuts

has_less : (s : State) (queue : Queue) (packets : List Packet) → packets_in queue s.world ≡ Some packets → HasLess (length packets) s (with_queue queue [] s)
has_less s (Tx port) packets there =
    record { packets = omega (arith, listed_less s.world.outboxes port packets there); calls = refl; cuts = refl }
has_less s (Ring ring) packets there =
    record { packets = omega (arith, listed_less s.world.rings ring packets there); calls = refl; cuts = refl }

-- ---- slots

-- it has the environment's rings and ports
record HasAll (e : EngineState) : Type 0 where
  rings : length e.world.rings ≡ length e.setting.env.rings
  ports : length e.world.outboxes ≡ length e.setting.env.ports

module _ (s : Scheme) (core : Core) (memory : EngineMemoryView) (turns : ℕ) (tallies : List Tallies) (left : List ℕ)
    (is : IsEngine s core memory turns tallies left) where
  -- each ring and each port of the environment has a slot in the engine
  pub ring_within : (i : ℕ) → i < length s.setting.env.rings → i < 8
  ring_within i lt = omega (arith, lt, (known s.setting.env is.within).rings)

  pub port_within : (i : ℕ) → i < length s.setting.env.ports → i < 8
  port_within i lt = omega (arith, lt, (known s.setting.env is.within).ports.1)

  has_all : (e : EngineState) → engine_of s core memory turns tallies left ≡ e → HasAll e
  has_all e same = subst HasAll same (record {
    rings = AllZip-long _ s.setting.env.rings core.state.world.rings is.rests.rest.ready.world.rings;
    ports = is.rests.rest.ready.world.outboxes;
  })

  -- each port has its list of packets
  pub box_at : (i : ℕ) → i < length s.setting.env.ports → (packets : List Packet) × (slice_get core.state.world.outboxes i ≡ Some packets)
  box_at i lt = get_within core.state.world.outboxes i (omega (arith, lt, is.rests.rest.ready.world.outboxes))

  -- a queue is emptied, and no more packets than it had are counted as sent or left
  emptied_kept : (queue : Queue) (packets : List Packet) (tallies' : List Tallies) (left' : List ℕ) → packets_in queue core.state.world ≡ Some packets
      → length tallies' ≡ length tallies → length left' ≡ length left → over_ports records_of tallies' ≡ over_ports records_of tallies
      → over_ports sent_by tallies' + sum left' ≤ over_ports sent_by tallies + sum left + length packets
      → IsEngine s (moved (with_queue queue [] core.state) core) memory turns tallies' left'
  emptied_kept queue packets tallies' left' there ports rings records more =
      let less = has_less core.state queue packets there in
      record {
        within = is.within;
        rests = emptied_rests s core queue is.rests;
        stand = is.stand;
        limit = is.limit;
        ports = ports ∙ is.ports;
        rings = rings ∙ is.rings;
        records = omega (arith, is.records, records);
        calls = omega (arith, is.calls, less.calls);
        cuts = omega (arith, is.cuts, less.cuts);
        packets = omega (arith, is.packets, more, less.packets, less.calls);
      }

  -- what is counted as sent and left has room for the packets of a queue
  all_fit : (queue : Queue) (packets : List Packet) → packets_in queue core.state.world ≡ Some packets
      → over_ports sent_by tallies + sum left + length packets ≤ 1099511627776 * 8684545
  all_fit queue packets there = let less = has_less core.state queue packets there in omega (arith, is.packets, is.calls, is.limit, less.packets)

  -- a transmit list is emptied, and some of its packets are counted as written
  pub sent_kept : (port sent : ℕ) (packets : List Packet) → port < 8 → slice_get core.state.world.outboxes port ≡ Some packets → sent ≤ length packets
      → IsEngine s (moved (with_queue (Tx port) [] core.state) core) memory turns (sent_at port sent tallies) left
  sent_kept port sent packets lt box le =
      let t : Tallies = record (tallies_at tallies port) { sent = (tallies_at tallies port).sent + sent } in
      let changed = λ (f : Tallies → ℕ). one_changed f tallies port t (omega (arith, is.ports, lt)) in
      emptied_kept (Tx port) packets (sent_at port sent tallies) left box (length-set tallies port t) refl (omega (arith, changed records_of))
      (omega (arith, le, changed sent_by))

  pub sent_fits : (port sent : ℕ) (packets : List Packet) → port < 8 → slice_get core.state.world.outboxes port ≡ Some packets → sent ≤ length packets
      → (tallies_at tallies port).sent + sent ≤ 1099511627776 * 8684545
  sent_fits port sent packets lt box le =
      omega (arith, all_fit (Tx port) packets box, le, one_of_all sent_by tallies port (omega (arith, is.ports, lt)))

  -- its packets are freed, and not counted
  pub dropped_kept : (port : ℕ) → port < length s.setting.env.ports
      → IsEngine s (moved (with_queue (Tx port) [] core.state) core) memory turns tallies left
  dropped_kept port lt = let (packets, box) = box_at port lt in emptied_kept (Tx port) packets tallies left box refl refl refl (omega arith)

  -- a ring is emptied, and what was in it is counted
  pub left_kept : (ring : ℕ) (packets : List Packet) → ring < 8 → slice_get core.state.world.rings ring ≡ Some packets
      → IsEngine s (moved (with_queue (Ring ring) [] core.state) core) memory turns tallies (slice_set left ring (slice_index_or left ring 0 + length packets))
  left_kept ring packets lt there =
      let n = slice_index_or left ring 0 + length packets in
      emptied_kept (Ring ring) packets tallies (slice_set left ring n) there refl (length-set left ring n) refl
      (omega (arith, sum_set left ring n (omega (arith, is.rings, lt))))

  pub left_fits : (ring : ℕ) (packets : List Packet) → slice_get core.state.world.rings ring ≡ Some packets
      → slice_index_or left ring 0 + length packets ≤ 1099511627776 * 8684545
  left_fits ring packets there = omega (arith, all_fit (Ring ring) packets there, sum_at left ring)

module _ {s : Scheme} {core : Core} {memory : EngineMemoryView} {turns : ℕ} {tallies : List Tallies} {left : List ℕ} {e : EngineState} {env : Environment}
    (is : IsEngine s core memory turns tallies left) (same : engine_of s core memory turns tallies left ≡ e) (its : env ≡ s.setting.env) where
  -- there are as many transmit lists as ports of the environment, and as many rings
  pub lists_of_ports : {ports : List PortSpec} → ports ≡ env.ports → length e.world.outboxes ≡ length ports
  lists_of_ports are =
      (has_all s core memory turns tallies left is e same).ports
      ∙ sym (ap length (are ∙ ap (λ (x : Environment). x.ports) its ∙ ap (λ (x : EngineState). x.setting.env.ports) same))

  pub rings_of_env : {rings : List RingSpec} → rings ≡ env.rings → length e.world.rings ≡ length rings
  rings_of_env are =
      (has_all s core memory turns tallies left is e same).rings
      ∙ sym (ap length (are ∙ ap (λ (x : Environment). x.rings) its ∙ ap (λ (x : EngineState). x.setting.env.rings) same))

-- ---- one slot

counted_there : (rings : List (List Packet)) (i : ℕ) (packets : List Packet) → slice_get rings i ≡ Some packets
    → slice_index_or (map length rings) i 0 ≡ length packets
counted_there [] i packets e = cc
counted_there (r ∷ rings) zero packets e = ap length (same_Some r packets e)
counted_there (r ∷ rings) (suc i) packets e = counted_there rings i packets e

pub leaves : (s : Scheme) (core core' : Core) (memory : EngineMemoryView) (turns : ℕ) (tallies : List Tallies) (left : List ℕ) (e : EngineState) (ring n : ℕ)
    (packets : List Packet) → engine_of s core memory turns tallies left ≡ e → core' ≡ moved (with_queue (Ring ring) [] core.state) core
    → slice_get core.state.world.rings ring ≡ Some packets → n ≡ length packets
    → engine_of s core' memory turns tallies (slice_set left ring (slice_index_or left ring 0 + n)) ≡ left_at ring e
leaves s core core' memory turns tallies left e ring n packets is becomes there count =
    let same : n ≡ slice_index_or (left_in_rings core.state.world) ring 0 = count ∙ sym (counted_there core.state.world.rings ring packets there) in
    ap (λ m. engine_of s m memory turns tallies (slice_set left ring (slice_index_or left ring 0 + n))) becomes
    ∙ ap (λ m. engine_of s (moved (with_queue (Ring ring) [] core.state) core) memory turns tallies (slice_set left ring (slice_index_or left ring 0 + m))) same
    ∙ ap (left_at ring) is

-- no more records that a port wrote
sent_none : (tallies : List Tallies) (port : ℕ) → sent_at port 0 tallies ≡ tallies
sent_none [] port = refl
sent_none (t ∷ tallies) zero = ap (λ n. record t { sent = n } ∷ tallies) (add-zero t.sent)
sent_none (t ∷ tallies) (suc port) = ap (λ l. t ∷ l) (sent_none tallies port)

pub drops : (s : Scheme) (core core' : Core) (memory : EngineMemoryView) (turns : ℕ) (tallies : List Tallies) (left : List ℕ) (e : EngineState) (port : ℕ)
    → engine_of s core memory turns tallies left ≡ e → core' ≡ moved (with_queue (Tx port) [] core.state) core
    → engine_of s core' memory turns tallies left ≡ drained port 0 e
drops s core core' memory turns tallies left e port is becomes =
    ap (λ m. engine_of s m memory turns tallies left) becomes
    ∙ ap (λ l. engine_of s (moved (with_queue (Tx port) [] core.state) core) memory turns l left) (sym (sent_none tallies port))
    ∙ ap (drained port 0) is

-- a transmit list that has no packet
no_packets : (packets : List Packet) → length packets ≡ 0 → packets ≡ []
no_packets [] none = refl
no_packets (k ∷ packets) none = absurd (omega (arith, none))

pub none_at : (s : Scheme) (core : Core) (memory : EngineMemoryView) (turns : ℕ) (tallies : List Tallies) (left : List ℕ) (e : EngineState) (port n : ℕ)
    → engine_of s core memory turns tallies left ≡ e
    → (packets : List Packet) × (slice_get core.state.world.outboxes port ≡ Some packets) × (n ≡ length packets) → n ≡ 0
    → slice_get e.world.outboxes port ≡ Some []
none_at s core memory turns tallies left e port n is (packets, box, count) none =
    ap (λ (x : EngineState). slice_get x.world.outboxes port) (sym is) ∙ box ∙ ap Some (no_packets packets (sym count ∙ none))

emptied_none : (lists : List (List Packet)) (port : ℕ) → slice_get lists port ≡ Some [] → slice_set lists port [] ≡ lists
emptied_none [] port e = refl
emptied_none (l ∷ lists) zero e = ap (λ k. k ∷ lists) (sym (same_Some l [] e))
emptied_none (l ∷ lists) (suc port) e = ap (λ k. l ∷ k) (emptied_none lists port e)

-- its drain changes nothing
pub drained_none : (port : ℕ) (e : EngineState) → slice_get e.world.outboxes port ≡ Some [] → e ≡ drained port 0 e
drained_none port e none =
    let f = emptied_none e.world.outboxes port none in
    let h = sent_none e.tallies port in
    rw (f, h) refl

-- ---- the first slots, and all

-- the first n lists are emptied
abbrev pub emptied_to : ℕ → List (List Packet) → List (List Packet)
emptied_to zero lists = lists
emptied_to (suc n) [] = []
emptied_to (suc n) (l ∷ lists) = [] ∷ emptied_to n lists

-- and the first n counts are added
abbrev pub added_to : ℕ → List ℕ → List (List Packet) → List ℕ
added_to zero left rings = left
added_to (suc n) [] rings = []
added_to (suc n) (x ∷ left) [] = x ∷ left
added_to (suc n) (x ∷ left) (r ∷ rings) = (x + length r) ∷ added_to n left rings

emptied_next : (n : ℕ) (lists : List (List Packet)) → slice_set (emptied_to n lists) n [] ≡ emptied_to (suc n) lists
emptied_next zero [] = refl
emptied_next zero (l ∷ lists) = refl
emptied_next (suc n) [] = refl
emptied_next (suc n) (l ∷ lists) = ap (λ k. [] ∷ k) (emptied_next n lists)

emptied_all : (n : ℕ) (lists : List (List Packet)) → length lists ≤ n → emptied_to n lists ≡ map (λ _. []) lists
emptied_all zero [] le = refl
emptied_all zero (l ∷ lists) le = absurd (omega (arith, le))
emptied_all (suc n) [] le = refl
emptied_all (suc n) (l ∷ lists) le = ap (λ k. [] ∷ k) (emptied_all n lists (omega (arith, le)))

added_next : (n : ℕ) (left : List ℕ) (rings : List (List Packet)) → n < length rings
    → slice_set (added_to n left rings) n (slice_index_or (added_to n left rings) n 0 + slice_index_or (map length (emptied_to n rings)) n 0)
    ≡ added_to (suc n) left rings
added_next zero left [] lt = absurd (omega (arith, lt))
added_next zero [] (r ∷ rings) lt = refl
added_next zero (x ∷ left) (r ∷ rings) lt = refl
added_next (suc n) left [] lt = absurd (omega (arith, lt))
added_next (suc n) [] (r ∷ rings) lt = refl
added_next (suc n) (x ∷ left) (r ∷ rings) lt = ap (λ l. (x + length r) ∷ l) (added_next n left rings (omega (arith, lt)))

added_all : (n : ℕ) (left : List ℕ) (rings : List (List Packet)) → length rings ≤ n → added_to n left rings ≡ with_left left (map length rings)
added_all zero [] [] le = refl
added_all zero (x ∷ left) [] le = refl
added_all zero left (r ∷ rings) le = absurd (omega (arith, le))
added_all (suc n) [] rings le = refl
added_all (suc n) (x ∷ left) [] le = refl
added_all (suc n) (x ∷ left) (r ∷ rings) le = ap (λ l. (x + length r) ∷ l) (added_all n left rings (omega (arith, le)))

-- an engine of which the first rings are emptied and counted as left
abbrev pub left_to : ℕ → EngineState → EngineState
left_to n e = record e { world = record e.world { rings = emptied_to n e.world.rings }; left = added_to n e.left e.world.rings }

-- and one of which the first transmit lists are emptied
abbrev pub dropped_to : ℕ → EngineState → EngineState
dropped_to n e = record e { world = record e.world { outboxes = emptied_to n e.world.outboxes } }

pub left_next : (n : ℕ) (e : EngineState) → n < length e.world.rings → left_at n (left_to n e) ≡ left_to (suc n) e
left_next n e lt =
    ap (λ l. record e {
      world = record e.world { rings = l };
      left = slice_set (added_to n e.left e.world.rings) n
          (slice_index_or (added_to n e.left e.world.rings) n 0 + slice_index_or (map length (emptied_to n e.world.rings)) n 0);
    }) (emptied_next n e.world.rings)
    ∙ ap (λ l. record e { world = record e.world { rings = emptied_to (suc n) e.world.rings }; left = l }) (added_next n e.left e.world.rings lt)

pub dropped_next : (n : ℕ) (e : EngineState) → drained n 0 (dropped_to n e) ≡ dropped_to (suc n) e
dropped_next n e =
    ap (λ l. record e { world = record e.world { outboxes = l }; tallies = sent_at n 0 e.tallies }) (emptied_next n e.world.outboxes)
    ∙ ap (λ l. record e { world = record e.world { outboxes = emptied_to (suc n) e.world.outboxes }; tallies = l }) (sent_none e.tallies n)

pub all_left : (rings : ℕ) (e : EngineState) → length e.world.rings ≤ rings
    → left_to rings e ≡ record e { world = with_empty_rings e.world; left = with_left e.left (left_in_rings e.world) }
all_left rings e le =
    let f = emptied_all rings e.world.rings le in
    let h = added_all rings e.left e.world.rings le in
    rw (f, h) refl

pub all_dropped : (ports : ℕ) (e : EngineState) → length e.world.outboxes ≤ ports → dropped_to ports e ≡ record e { world = with_empty_outboxes e.world }
all_dropped ports e le = ap (λ l. record e { world = record e.world { outboxes = l } }) (emptied_all ports e.world.outboxes le)

pub nothing_lives : (e : EngineState) → live (between (flushed e).world) ≡ []
nothing_lives e =
    let r : segments_listed (map (λ _. []) e.world.rings) ≡ [] = nothing_listed e.world.rings in
    let b : segments_listed (map (λ _. []) e.world.outboxes) ≡ [] = nothing_listed e.world.outboxes in
    rw (r, b) refl

-- ---- lists that are emptied and counted as sent

-- the first counts, with as many more records sent
abbrev pub sent_to : ℕ → List Tallies → List (List Packet) → List Tallies
sent_to zero tallies lists = tallies
sent_to (suc n) [] lists = []
sent_to (suc n) (t ∷ tallies) [] = t ∷ tallies
sent_to (suc n) (t ∷ tallies) (l ∷ lists) = record t { sent = t.sent + length l } ∷ sent_to n tallies lists

sent_next : (n : ℕ) (tallies : List Tallies) (lists : List (List Packet)) (packets : List Packet) → slice_get lists n ≡ Some packets
    → sent_at n (length packets) (sent_to n tallies lists) ≡ sent_to (suc n) tallies lists
sent_next n tallies [] packets e = cc
sent_next zero [] (l ∷ lists) packets e = refl
sent_next zero (t ∷ tallies) (l ∷ lists) packets e =
    ap (λ (p : List Packet). record t { sent = t.sent + length p } ∷ tallies) (sym (same_Some l packets e))
sent_next (suc n) [] (l ∷ lists) packets e = refl
sent_next (suc n) (t ∷ tallies) (l ∷ lists) packets e = ap (λ x. record t { sent = t.sent + length l } ∷ x) (sent_next n tallies lists packets e)

sent_all : (n : ℕ) (tallies : List Tallies) (lists : List (List Packet)) → length lists ≤ n → sent_to n tallies lists ≡ with_sent tallies (map length lists)
sent_all zero [] [] le = refl
sent_all zero (t ∷ tallies) [] le = refl
sent_all zero tallies (l ∷ lists) le = absurd (omega (arith, le))
sent_all (suc n) [] lists le = refl
sent_all (suc n) (t ∷ tallies) [] le = refl
sent_all (suc n) (t ∷ tallies) (l ∷ lists) le = ap (λ x. record t { sent = t.sent + length l } ∷ x) (sent_all n tallies lists (omega (arith, le)))

-- the next list is as it was
pub emptied_at : (n : ℕ) (lists : List (List Packet)) → slice_get (emptied_to n lists) n ≡ slice_get lists n
emptied_at zero lists = refl
emptied_at (suc n) [] = refl
emptied_at (suc n) (l ∷ lists) = emptied_at n lists

-- an engine of which the first transmit lists are emptied, and counted as sent
abbrev pub drained_to : ℕ → EngineState → EngineState
drained_to n e = record e { world = record e.world { outboxes = emptied_to n e.world.outboxes }; tallies = sent_to n e.tallies e.world.outboxes }

pub drained_next : (n : ℕ) (e : EngineState) (packets : List Packet) → slice_get e.world.outboxes n ≡ Some packets
    → drained n (length packets) (drained_to n e) ≡ drained_to (suc n) e
drained_next n e packets there =
    ap (λ l. record e { world = record e.world { outboxes = l }; tallies = sent_at n (length packets) (sent_to n e.tallies e.world.outboxes) })
    (emptied_next n e.world.outboxes)
    ∙ ap (λ l. record e { world = record e.world { outboxes = emptied_to (suc n) e.world.outboxes }; tallies = l })
    (sent_next n e.tallies e.world.outboxes packets there)

pub drained_all : (ports : ℕ) (e : EngineState) → length e.world.outboxes ≤ ports → drained_to ports e ≡ all_drained e
drained_all ports e le =
    let f = emptied_all ports e.world.outboxes le in
    let h = sent_all ports e.tallies e.world.outboxes le in
    rw (f, h) refl
