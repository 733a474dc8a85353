-- How whole runs end: no packet is live, and the allocation calls are those that were answered.
use Rattle.std.proofs.Common.{◌≡◌, ℕ, suc, ◌+◌, Bool, true, List, [], ◌∷◌, ◌++◌, length, map, sym, ◌∙◌, ap, subst, arith}
use Rattle.std.proofs.Common.{length-append}
use Rattle.std.specs.List.{AllByRecursion, AllZip}
use Rattle.std.proofs.lemmas.List.{length-map}
use Rattle.std.proofs.lemmas.Slice.Zip.{AllZip-long}
use Rattle.dp_model.specs.declared.env.PoolSpec.{PoolSpec}
use Rattle.dp_model.specs.declared.env.PortSpec.{PortSpec}
use Rattle.dp_model.specs.declared.env.RingSpec.{RingSpec}
use Rattle.dp_model.specs.declared.instr.Instr.{Instr}
use Rattle.dp_model.specs.Environments.{count_at}
use Rattle.dp_model.specs.Buffers.{Number}
use Rattle.dp_model.specs.Packets.{Segment, Packet, Lies, is_free, available}
use Rattle.dp_model.specs.Machine.{Setting, World, Ended, live, segments_listed}
use Rattle.dp_model.specs.Meaning.{RingHolds, TablesFit}
use Rattle.dp_model.specs.Runs.{first_state, NodeRun, between, Outcome, Got, NoBuffer, Oversize, Arrives, Serves, Nodes, Turn}
use Rattle.dp_model.specs.Runs.{Arrival, Observed, Run, WholeRun, with_empty_outboxes, with_empty_rings}
use Rattle.dp_model.specs.Laws.{AreChecked}
use Rattle.dp_model.specs.Safety.{IsAtRest}
use Rattle.dp_model.specs.Starts.{IsStart}
use Rattle.dp_model.specs.Laws.Available.{available_all}
use Rattle.dp_model.proofs.Counts.{tally_live}
use Rattle.dp_model.specs.Laws.Counts.{tally, fewer_owned, fewer_by}
use Rattle.dp_model.specs.Laws.Steps.{goes_counts}
use Rattle.dp_model.specs.Laws.Lists.{all_right}
use Rattle.dp_model.specs.Laws.Runs.{start_ready, nothing_mapped, no_lists}
use Rattle.dp_model.proofs.WholeRuns.{run_ready}
use Rattle.dp_model.proofs.RunFolds.{serves_fold, run_keeps_each}
use Rattle.dp_model.specs.Laws.Waiting.{nothing_listed}

-- ---- nothing is live

pub run_outboxes : {T : Type 0} (c : Setting) (nodes : Nodes) (arrivals : List (Arrival T)) (w w' : World) (shown : Observed T) →
    segments_listed w.outboxes ≡ [] → Run c nodes arrivals w shown w' → segments_listed w'.outboxes ≡ []
run_outboxes c nodes arrivals w w' shown = run_keeps_each c nodes (λ w. segments_listed w.outboxes ≡ [])
    (λ port bytes w mid outcome runs answers none turn. nothing_listed mid.outboxes) arrivals w w' shown

pub ends_with_nothing : {T : Type 0} (c : Setting) (nodes : Nodes) (arrivals : List (Arrival T)) (w w' : World) (shown : Observed T) (left : List ℕ) →
    IsStart c.env w → WholeRun c nodes arrivals w shown left w' → live (between w') ≡ []
ends_with_nothing c nodes arrivals w w' shown left start whole =
    let none : segments_listed w.outboxes ≡ [] = ap segments_listed start.outboxes ∙ nothing_mapped c.env.ports in
    let boxes = run_outboxes c nodes arrivals w whole.last shown none whole.run in
    ap (λ (x : World). live (between x)) whole.is
    ∙ (ap (λ xs. xs ++ segments_listed whole.last.outboxes) (nothing_listed whole.last.rings) ∙ boxes)

-- so every buffer is free
pub nothing_is_free : (pools : List PoolSpec) (w : World) (pool : ℕ) (b : Number) → live (between w) ≡ [] →
    (is_free (live (between w)) b ≡ true) × (available pools (live (between w)) pool ≡ count_at pools pool)
nothing_is_free pools w pool b none =
    (ap (λ segments. is_free segments b) none, ap (λ segments. available pools segments pool) none ∙ available_all pools pool)

-- ---- the rings

pub each_ring_counted : {T : Type 0} (c : Setting) (nodes : Nodes) (arrivals : List (Arrival T)) (w w' : World) (shown : Observed T) (left : List ℕ) →
    TablesFit c → AreChecked c nodes → IsStart c.env w → WholeRun c nodes arrivals w shown left w' → length left ≡ length c.env.rings
each_ring_counted c nodes arrivals w w' shown left tables checked start whole =
    let ready = run_ready c nodes arrivals w whole.last shown checked (start_ready c w tables start) whole.run in
    ap length whole.left_are ∙ (length-map whole.last.rings length ∙ AllZip-long (RingHolds c.env.pools (live (between whole.last))) c.env.rings
    whole.last.rings ready.world.rings)

-- ---- allocation calls

node_counts : (c : Setting) (program : List Instr) (k : Packet) (number : ℕ) (w w' : World) (answers : List Bool) → NodeRun c program k number w answers w' →
    w'.calls ≡ w.calls + length answers
node_counts c program k number w w' answers (n, s, goes, is) =
    ap (λ (x : World). x.calls) is ∙ (goes_counts c program n 0 (first_state k number w) answers Ended s goes).calls

arrives_counts : (c : Setting) (program : List Instr) (port : ℕ) (spec : PortSpec) (bytes : List ℕ) (w w' : World) (outcome : Outcome) (answers : List Bool) →
    Arrives c program port spec bytes w outcome answers w' → w'.calls ≡ w.calls + length answers
arrives_counts c program port spec bytes w w' Oversize answers (_, none, is) =
    let no_call : length answers ≡ 0 = ap length none in
    let calls : w'.calls ≡ w.calls = ap (λ (x : World). x.calls) is in
    omega (arith, no_call, calls)
arrives_counts c program port spec bytes w w' NoBuffer answers (_, _, one, is) =
    let a_call : length answers ≡ 1 = ap length one in
    let calls : w'.calls ≡ w.calls + 1 = ap (λ (x : World). x.calls) is in
    omega (arith, a_call, calls)
arrives_counts c program port spec bytes w w' Got answers r =
    let long : length answers ≡ suc (length r.later) = ap length r.answers_are in
    omega (arith, long, node_counts c program _ port _ w' r.later r.run)

serves_counts : (c : Setting) (programs : List (List Instr)) (n : ℕ) (w w' : World) (answers : List Bool) (runs : ℕ) → Serves c programs n w answers runs w' →
    w'.calls ≡ w.calls + length answers
serves_counts c programs = serves_fold c programs (λ n w w' answers runs. w'.calls ≡ w.calls + length answers)
    (λ n w why. omega arith)
    (λ n more w mid w' next program now later e is_program run rest.
    omega (arith, rest, length-append now later, node_counts c program next.packet next.ring (record w { rings = next.rings }) mid now run))

pub turn_counts : (c : Setting) (nodes : Nodes) (port : ℕ) (bytes : List ℕ) (w w' : World) (outcome : Outcome) (runs : ℕ) (answers : List Bool) →
    Turn c nodes port bytes w outcome runs answers w' → w'.calls ≡ w.calls + length answers
turn_counts c nodes port bytes w w' outcome runs answers t =
    let long : length answers ≡ length t.now + length t.later = ap length t.answers_are ∙ length-append t.now t.later in
    omega (
      arith,
      long,
      arrives_counts c t.program port t.spec bytes w t.mid outcome t.now t.arrives,
      serves_counts c nodes.rings 32 t.mid w' t.later t.more t.serves,
    )

pub run_counts : {T : Type 0} (c : Setting) (nodes : Nodes) (arrivals : List (Arrival T)) (w w' : World) (shown : Observed T) →
    Run c nodes arrivals w shown w' → w'.calls ≡ w.calls + length shown.answers
run_counts {T} c nodes [] w w' shown (none, is) =
    let no_call : length shown.answers ≡ 0 = ap (λ (s : Observed T). length s.answers) none in
    let calls : w'.calls ≡ w.calls = ap (λ (x : World). x.calls) is in
    omega (arith, no_call, calls)
run_counts {T} c nodes (a ∷ arrivals) w w' shown (outcome, answers, runs, mid, rest, turn, run, is) =
    let long : length shown.answers ≡ length answers + length rest.answers = ap (λ (s : Observed T). length s.answers) is ∙ length-append answers rest.answers
    in
    omega (
      arith,
      long,
      turn_counts c nodes a.port a.bytes w mid outcome runs answers turn,
      run_counts c nodes arrivals (with_empty_outboxes mid) w' rest run,
    )

pub whole_counts : {T : Type 0} (c : Setting) (nodes : Nodes) (arrivals : List (Arrival T)) (w w' : World) (shown : Observed T) (left : List ℕ) →
    IsStart c.env w → WholeRun c nodes arrivals w shown left w' → w'.calls ≡ length shown.answers
whole_counts c nodes arrivals w w' shown left start whole =
    let same : w'.calls ≡ whole.last.calls = ap (λ (x : World). x.calls) whole.is in
    omega (arith, same, start.calls, run_counts c nodes arrivals w whole.last shown whole.run)

-- ---- the world afterwards

emptied_rings : (pools : List PoolSpec) (segments segments' : List Segment) (specs : List RingSpec) (rings : List (List Packet)) →
    AllZip (RingHolds pools segments) specs rings → AllZip (RingHolds pools segments') specs (map (λ _. []) rings)
emptied_rings pools segments segments' [] [] all = tt
emptied_rings pools segments segments' (spec ∷ specs) (ring ∷ rings) all = (tt, emptied_rings pools segments segments' specs rings all.1)
emptied_rings pools segments segments' x y all = absurd all

-- where no ring has a packet the next record can still come
pub emptied_rest : (c : Setting) (w : World) → IsAtRest c w → IsAtRest c (with_empty_rings w)
emptied_rest c w rest =
    let w' = with_empty_rings w in
    let boxes = segments_listed w.outboxes in
    let same : live (between w') ≡ boxes = ap (λ xs. xs ++ boxes) (nothing_listed w.rings) in
    record {
      ready = record {
        world = record {
          rings = emptied_rings c.env.pools (live (between w)) (live (between w')) c.env.rings w.rings rest.ready.world.rings;
          outboxes = rest.ready.world.outboxes;
        };
        tables = rest.ready.tables;
        within = record {
          rooms = rest.ready.within.rooms;
          bytes = rest.ready.within.bytes;
          lie = subst (AllByRecursion (Lies c.env.pools)) (sym same) (all_right (Lies c.env.pools) (segments_listed w.rings) boxes rest.ready.within.lie);
        };
      };
      owned = fewer_owned c.env.pools (live (between w)) (live (between w'))
          (fewer_by (live (between w)) (live (between w'))
          (λ test. let e : tally test (segments_listed w'.rings) ≡ 0 = ap (tally test) (nothing_listed w.rings) in
          omega (arith, e, tally_live test (between w), tally_live test (between w'))))
          rest.owned;
      packets = record { held = tt; rings = no_lists w.rings; outboxes = rest.packets.outboxes };
    }
