-- Turns: a record is received, refused or oversize, and then rings are served.
use Rattle.std.proofs.Common.{◌≡◌, ℕ, ◌+◌, ◌-◌, ◌≤◌, Bool, List, ◌++◌, length, Some, refl, ◌∙◌, ap, subst, arith, ◌*◌, cond, sym, append_assoc}
use Rattle.std.specs.Prelude.{slice_get, option_map, option_and_then}
use Rattle.std.specs.List.{AllByRecursion}
use Rattle.std.proofs.lemmas.Bool.{lt-ltb, le-ltb}
use Rattle.dp_model.specs.Environments.{room_at}
use Rattle.dp_model.specs.Packets.{Lies, packet_bytes, needed}
use Rattle.dp_model.specs.Machine.{live, Setting, World}
use Rattle.dp_model.specs.Copies.{copy_of}
use Rattle.dp_model.specs.CopyMachine.{copy_received, are_answered, CopyState, copy_node_run, copy_receives, copy_arrives, copy_serves, copy_turn}
use Rattle.dp_model.specs.declared.env.PortSpec.{PortSpec}
use Rattle.dp_model.specs.declared.instr.Instr.{Instr}
use Rattle.dp_model.specs.Runs.{Outcome, Got, Oversize, Nodes, NoBuffer, between, Receives, Arrives, Turn, packet_received}
use Rattle.dp_model.specs.Laws.Limits.{HaveRoom}
use Rattle.dp_model.specs.Laws.References.{live_parts}
use Rattle.dp_model.specs.Laws.Within.{IsInside, lies_received, needed_holds, all_first}
use Rattle.dp_copies.proofs.Unchanged.{Same, listed_same}
use Rattle.dp_copies.proofs.Taking.{received_copy, quiet, roomy}
use Rattle.dp_copies.proofs.Landings.{Shows, Lands, stays, node_lands}
use Rattle.dp_copies.proofs.RingRuns.{serves_lands}

-- a record that is received
got_lands : (c : Setting) (program : List Instr) (port : ℕ) (spec : PortSpec) (bytes : List ℕ) (w w' : World) (answers later : List Bool) (x : CopyState) →
    129 ≤ room_at c.env.pools spec.pool → IsInside c (between w) → Shows c.env.pools w (answers ++ later) x → Receives c program port spec bytes w answers w' →
    Lands c w' later (λ fuel. copy_receives c.env c.tables fuel program port spec bytes x x.to_answer) (λ t. (Got, t))
unfolding Same
got_lands c program port spec bytes w w' answers later x room well shows r =
    let pools = c.env.pools in
    let size = room_at pools spec.pool in
    let need = needed pools spec.pool (length bytes) in
    let in_pool = r.reception in
    let new = in_pool.buffers in
    let k = packet_received c spec bytes in_pool.numbers in
    let w1 : World = record w { buffers = new; calls = w.calls + 1 } in
    let changes = in_pool.filled.others in
    let few : length bytes ≤ length in_pool.numbers * (size - 128) = subst (λ n. length bytes ≤ n * (size - 128)) (sym in_pool.fresh.count)
    (needed_holds (size - 128) (length bytes) (omega (arith, room))) in
    let some : 1 ≤ length in_pool.numbers = omega (arith, in_pool.fresh.count) in
    let lie : AllByRecursion (Lies pools) k =
    lies_received pools (live (between w)) spec.pool in_pool.numbers (length bytes) (omega (arith, room)) few in_pool.fresh.each in
    let copy : copy_of pools new k ≡ copy_received size need bytes =
    received_copy pools new size in_pool.numbers (length bytes) bytes (omega (arith, room)) refl few
    (roomy pools w.buffers new (live (between w)) spec.pool in_pool.numbers changes.lengths well in_pool.fresh.each) in_pool.filled.spells some
    ∙ ap (λ n. copy_received size n bytes) in_pool.fresh.count in
    let same : Same pools w.buffers new (live (between w)) = λ b one. changes.others b
    (quiet pools (live (between w)) spec.pool in_pool.numbers b in_pool.fresh.each one) in
    let y : CopyState = record x { to_answer = r.later ++ later } in
    let node = node_lands c program k port w1 w' r.later later y
    (record {
      rooms = λ b nb. changes.lengths b ∙ well.rooms b nb;
      bytes = changes.bytes well.bytes;
      lie = all_first (Lies pools) k port w1 lie well.lie;
    })
    (record {
      rings = shows.rings ∙ sym (listed_same pools w.buffers new w.rings (λ b one. same b (omega (arith, one, live_parts (between w) b))));
      outboxes = shows.outboxes ∙ sym (listed_same pools w.buffers new w.outboxes (λ b one. same b (omega (arith, one, live_parts (between w) b))));
      to_answer = refl;
      cuts = shows.cuts;
    })
    r.run in
    record {
      state = node.state;
      shows = node.shows;
      enough = node.enough;
      lands = λ fuel le.
          ap (copy_receives c.env c.tables fuel program port spec bytes x) (shows.to_answer ∙ ap (λ ts. ts ++ later) r.answers_are)
          ∙ (ap (λ packet. option_map {T = CopyState} {U = Outcome × CopyState} (λ t. (Got, t)) (copy_node_run c.env c.tables fuel program packet port y))
          (sym copy)
          ∙ ap (option_map (λ t. (Got, t))) (node.lands fuel le));
      within = node.within;
    }

-- a record that comes, whatever its outcome
arrives_lands : (c : Setting) (program : List Instr) (port : ℕ) (spec : PortSpec) (bytes : List ℕ) (w w' : World) (outcome : Outcome)
    (answers later : List Bool)
    (x : CopyState) → 129 ≤ room_at c.env.pools spec.pool → IsInside c (between w) → Shows c.env.pools w (answers ++ later) x →
    Arrives c program port spec bytes w outcome answers w' → Lands c w' later (λ fuel. copy_arrives c.env c.tables fuel program port spec bytes x)
    (λ t. (outcome, t))
arrives_lands c program port spec bytes w w' Oversize answers later x room well shows (big, none, is) =
    stays c w w' answers later x (λ fuel. copy_arrives c.env c.tables fuel program port spec bytes x) (λ t. (Oversize, t)) well shows none is
    (λ fuel. ap (λ b. cond b (Some (Oversize, x)) (copy_receives c.env c.tables fuel program port spec bytes x x.to_answer))
    (lt-ltb spec.segs (needed c.env.pools spec.pool (length bytes)) big))
arrives_lands c program port spec bytes w w' NoBuffer answers later x room well shows (small, denied, are_answered, is) =
    subst (λ v. Lands c v later (λ fuel. copy_arrives c.env c.tables fuel program port spec bytes x) (λ t. (NoBuffer, t))) (sym is) (record {
      state = record x { to_answer = later };
      shows = record { rings = shows.rings; outboxes = shows.outboxes; to_answer = refl; cuts = shows.cuts };
      enough = 0;
      lands = λ fuel le.
          ap (λ b. cond b (Some (Oversize, x)) (copy_receives c.env c.tables fuel program port spec bytes x x.to_answer))
          (le-ltb spec.segs (needed c.env.pools spec.pool (length bytes)) small)
          ∙ ap (copy_receives c.env c.tables fuel program port spec bytes x) (shows.to_answer ∙ ap (λ ts. ts ++ later) are_answered);
      within = record { rooms = well.rooms; bytes = well.bytes; lie = well.lie };
    })
arrives_lands c program port spec bytes w w' Got answers later x room well shows r =
    let got = got_lands c program port spec bytes w w' answers later x room well shows r in
    record {
      state = got.state;
      shows = got.shows;
      enough = got.enough;
      lands = λ fuel le.
          ap (λ b. cond b (Some (Oversize, x)) (copy_receives c.env c.tables fuel program port spec bytes x x.to_answer))
          (le-ltb spec.segs (needed c.env.pools spec.pool (length bytes)) r.reception.fits)
          ∙ got.lands fuel le;
      within = got.within;
    }

-- a whole turn
pub turn_lands : (c : Setting) (nodes : Nodes) (port : ℕ) (bytes : List ℕ) (w w' : World) (outcome : Outcome) (runs : ℕ) (answers later : List Bool)
    (x : CopyState) → HaveRoom c.env → IsInside c (between w) → Shows c.env.pools w (answers ++ later) x → Turn c nodes port bytes w outcome runs answers w' →
    Lands c w' later (λ fuel. copy_turn c.env c.tables fuel nodes port bytes x) (λ t. (outcome, t))
turn_lands c nodes port bytes w w' outcome runs answers later x rooms well shows t =
    let split : answers ++ later ≡ t.now ++ (t.later ++ later) = ap (λ ts. ts ++ later) t.answers_are ∙ append_assoc t.now t.later later in
    let came = arrives_lands c t.program port t.spec bytes w t.mid outcome t.now (t.later
    ++ later) x (rooms port t.spec t.spec_is) well (record {
      rings = shows.rings;
      outboxes = shows.outboxes;
      to_answer = shows.to_answer
          ∙ split;
      cuts = shows.cuts;
    }) t.arrives in
    let served = serves_lands c nodes.rings 32 t.mid w' t.later later t.more came.state came.within came.shows t.serves in
    record {
      state = served.state;
      shows = served.shows;
      enough = came.enough + served.enough;
      lands = λ fuel le.
          ap (option_and_then (λ spec. option_and_then (λ program. option_and_then
          (λ m. option_map {T = CopyState} {U = Outcome × CopyState} (λ t. (m.0, t)) (copy_serves c.env c.tables fuel nodes.rings 32 m.1))
          (copy_arrives c.env c.tables fuel program port spec bytes x)) (slice_get nodes.ports port))) t.spec_is
          ∙ (ap (option_and_then (λ program. option_and_then (λ m. option_map {T = CopyState} {U = Outcome
          × CopyState} (λ t. (m.0, t)) (copy_serves c.env c.tables fuel nodes.rings 32 m.1))
          (copy_arrives c.env c.tables fuel program port t.spec bytes x))) t.program_is
          ∙ (ap (option_and_then (λ m. option_map {T = CopyState} {U = Outcome
          × CopyState} (λ t. (m.0, t)) (copy_serves c.env c.tables fuel nodes.rings 32 m.1))) (came.lands fuel (omega (arith, le)))
          ∙ ap (option_map (λ t. (outcome, t))) (served.lands fuel (omega (arith, le)))));
      within = served.within;
    }
