-- A world at rest stays at rest when a queue is emptied.
use Rattle.std.proofs.Common.{◌≡◌, ℕ, zero, suc, ◌+◌, ◌≤◌, Bool, List, [], ◌∷◌, length, refl, sym, ◌∙◌, subst, arith}
use Rattle.std.specs.Prelude.{slice_set}
use Rattle.std.specs.List.{AllByRecursion, AllZip, flat_map}
use Rattle.std.proofs.lemmas.List.{length-set}
use Rattle.dp_model.specs.declared.env.PoolSpec.{PoolSpec}
use Rattle.dp_model.specs.declared.env.RingSpec.{RingSpec}
use Rattle.dp_model.specs.Buffers.{same_number}
use Rattle.dp_model.specs.Packets.{Segment, Packet, Lies, IsWithin}
use Rattle.dp_model.specs.declared.queue.Queue.{Queue}
use Rattle.dp_model.specs.declared.queue.Queue.TheVariants.{Tx, Ring}
use Rattle.dp_model.specs.Machine.{Setting, State, World, live, segments_listed, with_queue}
use Rattle.dp_model.specs.Meaning.{RingHolds}
use Rattle.dp_model.specs.Runs.{between}
use Rattle.dp_model.specs.Safety.{IsPacket, ArePackets, IsAtRest}
use Rattle.dp_model.specs.Laws.References.{refs-append, Keeps}
use Rattle.dp_model.specs.Laws.Counts.{tally, tally-append, fewer_owned, fewer_by}
use Rattle.dp_model.specs.Laws.Lists.{all_left, all_right, all_join}
use Rattle.dp_model.specs.Laws.Waiting.{rings_kept}
use Rattle.dp_model.specs.Laws.Within.{parts}
use Rattle.dp_engine.specs.Handles.{Core, moved}
use Rattle.dp_engine.specs.Schemes.{Scheme}
use Rattle.dp_engine.specs.Serving.{Rests}

-- ---- lists of which one is emptied

-- no count of their segments grows
fewer_listed : (test : Segment → Bool) (lists : List (List Packet)) (i : ℕ)
    → tally test (segments_listed (slice_set lists i [])) ≤ tally test (segments_listed lists)
fewer_listed test [] i = omega arith
fewer_listed test (l ∷ lists) zero = omega (arith, tally-append test (flat_map (λ k. k) l) (segments_listed lists))
fewer_listed test (l ∷ lists) (suc i) =
    omega (
      arith,
      fewer_listed test lists i,
      tally-append test (flat_map (λ k. k) l) (segments_listed lists),
      tally-append test (flat_map (λ k. k) l) (segments_listed (slice_set lists i [])),
    )

-- what holds of all their segments still does
all_listed : (P : Segment → Type 0) (lists : List (List Packet)) (i : ℕ) → AllByRecursion P (segments_listed lists)
    → AllByRecursion P (segments_listed (slice_set lists i []))
all_listed P [] i all = all
all_listed P (l ∷ lists) zero all = all_right P (flat_map (λ k. k) l) (segments_listed lists) all
all_listed P (l ∷ lists) (suc i) all =
    all_join P (flat_map (λ k. k) l) (segments_listed (slice_set lists i [])) (all_left P (flat_map (λ k. k) l) (segments_listed lists) all)
    (all_listed P lists i (all_right P (flat_map (λ k. k) l) (segments_listed lists) all))

-- and what holds of each list, if it holds of an empty one
all_emptied : (P : List Packet → Type 0) (lists : List (List Packet)) (i : ℕ) → P [] → AllByRecursion P lists → AllByRecursion P (slice_set lists i [])
all_emptied P [] i none all = tt
all_emptied P (l ∷ lists) zero none all = (none, all.1)
all_emptied P (l ∷ lists) (suc i) none all = (all.0, all_emptied P lists i none all.1)

-- each ring has what it declares
rings_emptied : (pools : List PoolSpec) (held : List Segment) (specs : List RingSpec) (rings : List (List Packet)) (i : ℕ)
    → AllZip (RingHolds pools held) specs rings → AllZip (RingHolds pools held) specs (slice_set rings i [])
rings_emptied pools held [] [] i all = tt
rings_emptied pools held [] (r ∷ rings) i all = absurd all
rings_emptied pools held (spec ∷ specs) [] i all = all
rings_emptied pools held (spec ∷ specs) (r ∷ rings) zero all = (tt, all.1)
rings_emptied pools held (spec ∷ specs) (r ∷ rings) (suc i) all = (all.0, rings_emptied pools held specs rings i all.1)

-- ---- worlds

-- a world that has the same buffers as another, and no more packets
record HasNoMore (c : Setting) (w w' : World) : Type 0 where
  buffers : w'.buffers ≡ w.buffers
  fewer : (test : Segment → Bool) → tally test (live (between w')) ≤ tally test (live (between w))
  rings : AllZip (RingHolds c.env.pools (live (between w))) c.env.rings w'.rings
  outboxes : length w'.outboxes ≡ length w.outboxes
  lie : AllByRecursion (Lies c.env.pools) (live (between w'))
  packets : ArePackets (between w')

-- it is at rest if the other is
rests_too : (c : Setting) (w w' : World) → HasNoMore c w w' → IsAtRest c w → IsAtRest c w'
rests_too c w w' no_more rest =
    let old = live (between w) in
    let new = live (between w') in
    let keeps : Keeps old new (segments_listed w'.rings) = λ b part one.
    omega (arith, part, one, refs-append (segments_listed w'.rings) (segments_listed w'.outboxes) b, no_more.fewer (λ s. same_number s.buffer b)) in
    record {
      ready = record {
        world = record {
          rings = rings_kept c.env.pools old new c.env.rings w'.rings keeps no_more.rings;
          outboxes = no_more.outboxes ∙ rest.ready.world.outboxes;
        };
        tables = rest.ready.tables;
        within = subst (λ buffers. IsWithin c.env.pools buffers new) (sym no_more.buffers)
            (record { rooms = rest.ready.within.rooms; bytes = rest.ready.within.bytes; lie = no_more.lie });
      };
      owned = fewer_owned c.env.pools old new (fewer_by old new no_more.fewer) rest.owned;
      packets = no_more.packets;
    }

-- how often a segment is live in a world
live_of : (test : Segment → Bool) (w : World) → tally test (live (between w)) ≡ tally test (segments_listed w.rings) + tally test (segments_listed w.outboxes)
live_of test w = tally-append test (segments_listed w.rings) (segments_listed w.outboxes)

emptied : (c : Setting) (s : State) (queue : Queue) → IsAtRest c s.world → HasNoMore c s.world (with_queue queue [] s).world
emptied c s (Tx port) rest =
    let w = s.world in let lists = parts (Lies c.env.pools) (between w) rest.ready.within.lie in
    record {
      buffers = refl;
      fewer = λ test. omega (arith, live_of test w, live_of test (with_queue (Tx port) [] s).world, fewer_listed test w.outboxes port);
      rings = rest.ready.world.rings;
      outboxes = length-set w.outboxes port [];
      lie = all_join (Lies c.env.pools) (segments_listed w.rings) (segments_listed (slice_set w.outboxes port [])) lists.rings
          (all_listed (Lies c.env.pools) w.outboxes port lists.outboxes);
      packets = record { held = tt; rings = rest.packets.rings; outboxes = all_emptied (AllByRecursion IsPacket) w.outboxes port tt rest.packets.outboxes };
    }
emptied c s (Ring ring) rest =
    let w = s.world in let lists = parts (Lies c.env.pools) (between w) rest.ready.within.lie in
    record {
      buffers = refl;
      fewer = λ test. omega (arith, live_of test w, live_of test (with_queue (Ring ring) [] s).world, fewer_listed test w.rings ring);
      rings = rings_emptied c.env.pools (live (between w)) c.env.rings w.rings ring rest.ready.world.rings;
      outboxes = refl;
      lie = all_join (Lies c.env.pools) (segments_listed (slice_set w.rings ring [])) (segments_listed w.outboxes)
          (all_listed (Lies c.env.pools) w.rings ring lists.rings) lists.outboxes;
      packets = record { held = tt; rings = all_emptied (AllByRecursion IsPacket) w.rings ring tt rest.packets.rings; outboxes = rest.packets.outboxes };
    }

-- ---- machines

-- a queue is emptied
pub emptied_rests : (s : Scheme) (core : Core) (queue : Queue) → Rests s core → Rests s (moved (with_queue queue [] core.state) core)
emptied_rests s core queue rests =
    go queue (rests_too s.setting core.state.world _ (emptied s.setting core.state queue rests.rest) rests.rest)
  where
    go : (queue : Queue) → IsAtRest s.setting (with_queue queue [] core.state).world → Rests s (moved (with_queue queue [] core.state) core)
    go (Tx port) rest = record { idle = rests.idle; pools = rests.pools; fits = rests.fits; rest = rest }
    go (Ring ring) rest = record { idle = rests.idle; pools = rests.pools; fits = rests.fits; rest = rest }
