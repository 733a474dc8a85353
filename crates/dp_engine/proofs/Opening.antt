-- An engine before its first turn.
use Rattle.std.proofs.Common.{◌≡◌, ℕ, zero, suc, List, [], ◌∷◌, length, map, replicate, Option, Some, None, refl, sym, ◌∙◌, ap, subst, arith}
use Rattle.std.specs.Prelude.{slice_get}
use Rattle.std.proofs.lemmas.Option.{none-some}
use Rattle.dp_region.specs.Ownership.{Home}
use Rattle.dp_ring.specs.Rings.{RingView}
use Rattle.dp_pool.specs.Pools.{PoolZones}
use Rattle.dp_model.specs.declared.env.PoolSpec.{PoolSpec}
use Rattle.dp_model.specs.declared.env.RingSpec.{RingSpec}
use Rattle.dp_model.specs.declared.env.PortSpec.{PortSpec}
use Rattle.dp_model.specs.Environments.{Environment, room_at, fault_of}
use Rattle.dp_model.specs.Buffers.{IsNumber, bytes_of}
use Rattle.dp_model.specs.Packets.{Packet}
use Rattle.dp_model.specs.Rules.{Question}
use Rattle.dp_model.specs.Meaning.{TablesFit}
use Rattle.dp_model.specs.Stores.{IsWellFormedStore}
use Rattle.dp_model.specs.Starts.{IsStart}
use Rattle.dp_model.specs.Laws.Runs.{start_rest}
use Rattle.dp_lpm.specs.Routes.{RouteTable}
use Rattle.dp_mbuf.specs.Mbufs.{MbufsView, IsNew}
use Rattle.dp_engine.specs.declared.memory.Parts.{Parts}
use Rattle.dp_engine.specs.Handles.{packet_at, in_slot, packets_listed, entries_of, frames_of, Core}
use Rattle.dp_engine.specs.MachineParts.{first_core}
use Rattle.dp_engine.specs.Queues.{QueuesView, rings_in}
use Rattle.dp_engine.specs.Schemes.{Scheme, scheme_of}
use Rattle.dp_engine.specs.Serving.{Rests}
use Rattle.dp_engine.specs.Memories.{EngineMemoryView, AreFilled, IsNewRing}
use Rattle.dp_engine.specs.Layouts.{IsLaidOut}
use Rattle.dp_engine.specs.Tallies.{listed_count}
use Rattle.dp_engine.specs.Engines.{IsEngine, engine_of, IsOpened, StandIn, no_tallies}
use Rattle.dp_engine.specs.Laws.{known}
use Rattle.dp_engine.proofs.Parts.{rings_first, counts_in, stand_in}

-- nothing waits in rings that were laid out for these
empty_lists : {X : Type 0} (f : X → ℕ) (home : Home) (slots : List (Option Packet)) (xs : List X) (others : List (Option RingView))
    → AreFilled (IsNewRing home) (map f xs) others → packets_listed slots (map entries_of (rings_in others)) ≡ map (λ _. []) xs
empty_lists f home slots [] [] are = refl
empty_lists f home slots [] (None ∷ others) are = refl
empty_lists f home slots [] (Some r ∷ others) are = absurd (none-some r (sym are.0))
empty_lists f home slots (x ∷ xs) [] are = absurd are
empty_lists f home slots (x ∷ xs) (None ∷ others) are = absurd are.0
empty_lists f home slots (x ∷ xs) (Some r ∷ others) are =
    ap (λ es. map (packet_at slots) es ∷ packets_listed slots (map entries_of (rings_in others))) are.0.empty
    ∙ ap (λ lists. [] ∷ lists) (empty_lists f home slots xs others are.1)

-- the queues that were laid out
abbrev pub queues_in : Parts → QueuesView
queues_in parts = record { rings = rings_in parts.rings; outboxes = rings_in parts.lists }

-- no slot has a packet
pub no_slots : (slots : List (Option Packet)) (n h : ℕ) → slots ≡ replicate n None → in_slot (slice_get slots h) ≡ 0
no_slots slots n h is = ap (λ xs. in_slot (slice_get xs h)) is ∙ none n h
  where
    none : (n h : ℕ) → in_slot (slice_get (replicate n None) h) ≡ 0
    none zero h = refl
    none (suc n) zero = refl
    none (suc n) (suc h) = none n h

none_listed : {X : Type 0} (xs : List X) → listed_count (map (λ _. []) xs) ≡ 0
none_listed [] = refl
none_listed (x ∷ xs) = let more = none_listed xs in omega arith

module _ (home : Home) (size : ℕ) (env : Environment) (memory : EngineMemoryView) (parts : Parts) (m : MbufsView) (laid : IsLaidOut home size env memory parts)
    (new : IsNew parts.pools m) (well : IsWellFormedStore m.store) where
  abbrev core : Core
  core = first_core m (queues_in parts)

  pools_are : m.store.pools ≡ env.pools
  pools_are = new.pools_are ∙ laid.pools

  pub starts : IsStart env core.state.world
  starts = record {
    rings = empty_lists (λ (r : RingSpec). r.count) home m.store.slots env.rings parts.rings laid.rings;
    outboxes = empty_lists (λ (p : PortSpec). p.queue) home m.store.slots env.ports parts.lists laid.lists;
    rooms = λ b there. (let P : List PoolSpec → Type 0 = λ pools. IsNumber pools b → length (bytes_of m.store.buffers b) ≡ room_at pools b.pool in subst P
        pools_are (well.within.rooms b) there);
    bytes = well.within.bytes;
    calls = refl;
    steps = refl;
    cuts = refl;
  }

  stands : StandIn memory core.frames
  stands = subst (λ (zones : List PoolZones). StandIn memory (frames_of zones (rings_in parts.rings) (rings_in parts.lists))) (sym new.zones)
      (stand_in memory parts laid.ready.first (rings_first home _ parts.rings laid.rings) (rings_first home _ parts.lists laid.lists) laid.stand laid.out)

  pub rests_first : (s : Scheme) → s.setting.env ≡ env → fault_of s.setting.env ≡ None → TablesFit s.setting → Rests s core
  rests_first s same within tables = record {
    idle = (refl, (refl, (refl, (refl, (refl, (refl, (refl, (refl, tt))))))));
    pools = pools_are ∙ ap (λ (e : Environment). e.pools) (sym same);
    fits = record {
      rings = counts_in home _ parts.rings laid.rings ∙ ap (λ (e : Environment). map (λ (r : RingSpec). r.count) e.rings) (sym same);
      outboxes = counts_in home _ parts.lists laid.lists ∙ ap (λ (e : Environment). map (λ (p : PortSpec). p.queue) e.ports) (sym same);
      few = (known s.setting.env within).ports.1;
    };
    rest = start_rest s.setting core.state.world tables (subst (λ (e : Environment). IsStart e core.state.world) (sym same) starts);
  }

  pub engine_first : (s : Scheme) → s.setting.env ≡ env → fault_of s.setting.env ≡ None → TablesFit s.setting →
      IsEngine s core memory 0 (replicate 8 no_tallies) (replicate 8 0)
  engine_first s same within tables =
      let queued : listed_count core.state.world.rings ≡ 0 = ap listed_count starts.rings ∙ none_listed env.rings in
      let sent : listed_count core.state.world.outboxes ≡ 0 = ap listed_count starts.outboxes ∙ none_listed env.ports in
      record {
        within = within;
        rests = rests_first s same within tables;
        stand = stands;
        limit = omega arith;
        ports = refl;
        rings = refl;
        records = omega arith;
        calls = omega arith;
        cuts = omega arith;
        packets = omega (arith, queued, sent);
      }

  pub is_opened : (tables : List RouteTable) (questions : List Question)
      → IsOpened home size env tables questions (engine_of (scheme_of env tables questions []) core memory 0 (replicate 8 no_tallies) (replicate 8 0))
  is_opened tables questions = record {
    setting = refl;
    tables_are = refl;
    nodes = refl;
    start = starts;
    turns = refl;
    tallies = refl;
    left = refl;
    home_is = laid.home_is;
    size_is = laid.size_is;
  }
