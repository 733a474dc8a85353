-- What the zones of an environment take of a region, and what is laid out there.
use Rattle.std.proofs.Common.{◌≡◌, ℕ, ◌+◌, ◌*◌, ◌<◌, ◌≤◌, true, List, length, take, get_or, Option, Some, None, sym, ap, subst, ◌∙◌, arith}
use Rattle.std.specs.Prelude.{slice_set}
use Rattle.std.specs.List.{AllByRecursion}
use Rattle.std.proofs.lemmas.List.{length-map, take_all}
use Rattle.dp_region.specs.Ownership.{Home}
use Rattle.dp_ring.specs.Rings.{RingView, IsCount}
use Rattle.dp_pool.specs.Pools.{PoolView}
use Rattle.dp_model.specs.declared.env.PoolSpec.{PoolSpec}
use Rattle.dp_model.specs.Environments.{Environment, pool_fits, fault_of}
use Rattle.dp_engine.specs.declared.memory.Parts.{Parts}
use Rattle.dp_engine.specs.Layouts.{IsLaidOut, PartsIn}
use Rattle.dp_engine.specs.Needs.{zone_bytes, objects_len, queue_len, pool_bytes, ring_bytes, total, ring_counts, list_counts, bytes_needed}
use Rattle.dp_engine.specs.Memories.{EngineMemoryView, AreFilled, IsNewRing, IsNewPool}
use Rattle.dp_engine.specs.Laws.{known}
use Rattle.dp_engine.proofs.Filled.{total_last, all_at, all_take, filled_count, rings_stand, pools_stand, next_filled}
use Rattle.dp_engine.proofs.Ready.{ready, specs_are}
use Rattle.dp_engine.proofs.Refusals.{within, long}

-- the last pool is s, after i others, and all have room in a region of this size
pub record IsPlan (specs : List PoolSpec) (lists rings : List ℕ) (size i : ℕ) (s : PoolSpec) : Type 0 where
  pub number : (i + 1 ≡ length specs) × (length specs ≤ 8)
  pub fits : pool_fits s ≡ true
  pub firsts : AllByRecursion (λ s. pool_fits s ≡ true) (take i specs)
  pub lists_fit : AllByRecursion IsCount lists
  pub rings_fit : AllByRecursion IsCount rings
  pub lists_few : (1 ≤ length lists) × (length lists ≤ 8)
  pub rings_few : length rings ≤ 8
  pub sum : total ring_bytes lists + total ring_bytes rings + total pool_bytes (take i specs) + zone_bytes (objects_len s) + zone_bytes (queue_len s) ≤ size
  pub objects : 192 ≤ zone_bytes (objects_len s)
  pub queue : (0 < queue_len s) × (queue_len s ≤ 1073741824)

plan_of : (e : Environment) (size i : ℕ) (d : PoolSpec) → fault_of e ≡ None → bytes_needed e ≤ size → i + 1 ≡ length e.pools →
    IsPlan e.pools (list_counts e) (ring_counts e) size i (get_or e.pools i d)
plan_of e size i d none room last =
    let k = known e none in
    let s = get_or e.pools i d in
    let inside : i < length e.pools = omega arith in
    let fits : pool_fits s ≡ true = all_at (λ s. pool_fits s ≡ true) e.pools i d inside k.pools_fit in
    let (objects, _, queue, any) = long s fits in let some = (within s fits).count.0 in let most = (within s fits).count.1 in
    let whole = total_last pool_bytes e.pools i d last in
    let lists = length-map e.ports (λ p. p.queue) in let rings = length-map e.rings (λ r. r.count) in
    let ports = k.ports in let few = k.rings in
    record {
      number = (last, k.pools.1);
      fits = fits;
      firsts = all_take (λ s. pool_fits s ≡ true) e.pools i k.pools_fit;
      lists_fit = k.lists_fit;
      rings_fit = k.rings_fit;
      lists_few = (omega (arith, ports, lists), omega (arith, ports, lists));
      rings_few = omega (arith, few, rings);
      sum = omega (arith, whole, room);
      objects = omega (arith, objects, some);
      queue = (any, omega (arith, queue, most));
    }

pub plan : (e : Environment) (specs : List PoolSpec) (lists rings : List ℕ) (size i : ℕ) (d : PoolSpec) → fault_of e ≡ None → specs ≡ e.pools →
    lists ≡ list_counts e → rings ≡ ring_counts e → bytes_needed e ≤ size → i + 1 ≡ length specs
    → IsPlan specs lists rings size i (get_or specs i d)
plan e specs lists rings size i d none ps ls rs room last =
    subst (λ (xs : List PoolSpec). IsPlan xs lists rings size i (get_or xs i d)) (sym ps)
    (subst (λ (xs : List ℕ). IsPlan e.pools xs rings size i (get_or e.pools i d)) (sym ls)
    (subst (λ (xs : List ℕ). IsPlan e.pools (list_counts e) xs size i (get_or e.pools i d)) (sym rs)
    (plan_of e size i d none room (last ∙ ap length ps))))

pub some_pools : (e : Environment) → fault_of e ≡ None → 1 ≤ length e.pools
some_pools e none = (known e none).pools.0

pub laid_out : (e : Environment) (home : Home) (size : ℕ) (v : EngineMemoryView) (parts : Parts) → fault_of e ≡ None → v.home ≡ home → v.size ≡ size
    → AreFilled (IsNewPool home) e.pools parts.pools → AreFilled (IsNewRing home) (ring_counts e) parts.rings →
    AreFilled (IsNewRing home) (list_counts e) parts.lists
    → v.out ≡ 2 * length e.pools + length (ring_counts e) + length (list_counts e) → IsLaidOut home size e v parts
laid_out e home size v parts none at bytes pools rings lists out =
    let k = known e none in
    let many_pools = filled_count (IsNewPool home) e.pools parts.pools pools in
    let many_rings = filled_count (IsNewRing home) (ring_counts e) parts.rings rings in
    let many_lists = filled_count (IsNewRing home) (list_counts e) parts.lists lists in
    record {
      home_is = at;
      size_is = bytes;
      ready = ready home e.pools parts.pools k.pools.0 k.pools.1 k.mbufs pools;
      pools = specs_are home e.pools parts.pools pools;
      rings = rings;
      lists = lists;
      stand = subst (λ (h : Home). PartsIn h parts) (sym at) (
        pools_stand home e.pools parts.pools pools,
        rings_stand home (ring_counts e) parts.rings rings,
        rings_stand home (list_counts e) parts.lists lists,
      );
      out = omega (arith, many_pools, many_rings, many_lists, out);
    }

-- the rings are those of a list of the environment, in its region
pub rings_of : (here home : Home) (counts wanted : List ℕ) (slots : List (Option RingView)) → here ≡ home → counts ≡ wanted →
    AreFilled (IsNewRing here) counts slots → AreFilled (IsNewRing home) wanted slots
rings_of here home counts wanted slots at is are = subst (λ (h : Home). AreFilled (IsNewRing h) wanted slots) at
    (subst (λ (xs : List ℕ). AreFilled (IsNewRing here) xs slots) is are)

-- with the last of the pools
pub last_filled : (home first here : Home) (specs wanted : List PoolSpec) (slots : List (Option PoolView)) (i : ℕ) (d : PoolSpec) (v : PoolView)
    (o : Option PoolView) → i + 1 ≡ length specs → i < length slots → here ≡ first → first ≡ home → specs ≡ wanted
    → AreFilled (IsNewPool first) (take i specs) slots → IsNewPool here (get_or specs i d) v → o ≡ Some v →
    AreFilled (IsNewPool home) wanted (slice_set slots i o)
last_filled home first here specs wanted slots i d v o last room at back ps are new is =
    subst (λ (h : Home). AreFilled (IsNewPool h) wanted (slice_set slots i o)) back
    (subst (λ (xs : List PoolSpec). AreFilled (IsNewPool first) xs (slice_set slots i o)) (take_all (i + 1) specs (omega arith) ∙ ps)
    (next_filled IsNewPool first here specs slots i d v o (omega arith) room at are new is))

-- stands for a missing pool
abbrev pub no_spec : PoolSpec
no_spec = record { count = 0; cache = 0; room = 0 }
