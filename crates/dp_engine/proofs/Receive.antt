-- A record that comes to a machine at rest.
use Rattle.std.proofs.Common.{◌≡◌, ℕ, zero, suc, ◌+◌, ◌<◌, ◌≤◌, Bool, true, false, ◌||◌, List, [], ◌∷◌, length, map, replicate, Option, Some, None}
use Rattle.std.proofs.Common.{refl, sym, ◌∙◌, ap, subst}
use Rattle.std.proofs.Common.{arith, nat_eq, nat_lt}
use Rattle.std.specs.Prelude.{slice_get, slice_set}
use Rattle.std.specs.List.{list_any, AllByRecursion}
use Rattle.std.proofs.lemmas.Bool.{or_from}
use Rattle.dp_model.specs.Environments.{room_at}
use Rattle.dp_model.specs.Buffers.{Buffers}
use Rattle.dp_model.specs.Packets.{Packet, available, needed, received}
use Rattle.dp_model.specs.Machine.{Setting, State, live, is_denied}
use Rattle.dp_model.specs.Runs.{first_state, between}
use Rattle.dp_model.specs.Laws.Lists.{get_set_same}
use Rattle.dp_model.specs.Stores.{Store, segments_of, ReceivesInto}
use Rattle.dp_engine.specs.Handles.{held_of, packet_at, handles_held, occurs, in_slot, register_at, waiting, Core}
use Rattle.dp_engine.specs.MachineParts.{MachineParts, core_of, OccurOnce}
use Rattle.dp_engine.specs.Turns.{IsReceived}
use Rattle.dp_engine.proofs.Handles.{not_waiting, slot_filled}
use Rattle.dp_engine.proofs.Counts.{CountSame, idle_handles, idle_counts, available_same, fresh_same}

-- ---- a machine whose registers are empty

pub record Idle (m : MachineParts) : Type 0 where
  pub empty : handles_held m.registers ≡ []
  pub each : (h : ℕ) → occurs h (waiting m.lists) ≡ in_slot (slice_get m.store.slots h)

pub idle_of : {m : MachineParts} {core : Core} → core_of m ≡ core → OccurOnce m → AllByRecursion (λ o. o ≡ None) core.state.packets → Idle m
idle_of {m} is stand idle =
    let empty : handles_held m.registers ≡ [] = idle_handles m.store.slots m.registers
    (subst (λ (c : Core). AllByRecursion (λ o. o ≡ None) c.state.packets) (sym is) idle) in
    record {
      empty = empty;
      each = λ h. (let none : occurs h (handles_held m.registers) ≡ 0 = ap (occurs h) empty in omega (arith, none, stand h));
    }

-- each register is empty then
none_held : (slots : List (Option Packet)) (registers : List (Option ℕ)) → AllByRecursion (λ o. o ≡ None) (map (register_at slots) registers)
    → AllByRecursion (λ o. o ≡ None) registers
none_held slots [] all = tt
none_held slots (None ∷ registers) all = (refl, none_held slots registers all.1)
none_held slots (Some h ∷ registers) all = cc

pub empty_of : (m : MachineParts) (core : Core) → core_of m ≡ core → AllByRecursion (λ o. o ≡ None) core.state.packets
    → AllByRecursion (λ o. o ≡ None) m.registers
empty_of m core is idle =
    none_held m.store.slots m.registers (subst (λ (c : Core). AllByRecursion (λ o. o ≡ None) c.state.packets) (sym is) idle)

-- a list of eight without packets, and a packet in front
pub with_first : (registers : List (Option ℕ)) (h : ℕ) → length registers ≡ 8 → AllByRecursion (λ o. o ≡ None) registers
    → slice_set registers 0 (Some h) ≡ Some h ∷ replicate 7 None
with_first [] h eight all = absurd (omega (arith, eight))
with_first (o ∷ registers) h eight all = ap (λ rs. Some h ∷ rs) (none_listed registers 7 (omega (arith, eight)) all.1)
  where
    none_listed : (registers : List (Option ℕ)) (n : ℕ) → length registers ≡ n → AllByRecursion (λ o. o ≡ None) registers → registers ≡ replicate n None
    none_listed [] zero many all = refl
    none_listed [] (suc n) many all = absurd (omega (arith, many))
    none_listed (o ∷ registers) zero many all = absurd (omega (arith, many))
    none_listed (o ∷ registers) (suc n) many all =
        ap (λ p. p ∷ registers) all.0 ∙ ap (λ rs. None ∷ rs) (none_listed registers n (omega (arith, many)) all.1)

pub live_same : {m : MachineParts} {core : Core} → core_of m ≡ core → Idle m → CountSame (live (between core.state.world)) (segments_of m.store)
live_same {m} is idle =
    subst (λ (c : Core). CountSame (live (between c.state.world)) (segments_of m.store)) is (idle_counts m.store.slots m.lists idle.each)

-- ---- what a view shows of it

pub calls_of : (m : MachineParts) (core : Core) → core_of m ≡ core → m.calls ≡ core.state.world.calls
calls_of m core is = ap (λ (c : Core). c.state.world.calls) is

pub pools_of : (m : MachineParts) (core : Core) → core_of m ≡ core → m.store.pools ≡ core.pools
pools_of m core is = ap (λ (c : Core). c.pools) is

pub buffers_of : (m : MachineParts) (core : Core) → core_of m ≡ core → m.store.buffers ≡ core.state.world.buffers
buffers_of m core is = ap (λ (c : Core). c.state.world.buffers) is

-- ---- its changes

-- the store changes in an allocation call
abbrev pub granted : Store → MachineParts → MachineParts
granted s' m = record m { store = s'; calls = m.calls + 1 }

-- a node run begins with the packet of a handle, and with a number
abbrev pub beginning : ℕ → ℕ → MachineParts → MachineParts
beginning h number m = record m { registers = Some h ∷ replicate 7 None; numbers = number ∷ replicate 7 0; jumps = 0 }

-- the store with a packet in a slot
abbrev pub filled : ℕ → Packet → Buffers → Store → Store
filled h k buffers s = record s { buffers = buffers; slots = slice_set s.slots h (Some k) }

stand_received : (m : MachineParts) (port h : ℕ) (k : Packet) (buffers : Buffers) → Idle m → slice_get m.store.slots h ≡ Some None →
    OccurOnce (beginning h port (granted (filled h k buffers m.store) m))
stand_received m port h k buffers idle free x = omega (arith, idle.each x, slot_filled m.store.slots h x k free)

state_received : (m : MachineParts) (core : Core) (port h : ℕ) (k : Packet) (buffers : Buffers) → core_of m ≡ core → Idle m →
    slice_get m.store.slots h ≡ Some None → (core_of (beginning h port (granted (filled h k buffers m.store) m))).state
    ≡ first_state k port (record core.state.world { buffers = buffers; calls = core.state.world.calls + 1 })
state_received m core port h k buffers is idle free =
    let here : packet_at (slice_set m.store.slots h (Some k)) h ≡ k = ap held_of (get_set_same m.store.slots h (Some k) None free) in
    let (f, g) = not_waiting m.store.slots h (Some k) m.lists (idle.each h ∙ ap in_slot free) in
    subst (λ (c : Core). (core_of (beginning h port (granted (filled h k buffers m.store) m))).state
    ≡ first_state k port (record c.state.world { buffers = buffers; calls = c.state.world.calls + 1 })) is (rw (f, g, here) refl)

-- ---- what the store returns, and what that is for a machine

or_right : (a b : Bool) → a ≡ false → b ≡ true → (a || b) ≡ true
or_right false b e f = f
or_right true b e f = cc

lt_false : (a b : ℕ) → b ≤ a → nat_lt a b ≡ false
lt_false a b le = search (arith, le)

lt_true : (a b : ℕ) → a < b → nat_lt a b ≡ true
lt_true a b lt = search (arith, lt)

pub not_denied : (c : Setting) (s : Store) (state : State) (pool need : ℕ) → s.pools ≡ c.env.pools → CountSame (live state) (segments_of s) →
    list_any (nat_eq (state.world.calls + 1)) c.pattern ≡ false → need ≤ available s.pools (segments_of s) pool → is_denied c state pool need ≡ false
not_denied c s state pool need pools same listed le =
    or_from _ _ listed (lt_false (available c.env.pools (live state) pool) need
    (rw (available_same c.env.pools (live state) (segments_of s) pool same, ← pools) le))

pub denied : (c : Setting) (s : Store) (state : State) (pool need : ℕ) → s.pools ≡ c.env.pools → CountSame (live state) (segments_of s) →
    list_any (nat_eq (state.world.calls + 1)) c.pattern ≡ false → available s.pools (segments_of s) pool < need → is_denied c state pool need ≡ true
denied c s state pool need pools same listed lt =
    or_right _ _ listed (lt_true (available c.env.pools (live state) pool) need
    (rw (available_same c.env.pools (live state) (segments_of s) pool same, ← pools) lt))

-- a machine after a call that was granted
pub record Given (c : Setting) (m : MachineParts) (s' : Store) (core : Core) (pool port h : ℕ) (bytes : List ℕ) : Type 0 where
  pub stand : OccurOnce (beginning h port (granted s' m))
  pub state : IsReceived c pool port bytes core.state.world (core_of (beginning h port (granted s' m))).state
  pub pools : s'.pools ≡ core.pools
  pub allowed : list_any (nat_eq (m.calls + 1)) c.pattern ≡ false → is_denied c (between core.state.world) pool (needed c.env.pools pool (length bytes)) ≡ false

pub given : {c : Setting} {m : MachineParts} {s' : Store} {core : Core} {pool port h : ℕ} {bytes : List ℕ} → core_of m ≡ core → OccurOnce m →
    AllByRecursion (λ o. o ≡ None) core.state.packets → core.pools ≡ c.env.pools → ReceivesInto m.store pool bytes s' (Some h) →
    Given c m s' core pool port h bytes
given {c} {m} {s'} {core} {pool} {port} {h} {bytes} is stand rests pools (le, free, ns, buffers, fresh, fills, becomes) =
    let s = m.store in
    let idle = idle_of is stand rests in
    let same = live_same is idle in
    let of_env : s.pools ≡ c.env.pools = pools_of m core is ∙ pools in
    let k : Packet = received (room_at s.pools pool) ns (length bytes) in
    record {
      stand = rw becomes (stand_received m port h k buffers idle free);
      state = record {
        numbers = ns;
        buffers = buffers;
        fresh = rw (← of_env) (fresh_same s.pools (segments_of s) (live (between core.state.world)) pool (needed s.pools pool (length bytes)) ns
            (λ f. sym (same f)) fresh);
        filled = rw (← of_env, ← buffers_of m core is) fills;
        state = rw (← of_env, becomes) (state_received m core port h k buffers is idle free);
      };
      pools = ap (λ (x : Store). x.pools) becomes ∙ pools_of m core is;
      allowed = λ listed. not_denied c s (between core.state.world) pool (needed c.env.pools pool (length bytes)) of_env same
          (rw (← calls_of m core is) listed) (rw (← of_env) le);
    }

pub refused : (c : Setting) (m : MachineParts) (s' : Store) (core : Core) (pool : ℕ) (bytes : List ℕ) → core_of m ≡ core → OccurOnce m →
    AllByRecursion (λ o. o ≡ None) core.state.packets → core.pools ≡ c.env.pools → list_any (nat_eq (m.calls + 1)) c.pattern ≡ false →
    ReceivesInto m.store pool bytes s' None → is_denied c (between core.state.world) pool (needed c.env.pools pool (length bytes)) ≡ true
refused c m s' core pool bytes is stand rests pools listed (less, becomes) =
    let of_env : m.store.pools ≡ c.env.pools = pools_of m core is ∙ pools in
    denied c m.store (between core.state.world) pool (needed c.env.pools pool (length bytes)) of_env (live_same is (idle_of is stand rests))
    (rw (← calls_of m core is) listed) (rw (← of_env) less)
