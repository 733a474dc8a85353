-- How many bytes an engine needs.
use Rattle.std.specs.Prelude.{ℕ, zero, suc, ◌+◌, ◌*◌, nat_lt, if◌then◌else◌, List, [], ◌∷◌, map}
use Rattle.dp_model.specs.declared.env.PoolSpec.{PoolSpec}
use Rattle.dp_model.specs.Environments.{Environment}
use Rattle.dp_model.specs.Limits.{max_buffers, max_room}
use Rattle.dp_heap.specs.Elements.{header_len, rounded}
use Rattle.dp_ring.specs.Rings.{max_slots}
use Rattle.dp_pool.specs.Making.{object_len}
use Rattle.dp_mbuf.specs.declared.limits.TheConstants.{HEADER_SIZE}

-- p, doubled until it is above n, at most m times
abbrev pub doubled_past : ℕ → ℕ → ℕ → ℕ
doubled_past n p zero = p
doubled_past n p (suc most) = if nat_lt n p then p else doubled_past n (2 * p) most

-- the smallest power of two above n
unfoldable pub power_above : ℕ → ℕ
power_above n = doubled_past n 1 n

-- the bytes of a zone: a header, and its length rounded up
abbrev pub zone_bytes : ℕ → ℕ
zone_bytes len = header_len + rounded len

-- the lengths of a pool's zones: that of its objects, each a header and a data room, and that of its queue
abbrev pub objects_len : PoolSpec → ℕ
objects_len s = object_len s.count (s.room + HEADER_SIZE)

abbrev pub queue_len : PoolSpec → ℕ
queue_len s = 4 * power_above s.count

-- the bytes of a pool, and of a ring with this many slots
abbrev pub pool_bytes : PoolSpec → ℕ
pool_bytes s = zone_bytes (objects_len s) + zone_bytes (queue_len s)

abbrev pub ring_bytes : ℕ → ℕ
ring_bytes count = zone_bytes (4 * count)

-- the maximum number of bytes that the objects of a pool, a pool, and a ring take
abbrev pub max_objects_len : ℕ
max_objects_len = max_buffers * (max_room + HEADER_SIZE)

abbrev pub max_pool_bytes : ℕ
max_pool_bytes = zone_bytes max_objects_len + zone_bytes (4 * max_slots)

abbrev pub max_ring_bytes : ℕ
max_ring_bytes = ring_bytes max_slots

-- the sum of f over a list
abbrev pub total : {X : Type 0} → (X → ℕ) → List X → ℕ
total f [] = 0
total f (x ∷ xs) = f x + total f xs

-- the numbers of slots of the rings, and of the transmit lists
abbrev pub ring_counts : Environment → List ℕ
ring_counts e = map (λ r. r.count) e.rings

abbrev pub list_counts : Environment → List ℕ
list_counts e = map (λ p. p.queue) e.ports

-- the bytes of all pools, rings and transmit lists
abbrev pub bytes_needed : Environment → ℕ
bytes_needed e = total pool_bytes e.pools + total ring_bytes (ring_counts e) + total ring_bytes (list_counts e)
