-- The limits and sizes that the definitions cite.
use Rattle.std.specs.Prelude.{ℕ, ◌+◌}

-- the maximum number of buffers of a pool, and of all pools together: their indexes have 16 bits
abbrev pub max_buffers : ℕ
max_buffers = 65535

-- the maximum size of a pool's cache, in indexes
abbrev pub max_cached : ℕ
max_cached = 512

-- the maximum data room of a buffer
abbrev pub max_room : ℕ
max_room = 4096

-- the maximum size of a ring or a transmit list
abbrev pub max_ring : ℕ
max_ring = 65536

-- the maximum number of segments of a packet
abbrev pub max_segments : ℕ
max_segments = 64

-- the headroom of a new or received packet
abbrev pub default_headroom : ℕ
default_headroom = 128

-- the smallest data room that a port receives into: the headroom, and a byte
abbrev pub min_port_room : ℕ
min_port_room = default_headroom + 1

-- the largest number in a fact
abbrev pub max_known : ℕ
max_known = 65535

-- the largest hop of a route
abbrev pub max_hop : ℕ
max_hop = 16777215

-- the maximum number of node runs of a turn on packets from rings
abbrev pub max_ring_runs : ℕ
max_ring_runs = 32
