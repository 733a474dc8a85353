-- The numbers of mbufs, which the code has as constants.
use Rattle.std.specs.Prelude.{◌≡◌}
use Rattle.dp_mbuf.specs.declared.limits.TheConstants.{HEADER_SIZE, HEADROOM, MAX_LENGTH, MAX_MBUFS, MAX_OBJECT_SIZE, MAX_POOLS, MAX_ROOM, MAX_SEGMENTS}

-- the sizes of an object's parts in bytes, and the maximum numbers of pools, mbufs, segments and bytes of a packet
pub record HasNumbers : Type 0 where
  pub object : (HEADER_SIZE ≡ 128) × (MAX_ROOM ≡ 4096) × (MAX_OBJECT_SIZE ≡ 4224)
  pub headroom : HEADROOM ≡ 128
  pub most : (MAX_POOLS ≡ 8) × (MAX_MBUFS ≡ 65535)
  pub packet : (MAX_SEGMENTS ≡ 64) × (MAX_LENGTH ≡ 262144)
