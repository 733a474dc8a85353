-- The bytes that small engines need.
use Rattle.std.proofs.Common.{◌≡◌, ℕ, [], ◌∷◌, refl}
use Rattle.dp_model.specs.Environments.{Environment}
use Rattle.dp_engine.specs.Needs.{power_above, bytes_needed}

-- one pool without a cache, for 2,176 bytes in each buffer, and one port
abbrev one_port : ℕ → ℕ → Environment
one_port buffers queue = record {
  pools = record { count = buffers; cache = 0; room = 2176 } ∷ [];
  tables = 0;
  rings = [];
  ports = record { pool = 0; segs = 1; queue = queue } ∷ [];
}

of_64_buffers : bytes_needed (one_port 64 32) ≡ 148_288
unfolding power_above
of_64_buffers = refl

of_4_buffers : bytes_needed (one_port 4 4) ≡ 9536
unfolding power_above
of_4_buffers = refl
