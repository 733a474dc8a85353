-- The bytes of the bounds so far are written.
use Rattle.std.proofs.Common.{◌≡◌, ◌*◌, take, length}
use Rattle.std.specs.List.{flat_map}
use Rattle.std.specs.Int.{w64, to_be_bytes}
use Rattle.dp_cert.proofs.encoding.bytes_of_bounds.Given as goal

abbrev pub invariant-loop-i : goal.invariant-loop-i
invariant-loop-i l = record { told : take (8 * l.i) l.bytes ≡ flat_map (to_be_bytes w64) (take l.i l.bounds); all : length l.bytes ≡ 64 }
