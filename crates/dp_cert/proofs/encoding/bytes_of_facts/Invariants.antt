-- The bytes of the facts so far are written.
use Rattle.std.proofs.Common.{◌≡◌, ◌*◌, take, length}
use Rattle.std.specs.List.{flat_map}
use Rattle.dp_cert.specs.Spelling.{fact_bytes}
use Rattle.dp_cert.proofs.encoding.bytes_of_facts.Given as goal

abbrev pub invariant-loop-i : goal.invariant-loop-i
invariant-loop-i l = record { told : take (11 * l.i) l.bytes ≡ flat_map fact_bytes (take l.i l.facts); all : length l.bytes ≡ 88 }
