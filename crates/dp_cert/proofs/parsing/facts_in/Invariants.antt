-- The facts so far and those to come are those of the bytes.
use Rattle.std.proofs.Common.{◌≡◌, ◌++◌, ◌-◌, ◌*◌, take, drop, length}
use Rattle.dp_cert.specs.Reading.{fact_in, parts_in}
use Rattle.dp_cert.proofs.parsing.facts_in.Given as goal

abbrev pub invariant-loop-i : goal.invariant-loop-i
invariant-loop-i l = record {
  told : take l.i l.facts ++ parts_in fact_in 11 (8 - l.i) (drop (11 * l.i) l.bytes) ≡ parts_in fact_in 11 8 l.bytes;
  eight : length l.facts ≡ 8;
}
