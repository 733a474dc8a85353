-- The facts follow the first byte, and the bounds follow the facts.
use Rattle.std.proofs.Common.{arith, length, take, drop, ◌≡◌, ◌-◌, refl}
use Rattle.std.proofs.lemmas.List.{take_all, length-drop}
use Rattle.dp_cert.specs.Reading.{row_in}
use Rattle.dp_cert.proofs.parsing.row_in.Goals as goal

pub returns : goal.returns
unfolding row_in
returns c =
    let bytes = c.args.bytes.now in
    let e = c.facts_in.ensures in
    let a : take (length bytes - 1) (drop 1 bytes) ≡ drop 1 bytes = take_all (length bytes - 1) (drop 1 bytes) (omega (arith, length-drop 1 bytes)) in
    let b : take (length bytes - 89) (drop 89 bytes) ≡ drop 89 bytes = take_all (length bytes - 89) (drop 89 bytes) (omega (arith, length-drop 89 bytes)) in
    rw (c.facts_in.ensures, c.bounds_in.ensures, a, b) refl
