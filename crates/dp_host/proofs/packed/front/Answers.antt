-- Bytes that begin with a file are as long as its lengths say, and its name is UTF-8.
use Rattle.std.proofs.Common.{◌≡◌, length, take, drop, sym, ◌∙◌, ap, subst, arith}
use Rattle.std.specs.Str.{IsUtf8}
use Rattle.dp_host.specs.Packing.{first_number}
use Rattle.dp_host.proofs.Files.{long_is, name_long, bytes_long, name_is}
use Rattle.dp_host.proofs.packed.front.Goals as goal
use Rattle.dp_host.proofs.packed.front.Goals.{then-rest-name_length-via-then-rest-name_length}
use Rattle.dp_host.proofs.packed.front.Goals.{then-rest-name_length-via-else-rest-name_length+then-rest-name_length-2}

pub returns-then-rest-name_length-clause-none : goal.returns-then-rest-name_length-clause-none
returns-then-rest-name_length-clause-none c = λ file more utf8 begins.
    let packed = c.args.packed.now in
    let long = long_is packed file more begins in
    let name : c.number_in-name_length.result ≡ length file.name.now = c.number_in-name_length.ensures ∙ ap first_number c.split_at.ensures.front
    ∙ sym (name_long packed file more begins) in
    let bytes : c.number_in-length.result ≡ length file.bytes.now = c.number_in-length.ensures ∙ ap first_number c.split_at-2.ensures.back
    ∙ ap (λ h. first_number (drop 4 h)) c.split_at.ensures.front
    ∙ sym (bytes_long packed file more begins) in
    elim c.then-rest-name_length.branch [
      | then-rest-name_length-via-then-rest-name_length w ↦
          absurd (omega (arith, w.if-rest-name_length.true, name, long, c.split_at.ensures.back_len))
      | then-rest-name_length-via-else-rest-name_length+then-rest-name_length-2 w ↦
          absurd (omega (arith, w.if-rest-name_length.false, w.if-rest-name_length-2.true, name, bytes, long, c.split_at.ensures.back_len))
    ]

pub returns-in-Err-clause-none : goal.returns-in-Err-clause-none
returns-in-Err-clause-none c = λ file more utf8 begins.
    let packed = c.args.packed.now in
    let name : c.number_in-name_length.result ≡ first_number (take 8 packed) = c.number_in-name_length.ensures ∙ ap first_number c.split_at.ensures.front in
    let same : c.split_at-3.result.0.now ≡ file.name.now = c.split_at-3.ensures.front ∙ ap (take c.number_in-name_length.result) c.split_at.ensures.back
    ∙ ap (λ n. take n (drop 8 packed)) name ∙ name_is packed file more begins in
    c.in-Err.ensures.cases.0 (subst IsUtf8 (sym same) utf8)
