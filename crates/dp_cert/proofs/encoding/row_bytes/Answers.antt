-- The flag, the facts and the bounds fill the row.
use Rattle.std.proofs.Common.{◌≡◌, ℕ, ◌+◌, List, ◌∷◌, ◌++◌, length, take, sym, ◌∙◌, arith, rules}
use Rattle.std.specs.Int.{w64, to_be_bytes}
use Rattle.std.specs.List.{flat_map}
use Rattle.std.proofs.lemmas.List.{take_all}
use Rattle.dp_cert.specs.Spelling.{fact_bytes}
use Rattle.dp_cert.proofs.encoding.row_bytes.Goals as goal

joined : (x : ℕ) (a b one all : List ℕ) → length a ≡ 88 → length b ≡ 64 → take (1 + length a) one ≡ x ∷ a → take (89 + length b) all ≡ take 89 one ++ b
    → length all ≡ 153 → all ≡ x ∷ a ++ b
joined x a b one all eleven eight first second len =
    let k : 1 + length a ≡ 89 = omega arith in
    let m : 89 + length b ≡ 153 = omega arith in
    let e : take 89 one ≡ x ∷ a = rw k at first in
    let f : take 153 all ≡ take 89 one ++ b = rw m at second in
    sym (take_all 153 all (omega arith)) ∙ rw (f, e)

pub returns : goal.returns
returns c =
    let whole : c.write_at-2.new.bytes ≡ c.from.result ∷ flat_map fact_bytes c.args.row.now.facts ++ flat_map (to_be_bytes w64) c.args.row.now.bounds =
    rw (← c.bytes_of_facts.ensures, ← c.bytes_of_bounds.ensures)
    (joined c.from.result c.bytes_of_facts.result c.bytes_of_bounds.result c.write_at.new.bytes c.write_at-2.new.bytes
    (omega arith) (omega arith) c.write_at.ensures.so_far c.write_at-2.ensures.so_far (omega arith)) in
    search (rules, whole)
