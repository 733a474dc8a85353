-- The tables of the files so far, and those of the words that are left, are those of all words.
use Rattle.std.proofs.Common.{◌≡◌, ◌++◌, drop, map}
use Rattle.dp_request.proofs.reading.read_all_routes.Given as goal

abbrev pub invariant-loop-one : goal.invariant-loop-one
invariant-loop-one g l =
    map (λ file. file.table) l.files.items ++ map (λ one. one.table) (drop l.one-index l.named) ≡ map (λ one. one.table) l.named
