-- One more part, in a loop that fills an array.
use Rattle.std.proofs.Common.{◌≡◌, ℕ, suc, ◌+◌, ◌-◌, ◌*◌, ◌<◌, ◌≤◌, List, [], ◌∷◌, ◌++◌, length, take, drop, set, refl, sym, ◌∙◌, append_assoc, add-one, arith}
use Rattle.std.proofs.lemmas.List.{append-nil, drop-drop, take_all}
use Rattle.std.proofs.Math.Seq.{take-suc-set}
use Rattle.dp_cert.specs.Reading.{parts_in}

pub parts_more : {A : Type 0} (part : List ℕ → A) (width n : ℕ) (bytes : List ℕ) (out : List A) (i : ℕ) (x : A) (total : List A) → i < n → i < length out →
    x ≡ part (take (width * i + width - width * i) (drop (width * i) bytes))
    → take i out ++ parts_in part width (n - i) (drop (width * i) bytes) ≡ total → take (i + 1) (set out i x)
    ++ parts_in part width (n - (i + 1)) (drop (width * (i + 1)) bytes) ≡ total
unfolding parts_in
parts_more part width n bytes out i x total lt room is so_far =
    let k : n - i ≡ suc (n - (i + 1)) = omega arith in
    let far : width * i + width ≡ width * (i + 1) = omega arith in
    let cut : drop width (drop (width * i) bytes) ≡ drop (width * (i + 1)) bytes = rw (drop-drop, far) refl in
    let grown : take (i + 1) (set out i x) ≡ take i out ++ x ∷ [] = rw add-one (take-suc-set out i x room) in
    let y : x ≡ part (take width (drop (width * i) bytes)) = (let w : width * i + width - width * i ≡ width = omega arith in rw w at is) in
    let one : take i out ++ parts_in part width (n - i) (drop (width * i) bytes) ≡ take (i + 1) (set out i x)
    ++ parts_in part width (n - (i + 1)) (drop (width * (i + 1)) bytes) =
    rw (k, grown, ← y, cut) (sym (append_assoc (take i out) (x ∷ []) (parts_in part width (n - (i + 1)) (drop (width * (i + 1)) bytes)))) in
    sym one ∙ so_far

pub parts_done : {A : Type 0} (part : List ℕ → A) (width n : ℕ) (bytes : List ℕ) (out : List A) (i : ℕ) (total : List A) → n ≤ i → i ≤ n → length out ≡ n
    → take i out ++ parts_in part width (n - i) (drop (width * i) bytes) ≡ total → out ≡ total
unfolding parts_in
parts_done part width n bytes out i total le ge len so_far =
    let k : n - i ≡ 0 = omega arith in
    let fit : length out ≤ i = omega arith in
    let one : take i out ++ parts_in part width (n - i) (drop (width * i) bytes) ≡ out = rw (k, take_all i out fit) (append-nil out) in
    sym one ∙ so_far
