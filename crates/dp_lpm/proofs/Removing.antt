-- Removing a rule: those after it move down by one index, and the last index is dropped.
use Rattle.std.proofs.Common.{◌≡◌, ℕ, suc, ◌+◌, ◌-◌, ◌<◌, List, ◌++◌, length, take, drop, arith, take_all, append_assoc, length-take}
use Rattle.std.proofs.lemmas.List.{take-append-le, take-append-drop, take_at, drop_at, length-take-le, length-append, length-drop, drop-drop, drop-take}
use Rattle.std.proofs.lemmas.Slice.{between_to_end}
use Rattle.std.proofs.Math.Seq.{paste, take-paste, drop-paste, take-add, take-append-add}
use borrow.Rule.Slice.PartMut.{put_mid, mid_of, post_of}
use Rattle.dp_lpm.specs.declared.rule.Rule.{Rule}

-- those from an index on
from_index : (index : ℕ) (rules : List Rule) → mid_of index (length rules - index) rules ≡ drop index rules
from_index index rules = between_to_end rules index (length rules) (omega arith)

-- the rules before the index, and all from it on but the last
pub left_out : (index : ℕ) (rules part : List Rule) → index < length rules → length part ≡ length (mid_of index (length rules - index) rules)
    → take (length (mid_of index (length rules - index) rules) - 1) part ≡ drop 1 (mid_of index (length rules - index) rules)
    → take (length rules - 1) (put_mid index (length rules - index) rules part) ≡ take index rules ++ drop (suc index) rules
left_out index rules part there size moved =
    let long : length part ≡ length rules - index = rw (from_index index rules, length-drop) at size in
    let left : take (length part - 1) part ≡ drop (index + 1) rules = rw size (rw (moved, from_index index rules, drop-drop 1 index rules)) in
    let n : length rules - 1 ≡ length (take index rules) + (length part - 1) = omega (arith, length-take-le index rules (omega arith)) in
    let one : suc index ≡ index + 1 = omega arith in
    rw (n, take-append-add, take-append-le (length part - 1) part (post_of index (length rules - index) rules) (omega arith), left, one)

-- ---- part by part

-- the first n moved down by one index, and the others are as they were
pub record GoneDown (old : List Rule) (at : ℕ) (rules : List Rule) : Type 0 where
  pub within : at < length old
  pub is : rules ≡ take at (drop 1 old) ++ drop at old

gone_length : (old : List Rule) (at : ℕ) → at < length old → length (take at (drop 1 old)) ≡ at
gone_length old at within = length-take-le at (drop 1 old) (omega (arith, length-drop 1 old))

pub down_length : (old : List Rule) (at : ℕ) (rules : List Rule) → GoneDown old at rules → length rules ≡ length old
down_length old at rules down = rw (down.is, length-append, gone_length old at down.within, length-drop) (omega (arith, down.within))

-- the next part
pub part_down : (old : List Rule) (at n : ℕ) (rules : List Rule) → at + n < length old → GoneDown old at rules →
    GoneDown old (at + n) (paste rules at (drop (at + 1) rules) n)
part_down old at n rules fits down = record {
  within = fits;
  is = rw (← take-append-drop (at + n) (paste rules at (drop (at + 1) rules) n), front, back);
}
  where
    long : length rules ≡ length old
    long = down_length old at rules down

    beyond : (k : ℕ) → drop (at + k) rules ≡ drop (at + k) old
    beyond k = rw (← drop-drop k at rules, ← drop-drop k at old, down.is, drop_at (take at (drop 1 old)) (drop at old) at (gone_length old at down.within))

    before : take at rules ≡ take at (drop 1 old)
    before = rw (down.is, take_at (take at (drop 1 old)) (drop at old) at (gone_length old at down.within))

    next : drop (at + 1) rules ≡ drop at (drop 1 old)
    next = let turned : 1 + at ≡ at + 1 = omega arith in rw (beyond 1, drop-drop at 1 old, turned)

    front : take (at + n) (paste rules at (drop (at + 1) rules) n) ≡ take (at + n) (drop 1 old)
    front =
        let front = take-paste rules at (drop (at + 1) rules) n (omega (arith, long)) (omega (arith, long, length-drop (at + 1) rules)) in
        rw (front, before, next, take-add at n (drop 1 old))

    back : drop (at + n) (paste rules at (drop (at + 1) rules) n) ≡ drop (at + n) old
    back = rw (drop-paste rules at (drop (at + 1) rules) n (omega (arith, long)) (omega (arith, long, length-drop (at + 1) rules)), beyond n)

-- a part whose first rule is dropped, put back into its list
pub part_put : (now : List Rule) (at n : ℕ) → at + n < length now
    → put_mid at (n + 1) now (paste (mid_of at (n + 1) now) 0 (drop 1 (mid_of at (n + 1) now)) (length (mid_of at (n + 1) now) - 1))
    ≡ paste now at (drop (at + 1) now) n
part_put now at n fits =
    rw (moved, stays, ← drop-drop 1 n rest, append_assoc, take-append-drop 1 (drop n rest), drop-drop n at now)
    (rw (append_assoc (take at now) some (drop (at + n) now)))
  where
    rest : List Rule
    rest = drop at now

    mid : List Rule
    mid = mid_of at (n + 1) now

    some : List Rule
    some = take n (drop (at + 1) now)

    size : length mid - 1 ≡ n
    size = omega (arith, length-take (n + 1) rest, length-drop at now)

    beyond : drop 1 mid ≡ some
    beyond = let turned : n + 1 ≡ 1 + n = omega arith in rw (turned, drop-take 1 n rest, drop-drop 1 at now)

    moved : take (length mid - 1) (drop 1 mid) ≡ some
    moved = rw (beyond, size) (take_all n some (omega (arith, length-take n (drop (at + 1) now))))

    stays : drop (0 + (length mid - 1)) mid ≡ take 1 (drop n rest)
    stays = let same : 0 + (length mid - 1) ≡ n = omega (arith, size) in rw (same, drop-take n 1 rest)
