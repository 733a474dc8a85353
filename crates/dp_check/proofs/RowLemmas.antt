-- Changes of rows.
use Rattle.std.proofs.Common.{◌≡◌, ℕ, ◌+◌, ◌*◌, ◌/◌, ◌^◌, ◌<◌, ◌≤◌, false, ◌&&◌, ◌||◌, ◌==◌, ◌≢◌, IsTrue, min, lit<, nat_le, subst, mul_comm, true, Bool}
use Rattle.std.proofs.Common.{List, [], ◌∷◌, Some, refl, ap, sym, ◌∙◌, arith, slice_get, zero, suc}
use Rattle.std.specs.List.{list_all}
use Rattle.std.specs.Option.{option_map_or}
use Rattle.std.specs.Prelude.{Option, None}
use Rattle.std.proofs.lemmas.Bool.{and_parts, leb-true}
use Rattle.dp_model.specs.Arithmetic.{ones_within, all_ones, greatest}
use Rattle.std.specs.Int.Count.{count_leading_zeros}
use Rattle.std.proofs.lemmas.Nat.{leading_top, pow-add}
use Rattle.std.proofs.Math.Pow.{pow_mono}
use Rattle.std.proofs.Math.Nat.{one-le-pow, two-pow-succ, mul-le-mul_right, div-eq_of_lt, div-eq_of_lt-le, add-mul, one-mul}
use Rattle.dp_model.specs.declared.row.Fact.{Fact}
use Rattle.dp_model.specs.declared.row.Fact.TheVariants.{Empty, Held}
use Rattle.dp_model.specs.declared.row.Row.{Row}
use Rattle.dp_model.specs.declared.row.Holding.{Holding}
use Rattle.dp_model.specs.Rows.{holding, held_at, held, is_empty, emptied, entails_fact, shared, twin, twin_share, joins, after_clone, group_at}
use Rattle.dp_model.specs.Rows.{with_shares, dissolved, renamed, after_free, is_fact_of_row, is_well_formed_row}
use Rattle.dp_model.specs.Facts.{is_share}
use Rattle.dp_model.specs.Groups.{are_groups, share_of_group, is_in, reshared_fact, reshared}
use Rattle.dp_model.specs.Laws.Lists.{all_at}

-- the least 2^k - 1 that is at least n has as many bits as n
ones_is : (limit j n : ℕ) → n ≤ limit → 2 ^ j ≤ n → n < 2 ^ suc j → ones_within limit n + 1 ≡ 2 ^ suc j
ones_is limit j zero le from to = absurd (omega (arith, one-le-pow j 2 (lit< tt)))
ones_is zero j (suc n) le from to = absurd (omega arith)
ones_is (suc limit) zero (suc n) le from to =
    let none : suc n / 2 ≡ 0 = omega (arith, two-pow-succ 0) in
    rw none refl
ones_is (suc limit) (suc j) (suc n) le from to =
    let a = two-pow-succ j in
    let b = two-pow-succ (suc j) in
    omega (arith, ones_is limit j (suc n / 2) (omega arith) (omega (arith, a, b)) (omega (arith, a, b)), b)

pub ones_shift : (n : ℕ) → 0 < n → n < 2 ^ 64 → 18446744073709551615 / 2 ^ count_leading_zeros 64 n ≡ all_ones n
ones_shift n above below =
    let (j, sum, low, high) = leading_top 64 n above below in
    let d : ℕ = 2 ^ count_leading_zeros 64 n in
    let ones = ones_is n j n (omega arith) low high in
    let parts = rw sum at (pow-add 2 (count_leading_zeros 64 n) (suc j)) in
    let whole : (all_ones n + 1) * d ≡ 18446744073709551616 = ap (λ x. x * d) ones ∙ mul_comm (2 ^ suc j) d ∙ sym parts in
    let split : (all_ones n + 1) * d ≡ all_ones n * d + d = omega (arith, add-mul (all_ones n) 1 d, one-mul d) in
    let some = one-le-pow (count_leading_zeros 64 n) 2 (lit< tt) in
    div-eq_of_lt-le d (omega (arith, whole, split, some)) (omega (arith, whole))

-- long shifts
pub far_left : (n k : ℕ) → n ≢ 0 → 64 ≤ k → 18446744073709551615 ≡ min (n * 2 ^ k) greatest
far_left n k some far =
    let power : 18446744073709551616 ≤ 2 ^ k = pow_mono {i = 64} {j = k} far in
    let some_one : 1 ≤ n = omega arith in
    let product : 1 * 2 ^ k ≤ n * 2 ^ k = mul-le-mul_right (2 ^ k) some_one in
    omega (arith, power, product)

pub far_right : (n k : ℕ) → n < 2 ^ 64 → 64 ≤ k → 0 ≡ n / 2 ^ k
far_right n k below far =
    let power : 2 ^ 64 ≤ 2 ^ k = pow_mono {i = 64} {j = k} far in
    sym (div-eq_of_lt {n = n} {m = 2 ^ k} (omega (arith, power)))

-- a packet in a row has at most 64 segments
pub few_segs : (row : Row) (p : ℕ) (h : Holding) → held_at row p ≡ Some h → IsTrue (list_all is_fact_of_row row.facts) → h.segs ≤ 64
few_segs row p h e fits = go (slice_get row.facts p) refl
  where
    go : (o : Option Fact) → slice_get row.facts p ≡ o → h.segs ≤ 64
    go None t = absurd (cc (rw t at e))
    go (Some Empty) t = absurd (cc (rw t at e))
    go (Some (Held share head tail first last segs)) t =
        let fact = all_at is_fact_of_row row.facts p (Held share head tail first last segs) fits t in
        let most = (and_parts (is_share share && nat_le 1 segs) (nat_le segs 64) fact).1 in
        let there : Some (record { share = share; head = head; tail = tail; first = first; last = last; segs = segs }) ≡ Some h = rw t at e in
        let same : segs ≡ h.segs = ap (λ o. option_map_or (λ (k : Holding). k.segs) o 0) there in
        subst (λ n. n ≤ 64) same (leb-true segs 64 most)

-- the facts of a row are in their ranges after groups are dissolved
loose_fits : (g : ℕ) (fact : Fact) → is_fact_of_row fact ≡ true → is_fact_of_row (reshared_fact g 0 fact) ≡ true
loose_fits g Empty e = refl
loose_fits g (Held share head tail first last segs) e = go (share == share_of_group g) refl
  where
    go : (b : Bool) → (share == share_of_group g) ≡ b → is_fact_of_row (reshared_fact g 0 (Held share head tail first last segs)) ≡ true
    go true t =
        let (a, most) = and_parts (is_share share && nat_le 1 segs) (nat_le segs 64) e in
        let (b, some) = and_parts (is_share share) (nat_le 1 segs) a in
        rw (t, some, most) refl
    go false t = rw t e

all_loose_fit : (g : ℕ) (facts : List Fact) → list_all is_fact_of_row facts ≡ true → list_all is_fact_of_row (reshared g 0 facts) ≡ true
all_loose_fit g [] e = refl
all_loose_fit g (fact ∷ facts) e =
    let (here, rest) = and_parts (is_fact_of_row fact) (list_all is_fact_of_row facts) e in
    rw (loose_fits g fact here, all_loose_fit g facts rest) refl

one_dissolved_fits : (row : Row) (p : ℕ) → list_all is_fact_of_row row.facts ≡ true → list_all is_fact_of_row (dissolved row p).facts ≡ true
one_dissolved_fits row p e = go (group_at row p) refl
  where
    go : (o : Option ℕ) → group_at row p ≡ o → list_all is_fact_of_row (dissolved row p).facts ≡ true
    go None t = subst (λ r. list_all is_fact_of_row r.facts ≡ true) (sym (ap (λ o. option_map_or (λ g. with_shares row g 0) o row) t)) e
    go (Some g) t = subst (λ r. list_all is_fact_of_row r.facts ≡ true) (sym (ap (λ o. option_map_or (λ g. with_shares row g 0) o row) t))
        (all_loose_fit g row.facts e)

pub dissolved_fits : (row : Row) (p q : ℕ) → IsTrue (is_well_formed_row row) → IsTrue (list_all is_fact_of_row (dissolved (dissolved row p) q).facts)
dissolved_fits row p q e =
    let fits = (and_parts (list_all is_fact_of_row row.facts) (are_groups row.facts)
    (and_parts (list_all is_fact_of_row row.facts && are_groups row.facts)
    (row.live || (list_all is_empty row.facts && list_all (λ b. b == 0) row.bounds)) e).0).0 in
    one_dissolved_fits (dissolved row p) q (one_dissolved_fits row p fits)

-- the share of a register in the group, and of one outside it
pub reshared_in : (fact : Fact) (g share : ℕ) (h : Holding) → holding fact ≡ Some h → is_in g fact ≡ true →
    held (shared share h) ≡ reshared_fact g share fact
reshared_in Empty g share h e t = cc
reshared_in (Held a b c d x y) g share h e t =
    let same : record { share = a; head = b; tail = c; first = d; last = x; segs = y } ≡ h = cc in
    subst (λ (k : Holding). held (shared share k) ≡ reshared_fact g share (Held a b c d x y)) same (rw t refl)

pub reshared_out : (fact : Fact) (g share : ℕ) → is_in g fact ≡ false → fact ≡ reshared_fact g share fact
reshared_out Empty g share t = refl
reshared_out (Held a b c d x y) g share t = rw t refl

pub reshared_none : (fact : Fact) (g share : ℕ) → holding fact ≡ None → fact ≡ reshared_fact g share fact
reshared_none Empty g share t = refl
reshared_none (Held a b c d x y) g share t = cc

-- a packet that is freed
pub freed_some : (row : Row) (p g : ℕ) → group_at row p ≡ Some g → renamed (emptied row p) g ≡ after_free row p
freed_some row p g t = rw t refl

-- a clone
pub cloned_is : (row : Row) (p q : ℕ) (h : Holding) (o : Option ℕ) → held_at row q ≡ Some h → group_at row q ≡ o →
    option_map_or (joins row p q h) o (twin row p q h (twin_share p q h)) ≡ after_clone row p q
cloned_is row p q h o e t = rw (e, t) refl

-- an empty register entails only an empty one
pub empty_entails : (fact other : Fact) → holding fact ≡ None → is_empty other ≡ entails_fact fact other
empty_entails Empty Empty e = refl
empty_entails Empty (Held a b c d x y) e = refl
empty_entails (Held a b c d x y) other e = cc
