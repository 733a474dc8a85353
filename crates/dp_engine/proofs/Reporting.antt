-- What reports count.
use Rattle.std.proofs.Common.{◌≡◌, ℕ, zero, suc, ◌+◌, ◌<◌, ◌≤◌, List, [], ◌∷◌, ◌++◌, take, Some, refl, ◌∙◌, ap, arith, nat_le, add-one}
use Rattle.std.specs.Prelude.{slice_get, if◌then◌else◌}
use Rattle.std.proofs.lemmas.Bool.Decides.{nat_tests}
use Rattle.std.proofs.lemmas.Option.{same_Some}
use Rattle.dp_model.specs.declared.env.PoolSpec.{PoolSpec}
use Rattle.dp_model.specs.Laws.Lists.{take_more}
use Rattle.dp_engine.specs.Reports.{pool_reports}
use Rattle.dp_engine.specs.Tallies.{refused_of}

-- ---- calls that were refused

refused_push : (pattern : List ℕ) (n calls : ℕ) → refused_of (pattern ++ n ∷ []) calls ≡ refused_of pattern calls + (if nat_le n calls then 1 else 0)
refused_push [] n calls = omega arith
refused_push (m ∷ pattern) n calls = let more = refused_push pattern n calls in omega (arith, more)

refused_more : (pattern : List ℕ) (i n calls : ℕ) → slice_get pattern i ≡ Some n
    → refused_of (take (i + 1) pattern) calls ≡ refused_of (take i pattern) calls + (if nat_le n calls then 1 else 0)
refused_more pattern i n calls here =
    ap (λ m. refused_of (take m pattern) calls) (add-one i) ∙ ap (λ l. refused_of l calls) (take_more pattern i n here) ∙ refused_push (take i pattern) n calls

abbrev one : ℕ
one = 1

one_where : (n calls : ℕ) → n ≤ calls → (if nat_le n calls then one else 0) ≡ one
one_where n calls le = grind (arith, nat_tests)

none_where : (n calls : ℕ) → calls < n → (if nat_le n calls then one else 0) ≡ 0
none_where n calls lt = grind (arith, nat_tests)

pub reached_one : (pattern : List ℕ) (i n calls count : ℕ) → slice_get pattern i ≡ Some n → n ≤ calls → count ≡ refused_of (take i pattern) calls
    → count + 1 ≡ refused_of (take (i + 1) pattern) calls
reached_one pattern i n calls count here le is = omega (arith, is, refused_more pattern i n calls here, one_where n calls le)

pub reached_none : (pattern : List ℕ) (i n calls count : ℕ) → slice_get pattern i ≡ Some n → calls < n → count ≡ refused_of (take i pattern) calls
    → count ≡ refused_of (take (i + 1) pattern) calls
reached_none pattern i n calls count here lt is = omega (arith, is, refused_more pattern i n calls here, none_where n calls lt)

-- ---- a list, element by element

-- one more pool's counts
pub pools_more : (free : ℕ → ℕ) (j : ℕ) (specs : List PoolSpec) (i n : ℕ) (p : PoolSpec) → slice_get specs i ≡ Some p → n ≡ j + i
    → pool_reports free j (take (suc i) specs) ≡ pool_reports free j (take i specs) ++ record { free = free n; count = p.count } ∷ []
pools_more free j [] i n p e same = cc
pools_more free j (q ∷ specs) zero n p e same =
    let is : q ≡ p = same_Some q p e in
    let at : j ≡ n = omega (arith, same) in
    rw (is, at) refl
pools_more free j (q ∷ specs) (suc i) n p e same =
    ap (λ l. record { free = free j; count = q.count } ∷ l) (pools_more free (suc j) specs i n p e (omega (arith, same)))
