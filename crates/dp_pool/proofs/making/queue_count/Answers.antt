-- A power of two of at most 131,071 is at most 65,536.
use Rattle.std.proofs.Common.{◌≡◌, ℕ, ◌^◌, ◌≤◌, leb, subst, sym, arith, inl, inr}
use Rattle.std.proofs.lemmas.Bool.{cases_Bool, leb-true, leb-false}
use Rattle.std.proofs.Math.Pow.{pow_mono}
use Rattle.dp_pool.proofs.making.queue_count.Goals as goal

small : (p k : ℕ) → p ≡ 2 ^ k → p ≤ 131071 → p ≤ 65536
small p k is few = elim (cases_Bool (leb k 16)) [
  | inl low ↦ let le = pow_mono (leb-true k 16 low) in subst (λ n. n ≤ 65536) (sym is) le
  | inr high ↦ absurd (let above = leb-false k 16 high in let most : 131072 ≤ 2 ^ k = pow_mono (let from : 17 ≤ k = omega (arith, above) in from) in
      omega (arith, most, is, few))
]

pub returns-clause-bound : goal.returns-clause-bound
returns-clause-bound c =
    let power = c.next_power_of_two.ensures.power in
    let low = c.next_power_of_two.ensures.lower_bound in
    let high = c.next_power_of_two.ensures.upper_bound in
    let few = c.requires.1 in
    (omega (arith, low), small c.next_power_of_two.result power.0 power.1 (omega (arith, high, few)))
