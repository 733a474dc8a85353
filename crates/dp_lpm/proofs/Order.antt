-- Rules in order, index by index.
use Rattle.std.proofs.Common.{◌≡◌, ◌≢◌, ℕ, zero, suc, ◌<◌, ◌≤◌, List, [], ◌∷◌, length, take, drop, arith, ⊎_elim}
use Rattle.std.specs.List.{AllByRecursion}
use Rattle.std.proofs.lemmas.Bool.{cases_eq}
use Rattle.dp_lpm.specs.declared.rule.Rule.{Rule}
use Rattle.dp_lpm.specs.Rules.{rank, rank_of, rule_at, IsOrdered, IsLowerBound, IsFound, IsMissing}

-- what holds at each index holds of the list
all_here : (P : Rule → Type 0) (rules : List Rule) → ((k : ℕ) → k < length rules → P (rule_at rules k)) → AllByRecursion P rules
all_here P [] each = tt
all_here P (r ∷ rules) each = (each 0 (omega arith), all_here P rules (λ k lt. each (suc k) (omega arith)))

all_front : (P : Rule → Type 0) (rules : List Rule) (n : ℕ) → ((k : ℕ) → k < n → k < length rules → P (rule_at rules k)) → AllByRecursion P (take n rules)
all_front P rules zero each = tt
all_front P [] (suc n) each = tt
all_front P (r ∷ rules) (suc n) each = (
  each 0 (omega arith) (omega arith),
  all_front P rules n (λ k lt there. each (suc k) (omega arith) (omega arith)),
)

all_back : (P : Rule → Type 0) (rules : List Rule) (n : ℕ) → ((k : ℕ) → n ≤ k → k < length rules → P (rule_at rules k)) → AllByRecursion P (drop n rules)
all_back P rules zero each = all_here P rules (λ k there. each k (omega arith) there)
all_back P [] (suc n) each = tt
all_back P (r ∷ rules) (suc n) each = all_back P rules n (λ k le there. each (suc k) (omega arith) (omega arith))

pub all_at : (P : Rule → Type 0) (rules : List Rule) (k : ℕ) → AllByRecursion P rules → k < length rules → P (rule_at rules k)
all_at P [] k all there = absurd (omega arith)
all_at P (r ∷ rules) zero all there = all.0
all_at P (r ∷ rules) (suc k) all there = all_at P rules k all.1 (omega arith)

-- a rule further on is greater
pub rises : (rules : List Rule) (i j : ℕ) → IsOrdered rules → i < j → j < length rules → rank_of (rule_at rules i) < rank_of (rule_at rules j)
rises [] i j ordered lt there = absurd (omega arith)
rises (r ∷ rules) zero zero ordered lt there = absurd (omega arith)
rises (r ∷ rules) zero (suc j) ordered lt there = all_at (λ q. rank_of r < rank_of q) rules j ordered.0 (omega arith)
rises (r ∷ rules) (suc i) zero ordered lt there = absurd (omega arith)
rises (r ∷ rules) (suc i) (suc j) ordered lt there = rises rules i j ordered.1 (omega arith) (omega arith)

-- a rule further on is no lower
pub never_falls : (rules : List Rule) → IsOrdered rules → (i j : ℕ) → i ≤ j → j < length rules → rank_of (rule_at rules i) ≤ rank_of (rule_at rules j)
never_falls rules ordered i j le there = ⊎_elim
    (λ (e : i ≡ j). rw e (omega arith))
    (λ (other : i ≢ j). omega (arith, rises rules i j ordered (omega arith) there))
    (cases_eq i j)

-- ---- what a search finds

pub found_parts : (rules : List Rule) (depth prefix index : ℕ) → IsOrdered rules → IsLowerBound rules (rank depth prefix) index → index < length rules →
    (rule_at rules index).depth ≡ depth → (rule_at rules index).prefix ≡ prefix → IsFound rules depth prefix index
found_parts rules depth prefix index ordered lower there is_depth is_prefix =
    let key : rank_of (rule_at rules index) ≡ rank depth prefix = omega (arith, is_depth, is_prefix) in
    record {
      there = there;
      depth_is = is_depth;
      prefix_is = is_prefix;
      parts = record {
        lower = all_front (λ r. rank_of r < rank depth prefix) rules index (λ k lt here. lower.below k lt);
        upper = all_back (λ r. rank depth prefix < rank_of r) rules (suc index)
            (λ k le here. omega (arith, key, rises rules index k ordered (omega arith) here));
      };
    }

pub missing_parts : (rules : List Rule) (depth prefix index : ℕ) → IsOrdered rules → IsLowerBound rules (rank depth prefix) index →
    (index < length rules → rank_of (rule_at rules index) ≢ rank depth prefix) → IsMissing rules depth prefix index
missing_parts rules depth prefix index ordered lower other = record {
  bound = lower.bound;
  parts = record {
    lower = all_front (λ r. rank_of r < rank depth prefix) rules index (λ k lt here. lower.below k lt);
    upper = all_back (λ r. rank depth prefix < rank_of r) rules index (λ k le here. above k le here);
  };
}
  where
    above : (k : ℕ) → index ≤ k → k < length rules → rank depth prefix < rank_of (rule_at rules k)
    above k le here = ⊎_elim
        (λ (e : k ≡ index). rw e (omega (arith, lower.above index (omega arith) (omega arith), other (omega arith))))
        (λ (beyond : k ≢ index). omega (arith, lower.above index (omega arith) (omega arith), rises rules index k ordered (omega arith) here))
        (cases_eq k index)
