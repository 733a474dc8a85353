-- Pools as an environment wants them are pools of mbufs.
use Rattle.std.proofs.Common.{◌≡◌, ℕ, zero, suc, ◌-◌, ◌≤◌, false, List, [], ◌∷◌, length, get_or, Option, Some, None, refl, sym, ap, ◌∙◌, arith}
use Rattle.std.specs.Prelude.{sum_by}
use Rattle.std.specs.List.{AllByRecursion}
use Rattle.std.proofs.lemmas.List.{length-map}
use Rattle.std.proofs.lemmas.List.Sums.{sum_by-cons}
use Rattle.dp_region.specs.Ownership.{Home}
use Rattle.dp_pool.specs.Pools.{PoolView}
use Rattle.dp_model.specs.declared.env.PoolSpec.{PoolSpec}
use Rattle.dp_model.specs.Laws.Lists.{get_replicate}
use Rattle.dp_mbuf.specs.Objects.{present, no_pool, spec_of, specs_of, HeadersFirst}
use Rattle.dp_mbuf.specs.Mbufs.{AreReady}
use Rattle.dp_engine.specs.Memories.{AreFilled, IsNewPool}

abbrev AreNew : Home → List PoolSpec → List (Option PoolView) → Type 0
AreNew home specs slots = AreFilled (IsNewPool home) specs slots

none_present : (slots : List (Option PoolView)) → AllByRecursion (λ o. o ≡ None) slots → present slots ≡ []
none_present [] all = refl
none_present (None ∷ slots) all = refl
none_present (Some p ∷ slots) all = let no : Some p ≡ None = all.0 in cc

spec_is : (home : Home) (s : PoolSpec) (p : PoolView) → IsNewPool home s p → spec_of p ≡ s
spec_is home s p new = let room : p.size - 128 ≡ s.room = let size = new.size in omega arith in
    λ i. record { count = new.count_is i; cache = new.cache_is i; room = room i }

pub specs_are : (home : Home) (specs : List PoolSpec) (slots : List (Option PoolView)) → AreNew home specs slots → specs_of (present slots) ≡ specs
specs_are home [] slots are = ap specs_of (none_present slots are)
specs_are home (s ∷ specs) [] are = absurd are
specs_are home (s ∷ specs) (None ∷ slots) are = absurd are.0
specs_are home (s ∷ specs) (Some p ∷ slots) are = let here = spec_is home s p are.0 in let more = specs_are home specs slots are.1 in λ i. here i ∷ more i

present_count : (home : Home) (specs : List PoolSpec) (slots : List (Option PoolView)) → AreNew home specs slots → length (present slots) ≡ length specs
present_count home specs slots are = sym (length-map (present slots) spec_of) ∙ ap length (specs_are home specs slots are)

first : (home : Home) (specs : List PoolSpec) (slots : List (Option PoolView)) → AreNew home specs slots → HeadersFirst slots
first home [] [] are = tt
first home [] (None ∷ slots) are = are.1
first home [] (Some p ∷ slots) are = let no : Some p ≡ None = are.0 in absurd cc
first home (s ∷ specs) [] are = absurd are
first home (s ∷ specs) (None ∷ slots) are = absurd are.0
first home (s ∷ specs) (Some p ∷ slots) are = (let size = are.0.size in omega arith, first home specs slots are.1)

counts : (home : Home) (specs : List PoolSpec) (slots : List (Option PoolView)) → AreNew home specs slots → sum_by (λ p. length p.objects) (present slots)
    ≡ sum_by (λ s. s.count) specs
counts home [] slots are = ap (sum_by (λ p. length p.objects)) (none_present slots are)
counts home (s ∷ specs) [] are = absurd are
counts home (s ∷ specs) (None ∷ slots) are = absurd are.0
counts home (s ∷ specs) (Some p ∷ slots) are =
    let here = are.0.count_is in let more = counts home specs slots are.1 in
    let left = sum_by-cons (λ (q : PoolView). length q.objects) p (present slots) in let right = sum_by-cons (λ (t : PoolSpec). t.count) s specs in
    omega arith

in_all : (home : Home) (specs : List PoolSpec) (slots : List (Option PoolView)) → AreNew home specs slots →
    (k i : ℕ) → get_or (get_or (present slots) k no_pool).out i false ≡ false
in_all home [] slots are k i = ap (λ (ps : List PoolView). get_or (get_or ps k no_pool).out i false) (none_present slots are)
in_all home (s ∷ specs) [] are k i = absurd are
in_all home (s ∷ specs) (None ∷ slots) are k i = absurd are.0
in_all home (s ∷ specs) (Some p ∷ slots) are zero i = ap (λ (out : List _). get_or out i false) are.0.all_in ∙ get_replicate s.count i false
in_all home (s ∷ specs) (Some p ∷ slots) are (suc k) i = in_all home specs slots are.1 k i

pub ready : (home : Home) (specs : List PoolSpec) (slots : List (Option PoolView)) → 1 ≤ length specs → length specs ≤ 8 →
    sum_by (λ s. s.count) specs ≤ 65535 → AreNew home specs slots → AreReady slots
ready home specs slots some few mbufs are =
    let count = present_count home specs slots are in let sum = counts home specs slots are in
    record {
      first = first home specs slots are;
      some = omega arith;
      few = omega arith;
      mbufs = omega arith;
      all_in = λ n. in_all home specs slots are n.pool n.index;
    }
