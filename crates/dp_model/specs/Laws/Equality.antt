-- Internal: laws of equal environments. The tests decide equality, so they are equivalences.
use Rattle.std.specs.Prelude.{◌≡◌, ℕ, true, ◌&&◌, ◌==◌, refl}
use Rattle.std.specs.Bool.{Decides}
use Rattle.std.specs.Cmp.{IsPartialEquivalence, IsEquivalence, partial_equiv_from_equiv}
use Rattle.std.specs.Cmp.Lexicographic.{pointwise, pointwise_decides}
use Rattle.std.proofs.Common.{sym, ap, subst}
use Rattle.std.proofs.lemmas.Bool.{and_parts, and_from, eqb-true, eq-eqb}
use Rattle.std.proofs.lemmas.Bool.Decides.{same_from_decides}
use Rattle.dp_model.specs.declared.row.Fact.{Fact}
use Rattle.dp_model.specs.declared.row.Fact.TheVariants.{Empty, Held}
use Rattle.dp_model.specs.declared.env.PoolSpec.{PoolSpec}
use Rattle.dp_model.specs.declared.env.RingSpec.{RingSpec}
use Rattle.dp_model.specs.declared.env.PortSpec.{PortSpec}
use Rattle.dp_model.specs.Environments.{Environment}
use Rattle.dp_model.specs.Equality.{same_pool, same_fact, same_ring, same_port, same_environment}

-- ---- the tests decide equality

itself : (n : ℕ) → (n == n) ≡ true
itself n = eq-eqb n n refl

pool_path : (a b : PoolSpec) → a.count ≡ b.count → a.cache ≡ b.cache → a.room ≡ b.room → a ≡ b
pool_path a b p q r = λ i. record { count = p i; cache = q i; room = r i }

same_pool_decides : (a b : PoolSpec) → Decides (same_pool a b) (a ≡ b)
same_pool_decides a b = (
  λ h. let (h1, room) = and_parts ((a.count == b.count) && (a.cache == b.cache)) (a.room == b.room) h in
      let (count, cache) = and_parts (a.count == b.count) (a.cache == b.cache) h1 in
      pool_path a b (eqb-true a.count b.count count) (eqb-true a.cache b.cache cache) (eqb-true a.room b.room room),
  λ e. subst (λ c. same_pool a c ≡ true) e (and_from _ _ (and_from _ _ (itself a.count) (itself a.cache)) (itself a.room)),
)

fact_of_same : (a b : Fact) → same_fact a b ≡ true → a ≡ b
fact_of_same Empty Empty h = refl
fact_of_same Empty (Held s h t f l n) e = cc
fact_of_same (Held s h t f l n) Empty e = cc
fact_of_same (Held a b c d e g) (Held a' b' c' d' e' g') h =
    let (h5, p6) = and_parts ((a == a') && (b == b') && (c == c') && (d == d') && (e == e')) (g == g') h in
    let (h4, p5) = and_parts ((a == a') && (b == b') && (c == c') && (d == d')) (e == e') h5 in
    let (h3, p4) = and_parts ((a == a') && (b == b') && (c == c')) (d == d') h4 in
    let (h2, p3) = and_parts ((a == a') && (b == b')) (c == c') h3 in
    let (p1, p2) = and_parts (a == a') (b == b') h2 in
    λ i. Held (eqb-true a a' p1 i) (eqb-true b b' p2 i) (eqb-true c c' p3 i) (eqb-true d d' p4 i) (eqb-true e e' p5 i) (eqb-true g g' p6 i)

fact_itself : (a : Fact) → same_fact a a ≡ true
fact_itself Empty = refl
fact_itself (Held a b c d e g) =
    and_from _ _ (and_from _ _ (and_from _ _ (and_from _ _ (and_from _ _ (itself a) (itself b)) (itself c)) (itself d)) (itself e)) (itself g)

ring_path : (a b : RingSpec) → a.count ≡ b.count → a.fact ≡ b.fact → a ≡ b
ring_path a b p q = λ i. record { count = p i; fact = q i }

same_ring_decides : (a b : RingSpec) → Decides (same_ring a b) (a ≡ b)
same_ring_decides a b = (
  λ h. let (count, fact) = and_parts (a.count == b.count) (same_fact a.fact b.fact) h in
      ring_path a b (eqb-true a.count b.count count) (fact_of_same a.fact b.fact fact),
  λ e. subst (λ c. same_ring a c ≡ true) e (and_from _ _ (itself a.count) (fact_itself a.fact)),
)

port_path : (a b : PortSpec) → a.pool ≡ b.pool → a.segs ≡ b.segs → a.queue ≡ b.queue → a ≡ b
port_path a b p q r = λ i. record { pool = p i; segs = q i; queue = r i }

same_port_decides : (a b : PortSpec) → Decides (same_port a b) (a ≡ b)
same_port_decides a b = (
  λ h. let (h1, queue) = and_parts ((a.pool == b.pool) && (a.segs == b.segs)) (a.queue == b.queue) h in
      let (pool, segs) = and_parts (a.pool == b.pool) (a.segs == b.segs) h1 in
      port_path a b (eqb-true a.pool b.pool pool) (eqb-true a.segs b.segs segs) (eqb-true a.queue b.queue queue),
  λ e. subst (λ c. same_port a c ≡ true) e (and_from _ _ (and_from _ _ (itself a.pool) (itself a.segs)) (itself a.queue)),
)

environment_path : (a b : Environment) → a.pools ≡ b.pools → a.tables ≡ b.tables → a.rings ≡ b.rings → a.ports ≡ b.ports → a ≡ b
environment_path a b p q r s = λ i. record { pools = p i; tables = q i; rings = r i; ports = s i }

environment_itself : (a : Environment) → same_environment a a ≡ true
environment_itself a =
    and_from _ _ (and_from _ _ (and_from _ _ (itself a.tables) ((pointwise_decides same_pool_decides a.pools a.pools).1 refl))
    ((pointwise_decides same_ring_decides a.rings a.rings).1 refl)) ((pointwise_decides same_port_decides a.ports a.ports).1 refl)

-- the test passes exactly if the two are equal
pub same_environment_decides : (a b : Environment) → Decides (same_environment a b) (a ≡ b)
same_environment_decides a b = (
  λ h. let (h2, ports) = and_parts ((a.tables == b.tables) && pointwise same_pool a.pools b.pools && pointwise same_ring a.rings b.rings)
      (pointwise same_port a.ports b.ports) h in
      let (h1, rings) = and_parts ((a.tables == b.tables) && pointwise same_pool a.pools b.pools) (pointwise same_ring a.rings b.rings) h2 in
      let (tables, pools) = and_parts (a.tables == b.tables) (pointwise same_pool a.pools b.pools) h1 in
      environment_path a b
      ((pointwise_decides same_pool_decides a.pools b.pools).0 pools)
      (eqb-true a.tables b.tables tables)
      ((pointwise_decides same_ring_decides a.rings b.rings).0 rings)
      ((pointwise_decides same_port_decides a.ports b.ports).0 ports),
  λ e. subst (λ c. same_environment a c ≡ true) e (environment_itself a),
)

-- ---- so they are equivalences

pub environments_equiv : IsEquivalence same_environment
environments_equiv = record {
  refl = environment_itself;
  symm = λ a b. same_from_decides (same_environment a b) (same_environment b a) (same_environment_decides a b)
      (λ h. sym ((same_environment_decides b a).0 h), λ e. (same_environment_decides b a).1 (sym e));
  congr = λ a b c h. ap (λ x. same_environment x c) ((same_environment_decides a b).0 h);
}

pub environments_per : IsPartialEquivalence same_environment
environments_per = partial_equiv_from_equiv environments_equiv
