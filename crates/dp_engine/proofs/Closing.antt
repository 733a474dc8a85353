-- An engine of which nothing is left.
use Rattle.std.proofs.Common.{◌≡◌, ℕ, suc, ◌+◌, List, [], ◌∷◌, map, refl, ◌∙◌, ap, subst, arith}
use Rattle.std.specs.List.{AllByRecursion}
use Rattle.dp_model.specs.declared.env.PoolSpec.{PoolSpec}
use Rattle.dp_model.specs.Environments.{Environment, count_at}
use Rattle.dp_model.specs.Packets.{Packet, available}
use Rattle.dp_model.specs.Machine.{live}
use Rattle.dp_model.specs.Runs.{between}
use Rattle.dp_model.specs.Laws.Available.{available_all}
use Rattle.dp_engine.specs.declared.report.Report.{Report}
use Rattle.dp_engine.specs.Engines.{EngineState, flushed, IsFlushed}
use Rattle.dp_engine.specs.Reports.{pool_reports, IsReport, IsWhole}

all_empty : (lists : List (List Packet)) → AllByRecursion (λ (packets : List Packet). packets ≡ []) (map (λ _. []) lists)
all_empty [] = tt
all_empty (packets ∷ lists) = (refl, all_empty lists)

pub flushed_empty : (e : EngineState) → IsFlushed (flushed e)
flushed_empty e = record { rings = all_empty e.world.rings; outboxes = all_empty e.world.outboxes }

-- ---- without packets every buffer is free

full_from : (free : ℕ → ℕ) (k : ℕ) (pools : List PoolSpec) → ((i : ℕ) → free (k + i) ≡ count_at pools i)
    → pool_reports free k pools ≡ map (λ (p : PoolSpec). record { free = p.count; count = p.count }) pools
full_from free k [] all = refl
full_from free k (p ∷ pools) all =
    let here : free k ≡ p.count = ap free (let e : k ≡ k + 0 = omega arith in e) ∙ all 0 in
    let rest = full_from free (suc k) pools (λ i. ap free (let e : suc k + i ≡ k + suc i = omega arith in e) ∙ all (suc i)) in
    ap (λ n. record { free = n; count = p.count } ∷ pool_reports free (suc k) pools) here ∙ ap
    (λ reports. record { free = p.count; count = p.count } ∷ reports) rest

pub whole_report : (env : Environment) (e : EngineState) (r : Report) → e.setting.env ≡ env → live (between e.world) ≡ [] → IsReport e r → IsWhole env r
whole_report env e r same none is =
    let pools = e.setting.env.pools in
    subst (λ (x : Environment). IsWhole x r) same
    (is.pools ∙ (ap (λ l. pool_reports (available pools l) 0 pools) none ∙ full_from (available pools []) 0 pools
    (λ i. ap (available pools []) (let e : 0 + i ≡ i = omega arith in e) ∙ available_all pools i)))
