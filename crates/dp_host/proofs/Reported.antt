-- The counts of ports and pools, as an engine reports them.
use Rattle.std.proofs.Common.{◌≡◌, ℕ, zero, suc, ◌+◌, ◌≤◌, List, [], ◌∷◌, length, take, get_or, Option, Some, inl, inr, true, refl, sym, ◌∙◌, ap, subst}
use Rattle.std.proofs.Common.{arith, zero-add}
use Rattle.std.specs.Prelude.{false, nat_lt, slice_get}
use Rattle.std.proofs.lemmas.Bool.{ltb-false, ltb-true}
use Rattle.std.proofs.lemmas.List.{length-map}
use Rattle.std.proofs.lemmas.Option.{same_Some, slice_get_read}
use Rattle.dp_model.specs.declared.env.PoolSpec.{PoolSpec}
use Rattle.dp_model.specs.Machine.{live}
use Rattle.dp_model.specs.Packets.{available}
use Rattle.dp_model.specs.Runs.{between}
use Rattle.dp_engine.specs.declared.report.InputState.TheVariants.{Open}
use Rattle.dp_engine.specs.declared.report.PoolReport.{PoolReport}
use Rattle.dp_engine.specs.declared.report.PortReport.{PortReport}
use Rattle.dp_engine.specs.declared.report.Report.{Report}
use Rattle.dp_engine.specs.Engines.{EngineState}
use Rattle.dp_engine.specs.Laws.{get_map}
use Rattle.dp_engine.specs.Reports.{IsReport, port_report, pool_reports}
use Rattle.dp_host.specs.declared.numbers.PoolStats.{PoolStats}
use Rattle.dp_host.specs.declared.numbers.PortStats.{PortStats}
use Rattle.dp_host.specs.declared.refusal.Refusal.{Refusal}
use Rattle.dp_host.specs.declared.refusal.Refusal.TheVariants as refusal
use Rattle.dp_host.specs.Hosts.{IsPortStats, NoPort, IsPoolStats, NoPool, SetsOrRefuses, refusal_number}

-- what a look-up in the slice of a list finds is in the list, and a number that it does not find is past its end
found_in : {X : Type 0} (items slice : List X) (k : ℕ) (x : X) → slice ≡ items → true ≡ nat_lt k (length slice) → x ≡ get_or slice k x
    → slice_get items k ≡ Some x
found_in items slice k x value within is =
    ap (λ l. slice_get l k) (sym value) ∙ slice_get_read slice (length slice) k x refl (ltb-true k (length slice) (sym within)) is

pub past_all : {X : Type 0} (items slice : List X) (k : ℕ) → slice ≡ items → false ≡ nat_lt k (length slice) → length items ≤ k
past_all items slice k value past = subst (λ l. length l ≤ k) value (ltb-false k (length slice) (sym past))

-- what an open engine returns
sets : {N : Type 0} (Is : EngineState → N → Type 0) (IsNot : EngineState → Type 0) (why : Refusal) (o : Option EngineState) (missing : Refusal)
    (e : EngineState) (old new : N) → o ≡ Some e → Is e new → SetsOrRefuses Is IsNot why o missing old new 0
sets Is IsNot why o missing e old new some is = subst (λ s. SetsOrRefuses Is IsNot why s missing old new 0) (sym some) (inl (refl, is))

refuses : {N : Type 0} (Is : EngineState → N → Type 0) (IsNot : EngineState → Type 0) (why : Refusal) (o : Option EngineState) (missing : Refusal)
    (e : EngineState) (old : N) (n : ℕ) → o ≡ Some e → n ≡ refusal_number why → IsNot e → SetsOrRefuses Is IsNot why o missing old old n
refuses Is IsNot why o missing e old n some number none = subst (λ s. SetsOrRefuses Is IsNot why s missing old old n) (sym some) (inr (number, none, refl))

abbrev pub port_stats_of : PortReport → PortStats
port_stats_of r = record { received = r.received; no_buffer = r.nobuf; oversize = r.oversize; sent = r.sent }

pub port_found : (e : EngineState) (r : Report) (slice : List PortReport) (port : ℕ) (x : PortReport) (o : Option EngineState) (missing : Refusal)
    (old : PortStats) → o ≡ Some e → IsReport e r → slice ≡ r.ports.items → true ≡ nat_lt port (length slice) → x ≡ get_or slice port x
    → SetsOrRefuses (IsPortStats port) (NoPort port) refusal.NoPort o missing old (port_stats_of x) 0
port_found e r slice port x o missing old some is value within at_x =
    let there = found_in r.ports.items slice port x value within at_x in
    let (t, at, same) = get_map (port_report Open) (take (length e.setting.env.ports) e.tallies) port x (ap (λ l. slice_get l port) (sym is.ports) ∙ there) in
    sets (IsPortStats port) (NoPort port) refusal.NoPort o missing e old (port_stats_of x) some (t, at, ap port_stats_of (sym same))

pub port_missing : (e : EngineState) (r : Report) (port : ℕ) (o : Option EngineState) (missing : Refusal) (old : PortStats) (n : ℕ) → o ≡ Some e
    → IsReport e r → n ≡ refusal_number refusal.NoPort → length r.ports.items ≤ port
    → SetsOrRefuses (IsPortStats port) (NoPort port) refusal.NoPort o missing old old n
port_missing e r port o missing old n some is number past =
    refuses (IsPortStats port) (NoPort port) refusal.NoPort o missing e old n some number
    (omega (arith, past, ap length is.ports, length-map (take (length e.setting.env.ports) e.tallies) (port_report Open)))

pool_at : (free : ℕ → ℕ) (k : ℕ) (pools : List PoolSpec) (i : ℕ) (x : PoolReport) → slice_get (pool_reports free k pools) i ≡ Some x
    → (spec : PoolSpec) × (slice_get pools i ≡ Some spec) × (x ≡ record { free = free (k + i); count = spec.count })
pool_at free k [] i x e = cc
pool_at free k (p ∷ pools) zero x e =
    (p, refl, sym (same_Some _ x e) ∙ ap (λ n. record { free = free n; count = p.count }) (omega arith))
pool_at free k (p ∷ pools) (suc i) x e =
    let (spec, there, is) = pool_at free (suc k) pools i x e in
    (spec, there, is ∙ ap (λ n. record { free = free n; count = spec.count }) (omega arith))

pools_long : (free : ℕ → ℕ) (k : ℕ) (pools : List PoolSpec) → length (pool_reports free k pools) ≡ length pools
pools_long free k [] = refl
pools_long free k (p ∷ pools) = ap suc (pools_long free (suc k) pools)

abbrev pub pool_stats_of : PoolReport → PoolStats
pool_stats_of r = record { free = r.free; count = r.count }

pub pool_found : (e : EngineState) (r : Report) (slice : List PoolReport) (pool : ℕ) (x : PoolReport) (o : Option EngineState) (missing : Refusal)
    (old : PoolStats) → o ≡ Some e → IsReport e r → slice ≡ r.pools.items → true ≡ nat_lt pool (length slice) → x ≡ get_or slice pool x
    → SetsOrRefuses (IsPoolStats pool) (NoPool pool) refusal.NoPool o missing old (pool_stats_of x) 0
pool_found e r slice pool x o missing old some is value within at_x =
    let there = found_in r.pools.items slice pool x value within at_x in
    let free = available e.setting.env.pools (live (between e.world)) in
    let (spec, at, same) = pool_at free 0 e.setting.env.pools pool x (ap (λ l. slice_get l pool) (sym is.pools) ∙ there) in
    sets (IsPoolStats pool) (NoPool pool) refusal.NoPool o missing e old (pool_stats_of x) some
    (spec, at, ap pool_stats_of same ∙ ap (λ n. record { free = free n; count = spec.count }) (zero-add pool))

pub pool_missing : (e : EngineState) (r : Report) (pool : ℕ) (o : Option EngineState) (missing : Refusal) (old : PoolStats) (n : ℕ) → o ≡ Some e
    → IsReport e r → n ≡ refusal_number refusal.NoPool → length r.pools.items ≤ pool
    → SetsOrRefuses (IsPoolStats pool) (NoPool pool) refusal.NoPool o missing old old n
pool_missing e r pool o missing old n some is number past =
    refuses (IsPoolStats pool) (NoPool pool) refusal.NoPool o missing e old n some number
    (omega (arith, past, ap length is.pools, pools_long (available e.setting.env.pools (live (between e.world))) 0 e.setting.env.pools))
