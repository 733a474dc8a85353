-- The contents of an engine's report: the counts of ports, pools and rings.
use Rattle.std.specs.Prelude.{◌≡◌, ℕ, suc, List, [], ◌∷◌, length, map, take}
use Rattle.dp_model.specs.declared.env.PoolSpec.{PoolSpec}
use Rattle.dp_model.specs.Environments.{Environment}
use Rattle.dp_model.specs.Packets.{available}
use Rattle.dp_model.specs.Machine.{live}
use Rattle.dp_model.specs.Runs.{between}
use Rattle.dp_engine.specs.declared.report.InputState.{InputState}
use Rattle.dp_engine.specs.declared.report.InputState.TheVariants.{Open}
use Rattle.dp_engine.specs.declared.report.PortReport.{PortReport}
use Rattle.dp_engine.specs.declared.report.PoolReport.{PoolReport}
use Rattle.dp_engine.specs.declared.report.Report.{Report}
use Rattle.dp_engine.specs.declared.report.Tallies.{Tallies}
use Rattle.dp_engine.specs.Tallies.{refused_of}
use Rattle.dp_engine.specs.Engines.{EngineState}

abbrev pub port_report : InputState → Tallies → PortReport
port_report state t = record { received = t.received; nobuf = t.nobuf; oversize = t.oversize; sent = t.sent; state = state }

-- the report of each pool, starting at one
abbrev pub pool_reports : (ℕ → ℕ) → ℕ → List PoolSpec → List PoolReport
pool_reports free k [] = []
pool_reports free k (p ∷ pools) = record { free = free k; count = p.count } ∷ pool_reports free (suc k) pools

-- the report of an engine: its counts, with every input open
pub record IsReport (engine : EngineState) (r : Report) : Type 0 where
  pub ports : r.ports.items ≡ map (port_report Open) (take (length engine.setting.env.ports) engine.tallies)
  pub rings : r.rings.items ≡ take (length engine.setting.env.rings) engine.left
  pub pools : r.pools.items ≡ pool_reports (available engine.setting.env.pools (live (between engine.world))) 0 engine.setting.env.pools
  pub calls : r.calls ≡ engine.world.calls
  pub refused : r.refused ≡ refused_of engine.setting.pattern engine.world.calls
  pub cut : r.cut ≡ engine.world.cuts

-- all buffers of each pool are free
abbrev pub IsWhole : Environment → Report → Type 0
IsWhole env r = r.pools.items ≡ map (λ (p : PoolSpec). record { free = p.count; count = p.count }) env.pools
