-- Changes of routes between turns.
use Rattle.std.specs.Prelude.{◌≡◌, ℕ, ◌≤◌, List, length, Option, Some}
use Rattle.dp_model.specs.Meaning.{TablesFit}
use Rattle.dp_lpm.specs.declared.error.LpmError.{LpmError}
use Rattle.dp_lpm.specs.Changes.{HasTable}
use Rattle.dp_lpm.specs.Routes.{RouteTable}
use Rattle.dp_engine.specs.declared.rerouting.RouteFault.{RouteFault}
use Rattle.dp_engine.specs.declared.rerouting.RouteFault.TheVariants.{NoTable, Refused}
use Rattle.dp_engine.specs.Engines.{EngineState}
use Rattle.dp_engine.specs.Schemes.{Scheme}
use Rattle.dp_engine.specs.Steps.{routes_of}

-- an engine with these tables; all else is as it was
abbrev pub with_tables : List RouteTable → EngineState → EngineState
with_tables tables e = record e { setting = record e.setting { tables = routes_of tables }; tables = tables }

-- why a change is refused: there is no such table, or it refuses the change for this reason
abbrev pub RefusesRoute : (RouteTable → Option LpmError) → ℕ → List RouteTable → RouteFault → Type 0
RefusesRoute fault table tables NoTable = length tables ≤ table
RefusesRoute fault table tables (Refused error) = HasTable table tables (λ t. fault t ≡ Some error)

-- a context with these tables
abbrev pub retabled : List RouteTable → Scheme → Scheme
retabled tables s = record s { setting = record s.setting { tables = routes_of tables }; tables = tables }

-- nothing but the tables of a context changes, and they are as the environment says
pub record IsRetabled (old new : Scheme) : Type 0 where
  pub new_is : new ≡ retabled new.tables old
  pub fits : TablesFit new.setting
