-- Why a change of a route is refused: a depth above 32, which every table refuses, or what the engine says.
use Rattle.std.proofs.Common.{◌≡◌, ℕ, ◌<◌, List, length, Option, Some, refl, subst, ◌∙◌, true}
use Rattle.std.specs.Prelude.{◌||◌, nat_lt}
use Rattle.std.proofs.lemmas.Bool.{lt-ltb, or_right}
use Rattle.dp_model.specs.Laws.Lists.{get_within}
use Rattle.dp_lpm.specs.declared.error.LpmError.{LpmError}
use Rattle.dp_lpm.specs.declared.error.LpmError.TheVariants.{BadDepth}
use Rattle.dp_lpm.specs.Changes.{HasTable}
use Rattle.dp_lpm.specs.Faults.{add_fault, delete_fault}
use Rattle.dp_lpm.specs.Routes.{RouteTable}
use Rattle.dp_engine.specs.declared.rerouting.RouteFault.{RouteFault}
use Rattle.dp_engine.specs.Engines.{EngineState}
use Rattle.dp_engine.specs.Rerouting.{RefusesRoute}
use Rattle.dp_host.specs.declared.refusal.Refusal.{Refusal}
use Rattle.dp_host.specs.Hosts.{RefusesChange}

is_deep : (depth : ℕ) → 32 < depth → (nat_lt depth 1 || nat_lt 32 depth) ≡ true
is_deep depth deep = or_right (nat_lt depth 1) (nat_lt 32 depth) (lt-ltb 32 depth deep)

-- the table of this number exists
there_is : (fault : RouteTable → Option LpmError) (table : ℕ) (tables : List RouteTable) → table < length tables
    → ((t : RouteTable) → fault t ≡ Some BadDepth) → HasTable table tables (λ t. fault t ≡ Some BadDepth)
there_is fault table tables less refuses = let (t, at) = get_within tables table less in record { table = t; there = at; is = refuses t }

pub add_too_deep : (table ip depth hop : ℕ) (tables : List RouteTable) → table < length tables → 32 < depth
    → HasTable table tables (λ t. add_fault t ip depth hop ≡ Some BadDepth)
add_too_deep table ip depth hop tables less deep =
    there_is (λ t. add_fault t ip depth hop) table tables less (λ t. rw (is_deep depth deep) refl)

pub delete_too_deep : (table ip depth : ℕ) (tables : List RouteTable) → table < length tables → 32 < depth
    → HasTable table tables (λ t. delete_fault t ip depth ≡ Some BadDepth)
delete_too_deep table ip depth tables less deep =
    there_is (λ t. delete_fault t ip depth) table tables less (λ t. rw (is_deep depth deep) refl)

-- a refusal of the engine is one of the C library
pub told_on : (refuses : RouteTable → Option LpmError) (table : ℕ) (e was s : EngineState) (fault : RouteFault) (why : Refusal) → e ≡ s
    → ((refuses : RouteTable → Option LpmError) (table : ℕ) (tables : List RouteTable) → RefusesRoute refuses table tables fault
    → RefusesChange refuses table tables why) → RefusesRoute refuses table e.tables fault × (was ≡ e) → RefusesChange refuses table s.tables why × (was ≡ s)
told_on refuses table e was s fault why is tells (refused, same) =
    (tells refuses table s.tables (subst (λ (e' : EngineState). RefusesRoute refuses table e'.tables fault) is refused), same ∙ is)
