-- Which changes a table refuses, in order of the tests.
use Rattle.std.specs.Prelude.{ℕ, ◌&&◌, ◌||◌, nat_lt, nat_le, if◌then◌else◌, ◌∷◌, length, Option, Some, None, is_some}
use Rattle.dp_model.specs.Prefixes.{Route}
use Rattle.dp_lpm.specs.declared.limits.TheConstants.{FIRST_BITS, MAX_DEPTH, MAX_HOP}
use Rattle.dp_lpm.specs.declared.error.LpmError.{LpmError}
use Rattle.dp_lpm.specs.declared.error.LpmError.TheVariants.{BadDepth, BadHop, RulesFull, GroupsFull, NoRule}
use Rattle.dp_lpm.specs.Routes.{RouteTable, prefix_of, route_at, groups_needed}

abbrev pub number_of : LpmError → ℕ
number_of BadDepth = 1
number_of BadHop = 2
number_of RulesFull = 3
number_of GroupsFull = 4
number_of NoRule = 5

-- the route that an `add` inserts
abbrev pub added : ℕ → ℕ → ℕ → Route
added ip depth hop = record { prefix = prefix_of ip depth; depth = depth; hop = hop }

-- why a route is refused, if the table has none of its prefix and depth
abbrev pub new_fault : RouteTable → Route → Option LpmError
new_fault t route =
    if nat_le t.max_rules (length t.routes) then Some RulesFull
    else if nat_lt FIRST_BITS route.depth && nat_lt t.groups (groups_needed (route ∷ t.routes)) then Some GroupsFull
    else None

-- why a route is refused
abbrev pub route_fault : RouteTable → Route → Option LpmError
route_fault t route = if is_some (route_at t.routes route.prefix route.depth) then None else new_fault t route

-- why `add` refuses
abbrev pub add_fault : RouteTable → ℕ → ℕ → ℕ → Option LpmError
add_fault t ip depth hop =
    if nat_lt depth 1 || nat_lt MAX_DEPTH depth then Some BadDepth
    else if nat_lt MAX_HOP hop then Some BadHop
    else route_fault t (added ip depth hop)

-- why `delete` refuses
abbrev pub delete_fault : RouteTable → ℕ → ℕ → Option LpmError
delete_fault t ip depth =
    if nat_lt depth 1 || nat_lt MAX_DEPTH depth then Some BadDepth
    else if is_some (route_at t.routes (prefix_of ip depth) depth) then None
    else Some NoRule
