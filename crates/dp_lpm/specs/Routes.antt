-- Tables of routes, and the changes that they permit.
use Rattle.std.specs.Prelude.{◌≡◌, ℕ, zero, suc, ◌+◌, ◌-◌, ◌/◌, ◌^◌, ◌<◌, ◌≤◌, Bool, false, ◌&&◌, ◌==◌, nat_lt, if◌then◌else◌, List, [], ◌∷◌, length, Option}
use Rattle.std.specs.Prelude.{Some, None, is_some, find}
use Rattle.std.specs.List.{list_any, AllByRecursion}
use Rattle.std.specs.Option.{option_or}
use Rattle.dp_model.specs.Prefixes.{Route}
use Rattle.dp_lpm.specs.declared.limits.TheConstants.{FIRST_BITS, FIRST_ENTRIES, MAX_DEPTH, MAX_HOP}

-- a table: its routes, how many it can hold, and how many groups it has for routes deeper than 24 bits
pub record RouteTable : Type 0 where
  pub routes : List Route
  pub max_rules : ℕ
  pub groups : ℕ

-- the first bits of an address
abbrev pub prefix_of : ℕ → ℕ → ℕ
prefix_of ip depth = ip / 2 ^ (MAX_DEPTH - depth)

abbrev pub is_at : ℕ → ℕ → Route → Bool
is_at prefix depth route = (route.depth == depth) && (route.prefix == prefix)

-- the route of a prefix and depth
abbrev pub route_at : List Route → ℕ → ℕ → Option Route
route_at routes prefix depth = find (is_at prefix depth) routes

-- one prefix and depth has this route, or none; the routes of all others do not change
pub record ChangesAt (old new : List Route) (prefix depth : ℕ) (route : Option Route) : Type 0 where
  pub here : route_at new prefix depth ≡ route
  pub others : (p d : ℕ) → ((d == depth) && (p == prefix)) ≡ false → route_at new p d ≡ route_at old p d

-- the table has the route, which replaces the one of its prefix and depth if there was one
pub record Puts (old new : RouteTable) (route : Route) : Type 0 where
  pub changes : ChangesAt old.routes new.routes route.prefix route.depth (Some route)
  pub count : length new.routes ≡ length old.routes + (if is_some (route_at old.routes route.prefix route.depth) then 0 else 1)
  pub max_rules : new.max_rules ≡ old.max_rules
  pub groups : new.groups ≡ old.groups

-- the table no longer has a route of this prefix and depth, and has all others
pub record Drops (old new : RouteTable) (prefix depth : ℕ) : Type 0 where
  pub changes : ChangesAt old.routes new.routes prefix depth None
  pub count : length new.routes + 1 ≡ length old.routes
  pub max_rules : new.max_rules ≡ old.max_rules
  pub groups : new.groups ≡ old.groups

-- the deepest route for the address among those no deeper than that
unfoldable pub deepest_within : ℕ → List Route → ℕ → Option Route
deepest_within zero routes ip = None
deepest_within (suc depth) routes ip =
    option_or (route_at routes (prefix_of ip (suc depth)) (suc depth)) (deepest_within depth routes ip)

-- the route is deeper than 24 bits, and begins with these 24
abbrev pub is_deep_in : ℕ → Route → Bool
is_deep_in first route = nat_lt FIRST_BITS route.depth && (route.prefix / 2 ^ (route.depth - FIRST_BITS) == first)

-- how many of the 24-bit prefixes below n are prefixes of deeper routes
unfoldable pub groups_below : ℕ → List Route → ℕ
groups_below zero routes = 0
groups_below (suc n) routes = groups_below n routes + (if list_any (is_deep_in n) routes then 1 else 0)

-- how many groups the routes need
abbrev pub groups_needed : List Route → ℕ
groups_needed routes = groups_below FIRST_ENTRIES routes

-- a route of a table
pub record IsRoute (route : Route) : Type 0 where
  pub some : 1 ≤ route.depth
  pub most : route.depth ≤ MAX_DEPTH
  pub prefix : route.prefix < 2 ^ route.depth
  pub hop : route.hop ≤ MAX_HOP

-- each prefix and depth has at most one route
abbrev pub AreOnce : List Route → Type 0
AreOnce [] = Unit {0}
AreOnce (route ∷ routes) = (route_at routes route.prefix route.depth ≡ None) × AreOnce routes

-- what holds of every table
pub record IsTableOfRoutes (t : RouteTable) : Type 0 where
  pub each : AllByRecursion IsRoute t.routes
  pub once : AreOnce t.routes
  pub few : length t.routes ≤ t.max_rules
  pub groups : groups_needed t.routes ≤ t.groups

-- no hop of the table is above the maximum
abbrev pub HasSmallHops : RouteTable → Type 0
HasSmallHops t = AllByRecursion (λ (route : Route). route.hop ≤ MAX_HOP) t.routes
