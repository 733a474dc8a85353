-- Rules in order, and the routes that they represent.
use Rattle.std.specs.Prelude.{◌≡◌, ℕ, suc, ◌+◌, ◌*◌, ◌<◌, ◌≤◌, List, [], ◌∷◌, length, take, drop, map, Option, Some, None, slice_index_or}
use Rattle.std.specs.List.{AllByRecursion}
use Rattle.dp_model.specs.Prefixes.{Route}
use Rattle.dp_lpm.specs.declared.limits.TheConstants.{ADDRESSES}
use Rattle.dp_lpm.specs.declared.cell.TableEntry.{TableEntry}
use Rattle.dp_lpm.specs.declared.cell.TableEntry.TheVariants.{Empty, Hop}
use Rattle.dp_lpm.specs.declared.rule.Rule.{Rule}

-- the route of a rule
abbrev pub route_of : Rule → Route
route_of r = record { prefix = r.prefix; depth = r.depth; hop = r.hop }

abbrev pub routes_of : List Rule → List Route
routes_of rules = map route_of rules

-- the entry of a route
abbrev pub entry_of : Option Route → TableEntry
entry_of None = Empty
entry_of (Some route) = Hop route.hop route.depth

-- a rule's rank in the order: by depth, then by prefix
abbrev pub rank : ℕ → ℕ → ℕ
rank depth prefix = depth * ADDRESSES + prefix

abbrev pub rank_of : Rule → ℕ
rank_of r = rank r.depth r.prefix

-- each rule comes before those after it
abbrev pub IsOrdered : List Rule → Type 0
IsOrdered [] = Unit {0}
IsOrdered (r ∷ rules) = AllByRecursion (λ q. rank_of r < rank_of q) rules × IsOrdered rules

-- the rule at an index
abbrev pub rule_at : List Rule → ℕ → Rule
rule_at rules index = slice_index_or rules index (record { prefix = 0; depth = 0; hop = 0 })

-- the rules before the index are below the rank, and the others are not
pub record IsLowerBound (rules : List Rule) (key index : ℕ) : Type 0 where
  pub bound : index ≤ length rules
  pub below : (k : ℕ) → k < index → rank_of (rule_at rules k) < key
  pub above : (k : ℕ) → index ≤ k → k < length rules → key ≤ rank_of (rule_at rules k)

-- the rules of `front` are below the rank, and those of `back` above it
pub record Parts (front back : List Rule) (key : ℕ) : Type 0 where
  pub lower : AllByRecursion (λ r. rank_of r < key) front
  pub upper : AllByRecursion (λ r. key < rank_of r) back

-- the rule of this depth and prefix is at the index
pub record IsFound (rules : List Rule) (depth prefix index : ℕ) : Type 0 where
  pub there : index < length rules
  pub depth_is : (rule_at rules index).depth ≡ depth
  pub prefix_is : (rule_at rules index).prefix ≡ prefix
  pub parts : Parts (take index rules) (drop (suc index) rules) (rank depth prefix)

-- there is no such rule, and its place would be the index
pub record IsMissing (rules : List Rule) (depth prefix index : ℕ) : Type 0 where
  pub bound : index ≤ length rules
  pub parts : Parts (take index rules) (drop index rules) (rank depth prefix)
