-- The setup in a pipeline file: how the table of its text is read, part by part.
use Rattle.std.specs.Prelude.{ℕ, ◌+◌, ◌%◌, Bool, true, ◌&&◌, ◌==◌, nat_le, List, [], ◌∷◌, Option, Some, None, option_and_then, option_map, ok_or, Result, Ok}
use Rattle.std.specs.Prelude.{Err, if◌then◌else◌, codes}
use Rattle.toml.specs.Data.{Data, Members, get_member, as_table}
use Rattle.dp_region.specs.Region.{cache_line, max_region, min_region}
use Rattle.dp_model.specs.Limits.{max_known}
use Rattle.dp_model.specs.declared.row.Fact.{Fact}
use Rattle.dp_model.specs.declared.row.Fact.TheVariants.{Held}
use Rattle.dp_model.specs.declared.env.PoolSpec.{PoolSpec}
use Rattle.dp_model.specs.declared.env.RingSpec.{RingSpec}
use Rattle.dp_model.specs.declared.env.PortSpec.{PortSpec}
use Rattle.dp_lpm.specs.declared.limits.TheConstants.{MAX_GROUPS, MAX_RULES}
use Rattle.dp_load.specs.declared.error.Part.{Part}
use Rattle.dp_load.specs.declared.error.Part.TheVariants.{Top, Pool, Table, Ring, Port}
use Rattle.dp_load.specs.Keys.{elements_at, elements_of, is_array_of, is_text, is_table, has_only, number_at, text_at, text_if_any}

-- the largest share, and the maximum number of segments, that a file can have: the largest byte
abbrev pub max_small : ℕ
max_small = 255

-- the file names of a node
pub record NodeFiles : Type 0 where
  pub node : List ℕ
  pub cert : Option (List ℕ)

-- a table of routes: the maximum numbers of rules and groups, and the values of its list
pub record TablePart : Type 0 where
  pub rules : ℕ
  pub groups : ℕ
  pub routes : List Data

-- a ring: its count and its fact, and the names of its node's files
pub record RingPart : Type 0 where
  pub spec : RingSpec
  pub files : NodeFiles

-- a port: its pool, segments and queue, and the names of its files
pub record PortPart : Type 0 where
  pub spec : PortSpec
  pub files : NodeFiles
  pub input : List ℕ
  pub output : List ℕ

-- the whole file; the region in bytes
pub record Setup : Type 0 where
  pub region : ℕ
  pub pools : List PoolSpec
  pub tables : List TablePart
  pub rings : List RingPart
  pub ports : List PortPart

-- the maximum integer at a key that has no other limit
abbrev pub max_integer : ℕ
max_integer = 4294967295

-- ---- one table of each kind

-- a `[[pool]]`: a whole number at each of its keys, and no other key
abbrev pub pool_in : Members → Option PoolSpec
pool_in table =
    if has_only (codes "count" ∷ codes "cache" ∷ codes "room" ∷ []) table then
    option_and_then (λ count. option_and_then (λ cache. option_map (λ room. record { count = count; cache = cache; room = room })
    (number_at (codes "room") max_integer table))
    (number_at (codes "cache") max_integer table))
    (number_at (codes "count") max_integer table)
    else None

-- a number of at least 1
abbrev pub rules_if : ℕ → Option ℕ
rules_if n = if nat_le 1 n then Some n else None

-- the maximum number of rules of a table of routes, at least 1
abbrev pub rules_in : Members → Option ℕ
rules_in table = option_and_then rules_if (number_at (codes "rules") MAX_RULES table)

-- the elements of an array of texts
abbrev pub texts_in : Data → Option (List Data)
texts_in d = if is_array_of is_text d then Some (elements_of d) else None

-- the elements of the array of texts at a key
abbrev pub texts_at : List ℕ → Members → Option (List Data)
texts_at key table = option_and_then texts_in (get_member key table)

-- a `[[table]]`: its rules, its groups and its routes
abbrev pub table_in : Members → Option TablePart
table_in table =
    if has_only (codes "rules" ∷ codes "groups" ∷ codes "routes" ∷ []) table then
    option_and_then (λ rules. option_and_then (λ groups. option_map (λ routes. record { rules = rules; groups = groups; routes = routes })
    (texts_at (codes "routes") table))
    (number_at (codes "groups") MAX_GROUPS table))
    (rules_in table)
    else None

-- the file of a node's program, and of its certificate if one is named
abbrev pub node_files_in : Members → Option NodeFiles
node_files_in table =
    option_and_then (λ node. option_map (λ cert. record { node = node; cert = cert })
    (text_if_any (get_member (codes "cert") table)))
    (text_at (codes "node") table)

-- the fact that each packet of a ring satisfies
abbrev pub fact_in : Members → Option Fact
fact_in table =
    option_and_then (λ share. option_and_then (λ head. option_and_then
    (λ tail. option_and_then (λ first. option_and_then (λ last. option_map (λ segs. Held share head tail first last segs)
    (number_at (codes "segs") max_small table))
    (number_at (codes "last") max_known table))
    (number_at (codes "first") max_known table))
    (number_at (codes "tail") max_known table))
    (number_at (codes "head") max_known table))
    (number_at (codes "share") max_small table)

-- the keys of a `[[ring]]`
abbrev pub ring_keys : List (List ℕ)
ring_keys =
    codes "count" ∷ codes "share" ∷ codes "head" ∷ codes "tail" ∷ codes "first" ∷ codes "last" ∷ codes "segs"
    ∷ codes "node" ∷ codes "cert" ∷ []

-- the count of a ring, and its fact
abbrev pub ring_spec_in : Members → Option RingSpec
ring_spec_in table =
    option_and_then (λ count. option_map (λ fact. record { count = count; fact = fact })
    (fact_in table))
    (number_at (codes "count") max_integer table)

-- a `[[ring]]`
abbrev pub ring_in : Members → Option RingPart
ring_in table =
    if has_only ring_keys table then
    option_and_then (λ spec. option_map (λ files. record { spec = spec; files = files })
    (node_files_in table))
    (ring_spec_in table)
    else None

-- the keys of a `[[port]]`
abbrev pub port_keys : List (List ℕ)
port_keys =
    codes "pool" ∷ codes "segs" ∷ codes "queue" ∷ codes "node" ∷ codes "cert" ∷ codes "in" ∷ codes "out" ∷ []

-- the pool of a port, its segments and the size of its queue
abbrev pub port_spec_in : Members → Option PortSpec
port_spec_in table =
    option_and_then (λ pool. option_and_then (λ segs. option_map (λ queue. record { pool = pool; segs = segs; queue = queue })
    (number_at (codes "queue") max_integer table))
    (number_at (codes "segs") max_small table))
    (number_at (codes "pool") max_integer table)

-- a `[[port]]`
abbrev pub port_in : Members → Option PortPart
port_in table =
    if has_only port_keys table then
    option_and_then (λ spec. option_and_then (λ files. option_and_then
    (λ input. option_map (λ output. record { spec = spec; files = files; input = input; output = output })
    (text_at (codes "out") table))
    (text_at (codes "in") table))
    (node_files_in table))
    (port_spec_in table)
    else None

-- ---- the whole

-- a number that is a multiple of the unit and not too small
abbrev pub region_if : ℕ → Option ℕ
region_if n = if nat_le min_region n && n % cache_line == 0 then Some n else None

-- an array of tables, or missing
abbrev pub is_tables : Option Data → Bool
is_tables None = true
is_tables (Some d) = is_array_of is_table d

-- the keys at the top
abbrev pub top_keys : List (List ℕ)
top_keys = codes "region" ∷ codes "pool" ∷ codes "table" ∷ codes "ring" ∷ codes "port" ∷ []

-- whether the top has only known keys, and arrays of tables at the keys that may have them
abbrev pub is_top : Members → Bool
is_top top =
    has_only top_keys top && is_tables (get_member (codes "pool") top) && is_tables (get_member (codes "table") top)
    && is_tables (get_member (codes "ring") top) && is_tables (get_member (codes "port") top)

-- the region, if no key at the top is bad
abbrev pub region_in : Members → Option ℕ
region_in top =
    if is_top top then option_and_then region_if (number_at (codes "region") max_region top) else None

-- the second reading, applied if the first gave a value
abbrev pub and_then : {A B E : Type 0} → Result A E → (A → Result B E) → Result B E
and_then (Ok x) next = next x
and_then (Err e) next = Err e

-- a part with a bad key: its kind, and its index among its kind
abbrev pub Bad : Type 0
Bad = Part × ℕ

-- the parts of an array, or the first with a bad key; k is the index of the first of them
abbrev pub each : {A : Type 0} → Part → (Members → Option A) → ℕ → List Data → Result (List A) Bad
each kind read k [] = Ok []
each kind read k (d ∷ ds) =
    and_then (ok_or (option_and_then read (as_table d)) (kind, k)) (λ x.
    and_then (each kind read (k + 1) ds) (λ xs. Ok (x ∷ xs)))

-- the setup of a file, or the first part with a bad key: the top, then pools, tables, rings and ports
abbrev pub setup_in : Members → Result Setup Bad
setup_in top =
    and_then (ok_or (region_in top) (Top, 0)) (λ region.
    and_then (each Pool pool_in 0 (elements_at (codes "pool") top)) (λ pools.
    and_then (each Table table_in 0 (elements_at (codes "table") top)) (λ tables.
    and_then (each Ring ring_in 0 (elements_at (codes "ring") top)) (λ rings.
    and_then (each Port port_in 0 (elements_at (codes "port") top)) (λ ports.
    Ok (record { region = region; pools = pools; tables = tables; rings = rings; ports = ports }))))))
