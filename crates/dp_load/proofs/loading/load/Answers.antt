-- The configuration, and its nodes or the first that is not loaded.
use Rattle.std.proofs.Common.{sym, subst}
use Rattle.std.proofs.lemmas.List.Elements.{All-get_or}
use Rattle.std.proofs.lemmas.Option.{get_or_from_slice_get, slice_get_within}
use Rattle.std.proofs.lemmas.Result.{err_from_is_err_and}
use Rattle.dp_lpm.specs.Routes.{HasSmallHops}
use Rattle.dp_load.specs.Pipelines.{Plan}
use Rattle.dp_load.specs.Loads.{IsLoadedFrom}
use Rattle.dp_load.proofs.Loaded.{few_parts, limits_of, ports_of, tables_of, fit_nodes, loaded_from, bad_node}
use Rattle.dp_region.specs.Region.{IsRegionSize}
use Rattle.dp_load.proofs.Regions.{setup_region}
use Rattle.dp_load.proofs.loading.load.Goals as goal

pub load_nodes-requires-clause-few_ports : goal.load_nodes-requires-clause-few_ports
load_nodes-requires-clause-few_ports g c =
    let config = c.in_ok-config.ensures.ok in rw c.deref.ensures.value (few_parts config.setup c.in_ok-config.config config.config).0

pub load_nodes-requires-clause-few_rings : goal.load_nodes-requires-clause-few_rings
load_nodes-requires-clause-few_rings g c =
    let config = c.in_ok-config.ensures.ok in rw c.deref-2.ensures.value (few_parts config.setup c.in_ok-config.config config.config).1

pub returns-in_err-nodes-clause-fails : goal.returns-in_err-nodes-clause-fails
returns-in_err-nodes-clause-fails g c =
    let fails = rw (c.deref.ensures.value, c.deref-2.ensures.value) at c.in_err-nodes.ensures.fails in
    let p = err_from_is_err_and c.from_residual-in_err-nodes.result c.from_residual-in_err-nodes.ensures.1 in
    rw (p.1, p.2) (bad_node (g.F.Files.contents c.args.files.now) c.args.how c.args.text.now c.in_ok-config.config c.in_err-nodes.field-0.0
    c.in_ok-config.ensures.ok fails)

pub new-requires-clause-nodes : goal.new-requires-clause-nodes
new-requires-clause-nodes g c =
    let loaded = rw (c.deref.ensures.value, c.deref-2.ensures.value) at c.in_ok-nodes.ensures.loaded in
    fit_nodes (g.F.Files.contents c.args.files.now) c.args.how c.args.text.now c.in_ok-config.config c.in_ok-nodes.nodes.items c.in_ok-config.ensures.ok loaded

pub new-requires-clause-tables : goal.new-requires-clause-tables
new-requires-clause-tables g c = tables_of c.in_ok-config.ensures.ok.setup c.in_ok-config.config c.in_ok-config.ensures.ok.config

pub new-requires-clause-hops : goal.new-requires-clause-hops
new-requires-clause-hops g c k t at =
    let tables = c.in_ok-config.config.tables.items in
    subst HasSmallHops (get_or_from_slice_get tables k t t at)
    (All-get_or HasSmallHops tables k t (slice_get_within tables k t at) c.in_ok-config.ensures.hops)

pub new-requires-clause-ports : goal.new-requires-clause-ports
new-requires-clause-ports g c = ports_of c.in_ok-config.ensures.ok.setup c.in_ok-config.config c.in_ok-config.ensures.ok.config

pub returns-clause-loaded : goal.returns-clause-loaded
returns-clause-loaded g c =
    let loaded = rw (c.deref.ensures.value, c.deref-2.ensures.value) at c.in_ok-nodes.ensures.loaded in
    subst (λ (p : Plan). IsLoadedFrom (g.F.Files.contents c.args.files.now) c.args.how c.args.text.now p) (sym c.new.ensures)
    (loaded_from (g.F.Files.contents c.args.files.now) c.args.how c.args.text.now c.in_ok-config.config c.in_ok-nodes.nodes.items c.in_ok-config.ensures.ok
    loaded)

pub new-requires-clause-region : goal.new-requires-clause-region
new-requires-clause-region g c =
    let config = c.in_ok-config.ensures.ok in
    subst IsRegionSize (sym config.config.region) (setup_region config.top config.setup config.reads)

pub new-requires-clause-limits : goal.new-requires-clause-limits
new-requires-clause-limits g c = limits_of c.in_ok-config.ensures.ok.setup c.in_ok-config.config c.in_ok-config.ensures.ok.config
