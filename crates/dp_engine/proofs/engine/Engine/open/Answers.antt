-- What was laid out is at its start.
use Rattle.std.proofs.Common.{◌≡◌, ◌*◌, [], length, replicate, sym, ◌∙◌, ap, subst}
use Rattle.dp_engine.specs.Handles.{Core}
use Rattle.dp_engine.specs.Schemes.{Scheme, scheme_of}
use Rattle.dp_engine.specs.Engines.{IsEngine, IsOpened, engine_of, no_tallies}
use Rattle.dp_engine.specs.MachineParts.{first_core}
use Rattle.dp_engine.proofs.Opening.{queues_in, no_slots, engine_first, is_opened}
use Rattle.dp_engine.proofs.Parts.{rings_first, without_entry}
use Rattle.dp_engine.proofs.engine.Engine.open.Goals as goal

pub over-requires-clause-rings : goal.over-requires-clause-rings
over-requires-clause-rings g c = rings_first c.args.region.home _ c.in-Ok.opened.1.rings c.in-Ok.ensures.opened.rings

pub over-requires-clause-outboxes : goal.over-requires-clause-outboxes
over-requires-clause-outboxes g c = rings_first c.args.region.home _ c.in-Ok.opened.1.lists c.in-Ok.ensures.opened.lists

pub over-machine-requires-clause-none : goal.over-machine-requires-clause-none
over-machine-requires-clause-none g c h = no_slots c.over-mbufs.result.store.slots (65536 * length c.over-mbufs.result.store.pools) h c.over-mbufs.ensures.empty

pub over-machine-requires-clause-rings : goal.over-machine-requires-clause-rings
over-machine-requires-clause-rings g c = rw (c.over.ensures) (without_entry c.args.region.home _ c.in-Ok.opened.1.rings c.in-Ok.ensures.opened.rings)

pub over-machine-requires-clause-outboxes : goal.over-machine-requires-clause-outboxes
over-machine-requires-clause-outboxes g c = rw (c.over.ensures) (without_entry c.args.region.home _ c.in-Ok.opened.1.lists c.in-Ok.ensures.opened.lists)

pub invariant_of-result : goal.invariant_of-result
invariant_of-result g c =
    let parts = c.in-Ok.opened.1 in
    let core : c.over-machine.result ≡ first_core c.over-mbufs.result (queues_in parts) =
    c.over-machine.ensures ∙ ap (first_core c.over-mbufs.result) c.over.ensures in
    let env : c.new-context.result.setting.env ≡ c.args.env.now = ap (λ (s : Scheme). s.setting.env) c.new-context.ensures.context in
    subst (λ (core : Core). IsEngine c.new-context.result core c.in-Ok.opened.0 0 (replicate 8 no_tallies) (replicate 8 0)) (sym core)
    (engine_first c.args.region.home (length c.args.region.bytes) c.args.env.now c.in-Ok.opened.0 parts c.over-mbufs.result c.in-Ok.ensures.opened
    c.over-mbufs.ensures c.is_well_formed.ensures.world c.new-context.result env c.new-context.ensures.pipeline.limits c.new-context.ensures.tables)

pub returns-clause-opened : goal.returns-clause-opened
returns-clause-opened g c =
    let parts = c.in-Ok.opened.1 in
    let first = first_core c.over-mbufs.result (queues_in parts) in
    let core : c.over-machine.result ≡ first =
    c.over-machine.ensures ∙ ap (first_core c.over-mbufs.result) c.over.ensures in
    let context : c.new-context.result ≡ scheme_of c.args.env.now c.args.tables.items c.args.nodes.items [] =
    c.new-context.ensures.context in
    let Opened : Scheme → Core → Type 0 = λ s core. IsOpened c.args.region.home (length c.args.region.bytes) c.args.env.now c.args.tables.items
    c.args.nodes.items (engine_of s core c.in-Ok.opened.0 0 (replicate 8 no_tallies) (replicate 8 0)) in
    subst (λ (core : Core). Opened c.new-context.result core) (sym core)
    (subst (λ (s : Scheme). Opened s first) (sym context)
    (is_opened c.args.region.home (length c.args.region.bytes) c.args.env.now c.in-Ok.opened.0 parts c.over-mbufs.result c.in-Ok.ensures.opened
    c.over-mbufs.ensures c.is_well_formed.ensures.world c.args.tables.items c.args.nodes.items))
