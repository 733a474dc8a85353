-- The engine of a pipeline is open, and has served no call.
use Rattle.std.proofs.Common.{[], length, sym, ◌∙◌, ap, subst}
use Rattle.dp_model.specs.Machine.{Setting}
use Rattle.dp_pipe.specs.Running.{IsFirst}
use Rattle.dp_host.specs.Calls.{HasServedCalls}
use Rattle.dp_host.proofs.Serving.{first_served}
use Rattle.dp_host.proofs.host.running_of.Goals as goal
use Rattle.dp_host.proofs.host.running_of.Goals.{In-Ok}

first : (c : In-Ok) → IsFirst c.args.pipeline [] c.in-Ok.engine
first c = subst (λ l. IsFirst c.args.pipeline l c.in-Ok.engine) c.new.ensures.items c.in-Ok.ensures.engine

pub of-requires-clause-ports : goal.of-requires-clause-ports
of-requires-clause-ports c =
    c.counts_of-counts.ensures.ports.0 ∙ sym (ap (λ (s : Setting). length s.env.ports) (first (goal.at.of-requires-clause-ports c).In-Ok).setting)

pub of-requires-clause-few_ports : goal.of-requires-clause-few_ports
of-requires-clause-few_ports c = c.counts_of-counts.ensures.ports.1

pub of-requires-clause-rings : goal.of-requires-clause-rings
of-requires-clause-rings c =
    c.counts_of-counts.ensures.rings.0 ∙ sym (ap (λ (s : Setting). length s.env.rings) (first (goal.at.of-requires-clause-rings c).In-Ok).setting)

pub of-requires-clause-few_rings : goal.of-requires-clause-few_rings
of-requires-clause-few_rings c = c.counts_of-counts.ensures.rings.1

pub returns-in-Ok-clause-ok : goal.returns-in-Ok-clause-ok
returns-in-Ok-clause-ok c =
    subst (HasServedCalls c.args.pipeline []) (sym c.of.ensures)
    (first_served c.args.pipeline c.in-Ok.engine c.counts_of-counts.ensures.plan (first (goal.at.returns-in-Ok-clause-ok c).In-Ok))
