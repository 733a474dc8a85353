-- Loaded nodes are those of a pipeline.
use Rattle.std.proofs.Common.{◌≡◌, ℕ, ◌+◌, ◌<◌, List, length, Option, Some, ap, sym, ◌∙◌, arith, length-append, zero-add}
use Rattle.std.proofs.Common.{get_or, refl, subst}
use Rattle.std.proofs.lemmas.Option.{slice_get_read}
use Rattle.std.specs.Prelude.{slice_get}
use Rattle.dp_model.specs.declared.env.Entry.{Entry}
use Rattle.dp_model.specs.declared.env.Entry.TheVariants.{Port, Ring}
use Rattle.dp_model.specs.Environments.{Environment}
use Rattle.dp_model.specs.Rules.{Question}
use Rattle.dp_model.specs.Laws.Lists.{zip_back}
use Rattle.std.proofs.lemmas.Slice.Zip.{AllZip-long}
use Rattle.dp_load.specs.declared.nodes.How.{How}
use Rattle.dp_load.specs.Setup.{NodeFiles}
use Rattle.dp_load.specs.Files.{FileMap}
use Rattle.dp_load.specs.Nodes.{Node, nodes_from, all_nodes, IsLoaded, AreLoaded}
use Rattle.dp_load.specs.Pipelines.{Plan, IsPlan, IsFor, HasNodes}
use Rattle.dp_load.specs.Laws.{front_of, beyond}
use Rattle.dp_load.proofs.Indices.{length-nodes_from, nodes_from_entry}

for_entry : (contents : Option FileMap) (env : Environment) (entry : Entry) (node : Node) (q : Question) → node.entry ≡ entry → IsLoaded contents env node q →
    IsFor env entry q
for_entry contents env entry node q e loaded = record { env_is = loaded.env_is; entry_is = loaded.entry_is ∙ e; checked = loaded.checked }

port_is : (contents : Option FileMap) (env : Environment) (how : How) (ports rings : List NodeFiles) (nodes : List Question) →
    AreLoaded contents env (all_nodes how ports rings) nodes
    → (port : ℕ) (q : Question) → port < length ports → slice_get nodes port ≡ Some q → IsFor env (Port port) q
port_is contents env how ports rings nodes all port q lt e =
    let (node, at, loaded) = zip_back (IsLoaded contents env) (all_nodes how ports rings) nodes port q all e in
    let few : port < length (nodes_from how Port 0 ports) = omega (arith, length-nodes_from how Port 0 ports) in
    let here : slice_get (nodes_from how Port 0 ports) port ≡ Some node = sym (front_of (nodes_from how Port 0 ports)
    (nodes_from how Ring 0 rings) port few) ∙ at in
    for_entry contents env (Port port) node q (nodes_from_entry how Port 0 ports port node here ∙ ap Port (zero-add port)) loaded

ring_is : (contents : Option FileMap) (env : Environment) (how : How) (ports rings : List NodeFiles) (nodes : List Question) →
    AreLoaded contents env (all_nodes how ports rings) nodes
    → (ring : ℕ) (q : Question) → slice_get nodes (length ports + ring) ≡ Some q → IsFor env (Ring ring) q
ring_is contents env how ports rings nodes all ring q e =
    let (node, at, loaded) = zip_back (IsLoaded contents env) (all_nodes how ports rings) nodes (length ports + ring) q all e in
    let index : length (nodes_from how Port 0 ports) + ring ≡ length ports + ring = ap (λ n. n + ring) (length-nodes_from how Port 0 ports) in
    let here : slice_get (nodes_from how Ring 0 rings) ring ≡ Some node =
    sym (beyond (nodes_from how Port 0 ports) (nodes_from how Ring 0 rings) ring) ∙ ap (slice_get (all_nodes how ports rings)) index ∙ at in
    for_entry contents env (Ring ring) node q (nodes_from_entry how Ring 0 rings ring node here ∙ ap Ring (zero-add ring)) loaded

-- the nodes that are loaded are one for each port and each ring of the environment
pub has_nodes : (contents : Option FileMap) (env : Environment) (how : How) (ports rings : List NodeFiles) (nodes : List Question) →
    AreLoaded contents env (all_nodes how ports rings) nodes
    → length ports ≡ length env.ports → length rings ≡ length env.rings → HasNodes env nodes
has_nodes contents env how ports rings nodes all p r = record {
  count = omega (
    arith,
    AllZip-long (IsLoaded contents env) (all_nodes how ports rings) nodes all,
    length-append (nodes_from how Port 0 ports) (nodes_from how Ring 0 rings),
    length-nodes_from how Port 0 ports,
    length-nodes_from how Ring 0 rings,
  );
  ports = λ port q lt e. port_is contents env how ports rings nodes all port q (omega arith) e;
  rings = λ ring q e. ring_is contents env how ports rings nodes all ring q (ap (λ n. slice_get nodes (n + ring)) p ∙ e);
}

-- ---- the nodes of a pipeline, shown as a plan

node_shown : (p shown : Plan) (k : ℕ) (q : Question) → p ≡ shown → IsPlan shown → k < length shown.env.ports + length shown.env.rings →
    q ≡ get_or p.nodes k q → slice_get shown.nodes k ≡ Some q
node_shown p shown k q e plan lt is =
    let here : q ≡ get_or shown.nodes k q = is ∙ ap (λ (x : Plan). get_or x.nodes k q) e in
    let few : k < length shown.nodes = omega (arith, plan.nodes.count) in
    slice_get_read shown.nodes (length shown.nodes) k q refl few here

pub port_node : (p shown : Plan) (k : ℕ) (q : Question) → p ≡ shown → IsPlan p → k < length shown.env.ports + length shown.env.rings → q ≡ get_or p.nodes k q
    → k < length shown.env.ports → IsFor shown.env (Port k) q
port_node p shown k q e inv lt is few =
    let plan : IsPlan shown = subst IsPlan e inv in plan.nodes.ports k q few (node_shown p shown k q e plan lt is)

pub ring_node : (p shown : Plan) (k : ℕ) (q : Question) → p ≡ shown → IsPlan p → k < length shown.env.ports + length shown.env.rings → q ≡ get_or p.nodes k q
    → (ring : ℕ) → k ≡ length shown.env.ports + ring → IsFor shown.env (Ring ring) q
ring_node p shown k q e inv lt is ring index =
    let plan : IsPlan shown = subst IsPlan e inv in
    plan.nodes.rings ring q (ap (slice_get shown.nodes) (sym index) ∙ node_shown p shown k q e plan lt is)
