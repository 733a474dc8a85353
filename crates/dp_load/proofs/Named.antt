-- The nodes that names stand for.
use Rattle.std.proofs.Common.{◌≡◌, ℕ, ◌+◌, ◌<◌, List, length, map, get_or, Some, refl, ap, ◌∙◌, arith, zero-add}
use Rattle.std.specs.Prelude.{slice_get, option_map}
use Rattle.std.proofs.lemmas.Option.{slice_get-map, slice_get_read}
use Rattle.std.proofs.lemmas.List.{length-map}
use Rattle.dp_model.specs.declared.env.Entry.TheVariants.{Port, Ring}
use Rattle.dp_load.specs.declared.file_names.NodeNames.{NodeNames}
use Rattle.dp_load.specs.declared.file_names.PortNames.{PortNames}
use Rattle.dp_load.specs.declared.nodes.How.{How}
use Rattle.dp_load.specs.Setup.{NodeFiles}
use Rattle.dp_load.specs.Views.{node_names}
use Rattle.dp_load.specs.Nodes.{node_of, nodes_from, all_nodes}
use Rattle.dp_load.specs.Laws.{beyond}
use Rattle.dp_load.proofs.Indices.{in_front, nodes_from_at, length-nodes_from}

-- the files at an index of a list of names
named_at : {X : Type 0} (files_of : X → NodeFiles) (xs : List X) (i : ℕ) (x : X) → i < length xs → x ≡ get_or xs i x → slice_get (map files_of xs) i
    ≡ Some (files_of x)
named_at files_of xs i x lt is =
    let got : slice_get xs i ≡ Some x = slice_get_read xs (length xs) i x refl lt is in
    slice_get-map files_of xs i ∙ ap (option_map files_of) got

pub port_at : (how : How) (ports : List PortNames) (rings : List NodeNames) (index : ℕ) (port : PortNames) → index < length ports →
    port ≡ get_or ports index port
    → slice_get (all_nodes how (map (λ p. node_names p.files) ports) (map node_names rings)) index ≡ Some (node_of how (Port index) (node_names port.files))
port_at how ports rings index port lt is =
    let files : List NodeFiles = map (λ p. node_names p.files) ports in
    let at : slice_get files index ≡ Some (node_names port.files) = named_at (λ p. node_names p.files) ports index port lt is in
    in_front (nodes_from how Port 0 files) (nodes_from how Ring 0 (map node_names rings)) index (node_of how (Port index) (node_names port.files))
    (nodes_from_at how Port 0 files index (node_names port.files) at ∙ ap (λ n. Some (node_of how (Port n) (node_names port.files))) (zero-add index))

pub ring_at : (how : How) (ports : List PortNames) (rings : List NodeNames) (index ring : ℕ) (names : NodeNames) → index ≡ length ports + ring →
    ring < length rings → names ≡ get_or rings ring names
    → slice_get (all_nodes how (map (λ p. node_names p.files) ports) (map node_names rings)) index ≡ Some (node_of how (Ring ring) (node_names names))
ring_at how ports rings index ring names e lt is =
    let files : List NodeFiles = map (λ p. node_names p.files) ports in
    let at : slice_get (map node_names rings) ring ≡ Some (node_names names) = named_at node_names rings ring names lt is in
    let many : length (nodes_from how Port 0 files) ≡ length ports = length-nodes_from how Port 0 files ∙ length-map ports (λ p. node_names p.files) in
    let there : index ≡ length (nodes_from how Port 0 files) + ring = omega arith in
    ap (slice_get (all_nodes how files (map node_names rings))) there
    ∙ beyond (nodes_from how Port 0 files) (nodes_from how Ring 0 (map node_names rings)) ring
    ∙ nodes_from_at how Ring 0 (map node_names rings) ring (node_names names) at
    ∙ ap (λ n. Some (node_of how (Ring n) (node_names names))) (zero-add ring)
