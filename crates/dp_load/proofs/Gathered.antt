-- What is loaded, and why it is not, from the parts that were read.
use Rattle.std.proofs.Common.{◌≡◌, ℕ, suc, ◌+◌, ◌≤◌, List, [], ◌∷◌, ◌++◌, length, take, drop, Option, None, Some, refl, sym, subst, arith}
use Rattle.std.proofs.Common.{length-append}
use Rattle.std.specs.Prelude.{slice_get, Result, Ok, Err, IfOk}
use Rattle.std.proofs.lemmas.List.{take_all}
use Rattle.dp_model.specs.declared.instr.Instr.{Instr}
use Rattle.dp_model.specs.declared.env.Entry.{Entry}
use Rattle.dp_model.specs.declared.env.Entry.TheVariants.{Port, Ring}
use Rattle.dp_model.specs.Environments.{Environment}
use Rattle.dp_model.specs.Rules.{Question}
use Rattle.dp_cert.specs.Spelling.{Certificate, certificate_of}
use Rattle.dp_check.specs.Faults.{question, IsWith, IsChecked}
use Rattle.dp_infer.specs.Inference.{SaysMost}
use Rattle.dp_load.specs.declared.error.PipeError.{PipeError}
use Rattle.dp_load.specs.declared.nodes.How.{How}
use Rattle.dp_load.specs.Setup.{NodeFiles}
use Rattle.dp_load.specs.Files.{FileMap}
use Rattle.dp_load.specs.Nodes.{Node, nodes_from, all_nodes, IsProgramOf, IsCertOf, HasCert, IsLoaded}
use Rattle.dp_load.specs.Nodes.{Fails, AreLoaded, FailsAtFirst}
use Rattle.dp_load.proofs.Indices.{taken_more, parted, zipped_more, length-nodes_from}

-- ---- one node

-- the certificate with which a program is checked is the one in its file
pub spelled_cert : (contents : Option FileMap) (name : List ℕ) (program : List Instr) (cert : Certificate) (env : Environment) (entry : Entry) (q : Question) →
    q ≡ question program cert env entry → IsCertOf contents name (length program) cert → HasCert contents (Some name) q
spelled_cert contents name program cert env entry q is spelled = subst (HasCert contents (Some name)) (sym is) (cert, refl, spelled)

most_of : (program : List Instr) (env : Environment) (entry : Entry) (q : Question) → q.env ≡ env → q.entry ≡ entry → q.program ≡ program →
    SaysMost program env entry q.rows → SaysMost q.program q.env q.entry q.rows
most_of program env entry q e n p most =
    let at_program : SaysMost q.program env entry q.rows = subst (λ (x : List Instr). SaysMost x env entry q.rows) (sym p) most in
    let at_env : SaysMost q.program q.env entry q.rows = subst (λ (x : Environment). SaysMost q.program x entry q.rows) (sym e) at_program in
    subst (λ (x : Entry). SaysMost q.program q.env x q.rows) (sym n) at_env

pub inferred_loaded : (contents : Option FileMap) (env : Environment) (node : Node) (program : List Instr) (q : Question)
    → IsProgramOf contents node.program program → None ≡ node.cert
    → q.env ≡ env → q.entry ≡ node.entry → q.program ≡ program → IsChecked q → IsWith q (certificate_of q.rows) → SaysMost program env node.entry q.rows →
    IsLoaded contents env node q
inferred_loaded contents env node program q reads is e n p checked same most = record {
  env_is = e;
  entry_is = n;
  checked = checked;
  program = subst (λ (x : List Instr). IsProgramOf contents node.program x) (sym p) reads;
  cert = subst (λ (c : Option (List ℕ)). HasCert contents c q) is (same, most_of program env node.entry q e n p most);
}

pub all_loaded : (contents : Option FileMap) (env : Environment) (node : Node) (program : List Instr) (result : Result Question PipeError)
    → IsProgramOf contents node.program program → None ≡ node.cert
    → IfOk result (λ q. q.env ≡ env) → IfOk result (λ q. q.entry ≡ node.entry) → IfOk result (λ q. q.program ≡ program) → IfOk result IsChecked →
    IfOk result (λ q. IsWith q (certificate_of q.rows)) → IfOk result (λ q. SaysMost program env node.entry q.rows)
    → IfOk result (IsLoaded contents env node)
all_loaded contents env node program (Ok q) reads is e n p checked same most = inferred_loaded contents env node program q reads is e n p checked same most
all_loaded contents env node program (Err fault) reads is e n p checked same most = tt

-- ---- all nodes

pub one_more : (contents later : Option FileMap) (env : Environment) (nodes : List Node) (k : ℕ) (node : Node) (loaded : List Question) (q : Question)
    → later ≡ contents → slice_get nodes k ≡ Some node → AreLoaded contents env (take k nodes) loaded → IsLoaded later env node q →
    AreLoaded contents env (take (k + 1) nodes) (loaded ++ q ∷ [])
one_more contents later env nodes k node loaded q stays at all new =
    let here : IsLoaded contents env node q = subst (λ (f : Option FileMap). IsLoaded f env node q) stays new in
    subst (λ (xs : List Node). AreLoaded contents env xs (loaded ++ q ∷ [])) (sym (taken_more nodes k node at))
    (zipped_more (IsLoaded contents env) (take k nodes) loaded node q all here)

pub fails_here : (contents later : Option FileMap) (env : Environment) (nodes : List Node) (k : ℕ) (node : Node) (loaded : List Question) (e : PipeError)
    → later ≡ contents → slice_get nodes k ≡ Some node → AreLoaded contents env (take k nodes) loaded → Fails later env node e →
    FailsAtFirst contents env nodes e
fails_here contents later env nodes k node loaded e stays at all fails = record {
  before = take k nodes;
  node = node;
  after = drop (suc k) nodes;
  all = parted nodes k node at;
  loaded = loaded;
  earlier = all;
  fails = subst (λ (f : Option FileMap). Fails f env node e) stays fails;
}

pub how_many : (how : How) (ports rings : List NodeFiles) → length (all_nodes how ports rings) ≡ length ports + length rings
how_many how ports rings =
    omega (
      arith,
      length-append (nodes_from how Port 0 ports) (nodes_from how Ring 0 rings),
      length-nodes_from how Port 0 ports,
      length-nodes_from how Ring 0
          rings,
    )

pub whole : (contents : Option FileMap) (env : Environment) (nodes : List Node) (n : ℕ) (loaded : List Question) → length nodes ≤ n →
    AreLoaded contents env (take n nodes) loaded → AreLoaded contents env nodes loaded
whole contents env nodes n loaded few all = subst (λ (xs : List Node). AreLoaded contents env xs loaded) (take_all n nodes few) all
