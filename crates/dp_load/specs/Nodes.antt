-- What is loaded for the nodes of a pipeline.
use Rattle.std.specs.Prelude.{◌≡◌, ℕ, ◌+◌, ◌⊎◌, List, [], ◌∷◌, ◌++◌, length, Option, Some, None, Ok, Err}
use Rattle.std.specs.List.{AllZip}
use Rattle.dp_model.specs.declared.instr.Instr.{Instr}
use Rattle.dp_model.specs.declared.env.Entry.{Entry}
use Rattle.dp_model.specs.declared.env.Entry.TheVariants.{Port, Ring}
use Rattle.dp_model.specs.Environments.{Environment}
use Rattle.dp_model.specs.Rules.{Question}
use Rattle.dp_lang.specs.declared.cause.Fault.{Fault as AsmFault}
use Rattle.dp_lang.specs.Reading.{Reads, program_of}
use Rattle.dp_cert.specs.declared.error.Fault.{Fault as CertFault}
use Rattle.dp_cert.specs.Spelling.{Certificate, certificate_of, CertText}
use Rattle.dp_cert.specs.Reading.{cert_of}
use Rattle.dp_check.specs.Faults.{question, IsWith, IsChecked, IsRefusedWith}
use Rattle.dp_infer.specs.Inference.{SaysMost, IsNotInferred}
use Rattle.dp_load.specs.declared.nodes.How.{How}
use Rattle.dp_load.specs.declared.nodes.How.TheVariants.{Given, Inferred}
use Rattle.dp_load.specs.declared.error.PipeError.{PipeError}
use Rattle.dp_load.specs.declared.error.PipeError.TheVariants as errors
use Rattle.dp_load.specs.Setup.{NodeFiles}
use Rattle.dp_load.specs.Files.{FileMap, IsFile, IsNoFile}

-- ---- which files are read

-- a node: where its packets come from, its program file, and its certificate file if one is read
pub record Node : Type 0 where
  pub entry : Entry
  pub program : List ℕ
  pub cert : Option (List ℕ)

-- the name of the certificate file to read, if there is one
abbrev pub cert_read : How → NodeFiles → Option (List ℕ)
cert_read Given files = files.cert
cert_read Inferred files = None

abbrev pub node_of : How → Entry → NodeFiles → Node
node_of how entry files = record { entry = entry; program = files.node; cert = cert_read how files }

-- nodes with entries of one kind, starting at this index
abbrev pub nodes_from : How → (ℕ → Entry) → ℕ → List NodeFiles → List Node
nodes_from how kind k [] = []
nodes_from how kind k (files ∷ more) = node_of how (kind k) files ∷ nodes_from how kind (k + 1) more

-- the nodes: one for each port, then one for each ring
abbrev pub all_nodes : How → List NodeFiles → List NodeFiles → List Node
all_nodes how ports rings = nodes_from how Port 0 ports ++ nodes_from how Ring 0 rings

-- ---- what a node has

-- the file reads as the program
pub record IsProgramOf (contents : Option FileMap) (name : List ℕ) (program : List Instr) : Type 0 where
  pub text : List ℕ
  pub file : IsFile contents name text
  pub reads : Reads text program

-- The file spells the certificate, with n rows; and it is the one that the text is read as, in which each row has eight facts and eight bounds: rows
-- of other lengths could be spelled so too.
pub record IsCertOf (contents : Option FileMap) (name : List ℕ) (n : ℕ) (cert : Certificate) : Type 0 where
  pub text : List ℕ
  pub file : IsFile contents name text
  pub spelled : CertText n text cert
  pub reads : cert_of n text ≡ Ok cert

-- The certificate is the one in its file, if one is read. Else it has the version of its rows, and if the program is forward no other says more
abbrev pub HasCert : Option FileMap → Option (List ℕ) → Question → Type 0
HasCert contents None q = IsWith q (certificate_of q.rows) × SaysMost q.program q.env q.entry q.rows
HasCert contents (Some name) q = (cert : Certificate) × IsWith q cert × IsCertOf contents name (length q.program) cert

-- a program is loaded: it is checked for the environment and the node's entry, and comes from the node's files
pub record IsLoaded (contents : Option FileMap) (env : Environment) (node : Node) (question : Question) : Type 0 where
  pub env_is : question.env ≡ env
  pub entry_is : question.entry ≡ node.entry
  pub checked : IsChecked question
  pub program : IsProgramOf contents node.program question.program
  pub cert : HasCert contents node.cert question

-- ---- why a node has none

-- a file of the node is missing or too long
pub record IsMissing (contents : Option FileMap) (entry : Entry) (name : List ℕ) (e : PipeError) : Type 0 where
  pub is : e ≡ errors.File entry
  pub file : IsNoFile contents name

-- the program's text has this first fault
pub record IsBadProgram (contents : Option FileMap) (entry : Entry) (name : List ℕ) (e : PipeError) : Type 0 where
  pub text : List ℕ
  pub fault : AsmFault
  pub is : e ≡ errors.Asm entry fault
  pub file : IsFile contents name text
  pub fails : program_of text ≡ Err fault

-- the certificate's text has this first fault
pub record IsBadCert (contents : Option FileMap) (entry : Entry) (name : List ℕ) (n : ℕ) (e : PipeError) : Type 0 where
  pub text : List ℕ
  pub fault : CertFault
  pub is : e ≡ errors.BadCert entry fault
  pub file : IsFile contents name text
  pub fails : cert_of n text ≡ Err fault

-- the program is refused with the certificate that the file spells
pub record IsRefusedBy (contents : Option FileMap) (env : Environment) (entry : Entry) (name : List ℕ) (program : List Instr) (e : PipeError) : Type 0 where
  pub cert : Certificate
  pub label : ℕ
  pub rule : ℕ
  pub is : e ≡ errors.Refused entry label rule
  pub spelled : IsCertOf contents name (length program) cert
  pub refused : IsRefusedWith (question program cert env entry) label rule

-- no certificate is found: a forward program has none, and with one that was tried the program is refused at the label by the rule
pub record IsWithoutCert (env : Environment) (entry : Entry) (program : List Instr) (e : PipeError) : Type 0 where
  pub label : ℕ
  pub rule : ℕ
  pub is : e ≡ errors.NotInferred entry label rule
  pub none : IsNotInferred program env entry label rule

-- why there is no program: its file, or its text
abbrev pub HasNoProgram : Option FileMap → Entry → List ℕ → PipeError → Type 0
HasNoProgram contents entry name e = IsMissing contents entry name e ⊎ IsBadProgram contents entry name e

-- why a program has no certificate, or none with which it is accepted
abbrev pub HasNoCert : Option FileMap → Environment → Entry → Option (List ℕ) → List Instr → PipeError → Type 0
HasNoCert contents env entry None program e = IsWithoutCert env entry program e
HasNoCert contents env entry (Some name) program e =
    IsMissing contents entry name e ⊎ IsBadCert contents entry name (length program) e ⊎ IsRefusedBy contents env entry name program e

-- why a node is not loaded: first what is wrong with its program, then with its certificate; but memory can run out at any time
abbrev pub Fails : Option FileMap → Environment → Node → PipeError → Type 0
Fails contents env node e =
    (e ≡ errors.Memory) ⊎ HasNoProgram contents node.entry node.program e
    ⊎ ((program : List Instr) × IsProgramOf contents node.program program × HasNoCert contents env node.entry node.cert program e)

-- ---- all nodes

-- all nodes are loaded, each at its index
abbrev pub AreLoaded : Option FileMap → Environment → List Node → List Question → Type 0
AreLoaded contents env nodes loaded = AllZip (IsLoaded contents env) nodes loaded

-- the first node that is not loaded
pub record FailsAtFirst (contents : Option FileMap) (env : Environment) (nodes : List Node) (e : PipeError) : Type 0 where
  pub before : List Node
  pub node : Node
  pub after : List Node
  pub all : nodes ≡ before ++ node ∷ after
  pub loaded : List Question
  pub earlier : AreLoaded contents env before loaded
  pub fails : Fails contents env node e
