-- The certificate by which a node's program is judged, and the verdict.
use Rattle.std.specs.Prelude.{◌≡◌, ℕ, zero, suc, ◌⊎◌, List, [], ◌∷◌, ◌++◌, length, is_some, MatchOption, Option, Some, None, option_map}
use Rattle.dp_model.specs.declared.env.Entry.{Entry}
use Rattle.dp_model.specs.declared.instr.Instr.{Instr}
use Rattle.dp_model.specs.Environments.{Environment}
use Rattle.dp_model.specs.Rules.{IsAccepted, number_of}
use Rattle.dp_cert.specs.Spelling.{Certificate, version_for}
use Rattle.dp_check.specs.Faults.{question}
use Rattle.dp_check.specs.Diagnoses.{IsDiagnosis, rule_of}
use Rattle.dp_check.specs.declared.diagnosis.Diagnosis.{Diagnosis}
use Rattle.dp_infer.specs.Inference.{Certifies, HasNone}
use Rattle.dp_load.specs.declared.error.PipeError.{PipeError}
use Rattle.dp_load.specs.declared.error.PipeError.TheVariants.{Memory}
use Rattle.dp_load.specs.Files.{FileMap}
use Rattle.dp_load.specs.Nodes.{Node, IsCertOf, IsMissing, IsBadCert, IsProgramOf, HasNoProgram}
use Rattle.dp_console.specs.declared.reply.Reply.{Reply}
use Rattle.dp_sources.specs.declared.subject.Subject.{Subject}
use Rattle.dp_sources.specs.Subjects.{entry_at, env_of, node_of}
use Rattle.dp_verdict.specs.declared.report.Finding.{Finding}
use Rattle.dp_verdict.specs.declared.report.RefusedAt.{RefusedAt}
use Rattle.dp_verdict.specs.declared.report.Verdict.{Verdict}
use Rattle.dp_verdict.specs.declared.report.Report.{Report}
use Rattle.dp_verdict.specs.Reports.{findings_of, status_of}

-- the certificate in the given file; or one with which the program is accepted, or it has none, if it is forward
abbrev pub IsCertFor : Option FileMap → Environment → Entry → Option (List ℕ) → List Instr → Certificate → Type 0
IsCertFor contents env entry None program cert =
    (Certifies program env entry cert.rows ⊎ HasNone program env entry) × (cert.version ≡ version_for cert.rows)
IsCertFor contents env entry (Some name) program cert = IsCertOf contents name (length program) cert

-- the verdict on a node's program, from its files
pub record IsJudged (contents : Option FileMap) (env : Environment) (node : Node) (diagnosis : Option Diagnosis) : Type 0 where
  pub program : List Instr
  pub cert : Certificate
  pub reads : IsProgramOf contents node.program program
  pub certified : IsCertFor contents env node.entry node.cert program cert
  pub verdict : MatchOption diagnosis (IsAccepted (question program cert env node.entry)) (IsDiagnosis (question program cert env node.entry))

-- why there is no certificate to judge a program by
abbrev pub HasNoRows : Option FileMap → Entry → Option (List ℕ) → List Instr → PipeError → Type 0
HasNoRows contents entry None program e = ⊥
HasNoRows contents entry (Some name) program e = IsMissing contents entry name e ⊎ IsBadCert contents entry name (length program) e

-- why a node is not judged: first what is wrong with its program, then with its certificate; but memory can run out at any time
abbrev pub IsUnjudged : Option FileMap → Node → PipeError → Type 0
IsUnjudged contents node e =
    (e ≡ Memory) ⊎ HasNoProgram contents node.entry node.program e
    ⊎ ((program : List Instr) × IsProgramOf contents node.program program × HasNoRows contents node.entry node.cert program e)

-- how a diagnosis is reported
abbrev pub refused_for : Option (List ℕ) → Diagnosis → RefusedAt
refused_for cert d = record { given = is_some cert; label = d.label; rule = number_of (rule_of d.reason) }

-- the verdict that is reported of a node
pub record IsFinding (contents : Option FileMap) (env : Environment) (node : Node) (verdict : Verdict) : Type 0 where
  pub diagnosis : Option Diagnosis
  pub judged : IsJudged contents env node diagnosis
  pub entry : verdict.node ≡ node.entry
  pub refused : verdict.refused ≡ option_map (refused_for node.cert) diagnosis

-- one more finding, if the pipeline has the node
pub record IsMore (contents : Option FileMap) (env : Environment) (old new : List Finding) (node : Node) : Type 0 where
  pub finding : Finding
  pub found : IsFinding contents env node finding.verdict
  pub grown : new ≡ old ++ finding ∷ []

abbrev pub IsNext : Option FileMap → Subject → Entry → List Finding → List Finding → Type 0
IsNext contents subject entry old new = MatchOption (node_of subject entry) (new ≡ old) (IsMore contents (env_of subject) old new)

-- the findings on the nodes with an index below n, in order
abbrev pub AreFindings : Option FileMap → Subject → ℕ → List Finding → Type 0
AreFindings contents subject zero findings = findings ≡ []
AreFindings contents subject (suc n) findings =
    (before : List Finding) × AreFindings contents subject n before × IsNext contents subject (entry_at n) before findings

-- on all nodes, or on one
abbrev pub Explains : Option FileMap → Subject → Option Entry → List Finding → Type 0
Explains contents subject None findings = AreFindings contents subject 16 findings
Explains contents subject (Some entry) findings = IsNext contents subject entry [] findings

-- the verdicts are said, and the status is theirs; or 2 if there is no such node
pub record SaysFindings (contents : Option FileMap) (subject : Subject) (which : Option Entry) (reply : Reply) : Type 0 where
  pub report : Report
  pub found : report.fault ≡ None → Explains contents subject which (findings_of report)
  pub status : reply.status ≡ status_of report

abbrev pub SaysExplained : Option FileMap → Subject → Option Entry → Reply → Type 0
SaysExplained contents subject None reply = SaysFindings contents subject None reply
SaysExplained contents subject (Some entry) reply =
    MatchOption (node_of subject entry) (reply.status ≡ 2) (λ node. SaysFindings contents subject (Some entry) reply)
