-- Certificates that are inferred, and what `dpv infer` and `dpv infer-one` say.
use Rattle.std.specs.Prelude.{◌≡◌, ◌+◌, nat_lt, if◌then◌else◌, ◌⊎◌, List, length, slice_get, Option, None, false}
use Rattle.dp_model.specs.declared.env.Entry.{Entry}
use Rattle.dp_model.specs.declared.env.Entry.TheVariants.{Port, Ring}
use Rattle.dp_model.specs.declared.instr.Instr.{Instr}
use Rattle.dp_model.specs.Environments.{Environment}
use Rattle.dp_model.specs.Rules.{Question}
use Rattle.dp_cert.specs.Spelling.{Certificate, spelling, version_for}
use Rattle.dp_infer.specs.Inference.{Certifies, SaysMost}
use Rattle.dp_load.specs.declared.error.PipeError.{PipeError}
use Rattle.dp_load.specs.Files.{FileMap}
use Rattle.dp_load.specs.Nodes.{Node, IsProgramOf, Fails}
use Rattle.dp_load.specs.Pipelines.{Plan}
use Rattle.dp_console.specs.declared.reply.Reply.{Reply}
use Rattle.dp_verdict.specs.Checks.{SaysRefused}

-- the node of a pipeline with an entry
abbrev pub node_at : Plan → Entry → Option Question
node_at p (Port port) = if nat_lt port (length p.env.ports) then slice_get p.nodes port else None
node_at p (Ring ring) = if nat_lt ring (length p.env.rings) then slice_get p.nodes (length p.env.ports + ring) else None

-- a node without its certificate
abbrev pub by_itself : Node → Node
by_itself node = record { entry = node.entry; program = node.program; cert = None }

-- the certificate of a node's program: the program is accepted with it, no other says more if the program is forward, and it has the version of its
-- rows
pub record IsInferred (contents : Option FileMap) (env : Environment) (node : Node) (cert : Certificate) : Type 0 where
  pub program : List Instr
  pub read : IsProgramOf contents node.program program
  pub accepted : Certifies program env node.entry cert.rows
  pub most : SaysMost program env node.entry cert.rows
  pub version : cert.version ≡ version_for cert.rows

-- the text of a certificate is said, and nothing else; or memory ran out for it
abbrev pub SaysCert : Certificate → Reply → Type 0
SaysCert cert reply = ((reply.status ≡ 0) × (reply.out.bytes.items ≡ spelling cert)) ⊎ (reply.status ≡ 4)

-- there is such a certificate, and it is said
pub record HasInferred (contents : Option FileMap) (env : Environment) (node : Node) (reply : Reply) : Type 0 where
  pub cert : Certificate
  pub inferred : IsInferred contents env node cert
  pub says : SaysCert cert reply

-- why there is none is said
pub record HasNotInferred (contents : Option FileMap) (env : Environment) (node : Node) (reply : Reply) : Type 0 where
  pub error : PipeError
  pub fails : Fails contents env node error
  pub says : SaysRefused error false reply

abbrev pub SaysInferred : Option FileMap → Environment → Node → Reply → Type 0
SaysInferred contents env node reply = HasInferred contents env node reply ⊎ HasNotInferred contents env node reply
