-- What is printed on two writers.
use Rattle.std.specs.Prelude.{◌≡◌, ℕ, List, [], ◌∷◌, ◌++◌, false, Option, None, MatchOption}
use Rattle.std.specs.List.{flat_map}
use Rattle.dp_cert.specs.Spelling.{Certificate}
use Rattle.dp_check.specs.Faults.{IsWith}
use Rattle.dp_console.specs.{Replies.IsPrinted, declared.reply.Reply.Reply}
use Rattle.dp_load.specs.{Files.FileMap, Loads.IsUnloaded, Pipelines.Plan, declared.error.PipeError.PipeError, declared.nodes.How.How}
use Rattle.dp_model.specs.{Rules.Question, declared.env.Entry.Entry}
use Rattle.dp_verdict.specs.{Checks.SaysRefused, Inferring.SaysCert, Inferring.node_at, Verdicts.text_at}

-- the line that a node is accepted
abbrev pub accepted_at_line : Entry → List ℕ
accepted_at_line node = text_at node None ++ 10 ∷ []

abbrev pub accepted_line : Question → List ℕ
accepted_line q = accepted_at_line q.entry

-- those of all nodes
abbrev pub accepted_lines : Plan → List ℕ
accepted_lines p = flat_map accepted_line p.nodes

-- a pipeline was not loaded: why is printed, and this is the status
pub record IsLoadLine (contents : Option FileMap) (how : How) (text : List ℕ) (out out' err err' : Option (List ℕ)) (status : ℕ) : Type 0 where
  pub error : PipeError
  pub unloaded : IsUnloaded contents how text error
  pub reply : Reply
  pub says : SaysRefused error false reply
  pub printed : IsPrinted reply out out' err err' status

-- the certificate of a node of a pipeline is printed, or that there is no such node, and this is the status
pub record IsInferLine (p : Plan) (which : Entry) (out out' err err' : Option (List ℕ)) (status : ℕ) : Type 0 where
  pub reply : Reply
  pub says : MatchOption (node_at p which) (reply.status ≡ 2) (λ node. (cert : Certificate) → IsWith node cert → SaysCert cert reply)
  pub printed : IsPrinted reply out out' err err' status
