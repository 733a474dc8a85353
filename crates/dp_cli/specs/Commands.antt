-- What a command did, by its words: it was done, or it stopped where its first fault is, and not with status 0.
use Rattle.std.specs.Prelude.{◌≡◌, ◌⊎◌, ℕ, Bool, true, false, List, [], Option, Some, None, Result, Ok, Err, IfOk, IfErr, codes, length}
use Rattle.std.specs.Prelude.{MatchOption, MatchResult}
use Rattle.clap.specs.declared.{error.ErrorKind.ErrorKind, parser.matches.ArgMatches.ArgMatches, parser.matches.Found.Found}
use Rattle.clap.specs.declared.error.ErrorKind.TheVariants.{DisplayHelp, DisplayVersion, OutOfMemory}
use Rattle.clap.specs.Words.{App, HasMatchesOf, Row, Text, rows_of, subcommand_rows_of, takes}
use Rattle.dp_captures.specs.{Words.missing, declared.words.Replaced.Replaced}
use Rattle.dp_cert.specs.Spelling.{Certificate}
use Rattle.dp_check.specs.Faults.{IsWith}
use Rattle.dp_console.specs.{Replies.EndsWith, declared.reply.Reply.Reply}
use Rattle.dp_model.specs.{Environments.Environment, declared.env.Entry.Entry, declared.env.Entry.TheVariants.Port}
use Rattle.dp_load.specs.declared.{error.PipeError.PipeError, single.SingleFiles.SingleFiles}
use Rattle.dp_load.specs.declared.nodes.How.TheVariants as how
use Rattle.dp_load.specs.{Files.FileMap, Loads.IsLoadedFrom, Loads.IsUnloaded, Pipelines.Plan, Singles.IsSinglePlan}
use Rattle.dp_sources.specs.{Subjects.one_port, declared.subject.TheConstants.ONE_REGION}
use Rattle.dp_verdict.specs.{Checks.SaysChecked, Inferring.SaysCert, Inferring.SaysInferred, Inferring.node_at}
use Rattle.dp_request.specs.Operands.{calls_in, operand, word_of}
use Rattle.dp_request.specs.Reading.{IsLoaded, IsNotLoaded, IsNotReady, NamesNone}
use Rattle.dp_cli.specs.Runs.{AreGiven, AreNamed, EndsOver, IsFilterPort, NeverRuns, ReadsAndWrites, RunsOver, takes_stdout}
use Rattle.dp_cli.specs.Stops.{HasBoth, HasNoProgram, HasWrongNumber, Stopped, StoppedAside, StopsAtWords}

-- ---- `dpv run`

-- the words of `dpv run` are right: these calls are refused, and these captures are given
abbrev pub AreRight : Found → List ℕ → List Replaced → List Replaced → Type 0
AreRight found pattern inputs outputs = (Some pattern ≡ calls_in found) × AreGiven found inputs outputs

-- A pipeline with all the ports that captures are given to is run over them, and else over those that it names. What is said before of programs that
-- are interpreted is on standard error. A pipeline that lacks a port of them is not run: the first is of the inputs, and then of the outputs.
abbrev pub EndsLoaded : {F : Type 0} → (F → Option (List ℕ)) → Found → Plan → List ℕ → List Replaced → List Replaced → Result Reply Reply → Type 0
EndsLoaded remaining found p pattern inputs outputs reply =
    ((port : ℕ) × (missing (length p.env.ports) inputs outputs ≡ Some port) × Stopped (λ r. r.status ≡ 2) reply)
    ⊎ ((missing (length p.env.ports) inputs outputs ≡ None) × MatchResult reply (λ r. (noted : Reply)
    × RunsOver remaining found p pattern inputs outputs noted × (r.status ≡ noted.status) × (r.out ≡ noted.out)) (NeverRuns remaining p inputs outputs))

-- `dpv run`: with right words a pipeline is loaded, and run with the calls refused and over the captures that the words give
abbrev pub EndsRun : {F : Type 0} → (F → Option (List ℕ)) → Found → Result Reply Reply → Type 0
EndsRun remaining found reply = Stopped (StopsAtWords found) reply
    ⊎ ((pattern : List ℕ) × (inputs : List Replaced) × (outputs : List Replaced) × AreRight found pattern inputs outputs
    × (StoppedAside (takes_stdout outputs) (IsNotLoaded found how.Given) reply
    ⊎ ((p : Plan) × IsLoaded how.Given p × EndsLoaded remaining found p pattern inputs outputs reply)))

-- ---- `dpv one` and `dpv filter`

-- a program and its captures: a pipeline of one port in this environment is loaded, and run over the two captures that the words name
abbrev pub EndsSingle : {F : Type 0} → (F → Option (List ℕ)) → Found → Environment → ℕ → SingleFiles → Result Reply Reply → Type 0
EndsSingle remaining found env region files reply = Stopped (λ r. r.status ≡ 4) reply
    ⊎ ((inputs : List Replaced) × (outputs : List Replaced) × ReadsAndWrites files inputs outputs
    × (StoppedAside (takes_stdout outputs) (HasNoProgram env files) reply
    ⊎ ((texts : FileMap) × (p : Plan) × IsSinglePlan (Some texts) env region files p × EndsOver remaining found p [] inputs outputs reply)))

-- `dpv one`: the program is run with its certificate, on the port of that command
abbrev pub EndsOne : {F : Type 0} → (F → Option (List ℕ)) → Found → Result Reply Reply → Type 0
EndsOne remaining found reply = (files : SingleFiles) × AreNamed found (codes "NODE") (Some (operand found (codes "CERT"))) files
    × EndsSingle remaining found one_port ONE_REGION files reply

-- `dpv filter`: the program is run with a certificate that is inferred, on the port that the words give
abbrev pub EndsFilter : {F : Type 0} → (F → Option (List ℕ)) → Found → Result Reply Reply → Type 0
EndsFilter remaining found reply = Stopped (λ r. (r.status ≡ 2) × HasWrongNumber found) reply
    ⊎ ((files : SingleFiles) × (env : Environment) × (region : ℕ) × AreNamed found (codes "PROGRAM") None files × IsFilterPort found env
    × EndsSingle remaining found env region files reply)

-- ---- `dpv check`, `dpv infer` and `dpv infer-one`

-- the verdict on a pipeline's text and the files that it names
pub record HasVerdict (reply : Reply) : Type 0 where
  pub text : List ℕ
  pub files : FileMap
  pub answer : Result Plan PipeError
  pub loaded : IfOk answer (IsLoadedFrom (Some files) how.Given text)
  pub unloaded : IfErr answer (IsUnloaded (Some files) how.Given text)
  pub is_json : Bool
  pub said : Reply
  pub says : SaysChecked answer is_json said
  pub status_is : reply.status ≡ said.status
  pub accepted : reply.status ≡ 0 → IfErr answer (λ e. ⊥)

-- `dpv check`: the verdict; or it stopped at its words, or they are right, and at the files
abbrev pub EndsCheck : Found → Result Reply Reply → Type 0
EndsCheck found reply = MatchResult reply HasVerdict
    (λ r. ((r.status ≡ 2) × HasBoth found true) ⊎ (HasBoth found false × (IsNotReady found r ⊎ (r.status ≡ 4))))

-- `dpv infer`: the certificate of the node that the words name, inferred with those of all others; 2 if there is no such node
abbrev pub EndsInfer : Found → Result Reply Reply → Type 0
EndsInfer found reply = Stopped (λ r. (r.status ≡ 2) × NamesNone (operand found (codes "WHICH"))) reply
    ⊎ ((node : Entry) × (operand found (codes "WHICH") ≡ word_of node) × MatchResult reply (λ r. (p : Plan) × IsLoaded how.Inferred p
    × MatchOption (node_at p node) (r.status ≡ 2) (λ q. (cert : Certificate) → IsWith q cert → SaysCert cert r)) (IsNotLoaded found how.Inferred))

-- `dpv infer-one`: the certificate of a program by itself, or why there is none; 4 if memory was refused
abbrev pub EndsInferOne : Found → Result Reply Reply → Type 0
EndsInferOne found reply = MatchResult reply (λ r. (texts : FileMap)
    × SaysInferred (Some texts) one_port (record { entry = Port 0; program = operand found (codes "NODE"); cert = None }) r) (λ r. r.status ≡ 4)

-- ---- all commands

-- what the command with this name replied, for those whose answer is promised
pub record Answers {F : Type 0} (remaining : F → Option (List ℕ)) (name : List ℕ) (found : Found) (reply : Result Reply Reply) : Type 0 where
  pub run : name ≡ codes "run" → EndsRun remaining found reply
  pub one : name ≡ codes "one" → EndsOne remaining found reply
  pub filter : name ≡ codes "filter" → EndsFilter remaining found reply
  pub check : name ≡ codes "check" → EndsCheck found reply
  pub infer : name ≡ codes "infer" → EndsInfer found reply
  pub infer_one : name ≡ codes "infer-one" → EndsInferOne found reply

-- the reply, whether the command was done or not
abbrev pub reply_of : Result Reply Reply → Reply
reply_of (Ok reply) = reply
reply_of (Err reply) = reply

-- the command was answered, its reply was printed, and the program ends with the status of the reply if that was written whole
pub record EndsCommand {F : Type 0} (remaining : F → Option (List ℕ)) (name : List ℕ) (found : Found) (failed failed' : Bool)
    (out out' err err' : Option (List ℕ)) (status : ℕ) : Type 0 where
  pub reply : Result Reply Reply
  pub answers : Answers remaining name found reply
  pub ends : EndsWith (reply_of reply) failed failed' out out' err err' status

-- The command of this name, with words in which these rows were found, ended so; of a trace that is tested. Without a command the status is 2.
abbrev pub EndsEntered : {F : Type 0} → (F → Option (List ℕ)) → Option (Text × List Row) → Bool → Bool → Option (List ℕ) → Option (List ℕ)
    → Option (List ℕ) → Option (List ℕ) → ℕ → Type 0
EndsEntered remaining None failed failed' out out' err err' status = status ≡ 2
EndsEntered remaining (Some entered) failed failed' out out' err err' status =
    (found : Found) × (entered.1 ≡ rows_of found) × ((entered.0 ≡ codes "trace" → ⊥) → (entered.0 ≡ codes "trace-one" → ⊥)
    → EndsCommand remaining entered.0 found failed failed' out out' err err' status)

-- words in which these matches were found by the commands of the program, and it ended with the command that they name
pub record EndsParsed {F : Type 0} (remaining : F → Option (List ℕ)) (app : App) (words : List Text) (failed failed' : Bool)
    (out out' err err' : Option (List ℕ)) (status : ℕ) : Type 0 where
  pub matches : ArgMatches
  pub parsed : HasMatchesOf app words matches
  pub ends : EndsEntered remaining (subcommand_rows_of matches) failed failed' out out' err err' status

-- How the program ends at words that are no command's: with 0 for help or the version that was asked for, and else with 2; with 4 for lack of memory.
abbrev pub EndsHelped : ErrorKind → ℕ → Type 0
EndsHelped DisplayHelp status = status ≡ 0
EndsHelped DisplayVersion status = status ≡ 0
EndsHelped OutOfMemory status = status ≡ 4
EndsHelped kind status = status ≡ 2

-- these words are not run: they are no command's, or memory was refused; 3 if that could not be said
pub record EndsWrong (app : App) (words : List Text) (status : ℕ) : Type 0 where
  pub kind : ErrorKind
  pub refused : takes app words ≡ true → kind ≡ OutOfMemory
  pub ends : EndsHelped kind status ⊎ (status ≡ 3)

-- how the program ends with these words of the command line
abbrev pub EndsGiven : {F : Type 0} → (F → Option (List ℕ)) → App → List Text → Bool → Bool → Option (List ℕ) → Option (List ℕ) → Option (List ℕ)
    → Option (List ℕ) → ℕ → Type 0
EndsGiven remaining app words failed failed' out out' err err' status =
    EndsParsed remaining app words failed failed' out out' err err' status ⊎ EndsWrong app words status
