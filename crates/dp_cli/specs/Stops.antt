-- Where a command stopped that was not done, with what was found right before. Faults are found in this order: the words; the files and the faults of
-- loading (dp_request); a node that the pipeline does not have; the captures; the run.
use Rattle.std.specs.Prelude.{◌≡◌, ◌⊎◌, [], Bool, true, false, ◌&&◌, Some, None, Result, MatchResult, codes}
use Rattle.clap.specs.declared.parser.matches.Found.{Found}
use Rattle.dp_captures.specs.Words.{rows_of}
use Rattle.dp_console.specs.declared.reply.Reply.{Reply}
use Rattle.dp_model.specs.{Environments.Environment, Environments.fault_of, declared.env.EnvError.EnvError}
use Rattle.dp_load.specs.declared.{error.PipeError.PipeError, single.SingleFiles.SingleFiles}
use Rattle.dp_load.specs.{Files.FileMap, Nodes.Fails, Singles.single_node}
use Rattle.dp_request.specs.{Operands.IsFlag, Operands.calls_in, Operands.words_of, Reading.SaysCause}
use Rattle.dp_runs.specs.Replies.{IsBoth}
use Rattle.dp_cli.specs.Runs.{IsFilterPort, room_in, segs_in}

-- a command was not done, for this reason
abbrev pub Stopped : (Reply → Type 0) → Result Reply Reply → Type 0
Stopped Why reply = MatchResult reply (λ r. ⊥) Why

-- ---- words

-- words of `dpv run` are wrong: the list of calls, or the captures that are given
abbrev pub HasWrongWord : Found → Type 0
HasWrongWord found = (calls_in found ≡ None) ⊎ ((rows_of (words_of found (codes "in")) (words_of found (codes "no-in")) ≡ None)
    ⊎ (rows_of (words_of found (codes "out")) (words_of found (codes "no-out")) ≡ None))

-- it stopped at its words: they are wrong (2), or memory was refused for them (4)
abbrev pub StopsAtWords : Found → Reply → Type 0
StopsAtWords found reply = ((reply.status ≡ 2) × HasWrongWord found) ⊎ (reply.status ≡ 4)

-- words of `dpv filter` are wrong: the room of a buffer, the number of segments of a packet, or both together, which no pipeline has
abbrev pub HasWrongNumber : Found → Type 0
HasWrongNumber found = (room_in found ≡ None) ⊎ ((segs_in found ≡ None)
    ⊎ ((env : Environment) × IsFilterPort found env × (error : EnvError) × (fault_of env ≡ Some error)))

-- whether `--json` and `--sizes` are both set, which `dpv check` refuses
abbrev pub HasBoth : Found → Bool → Type 0
HasBoth found both = (json : Bool) × (sizes : Bool) × IsFlag found (codes "json") json × IsFlag found (codes "sizes") sizes × ((json && sizes) ≡ both)

-- What is said: if a capture goes to standard output, nothing else does, and standard error has all of it.
pub record IsAside (is_taken : Bool) (said reply : Reply) : Type 0 where
  pub status_is : reply.status ≡ said.status
  pub same : is_taken ≡ false → reply ≡ said
  pub none : is_taken ≡ true → reply.out.bytes.items ≡ []
  pub all : is_taken ≡ true → IsBoth said.out said.err reply.err

-- a command was not done, for this reason, which is said beside a capture that goes to standard output
abbrev pub StoppedAside : Bool → (Reply → Type 0) → Result Reply Reply → Type 0
StoppedAside is_taken Why reply = Stopped (λ r. (said : Reply) × Why said × IsAside is_taken said r) reply

-- a program is not loaded
abbrev pub HasNoProgram : Environment → SingleFiles → Reply → Type 0
HasNoProgram env files reply = (texts : FileMap) × (error : PipeError) × Fails (Some texts) env (single_node files) error × SaysCause error reply
