-- What a traced run reads of its captures, and its answer.
use Rattle.std.specs.Prelude.{◌≡◌, ◌+◌, ◌<◌, ◌⊎◌, ◌↔◌, ℕ, min, List, Option, None, Result, Err, IfErr, ⊤}
use Rattle.dp_engine.specs.Needs.{bytes_needed}
use Rattle.dp_engine.specs.Watching.{Event}
use Rattle.dp_pipe.specs.declared.forwarding.RunCause.{RunCause}
use Rattle.dp_pipe.specs.declared.forwarding.RunCause.TheVariants.{Memory, NoRoom}
use Rattle.dp_pipe.specs.Devices.{Device}
use Rattle.dp_load.specs.Pipelines.{Plan}
use Rattle.dp_pipe.specs.Tracing.{Note, Came, Ended, TracesFirst}

-- the number of a record that is printed: the next one when a record comes, as far as 32 bits have it
abbrev pub numbers_note : ℕ → Note → ℕ → Type 0
numbers_note n (Came port time len) n' = n' ≡ min (n + 1) 4294967295
numbers_note n (Ended turn world) n' = n' ≡ n

-- no step of a record's turn changes that number
abbrev pub numbers_event : ℕ → Event → ℕ → Type 0
numbers_event n event n' = n' ≡ n

-- A traced run of a pipeline with these calls refused, of the records of one port or of all: what each reader had and has left, and its result. What is
-- shown is known by the number of records.
pub record IsTraced (p : Plan) (pattern : List ℕ) (only : Option ℕ) (most : ℕ) (had left : List Device) (answer : Result ⊤ RunCause) : Type 0 where
  pub no_room : answer ≡ Err NoRoom ↔ p.region < bytes_needed p.env
  pub traced : (answer ≡ Err Memory) ⊎ (answer ≡ Err NoRoom)
      ⊎ ((records : ℕ) × TracesFirst numbers_event numbers_note 0 records p pattern only most had left answer)
  pub untouched : IfErr answer (λ cause. (cause ≡ Memory) ⊎ (cause ≡ NoRoom) → left ≡ had)
