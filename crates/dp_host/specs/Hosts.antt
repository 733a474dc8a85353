-- The effects and the results of the calls of a C host.
use Rattle.std.specs.Prelude.{◌≡◌, ℕ, ◌+◌, ◌-◌, ◌<◌, ◌≤◌, ◌⊎◌, ◌||◌, nat_le, nat_lt, if◌then◌else◌, min, Bool, List, [], ◌∷◌, ◌++◌, length, take}
use Rattle.std.specs.Prelude.{replicate, Option, Some, None, slice_get, codes}
use Rattle.dp_pcap.specs.declared.format.TheConstants.{MAX_RECORD}
use Rattle.dp_lpm.specs.declared.error.LpmError.{LpmError}
use Rattle.dp_lpm.specs.declared.error.LpmError.TheVariants as lpm
use Rattle.dp_lpm.specs.Changes.{HasTable}
use Rattle.dp_lpm.specs.Faults.{add_fault, delete_fault}
use Rattle.dp_lpm.specs.Routes.{RouteTable}
use Rattle.dp_model.specs.declared.env.PoolSpec.{PoolSpec}
use Rattle.dp_model.specs.Packets.{available}
use Rattle.dp_model.specs.Prefixes.{hop_for}
use Rattle.dp_model.specs.Machine.{live}
use Rattle.dp_model.specs.Runs.{between}
use Rattle.dp_engine.specs.declared.batch.BatchSize.{BatchSize}
use Rattle.dp_engine.specs.declared.batch.SentRecord.{SentRecord}
use Rattle.dp_engine.specs.declared.engine.Turn.{Turn}
use Rattle.dp_engine.specs.declared.engine.Outcome.{Outcome}
use Rattle.dp_engine.specs.declared.engine.Outcome.TheVariants.{Got, NoBuffer, Oversize}
use Rattle.dp_engine.specs.declared.report.Tallies.{Tallies}
use Rattle.dp_engine.specs.Batches.{Holds, KeepsRest, Passes, max_batch}
use Rattle.dp_engine.specs.Engines.{EngineState, max_turns}
use Rattle.dp_engine.specs.Outcomes.{outcome_of}
use Rattle.dp_engine.specs.Rerouting.{with_tables}
use Rattle.dp_engine.specs.Shapes.{AreWaiting}
use Rattle.dp_load.specs.declared.error.PipeError.{PipeError}
use Rattle.dp_pipe.specs.declared.forwarding.RunCause.TheVariants as run_cause
use Rattle.dp_load.specs.declared.nodes.How.TheVariants.{Given}
use Rattle.dp_load.specs.declared.listed.NamedBytes.{NamedBytes}
use Rattle.dp_load.specs.Causes.{number_of, text_of}
use Rattle.dp_load.specs.Listed.{listed}
use Rattle.dp_load.specs.Loads.{IsLoadedFrom, IsUnloaded}
use Rattle.dp_load.specs.Pipelines.{Plan}
use Rattle.dp_pipe.specs.Running.{IsUnopened}
use Rattle.dp_host.specs.declared.host.OpenError.{OpenError}
use Rattle.dp_host.specs.declared.host.OpenError.TheVariants.{Unread, Load, Open}
use Rattle.dp_host.specs.declared.numbers.TheConstants.{MAX_EXPLANATION}
use Rattle.dp_host.specs.declared.numbers.Explanation.{Explanation}
use Rattle.dp_host.specs.declared.numbers.Room.{Room}
use Rattle.dp_host.specs.declared.numbers.PortStats.{PortStats}
use Rattle.dp_host.specs.declared.numbers.PoolStats.{PoolStats}
use Rattle.dp_host.specs.declared.numbers.RingStats.{RingStats}
use Rattle.dp_host.specs.declared.numbers.Route.{Route}
use Rattle.dp_host.specs.declared.numbers.Hop.{Hop}
use Rattle.dp_host.specs.declared.numbers.Totals.{Totals}
use Rattle.dp_host.specs.declared.packed.Unread.TheVariants as unread
use Rattle.dp_host.specs.declared.refusal.Refusal.{Refusal}
use Rattle.dp_host.specs.declared.refusal.Refusal.TheVariants as refusal
use Rattle.dp_host.specs.Calls.{Change, Added, Deleted, Event, Passed, Changed, Changes, HasServedCalls, Promised, frames_by_port}
use Rattle.dp_host.specs.Packing.{ArePacked, NotPacked}

-- ---- the numbers of answers

abbrev pub refusal_number : Refusal → ℕ
refusal_number refusal.NotOpen = 16
refusal_number refusal.Closed = 17
refusal_number refusal.NoPort = 18
refusal_number refusal.NoPool = 19
refusal_number refusal.NoRing = 20
refusal_number refusal.TooLong = 21
refusal_number refusal.NoTurns = 22
refusal_number refusal.BatchTooSmall = 23
refusal_number refusal.NoTable = 24
refusal_number refusal.BadDepth = 25
refusal_number refusal.BadHop = 26
refusal_number refusal.RulesFull = 27
refusal_number refusal.GroupsFull = 28
refusal_number refusal.NoRule = 29
refusal_number refusal.NoRoute = 30
refusal_number refusal.NoProgram = 31
refusal_number refusal.NoMemory = 32

abbrev pub outcome_number : Outcome → ℕ
outcome_number Got = 0
outcome_number NoBuffer = 1
outcome_number Oversize = 2

-- ---- opening

-- the pipeline of a text and packed files is loaded, and this is so of it
pub record HasPlan (text packed : List ℕ) (P : Plan → Type 0) : Type 0 where
  pub files : List NamedBytes
  pub are_packed : ArePacked packed files
  pub plan : Plan
  pub loaded : IsLoadedFrom (Some (listed files)) Given text plan
  pub holds : P plan

-- the engine of a pipeline's text and packed files, before its first call
abbrev pub IsOpenedFor : List ℕ → List ℕ → EngineState → Type 0
IsOpenedFor text packed e = HasPlan text packed (λ plan. HasServedCalls plan [] e)

-- why no engine is open: the files are not packed, the pipeline is not loaded, or its region is too small; but memory can be refused before each
abbrev pub IsOpenErrorFor : List ℕ → List ℕ → OpenError → Type 0
IsOpenErrorFor text packed (Unread unread.Form) = NotPacked packed
IsOpenErrorFor text packed (Unread unread.Memory) = Unit {0}
IsOpenErrorFor text packed (Load error) = (files : List NamedBytes) × ArePacked packed files × IsUnloaded (Some (listed files)) Given text error
IsOpenErrorFor text packed (Open cause) = HasPlan text packed (λ plan. IsUnopened plan cause)

-- the length of a text in an explanation: a zero has to fit after it
abbrev pub cut_length : List ℕ → ℕ
cut_length text = min (length text) (MAX_EXPLANATION - 1)

-- a text before zeros
abbrev pub padded : List ℕ → List ℕ
padded text = take (cut_length text) text ++ replicate (MAX_EXPLANATION - cut_length text) 0

-- an explanation with this cause and this text
abbrev pub explanation_with : ℕ → List ℕ → Explanation
explanation_with cause text = record { cause = cause; length = cut_length text; text = padded text }

-- that of an engine that was opened
abbrev pub no_explanation : Explanation
no_explanation = explanation_with 0 []

-- memory was refused
abbrev pub no_memory : Explanation
no_memory = explanation_with 1 (codes "memory")

-- the files are not read
abbrev pub not_packed : Explanation
not_packed = explanation_with 2 (codes "the files are not packed as they should be")

-- the region has too few bytes
abbrev pub too_small : Explanation
too_small = explanation_with 3 (codes "the region is too small")

-- the explanation of a pipeline that is not loaded: memory, if that was the cause; else the cause with its text, or with `memory` if there was none for it
abbrev pub IsExplanationIn : PipeError → Explanation → Type 0
IsExplanationIn error r =
    ((number_of error ≡ 0) × (r ≡ no_memory))
    ⊎ ((0 < number_of error)
    × ((r ≡ explanation_with (10 + number_of error) (text_of error)) ⊎ (r ≡ explanation_with (10 + number_of error) (codes "memory"))))

-- the explanation of an error
abbrev pub IsExplanationFor : OpenError → Explanation → Type 0
IsExplanationFor (Unread unread.Form) r = r ≡ not_packed
IsExplanationFor (Unread unread.Memory) r = r ≡ no_memory
IsExplanationFor (Load error) r = IsExplanationIn error r
IsExplanationFor (Open run_cause.NoRoom) r = r ≡ too_small
IsExplanationFor (Open cause) r = r ≡ no_memory

-- an engine is open, and there is nothing to explain; or none is open, and this is the explanation
abbrev pub Opens : List ℕ → List ℕ → Option EngineState → Refusal → Explanation → Type 0
Opens text packed (Some e) missing explanation = IsOpenedFor text packed e × (missing ≡ refusal.Closed) × (explanation ≡ no_explanation)
Opens text packed None missing explanation =
    (missing ≡ refusal.NotOpen) × ((error : OpenError) × IsOpenErrorFor text packed error × IsExplanationFor error explanation)

-- ---- a pass

-- why an engine refuses a pass with this many bytes, into a batch with room for this many records and bytes, in order of the tests
abbrev pub pass_fault : EngineState → ℕ → ℕ → ℕ → ℕ → Option Refusal
pass_fault e port size records bytes =
    if nat_le (length e.setting.env.ports) port then Some refusal.NoPort
    else if nat_lt MAX_RECORD size then Some refusal.TooLong
    else if nat_le max_turns e.turns then Some refusal.NoTurns
    else if nat_lt records (max_batch e.setting.env).records || nat_lt bytes (max_batch e.setting.env).bytes then Some refusal.BatchTooSmall
    else None

abbrev pub batch_size_of : Room → BatchSize
batch_size_of filled = record { records = filled.records; bytes = filled.bytes }

abbrev pub empty_room : Room
empty_room = record { records = 0; bytes = 0 }

-- the arrays of a batch
pub record Arrays : Type 0 where
  pub records : List SentRecord
  pub bytes : List ℕ

-- A pass of an engine that returned a number below 16, the outcome of its turn. The batch has what was sent, port by port, and nothing else of its
-- arrays changes. Whatever calls the engine had served before, it has now served this one too.
pub record PassTaken (old new : EngineState) (port time : ℕ) (frame : List ℕ) (had has : Arrays) (filled : Room) (n : ℕ) : Type 0 where
  pub taken : pass_fault old port (length frame) (length had.records) (length had.bytes) ≡ None
  pub turn : Turn
  pub number : n ≡ outcome_number turn.outcome
  pub passes : Passes old new port frame turn time has.records has.bytes (batch_size_of filled)
  pub answers : List Bool
  pub sent : List (List (List ℕ))
  pub batch : Holds time (frames_by_port 0 sent) has.records has.bytes (batch_size_of filled)
  pub rest : KeepsRest (batch_size_of filled) had.records has.records had.bytes has.bytes
  pub serves : (p : Plan) (events : List Event) → HasServedCalls p events old →
      HasServedCalls p (Passed (record {
        port = port;
        time = time;
        bytes = frame;
        outcome = outcome_of turn.outcome;
        answers = answers;
        sent = sent;
      }) ∷ events) new

-- what a pass returns: a turn's outcome; or why it was refused, and then only the batch changes: it is empty
abbrev pub PassAnswers : Option EngineState → Refusal → Option EngineState → ℕ → ℕ → List ℕ → Arrays → Arrays → Room → ℕ → Type 0
PassAnswers (Some engine) missing (Some engine') port time frame old new filled n =
    PassTaken engine engine' port time frame old new filled n
    ⊎ ((why : Refusal) × (n ≡ refusal_number why) × (pass_fault engine port (length frame) (length old.records) (length old.bytes) ≡ Some why)
    × (engine' ≡ engine) × (new ≡ old) × (filled ≡ empty_room))
PassAnswers None missing None port time frame old new filled n = (n ≡ refusal_number missing) × (new ≡ old) × (filled ≡ empty_room)
PassAnswers None missing (Some engine') port time frame old new filled n = ⊥
PassAnswers (Some engine) missing None port time frame old new filled n = ⊥

-- ---- changes of routes

-- why tables refuse a change: there is no such table, or it refuses the change for this reason
abbrev pub RefusesChange : (RouteTable → Option LpmError) → ℕ → List RouteTable → Refusal → Type 0
RefusesChange fault table tables refusal.NoTable = length tables ≤ table
RefusesChange fault table tables refusal.BadDepth = HasTable table tables (λ t. fault t ≡ Some lpm.BadDepth)
RefusesChange fault table tables refusal.BadHop = HasTable table tables (λ t. fault t ≡ Some lpm.BadHop)
RefusesChange fault table tables refusal.RulesFull = HasTable table tables (λ t. fault t ≡ Some lpm.RulesFull)
RefusesChange fault table tables refusal.GroupsFull = HasTable table tables (λ t. fault t ≡ Some lpm.GroupsFull)
RefusesChange fault table tables refusal.NoRule = HasTable table tables (λ t. fault t ≡ Some lpm.NoRule)
RefusesChange fault table tables other = ⊥

-- A change of a route that returned 0. One route of one table changes, and nothing else of the engine. Whatever events the engine had served before, it
-- has now served this one too.
pub record ChangeMade (old new : EngineState) (change : Change) : Type 0 where
  pub changes : Changes change old.tables new.tables
  pub rest : new ≡ with_tables new.tables old
  pub serves : (p : Plan) (events : List Event) → HasServedCalls p events old → HasServedCalls p (Changed change new.tables ∷ events) new

-- what a change returns: 0; or why it was refused, and then nothing changes
abbrev pub ChangeAnswers : Change → (RouteTable → Option LpmError) → ℕ → Option EngineState → Refusal → Option EngineState → ℕ → Type 0
ChangeAnswers change fault table (Some engine) missing (Some engine') n =
    ((n ≡ 0) × ChangeMade engine engine' change)
    ⊎ ((why : Refusal) × (n ≡ refusal_number why) × RefusesChange fault table engine.tables why × (engine' ≡ engine))
ChangeAnswers change fault table None missing None n = n ≡ refusal_number missing
ChangeAnswers change fault table None missing (Some engine') n = ⊥
ChangeAnswers change fault table (Some engine) missing None n = ⊥

-- what an addition of this route returns
abbrev pub AddAnswers : Route → Option EngineState → Refusal → Option EngineState → ℕ → Type 0
AddAnswers r = ChangeAnswers (Added r.table r.ip r.depth r.hop) (λ t. add_fault t r.ip r.depth r.hop) r.table

-- what a deletion of the route of this prefix and depth returns
abbrev pub DeleteAnswers : Route → Option EngineState → Refusal → Option EngineState → ℕ → Type 0
DeleteAnswers r = ChangeAnswers (Deleted r.table r.ip r.depth) (λ t. delete_fault t r.ip r.depth) r.table

-- ---- look-ups

-- why tables have no hop for an address: there is no such table, or it has no route for the address
abbrev pub RefusesLookup : ℕ → ℕ → List RouteTable → Refusal → Type 0
RefusesLookup table ip tables refusal.NoTable = length tables ≤ table
RefusesLookup table ip tables refusal.NoRoute = HasTable table tables (λ t. hop_for t.routes ip ≡ None)
RefusesLookup table ip tables other = ⊥

-- what a look-up returns: 0, and the hop that a program would find now; or why there is none, and then nothing changes
abbrev pub LookupAnswers : ℕ → ℕ → Option EngineState → Refusal → Hop → Hop → ℕ → Type 0
LookupAnswers table ip (Some e) missing old new n =
    ((n ≡ 0) × HasTable table e.tables (λ t. hop_for t.routes ip ≡ Some new.hop))
    ⊎ ((why : Refusal) × (n ≡ refusal_number why) × RefusesLookup table ip e.tables why × (new ≡ old))
LookupAnswers table ip None missing old new n = (n ≡ refusal_number missing) × (new ≡ old)

-- ---- numbers

-- an engine sets the counts and returns 0; or it returns why there is none, and nothing changes
abbrev pub SetsOrRefuses : {N : Type 0} → (EngineState → N → Type 0) → (EngineState → Type 0) → Refusal → Option EngineState → Refusal → N → N → ℕ → Type 0
SetsOrRefuses Is IsNot why (Some e) missing old new n = ((n ≡ 0) × Is e new) ⊎ ((n ≡ refusal_number why) × IsNot e × (new ≡ old))
SetsOrRefuses Is IsNot why None missing old new n = (n ≡ refusal_number missing) × (new ≡ old)

abbrev pub stats_of : Tallies → PortStats
stats_of t = record { received = t.received; no_buffer = t.nobuf; oversize = t.oversize; sent = t.sent }

-- the counts of a port
abbrev pub IsPortStats : ℕ → EngineState → PortStats → Type 0
IsPortStats port e stats = (t : Tallies) × (slice_get (take (length e.setting.env.ports) e.tallies) port ≡ Some t) × (stats ≡ stats_of t)

abbrev pub NoPort : ℕ → EngineState → Type 0
NoPort port e = length (take (length e.setting.env.ports) e.tallies) ≤ port

-- the counts of a pool
abbrev pub IsPoolStats : ℕ → EngineState → PoolStats → Type 0
IsPoolStats pool e stats =
    (spec : PoolSpec) × (slice_get e.setting.env.pools pool ≡ Some spec)
    × (stats ≡ record { free = available e.setting.env.pools (live (between e.world)) pool; count = spec.count })

abbrev pub NoPool : ℕ → EngineState → Type 0
NoPool pool e = length e.setting.env.pools ≤ pool

-- the count of a ring
abbrev pub IsRingStats : ℕ → EngineState → RingStats → Type 0
IsRingStats ring e stats = AreWaiting e.world.rings ring stats.waiting

abbrev pub NoRing : ℕ → EngineState → Type 0
NoRing ring e = length e.setting.env.rings ≤ ring

-- the size that a batch needs
abbrev pub IsRoom : EngineState → Room → Type 0
IsRoom e room = batch_size_of room ≡ max_batch e.setting.env

-- ---- the end

-- the counts of an engine at its end
pub record IsTotal (engine : EngineState) (t : Totals) : Type 0 where
  pub turns : t.turns ≡ engine.turns
  pub calls : t.calls ≡ engine.world.calls
  pub cut : t.cut ≡ engine.world.cuts
  pub pools : t.pools ≡ length engine.setting.env.pools

-- What a close does: the engine ends, and the promise holds of all calls that it served; or none was open, and nothing changes.
abbrev pub CloseAnswers : Option EngineState → Refusal → Option EngineState → Refusal → Totals → Totals → ℕ → Type 0
CloseAnswers (Some e) missing new missing' old t n =
    (n ≡ 0) × (new ≡ None) × (missing' ≡ refusal.Closed) × IsTotal e t × ((p : Plan) (events : List Event) → HasServedCalls p events e → Promised p events e)
CloseAnswers None missing new missing' old t n = (n ≡ refusal_number missing) × (new ≡ None) × (missing' ≡ missing) × (t ≡ old)
