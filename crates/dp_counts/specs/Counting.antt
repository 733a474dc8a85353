-- Counts of node runs, as functions of the events.
use Rattle.std.specs.Prelude.{◌≡◌, ℕ, zero, suc, ◌+◌, ◌-◌, ◌*◌, ◌%◌, ◌^◌, ◌<◌, ◌≤◌, ◌==◌, ◌&&◌, Bool, true, false, List, [], ◌∷◌}
use Rattle.std.specs.Prelude.{length, slice_index, slice_set, nat_lt, if◌then◌else◌}
use Rattle.dp_model.specs.declared.env.Entry.{Entry}
use Rattle.dp_model.specs.declared.env.Entry.TheVariants.{Port, Ring}
use Rattle.dp_model.specs.Arithmetic.{wrapped}
use Rattle.dp_model.specs.Machine.{Setting, World}
use Rattle.dp_model.specs.Runs.{Outcome, Nodes}
use Rattle.dp_counts.specs.declared.counts.StepCounts.{StepCounts}
use Rattle.dp_engine.specs.declared.watch.Way.{Way}
use Rattle.dp_engine.specs.declared.watch.Way.TheVariants.{On, To, Out, Cut}
use Rattle.dp_engine.specs.Watching.{Event, Began, Ran, IsOneOfEight, SeesAll, ShowsTurn, WatchesTurn, AreRuns}

-- where the counts of a node begin, one for each of 1,024 labels: those of eight ports come first, then those of eight rings
abbrev pub place_of : Entry → ℕ
place_of (Port port) = 1024 * port
place_of (Ring ring) = 1024 * (8 + ring)

-- for each label of each node how often control came there, at the beginning of a node run or by a jump; how often its jump was taken; how often a
-- node run ended there, and how often one was cut there; and where the counts of the running node begin
pub record Tally : Type 0 where
  pub came : List ℕ
  pub taken : List ℕ
  pub ended : List ℕ
  pub cut : List ℕ
  pub place : ℕ

-- each count is 0
abbrev pub AreZero : List ℕ → Type 0
AreZero numbers = (k : ℕ) → slice_index numbers k ≡ 0

-- all counts are 0
pub record HasNone (t : Tally) : Type 0 where
  pub came : AreZero t.came
  pub taken : AreZero t.taken
  pub ended : AreZero t.ended
  pub cut : AreZero t.cut
  pub place : t.place ≡ 0

-- there is a count for each label, also of the running node
pub record HasRoom (came taken ended cut : List ℕ) (place : ℕ) : Type 0 where
  pub came_all : length came ≡ 16384
  pub taken_all : length taken ≡ 16384
  pub ended_all : length ended ≡ 16384
  pub cut_all : length cut ≡ 16384
  pub within : place + 1024 ≤ 16384

-- whether a node's number is below eight
abbrev pub is_one_of_eight : Entry → Bool
is_one_of_eight (Port port) = nat_lt port 8
is_one_of_eight (Ring ring) = nat_lt ring 8

-- ---- how often an instruction ran

-- a difference of numbers of 64 bits, modulo 2^64
abbrev pub minus_wrapped : ℕ → ℕ → ℕ
minus_wrapped m n = (m + (2 ^ 64 - n)) % 2 ^ 64

-- how often control went on from the instruction with the index k, which ran `ran` times, to the next one
abbrev pub on_from : Tally → ℕ → ℕ → ℕ
on_from t k ran = minus_wrapped (minus_wrapped (minus_wrapped ran (slice_index t.taken k)) (slice_index t.ended k)) (slice_index t.cut k)

-- How often the instruction at a label ran, modulo 2^64, of the node whose counts begin at `place`: the number of times that control came to it by a jump
-- or a beginning, or went on to it from the one before.
abbrev pub ran_at : Tally → ℕ → ℕ → ℕ
ran_at t place zero = slice_index t.came place
ran_at t place (suc label) = wrapped (on_from t (place + label) (ran_at t place label) + slice_index t.came (place + label + 1))

-- the counts at a label of a node: zeros if there is no such node or label
abbrev pub step_counts : Tally → Entry → ℕ → StepCounts
step_counts t node label =
    if nat_lt label 1024 && is_one_of_eight node then
    record {
      ran = ran_at t (place_of node) label;
      taken = slice_index t.taken (place_of node + label);
      cut = slice_index t.cut (place_of node + label);
    }
    else record { ran = 0; taken = 0; cut = 0 }

-- ---- the effect of an event

abbrev pub one_more : ℕ → List ℕ → List ℕ
one_more k numbers = slice_set numbers k (wrapped (slice_index numbers k + 1))

-- a step to the next instruction changes nothing
abbrev pub with_way : Way → ℕ → Tally → Tally
with_way On label t = t
with_way (To to) label t = record t { came = one_more (t.place + to % 1024) t.came; taken = one_more (t.place + label) t.taken }
with_way Out label t = record t { ended = one_more (t.place + label) t.ended }
with_way Cut label t = record t { cut = one_more (t.place + label) t.cut }

abbrev pub counted : Event → Tally → Tally
counted (Began node s) t = record t { came = one_more (place_of node) t.came; place = place_of node }
counted (Ran label way s) t = with_way way label t

-- an event's node has a number below 8; its label is below 1,024
abbrev pub IsCountable : Event → Type 0
IsCountable (Began node s) = IsOneOfEight node
IsCountable (Ran label way s) = label < 1024

-- each event changes the counts as it is counted
abbrev pub counts_see : Tally → Event → Tally → Type 0
counts_see t e t' = IsCountable e × (t' ≡ counted e t)

-- ---- the steps that are counted

abbrev pub any_way : Way → Bool
any_way way = true

abbrev pub is_jump : Way → Bool
is_jump On = false
is_jump (To to) = true
is_jump Out = false
is_jump Cut = false

abbrev pub is_cut : Way → Bool
is_cut On = false
is_cut (To to) = false
is_cut Out = false
is_cut Cut = true

-- how many of these events are steps of the instruction with the index k whose outcome passes the test; the counts of the node at the first events
-- begin at `place`
abbrev pub steps_at : (Way → Bool) → ℕ → ℕ → List Event → ℕ
steps_at test k place [] = 0
steps_at test k place (Began node s ∷ events) = steps_at test k (place_of node) events
steps_at test k place (Ran label way s ∷ events) = (if (place + label == k) && test way then 1 else 0) + steps_at test k place events

-- the counts at a label of a node, before and after these events: each grew by one for each of its steps
pub record Grew (node : Entry) (label place : ℕ) (events : List Event) (before after : StepCounts) : Type 0 where
  pub ran : after.ran ≡ wrapped (before.ran + steps_at any_way (place_of node + label) place events)
  pub taken : after.taken ≡ wrapped (before.taken + steps_at is_jump (place_of node + label) place events)
  pub cut : after.cut ≡ wrapped (before.cut + steps_at is_cut (place_of node + label) place events)

-- ---- laws

-- a number of 64 bits for each label
pub record AreCounts (numbers : List ℕ) : Type 0 where
  pub all : length numbers ≡ 16384
  pub small : (k : ℕ) → k < 16384 → slice_index numbers k < 2 ^ 64

-- counts, and a place of the running node that is among them
pub record IsTally (t : Tally) : Type 0 where
  pub came : AreCounts t.came
  pub taken : AreCounts t.taken
  pub ended : AreCounts t.ended
  pub cut : AreCounts t.cut
  pub within : t.place + 1024 ≤ 16384

-- all counts of all nodes grew by the steps that they count
abbrev pub AllGrew : List Event → Tally → Tally → Type 0
AllGrew events t t' =
    (node : Entry) (label : ℕ) → IsOneOfEight node → label < 1024 → Grew node label t.place events (step_counts t node label) (step_counts t' node label)

-- whole node runs are counted: each number grows by its steps
abbrev pub CountsSteps : Type 0
CountsSteps =
    (t t' : Tally) (events : List Event) → IsTally t → AreRuns events → SeesAll counts_see t events t' → IsTally t' × AllGrew events t t'

-- counts that begin are 0 at each label
abbrev pub BeginsAtZero : Type 0
BeginsAtZero =
    (t : Tally) → HasNone t → (node : Entry) (label : ℕ) → step_counts t node label ≡ record { ran = 0; taken = 0; cut = 0 }

-- a turn that is shown is counted: each number grows by its steps in the turn
abbrev pub CountsTurns : Type 0
CountsTurns =
    (t t' : Tally) (setting : Setting) (nodes : Nodes) (port : ℕ) (bytes : List ℕ) (w : World) (outcome : Outcome) (runs : ℕ) (w' : World) → IsTally t
    → WatchesTurn counts_see t t' setting nodes port bytes w outcome runs w'
    → (answers : List Bool) × (events : List Event) × ShowsTurn setting nodes port bytes w outcome runs answers w' events × IsTally t' × AllGrew events t t'
