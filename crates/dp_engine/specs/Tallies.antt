-- The counts of an engine.
use Rattle.std.specs.Prelude.{◌≡◌, ℕ, ◌+◌, List, [], ◌∷◌, length, Option, Some, None, nat_le, if◌then◌else◌}
use Rattle.dp_model.specs.Packets.{Packet}
use Rattle.dp_model.specs.Machine.{State}
use Rattle.dp_model.specs.Runs as runs
use Rattle.dp_engine.specs.declared.report.Tallies.{Tallies}

-- the counts after one more record with this outcome
abbrev pub counted : runs.Outcome → Tallies → Tallies
counted runs.Outcome.Got t = record t { received = t.received + 1 }
counted runs.Outcome.NoBuffer t = record t { nobuf = t.nobuf + 1 }
counted runs.Outcome.Oversize t = record t { oversize = t.oversize + 1 }

abbrev pub is_got : runs.Outcome → ℕ
is_got runs.Outcome.Got = 1
is_got runs.Outcome.NoBuffer = 0
is_got runs.Outcome.Oversize = 0

abbrev pub is_nobuf : runs.Outcome → ℕ
is_nobuf runs.Outcome.Got = 0
is_nobuf runs.Outcome.NoBuffer = 1
is_nobuf runs.Outcome.Oversize = 0

abbrev pub is_oversize : runs.Outcome → ℕ
is_oversize runs.Outcome.Got = 0
is_oversize runs.Outcome.NoBuffer = 0
is_oversize runs.Outcome.Oversize = 1

-- the number of outcomes that satisfy the test
abbrev pub how_many : (runs.Outcome → ℕ) → List runs.Outcome → ℕ
how_many f [] = 0
how_many f (o ∷ outcomes) = f o + how_many f outcomes

-- the counts after a run with these outcomes, in which this many records were written whole
pub record Tallied (from to : Tallies) (outcomes : List runs.Outcome) (sent : ℕ) : Type 0 where
  pub received : to.received ≡ from.received + how_many is_got outcomes
  pub nobuf : to.nobuf ≡ from.nobuf + how_many is_nobuf outcomes
  pub oversize : to.oversize ≡ from.oversize + how_many is_oversize outcomes
  pub sent_is : to.sent ≡ from.sent + sent

-- ---- the number of packets

abbrev pub held_count : List (Option Packet) → ℕ
held_count [] = 0
held_count (None ∷ packets) = held_count packets
held_count (Some k ∷ packets) = 1 + held_count packets

abbrev pub listed_count : List (List Packet) → ℕ
listed_count [] = 0
listed_count (packets ∷ lists) = length packets + listed_count lists

-- in registers, rings and transmit lists
abbrev pub packet_count : State → ℕ
packet_count s = held_count s.packets + (listed_count s.world.rings + listed_count s.world.outboxes)

-- the number of calls in the pattern that were made
abbrev pub refused_of : List ℕ → ℕ → ℕ
refused_of [] calls = 0
refused_of (n ∷ pattern) calls = (if nat_le n calls then 1 else 0) + refused_of pattern calls
