-- The run by hand in both machines: each writes the same.
use Rattle.std.proofs.Common.{◌≡◌, ℕ, zero, suc, ◌<◌, true, [], ◌∷◌, length, replicate, None, refl}
use Rattle.std.proofs.Common.{arith}
use Rattle.std.specs.Prelude.{slice_index_or}
use Rattle.std.specs.List.{AllByRecursion}
use Rattle.dp_model.specs.Environments.{room_at, count_at}
use Rattle.dp_model.specs.Machine.{World}
use Rattle.dp_model.specs.Runs.{Receives, Got, Turn, Run}
use Rattle.dp_model.specs.Starts.{IsStart}
use Rattle.dp_model.specs.CopyMachine.{Captures}
use Rattle.dp_model.specs.Laws.Stored.{write_changes}
use Rattle.dp_copies.specs.TwoClones.{one_port, setting, program, nodes, arrivals, before, answers, captures}
use Rattle.dp_copies.proofs.TwoClonesStates.{alone, number, filled, m11}
use Rattle.dp_copies.proofs.TwoClonesSteps.{steps}

-- the record is received, and the program runs on it
receives : Receives setting program 0 (record { pool = 0; segs = 1; queue = 4 }) (7 ∷ 8 ∷ []) before answers m11.state.world
receives = record {
  reception = record {
    fits = omega arith;
    given = refl;
    numbers = number 2 ∷ [];
    buffers = filled;
    fresh = alone (record { of_pool = refl; exists = omega arith; free = refl });
    filled = record { spells = refl; others = write_changes before.buffers (number 2) 128 (7 ∷ 8 ∷ []) (omega arith) (omega arith, (omega arith, tt)) };
  };
  later = true ∷ true ∷ true ∷ [];
  answers_are = refl;
  run = (12, m11.state, steps, refl);
}

turns : Turn setting nodes 0 (7 ∷ 8 ∷ []) before Got 1 answers m11.state.world
turns = record {
  spec = record { pool = 0; segs = 1; queue = 4 };
  program = program;
  spec_is = refl;
  program_is = refl;
  mid = m11.state.world;
  now = answers;
  arrives = receives;
  later = [];
  more = 0;
  serves = (refl, refl, refl);
  answers_are = refl;
  runs_is = refl;
}

-- over shared buffers
pub shared_run : (w' : World) × Run {T = ℕ} setting nodes arrivals before (record { answers = answers; outcomes = Got ∷ []; captures = captures }) w'
shared_run = (
  record m11.state.world { outboxes = [] ∷ [] },
  (Got, answers, 1, m11.state.world, record { answers = []; outcomes = []; captures = [] ∷ [] }, turns, (refl, refl), refl),
)

-- computed with a list of bytes for each packet
pub copy_captures : Captures {T = ℕ} one_port [] nodes arrivals answers captures 0
copy_captures = (
  12,
  record { packets = replicate 8 None; numbers = 0 ∷ 9 ∷ replicate 6 0; jumps = 0; rings = []; outboxes = [] ∷ []; to_answer = []; cuts = 0 },
  refl,
  refl,
  refl,
)

-- the bytes of earlier use
all_sixes : (n : ℕ) → AllByRecursion (λ x. x < 256) (replicate n 6)
all_sixes zero = tt
all_sixes (suc n) = (omega arith, all_sixes n)

-- and the run starts as runs do
pub starts : IsStart one_port before
starts = record {
  rings = refl;
  outboxes = refl;
  rooms = λ b is. room b.pool b.index is;
  bytes = λ b. bytes b.pool b.index;
  calls = refl;
  steps = refl;
  cuts = refl;
}
  where
    room : (p i : ℕ) → i < count_at one_port.pools p → length (slice_index_or (slice_index_or before.buffers p []) i []) ≡ room_at one_port.pools p
    room zero zero is = refl
    room zero (suc zero) is = refl
    room zero (suc (suc zero)) is = refl
    room zero (suc (suc (suc zero))) is = refl
    room zero (suc (suc (suc (suc i)))) is = absurd (omega (arith, is))
    room (suc p) i is = absurd (omega (arith, is))

    bytes : (p i : ℕ) → AllByRecursion (λ x. x < 256) (slice_index_or (slice_index_or before.buffers p []) i [])
    bytes zero zero = all_sixes 130
    bytes zero (suc zero) = all_sixes 130
    bytes zero (suc (suc zero)) = all_sixes 130
    bytes zero (suc (suc (suc zero))) = all_sixes 130
    bytes zero (suc (suc (suc (suc i)))) = tt
    bytes (suc p) i = tt
