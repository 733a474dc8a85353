-- Steps that test a room or a length.
use Rattle.std.proofs.Common.{◌≡◌, ℕ, Bool, false, List, Some, ◌∙◌, ap, true}
use Rattle.std.specs.Prelude.{nat_lt}
use Rattle.dp_model.specs.declared.env.PoolSpec.{PoolSpec}
use Rattle.dp_model.specs.Packets.{Packet}
use Rattle.dp_model.specs.Machine.{State, Holds, Setting, Move, branches, goes_on, moves_to}
use Rattle.dp_model.specs.CopyMachine.{Copy, copy_step, copy_branches, copy_tests}
use Rattle.dp_model.specs.Copies.{copy_of}
use Rattle.dp_model.specs.declared.instr.Instr.{Instr}
use Rattle.dp_copies.proofs.States.{copied}
use Rattle.dp_copies.proofs.Moves.{Does, by, either, held_step}

-- both test the same room or length
tests_step : (pools : List PoolSpec) (st : State) (answers : List Bool) (p label l : ℕ) (measure : Copy → ℕ) (n value : ℕ) (k : Packet) (b : Bool) →
    Holds st p k → measure (copy_of pools st.world.buffers k) ≡ value → nat_lt value n ≡ b → copy_tests (copied pools st answers) p label l measure n
    ≡ Some (copy_branches b label l (copied pools st answers))
tests_step pools st answers p label l measure n value k b holds is test =
    held_step pools st answers p k (λ k. Some (copy_branches (nat_lt (measure k) n) label l (copied pools st answers))) holds
    ∙ ap (λ b. Some (copy_branches b label l (copied pools st answers))) (ap (λ v. nat_lt v n) is ∙ test)

-- an instruction with such a test
pub tested : (c : Setting) (label : ℕ) (s : State) (i : Instr) (m : Move) (later : List Bool) (p n l : ℕ) (measure : Copy → ℕ) (value : ℕ) (k : Packet) →
    ((answers : List Bool) → copy_step c.env c.tables label (copied c.env.pools s answers) i ≡ copy_tests (copied c.env.pools s answers) p label l measure n) →
    m ≡ branches (nat_lt value n) label l s → Holds s p k → measure (copy_of c.env.pools s.world.buffers k) ≡ value → Does c label s i later m
tested c label s i m later p n l measure value k step is holds same = by c label s i later m _ is
    (either c label s i later (nat_lt value n) (moves_to l s) (goes_on label s)
    (λ b. step later ∙ tests_step c.env.pools s later p label l measure n value k true holds same b)
    (λ b. step later ∙ tests_step c.env.pools s later p label l measure n value k false holds same b))
