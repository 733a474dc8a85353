-- The steps of the run by hand, from the last to the first.
use Rattle.std.proofs.Common.{◌≡◌, ℕ, true, [], ◌∷◌, Some, refl, arith}
use Rattle.std.specs.Prelude.{slice_get}
use Rattle.dp_model.specs.declared.instr.Instr.{Instr}
use Rattle.dp_model.specs.declared.instr.Instr.TheVariants.{Alloc, Free, Clone, Adj, Append, Chain, Set, Store, Tx, Exit}
use Rattle.dp_model.specs.declared.registers.Width.TheVariants.{One}
use Rattle.dp_model.specs.Machine.{State, Ended, Move, Acts, IsLabel, Step, with_step, budgeted}
use Rattle.dp_model.specs.Runs.{StepsTo}
use Rattle.dp_copies.specs.TwoClones.{setting, program}
use Rattle.dp_copies.proofs.TwoClonesStates.{alone, number, whole, cut, clone, joined, fresh, longer, filled, s0, m0, m1, m2, m3, m4, m5, m6, m7, m8, m9, m10}
use Rattle.dp_copies.proofs.TwoClonesStates.{m11}

-- an instruction at its label, whose effect takes no jump back
done : (label : ℕ) (s : State) (m : Move) (i : Instr) → slice_get program label ≡ Some i → Acts setting label (with_step s) i m → IsLabel program m.next →
    m ≡ budgeted label m → Step setting program label s m
done label s m i here acts is_label is = record { instr = i; here = here; effect = m; acts = acts; is_label = is_label; is = is }

exits : Step setting program 11 m10.state m11
exits = done 11 m10.state m11 Exit refl ((refl, (refl, (refl, (refl, (refl, (refl, (refl, (refl, tt)))))))), refl) tt refl

sends_other : Step setting program 10 m9.state m10
sends_other = done 10 m9.state m10 (Tx 1 0 11) refl (longer, 4, joined ∷ [], refl, refl, refl, refl) (omega arith) refl

stores : Step setting program 9 m8.state m9
stores = done 9 m8.state m9 (Store 1 0 One 1) refl (longer, refl, omega arith, refl, refl) (omega arith) refl

sets : Step setting program 8 m7.state m8
sets = done 8 m7.state m8 (Set 1 9) refl ((9, 0 ∷ 9 ∷ 0 ∷ 0 ∷ 0 ∷ 0 ∷ 0 ∷ 0 ∷ []), refl, refl) (omega arith) refl

frees : Step setting program 7 m6.state m7
frees = done 7 m6.state m7 (Free 3) refl (_, refl, refl) (omega arith) refl

sends : Step setting program 6 m5.state m6
sends = done 6 m5.state m6 (Tx 2 0 11) refl (joined, 4, [], refl, refl, refl, refl) (omega arith) refl

chains : Step setting program 5 m4.state m5
chains = done 5 m4.state m5 (Chain 2 0) refl (clone, cut, refl, refl, (λ e. absurd (omega (arith, e))), omega arith, refl) (omega arith) refl

adjusts : Step setting program 4 m3.state m4
adjusts = done 4 m3.state m4 (Adj 0 1) refl (whole, refl, omega arith, refl) (omega arith) refl

clones_other : Step setting program 3 m2.state m3
clones_other = done 3 m2.state m3 (Clone 3 1 0 11) refl
    (longer, refl, refl, omega arith, (number 0 ∷ [], alone (record { of_pool = refl; exists = omega arith; free = refl }), refl)) (omega arith) refl

clones : Step setting program 2 m1.state m2
clones = done 2 m1.state m2 (Clone 2 0 0 11) refl
    (whole, refl, refl, omega arith, (number 3 ∷ [], alone (record { of_pool = refl; exists = omega arith; free = refl }), refl)) (omega arith) refl

appends : Step setting program 1 m0.state m1
appends = done 1 m0.state m1 (Append 1 1) refl (fresh, refl, omega arith, refl, refl) (omega arith) refl

allocates : Step setting program 0 s0 m0
allocates = done 0 s0 m0 (Alloc 1 0 11) refl (
  refl,
  omega arith,
  (
    number 1 ∷ [],
    filled,
    alone (record { of_pool = refl; exists = omega arith; free = refl }),
    record { others = λ b other. refl; lengths = λ b. refl; bytes = λ are. are },
    refl,
  ),
) (omega arith) refl

-- ---- joined

from_8 : StepsTo setting program 4 8 m7.state [] Ended m11.state
from_8 = (m8, [], sets, refl, (m9, [], stores, refl, (m10, [], sends_other, refl, (m11, [], exits, refl, (refl, refl, refl, refl)))))

from_4 : StepsTo setting program 8 4 m3.state [] Ended m11.state
from_4 = (m4, [], adjusts, refl, (m5, [], chains, refl, (m6, [], sends, refl, (m7, [], frees, refl, from_8))))

pub steps : StepsTo setting program 12 0 s0 (true ∷ true ∷ true ∷ []) Ended m11.state
steps = (m0, true ∷ true ∷ [], allocates, refl, (m1, true ∷ true ∷ [], appends, refl, (m2, true ∷ [], clones, refl, (m3, [], clones_other, refl, from_4))))
