-- The budget of backward jumps is the same in both machines.
use Rattle.std.proofs.Common.{◌≡◌, ℕ, ◌+◌, Bool, true, false, cond, List, ◌++◌, Some, refl, sym, ◌∙◌, ap, subst}
use Rattle.std.specs.Prelude.{slice_get, nat_lt, option_map, option_and_then}
use Rattle.dp_model.specs.declared.env.PoolSpec.{PoolSpec}
use Rattle.dp_model.specs.declared.instr.Instr.{Instr}
use Rattle.dp_model.specs.Packets.{IsWithin}
use Rattle.dp_model.specs.Machine.{Setting, State, live, Move, Step, with_step, jump_budget, is_backward, with_jump, cut_off, budgeted}
use Rattle.dp_model.specs.CopyMachine.{CopyMove, copy_step, copy_cut_off, copy_budgeted}
use Rattle.dp_model.specs.Laws.Steps.{budget_keeps}
use Rattle.dp_copies.proofs.States.{copied}
use Rattle.dp_copies.proofs.Steps.{StepsCopy}

-- the budgeted move
budget_copies : (pools : List PoolSpec) (label : ℕ) (m : Move) (answers : List Bool) → copy_budgeted label (m.next, copied pools m.state answers)
    ≡ ((budgeted label m).next, copied pools (budgeted label m).state answers)
budget_copies pools label m answers = go (is_backward label m.next) (nat_lt m.state.jumps jump_budget)
  where
    go : (b d : Bool) → cond {A = CopyMove} b (cond d (m.next, record (copied pools m.state answers) { jumps = m.state.jumps + 1 })
        (copy_cut_off (copied pools m.state answers))) (m.next, copied pools m.state answers)
        ≡ ((cond b (cond d (with_jump m) (cut_off m)) m).next, copied pools (cond b (cond d (with_jump m) (cut_off m)) m).state answers)
    go true true = refl
    go true false = refl
    go false d = refl

-- a step of a program is a step of the copies
pub step_copies : (c : Setting) → StepsCopy c → (program : List Instr) (label : ℕ) (s : State) (m : Move) (later : List Bool) →
    IsWithin c.env.pools s.world.buffers (live s) → Step c program label s m →
    option_map (copy_budgeted label) (option_and_then (copy_step c.env c.tables label (copied c.env.pools s (m.answers ++ later))) (slice_get program label))
    ≡ Some (m.next, copied c.env.pools m.state later)
step_copies c steps program label s m later well st =
    let pools = c.env.pools in
    let e = st.effect in
    let answers : (budgeted label e).answers ≡ e.answers = budget_keeps (λ m. m.answers ≡ e.answers) label e refl refl refl in
    subst (λ m. option_map (copy_budgeted label) (option_and_then (copy_step c.env c.tables label (copied pools s (m.answers ++ later)))
    (slice_get program label)) ≡ Some (m.next, copied pools m.state later)) (sym st.is)
    (ap (λ ts. option_map (copy_budgeted label) (option_and_then (copy_step c.env c.tables label (copied pools s (ts ++ later))) (slice_get program label)))
    answers
    ∙ (ap (λ o. option_map (copy_budgeted label) (option_and_then (copy_step c.env c.tables label (copied pools s (e.answers ++ later))) o)) st.here
    ∙ (ap (option_map (copy_budgeted label)) (steps label (with_step s) st.instr e later well st.acts)
    ∙ ap Some (budget_copies pools label e later))))
