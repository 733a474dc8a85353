-- Each node run is a node run of the copies, and more steps allowed change none.
use Rattle.std.proofs.Common.{◌≡◌, ℕ, zero, suc, ◌≤◌, Bool, List, [], ◌++◌, Option, Some, None, ◌∙◌, ap, subst, arith, sym, append_assoc}
use Rattle.std.specs.Prelude.{slice_get, option_map, option_and_then}
use Rattle.dp_model.specs.Packets.{IsWithin}
use Rattle.dp_model.specs.Machine.{State, live, At, Setting, Next, Ended}
use Rattle.dp_model.specs.CopyMachine.{CopyMove, copy_step, are_answered, CopyState, copy_then, copy_goes, copy_budgeted}
use Rattle.dp_model.specs.Environments.{Environment}
use Rattle.dp_model.specs.Prefixes.{Route}
use Rattle.dp_model.specs.declared.instr.Instr.{Instr}
use Rattle.dp_model.specs.Runs.{Then, StepsTo}
use Rattle.dp_model.specs.Laws.Within.{IsInside}
use Rattle.dp_model.specs.Laws.StepsWithin.{step_within}
use Rattle.dp_copies.proofs.States.{copied}
use Rattle.dp_copies.proofs.Steps.{StepsCopy}
use Rattle.dp_copies.proofs.Budget.{step_copies}

-- the run after a step, with more steps allowed
pub then_more : (o : Option CopyMove) (f g : ℕ → CopyState → Option CopyState) (t : CopyState) →
    ((l : ℕ) (s t : CopyState) → f l s ≡ Some t → g l s ≡ Some t) → copy_then o f ≡ Some t → copy_then o g ≡ Some t
then_more None f g t more e = e
then_more (Some (At l, s)) f g t more e = more l s t e
then_more (Some (Ended, s)) f g t more e = e

-- more steps allowed change no run
pub goes_more : (env : Environment) (tables : List (List Route)) (program : List Instr) (n label : ℕ) (s t : CopyState) →
    copy_goes env tables program n label s ≡ Some t → (fuel : ℕ) → n ≤ fuel → copy_goes env tables program fuel label s ≡ Some t
goes_more env tables program zero label s t e fuel le = cc
goes_more env tables program (suc n) label s t e zero le = absurd (omega arith)
goes_more env tables program (suc n) label s t e (suc fuel) le =
    then_more (option_map (copy_budgeted label) (option_and_then (copy_step env tables label s) (slice_get program label))) (copy_goes env tables program n)
    (copy_goes env tables program fuel) t (λ l s t h. goes_more env tables program n l s t h fuel (omega (arith, le))) e

-- steps in a row
pub goes_copies : (c : Setting) → StepsCopy c → (program : List Instr) (n label : ℕ) (s s' : State) (answers later : List Bool) →
    IsWithin c.env.pools s.world.buffers (live s) → StepsTo c program n label s answers Ended s' →
    copy_goes c.env c.tables program n label (copied c.env.pools s (answers ++ later)) ≡ Some (copied c.env.pools s' later)
goes_copies c steps program zero label s s' answers later within (is_next, _, _) = cc is_next
goes_copies c steps program (suc n) label s s' answers later within (m, rest, st, are_answered, next) =
    let pools = c.env.pools in
    let split : answers ++ later ≡ m.answers ++ (rest ++ later) = ap (λ xs. xs ++ later) are_answered ∙ append_assoc m.answers rest later in
    let o : option_map (copy_budgeted label) (option_and_then (copy_step c.env c.tables label (copied pools s (answers ++ later))) (slice_get program label))
    ≡ Some (m.next, copied pools m.state (rest ++ later)) =
    ap (λ xs. option_map (copy_budgeted label) (option_and_then (copy_step c.env c.tables label (copied pools s xs)) (slice_get program label))) split
    ∙ step_copies c steps program label s m (rest ++ later) within st in
    ap (λ o. copy_then o (copy_goes c.env c.tables program n)) o
    ∙ go m.next next (goes_copies c steps program n) (step_within c program label s m within st)
  where
    go : (x : Next) → Then x (λ l. StepsTo c program n l m.state rest Ended s') ((Ended ≡ Ended) × (n ≡ 0) × (rest ≡ []) × (s' ≡ m.state)) →
        ((label : ℕ) (s s' : State) (answers later : List Bool) → IsWithin c.env.pools s.world.buffers (live s) → StepsTo c program n label s answers Ended s' →
        copy_goes c.env c.tables program n label (copied c.env.pools s (answers ++ later)) ≡ Some (copied c.env.pools s' later)) →
        IsWithin c.env.pools m.state.world.buffers (live m.state) → copy_then (Some (x, copied c.env.pools m.state (rest ++ later)))
        (copy_goes c.env c.tables program n) ≡ Some (copied c.env.pools s' later)
    go (At l) next on within = on l m.state s' rest later within next
    go Ended (_, _, none, is) on within =
        ap (λ xs. Some (copied c.env.pools m.state (xs ++ later))) none ∙ ap (λ t. Some (copied c.env.pools t later)) (sym is)

-- packets stay within the buffers
pub goes_within : (c : Setting) (program : List Instr) (n label : ℕ) (s s' : State) (answers : List Bool) (next : Next) → IsInside c s →
    StepsTo c program n label s answers next s' → IsInside c s'
goes_within c program zero label s s' answers next well (_, _, is) = subst (IsInside c) (sym is) well
goes_within c program (suc n) label s s' answers next well (m, rest, st, are_answered, further) =
    go m.next further (λ l. goes_within c program n l m.state s' rest next) (step_within c program label s m well st)
  where
    go : (x : Next) → Then x (λ l. StepsTo c program n l m.state rest next s') ((next ≡ Ended) × (n ≡ 0) × (rest ≡ []) × (s' ≡ m.state)) →
        ((l : ℕ) → IsInside c m.state → StepsTo c program n l m.state rest next s' → IsInside c s') → IsInside c m.state → IsInside c s'
    go (At l) further on well = on l well further
    go Ended (_, _, _, is) on well = subst (IsInside c) (sym is) well
