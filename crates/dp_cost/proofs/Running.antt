-- Each step of a run goes where its instruction leads, so a run goes along a way.
use Rattle.std.proofs.Common.{◌≡◌, ◌⊎◌, ℕ, zero, suc, Bool, true, List, [], Some, refl, sym, ap, subst, inl, inr}
use Rattle.std.proofs.lemmas.Option.{same_Some}
use Rattle.dp_model.specs.declared.instr.Instr.{Instr}
use Rattle.dp_model.specs.declared.instr.Instr.TheVariants.{Jmp, Exit}
use Rattle.dp_model.specs.Machine.{Setting, State, Next, At, Ended, Move, Acts, Step, with_step}
use Rattle.dp_model.specs.Runs.{Then, StepsTo}
use Rattle.dp_model.specs.Laws.Effects.{LeadsOn, did_of}
use Rattle.dp_model.specs.Laws.Steps.{budget_keeps}
use Rattle.dp_cost.specs.Costs.{goes_on, LeadsTo, HasWay}

-- the same of where a move leads
abbrev pub LeadsBy : ℕ → Instr → Next → Type 0
LeadsBy label i (At to) = LeadsTo label i to
LeadsBy label i Ended = Unit {0}

leads_by : (label : ℕ) (i : Instr) → goes_on i ≡ true → (x : Next) → LeadsOn label i x → LeadsBy label i x
leads_by label i on Ended leads = tt
leads_by label i on (At to) (inl next) = inl (on, next)
leads_by label i on (At to) (inr named) = inr named

acts_lead : (setting : Setting) (label : ℕ) (s : State) (i : Instr) (m : Move) → Acts setting label s i m → LeadsBy label i m.next
acts_lead setting label s (Jmp l) m (after, calculated, is) =
    subst (LeadsBy label (Jmp l)) (sym (ap (λ (m : Move). m.next) is))
    (inr (ap Some (ap (λ (a : ℕ × List ℕ). a.0) (same_Some (l, s.numbers) after calculated))))
acts_lead setting label s Exit m (gone, is) = subst (LeadsBy label Exit) (sym (ap (λ (m : Move). m.next) is)) tt
acts_lead setting label s i m acts = leads_by label i refl m.next (did_of setting label s i m acts).leads

step_leads : (setting : Setting) (program : List Instr) (label : ℕ) (s : State) (m : Move) → (st : Step setting program label s m) →
    LeadsBy label st.instr m.next
step_leads setting program label s m st =
    let here = acts_lead setting label (with_step s) st.instr st.effect st.acts in
    subst (λ (m : Move). LeadsBy label st.instr m.next) (sym st.is) (budget_keeps (λ (m : Move). LeadsBy label st.instr m.next) label st.effect here here tt)

pub run_way : (setting : Setting) (program : List Instr) (n label : ℕ) (s : State) (answers : List Bool) (next : Next) (s' : State) →
    StepsTo setting program n label s answers next s' → HasWay program n label
run_way setting program zero label s answers next s' goes = tt
run_way setting program (suc n) label s answers next s' (m, later, st, are_answered, rest) =
    (st.instr, st.here, go m.next (step_leads setting program label s m st) rest (λ l. run_way setting program n l m.state later next s'))
  where
    go : (x : Next) → LeadsBy label st.instr x →
        Then x (λ l. StepsTo setting program n l m.state later next s') ((next ≡ Ended) × (n ≡ 0) × (later ≡ []) × (s' ≡ m.state)) →
        ((l : ℕ) → StepsTo setting program n l m.state later next s' → HasWay program n l) →
        (n ≡ 0) ⊎ ((to : ℕ) × LeadsTo label st.instr to × HasWay program n to)
    go (At l) leads rest on = inr (l, leads, on l rest)
    go Ended leads (_, none, _, _) on = inl none
