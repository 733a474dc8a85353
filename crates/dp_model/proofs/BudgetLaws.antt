-- The budget of backward jumps works as documented.
use Rattle.std.proofs.Common.{◌≡◌, ◌⊎◌, ℕ, zero, suc, ◌+◌, ◌*◌, ◌≤◌, Bool, true, false, cond, List, [], ◌∷◌, ◌++◌, length, Some, refl, sym, ◌∙◌, ap}
use Rattle.std.proofs.Common.{subst, arith}
use Rattle.std.specs.Prelude.{nat_lt, replicate}
use Rattle.std.proofs.lemmas.Bool.{ltb-true}
use Rattle.std.proofs.lemmas.Option.{slice_get_within}
use Rattle.dp_model.specs.declared.env.PortSpec.{PortSpec}
use Rattle.dp_model.specs.declared.instr.Instr.{Instr}
use Rattle.dp_model.specs.Packets.{Packet}
use Rattle.dp_model.specs.Needs.{label_of}
use Rattle.dp_model.specs.Machine.{Setting, World, State, Next, At, Ended, Move, Acts, Step, with_jump}
use Rattle.dp_model.specs.Machine.{cut_off, budgeted, with_step}
use Rattle.dp_model.specs.Runs.{StepsTo, first_state, NodeRun, max_steps, ConsumedAtMost, Outcome, Got, NoBuffer, Oversize, Arrives}
use Rattle.dp_model.specs.Runs.{Nodes, runs_of, Turn}
use Rattle.dp_model.specs.Safety.{HasServed, AreProgramsOf, max_steps_of, AreShort}
use Rattle.dp_model.specs.Laws.Effects.{LeadsOn, did_of}
use Rattle.dp_model.proofs.RunFolds.{goes_keeps}
use Rattle.dp_model.proofs.Agreement.{serves_is}
use Rattle.dp_model.proofs.CountSteps.{goes_short}
use Rattle.dp_model.specs.Laws.Steps.{acts_counts, goes_counts}

-- ---- what comes after an instruction

-- the next label, or the one that the instruction names
pub acts_lead : (c : Setting) (label to : ℕ) (s : State) (i : Instr) (m : Move) → Acts c label s i m → m.next ≡ At to →
    (to ≡ label + 1) ⊎ (label_of i ≡ Some to)
acts_lead c label to s i m acts e = subst (LeadsOn label i) e (did_of c label s i m acts).leads

-- ---- no run takes more backward jumps than its budget
jumps_within : (label : ℕ) (m : Move) → m.state.jumps ≤ 256 → (budgeted label m).state.jumps ≤ 256
jumps_within label m within = go _ (nat_lt m.state.jumps 256) refl
  where
    go : (b d : Bool) → nat_lt m.state.jumps 256 ≡ d → (cond b (cond d (with_jump m) (cut_off m)) m).state.jumps ≤ 256
    go true true e = omega (arith, ltb-true m.state.jumps 256 e)
    go true false e = within
    go false d e = within

step_jumps : (c : Setting) (program : List Instr) (label : ℕ) (s : State) (m : Move) → s.jumps ≤ 256 → Step c program label s m → m.state.jumps ≤ 256
step_jumps c program label s m within st =
    let same : st.effect.state.jumps ≡ s.jumps = (acts_counts c label (with_step s) st.instr st.effect st.acts).jumps in
    subst (λ (m : Move). m.state.jumps ≤ 256) (sym st.is) (jumps_within label st.effect (omega (arith, same, within)))

goes_jumps : (c : Setting) (program : List Instr) (n label : ℕ) (s : State) (answers : List Bool) (next : Next) (s' : State) → s.jumps ≤ 256 →
    StepsTo c program n label s answers next s' → s'.jumps ≤ 256
goes_jumps c program = goes_keeps c program (λ s. s.jumps ≤ 256) (step_jumps c program)

pub jumps_taken : (c : Setting) (program : List Instr) (k : Packet) (number n label : ℕ) (w : World) (answers : List Bool) (s : State) →
    StepsTo c program n 0 (first_state k number w) answers (At label) s → (s.jumps ≤ 256) × (s.world.steps ≡ w.steps + n) × (s.world.cuts ≡ w.cuts)
jumps_taken c program k number n label w answers s goes =
    let counts = goes_counts c program n 0 (first_state k number w) answers (At label) s goes in
    (goes_jumps c program n 0 (first_state k number w) answers (At label) s (omega arith) goes, counts.steps, omega (arith, counts.cuts, counts.at_end))

-- ---- node runs and turns
pub short_run : (c : Setting) (program : List Instr) (n : ℕ) (k : Packet) (number : ℕ) (w : World) (answers : List Bool) (next : Next) (s : State) →
    StepsTo c program n 0 (first_state k number w) answers next s → n ≤ max_steps program
short_run c program zero k number w answers next s goes = omega arith
short_run c program (suc n) k number w answers next s (m, later, st, are_answered, rest) =
    omega (
      arith,
      goes_short c program (suc n) 0 (first_state k number w) answers next s (slice_get_within program 0 st.instr st.here) (omega arith) (
        m,
        later,
        st,
        are_answered,
        rest,
      ),
    )

pub node_took : (c : Setting) (program : List Instr) (k : Packet) (number : ℕ) (w w' : World) (answers : List Bool) → NodeRun c program k number w answers w' →
    ConsumedAtMost w w' (max_steps program) 1
node_took c program k number w w' answers (n, s, goes, is) =
    let counts = goes_counts c program n 0 (first_state k number w) answers Ended s goes in
    let steps : w'.steps ≡ s.world.steps = ap (λ (w : World). w.steps) is in
    let cuts : w'.cuts ≡ s.world.cuts = ap (λ (w : World). w.cuts) is in (
      n,
      counts.more,
      record { steps_are = omega (arith, steps, counts.steps); cuts_are = omega (arith, cuts, counts.cuts) },
      short_run c program n k number w answers Ended s goes,
      counts.at_end,
    )

none_took : (w w' : World) (limit : ℕ) → w'.steps ≡ w.steps → w'.cuts ≡ w.cuts → ConsumedAtMost w w' limit 0
none_took w w' limit steps cuts = (0, 0, record { steps_are = omega (arith, steps); cuts_are = omega (arith, cuts) }, omega arith, omega arith)

-- one after the other
took_both : (w v w' : World) (a b x y : ℕ) → ConsumedAtMost w v a b → ConsumedAtMost v w' x y → ConsumedAtMost w w' (a + x) (b + y)
took_both w v w' a b x y (steps, cuts, took, le, few) (steps', cuts', took', le', few') = (
  steps + steps',
  cuts + cuts',
  record {
    steps_are = omega (arith, took.steps_are, took'.steps_are);
    cuts_are = omega (arith, took.cuts_are, took'.cuts_are);
  },
  omega (arith, le, le'),
  omega (arith, few, few'),
)

took_more : (w w' : World) (a x b : ℕ) → a ≤ x → ConsumedAtMost w w' a b → ConsumedAtMost w w' x b
took_more w w' a x b more (steps, cuts, took, le, few) = (steps, cuts, took, omega (arith, le, more), few)

-- the port's node run, if the record is received
arrives_took : (c : Setting) (program : List Instr) (port : ℕ) (spec : PortSpec) (bytes : List ℕ) (w w' : World) (outcome : Outcome) (answers : List Bool) →
    Arrives c program port spec bytes w outcome answers w' →
    ConsumedAtMost w w' (max_steps_of (replicate (runs_of outcome) program)) (runs_of outcome)
arrives_took c program port spec bytes w w' Oversize answers (_, _, is) =
    none_took w w' 0 (ap (λ (w : World). w.steps) is) (ap (λ (w : World). w.cuts) is)
arrives_took c program port spec bytes w w' NoBuffer answers (_, _, _, is) =
    none_took w w' 0 (ap (λ (w : World). w.steps) is) (ap (λ (w : World). w.cuts) is)
arrives_took c program port spec bytes w w' Got answers r =
    let (steps, cuts, took, le, few) = node_took c program _ port _ w' r.later r.run in
    (steps, cuts, record { steps_are = took.steps_are; cuts_are = took.cuts_are }, omega (arith, le), few)

-- node runs on packets of rings
served_took : (c : Setting) (programs ran : List (List Instr)) (w w' : World) → HasServed c programs ran w w' →
    ConsumedAtMost w w' (max_steps_of ran) (length ran)
served_took c programs [] w w' is = none_took w w' 0 (ap (λ (w : World). w.steps) is) (ap (λ (w : World). w.cuts) is)
served_took c programs (program ∷ later) w w' (next, answers, mid, e, is_program, run, served) =
    let (steps, cuts, took, le, few) = node_took c program next.packet next.ring (record w { rings = next.rings }) mid answers run in
    let one_more : 1 + length later ≡ length (program ∷ later) = omega arith in
    subst (ConsumedAtMost w w' (max_steps_of (program ∷ later))) one_more
    (took_both w mid w' (max_steps program) 1 (max_steps_of later) (length later)
    (steps, cuts, record { steps_are = took.steps_are; cuts_are = took.cuts_are }, le, few) (served_took c programs later mid w' served))

-- a turn, and the programs of its node runs
pub turn_took : (c : Setting) (nodes : Nodes) (port : ℕ) (bytes : List ℕ) (w w' : World) (outcome : Outcome) (runs : ℕ) (answers : List Bool) →
    (t : Turn c nodes port bytes w outcome runs answers w') →
    (runs ≤ 33) × (ran : List (List Instr)) × AreProgramsOf t ran × ConsumedAtMost w w' (max_steps_of ran) runs
turn_took c nodes port bytes w w' outcome runs answers t =
    let s = serves_is c nodes.rings 32 t.mid t.later t.more w' t.serves in
    let all = counted outcome s.ran t.more s.count in
    let first = arrives_took c t.program port t.spec bytes w t.mid outcome t.now t.arrives in
    let others = subst (ConsumedAtMost t.mid w' (max_steps_of s.ran)) s.count (served_took c nodes.rings s.ran t.mid w' s.served) in (
      omega (arith, few outcome t.more s.few, t.runs_is),
      replicate (runs_of outcome) t.program ++ s.ran,
      record { served = s.ran; has_served = s.served; ran_are = refl; count = all ∙ sym t.runs_is },
      subst (ConsumedAtMost w w' (max_steps_of (replicate (runs_of outcome) t.program ++ s.ran))) (sym t.runs_is)
          (took_more w w' (max_steps_of (replicate (runs_of outcome) t.program) + max_steps_of s.ran)
          (max_steps_of (replicate (runs_of outcome) t.program ++ s.ran)) (runs_of outcome + t.more) (joins outcome s.ran)
          (took_both w t.mid w' (max_steps_of (replicate (runs_of outcome) t.program)) (runs_of outcome) (max_steps_of s.ran) t.more first others)),
    )
  where
    few : (o : Outcome) (more : ℕ) → more ≤ 32 → runs_of o + more ≤ 33
    few Got more le = omega (arith, le)
    few NoBuffer more le = omega (arith, le)
    few Oversize more le = omega (arith, le)

    counted : (o : Outcome) (served : List (List Instr)) (more : ℕ) → length served ≡ more →
        length (replicate (runs_of o) t.program ++ served) ≡ runs_of o + more
    counted Got served more e = omega (arith, e)
    counted NoBuffer served more e = omega (arith, e)
    counted Oversize served more e = omega (arith, e)

    joins : (o : Outcome) (served : List (List Instr)) →
        max_steps_of (replicate (runs_of o) t.program) + max_steps_of served ≤ max_steps_of (replicate (runs_of o) t.program ++ served)
    joins Got served = omega arith
    joins NoBuffer served = omega arith
    joins Oversize served = omega arith

-- ---- by the longest program of a pipeline
served_short : (c : Setting) (programs : List (List Instr)) (most : ℕ) (ran : List (List Instr)) (w w' : World) → AreShort most programs →
    HasServed c programs ran w w' → max_steps_of ran ≤ length ran * (257 * most)
served_short c programs most [] w w' short is = omega arith
served_short c programs most (program ∷ later) w w' short (next, answers, mid, e, is_program, run, served) =
    omega (arith, short next.ring program is_program, served_short c programs most later mid w' short served)

pub turn_short : (c : Setting) (nodes : Nodes) (port : ℕ) (bytes : List ℕ) (w w' : World) (outcome : Outcome) (runs : ℕ) (answers : List Bool) (most : ℕ)
    (ran : List (List Instr)) (t : Turn c nodes port bytes w outcome runs answers w') → AreProgramsOf t ran → AreShort most nodes.ports →
    AreShort most nodes.rings → max_steps_of ran ≤ runs * (257 * most)
turn_short c nodes port bytes w w' outcome runs answers most ran t h ports rings =
    subst (λ n. max_steps_of ran ≤ n * (257 * most)) h.count
    (subst (λ x. max_steps_of x ≤ length x * (257 * most)) (sym h.ran_are)
    (both outcome (served_short c nodes.rings most h.served t.mid w' rings h.has_served)))
  where
    both : (o : Outcome) → max_steps_of h.served ≤ length h.served * (257 * most) →
        max_steps_of (replicate (runs_of o) t.program ++ h.served) ≤ length (replicate (runs_of o) t.program ++ h.served) * (257 * most)
    both Got le = omega (arith, le, ports port t.program t.program_is)
    both NoBuffer le = le
    both Oversize le = le
