-- Node runs of accepted programs keep the world well formed, take few steps, and can end.
use Rattle.std.proofs.Common.{◌≡◌, ℕ, zero, suc, ◌+◌, ◌*◌, ◌≤◌, Bool, List, [], ◌++◌, length, refl, sym, ap, subst, arith}
use Rattle.dp_model.specs.declared.instr.Instr.{Instr}
use Rattle.dp_model.specs.Packets.{Packet, AreOwned}
use Rattle.dp_model.specs.Rules.{Question, IsCertified}
use Rattle.dp_model.specs.Machine.{Setting, World, State, live, segments_held, segments_listed, Next, At, Ended, Move, Step}
use Rattle.dp_model.specs.Runs.{Then, StepsTo, first_state, between}
use Rattle.dp_model.specs.Safety.{ArePackets, BeginsWell, IsSafeRun, Beginning, IsSafeBeginning, LeadsWithin}
use Rattle.dp_model.proofs.RunFolds.{goes_keeps}
use Rattle.dp_model.proofs.Soundness.{step_safe, acts_label}
use Rattle.dp_model.proofs.Budget.{step_label}
use Rattle.dp_model.specs.Laws.StepsWithin.{step_within}
use Rattle.dp_model.proofs.CountSteps.{IsCloser, step_closer, goes_short}
use Rattle.dp_model.specs.Laws.Steps.{room_left}
use Rattle.dp_model.proofs.NodeRuns.{Reached, goes_known, begins_known, accepted_is_sound}
use Rattle.dp_model.proofs.OwnedSteps.{HasOwners, step_owned}
use Rattle.dp_model.proofs.PacketSteps.{goes_packets}

-- ---- ownership along a run, of any program

pub goes_owned : (c : Setting) (program : List Instr) (n label : ℕ) (s : State) (answers : List Bool) (next : Next) (s' : State) → HasOwners c s →
    StepsTo c program n label s answers next s' → HasOwners c s'
goes_owned c program = goes_keeps c program (HasOwners c) (step_owned c program)

-- ---- a run can end

-- a run from a label to the end
abbrev pub CanEnd : Setting → List Instr → ℕ → State → Type 0
CanEnd c program label s = (n : ℕ) × (answers : List Bool) × (s' : State) × StepsTo c program n label s answers Ended s'

then_at : (x : Next) (l : ℕ) (go : ℕ → Type 0) (over : Type 0) → x ≡ At l → go l → Then x go over
then_at x l go over e h = subst (λ y. Then y go over) (sym e) h

then_over : (x : Next) (go : ℕ → Type 0) (over : Type 0) → x ≡ Ended → over → Then x go over
then_over x go over e h = subst (λ y. Then y go over) (sym e) h

-- each step leads further, and the number of steps is limited
pub run_ends : (c : Setting) (q : Question) → c.env ≡ q.env → IsCertified q → (left label : ℕ) (s : State) →
    257 * length q.program ≤ left + (label + s.jumps * length q.program) → s.jumps ≤ 256 → Reached c q (At label) s → CanEnd c q.program label s
run_ends c q env accepted zero label s few within reached = absurd (omega (arith, few, room_left q.program label s.jumps reached.2 within))
run_ends c q env accepted (suc left) label s few within ((row, er, known), inside, is_label) =
    let safe = step_safe c q label row s env accepted is_label er known inside in
    let (m, st) = safe.has_step in
    go m st m.next refl (step_closer c q.program label s m is_label within st) (
      safe.stays m st,
      step_within c q.program label s m inside st,
      step_label c q.program label s m st,
    ) (λ l more room there. run_ends c q env accepted left l m.state more room there)
  where
    go : (m : Move) → Step c q.program label s m → (x : Next) → m.next ≡ x → IsCloser q.program label s.jumps x m.state.jumps → Reached c q x m.state →
        ((l : ℕ) → 257 * length q.program ≤ left + (l + m.state.jumps * length q.program) → m.state.jumps ≤ 256 → Reached c q (At l) m.state →
        CanEnd c q.program l m.state) → CanEnd c q.program label s
    go m st (At l) e (_, room, further) there on =
        let (n, answers, s', goes) = on l (omega (arith, few, further)) room there in
        (suc n, m.answers ++ answers, s', (m, answers, st, refl, then_at m.next l _ _ e goes))
    go m st Ended e closer there on = (1, m.answers ++ [], m.state, (m, [], st, refl, then_over m.next _ _ e (refl, refl, refl, refl)))

-- ---- a node run

-- at the end no register holds a packet, so rings and transmit lists hold all that is live
pub ended_owned : (c : Setting) (s : State) → segments_held s.packets ≡ [] → HasOwners c s → AreOwned c.env.pools (live (between s.world))
ended_owned c s none owned =
    subst (AreOwned c.env.pools) (ap (λ held. held ++ (segments_listed s.world.rings ++ segments_listed s.world.outboxes)) none) owned

ended_packets : (s : State) → ArePackets s → ArePackets (between s.world)
ended_packets s are = record { held = tt; rings = are.rings; outboxes = are.outboxes }

pub accepted_is_safe : (c : Setting) (q : Question) (k : Packet) (number : ℕ) (w : World) → IsCertified q → BeginsWell c q k number w → IsSafeRun c q k number w
accepted_is_safe c q k number w accepted well =
    let begins = well.begins in
    let start = begins_known c q k number w accepted begins in
    let sound = accepted_is_sound c q k number w accepted begins in
    record {
      begins = (begins.row, begins.row_is, begins.known.row_holds);
      stays = λ n label answers s goes. record {
        row = sound.rows n label answers s goes;
        rings = (sound.rows n label answers s goes).2.world_holds.rings;
        well_formed = record {
          within = (goes_known c q begins.env accepted n 0 (first_state k number w) answers (At label) s start goes).1;
          owned = goes_owned c q.program n 0 (first_state k number w) answers (At label) s well.owned goes;
        };
        packets = goes_packets c q.program n 0 (first_state k number w) answers (At label) s well.packets goes;
        has_step = sound.never_stuck n label answers s goes;
      };
      short = λ n answers next s goes. omega (arith, goes_short c q.program n 0 (first_state k number w) answers next s start.2 (omega arith) goes);
      ends = let (n, answers, s, goes) = run_ends c q begins.env accepted (257 * length q.program) 0 (first_state k number w) (omega arith)
          (omega arith) start in (answers, s.world, (n, s, goes, refl));
      rests = λ answers w' (n, s, goes, is). record {
        ready = sound.ends answers w' (n, s, goes, is);
        packets = subst (λ x. ArePackets (between x)) (sym is) (ended_packets s
            (goes_packets c q.program n 0 (first_state k number w) answers Ended s well.packets goes));
        owned = let (here, _, _) = goes_known c q begins.env accepted n 0 (first_state k number w) answers Ended s start goes in
            subst (λ x. AreOwned c.env.pools (live (between x))) (sym is)
            (ended_owned c s here.2 (goes_owned c q.program n 0 (first_state k number w) answers Ended s well.owned goes));
      };
    }

-- ---- a safe node run goes from instruction to instruction

pub leads_within : (c : Setting) (b : Beginning) → IsSafeBeginning c b → LeadsWithin c b
leads_within c b s = subst (λ p. LeadsWithin c (record b { program = p })) s.program_is (λ n label answers state i m goes here acts.
    let at = s.safe.stays n label answers state goes in
    acts_label c s.question label at.row.0 state (sym s.env_is) s.accepted at.row.1 at.row.2 at.well_formed.within i m here acts)
