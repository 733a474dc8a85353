-- A turn of a pipeline makes few allocation calls: one for its record, and at most one for each step of its node runs.
use Rattle.std.proofs.Common.{◌≡◌, ℕ, suc, ◌+◌, ◌*◌, ◌≤◌, Bool, List, length, ◌∙◌, ap, arith, length-append}
use Rattle.dp_model.specs.declared.env.PortSpec.{PortSpec}
use Rattle.dp_model.specs.declared.instr.Instr.{Instr}
use Rattle.dp_model.specs.Packets.{Packet}
use Rattle.dp_model.specs.Machine.{Setting, World, Ended}
use Rattle.dp_model.specs.Runs.{first_state, NodeRun, max_steps, Outcome, Got, NoBuffer, Oversize, Arrives, Serves, Nodes, Turn}
use Rattle.dp_model.specs.Safety.{IsAtRest, IsPipeline, AreShort}
use Rattle.dp_model.specs.Laws.Steps.{goes_counts}
use Rattle.dp_model.proofs.RunFolds.{serves_fold}
use Rattle.dp_model.proofs.BudgetLaws.{short_run}
use Rattle.dp_model.proofs.RunEnds.{turn_counts}

node_calls : (c : Setting) (program : List Instr) (k : Packet) (number : ℕ) (w w' : World) (answers : List Bool) → NodeRun c program k number w answers w' →
    length answers ≤ max_steps program
node_calls c program k number w w' answers (n, s, goes, is) =
    omega (arith, (goes_counts c program n 0 (first_state k number w) answers Ended s goes).few, short_run c program n k number w answers Ended s goes)

arrives_calls : (c : Setting) (program : List Instr) (most port : ℕ) (spec : PortSpec) (bytes : List ℕ) (w w' : World) (outcome : Outcome)
    (answers : List Bool) → length program ≤ most → Arrives c program port spec bytes w outcome answers w' → length answers ≤ 1 + 257 * most
arrives_calls c program most port spec bytes w w' Oversize answers short (_, none, _) =
    let long : length answers ≡ 0 = ap length none in omega (arith, long)
arrives_calls c program most port spec bytes w w' NoBuffer answers short (_, _, one, _) =
    let long : length answers ≡ 1 = ap length one in omega (arith, long)
arrives_calls c program most port spec bytes w w' Got answers short r =
    let long : length answers ≡ suc (length r.later) = ap length r.answers_are in
    omega (arith, long, short, node_calls c program _ port _ w' r.later r.run)

serves_calls : (c : Setting) (programs : List (List Instr)) (most n : ℕ) (w w' : World) (answers : List Bool) (runs : ℕ) → AreShort most programs →
    Serves c programs n w answers runs w' → length answers ≤ n * (257 * most)
serves_calls c programs most n w w' answers runs short = serves_fold c programs (λ n w w' answers runs. length answers ≤ n * (257 * most))
    (λ n w why. omega arith)
    (λ n more w mid w' next program now later e is_program run few. omega (
      arith,
      few,
      length-append now later,
      short next.ring program is_program,
      node_calls c program next.packet next.ring (record w { rings = next.rings }) mid now run,
    ))
    n w w' answers runs

-- a turn
pub turn_calls : (c : Setting) (nodes : Nodes) (most port : ℕ) (bytes : List ℕ) (w w' : World) (outcome : Outcome) (runs : ℕ) (answers : List Bool) →
    IsPipeline c nodes → AreShort most nodes.ports → AreShort most nodes.rings → IsAtRest c w → Turn c nodes port bytes w outcome runs answers w' →
    (w'.calls ≡ w.calls + length answers) × (length answers ≤ 1 + 33 * (257 * most))
turn_calls c nodes most port bytes w w' outcome runs answers pipeline ports rings rest t =
    let long : length answers ≡ length t.now + length t.later = ap length t.answers_are ∙ length-append t.now t.later in (
      turn_counts c nodes port bytes w w' outcome runs answers t,
      omega (
        arith,
        long,
        arrives_calls c t.program most port t.spec bytes w t.mid outcome t.now (ports port t.program t.program_is) t.arrives,
        serves_calls c nodes.rings most 32 t.mid w' t.later t.more rings t.serves,
      ),
    )
