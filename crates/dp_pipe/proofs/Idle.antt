-- The report of an engine that took no turn.
use Rattle.std.proofs.Common.{◌≡◌, ℕ, zero, suc, ◌+◌, ◌≤◌, List, [], ◌∷◌, length, map, take, replicate, refl, sym, ◌∙◌, ap, arith, zero-add}
use Rattle.std.specs.Prelude.{if◌then◌else◌}
use Rattle.std.specs.List.{AllByRecursion}
use Rattle.std.proofs.lemmas.Bool.{lt-leb}
use Rattle.std.proofs.lemmas.List.{length-map}
use Rattle.dp_model.specs.declared.env.PortSpec.{PortSpec}
use Rattle.dp_model.specs.declared.env.RingSpec.{RingSpec}
use Rattle.dp_model.specs.Packets.{Packet}
use Rattle.dp_engine.specs.declared.report.InputState.{InputState}
use Rattle.dp_engine.specs.declared.report.InputState.TheVariants.{Open}
use Rattle.dp_engine.specs.declared.report.Report.{Report}
use Rattle.dp_engine.specs.Engines.{EngineState, IsAscending, no_tallies, with_left}
use Rattle.dp_engine.specs.Reports.{port_report}
use Rattle.dp_engine.specs.Tallies.{refused_of}
use Rattle.dp_pipe.specs.declared.forwarding.InputProgress.{InputProgress}
use Rattle.dp_load.specs.Pipelines.{Plan}
use Rattle.dp_pipe.specs.Running.{IsBegun, IsFirst, IsIdle, IsReportOf, with_states}
use Rattle.dp_pipe.proofs.Numbers.{left_only}

-- open inputs leave the counts of their ports as they are
open_ports : (progress : List InputProgress) (specs : List PortSpec) (most : ℕ) → AllByRecursion IsBegun progress → length specs ≤ most
    → with_states (map (λ (x : InputProgress). x.state) progress) (map (port_report Open) (take (length specs) (replicate most no_tallies)))
    ≡ map (λ _. port_report Open no_tallies) specs
open_ports [] [] most begun few = refl
open_ports (x ∷ progress) [] most begun few = refl
open_ports progress (spec ∷ specs) zero begun few = absurd (omega (arith, few))
open_ports [] (spec ∷ specs) (suc most) begun few = ap (λ l. port_report Open no_tallies ∷ l) (open_ports [] specs most tt (omega (arith, few)))
open_ports (x ∷ progress) (spec ∷ specs) (suc most) begun few =
    ap (λ (s : InputState). port_report s no_tallies ∷ with_states (map (λ (y : InputProgress). y.state) progress)
    (map (port_report Open) (take (length specs) (replicate most no_tallies)))) begun.0.state
    ∙ ap (λ l. port_report Open no_tallies ∷ l) (open_ports progress specs most begun.1 (omega (arith, few)))

no_packets : (specs : List RingSpec) → map (λ (packets : List Packet). length packets) (map (λ _. []) specs) ≡ map (λ _. 0) specs
no_packets [] = refl
no_packets (spec ∷ specs) = ap (λ l. 0 ∷ l) (no_packets specs)

-- a pattern begins at 1
none_refused : (least : ℕ) (pattern : List ℕ) → IsAscending least pattern → refused_of pattern 0 ≡ 0
none_refused least [] ascends = refl
none_refused least (n ∷ pattern) (more, ascends) =
    ap (λ b. (if b then 1 else 0) + refused_of pattern 0) (lt-leb n 0 (omega (arith, more))) ∙ zero-add (refused_of pattern 0) ∙ none_refused n pattern ascends

pub idle_reported : {p : Plan} {pattern : List ℕ} {first : EngineState} {progress : List InputProgress} {r : Report} → IsFirst p pattern first
    → IsAscending 0 pattern
    → length p.env.ports ≤ 8 → length p.env.rings ≤ 8 → AllByRecursion IsBegun progress → IsReportOf first progress r → IsIdle p.env r
idle_reported {p = p} {pattern = pattern} {first = first} {progress = progress} {r = r} is ascends few_ports few_rings begun reported =
    let states = map (λ (x : InputProgress). x.state) progress in
    let none : RingSpec → ℕ = λ _. 0 in
    record {
      ports = (rw (is.setting, is.tallies) at reported.ports) ∙ open_ports progress p.env.ports 8 begun few_ports;
      rings = (rw (is.setting, is.left, is.start.rings, no_packets p.env.rings) at reported.rings)
          ∙ ap (λ n. take n (with_left (replicate 8 0) (map none p.env.rings))) (sym (length-map p.env.rings none))
          ∙ left_only 8 (map none p.env.rings) (omega (arith, few_rings, length-map p.env.rings none));
      pools = rw is.setting at reported.pools;
      calls = reported.calls ∙ is.start.calls;
      refused = (rw (is.setting, is.start.calls) at reported.refused) ∙ none_refused 0 pattern ascends;
      cut = reported.cut ∙ is.start.cuts;
    }
