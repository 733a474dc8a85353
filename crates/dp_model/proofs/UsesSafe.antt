-- Uses in stretches keep what runs keep.
use Rattle.std.proofs.Common.{◌≡◌, ◌+◌, List, [], ◌∷◌, ◌++◌, length, sym, ◌∙◌, ap, subst, arith, length-append}
use Rattle.std.specs.List.{AllByRecursion}
use Rattle.dp_model.specs.Prefixes.{Route}
use Rattle.dp_model.specs.Machine.{Setting, World, live, segments_listed}
use Rattle.dp_model.specs.Meaning.{TablesFit}
use Rattle.dp_model.specs.Runs.{between, Nodes, with_empty_rings}
use Rattle.dp_model.specs.Starts.{IsStart}
use Rattle.dp_model.specs.Safety.{IsAtRest, Beginning, IsSafeBeginning, IsPipeline}
use Rattle.dp_model.specs.Laws.Lists.{all_right}
use Rattle.dp_model.specs.Laws.Runs.{start_rest, nothing_mapped}
use Rattle.dp_model.specs.Laws.Waiting.{nothing_listed}
use Rattle.dp_model.specs.Uses.{Stretch, Uses, AllFit, IsOfUse, KeepsUsesSafe, answers_of, with_tables}
use Rattle.dp_model.proofs.SafeWhole.{run_rest, run_runs_safe}
use Rattle.dp_model.proofs.RunEnds.{run_outboxes, run_counts}

-- a pipeline is one with other tables
pub retabled_pipeline : (c : Setting) (nodes : Nodes) (tables : List (List Route)) → IsPipeline c nodes → IsPipeline (with_tables tables c) nodes
retabled_pipeline c nodes tables p = record {
  limits = p.limits;
  checked = record { ports = p.checked.ports; rings = p.checked.rings; rooms = p.checked.rooms; facts = p.checked.facts };
  ports = p.ports;
  rings = p.rings;
}

-- a world at rest stays so when the tables change
pub retabled_rest : (c : Setting) (tables now : List (List Route)) (w : World) → TablesFit (with_tables now c) → IsAtRest (with_tables tables c) w
    → IsAtRest (with_tables now c) w
retabled_rest c tables now w fit rest = record {
  ready = record {
    world = record { rings = rest.ready.world.rings; outboxes = rest.ready.world.outboxes };
    tables = fit;
    within = record { rooms = rest.ready.within.rooms; bytes = rest.ready.within.bytes; lie = rest.ready.within.lie };
  };
  owned = rest.owned;
  packets = rest.packets;
}

-- after a use the world is at rest
pub use_rest : {T : Type 0} (c : Setting) (nodes : Nodes) (stretches : List (Stretch T)) (first now : List (List Route)) (w w' : World) → IsPipeline c nodes
    → AllFit c stretches → IsAtRest (with_tables first c) w → TablesFit (with_tables now c) → Uses c nodes stretches w w' → IsAtRest (with_tables now c) w'
use_rest c nodes [] first now w w' pipeline fit rest fits is =
    subst (IsAtRest (with_tables now c)) (sym is) (retabled_rest c first now w fits rest)
use_rest c nodes (s ∷ earlier) first now w w' pipeline (fit, others) rest fits (mid, uses, run) =
    let before = use_rest c nodes earlier first s.tables w mid pipeline others rest fit uses in
    retabled_rest c s.tables now w' fits
    (run_rest (with_tables s.tables c) nodes s.arrivals mid w' s.shown (retabled_pipeline c nodes s.tables pipeline) before run)

-- each of its node runs is safe
pub use_runs_safe : {T : Type 0} (c : Setting) (nodes : Nodes) (stretches : List (Stretch T)) (first : List (List Route)) (w : World) (b : Beginning)
    → IsPipeline c nodes → AllFit c stretches → IsAtRest (with_tables first c) w → (of : IsOfUse c nodes stretches w b)
    → IsSafeBeginning (with_tables of.stretch.tables c) b
use_runs_safe {T} c nodes stretches first w b pipeline fit rest of =
    let Fits : Stretch T → Type 0 = λ s. TablesFit (with_tables s.tables c) in
    let (here, others) : Fits of.stretch × AllByRecursion Fits of.earlier =
    all_right Fits of.later (of.stretch ∷ of.earlier) (subst (AllByRecursion Fits) of.stretches_are fit) in
    run_runs_safe (with_tables of.stretch.tables c) nodes of.stretch.arrivals of.last b (retabled_pipeline c nodes of.stretch.tables pipeline)
    (use_rest c nodes of.earlier first of.stretch.tables w of.last pipeline others rest here of.uses) of.of_run

-- from the start on
pub use_keeps : {T : Type 0} (c : Setting) (nodes : Nodes) (stretches : List (Stretch T)) (w : World) → TablesFit c → IsPipeline c nodes → AllFit c stretches
    → IsStart c.env w → KeepsUsesSafe c nodes stretches w
use_keeps c nodes stretches w tables pipeline fit start =
    let rest : IsAtRest (with_tables c.tables c) w = start_rest c w tables start in
    record {
      runs = λ b of. use_runs_safe c nodes stretches c.tables w b pipeline fit rest of;
      rests = λ now w' fits uses. use_rest c nodes stretches c.tables now w w' pipeline fit rest fits uses;
    }

-- ---- the end

use_outboxes : {T : Type 0} (c : Setting) (nodes : Nodes) (stretches : List (Stretch T)) (w w' : World) → segments_listed w.outboxes ≡ []
    → Uses c nodes stretches w w' → segments_listed w'.outboxes ≡ []
use_outboxes c nodes [] w w' none is = ap (λ (x : World). segments_listed x.outboxes) is ∙ none
use_outboxes c nodes (s ∷ earlier) w w' none (mid, uses, run) =
    run_outboxes (with_tables s.tables c) nodes s.arrivals mid w' s.shown (use_outboxes c nodes earlier w mid none uses) run

-- where what waits in rings is freed nothing is live
pub use_ends : {T : Type 0} (c : Setting) (nodes : Nodes) (stretches : List (Stretch T)) (w w' : World) → IsStart c.env w
    → Uses c nodes stretches w w' → live (between (with_empty_rings w')) ≡ []
use_ends c nodes stretches w w' start uses =
    let none : segments_listed w.outboxes ≡ [] = ap segments_listed start.outboxes ∙ nothing_mapped c.env.ports in
    ap (λ xs. xs ++ segments_listed w'.outboxes) (nothing_listed w'.rings) ∙ use_outboxes c nodes stretches w w' none uses

-- the allocation calls are those that were answered
pub use_counts : {T : Type 0} (c : Setting) (nodes : Nodes) (stretches : List (Stretch T)) (w w' : World) → Uses c nodes stretches w w'
    → w'.calls ≡ w.calls + length (answers_of stretches)
use_counts c nodes [] w w' is = let same : w'.calls ≡ w.calls = ap (λ (x : World). x.calls) is in omega (arith, same)
use_counts c nodes (s ∷ earlier) w w' (mid, uses, run) =
    omega (
      arith,
      use_counts c nodes earlier w mid uses,
      run_counts (with_tables s.tables c) nodes s.arrivals mid w' s.shown run,
      length-append (answers_of earlier) s.shown.answers,
    )
