-- Runs and stretches, one after the other, that are one.
use Rattle.std.proofs.Common.{◌≡◌, ℕ, zero, suc, List, [], ◌∷◌, ◌++◌, length, replicate, sym, ◌∙◌, ap, subst, arith, append_assoc}
use Rattle.std.proofs.lemmas.List.{length-map, length-replicate}
use Rattle.dp_model.specs.Machine.{Setting, World}
use Rattle.dp_model.specs.Runs.{Nodes, Arrival, Observed, Run, joined, records_at, with_empty_outboxes}
use Rattle.dp_model.specs.Safety.{IsAtRest, IsPipeline}
use Rattle.dp_model.specs.Starts.{IsStart}
use Rattle.dp_model.specs.Meaning.{TablesFit}
use Rattle.dp_model.specs.Laws.Runs.{joined_none_left, joined_assoc, start_rest}
use Rattle.dp_model.specs.Uses.{Stretch, Uses, AllFit, with_tables, shown_then, joined_stretch}
use Rattle.dp_model.proofs.SafeTurns.{turn_rest}
use Rattle.dp_model.proofs.SafeWhole.{drained_rest}
use Rattle.dp_model.proofs.UsesSafe.{retabled_pipeline, use_rest}

joined_long : {A : Type 0} (n : ℕ) (xs ys : List (List A)) → length xs ≡ n → length ys ≡ n → length (joined xs ys) ≡ n
joined_long n [] ys long long' = long
joined_long zero (x ∷ xs) ys long long' = absurd (omega (arith, long))
joined_long (suc n) (x ∷ xs) [] long long' = absurd (omega (arith, long'))
joined_long (suc n) (x ∷ xs) (y ∷ ys) long long' = ap suc (joined_long n xs ys (omega (arith, long)) (omega (arith, long')))

-- a run has a capture for each port
run_long : {T : Type 0} (c : Setting) (nodes : Nodes) (arrivals : List (Arrival T)) (w w' : World) (shown : Observed T) → IsPipeline c nodes → IsAtRest c w
    → Run c nodes arrivals w shown w' → length shown.captures ≡ length c.env.ports
run_long {T} c nodes [] w w' shown pipeline rest (none, _) =
    ap (λ (s : Observed T). length s.captures) none ∙ length-replicate (length c.env.ports) []
run_long {T} c nodes (a ∷ arrivals) w w' shown pipeline rest (outcome, answers, runs, mid, others, turn, run, is) =
    let after = turn_rest c nodes a.port a.bytes w mid outcome runs answers pipeline rest turn in
    ap (λ (s : Observed T). length s.captures) is
    ∙ joined_long (length c.env.ports) (records_at a.time mid) others.captures (length-map mid.outboxes _ ∙ after.ready.world.outboxes)
    (run_long c nodes arrivals (with_empty_outboxes mid) w' others pipeline (drained_rest c mid after) run)

-- two runs, one after the other, are one
pub run_join : {T : Type 0} (c : Setting) (nodes : Nodes) (arrivals more : List (Arrival T)) (w v w' : World) (shown shown' : Observed T) → IsPipeline c nodes
    → IsAtRest c w → Run c nodes arrivals w shown v → Run c nodes more v shown' w' → Run c nodes (arrivals ++ more) w (shown_then shown shown') w'
run_join {T} c nodes [] more w v w' shown shown' pipeline rest (none, is) run' =
    let here : Run c nodes more w shown' w' = subst (λ (x : World). Run c nodes more x shown' w') is run' in
    let nothing : Observed T = record { answers = []; outcomes = []; captures = replicate (length c.env.ports) [] } in
    let long = run_long c nodes more w w' shown' pipeline rest here in
    let captures = joined_none_left (length c.env.ports) shown'.captures long in
    let same : shown' ≡ shown_then nothing shown' =
    λ i. record { answers = shown'.answers; outcomes = shown'.outcomes; captures = (sym captures) i } in
    subst (λ (s : Observed T). Run c nodes more w s w') (same ∙ ap (λ (s : Observed T). shown_then s shown') (sym none)) here
run_join {T} c nodes (a ∷ arrivals) more w v w' shown shown' pipeline rest (outcome, answers, runs, mid, others, turn, run, is) run' =
    let after = drained_rest c mid (turn_rest c nodes a.port a.bytes w mid outcome runs answers pipeline rest turn) in (
      outcome,
      answers,
      runs,
      mid,
      shown_then others shown',
      turn,
      run_join c nodes arrivals more (with_empty_outboxes mid) v w' others shown' pipeline after run run',
      ap (λ (s : Observed T). shown_then s shown') is ∙ (λ i. record {
        answers = append_assoc answers others.answers shown'.answers i;
        outcomes = outcome ∷ (others.outcomes ++ shown'.outcomes);
        captures = joined_assoc (records_at a.time mid) others.captures shown'.captures i;
      }),
    )

-- two stretches with the same tables, one after the other, are one
pub use_join : {T : Type 0} (c : Setting) (nodes : Nodes) (later : List (Stretch T)) (b a : Stretch T) (earlier : List (Stretch T)) (w w' : World)
    → TablesFit c → IsPipeline c nodes → AllFit c (later ++ (b ∷ a ∷ earlier)) → IsStart c.env w → b.tables ≡ a.tables
    → Uses c nodes (later ++ (b ∷ a ∷ earlier)) w w' → Uses c nodes (later ++ (joined_stretch a b ∷ earlier)) w w'
use_join {T} c nodes [] b a earlier w w' tables pipeline (_, (fit, fits)) start same (v, (u, uses, first), second) =
    let rest = use_rest c nodes earlier c.tables a.tables w u pipeline fits (start_rest c w tables start) fit uses in
    let second_now = subst (λ (ts : List (List _)). Run (with_tables ts c) nodes b.arrivals v b.shown w') same second in (
      u,
      uses,
      run_join (with_tables a.tables c) nodes a.arrivals b.arrivals u v w' a.shown b.shown (retabled_pipeline c nodes a.tables pipeline) rest first second_now,
    )
use_join {T} c nodes (s ∷ later) b a earlier w w' tables pipeline (_, fits) start same (mid, uses, run) =
    (mid, use_join c nodes later b a earlier w mid tables pipeline fits start same uses, run)

-- a use without a change is a run
pub use_is_run : {T : Type 0} (c : Setting) (nodes : Nodes) (s : Stretch T) (w w' : World) → s.tables ≡ c.tables → Uses c nodes (s ∷ []) w w'
    → Run c nodes s.arrivals w s.shown w'
use_is_run {T} c nodes s w w' same (mid, is, run) =
    subst (λ (ts : List (List _)). Run (with_tables ts c) nodes s.arrivals w s.shown w') same
    (subst (λ (x : World). Run (with_tables s.tables c) nodes s.arrivals x s.shown w') is run)
