-- What an engine has served is a use of its pipeline, event by event, and the promise holds of such uses.
use Rattle.std.proofs.Common.{◌≡◌, ℕ, zero, suc, ◌+◌, ◌≤◌, List, [], ◌∷◌, ◌++◌, length, map, replicate, Option, Some, None, inl, inr, refl, sym}
use Rattle.std.proofs.Common.{◌∙◌, ap, subst, arith}
use Rattle.std.proofs.Common.{append_assoc}
use Rattle.std.specs.Prelude.{true, reverse}
use Rattle.std.proofs.lemmas.List.{append-nil, length-map, reverse-append, reverse-reverse}
use Rattle.dp_lpm.specs.declared.error.LpmError.{LpmError}
use Rattle.dp_lpm.specs.Changes.{HasTable}
use Rattle.dp_lpm.specs.Routes.{RouteTable}
use Rattle.dp_model.specs.declared.env.PoolSpec.{PoolSpec}
use Rattle.dp_model.specs.Buffers.{Number, Buffers}
use Rattle.dp_model.specs.Environments.{fault_of, count_at}
use Rattle.dp_model.specs.Machine.{Setting, World, live}
use Rattle.dp_model.specs.Meaning.{TablesFit}
use Rattle.dp_model.specs.Prefixes.{hop_for}
use Rattle.dp_model.specs.Packets.{Packet, available, is_free, packet_bytes}
use Rattle.dp_model.specs.CopyMachine.{Captures}
use Rattle.dp_model.specs.Runs.{Nodes, Arrival, Run, Observed, between, drained, joined, records_at, with_empty_outboxes, with_empty_rings}
use Rattle.dp_model.specs.Runs.{Turn as IsTurn}
use Rattle.dp_model.specs.Safety.{IsPipeline, KeepsRunsSafe}
use Rattle.dp_model.specs.Starts.{IsStart}
use Rattle.dp_model.specs.Uses.{Stretch, Uses, AllFit, KeepsUsesSafe, joined_stretch, with_tables}
use Rattle.dp_model.specs.Laws.Limits.{numbers_known, numbers_pass}
use Rattle.dp_model.specs.Laws.Runs.{safe_never_stuck}
use Rattle.dp_copies.specs.CopiedUses.{Shown}
use Rattle.dp_engine.specs.Batches as batches
use Rattle.dp_engine.specs.Batches.{Frame, Holds, KeepsRest, Passes, frame_of, frames_in}
use Rattle.dp_engine.specs.declared.batch.BatchSize.{BatchSize}
use Rattle.dp_engine.specs.declared.batch.SentRecord.{SentRecord}
use Rattle.dp_engine.specs.declared.engine.Turn.{Turn}
use Rattle.dp_engine.specs.Engines.{EngineState}
use Rattle.dp_engine.specs.Laws.{plan_of}
use Rattle.dp_engine.specs.Outcomes.{outcome_of}
use Rattle.dp_engine.specs.Rerouting as rerouting
use Rattle.dp_engine.specs.Schemes.{IsScheme, scheme_of}
use Rattle.dp_engine.specs.Steps.{routes_of}
use Rattle.dp_load.specs.Pipelines.{Plan, IsPlan}
use Rattle.dp_pipe.specs.Running.{IsFirst, setting_in, programs_in}
use Rattle.dp_pipe.specs.Laws.{are_nodes, all_checked}
use Rattle.dp_host.specs.Calls.{Call, Change, Event, Passed, Changed, Changes, HasServedCalls, AreOneRun, Promised, arrival_of, frames_by_port, sent_in}
use Rattle.dp_host.specs.declared.refusal.Refusal.{Refusal}
use Rattle.dp_host.specs.declared.numbers.Hop.{Hop}
use Rattle.dp_host.specs.declared.numbers.Room.{Room}
use Rattle.dp_host.specs.Hosts.{Arrays, ChangeAnswers, LookupAnswers, PassAnswers, RefusesChange, RefusesLookup, batch_size_of, empty_room, outcome_number}
use Rattle.dp_host.specs.Hosts.{pass_fault, refusal_number}
use Rattle.dp_host.specs.Calls.{shown_by, stretch_of, stretches_of, tables_after, timed}

-- ---- what is sent

twice : {A B C : Type 0} (g : B → C) (f : A → B) (xs : List A) → map g (map f xs) ≡ map (λ x. g (f x)) xs
twice g f [] = refl
twice {C = C} g f (x ∷ xs) = ap (λ (ys : List C). g (f x) ∷ ys) (twice g f xs)

timed_is : (c : Call) (w : World) → c.sent ≡ sent_in w → timed c ≡ records_at c.time w
timed_is c w is = ap (map (map (λ bytes. (c.time, bytes)))) is ∙ twice (map (λ (bytes : List ℕ). (c.time, bytes))) (drained w.buffers) w.outboxes

list_is : (port : ℕ) (buffers : Buffers) (packets : List Packet) → map (frame_of port buffers) packets
    ≡ map (λ (bytes : List ℕ). (port, bytes)) (drained buffers packets)
list_is port buffers packets = sym (twice (λ (bytes : List ℕ). (port, bytes)) (packet_bytes buffers) packets)

lists_are : (port : ℕ) (buffers : Buffers) (lists : List (List Packet))
    → batches.frames_from port buffers lists ≡ frames_by_port port (map (drained buffers) lists)
lists_are port buffers [] = refl
lists_are port buffers (packets ∷ lists) =
    ap (λ l. l ++ batches.frames_from (port + 1) buffers lists) (list_is port buffers packets)
    ∙ ap (λ l. map (λ (bytes : List ℕ). (port, bytes)) (drained buffers packets) ++ l) (lists_are (port + 1) buffers lists)

pub batch_is : (time : ℕ) (w : World) (records : List SentRecord) (bytes : List ℕ) (filled : BatchSize) → Holds time (frames_in w) records bytes filled
    → Holds time (frames_by_port 0 (sent_in w)) records bytes filled
batch_is time w records bytes filled holds = subst (λ frames. Holds time frames records bytes filled) (lists_are 0 w.buffers w.outboxes) holds

-- ---- events

-- a pipeline's context
ready : (p : Plan) → IsPlan p → IsScheme (scheme_of p.env p.tables p.nodes [])
ready p plan = plan_of p.env p.tables p.nodes [] plan.limits (are_nodes p.env p.nodes plan.nodes) plan.tables (all_checked p.env p.nodes plan.nodes) plan.hops

pub first_served : (p : Plan) (e : EngineState) → IsPlan p → IsFirst p [] e → HasServedCalls p [] e
first_served p e plan is = record {
  plan = plan;
  first = e;
  is_first = is;
  setting = is.setting ∙ ap (λ (ts : List RouteTable). with_tables (routes_of ts) (setting_in p [])) (sym is.tables_are);
  tables = is.tables_are;
  nodes = is.nodes;
  turns = is.turns;
  changes = tt;
  fits = subst TablesFit (sym is.setting) (ready p plan).tables_fit;
  all_fit = tt;
  uses = refl;
}

none_after : {A : Type 0} (n : ℕ) (xs : List (List A)) → length xs ≡ n → joined xs (replicate n []) ≡ xs
none_after zero [] is = refl
none_after zero (x ∷ xs) is = absurd (omega (arith, is))
none_after (suc n) [] is = absurd (omega (arith, is))
none_after {A} (suc n) (x ∷ xs) is = ap (λ (y : List A). y ∷ joined xs (replicate n [])) (append-nil x)
    ∙ ap (λ (ys : List (List A)). x ∷ ys) (none_after n xs (omega (arith, is)))

-- a turn and the drains are a run of one record
run_once : (s : Setting) (nodes : Nodes) (c : Call) (w mid : World) (runs : ℕ) → IsTurn s nodes c.port c.bytes w c.outcome runs c.answers mid
    → length mid.outboxes ≡ length s.env.ports → c.sent ≡ sent_in mid
    → Run s nodes (arrival_of c ∷ []) w (record { answers = c.answers; outcomes = c.outcome ∷ []; captures = timed c }) (with_empty_outboxes mid)
run_once s nodes c w mid runs turn long sent =
    let ports = length s.env.ports in
    let records = records_at c.time mid in
    let captures : timed c ≡ joined records (replicate ports []) =
    timed_is c mid sent ∙ sym (none_after ports records (length-map mid.outboxes _ ∙ long)) in
    let answers : c.answers ≡ c.answers ++ [] = sym (append-nil c.answers) in (
      c.outcome,
      c.answers,
      runs,
      mid,
      record { answers = []; outcomes = []; captures = replicate ports [] },
      turn,
      (refl, refl),
      (λ i. record { answers = answers i; outcomes = c.outcome ∷ []; captures = captures i }),
    )

pub served_more : (p : Plan) (events : List Event) (old new : EngineState) (port : ℕ) (frame : List ℕ) (turn : Turn) (time : ℕ) (records : List SentRecord)
    (bytes : List ℕ) (filled : BatchSize) (pass : Passes old new port frame turn time records bytes filled) → HasServedCalls p events old
    → HasServedCalls p (Passed (record {
      port = port;
      time = time;
      bytes = frame;
      outcome = outcome_of turn.outcome;
      answers = pass.turn_is.turn.0;
      sent = sent_in pass.mid.world;
    }) ∷ events) new
served_more p events old new port frame turn time records bytes filled pass was =
    let mid = pass.mid in
    let t = pass.turn_is in
    let (answers, turned) = t.turn in
    let c : Call = record {
      port = port;
      time = time;
      bytes = frame;
      outcome = outcome_of turn.outcome;
      answers = answers;
      sent = sent_in mid.world;
    } in
    let now : Setting = with_tables (routes_of (tables_after p.tables events)) (setting_in p []) in
    let is_now : old.setting ≡ now = was.setting ∙ ap (λ (ts : List RouteTable). with_tables (routes_of ts) (setting_in p [])) was.tables in
    let tables : new.tables ≡ old.tables = ap (λ (e : EngineState). e.tables) pass.new_is ∙ ap (λ (e : EngineState). e.tables) t.rest in
    let same : mid.setting ≡ old.setting = ap (λ (e : EngineState). e.setting) t.rest in
    let setting : new.setting ≡ old.setting = ap (λ (e : EngineState). e.setting) pass.new_is ∙ same in
    let nodes : new.nodes ≡ old.nodes = ap (λ (e : EngineState). e.nodes) pass.new_is ∙ ap (λ (e : EngineState). e.nodes) t.rest in
    let world : with_empty_outboxes mid.world ≡ new.world = sym (ap (λ (e : EngineState). e.world) pass.new_is) in
    let long : length mid.world.outboxes ≡ length now.env.ports = t.lists ∙ ap (λ (s : Setting). length s.env.ports) (same ∙ is_now) in
    let turn_now : IsTurn now (programs_in p) port frame old.world (outcome_of turn.outcome) turn.runs answers mid.world =
    subst (λ (s : Setting). IsTurn s (programs_in p) port frame old.world (outcome_of turn.outcome) turn.runs answers mid.world) is_now
    (subst (λ (n : Nodes). IsTurn old.setting n port frame old.world (outcome_of turn.outcome) turn.runs answers mid.world) was.nodes turned) in
    let run = run_once now (programs_in p) c old.world mid.world turn.runs turn_now long refl in
    record {
      plan = was.plan;
      first = was.first;
      is_first = was.is_first;
      setting = setting ∙ (was.setting ∙ ap (λ (ts : List RouteTable). with_tables (routes_of ts) (setting_in p [])) (sym tables));
      tables = tables ∙ was.tables;
      nodes = nodes ∙ was.nodes;
      turns = omega (arith, was.turns, ap (λ (e : EngineState). e.turns) t.rest, ap (λ (e : EngineState). e.turns) pass.new_is);
      changes = was.changes;
      fits = subst TablesFit (sym setting) was.fits;
      all_fit = (subst TablesFit is_now was.fits, was.all_fit);
      uses = (
        old.world,
        was.uses,
        subst (λ (w : World). Run now (programs_in p) (arrival_of c ∷ []) old.world (stretch_of (tables_after p.tables events) c).shown w)
            world run,
      );
    }

-- what a pass returns that was taken, and one that was refused
pub pass_taken : (o : Option EngineState) (missing : Refusal) (e e' : EngineState) (port time : ℕ) (frame : List ℕ) (had has : Arrays) (turn : Turn)
    (sent : BatchSize) (filled : Room) (n : ℕ) → o ≡ Some e → Passes e e' port frame turn time has.records has.bytes sent
    → KeepsRest sent had.records has.records had.bytes has.bytes → pass_fault e port (length frame) (length had.records) (length had.bytes) ≡ None
    → n ≡ outcome_number turn.outcome → filled ≡ record { records = sent.records; bytes = sent.bytes }
    → PassAnswers o missing (Some e') port time frame had has filled n
pass_taken o missing e e' port time frame had has turn sent filled n is passes keeps fits number filled_is =
    let size : batch_size_of filled ≡ sent = ap batch_size_of filled_is in
    let w = passes.mid.world in
    subst (λ s. PassAnswers s missing (Some e') port time frame had has filled n) (sym is) (inl (record {
      taken = fits;
      turn = turn;
      number = number;
      passes = subst (Passes e e' port frame turn time has.records has.bytes) (sym size) passes;
      answers = passes.turn_is.turn.0;
      sent = sent_in w;
      batch = subst (Holds time (frames_by_port 0 (sent_in w)) has.records has.bytes) (sym size) (batch_is time w has.records has.bytes sent passes.batch);
      rest = subst (λ s. KeepsRest s had.records has.records had.bytes has.bytes) (sym size) keeps;
      serves = λ p events was. served_more p events e e' port frame turn time has.records has.bytes sent passes was;
    }))

pub pass_refused : (o : Option EngineState) (missing : Refusal) (e e' : EngineState) (port time : ℕ) (frame : List ℕ) (had has : Arrays) (why : Refusal)
    (n : ℕ) → o ≡ Some e → n ≡ refusal_number why → (e' ≡ e) × (has.records ≡ had.records) × (has.bytes ≡ had.bytes)
    × (pass_fault e port (length frame) (length had.records) (length had.bytes) ≡ Some why)
    → PassAnswers o missing (Some e') port time frame had has empty_room n
pass_refused o missing e e' port time frame had has why n is number (same, same_records, same_bytes, refuses) =
    subst (λ s. PassAnswers s missing (Some e') port time frame had has empty_room n) (sym is)
    (inr (why, number, refuses, same, (λ i. record { records = same_records i; bytes = same_bytes i }), refl))

-- a change of a route is one event more
pub served_changed : (p : Plan) (events : List Event) (old new : EngineState) (change : Change) → new ≡ rerouting.with_tables new.tables old
    → TablesFit new.setting → Changes change old.tables new.tables → HasServedCalls p events old → HasServedCalls p (Changed change new.tables ∷ events) new
served_changed p events old new change rest fits changed was = record {
  plan = was.plan;
  first = was.first;
  is_first = was.is_first;
  setting = ap (λ (e : EngineState). e.setting) rest ∙ ap (with_tables (routes_of new.tables)) was.setting;
  tables = refl;
  nodes = ap (λ (e : EngineState). e.nodes) rest ∙ was.nodes;
  turns = ap (λ (e : EngineState). e.turns) rest ∙ was.turns;
  changes = (subst (λ (ts : List RouteTable). Changes change ts new.tables) was.tables changed, was.changes);
  fits = fits;
  all_fit = was.all_fit;
  uses = subst (λ (w : World). Uses (setting_in p []) (programs_in p) (stretches_of p.tables events) was.first.world w)
      (sym (ap (λ (e : EngineState). e.world) rest)) was.uses;
}

-- what a change returns that was made, and one that was refused
pub change_made : (change : Change) (fault : RouteTable → Option LpmError) (table : ℕ) (o : Option EngineState) (missing : Refusal) (e e' : EngineState)
    → o ≡ Some e → e' ≡ rerouting.with_tables e'.tables e → TablesFit e'.setting → Changes change e.tables e'.tables
    → ChangeAnswers change fault table o missing (Some e') 0
change_made change fault table o missing e e' is rest fits made = subst (λ s. ChangeAnswers change fault table s missing (Some e') 0) (sym is) (inl (
  refl,
  record { changes = made; rest = rest; serves = λ p events was. served_changed p events e e' change rest fits made was },
))

pub change_refused : (change : Change) (fault : RouteTable → Option LpmError) (table : ℕ) (o : Option EngineState) (missing : Refusal) (e e' : EngineState)
    (why : Refusal) (n : ℕ) → o ≡ Some e → n ≡ refusal_number why → RefusesChange fault table e.tables why × (e' ≡ e)
    → ChangeAnswers change fault table o missing (Some e') n
change_refused change fault table o missing e e' why n is number (refuses, same) =
    subst (λ s. ChangeAnswers change fault table s missing (Some e') n) (sym is) (inr (why, number, refuses, same))

-- what a look-up returns that found a hop, and one that was refused
pub looked_up : (table ip : ℕ) (o : Option EngineState) (missing : Refusal) (e : EngineState) (old new : Hop) → o ≡ Some e
    → HasTable table e.tables (λ t. hop_for t.routes ip ≡ Some new.hop) → LookupAnswers table ip o missing old new 0
looked_up table ip o missing e old new is found = subst (λ s. LookupAnswers table ip s missing old new 0) (sym is) (inl (refl, found))

pub look_up_refused : (table ip : ℕ) (o : Option EngineState) (missing : Refusal) (e : EngineState) (old : Hop) (why : Refusal) (n : ℕ) → o ≡ Some e
    → n ≡ refusal_number why → RefusesLookup table ip e.tables why → LookupAnswers table ip o missing old old n
look_up_refused table ip o missing e old why n is number refuses =
    subst (λ s. LookupAnswers table ip s missing old old n) (sym is) (inr (why, number, refuses, refl))

-- a pipeline has few ports and rings
pub few : (p : Plan) → IsPlan p → (length p.env.ports ≤ 8) × (length p.env.rings ≤ 8)
few p plan = let (_, rings, ports) = numbers_known p.env (numbers_pass p.env plan.limits) in (ports, rings)

-- ---- the promise

-- the laws of uses that it needs
pub record AreLaws : Type 0 where
  pub safe : (c : Setting) (nodes : Nodes) (stretches : List (Stretch ℕ)) (w : World) → TablesFit c → IsPipeline c nodes → AllFit c stretches
      → IsStart c.env w → KeepsUsesSafe c nodes stretches w
  pub copies : (c : Setting) (nodes : Nodes) (stretches : List (Stretch ℕ)) (w w' : World) → fault_of c.env ≡ None → IsStart c.env w
      → Uses c nodes stretches w w' → Shown c.env nodes stretches w'.cuts
  pub nothing : (c : Setting) (nodes : Nodes) (stretches : List (Stretch ℕ)) (w w' : World) → IsStart c.env w → Uses c nodes stretches w w'
      → live (between (with_empty_rings w')) ≡ []
  pub free : (pools : List PoolSpec) (w : World) (pool : ℕ) (b : Number) → live (between w) ≡ [] →
      (is_free (live (between w)) b ≡ true) × (available pools (live (between w)) pool ≡ count_at pools pool)
  pub join : (c : Setting) (nodes : Nodes) (later : List (Stretch ℕ)) (b a : Stretch ℕ) (earlier : List (Stretch ℕ)) (w w' : World) → TablesFit c
      → IsPipeline c nodes → AllFit c (later ++ (b ∷ a ∷ earlier)) → IsStart c.env w → b.tables ≡ a.tables
      → Uses c nodes (later ++ (b ∷ a ∷ earlier)) w w' → Uses c nodes (later ++ (joined_stretch a b ∷ earlier)) w w'
  pub one : (c : Setting) (nodes : Nodes) (s : Stretch ℕ) (w w' : World) → s.tables ≡ c.tables → Uses c nodes (s ∷ []) w w'
      → Run c nodes s.arrivals w s.shown w'
  pub safe_run : (c : Setting) (nodes : Nodes) (arrivals : List (Arrival ℕ)) (w : World) → TablesFit c → IsPipeline c nodes → IsStart c.env w
      → KeepsRunsSafe c nodes arrivals w
  pub copied_run : (c : Setting) (nodes : Nodes) (arrivals : List (Arrival ℕ)) (w w' : World) (shown : Observed ℕ) → fault_of c.env ≡ None
      → IsStart c.env w → Run c nodes arrivals w shown w' → Captures c.env c.tables nodes arrivals shown.answers shown.captures w'.cuts

-- ---- passes without a change between them

same_tables : (first : List RouteTable) (calls : List Call) → tables_after first (map (λ c. Passed c) calls) ≡ first
same_tables first [] = refl
same_tables first (c ∷ calls) = same_tables first calls

stretches_are : (first : List RouteTable) (calls : List Call) → stretches_of first (map (λ c. Passed c) calls) ≡ map (stretch_of first) calls
stretches_are first [] = refl
stretches_are first (c ∷ calls) =
    ap (λ (ts : List RouteTable). stretch_of ts c ∷ stretches_of first (map (λ c. Passed c) calls)) (same_tables first calls)
    ∙ ap (λ (l : List (Stretch ℕ)). stretch_of first c ∷ l) (stretches_are first calls)

all_fit_in : (s : Setting) (first : List RouteTable) (calls : List Call) → TablesFit (with_tables (routes_of first) s)
    → AllFit s (map (stretch_of first) calls)
all_fit_in s first [] fit = tt
all_fit_in s first (c ∷ calls) fit = (fit, all_fit_in s first calls fit)

-- calls in order, after others of which the latest is first
abbrev onto : List Call → List Call → List Call
onto [] later = later
onto (c ∷ earlier) later = onto earlier (c ∷ later)

onto_is : (earlier later : List Call) → onto earlier later ≡ reverse earlier ++ later
onto_is [] later = refl
onto_is (c ∷ earlier) later =
    onto_is earlier (c ∷ later)
    ∙ sym (ap (λ (l : List Call). l ++ later) (reverse-append (c ∷ []) earlier) ∙ append_assoc (reverse earlier) (c ∷ []) later)

all_onto : (calls : List Call) → onto (reverse calls) [] ≡ calls
all_onto calls = onto_is (reverse calls) [] ∙ append-nil (reverse (reverse calls)) ∙ reverse-reverse calls

-- calls as one stretch
abbrev grouped : Plan → List Call → Stretch ℕ
grouped p calls = record { tables = routes_of p.tables; arrivals = map arrival_of calls; shown = shown_by (length p.env.ports) calls }

-- passes are joined with those after them, from the latest on
all_joined : (p : Plan) → IsPlan p → AreLaws → (earlier later : List Call) (w w' : World) → IsStart p.env w
    → Uses (setting_in p []) (programs_in p) (grouped p later ∷ map (stretch_of p.tables) earlier) w w'
    → Uses (setting_in p []) (programs_in p) (grouped p (onto earlier later) ∷ []) w w'
all_joined p plan laws [] later w w' start uses = uses
all_joined p plan laws (c ∷ earlier) later w w' start uses =
    let s = setting_in p [] in
    let scheme = ready p plan in
    let fit : TablesFit s = scheme.tables_fit in
    let others = map (stretch_of p.tables) earlier in
    let fits = all_fit_in s p.tables earlier fit in
    all_joined p plan laws earlier (c ∷ later) w w' start
    (laws.join s (programs_in p) [] (grouped p later) (stretch_of p.tables c) others w w' fit scheme.pipeline (fit, (fit, fits)) start refl uses)

are_one_run : (p : Plan) → IsPlan p → AreLaws → (calls : List Call) (w w' : World) → IsStart p.env w
    → Uses (setting_in p []) (programs_in p) (stretches_of p.tables (map (λ c. Passed c) (reverse calls))) w w' → AreOneRun p calls w w'
are_one_run p plan laws calls w w' start uses =
    let s = setting_in p [] in
    let nodes = programs_in p in
    let scheme = ready p plan in
    let listed = subst (λ (l : List (Stretch ℕ)). Uses s nodes l w w') (stretches_are p.tables (reverse calls)) uses in
    let joined_all = all_joined p plan laws (reverse calls) [] w w' start (w', listed, (refl, refl)) in
    let whole = subst (λ (l : List Call). Uses s nodes (grouped p l ∷ []) w w') (all_onto calls) joined_all in
    let run = laws.one s nodes (grouped p calls) w w' refl whole in
    let safe = laws.safe_run s nodes (map arrival_of calls) w scheme.tables_fit scheme.pipeline start in
    record {
      run = run;
      never_stuck = λ b of. safe_never_stuck s b (safe.runs b of);
      copies = laws.copied_run s nodes (map arrival_of calls) w w' (shown_by (length p.env.ports) calls) plan.limits start run;
    }

pub promised : (p : Plan) (events : List Event) (e : EngineState) → AreLaws → HasServedCalls p events e → Promised p events e
promised p events e laws was =
    let s = setting_in p [] in
    let stretches = stretches_of p.tables events in
    let first = was.first.world in
    let start = was.is_first.start in
    let scheme = ready p was.plan in
    let safe = laws.safe s (programs_in p) stretches first scheme.tables_fit scheme.pipeline was.all_fit start in
    let none = laws.nothing s (programs_in p) stretches first e.world start was.uses in
    record {
      first = first;
      start = start;
      changes = was.changes;
      uses = was.uses;
      never_stuck = λ b of. safe_never_stuck (with_tables of.stretch.tables s) b (safe.runs b of);
      copies = laws.copies s (programs_in p) stretches first e.world was.plan.limits start was.uses;
      one_run = λ calls are.
          are_one_run p was.plan laws calls first e.world start
          (subst (λ (l : List Event). Uses s (programs_in p) (stretches_of p.tables l) first e.world) are was.uses);
      free = λ b. (laws.free p.env.pools (with_empty_rings e.world) 0 b none).0;
      whole = λ pool. (laws.free p.env.pools (with_empty_rings e.world) pool (record { pool = 0; index = 0 }) none).1;
    }
