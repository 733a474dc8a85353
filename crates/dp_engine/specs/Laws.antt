-- Internal: plans, facts about environments, and that checked programs make a pipeline.
use Rattle.std.proofs.Common.{◌≡◌, ℕ, ◌+◌, ◌≤◌, Bool, true, false, not, ◌&&◌, List, [], ◌∷◌, length, map, Some, None, refl, sym, ◌∙◌, zero, suc}
use Rattle.std.proofs.Common.{ap, arith, ◌<◌, take, drop, subst}
use Rattle.std.specs.Prelude.{nat_le, position, sum_by, if◌then◌else◌, slice_get}
use Rattle.std.specs.List.{position_from, AllByRecursion}
use Rattle.std.proofs.lemmas.Bool.{leb-true, and_parts}
use Rattle.std.proofs.lemmas.Iterator.Adapters.{position_from-zero}
use Rattle.std.specs.Int.{is_power_of_two}
use Rattle.std.proofs.lemmas.Option.{same_Some, slice_get_past}
use Rattle.std.proofs.lemmas.List.{length-map, length-take-le, length-drop}
use Rattle.dp_model.specs.declared.env.EnvError.TheVariants.{BadNumber, BadPool, BadRing, BadPort, TooMany}
use Rattle.dp_model.specs.declared.env.Entry.{Entry}
use Rattle.dp_model.specs.declared.env.Entry.TheVariants.{Port, Ring}
use Rattle.dp_model.specs.declared.instr.Instr.{Instr}
use Rattle.dp_model.specs.Limits.{max_buffers, max_segments, max_ring, max_hop, min_port_room}
use Rattle.dp_model.specs.Facts.{is_empty, is_well_formed_fact}
use Rattle.dp_model.specs.Environments.{Environment, room_at, is_ring_count, pool_fits, ring_fits, port_fits, numbers_fit, fault_of}
use Rattle.dp_ring.specs.Rings.{IsCount}
use Rattle.dp_engine.specs.Needs.{ring_counts, list_counts}
use Rattle.dp_model.specs.Prefixes.{Route}
use Rattle.dp_model.specs.Rules.{Question}
use Rattle.dp_lang.specs.Programs.{IsProgram}
use Rattle.dp_lpm.specs.Routes.{RouteTable}
use Rattle.dp_check.specs.Faults.{IsChecked}
use Rattle.dp_engine.specs.Steps.{setting_of, routes_of}
use Rattle.dp_engine.specs.Schemes.{programs_of, nodes_of, scheme_of, AreNodes, IsScheme}
use Rattle.dp_model.specs.Laws.{Checked, AreChecked}
use Rattle.dp_model.specs.Laws.Limits.{if_none, or_none, map_none, not_false, ports_have_room, step_none}
use Rattle.dp_model.specs.Laws.Lists.{each_at, each_slot}

-- all elements pass a test
abbrev AllPass : {X : Type 0} → (X → Bool) → List X → Type 0
AllPass test xs = AllByRecursion (λ x. test x ≡ true) xs

-- all pass if none fails, counted from an index on
from_none : {X : Type 0} → (test : X → Bool) (xs : List X) (i : ℕ) → position_from (λ x. not (test x)) i xs ≡ None → AllPass test xs
from_none test [] i h = tt
from_none test (x ∷ xs) i h =
    let parts = step_none (not (test x)) i (position_from (λ y. not (test y)) (i + 1) xs) h in
    (not_false (test x) parts.0, from_none test xs (i + 1) parts.1)

-- all pass if none fails
all_pass : {X : Type 0} → (test : X → Bool) (xs : List X) → position (λ x. not (test x)) xs ≡ None → AllPass test xs
all_pass test xs h = from_none test xs 0 (sym (position_from-zero (λ x. not (test x)) xs) ∙ h)

-- what holds of each element holds of its image
each_map : {X Y : Type 0} → (P : X → Type 0) (Q : Y → Type 0) (f : X → Y) → ((x : X) → P x → Q (f x)) → (xs : List X) → AllByRecursion P xs
    → AllByRecursion Q (map f xs)
each_map P Q f step [] all = tt
each_map P Q f step (x ∷ xs) all = (step x all.0, each_map P Q f step xs all.1)

-- the size of a ring in an environment is permitted for rings
count_fits : (n : ℕ) → is_ring_count n ≡ true → IsCount n
count_fits n h =
    let (both, power) = and_parts (nat_le 2 n && nat_le n max_ring) (is_power_of_two n) h in
    let (low, high) = and_parts (nat_le 2 n) (nat_le n max_ring) both in
    (leb-true 2 n low, leb-true n max_ring high)

-- the numbers of an environment, and that each pool, ring and list is within the limits
pub record IsKnown (e : Environment) : Type 0 where
  pub pools : (1 ≤ length e.pools) × (length e.pools ≤ 8)
  pub tables : e.tables ≤ 4
  pub rings : length e.rings ≤ 8
  pub ports : (1 ≤ length e.ports) × (length e.ports ≤ 8)
  pub pools_fit : AllByRecursion (λ s. pool_fits s ≡ true) e.pools
  pub rings_fit : AllByRecursion IsCount (ring_counts e)
  pub lists_fit : AllByRecursion IsCount (list_counts e)
  pub mbufs : sum_by (λ p. p.count) e.pools ≤ max_buffers
  pub facts : AllByRecursion (λ r. is_well_formed_fact r.fact ≡ true) e.rings

-- what follows for each element follows for all
each_is : {X : Type 0} → (P Q : X → Type 0) → ((x : X) → P x → Q x) → (xs : List X) → AllByRecursion P xs → AllByRecursion Q xs
each_is P Q step [] all = tt
each_is P Q step (x ∷ xs) all = (step x all.0, each_is P Q step xs all.1)

-- there are not too many buffers if nothing else is wrong
nothing_else : (n : ℕ) → (if nat_le n max_buffers then None else Some TooMany) ≡ None → n ≤ max_buffers
nothing_else n h = go (nat_le n max_buffers) refl h
  where
    go : (b : Bool) → nat_le n max_buffers ≡ b → (if b then None else Some TooMany) ≡ None → n ≤ max_buffers
    go true is none = leb-true n max_buffers is
    go false is none = cc

-- all this holds of an environment without a fault
pub known : (e : Environment) → fault_of e ≡ None → IsKnown e
known e h =
    let whole = if_none (numbers_fit e) _ BadNumber h in
    let (h1, ports) = and_parts
    (nat_le 1 (length e.pools) && nat_le (length e.pools) 8 && nat_le e.tables 4 && nat_le (length e.rings) 8 && nat_le 1 (length e.ports))
    (nat_le (length e.ports) 8) whole.0 in
    let (h2, port) = and_parts (nat_le 1 (length e.pools) && nat_le (length e.pools) 8 && nat_le e.tables 4 && nat_le (length e.rings) 8)
    (nat_le 1 (length e.ports)) h1 in
    let (h3, rings) = and_parts (nat_le 1 (length e.pools) && nat_le (length e.pools) 8 && nat_le e.tables 4) (nat_le (length e.rings) 8) h2 in
    let (h4, tables) = and_parts (nat_le 1 (length e.pools) && nat_le (length e.pools) 8) (nat_le e.tables 4) h3 in
    let (some, pools) = and_parts (nat_le 1 (length e.pools)) (nat_le (length e.pools) 8) h4 in
    let one = or_none _ _ whole.1 in
    let two = or_none _ _ one.1 in
    let three = or_none _ _ two.1 in
    record {
      pools = (leb-true 1 (length e.pools) some, leb-true (length e.pools) 8 pools);
      tables = leb-true e.tables 4 tables;
      rings = leb-true (length e.rings) 8 rings;
      ports = (leb-true 1 (length e.ports) port, leb-true (length e.ports) 8 ports);
      pools_fit = all_pass pool_fits e.pools (map_none BadPool _ one.0);
      rings_fit = each_map (λ r. ring_fits r ≡ true) IsCount (λ r. r.count)
          (λ r fits. count_fits r.count
          (and_parts (is_ring_count r.count) (not (is_empty r.fact))
          (and_parts (is_ring_count r.count && not (is_empty r.fact)) (is_well_formed_fact r.fact) fits).0).0) e.rings
          (all_pass ring_fits e.rings (map_none BadRing _ two.0));
      lists_fit = each_map (λ p. port_fits e.pools p ≡ true) IsCount (λ p. p.queue)
          (λ p fits. count_fits p.queue
          (and_parts (nat_le min_port_room (room_at e.pools p.pool) && nat_le 1 p.segs && nat_le p.segs max_segments) (is_ring_count p.queue)
          fits).1) e.ports
          (all_pass (port_fits e.pools) e.ports (map_none BadPort _ three.0));
      facts = each_is (λ r. ring_fits r ≡ true) (λ r. is_well_formed_fact r.fact ≡ true)
          (λ r fits. (and_parts (is_ring_count r.count && not (is_empty r.fact)) (is_well_formed_fact r.fact) fits).1) e.rings
          (all_pass ring_fits e.rings (map_none BadRing _ two.0));
      mbufs = nothing_else (sum_by (λ p. p.count) e.pools) three.1;
    }

-- an element of a list of images is one
pub get_map : {X Y : Type 0} (f : X → Y) (xs : List X) (i : ℕ) (y : Y) → slice_get (map f xs) i ≡ Some y → (x : X) × (slice_get xs i ≡ Some x) × (f x ≡ y)
get_map f [] i y e = cc
get_map f (x ∷ xs) zero y e = (x, refl, same_Some (f x) y e)
get_map f (x ∷ xs) (suc i) y e = get_map f xs i y e

-- an element of the first part of a list
get_take : {X : Type 0} → (n : ℕ) (xs : List X) (k : ℕ) (x : X) → slice_get (take n xs) k ≡ Some x → (k < n) × (slice_get xs k ≡ Some x)
get_take zero [] k x h = cc
get_take zero (y ∷ xs) k x h = cc
get_take (suc n) [] k x h = cc
get_take (suc n) (y ∷ xs) zero x h = (omega arith, h)
get_take (suc n) (y ∷ xs) (suc k) x h = let (less, there) = get_take n xs k x h in (omega (arith, less), there)

-- and in the other
pub get_drop : {X : Type 0} → (n : ℕ) (xs : List X) (k : ℕ) → slice_get (drop n xs) k ≡ slice_get xs (n + k)
get_drop zero xs k = ap (slice_get xs) (omega arith)
get_drop (suc n) [] k = slice_get_past [] k (omega arith) ∙ sym (slice_get_past [] (suc n + k) (omega arith))
get_drop (suc n) (x ∷ xs) k = get_drop n xs k ∙ ap (slice_get (x ∷ xs)) one_more
  where
    one_more : suc (n + k) ≡ suc n + k
    one_more = omega arith

-- a checked question is the checked node of its entry
node_of : (env : Environment) (entry : Entry) (program : List Instr) (q : Question) → q.program ≡ program → q.env ≡ env → q.entry ≡ entry → IsChecked q
    → Checked env entry program
node_of env entry program q is_program is_env is_entry c = record {
  question = q;
  accepted = record { accepted = c.accepted; well_formed = c.well_formed };
  program_is = is_program;
  env_is = is_env;
  entry_is = is_entry;
}

-- the nodes of an environment are checked with their entries
are_checked : (env : Environment) (tables : List RouteTable) (questions : List Question) (pattern : List ℕ) → fault_of env ≡ None → AreNodes env questions
    → ((k : ℕ) (question : Question) → slice_get questions k ≡ Some question → IsChecked question)
    → AreChecked (setting_of env tables pattern) (nodes_of env questions)
are_checked env tables questions pattern limits nodes checked = record {
  ports = λ port program h.
      let (less, there) = get_take (length env.ports) (programs_of questions) port program h in
      let (question, is_q, is_program) = get_map (λ (question : Question). question.program) questions port program there in
      let (is_env, is_entry) = nodes.ports port question less is_q in
      node_of env (Port port) program question is_program is_env is_entry (checked port question is_q);
  rings = λ ring program h.
      let (question, is_q, is_program) = get_map (λ (question : Question). question.program) questions (length env.ports + ring) program
      (sym (get_drop (length env.ports) (programs_of questions) ring) ∙ h) in
      let (is_env, is_entry) = nodes.rings ring question is_q in
      node_of env (Ring ring) program question is_program is_env is_entry (checked (length env.ports + ring) question is_q);
  rooms = ports_have_room env limits;
  facts = λ ring spec h. each_at (λ r. is_well_formed_fact r.fact ≡ true) env.rings ring spec (known env limits).facts h;
}

-- programs that are checked for the entries of an environment, with its tables, make a context
pub plan_of : (env : Environment) (tables : List RouteTable) (questions : List Question) (pattern : List ℕ) → fault_of env ≡ None → AreNodes env questions
    → length tables ≡ env.tables → ((k : ℕ) (question : Question) → slice_get questions k ≡ Some question → IsChecked question)
    → ((k : ℕ) (t : RouteTable) → slice_get tables k ≡ Some t → AllByRecursion (λ (route : Route). route.hop ≤ max_hop) t.routes)
    → IsScheme (scheme_of env tables questions pattern)
plan_of env tables questions pattern limits nodes many checked hops =
    let all : length (programs_of questions) ≡ length env.ports + length env.rings = length-map questions (λ (question : Question). question.program)
    ∙ nodes.many in
    record {
      pipeline = record {
        limits = limits;
        checked = are_checked env tables questions pattern limits nodes checked;
        ports = length-take-le (length env.ports) (programs_of questions) (omega (arith, all));
        rings = length-drop (length env.ports) (programs_of questions) ∙ omega (arith, all);
      };
      tables_fit = record {
        count = length-map tables (λ (t : RouteTable). t.routes) ∙ many;
        hops = each_slot (AllByRecursion (λ (route : Route). route.hop ≤ max_hop)) (routes_of tables) (λ k routes h.
            let (t, is_t, is_routes) = get_map (λ (t : RouteTable). t.routes) tables k routes h in
            subst (AllByRecursion (λ (route : Route). route.hop ≤ max_hop)) is_routes (hops k t is_t));
      };
      ports = each_slot IsProgram (take (length env.ports) (programs_of questions)) (λ k program h.
          are_programs k program (get_take (length env.ports) (programs_of questions) k program h).1);
      rings = each_slot IsProgram (drop (length env.ports) (programs_of questions)) (λ k program h.
          are_programs (length env.ports + k) program (sym (get_drop (length env.ports) (programs_of questions) k) ∙ h));
    }
  where
    are_programs : (k : ℕ) (program : List Instr) → slice_get (programs_of questions) k ≡ Some program → IsProgram program
    are_programs k program h =
        let (question, is_q, is_program) = get_map (λ (question : Question). question.program) questions k program h in
        subst IsProgram is_program (checked k question is_q).program
