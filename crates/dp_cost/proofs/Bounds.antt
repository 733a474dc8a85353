-- No node run, and no turn, takes more steps than it costs.
use Rattle.std.proofs.Common.{◌≡◌, ℕ, zero, suc, ◌+◌, ◌*◌, ◌≤◌, max, Bool, List, [], ◌∷◌, ◌++◌, Option, Some, None, sym, ap, subst, arith}
use Rattle.std.specs.Prelude.{slice_get, MatchOption}
use Rattle.dp_model.specs.declared.instr.Instr.{Instr}
use Rattle.dp_model.specs.declared.env.PortSpec.{PortSpec}
use Rattle.dp_model.specs.Limits.{max_ring_runs}
use Rattle.dp_model.specs.Machine.{Setting, World, Ended}
use Rattle.dp_model.specs.Packets.{Packet}
use Rattle.dp_model.specs.Runs.{first_state, NodeRun, max_steps, ConsumedAtMost, Outcome, Got, NoBuffer, Oversize, Arrives, Waiting, first_waiting, Serves}
use Rattle.dp_model.specs.Runs.{Nodes, Turn, runs_of}
use Rattle.dp_model.specs.Laws.Steps.{goes_counts}
use Rattle.dp_cost.specs.declared.costs.Cost.{Cost}
use Rattle.dp_cost.specs.Costs.{CostsAtMost, IsCost, AreCosts, greatest, turn_cost}
use Rattle.dp_cost.proofs.Running.{run_way}

-- what is promised of node runs of a program of the longest kind
abbrev pub IsLimited : Type 0
IsLimited = (setting : Setting) (program : List Instr) (packet : Packet) (number : ℕ) (w w' : World) (answers : List Bool) →
    NodeRun setting program packet number w answers w' → ConsumedAtMost w w' (max_steps program) 1

pub node_cost : IsLimited → (setting : Setting) (program : List Instr) (steps : ℕ) (back : Option ℕ) (packet : Packet) (number : ℕ) (w w' : World)
    (answers : List Bool) → CostsAtMost program steps back → NodeRun setting program packet number w answers w' → ConsumedAtMost w w' steps 1
node_cost limited setting program steps (Some label) packet number w w' answers (first, is) run =
    subst (λ n. ConsumedAtMost w w' n 1) (sym is) (limited setting program packet number w w' answers run)
node_cost limited setting program steps None packet number w w' answers (ahead, longest) (n, s, goes, is) =
    let counts = goes_counts setting program n 0 (first_state packet number w) answers Ended s goes in
    let few = longest.most n (run_way setting program n 0 (first_state packet number w) answers Ended s goes) in
    let steps_now : w'.steps ≡ s.world.steps = ap (λ (w : World). w.steps) is in
    let cuts_now : w'.cuts ≡ s.world.cuts = ap (λ (w : World). w.cuts) is in
    (n, counts.more, record { steps_are = omega (arith, steps_now, counts.steps); cuts_are = omega (arith, cuts_now, counts.cuts) }, few, counts.at_end)

-- what costs nothing
free : (w w' : World) → w'.steps ≡ w.steps → w'.cuts ≡ w.cuts → (n k : ℕ) → ConsumedAtMost w w' n k
free w w' steps cuts n k = (0, 0, record { steps_are = omega (arith, steps); cuts_are = omega (arith, cuts) }, omega arith, omega arith)

-- one part after another
joined : (w mid w' : World) (a b c d : ℕ) → ConsumedAtMost w mid a c → ConsumedAtMost mid w' b d → ConsumedAtMost w w' (a + b) (c + d)
joined w mid w' a b c d (steps, cuts, one, few, rare) (more, others, other, few', rare') = (
  steps + more,
  cuts + others,
  record {
    steps_are = omega (arith, one.steps_are, other.steps_are);
    cuts_are = omega (arith, one.cuts_are, other.cuts_are);
  },
  omega (arith, few, few'),
  omega (arith, rare, rare'),
)

-- within larger limits
wider : (w w' : World) (a b c : ℕ) → a ≤ b → ConsumedAtMost w w' a c → ConsumedAtMost w w' b c
wider w w' a b c le (steps, cuts, consumed, few, rare) = (steps, cuts, consumed, omega (arith, few, le), rare)

-- each cost is at most the greatest
most_of : (costs : List Cost) (k : ℕ) (cost : Cost) → slice_get costs k ≡ Some cost → cost.steps ≤ greatest costs
most_of [] k cost there = absurd cc
most_of (c ∷ costs) zero cost there = go c cost there
  where
    go : (c cost : Cost) → Some c ≡ Some cost → cost.steps ≤ max c.steps (greatest costs)
    go c cost same = let e : c.steps ≡ cost.steps = cc in grind (arith, e)
most_of (c ∷ costs) (suc k) cost there = let below = most_of costs k cost there in grind (arith, below)

module _ (limited : IsLimited) (setting : Setting) where
  arrives_cost : (program : List Instr) (cost : Cost) (port : ℕ) (spec : PortSpec) (bytes : List ℕ) (w w' : World) (outcome : Outcome) (answers : List Bool) →
      IsCost program cost → Arrives setting program port spec bytes w outcome answers w' → ConsumedAtMost w w' cost.steps (runs_of outcome)
  arrives_cost program cost port spec bytes w w' Oversize answers costs (_, _, is) =
      free w w' (ap (λ (w : World). w.steps) is) (ap (λ (w : World). w.cuts) is) cost.steps 0
  arrives_cost program cost port spec bytes w w' NoBuffer answers costs (_, _, _, is) =
      free w w' (ap (λ (w : World). w.steps) is) (ap (λ (w : World). w.cuts) is) cost.steps 0
  arrives_cost program cost port spec bytes w w' Got answers costs r =
      let (steps, cuts, consumed, few, rare) = node_cost limited setting program cost.steps cost.back _ port _ w' r.later costs r.run in
      (steps, cuts, record { steps_are = consumed.steps_are; cuts_are = consumed.cuts_are }, few, rare)

  serves_cost : (programs : List (List Instr)) (costs : List Cost) → AreCosts programs costs → (n : ℕ) (w w' : World) (answers : List Bool) (runs : ℕ) →
      Serves setting programs n w answers runs w' → ConsumedAtMost w w' (n * greatest costs) runs
  serves_cost programs costs each zero w w' answers runs (_, none, is) =
      subst (ConsumedAtMost w w' (0 * greatest costs)) (sym none)
      (free w w' (ap (λ (w : World). w.steps) is) (ap (λ (w : World). w.cuts) is) (0 * greatest costs) 0)
  serves_cost programs costs each (suc n) w w' answers runs serves =
      go (first_waiting w.rings) serves (λ mid answers more. serves_cost programs costs each n mid w' answers more)
    where
      go : (o : Option (Waiting Packet)) → MatchOption o ((answers ≡ []) × (runs ≡ 0) × (w' ≡ w)) (λ next. (program : List Instr) × (now later : List Bool)
          × (mid : World) × (more : ℕ) × (slice_get programs next.ring ≡ Some program)
          × NodeRun setting program next.packet next.ring (record w { rings = next.rings }) now mid × Serves setting programs n mid later more w'
          × (answers ≡ now ++ later) × (runs ≡ more + 1)) →
          ((mid : World) (answers : List Bool) (more : ℕ) → Serves setting programs n mid answers more w' → ConsumedAtMost mid w' (n * greatest costs) more) →
          ConsumedAtMost w w' (suc n * greatest costs) runs
      go None (_, none, is) on =
          subst (ConsumedAtMost w w' (suc n * greatest costs)) (sym none)
          (free w w' (ap (λ (w : World). w.steps) is) (ap (λ (w : World). w.cuts) is) (suc n * greatest costs) 0)
      go (Some next) (program, now, later, mid, more, is_program, run, serves, are_answered, is_more) on =
          let (cost, there, costs_so) = each next.ring program is_program in
          let (steps, cuts, consumed, few, rare) =
          node_cost limited setting program cost.steps cost.back next.packet next.ring (record w { rings = next.rings }) mid now costs_so run in
          let one : ConsumedAtMost w mid cost.steps 1 =
          (steps, cuts, record { steps_are = consumed.steps_are; cuts_are = consumed.cuts_are }, few, rare) in
          let first = wider w mid cost.steps (greatest costs) 1 (most_of costs next.ring cost there) one in
          let all = joined w mid w' (greatest costs) (n * greatest costs) 1 more first (on mid later more serves) in
          let total : greatest costs + n * greatest costs ≡ suc n * greatest costs = omega arith in
          let count : 1 + more ≡ runs = omega (arith, is_more) in
          subst (λ k. ConsumedAtMost w w' k runs) total (subst (ConsumedAtMost w w' (greatest costs + n * greatest costs)) count all)

  pub turn_costs : (nodes : Nodes) (port : ℕ) (bytes : List ℕ) (w w' : World) (outcome : Outcome) (runs : ℕ) (answers : List Bool) (cost : Cost)
      (costs : List Cost) (t : Turn setting nodes port bytes w outcome runs answers w') → IsCost t.program cost → AreCosts nodes.rings costs →
      ConsumedAtMost w w' (turn_cost cost costs) runs
  turn_costs nodes port bytes w w' outcome runs answers cost costs t own each =
      let first = arrives_cost t.program cost port t.spec bytes w t.mid outcome t.now own t.arrives in
      let others = serves_cost nodes.rings costs each max_ring_runs t.mid w' t.later t.more t.serves in
      subst (ConsumedAtMost w w' (turn_cost cost costs)) (sym t.runs_is)
      (joined w t.mid w' cost.steps (max_ring_runs * greatest costs) (runs_of outcome) t.more first others)
