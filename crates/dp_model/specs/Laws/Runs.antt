-- Internal: runs: where they begin, and one more turn.
use Rattle.std.proofs.Common.{◌≡◌, ℕ, zero, suc, Bool, List, [], ◌∷◌, ◌++◌, length, replicate, map, refl, sym, ◌∙◌, ap, subst, arith, append_assoc}
use Rattle.std.specs.List.{AllZip, AllByRecursion}
use Rattle.std.proofs.lemmas.List.{append-nil, length-map}
use Rattle.dp_model.specs.declared.env.RingSpec.{RingSpec}
use Rattle.dp_model.specs.declared.env.PoolSpec.{PoolSpec}
use Rattle.dp_model.specs.Packets.{Segment, AreOwned}
use Rattle.dp_model.specs.Machine.{Setting, World, live, segments_listed}
use Rattle.dp_model.specs.Meaning.{RingHolds, TablesFit}
use Rattle.dp_model.specs.Runs.{Outcome, between, Nodes, Turn, Arrival, Observed, Run, records_at, with_empty_outboxes, joined, NodeRun, NeverStuck}
use Rattle.dp_model.specs.Starts.{IsStart}
use Rattle.dp_model.specs.Safety.{IsPacket, ArePackets, IsAtRest, Beginning, IsSafeBeginning}
use Rattle.dp_model.specs.Laws.{Ready}
use Rattle.dp_model.specs.Laws.Within.{start_inside}

empty_rings : (pools : List PoolSpec) (segments : List Segment) (specs : List RingSpec) → AllZip (RingHolds pools segments) specs (map (λ _. []) specs)
empty_rings pools segments [] = tt
empty_rings pools segments (spec ∷ specs) = (tt, empty_rings pools segments specs)

-- the world before the first record is ready for it
pub start_ready : (setting : Setting) (w : World) → TablesFit setting → IsStart setting.env w → Ready setting w
start_ready setting w tables start =
    record {
      world = record {
        rings = subst (AllZip (RingHolds setting.env.pools (live (between w))) setting.env.rings) (sym start.rings)
            (empty_rings setting.env.pools (live (between w)) setting.env.rings);
        outboxes = ap length start.outboxes ∙ length-map setting.env.ports (λ _. []);
      };
      tables = tables;
      within = start_inside setting w start;
    }

module _ {A : Type 0} where
  pub joined_none_left : (n : ℕ) (xs : List (List A)) → length xs ≡ n → joined (replicate n []) xs ≡ xs
  joined_none_left zero [] is = refl
  joined_none_left zero (x ∷ xs) is = absurd (omega (arith, is))
  joined_none_left (suc n) [] is = absurd (omega (arith, is))
  joined_none_left (suc n) (x ∷ xs) is = ap (λ ys. x ∷ ys) (joined_none_left n xs (omega (arith, is)))

  joined_none_right : (n : ℕ) (xs : List (List A)) → length xs ≡ n → joined xs (replicate n []) ≡ xs
  joined_none_right zero [] is = refl
  joined_none_right zero (x ∷ xs) is = absurd (omega (arith, is))
  joined_none_right (suc n) [] is = absurd (omega (arith, is))
  joined_none_right (suc n) (x ∷ xs) is = ap (λ y. y ∷ joined xs (replicate n [])) (append-nil x)
      ∙ ap (λ ys. x ∷ ys) (joined_none_right n xs (omega (arith, is)))

  pub joined_assoc : (xs ys zs : List (List A)) → joined (joined xs ys) zs ≡ joined xs (joined ys zs)
  joined_assoc [] ys zs = refl
  joined_assoc (x ∷ xs) [] zs = refl
  joined_assoc (x ∷ xs) (y ∷ ys) [] = refl
  joined_assoc (x ∷ xs) (y ∷ ys) (z ∷ zs) = ap (λ a. a ∷ joined (joined xs ys) zs) (append_assoc x y z)
      ∙ ap (λ as_. (x ++ (y ++ z)) ∷ as_) (joined_assoc xs ys zs)

-- what a run shows after one more turn
abbrev pub with_turn : {T : Type 0} → T → Outcome → List Bool → World → Observed T → Observed T
with_turn time outcome answers w shown = record {
  answers = shown.answers ++ answers;
  outcomes = shown.outcomes ++ outcome ∷ [];
  captures = joined shown.captures (records_at time w);
}

-- a run and one more turn is a run
pub run_push : {T : Type 0} (setting : Setting) (nodes : Nodes) (arrivals : List (Arrival T)) (a : Arrival T) (w v mid : World) (shown : Observed T)
    (outcome : Outcome) (runs : ℕ) (answers : List Bool) → length mid.outboxes ≡ length setting.env.ports → Run setting nodes arrivals w shown v
    → Turn setting nodes a.port a.bytes v outcome runs answers mid → Run setting nodes (arrivals ++ a ∷ []) w (with_turn a.time outcome answers mid shown)
    (with_empty_outboxes mid)
run_push {T} setting nodes [] a w v mid shown outcome runs answers ports (none, is) turn =
    let records : List (List (T × List ℕ)) = records_at a.time mid in
    let long : length records ≡ length setting.env.ports = length-map mid.outboxes _ ∙ ports in
    let nothing : List (List (T × List ℕ)) = replicate (length setting.env.ports) [] in
    let only : joined nothing records ≡ joined records nothing = joined_none_left (length setting.env.ports) records long
    ∙ sym (joined_none_right (length setting.env.ports) records long) in
    let flat : answers ≡ answers ++ [] = sym (append-nil answers) in
    let last : Observed T = record { answers = []; outcomes = []; captures = nothing } in
    let same : with_turn a.time outcome answers mid last ≡ record { answers = answers ++ []; outcomes = outcome ∷ []; captures = joined records nothing } =
    λ i. record { answers = flat i; outcomes = outcome ∷ []; captures = only i } in (
      outcome,
      answers,
      runs,
      mid,
      last,
      subst (λ x. Turn setting nodes a.port a.bytes x outcome runs answers mid) is turn,
      (refl, refl),
      ap (with_turn a.time outcome answers mid) none ∙ same,
    )
run_push {T} setting nodes (b ∷ arrivals) a w v mid shown outcome runs answers ports (outcome', answers', runs', mid', rest, turn', run, is) turn =
    let records : List (List (T × List ℕ)) = records_at a.time mid in (
      outcome',
      answers',
      runs',
      mid',
      with_turn a.time outcome answers mid rest,
      turn',
      run_push setting nodes arrivals a (with_empty_outboxes mid') v mid rest outcome runs answers ports run turn,
      ap (with_turn a.time outcome answers mid) is ∙ (λ i. record {
        answers = append_assoc answers' rest.answers answers i;
        outcomes = outcome' ∷ (rest.outcomes ++ outcome ∷ []);
        captures = joined_assoc (records_at b.time mid') rest.captures records i;
      }),
    )

-- lists without a packet have no segment
pub nothing_mapped : {Z : Type 0} (zs : List Z) → segments_listed (map (λ _. []) zs) ≡ []
nothing_mapped [] = refl
nothing_mapped (z ∷ zs) = nothing_mapped zs

-- nor a packet outside its limits
pub no_lists : {Z : Type 0} (zs : List Z) → AllByRecursion (AllByRecursion IsPacket) (map (λ _. []) zs)
no_lists [] = tt
no_lists (z ∷ zs) = (tt, no_lists zs)

-- the world before the first record is at rest
pub start_rest : (setting : Setting) (w : World) → TablesFit setting → IsStart setting.env w → IsAtRest setting w
start_rest setting w tables start =
    record { ready = start_ready setting w tables start; owned = subst (AreOwned setting.env.pools) (sym none) nobody; packets = no_packets }
  where
    none : live (between w) ≡ []
    none = ap (λ rings. segments_listed rings ++ segments_listed w.outboxes) start.rings
        ∙ (ap (λ boxes. segments_listed (map (λ _. []) setting.env.rings) ++ segments_listed boxes) start.outboxes
        ∙ (ap (λ xs. xs ++ segments_listed (map (λ _. []) setting.env.ports)) (nothing_mapped setting.env.rings) ∙ nothing_mapped setting.env.ports))

    no_packets : ArePackets (between w)
    no_packets = record {
      held = tt;
      rings = subst (AllByRecursion (AllByRecursion IsPacket)) (sym start.rings) (no_lists setting.env.rings);
      outboxes = subst (AllByRecursion (AllByRecursion IsPacket)) (sym start.outboxes) (no_lists setting.env.ports);
    }

    nobody : AreOwned setting.env.pools []
    nobody = record { mbufs = tt; once = tt; direct = tt }

-- a safe node run is never stuck
pub safe_never_stuck : (setting : Setting) (b : Beginning) → IsSafeBeginning setting b → NeverStuck setting b.program b.packet b.number b.world
safe_never_stuck setting b s = subst (λ p. NeverStuck setting p b.packet b.number b.world) s.program_is
    (λ n label answers t goes. (s.safe.stays n label answers t goes).has_step)

-- it leaves the world at rest for the next
pub safe_rests : (setting : Setting) (b : Beginning) (answers : List Bool) (w' : World) → IsSafeBeginning setting b
    → NodeRun setting b.program b.packet b.number b.world answers w'
    → IsAtRest setting w'
safe_rests setting b answers w' s run = s.safe.rests answers w' (subst (λ p. NodeRun setting p b.packet b.number b.world answers w') (sym s.program_is) run)
