-- Whole node runs are counted: each number grows by its steps.
use Rattle.std.proofs.Common.{◌≡◌, ℕ, suc, ◌+◌, ◌*◌, ◌%◌, ◌<◌, true}
use Rattle.std.proofs.Common.{◌&&◌, List, [], ◌∷◌, refl, sym, ◌∙◌, ap, subst, arith, add-zero}
use Rattle.std.specs.Prelude.{◌==◌, ◌≤◌, nat_lt, slice_index, Option, Some, None, ⊤, if◌then◌else◌}
use Rattle.std.proofs.lemmas.Bool.{and_from, cond_both, lt-ltb}
use Rattle.std.proofs.Math.Nat.{mod-eq_of_lt}
use Rattle.std.proofs.Math.Bool.{and-true}
use Rattle.dp_model.specs.{Arithmetic.wrapped, declared.env.Entry.Entry, declared.env.Entry.TheVariants.Port, declared.env.Entry.TheVariants.Ring}
use Rattle.dp_counts.specs.declared.counts.StepCounts.{StepCounts}
use Rattle.dp_engine.specs.declared.watch.Way.{Way}
use Rattle.dp_engine.specs.declared.watch.Way.TheVariants.{On, To, Out, Cut}
use Rattle.dp_engine.specs.Watching.{Event, Began, Ran, IsOneOfEight, SeesAll, after_step, FollowFrom}
use Rattle.dp_engine.proofs.Following.{turns_follow}
use Rattle.dp_counts.specs.Counting.{Tally, place_of, counted, with_way, counts_see, any_way, steps_at, ran_at, step_counts}
use Rattle.dp_counts.specs.Counting.{is_one_of_eight, is_jump, is_cut, one_more, IsTally, CountsSteps, BeginsAtZero, CountsTurns}
use Rattle.dp_counts.proofs.Tallies.{stays, place_within, tally_counted, tally_seen, taken_grew, cut_grew}
use Rattle.dp_counts.proofs.Flows.{Same, one_if, same, wrapped_same, sum_from, hits, sum_more, hits_next, ran_sums, ran_small, ran_none}

-- ---- where control is

-- the counts of a node begin at a multiple of 1,024
abbrev IsPlace : ℕ → Type 0
IsPlace place = (a : ℕ) × (place ≡ 1024 * a)

place_is : (node : Entry) → IsPlace (place_of node)
place_is (Port port) = (port, refl)
place_is (Ring ring) = (8 + ring, refl)

-- in a node run the node has a place
abbrev Stands : Option ℕ → ℕ → Type 0
Stands None place = ⊤
Stands (Some label) place = IsPlace place

-- control is at a label that there can be, if at one
abbrev IsThere : Option ℕ → Type 0
IsThere None = ⊤
IsThere (Some label) = label < 1024

is_there : (pos : Option ℕ) (t t' : Tally) (events : List Event) → FollowFrom pos events → SeesAll counts_see t events t' → IsThere pos
is_there None t t' events follows seen = tt
is_there (Some label) t t' (Ran at way s ∷ events) (is_at, follows) (mid, (few, is), rest) = subst (λ l. l < 1024) is_at few
is_there (Some label) t t' (Began node s ∷ events) never seen = absurd never
is_there (Some label) t t' [] never seen = absurd never

-- ---- what is counted of the labels up to one

-- how often control came to the labels from one on, and left from n of them
abbrev come : Tally → ℕ → ℕ → ℕ
come t k n = sum_from t.came k (suc n)

abbrev gone : Tally → ℕ → ℕ → ℕ
gone t k n = sum_from t.taken k n + (sum_from t.ended k n + sum_from t.cut k n)

-- one, where control has come to a label among these, whose step is not shown yet
abbrev ahead : Option ℕ → ℕ → ℕ → ℕ → ℕ
ahead None place k n = 0
ahead (Some label) place k n = hits k (suc n) (place + label)

-- a step: control that came goes on from its label, or it is counted that it left, and where it came
step_moves : (label : ℕ) (way : Way) (t : Tally) (k n : ℕ) → IsTally t → IsPlace t.place → IsPlace k → k + 1024 ≤ 16384 → n < 1024
    → IsThere (after_step label way)
    → Same (come (with_way way label t) k n + gone t k n + hits k (suc n) (t.place + label))
    (come t k n + gone (with_way way label t) k n + one_if (t.place + label == k + n) + ahead (after_step label way) t.place k n)
step_moves label On t k n is (a, place) (b, own) room few there =
    let other : suc (t.place + label) ≡ k → ⊥ = λ e. omega (arith, e, place, own, there) in
    let after : t.place + (label + 1) ≡ suc (t.place + label) = omega arith in
    let here : hits k (suc n) (t.place + (label + 1)) ≡ hits k n (t.place + label) = ap (hits k (suc n)) after ∙ hits_next (t.place + label) k n other in
    same _ _ (omega (arith, here))
step_moves label (To to) t k n is (a, place) (b, own) room few there =
    let j = t.place + label in
    let same_to : to % 1024 ≡ to = mod-eq_of_lt there in
    let here : hits k (suc n) (t.place + to % 1024) ≡ hits k (suc n) (t.place + to) = ap (λ m. hits k (suc n) (t.place + m)) same_to in
    let (c, d, came) = sum_more t.came (t.place + to % 1024) k (suc n) (omega (arith, room, few, is.came.all)) in
    let (e, f, left) = sum_more t.taken j k n (omega (arith, room, few, is.taken.all)) in
    (c + f, d + e, omega (arith, here, came, left))
step_moves label Out t k n is (a, place) (b, own) room few there =
    let (e, f, left) = sum_more t.ended (t.place + label) k n (omega (arith, room, few, is.ended.all)) in
    (f, e, omega (arith, left))
step_moves label Cut t k n is (a, place) (b, own) room few there =
    let (e, f, left) = sum_more t.cut (t.place + label) k n (omega (arith, room, few, is.cut.all)) in
    (f, e, omega (arith, left))

-- a beginning: control comes to label 0
begin_moves : (node : Entry) (t : Tally) (k n : ℕ) → IsTally t → k + 1024 ≤ 16384 → n < 1024
    → Same (sum_from (one_more (place_of node) t.came) k (suc n)) (come t k n + hits k (suc n) (place_of node + 0))
begin_moves node t k n is room few =
    let here : hits k (suc n) (place_of node + 0) ≡ hits k (suc n) (place_of node) = ap (hits k (suc n)) (add-zero (place_of node)) in
    let (a, b, came) = sum_more t.came (place_of node) k (suc n) (omega (arith, room, few, is.came.all)) in
    (a, b, omega (arith, here, came))

stands_after : (label : ℕ) (way : Way) (place : ℕ) → IsPlace place → Stands (after_step label way) place
stands_after label On place is = is
stands_after label (To to) place is = is
stands_after label Out place is = tt
stands_after label Cut place is = tt

-- all that is shown: what came less what left is one more for each step
moves : (pos : Option ℕ) (t t' : Tally) (events : List Event) (k n : ℕ) → IsTally t → Stands pos t.place → IsPlace k → k + 1024 ≤ 16384 → n < 1024
    → FollowFrom pos events → SeesAll counts_see t events t'
    → Same (come t' k n + gone t k n + ahead pos t.place k n) (come t k n + gone t' k n + steps_at any_way (k + n) t.place events)
moves None t t' [] k n all stands own room few follows is =
    let came : come t' k n ≡ come t k n = ap (λ (x : Tally). come x k n) is in
    let left : gone t' k n ≡ gone t k n = ap (λ (x : Tally). gone x k n) is in
    same _ _ (omega (arith, came, left))
moves None t t' (Began node s ∷ events) k n all stands own room few follows (mid, (within, is), rest) =
    let m : Tally = counted (Began node s) t in
    let mid_all = tally_counted (Began node s) t m (within, refl) all in
    let (a, b, later) = moves (Some 0) m t' events k n mid_all (place_is node) own room few follows (subst (λ x. SeesAll counts_see x events t') is rest) in
    let (c, d, first) = begin_moves node t k n all room few in
    (a + c, b + d, omega (arith, later, first))
moves None t t' (Ran at way s ∷ events) k n all stands own room few never seen = absurd never
moves (Some label) t t' [] k n all stands own room few never is = absurd never
moves (Some label) t t' (Began node s ∷ events) k n all stands own room few never seen = absurd never
moves (Some label) t t' (Ran at way s ∷ events) k n all stands own room few (is_at, follows) (mid, (within, is), rest) =
    let m : Tally = with_way way label t in
    let is_m : mid ≡ m = is ∙ ap (λ l. with_way way l t) is_at in
    let own_place : m.place ≡ t.place = stays label way s t in
    let seen = subst (λ x. SeesAll counts_see x events t') is_m rest in
    let mid_all = subst IsTally is_m (tally_counted (Ran at way s) t mid (within, is) all) in
    let (a, b, later) = moves (after_step label way) m t' events k n mid_all (subst (Stands (after_step label way)) (sym own_place)
    (stands_after label way t.place stands)) own room few follows seen in
    let (c, d, first) = step_moves label way t k n all stands own room few (is_there (after_step label way) m t' events follows seen) in
    let ahead_is : ahead (after_step label way) m.place k n ≡ ahead (after_step label way) t.place k n =
    ap (λ p. ahead (after_step label way) p k n) own_place in
    let steps_are : steps_at any_way (k + n) m.place events ≡ steps_at any_way (k + n) t.place events =
    ap (λ p. steps_at any_way (k + n) p events) own_place in
    let one : one_if ((t.place + at == k + n) && true) ≡ one_if (t.place + label == k + n) =
    ap one_if (and-true (t.place + at == k + n)) ∙ ap (λ l. one_if (t.place + l == k + n)) is_at in
    (a + c, b + d, omega (arith, later, first, ahead_is, steps_are, one))

-- ---- how often an instruction ran

ran_grew : (t t' : Tally) (events : List Event) (k n : ℕ) → IsTally t → IsTally t' → IsPlace k → k + 1024 ≤ 16384 → n < 1024 → FollowFrom None events
    → SeesAll counts_see t events t' → ran_at t' k n ≡ wrapped (ran_at t k n + steps_at any_way (k + n) t.place events)
ran_grew t t' events k n all all' own room few follows seen =
    let less : k + n < 16384 = omega (arith, room, few) in
    let (a, b, before) = ran_sums t k n all less in
    let (a', b', after) = ran_sums t' k n all' less in
    let (c, d, moved) = moves None t t' events k n all tt own room few follows seen in
    let is : Same (ran_at t' k n) (ran_at t k n + steps_at any_way (k + n) t.place events) = (
      a' + c + b,
      b' + d + a,
      omega (arith, before, after, moved),
    ) in
    sym (mod-eq_of_lt (ran_small t' k n all' less)) ∙ wrapped_same _ _ is

-- ---- the law

below_eight : (node : Entry) → IsOneOfEight node → is_one_of_eight node ≡ true
below_eight (Port port) few = lt-ltb port 8 few
below_eight (Ring ring) few = lt-ltb ring 8 few

abbrev counts_at : Tally → Entry → ℕ → StepCounts
counts_at t node label = record {
  ran = ran_at t (place_of node) label;
  taken = slice_index t.taken (place_of node + label);
  cut = slice_index t.cut (place_of node + label);
}

counts_are : (t : Tally) (node : Entry) (label : ℕ) → IsOneOfEight node → label < 1024 → step_counts t node label ≡ counts_at t node label
counts_are t node label few less =
    ap (λ b. if b then counts_at t node label else record { ran = 0; taken = 0; cut = 0 })
    (and_from (nat_lt label 1024) (is_one_of_eight node) (lt-ltb label 1024 less) (below_eight node few))

pub counts_steps : CountsSteps
counts_steps t t' events all follows seen = (
  tally_seen t t' events seen all,
  λ node label few less.
      let all' = tally_seen t t' events seen all in
      let k = place_of node in
      let room = place_within node few in
      let within : k + label < 16384 = omega (arith, room, less) in
      let before = counts_are t node label few less in
      let after = counts_are t' node label few less in
      record {
        ran = ap (λ (s : StepCounts). s.ran) after ∙ ran_grew t t' events k label all all' (place_is node) room less follows seen
            ∙ ap (λ (s : StepCounts). wrapped (s.ran + steps_at any_way (k + label) t.place events)) (sym before);
        taken = ap (λ (s : StepCounts). s.taken) after ∙ taken_grew t t' events seen all.taken (k + label) within
            ∙ ap (λ (s : StepCounts). wrapped (s.taken + steps_at is_jump (k + label) t.place events)) (sym before);
        cut = ap (λ (s : StepCounts). s.cut) after ∙ cut_grew t t' events seen all.cut (k + label) within
            ∙ ap (λ (s : StepCounts). wrapped (s.cut + steps_at is_cut (k + label) t.place events)) (sym before);
      },
)

-- counts that begin are 0
pub begins_at_zero : BeginsAtZero
begins_at_zero t none node label =
    cond_both (nat_lt label 1024 && is_one_of_eight node) _ _ (λ s. s ≡ record { ran = 0; taken = 0; cut = 0 })
    (λ _. rw (ran_none t (place_of node) label none, none.taken (place_of node + label), none.cut (place_of node + label)) refl) (λ _. refl)

-- what is shown of a turn is counted
pub turns_counted : CountsTurns
turns_counted t t' c nodes port bytes w outcome runs w' all watched =
    let follows = turns_follow c nodes port bytes w outcome runs watched.answers w' watched.events watched.turn in
    let (tally, grew) = counts_steps t t' watched.events all follows watched.seen in
    (watched.answers, watched.events, watched.turn, tally, grew)
