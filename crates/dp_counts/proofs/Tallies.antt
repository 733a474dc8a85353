-- Counts grow by the steps that they count.
use Rattle.std.proofs.Common.{◌≡◌, ℕ, ◌+◌, ◌%◌, ◌^◌, ◌<◌, Bool, true, false, cond}
use Rattle.std.proofs.Common.{◌&&◌, List, [], ◌∷◌, length, refl, sym, ◌∙◌, ap, subst, arith, add-zero}
use Rattle.std.specs.Prelude.{◌==◌, ◌≤◌, replicate, slice_index, slice_set}
use Rattle.std.proofs.lemmas.Bool.{eqb-true, eqb-false}
use Rattle.std.proofs.Math.Nat.{mod-eq_of_lt, mod-add-mod, mod-lt}
use Rattle.std.proofs.lemmas.List.{get_or-set_other, get_or-set_same, length-set}
use Rattle.dp_model.specs.{Arithmetic.wrapped, Machine.State, declared.env.Entry.Entry}
use Rattle.dp_model.specs.{declared.env.Entry.TheVariants.Port, declared.env.Entry.TheVariants.Ring, Laws.Lists.get_replicate}
use Rattle.dp_engine.specs.declared.watch.Way.{Way}
use Rattle.dp_engine.specs.declared.watch.Way.TheVariants.{On, To, Out, Cut}
use Rattle.dp_engine.specs.Watching.{Event, Began, Ran, IsOneOfEight, SeesAll}
use Rattle.dp_counts.specs.Counting.{Tally, place_of, one_more, counted, with_way, counts_see, is_jump, is_cut, steps_at, AreCounts, AreZero}
use Rattle.dp_counts.specs.Counting.{IsTally}

-- ---- one number of a list

pub index_other : (numbers : List ℕ) (j k n : ℕ) → (j ≡ k → ⊥) → slice_index (slice_set numbers j n) k ≡ slice_index numbers k
index_other numbers j k n other = get_or-set_other numbers j k n 0 (λ e. other (sym e))

small : (n : ℕ) → n < 2 ^ 64 → n ≡ wrapped (n + 0)
small n less = sym (ap (λ m. m % 2 ^ 64) (add-zero n) ∙ mod-eq_of_lt less)

-- a list in which one count grows if a test holds
abbrev grown : Bool → ℕ → List ℕ → List ℕ
grown b k numbers = cond b (one_more k numbers) numbers

grown_length : (b : Bool) (k : ℕ) (numbers : List ℕ) → length (grown b k numbers) ≡ length numbers
grown_length true k numbers = length-set numbers k (wrapped (slice_index numbers k + 1))
grown_length false k numbers = refl

grown_at : (b d : Bool) (j k : ℕ) (numbers : List ℕ) → (j == k) ≡ b → k < length numbers → slice_index numbers k < 2 ^ 64
    → slice_index (grown d j numbers) k ≡ wrapped (slice_index numbers k + cond (b && d) 1 0)
grown_at true true j k numbers e less within =
    let same : j ≡ k = eqb-true j k e in
    subst (λ i. slice_index (one_more i numbers) k ≡ wrapped (slice_index numbers k + 1)) (sym same)
    (get_or-set_same numbers k (wrapped (slice_index numbers k + 1)) 0 less)
grown_at false true j k numbers e less within =
    index_other numbers j k (wrapped (slice_index numbers j + 1)) (eqb-false j k e) ∙ small (slice_index numbers k) within
grown_at true false j k numbers e less within = small (slice_index numbers k) within
grown_at false false j k numbers e less within = small (slice_index numbers k) within

grown_counts : (d : Bool) (j : ℕ) (numbers : List ℕ) → AreCounts numbers → AreCounts (grown d j numbers)
grown_counts d j numbers are = record {
  all = grown_length d j numbers ∙ are.all;
  small = λ k less.
      subst (λ n. n < 2 ^ 64) (sym (grown_at (j == k) d j k numbers refl (omega (arith, less, are.all)) (are.small k less)))
      (mod-lt (slice_index numbers k + cond ((j == k) && d) 1 0) (omega arith));
}

-- ---- taken jumps and cuts

-- a step stays in its node
pub stays : (label : ℕ) (way : Way) (s : State) (t : Tally) → (counted (Ran label way s) t).place ≡ t.place
stays label On s t = refl
stays label (To to) s t = refl
stays label Out s t = refl
stays label Cut s t = refl

-- a list that grows by the steps of one kind
grew : (numbers_of : Tally → List ℕ) (test : Way → Bool)
    → ((label : ℕ) (way : Way) (s : State) (t : Tally) → numbers_of (counted (Ran label way s) t) ≡ grown (test way) (t.place + label) (numbers_of t))
    → ((node : Entry) (s : State) (t : Tally) → numbers_of (counted (Began node s) t) ≡ numbers_of t)
    → (t t' : Tally) (events : List Event) → SeesAll counts_see t events t' → AreCounts (numbers_of t) → (k : ℕ) → k < 16384
    → slice_index (numbers_of t') k ≡ wrapped (slice_index (numbers_of t) k + steps_at test k t.place events)
grew numbers_of test step begin t t' [] is are k less =
    ap (λ (x : Tally). slice_index (numbers_of x) k) is ∙ small (slice_index (numbers_of t) k) (are.small k less)
grew numbers_of test step begin t t' (Began node s ∷ events) (mid, (within, is), rest) are k less =
    let same : numbers_of mid ≡ numbers_of t = ap numbers_of is ∙ begin node s t in
    let place : mid.place ≡ place_of node = ap (λ (x : Tally). x.place) is in
    let all = grew numbers_of test step begin mid t' events rest (subst AreCounts (sym same) are) k less in
    all ∙ ap (λ l. wrapped (slice_index l k + steps_at test k mid.place events)) same
    ∙ ap (λ p. wrapped (slice_index (numbers_of t) k + steps_at test k p events)) place
grew numbers_of test step begin t t' (Ran label way s ∷ events) (mid, (within, is), rest) are k less =
    let old = numbers_of t in
    let j = t.place + label in
    let place : mid.place ≡ t.place = ap (λ (x : Tally). x.place) is ∙ stays label way s t in
    let same : numbers_of mid ≡ grown (test way) j old = ap numbers_of is ∙ step label way s t in
    let all = grew numbers_of test step begin mid t' events rest (subst AreCounts (sym same) (grown_counts (test way) j old are)) k less in
    let one = cond ((j == k) && test way) 1 0 in
    let more = steps_at test k t.place events in
    let assoc : slice_index old k + one + more ≡ slice_index old k + (one + more) = omega arith in
    all ∙ ap (λ l. wrapped (slice_index l k + steps_at test k mid.place events)) same
    ∙ ap (λ p. wrapped (slice_index (grown (test way) j old) k + steps_at test k p events)) place
    ∙ ap (λ n. wrapped (n + more)) (grown_at (j == k) (test way) j k old refl (omega (arith, less, are.all)) (are.small k less))
    ∙ (mod-add-mod (slice_index old k + one) (2 ^ 64) more ∙ ap (λ n. n % 2 ^ 64) assoc)

taken_step : (label : ℕ) (way : Way) (s : State) (t : Tally) → (counted (Ran label way s) t).taken ≡ grown (is_jump way) (t.place + label) t.taken
taken_step label On s t = refl
taken_step label (To to) s t = refl
taken_step label Out s t = refl
taken_step label Cut s t = refl

cut_step : (label : ℕ) (way : Way) (s : State) (t : Tally) → (counted (Ran label way s) t).cut ≡ grown (is_cut way) (t.place + label) t.cut
cut_step label On s t = refl
cut_step label (To to) s t = refl
cut_step label Out s t = refl
cut_step label Cut s t = refl

pub taken_grew : (t t' : Tally) (events : List Event) → SeesAll counts_see t events t' → AreCounts t.taken → (k : ℕ) → k < 16384
    → slice_index t'.taken k ≡ wrapped (slice_index t.taken k + steps_at is_jump k t.place events)
taken_grew = grew (λ (x : Tally). x.taken) is_jump taken_step (λ node s t. refl)

pub cut_grew : (t t' : Tally) (events : List Event) → SeesAll counts_see t events t' → AreCounts t.cut → (k : ℕ) → k < 16384
    → slice_index t'.cut k ≡ wrapped (slice_index t.cut k + steps_at is_cut k t.place events)
cut_grew = grew (λ (x : Tally). x.cut) is_cut cut_step (λ node s t. refl)

-- ---- counts stay counts

one_counts : (k : ℕ) (numbers : List ℕ) → AreCounts numbers → AreCounts (one_more k numbers)
one_counts = grown_counts true

pub place_within : (node : Entry) → IsOneOfEight node → place_of node + 1024 ≤ 16384
place_within (Port port) few = omega (arith, few)
place_within (Ring ring) few = omega (arith, few)

tally_begins : (node : Entry) (s : State) (t : Tally) → IsOneOfEight node → IsTally t → IsTally (counted (Began node s) t)
tally_begins node s t few is =
    record { came = one_counts (place_of node) t.came is.came; taken = is.taken; ended = is.ended; cut = is.cut; within = place_within node few }

tally_steps : (label : ℕ) (way : Way) (t : Tally) → IsTally t → IsTally (with_way way label t)
tally_steps label On t is = is
tally_steps label (To to) t is =
    let came = one_counts (t.place + to % 1024) t.came is.came in
    record { came = came; taken = one_counts (t.place + label) t.taken is.taken; ended = is.ended; cut = is.cut; within = is.within }
tally_steps label Out t is =
    record { came = is.came; taken = is.taken; ended = one_counts (t.place + label) t.ended is.ended; cut = is.cut; within = is.within }
tally_steps label Cut t is =
    record { came = is.came; taken = is.taken; ended = is.ended; cut = one_counts (t.place + label) t.cut is.cut; within = is.within }

-- an event leaves counts
pub tally_counted : (e : Event) (t mid : Tally) → counts_see t e mid → IsTally t → IsTally mid
tally_counted (Began node s) t mid (few, is) all = subst IsTally (sym is) (tally_begins node s t few all)
tally_counted (Ran label way s) t mid (few, is) all = subst IsTally (sym is) (tally_steps label way t all)

-- and so do all
pub tally_seen : (t t' : Tally) (events : List Event) → SeesAll counts_see t events t' → IsTally t → IsTally t'
tally_seen t t' [] is all = subst IsTally (sym is) all
tally_seen t t' (e ∷ events) (mid, seen, rest) all = tally_seen mid t' events rest (tally_counted e t mid seen all)

-- ---- zeros

pub zeros_are : (numbers : List ℕ) (n : ℕ) → numbers ≡ replicate n 0 → AreZero numbers
zeros_are numbers n is k = ap (λ l. slice_index l k) is ∙ get_replicate n k 0
