-- One record more after the interleaving of inputs.
use Rattle.std.proofs.Common.{◌≡◌, ℕ, zero, suc, ◌+◌, ◌<◌, ◌≤◌, List, [], ◌∷◌, ◌++◌, length, Some, None, refl, sym, ◌∙◌, ap, arith, append-nil}
use Rattle.std.specs.Prelude.{slice_get, slice_set, option_map, option_to_list}
use Rattle.std.proofs.lemmas.List.{length-append, append_assoc}
use Rattle.std.proofs.lemmas.Option.{slice_get_past, same_Some}
use Rattle.dp_model.specs.Runs.{Arrival, round_of, rounds, longest, interleaved}
use Rattle.dp_load.specs.Laws.{front_of}

-- a record of an input, as it comes to a port
abbrev pub arriving : {T : Type 0} → ℕ → T × List ℕ → Arrival T
arriving port r = record { port = port; time = r.0; bytes = r.1 }

-- no input has more records than that
abbrev pub AreFew : {A : Type 0} → ℕ → List (List A) → Type 0
AreFew {A} n inputs = (q : ℕ) (ys : List A) → slice_get inputs q ≡ Some ys → length ys ≤ n

tail_few : {A : Type 0} (n : ℕ) (xs : List A) (inputs : List (List A)) → AreFew n (xs ∷ inputs) → AreFew n inputs
tail_few n xs inputs few q ys e = few (suc q) ys e

-- a round after all records is empty
round_past : {T : Type 0} (k port : ℕ) (inputs : List (List (T × List ℕ))) → AreFew k inputs → round_of k port inputs ≡ []
round_past k port [] few = refl
round_past {T} k port (xs ∷ inputs) few =
    let none : slice_get xs k ≡ None = slice_get_past xs k (few 0 xs refl) in
    rw none (round_past k (port + 1) inputs (tail_few k xs inputs few))

more_few : {A : Type 0} (n : ℕ) (inputs : List (List A)) → AreFew n inputs → AreFew (n + 1) inputs
more_few n inputs few q ys e = omega (arith, few q ys e)

rounds_past : {T : Type 0} (n k : ℕ) (inputs : List (List (T × List ℕ))) → AreFew k inputs → rounds n k inputs ≡ []
rounds_past zero k inputs few = refl
rounds_past (suc n) k inputs few = rw (round_past k 0 inputs few) (rounds_past n (k + 1) inputs (more_few k inputs few))

few_at : {A : Type 0} (m n : ℕ) (inputs : List (List A)) → m ≤ n → AreFew m inputs → AreFew n inputs
few_at m n inputs le few q ys e = omega (arith, le, few q ys e)

-- n rounds are all, if they reach past the last record
rounds_all : {T : Type 0} (n m k : ℕ) (inputs : List (List (T × List ℕ))) → AreFew (k + n) inputs → AreFew (k + m) inputs →
    rounds n k inputs ≡ rounds m k inputs
rounds_all zero m k inputs few more = sym (rounds_past m k inputs (few_at (k + 0) k inputs (omega arith) few))
rounds_all (suc n) zero k inputs few more = rounds_past (suc n) k inputs (few_at (k + 0) k inputs (omega arith) more)
rounds_all (suc n) (suc m) k inputs few more =
    ap (λ l. round_of k 0 inputs ++ l) (rounds_all n m (k + 1) inputs (few_at (k + suc n) (k + 1 + n) inputs (omega arith) few)
    (few_at (k + suc m) (k + 1 + m) inputs (omega arith) more))

-- the last round comes after the others
rounds_last : {T : Type 0} (n k : ℕ) (inputs : List (List (T × List ℕ))) → rounds (suc n) k inputs ≡ rounds n k inputs ++ round_of (k + n) 0 inputs
rounds_last zero k inputs =
    let e : k + 0 ≡ k = omega arith in
    rw e (append-nil (round_of k 0 inputs))
rounds_last (suc n) k inputs =
    let e : k + 1 + n ≡ k + suc n = omega arith in
    let more : rounds (suc n) (k + 1) inputs ≡ rounds n (k + 1) inputs ++ round_of (k + suc n) 0 inputs = rw e at (rounds_last n (k + 1) inputs) in
    ap (λ l. round_of k 0 inputs ++ l) more ∙ sym (append_assoc (round_of k 0 inputs) (rounds n (k + 1) inputs) (round_of (k + suc n) 0 inputs))

-- inputs that are the same as far as these rounds go
rounds_same : {T : Type 0} (n k : ℕ) (a b : List (List (T × List ℕ))) → ((j : ℕ) → j < k + n → round_of j 0 a ≡ round_of j 0 b) → rounds n k a ≡ rounds n k b
rounds_same zero k a b same = refl
rounds_same (suc n) k a b same =
    rw (same k (omega arith)) (ap (λ l. round_of k 0 b ++ l) (rounds_same n (k + 1) a b (λ j lt. same j (omega (arith, lt)))))

get_last : {A : Type 0} (xs : List A) (r : A) → slice_get (xs ++ r ∷ []) (length xs) ≡ Some r
get_last [] r = refl
get_last (x ∷ xs) r = get_last xs r

-- an earlier round does not see one record more
round_same : {T : Type 0} (inputs : List (List (T × List ℕ))) (p j s : ℕ) (xs ys : List (T × List ℕ)) → slice_get inputs p ≡ Some xs → j < length xs →
    round_of j s (slice_set inputs p (xs ++ ys)) ≡ round_of j s inputs
round_same [] p j s xs ys e lt = refl
round_same {T} (x ∷ inputs) zero j s xs ys e lt =
    let same = same_Some x xs e in
    ap (λ o. option_to_list (option_map (arriving s) o) ++ round_of j (s + 1) inputs) (front_of xs ys j lt ∙ ap (λ l. slice_get l j) (sym same))
round_same (x ∷ inputs) (suc p) j s xs ys e lt =
    ap (λ l. option_to_list (option_map (arriving s) (slice_get x j)) ++ l) (round_same inputs p j (s + 1) xs ys e lt)

-- and the last one has it as its last
round_more : {T : Type 0} (inputs : List (List (T × List ℕ))) (p s : ℕ) (xs : List (T × List ℕ)) (r : T × List ℕ) → slice_get inputs p ≡ Some xs
    → ((q : ℕ) (ys : List (T × List ℕ)) → p < q → slice_get inputs q ≡ Some ys → length ys ≤ length xs)
    → round_of (length xs) s (slice_set inputs p (xs ++ r ∷ [])) ≡ round_of (length xs) s inputs ++ arriving (s + p) r ∷ []
round_more [] p s xs r e few = cc
round_more {T} (x ∷ inputs) zero s xs r e few =
    let same = same_Some x xs e in
    let past = round_past (length xs) (s + 1) inputs (λ q ys at. few (suc q) ys (omega arith) at) in
    let none : slice_get x (length xs) ≡ None = slice_get_past x (length xs) (omega (arith, ap length same)) in
    let zero_more : s + 0 ≡ s = omega arith in
    rw (none, past, get_last xs r, zero_more) refl
round_more {T} (x ∷ inputs) (suc p) s xs r e few =
    let index : s + 1 + p ≡ s + suc p = omega arith in
    let more : round_of (length xs) (s + 1) (slice_set inputs p (xs ++ r ∷ [])) ≡ round_of (length xs) (s + 1) inputs ++ arriving (s + suc p) r ∷ [] =
    rw index at (round_more inputs p (s + 1) xs r e (λ q ys lt at. few (suc q) ys (omega (arith, lt)) at)) in
    ap (λ l. option_to_list (option_map (arriving s) (slice_get x (length xs))) ++ l) more
    ∙ sym (append_assoc (option_to_list (option_map (arriving s) (slice_get x (length xs)))) (round_of (length xs) (s + 1) inputs)
    (arriving (s + suc p) r ∷ []))

few_longest : {A : Type 0} (n : ℕ) (inputs : List (List A)) → longest inputs ≤ n → AreFew n inputs
few_longest n [] le q ys e = cc
few_longest n (x ∷ inputs) le zero ys e = omega (arith, le, ap length (same_Some x ys e))
few_longest n (x ∷ inputs) le (suc q) ys e = few_longest n inputs (omega (arith, le)) q ys e

set_few : {A : Type 0} (n : ℕ) (inputs : List (List A)) (p : ℕ) (xs : List A) → length xs ≤ n → AreFew n inputs → AreFew n (slice_set inputs p xs)
set_few n [] p xs le few q ys e = cc
set_few n (x ∷ inputs) zero xs le few zero ys e = omega (arith, le, ap length (same_Some xs ys e))
set_few n (x ∷ inputs) zero xs le few (suc q) ys e = few (suc q) ys e
set_few n (x ∷ inputs) (suc p) xs le few zero ys e = few 0 ys e
set_few n (x ∷ inputs) (suc p) xs le few (suc q) ys e = set_few n inputs p xs le (tail_few n x inputs few) q ys e

-- the interleaving is all rounds
all_rounds : {T : Type 0} (n : ℕ) (inputs : List (List (T × List ℕ))) → AreFew n inputs → interleaved inputs ≡ rounds n 0 inputs
all_rounds n inputs few =
    rounds_all (longest inputs) n 0 inputs (few_longest (0 + longest inputs) inputs (omega arith)) (few_at n (0 + n) inputs (omega arith) few)

pub interleaved_more : {T : Type 0} (inputs : List (List (T × List ℕ))) (p : ℕ) (xs : List (T × List ℕ)) (r : T × List ℕ) → slice_get inputs p ≡ Some xs
    → AreFew (length xs + 1) inputs → ((q : ℕ) (ys : List (T × List ℕ)) → p < q → slice_get inputs q ≡ Some ys → length ys ≤ length xs)
    → interleaved (slice_set inputs p (xs ++ r ∷ [])) ≡ interleaved inputs ++ arriving p r ∷ []
interleaved_more inputs p xs r e few beyond =
    let k = length xs in
    let after = slice_set inputs p (xs ++ r ∷ []) in
    let more = length-append xs (r ∷ []) in
    let after_few : AreFew (k + 1) after = set_few (k + 1) inputs p (xs ++ r ∷ []) (omega (arith, more)) few in
    let a = all_rounds (suc k) after (few_at (k + 1) (suc k) after (omega arith) after_few) in
    let b = all_rounds (suc k) inputs (few_at (k + 1) (suc k) inputs (omega arith) few) in
    let same : rounds k 0 after ≡ rounds k 0 inputs = rounds_same k 0 after inputs (λ j lt. round_same inputs p j 0 xs (r ∷ []) e (omega (arith, lt))) in
    let zero_more : 0 + p ≡ p = omega arith in
    let last : round_of k 0 after ≡ round_of k 0 inputs ++ arriving p r ∷ [] = round_more inputs p 0 xs r e beyond
    ∙ ap (λ n. round_of k 0 inputs ++ arriving n r ∷ []) zero_more in
    let c = rounds_last k 0 after in
    let d = rounds_last k 0 inputs in
    let zero_k : 0 + k ≡ k = omega arith in
    a ∙ c ∙ ap (λ n. rounds k 0 after ++ round_of n 0 after) zero_k ∙ ap (λ l. l ++ round_of k 0 after) same ∙ ap (λ l. rounds k 0 inputs ++ l) last
    ∙ sym (append_assoc (rounds k 0 inputs) (round_of k 0 inputs) (arriving p r ∷ []))
    ∙ ap (λ l. l ++ arriving p r ∷ []) (ap (λ n. rounds k 0 inputs ++ round_of n 0 inputs) (sym zero_k) ∙ sym d ∙ sym b)
