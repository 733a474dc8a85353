-- Double definitions agree: how a record is received, how rings are served, and the order of records.
use Rattle.std.proofs.Common.{◌≡◌, ℕ, zero, suc, ◌+◌, ◌<◌, ◌≤◌, Bool, true, cond, List, [], ◌∷◌, ◌++◌, length, drop, Option, Some, None, refl, sym, ◌∙◌}
use Rattle.std.proofs.Common.{ap, subst, arith, inl, inr, ⊎_elim}
use Rattle.std.specs.Prelude.{slice_get, option_map, option_to_list, slice_index_or, take}
use Rattle.std.specs.List.{cons_option}
use Rattle.std.proofs.lemmas.List.Elements.{filter_map-append}
use Rattle.std.proofs.lemmas.List.{append-nil}
use Rattle.std.proofs.Math.Seq.{drop-nil, take-nil}
use Rattle.std.proofs.lemmas.Bool.{eq-eqb, ne_eqb}
use Rattle.dp_model.specs.declared.instr.Instr.{Instr}
use Rattle.dp_model.specs.Machine.{Setting, World}
use Rattle.dp_model.specs.Runs.{at_port, of_port, NodeRun, Receives, Serves, Nodes, Arrival, round_of, rounds, longest, interleaved}
use Rattle.dp_model.proofs.RunFolds.{serves_fold}
use Rattle.dp_model.specs.Safety.{Beginning, IsOfRecord, IsServed}

-- ---- receiving a record and running its node, in one step or in two

pub receives_again : (c : Setting) (nodes : Nodes) (port : ℕ) (bytes : List ℕ) (w w' : World) (b : Beginning) (answers : List Bool) →
    (r : IsOfRecord c nodes port bytes w b) → NodeRun c b.program b.packet b.number b.world answers w' →
    Receives c r.program port r.spec bytes w (true ∷ answers) w'
receives_again c nodes port bytes w w' b answers r run = record {
  reception = r.reception;
  later = answers;
  answers_are = refl;
  run = subst (λ (x : Beginning). NodeRun c x.program x.packet x.number x.world answers w') r.is run;
}

-- ---- serving rings until none has a packet, or n times

pub serves_is : (c : Setting) (programs : List (List Instr)) (n : ℕ) (w : World) (answers : List Bool) (runs : ℕ) (w' : World) →
    Serves c programs n w answers runs w' → IsServed c programs n w runs w'
serves_is c programs n w answers runs w' = serves_fold c programs (λ n w w' answers runs. IsServed c programs n w runs w')
    (λ n w why. record { ran = []; served = refl; count = refl; few = omega arith; why = why })
    (λ n more w mid w' next program now later e is_program run rest. record {
      ran = program ∷ rest.ran;
      served = (next, now, mid, e, is_program, run, rest.served);
      count = omega (arith, rest.count);
      few = omega (arith, rest.few);
      why = ⊎_elim (λ same. inl (omega (arith, same))) (λ none. inr none) rest.why;
    })
    n w w' answers runs

-- ---- rounds give each input its records, in order

abbrev arrival_of : {T : Type 0} → ℕ → Option (T × List ℕ) → List (Arrival T)
arrival_of port o = option_to_list (option_map (λ r. record { port = port; time = r.0; bytes = r.1 }) o)

-- a record comes to its own port only
own_record : {T : Type 0} (port : ℕ) (o : Option (T × List ℕ)) → of_port port (arrival_of port o) ≡ option_to_list o
own_record port None = refl
own_record {T} port (Some r) = ap (λ b. cons_option (cond b (Some (r.0, r.1)) None) []) (eq-eqb port port refl)

other_record : {T : Type 0} (port other : ℕ) (o : Option (T × List ℕ)) → (other ≡ port → ⊥) → of_port port (arrival_of other o) ≡ []
other_record port other None apart = refl
other_record {T} port other (Some r) apart = ap (λ b. cons_option (cond b (Some (r.0, r.1)) None) []) (ne_eqb other port apart)

module _ {T : Type 0} where
  -- a round of later ports has nothing for this port
  later_ports : (k port from : ℕ) (inputs : List (List (T × List ℕ))) → port < from → of_port port (round_of k from inputs) ≡ []
  later_ports k port from [] less = refl
  later_ports k port from (input ∷ inputs) less =
      filter_map-append (at_port port) (arrival_of from (slice_get input k)) (round_of k (from + 1) inputs)
      ∙ (ap (λ xs. xs ++ of_port port (round_of k (from + 1) inputs)) (other_record port from (slice_get input k) (λ e. omega (arith, e, less)))
      ∙ later_ports k port (from + 1) inputs (omega (arith, less)))

  -- a round has the port's record of that index
  round_port : (k from i : ℕ) (inputs : List (List (T × List ℕ))) → of_port (from + i) (round_of k from inputs)
      ≡ option_to_list (slice_get (slice_index_or inputs i []) k)
  round_port k from i [] = refl
  round_port k from zero (input ∷ inputs) =
      let here : of_port (from + 0) (arrival_of from (slice_get input k)) ≡ option_to_list (slice_get input k) =
      subst (λ p. of_port p (arrival_of from (slice_get input k)) ≡ option_to_list (slice_get input k)) (omega arith) (own_record from (slice_get input k)) in
      filter_map-append (at_port (from + 0)) (arrival_of from (slice_get input k)) (round_of k (from + 1) inputs)
      ∙ (ap (λ xs. xs ++ of_port (from + 0) (round_of k (from + 1) inputs)) here
      ∙ (ap (λ xs. option_to_list (slice_get input k) ++ xs) (later_ports k (from + 0) (from + 1) inputs (omega arith))
      ∙ append-nil (option_to_list (slice_get input k))))
  round_port k from (suc i) (input ∷ inputs) =
      filter_map-append (at_port (from + suc i)) (arrival_of from (slice_get input k)) (round_of k (from + 1) inputs)
      ∙ (ap (λ xs. xs ++ of_port (from + suc i) (round_of k (from + 1) inputs)) (other_record (from + suc i) from (slice_get input k) (λ e. omega (arith, e)))
      ∙ subst (λ p. of_port p (round_of k (from + 1) inputs) ≡ option_to_list (slice_get (slice_index_or inputs i []) k)) (omega arith)
      (round_port k (from + 1) i inputs))

  take_next : (n k : ℕ) (xs : List (T × List ℕ)) → option_to_list (slice_get xs k) ++ take n (drop (suc k) xs) ≡ take (suc n) (drop k xs)
  take_next n k [] = ap (take n) (drop-nil (suc k)) ∙ (take-nil n ∙ sym (ap (take (suc n)) (drop-nil k)))
  take_next n zero (x ∷ xs) = refl
  take_next n (suc k) (x ∷ xs) = take_next n k xs

  rounds_port : (n k port : ℕ) (inputs : List (List (T × List ℕ))) → of_port port (rounds n k inputs) ≡ take n (drop k (slice_index_or inputs port []))
  rounds_port zero k port inputs = refl
  rounds_port (suc n) k port inputs =
      let next : k + 1 ≡ suc k = omega arith in
      filter_map-append (at_port port) (round_of k 0 inputs) (rounds n (k + 1) inputs)
      ∙ (ap (λ xs. xs ++ of_port port (rounds n (k + 1) inputs)) (subst (λ p. of_port p (round_of k 0 inputs)
      ≡ option_to_list (slice_get (slice_index_or inputs port []) k)) (omega arith) (round_port k 0 port inputs))
      ∙ (ap (λ xs. option_to_list (slice_get (slice_index_or inputs port []) k) ++ xs) (rounds_port n (k + 1) port inputs)
      ∙ (ap (λ j. option_to_list (slice_get (slice_index_or inputs port []) k) ++ take n (drop j (slice_index_or inputs port []))) next
      ∙ take_next n k (slice_index_or inputs port []))))

  no_longer : (port : ℕ) (inputs : List (List (T × List ℕ))) → length (slice_index_or inputs port []) ≤ longest inputs
  no_longer port [] = omega arith
  no_longer zero (input ∷ inputs) = omega arith
  no_longer (suc port) (input ∷ inputs) = omega (arith, no_longer port inputs)

  take_long : (n : ℕ) (xs : List (T × List ℕ)) → length xs ≤ n → take n xs ≡ xs
  take_long zero [] le = refl
  take_long zero (x ∷ xs) le = absurd (omega arith)
  take_long (suc n) [] le = refl
  take_long (suc n) (x ∷ xs) le = ap (λ ys. x ∷ ys) (take_long n xs (omega arith))

  -- the records of each port are its input's, in order
  pub interleaved_port : (port : ℕ) (inputs : List (List (T × List ℕ))) → of_port port (interleaved inputs) ≡ slice_index_or inputs port []
  interleaved_port port inputs =
      rounds_port (longest inputs) 0 port inputs ∙ take_long (longest inputs) (slice_index_or inputs port []) (no_longer port inputs)
