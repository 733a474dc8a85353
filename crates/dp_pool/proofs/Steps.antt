-- What each step of a pool's indexes does to the cache and the queue.
use Rattle.std.proofs.Common.{◌≡◌, ℕ, ◌+◌, ◌≤◌, true, false, List, [], ◌∷◌, ◌++◌, length, take, drop, slice_get, Some, None, refl, sym, ap, subst, ◌∙◌, arith}
use Rattle.std.proofs.Common.{length-append}
use Rattle.std.proofs.lemmas.Option.{none-some}
use Rattle.std.specs.Prelude.{unwrap_or}
use Rattle.dp_pool.specs.Once.{occurs, absent, AreOnce}
use Rattle.dp_pool.specs.Queues.{in_count, taken, back}
use Rattle.dp_pool.proofs.Once.{hit, length_once, count_absent, taken_once, put_once, absent_taken, absent_put, present, missing, once_same, absent_same}
use Rattle.dp_pool.proofs.Effects.{from_queue, from_cache, to_queue, moved_out}

-- how many are in: the cache and the queue together
pub in_count_parts : (n : ℕ) (cached queue : List ℕ) → AreOnce n (cached ++ queue) → in_count (absent n (cached ++ queue)) ≡ length cached + length queue
in_count_parts n cached queue are = count_absent n (cached ++ queue) are ∙ length-append cached queue

-- together they are at most n
pub few_parts : (n : ℕ) (cached queue : List ℕ) → AreOnce n (cached ++ queue) → length cached + length queue ≤ n
few_parts n cached queue are = let few = length_once n (cached ++ queue) are in let long = length-append cached queue in omega (arith, few, long)

-- the list after an index k is taken
pub record Gone (n : ℕ) (old new : List ℕ) (k : ℕ) : Type 0 where
  pub once : AreOnce n new
  pub was_in : slice_get (absent n old) k ≡ Some false
  pub out : absent n new ≡ taken k (absent n old)

pub gone : (n k : ℕ) (old new : List ℕ) → ((i : ℕ) → occurs i old ≡ hit k i + occurs i new) → AreOnce n old → Gone n old new k
gone n k old new more are =
    let known = present n k old new more are in
    record { once = taken_once n k old new more are; was_in = known.1; out = absent_taken n k old new known.0 more are }

pub gone_queued : (n k : ℕ) (cached queue : List ℕ) → slice_get queue 0 ≡ Some k → AreOnce n (cached ++ queue) →
    Gone n (cached ++ queue) (cached ++ drop 1 queue) k
gone_queued n k cached [] is are = absurd (none-some k is)
gone_queued n k cached (x ∷ queue) is are =
    subst (λ j. Gone n (cached ++ x ∷ queue) (cached ++ queue) j) (ap (λ o. unwrap_or o x) is)
    (gone n x (cached ++ x ∷ queue) (cached ++ queue) (λ i. from_queue cached queue x i) are)

pub none_queued : (queue : List ℕ) → slice_get queue 0 ≡ None → queue ≡ []
none_queued [] is = refl
none_queued (x ∷ queue) is = absurd (none-some x (sym is))

pub gone_cached : (n k : ℕ) (old cached queue : List ℕ) → old ≡ cached ++ k ∷ [] → AreOnce n (old ++ queue) → Gone n (old ++ queue) (cached ++ queue) k
gone_cached n k old cached queue is are =
    subst (λ xs. Gone n (xs ++ queue) (cached ++ queue) k) (sym is)
    (gone n k ((cached ++ k ∷ []) ++ queue) (cached ++ queue) (λ i. from_cache cached queue k i) (subst (λ xs. AreOnce n (xs ++ queue)) is are))

-- the list after an index k is put back
pub record Back (n : ℕ) (old new : List ℕ) (k : ℕ) : Type 0 where
  pub once : AreOnce n new
  pub out : absent n new ≡ back k (absent n old)

came : (n k : ℕ) (old new : List ℕ) → ((i : ℕ) → occurs i new ≡ hit k i + occurs i old) → slice_get (absent n old) k ≡ Some true → AreOnce n old →
    Back n old new k
came n k old new more is are =
    let known = missing n k old is in
    record { once = put_once n k old new known.0 known.1 more are; out = absent_put n k old new known.0 more }

pub back_queued : (n k : ℕ) (cached queue : List ℕ) → slice_get (absent n (cached ++ queue)) k ≡ Some true → AreOnce n (cached ++ queue) →
    Back n (cached ++ queue) (cached ++ (queue ++ k ∷ [])) k
back_queued n k cached queue is are = came n k (cached ++ queue) (cached ++ (queue ++ k ∷ [])) (λ i. to_queue cached queue k i) is are

pub back_cached : (n k : ℕ) (cached queue : List ℕ) → slice_get (absent n (cached ++ queue)) k ≡ Some true → AreOnce n (cached ++ queue) →
    Back n (cached ++ queue) ((cached ++ k ∷ []) ++ queue) k
back_cached n k cached queue is are = came n k (cached ++ queue) ((cached ++ k ∷ []) ++ queue) (λ i. from_cache cached queue k i) is are

-- ---- an index that is put back into the cache

module _ (n k : ℕ) (cached queue pushed : List ℕ) (is : pushed ≡ cached ++ k ∷ []) (out : slice_get (absent n (cached ++ queue)) k
    ≡ Some true) (are : AreOnce n (cached ++ queue)) where
  pub pushed_back : Back n (cached ++ queue) (pushed ++ queue) k
  pushed_back = subst (λ xs. Back n (cached ++ queue) (xs ++ queue) k) (sym is) (back_cached n k cached queue out are)

  pub pushed_long : length pushed ≡ length cached + 1
  pushed_long = ap length is ∙ length-append cached (k ∷ [])

  pub pushed_few : length pushed + length queue ≤ n
  pushed_few = few_parts n pushed queue pushed_back.once

  -- and the cache moves its end to the queue
  pub flushed_back : (keep : ℕ) → Back n (cached ++ queue) (take keep pushed ++ (queue ++ drop keep pushed)) k
  flushed_back keep = record {
    once = once_same n (pushed ++ queue) (take keep pushed ++ (queue ++ drop keep pushed)) (λ i. moved_out pushed queue keep i) pushed_back.once;
    out = absent_same n (pushed ++ queue) (take keep pushed ++ (queue ++ drop keep pushed)) (λ i. moved_out pushed queue keep i) ∙ pushed_back.out;
  }
