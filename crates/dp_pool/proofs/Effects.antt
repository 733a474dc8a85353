-- What the steps of a pool do to how often each index occurs in the cache and the queue together.
use Rattle.std.proofs.Common.{◌≡◌, ℕ, ◌+◌, List, [], ◌∷◌, ◌++◌, take, drop, sym, ap, ◌∙◌, arith, append_assoc}
use Rattle.std.proofs.lemmas.List.{take-append-drop}
use Rattle.dp_pool.specs.Once.{occurs}
use Rattle.dp_pool.proofs.Once.{hit, occurs-append}

-- the first of the queue leaves
pub from_queue : (cached queue : List ℕ) (k i : ℕ) → occurs i (cached ++ k ∷ queue) ≡ hit k i + occurs i (cached ++ queue)
from_queue cached queue k i =
    let old = occurs-append i cached (k ∷ queue) in let new = occurs-append i cached queue in omega (arith, old, new)

-- the last of the cache leaves
pub from_cache : (cached queue : List ℕ) (k i : ℕ) → occurs i ((cached ++ k ∷ []) ++ queue) ≡ hit k i + occurs i (cached ++ queue)
from_cache cached queue k i = ap (occurs i) (append_assoc cached (k ∷ []) queue) ∙ from_queue cached queue k i

-- one more is appended to the queue
pub to_queue : (cached queue : List ℕ) (k i : ℕ) → occurs i (cached ++ (queue ++ k ∷ [])) ≡ hit k i + occurs i (cached ++ queue)
to_queue cached queue k i =
    let new = occurs-append i cached (queue ++ k ∷ []) in
    let end = occurs-append i queue (k ∷ []) in
    let old = occurs-append i cached queue in
    omega (arith, new, end, old)

-- the queue's front moves to the cache
pub moved_in : (cached queue : List ℕ) (n i : ℕ) → occurs i ((cached ++ take n queue) ++ drop n queue) ≡ occurs i (cached ++ queue)
moved_in cached queue n i = ap (occurs i) (append_assoc cached (take n queue) (drop n queue) ∙ ap (λ xs. cached ++ xs) (take-append-drop n queue))

-- the cache's end moves to the queue
pub moved_out : (cached queue : List ℕ) (n i : ℕ) → occurs i (take n cached ++ (queue ++ drop n cached)) ≡ occurs i (cached ++ queue)
moved_out cached queue n i =
    let new = occurs-append i (take n cached) (queue ++ drop n cached) in
    let end = occurs-append i queue (drop n cached) in
    let old = occurs-append i cached queue in
    let parts = sym (occurs-append i (take n cached) (drop n cached)) ∙ ap (occurs i) (take-append-drop n cached) in
    omega (arith, new, end, old, parts)
