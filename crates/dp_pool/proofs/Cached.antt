-- Several indexes that leave the end of the cache or join it, one after another.
use Rattle.std.proofs.Common.{◌≡◌, ℕ, ◌+◌, ◌-◌, ◌*◌, ◌/◌, ◌<◌, ◌≤◌, cond, min, List, [], ◌∷◌, ◌++◌, length, take, drop, inl, inr, sym, ap, ap₂, ◌∙◌}
use Rattle.std.proofs.Common.{subst, arith, append_assoc, length-append}
use Rattle.std.proofs.lemmas.Bool.Decides.{eqb_tells}
use Rattle.std.proofs.lemmas.List.{append-nil, take-append-drop}
use lib.ListN.{length-drop}
use Rattle.dp_ring.specs.Rings.{RingView}
use Rattle.dp_pool.specs.Once.{occurs, absent, AreOnce}
use Rattle.dp_pool.specs.Queues.{in_count, cached_after_get, handed, returned, AreHanded, AreOut, all_returned}
use Rattle.dp_pool.proofs.Once.{hit, occurs-append}
use Rattle.dp_pool.proofs.Steps.{gone, back_cached}
use Rattle.dp_pool.proofs.Views.{view_of, with_state, eqb-no, put_more}

-- one of them leaves
from_middle : (front tail queue : List ℕ) (k i : ℕ) → occurs i ((front ++ k ∷ tail) ++ queue) ≡ hit k i + occurs i ((front ++ tail) ++ queue)
from_middle front tail queue k i =
    let old = occurs-append i (front ++ k ∷ tail) queue in
    let old_parts = occurs-append i front (k ∷ tail) in
    let new = occurs-append i (front ++ tail) queue in
    let new_parts = occurs-append i front tail in
    omega (arith, old, old_parts, new, new_parts)

one_less : (cache cached available k : ℕ) → 0 < cache → cached ≡ k + 1 → cached_after_get cache cached available ≡ k
one_less cache cached available k some is =
    ap₂ (λ a b. cond a 0 (cond b (min cache available) cached - 1)) (eqb-no cache some) (eqb-no cached (omega (arith, is))) ∙ omega (arith, is)

-- the last of the cache are taken, in order
pub tail_handed : (n cache : ℕ) (front tail : List ℕ) (queue : RingView) → (1 ≤ length tail → 0 < cache) → AreOnce n ((front ++ tail) ++ queue.entries)
    → AreHanded (view_of cache n (front ++ tail) queue) tail (view_of cache n front queue) × AreOnce n (front ++ queue.entries)
tail_handed n cache front [] queue some are = (
  ap (λ xs. view_of cache n xs queue) (sym (append-nil front)),
  subst (λ xs. AreOnce n (xs ++ queue.entries)) (append-nil front) are,
)
tail_handed n cache front (x ∷ tail) queue some are =
    let left = gone n x ((front ++ x ∷ tail) ++ queue.entries) ((front ++ tail) ++ queue.entries) (λ i. from_middle front tail queue.entries x i) are in
    let long : length (front ++ x ∷ tail) ≡ length (front ++ tail) + 1 = omega (arith, length-append front (x ∷ tail), length-append front tail) in
    let rest = tail_handed n cache front tail queue (λ _. some (omega arith)) left.once in
    let old = view_of cache n (front ++ x ∷ tail) queue in
    let step : view_of cache n (front ++ tail) queue ≡ handed old x =
    ap₂ (with_state old) (sym (one_less cache (length (front ++ x ∷ tail)) (in_count old.out) (length (front ++ tail)) (some (omega arith)) long)) left.out in
    ((left.was_in, subst (λ v. AreHanded v tail (view_of cache n front queue)) step rest.0), rest.1)

-- indexes join the cache, which keeps all of them
pub end_returned : (n cache : ℕ) (is cached : List ℕ) (queue : RingView) → 0 < cache → length cached + length is < 3 * cache / 2 →
    AreOut (absent n (cached ++ queue.entries)) is → AreOnce n (cached ++ queue.entries)
    → (view_of cache n (cached ++ is) queue ≡ all_returned (view_of cache n cached queue) is) × AreOnce n ((cached ++ is) ++ queue.entries)
end_returned n cache [] cached queue some room out are = (
  ap (λ xs. view_of cache n xs queue) (append-nil cached),
  subst (λ xs. AreOnce n (xs ++ queue.entries)) (sym (append-nil cached)) are,
)
end_returned n cache (x ∷ is) cached queue some room out are =
    let came = back_cached n x cached queue.entries out.0 are in
    let long : length (cached ++ x ∷ []) ≡ length cached + 1 = length-append cached (x ∷ []) in
    let rest = end_returned n cache is (cached ++ x ∷ []) queue some (omega (arith, long, room)) (subst (λ o. AreOut o is) (sym came.out) out.1) came.once in
    let old = view_of cache n cached queue in
    let step : view_of cache n (cached ++ x ∷ []) queue ≡ returned old x =
    ap₂ (with_state old) (long ∙ sym (put_more cache (length cached) some (omega (arith, room)))) came.out in
    let joined : (cached ++ x ∷ []) ++ is ≡ cached ++ x ∷ is = append_assoc cached (x ∷ []) is in (
      ap (λ xs. view_of cache n xs queue) (sym joined) ∙ (rest.0 ∙ ap (λ v. all_returned v is) step),
      subst (λ xs. AreOnce n (xs ++ queue.entries)) joined rest.1,
    )

-- ---- a part of the cache

pub taken_cached : (n cache left : ℕ) (items new is : List ℕ) (queue : RingView) → (cache ≡ 0 → length items ≡ 0) → AreOnce n (items ++ queue.entries) →
    new ≡ take left items → is ≡ drop left items
    → AreHanded (view_of cache n items queue) is (view_of cache n new queue) × AreOnce n (new ++ queue.entries)
taken_cached n cache left items new is queue none are front tail =
    let parts = take-append-drop left items in
    let some : 1 ≤ length (drop left items) → 0 < cache = λ m. elim (eqb_tells cache 0) [
      | inl e ↦ absurd (let empty = none e.1 in let long = length-drop left items in omega (arith, m, empty, long))
      | inr e ↦ let off = e.1 in omega (arith, off)
    ] in
    let out = tail_handed n cache (take left items) (drop left items) queue some (subst (λ xs. AreOnce n (xs ++ queue.entries)) (sym parts) are) in
    let old = view_of cache n items queue in (
      subst (λ xs. AreHanded old is (view_of cache n xs queue)) (sym front)
          (subst (λ xs. AreHanded old xs (view_of cache n (take left items) queue)) (sym tail)
          (subst (λ xs. AreHanded (view_of cache n xs queue) (drop left items) (view_of cache n (take left items) queue)) parts out.0)),
      subst (λ xs. AreOnce n (xs ++ queue.entries)) (sym front) out.1,
    )
