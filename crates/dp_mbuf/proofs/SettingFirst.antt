-- A packet's first header: the number of segments and the last mbuf, both written into one object.
use Rattle.std.proofs.Common.{◌≡◌, ℕ, ◌+◌, ◌<◌, ◌≤◌, List, [], length, Option, Some, refl, ◌∙◌, arith, set}
use Rattle.std.proofs.lemmas.List.{get_or-set_same, set-set}
use Rattle.dp_model.specs.Buffers.{Number, overwritten}
use Rattle.dp_pool.specs.Pools.{PoolView, object_in, with_object, with_written, with_left}
use Rattle.dp_model.specs.Laws.Stored.{length_overwritten}
use Rattle.dp_mbuf.specs.Headers.{then_word}
use Rattle.dp_mbuf.specs.Objects.{present, pool_in, header_at, HasObject, ArePoolSlots, HeaderSet}
use Rattle.dp_mbuf.proofs.ObjectLemmas.{object_pool, object_long, front_set}
use Rattle.dp_mbuf.proofs.ObjectCalls.{are, again, left_is, InSlot, becomes}
use Rattle.dp_mbuf.proofs.HeaderFields.{small_word, small_words, segs_done, last_done, first_set_twice}
use Rattle.dp_mbuf.proofs.InHand.{object_after}

-- bytes written twice into an object of a pool
written_again : (p : PoolView) (i a b : ℕ) (x y : List ℕ) → i < length p.objects → with_object p i (overwritten (overwritten (object_in p i) a x) b y)
    ≡ with_written (with_written p i a x) i b y
written_again p i a b x y there =
    let first : List ℕ = overwritten (object_in p i) a x in
    rw (get_or-set_same p.objects i first [] there, set-set p.objects i first (overwritten first b y))

pub left_twice : (p : PoolView) (i a b : ℕ) (x y old new : List ℕ) → i < length p.objects → old ≡ object_in p i → length old ≡ p.size
    → ((ws : List ℕ) → length ws ≡ p.size → with_left i p ws ≡ with_object p i ws) → new ≡ overwritten (overwritten old a x) b y
    → a + length x ≤ p.size → b + length y ≤ p.size → with_left i p new ≡ with_written (with_written p i a x) i b y
left_twice p i a b x y old new there value size whole is fits fits' =
    let first = length_overwritten old x a (omega (arith, size, fits)) in
    let second = length_overwritten (overwritten old a x) y b (omega (arith, first, size, fits')) in
    left_is p i (λ o. overwritten (overwritten o a x) b y) old new value size whole is (omega (arith, first, second)) ∙ written_again p i a b x y there

pub segs_and_last_done : (pools : List (Option PoolView)) (ps : List PoolView) → present pools ≡ ps → ArePoolSlots pools → (n : Number) (j i segs : ℕ)
    (last : Number) (p q : PoolView) → InSlot ps n j i p
    → q ≡ with_written (with_written p i 0 (then_word segs [])) i 14 (then_word last.index (then_word last.pool [])) → segs < 65536
    → (last.pool < 65536) × (last.index < 65536) → ArePoolSlots (set pools j (Some q))
    × HeaderSet ps n (record (header_at ps n) { segs = segs; last = last }) (present (set pools j (Some q)))
segs_and_last_done pools ps e inv n j i segs last p q s left few small =
    let x : List ℕ = then_word segs [] in
    let y : List ℕ = then_word last.index (then_word last.pool []) in
    let a = are pools ps e inv in
    let middle : List PoolView = set ps n.pool (with_written (pool_in ps n.pool) n.index 0 x) in
    let first : HeaderSet ps n (record (header_at ps n) { segs = segs }) middle =
    segs_done ps middle n (object_long ps n a s.object) x segs refl (front_set ps n 0 x a s.object (small_word segs few) (omega arith)) in
    let object' : HasObject middle n = object_after ps middle n first.specs s.object in
    let second = last_done middle _ n (object_long middle n first.are object') y last last.index last.pool refl refl refl
    (front_set middle n 14 y first.are object' (small_words last.index last.pool small.1 small.0) (omega arith)) in
    let h : HeaderSet ps n (record (header_at ps n) { segs = segs; last = last })
    (set ps n.pool (with_written (with_written (pool_in ps n.pool) n.index 0 x) n.index 14 y)) =
    rw (← again ps n.pool (with_written (pool_in ps n.pool) n.index 0 x) (λ r. with_written r n.index 14 y) (object_pool ps n s.object))
    (first_set_twice ps middle _ n segs last first second) in
    becomes pools ps e inv (HeaderSet ps n (record (header_at ps n) { segs = segs; last = last })) n j i p q
    (λ r k. with_written (with_written r k 0 x) k 14 y) s left h.are h.specs h
