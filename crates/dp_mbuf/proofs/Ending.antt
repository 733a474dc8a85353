-- A packet that is one object of its own: no packet begins there any more, and the object goes back.
use Rattle.std.proofs.Common.{◌≡◌, ℕ, List, [], Option, Some, None, true, refl, arith, ⊎_elim, set}
use Rattle.dp_model.specs.Buffers.{Number, same_number}
use Rattle.dp_model.specs.Stores.{Store, IsLive, with_slot}
use Rattle.dp_model.specs.Laws.Stored.{same_number_refl, same_is}
use Rattle.dp_pool.specs.Pools.{PoolView, with_written, put_back}
use Rattle.dp_mbuf.specs.Headers.{then_word}
use Rattle.dp_mbuf.specs.Objects.{present, pool_in, header_at, is_out, zones_of, ArePools, ArePoolSlots, HeaderSet, Given, Ended}
use Rattle.dp_mbuf.specs.Steps.{MbufBack, BufferLess, Released}
use Rattle.dp_mbuf.specs.Mbufs.{numbered, shown, Sound}
use Rattle.dp_mbuf.proofs.ObjectLemmas.{object_pool, object_long, front_set, given, same_or}
use Rattle.dp_mbuf.proofs.ObjectCalls.{are, again, InSlot, becomes, out_there}
use Rattle.dp_mbuf.proofs.HeaderFields.{small_word, segs_done}
use Rattle.dp_mbuf.proofs.Links.{alike}
use Rattle.dp_mbuf.proofs.InHand.{object_after}
use Rattle.dp_mbuf.proofs.Live.{opened}
use Rattle.dp_mbuf.proofs.Freeing.{freeing_start, freed_only}

pub end_done : (pools : List (Option PoolView)) (ps : List PoolView) → present pools ≡ ps → ArePoolSlots pools → (n : Number) (j i i' : ℕ) (p m q : PoolView)
    → InSlot ps n j i p → m ≡ with_written p i 0 (then_word 0 []) → q ≡ put_back m i' → i' ≡ n.index → is_out ps n ≡ true
    → ArePoolSlots (set pools j (Some q)) × Ended ps n (present (set pools j (Some q)))
end_done pools ps e inv n j i i' p m q s cleared back at out =
    let x : List ℕ = then_word 0 [] in
    let a = are pools ps e inv in
    let middle : List PoolView = set ps n.pool (with_written (pool_in ps n.pool) n.index 0 x) in
    let first : HeaderSet ps n (record (header_at ps n) { segs = 0 }) middle =
    segs_done ps middle n (object_long ps n a s.object) x 0 refl (front_set ps n 0 x a s.object (small_word 0 (omega arith)) (omega arith)) in
    let second = given middle n first.are (object_pool middle n (object_after ps middle n first.specs s.object))
    (out_there (pool_in middle n.pool).out n.index (rw (first.outs n) out)) in
    let g : Given middle n (set ps n.pool (put_back (with_written (pool_in ps n.pool) n.index 0 x) n.index)) =
    rw (← again ps n.pool (with_written (pool_in ps n.pool) n.index 0 x) (λ r. put_back r n.index) (object_pool ps n s.object)) second in
    becomes pools ps e inv (Ended ps n) n j i p q (λ r k. put_back (with_written r k 0 x) k) s (cc (cleared, back, at, s.index)) g.are (rw g.specs first.specs)
    (record { middle = middle; first_cleared = first; given = g })

-- ---- its segment is released

-- an mbuf that is its own buffer is not put back before that
stays : (ps : List PoolView) (n : Number) → ArePools ps → MbufBack ps n n ps
stays ps n a = record {
  fewer = record {
    are = a;
    specs = refl;
    zones = refl;
    buffers = refl;
    headers = λ m. alike (header_at ps m) (header_at ps m) refl;
    outs = λ m o. o;
  };
  refs = λ m. refl;
  others = λ m d. refl;
  here = λ d. absurd (let t = same_number_refl n in cc);
  own = λ e. refl;
}

last_back : (ps ps' : List PoolView) (n : Number) → Given ps n ps' → (header_at ps n).refs ≡ 1 → BufferLess ps n ps'
last_back ps ps' n g one = record {
  fewer = record {
    are = g.are;
    specs = g.specs;
    zones = g.zones;
    buffers = g.buffers;
    headers = λ m. alike (header_at ps' m) (header_at ps m) (g.headers m);
    outs = λ m o. ⊎_elim
        (λ e. rw (← e) g.here)
        (λ d. rw (g.others m d) o)
        (same_or n m);
  };
  refs = λ m d. rw (g.headers m);
  others = λ m d. g.others m d;
  last = λ o. g.here;
  one_less = λ r o. absurd (omega arith);
}

pub live_out : (ps : List PoolView) (v : Store) (h : ℕ) → shown ps ≡ v → Sound ps → IsLive v h → is_out ps (numbered h) ≡ true
live_out ps v h e sound live = (opened ps v h live.0 e sound live.1).stands.out

pub ended : (ps ps' : List PoolView) (v : Store) (h : ℕ) → shown ps ≡ v → Sound ps → IsLive v h → Ended ps (numbered h) ps' →
    (header_at ps (numbered h)).segs ≡ 1 → (header_at ps (numbered h)).refs ≡ 1 → same_number (header_at ps (numbered h)).buffer (numbered h) ≡ true →
    Sound ps' × (shown ps' ≡ with_slot h None v)
ended ps ps' v h e sound live d one refs own =
    let n : Number = numbered h in
    let f = freeing_start ps d.middle v h e sound live d.first_cleared in
    let its : (header_at d.middle n).buffer ≡ n = rw d.first_cleared.here (same_is (header_at ps n).buffer n own) in
    let r : Released d.middle n n ps' = record {
      middle = d.middle;
      mbuf = stays d.middle n d.first_cleared.are;
      buffer = last_back d.middle ps' n d.given (rw d.first_cleared.here refs);
    } in
    freed_only f one its ps' r

pub ended_zones : (ps ps' : List PoolView) (n : Number) → Ended ps n ps' → zones_of ps' ≡ zones_of ps
ended_zones ps ps' n d = rw d.given.zones d.first_cleared.zones
