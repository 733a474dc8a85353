-- Freeing a packet, segment by segment.
use Rattle.std.proofs.Common.{◌≡◌, ℕ, ◌+◌, ◌<◌, ◌≤◌, List, [], ◌∷◌, length, None, refl, ap, arith, set}
use Rattle.dp_model.specs.Buffers.{Number}
use Rattle.dp_model.specs.Packets.{Packet}
use Rattle.dp_model.specs.Stores.{Store, IsLive, with_slot}
use Rattle.dp_pool.specs.Pools.{PoolView}
use Rattle.dp_mbuf.specs.Objects.{header_at, HeaderSet}
use Rattle.dp_mbuf.specs.Steps.{CanRelease, Released}
use Rattle.dp_mbuf.specs.Mbufs.{numbered, slots_of, shown, Linked, Whole, Sound, Freeing}
use Rattle.dp_mbuf.proofs.Edits.{first_cleared}
use Rattle.dp_mbuf.proofs.Live.{opened, settled, store_eq}
use Rattle.dp_mbuf.proofs.InHand.{can_release, release_done}

pub freeing_start : (ps ps' : List PoolView) (v : Store) (h : ℕ) → shown ps ≡ v → Sound ps → IsLive v h →
    HeaderSet ps (numbered h) (record (header_at ps (numbered h)) { segs = 0 }) ps' → Freeing ps' (numbered h) 0 (header_at ps (numbered h)).segs v h
freeing_start ps ps' v h e sound live done =
    let o = opened ps v h live.0 e sound live.1 in
    let u = first_cleared ps ps' (slots_of ps) h live.0 (record (header_at ps (numbered h)) { segs = 0 }) sound o.slot done refl refl
    (record { offset = refl; len = refl; next = refl; buffer = refl }) in
    record {
      rest = live.0;
      left = omega (arith, o.stands.segs);
      whole = rw (← e) u.0;
      links = u.1;
      specs = rw done.specs (ap (λ s. s.pools) e);
      buffers = rw done.buffers (ap (λ s. s.buffers) e);
    }

module _ {ps : List PoolView} {mbuf : Number} {i many : ℕ} {v : Store} {h : ℕ} (f : Freeing ps mbuf i many v h) where
  pub freeing_can : i < many → CanRelease ps mbuf (header_at ps mbuf).buffer
  freeing_can b = by f.rest f.left f.whole f.links
    where
      by : (rest : Packet) → length rest + i ≡ many → Whole ps rest (set v.slots h None) → Linked (header_at ps) mbuf rest →
          CanRelease ps mbuf (header_at ps mbuf).buffer
      by [] e w l = absurd (omega (arith, e, b))
      by (s ∷ rest) e w l = can_release ps (set v.slots h None) mbuf s rest w l

  pub freeing_step : (ps' : List PoolView) (next : Number) → i < many → Released ps mbuf (header_at ps mbuf).buffer ps' → next ≡ (header_at ps mbuf).next →
      Freeing ps' next (i + 1) many v h
  freeing_step ps' next b r n = by f.rest f.left f.whole f.links
    where
      by : (rest : Packet) → length rest + i ≡ many → Whole ps rest (set v.slots h None) → Linked (header_at ps) mbuf rest → Freeing ps' next (i + 1) many v h
      by [] e w l = absurd (omega (arith, e, b))
      by (s ∷ rest) e w l =
          let (whole, links, specs, buffers) = release_done ps ps' (set v.slots h None) mbuf s rest w l r in
          record {
            rest = rest;
            left = omega (arith, e);
            whole = whole;
            links = rw n links;
            specs = rw specs f.specs;
            buffers = rw buffers f.buffers;
          }

  pub freeing_end : many ≤ i → Sound ps × (shown ps ≡ with_slot h None v)
  freeing_end b = by f.rest f.left f.whole
    where
      by : (rest : Packet) → length rest + i ≡ many → Whole ps rest (set v.slots h None) → Sound ps × (shown ps ≡ with_slot h None v)
      by [] e w =
          let d = settled ps (set v.slots h None) w in
          (d.0, store_eq (shown ps) (with_slot h None v) f.specs f.buffers d.1)
      by (s ∷ rest) e w = absurd (omega (arith, e, b))

-- ---- a packet of one segment

module _ {ps : List PoolView} {n b : Number} {many : ℕ} {v : Store} {h : ℕ} (f : Freeing ps n 0 many v h)
    (one : many ≡ 1) (its : (header_at ps n).buffer ≡ b) where
  pub freeing_only : CanRelease ps n b
  freeing_only = rw (← its) (freeing_can f (omega arith))

  pub freed_only : (ps' : List PoolView) → Released ps n b ps' → Sound ps' × (shown ps' ≡ with_slot h None v)
  freed_only ps' r =
      freeing_end (freeing_step f ps' (header_at ps n).next (omega arith) (rw its r) refl) (omega arith)
