-- A machine without packets: its handles, its slots and its lists.
use Rattle.std.proofs.Common.{◌≡◌, ℕ, zero, suc, ◌+◌, List, [], ◌∷◌, ◌++◌, map, replicate, Option, Some, None, refl, sym, ◌∙◌, ap, subst, arith}
use Rattle.std.specs.Prelude.{slice_get, slice_index_or}
use Rattle.std.specs.List.{AllByRecursion}
use Rattle.dp_ring.specs.Rings.{RingView}
use Rattle.dp_model.specs.Packets.{Packet}
use Rattle.dp_mbuf.specs.Mbufs.{HasNone}
use Rattle.dp_engine.specs.Handles.{packet_at, handles_held, occurs, in_slot, joined, waiting, packets_listed, entries_of, lists_of, Core}
use Rattle.dp_engine.specs.declared.machine.Machine.TheInside.{Inside}
use Rattle.dp_engine.specs.MachineParts.{parts_of, core_of, OccurOnce}
use Rattle.dp_engine.proofs.Receive.{idle_of}

abbrev pub AreEmpty : List RingView → Type 0
AreEmpty rings = AllByRecursion (λ (r : RingView). r.entries ≡ []) rings

none_wait : (rings : List RingView) → AreEmpty rings → joined (map entries_of rings) ≡ []
none_wait [] empty = refl
none_wait (r ∷ rings) empty = ap (λ es. es ++ joined (map entries_of rings)) empty.0 ∙ none_wait rings empty.1

-- registers, rings and transmit lists without handles, and slots without packets
pub stand_over : (slots : List (Option Packet)) (registers : List (Option ℕ)) (rings outboxes : List RingView) → registers ≡ replicate 8 None
    → AreEmpty rings → AreEmpty outboxes → ((h : ℕ) → in_slot (slice_get slots h) ≡ 0) → (h : ℕ)
    → occurs h (handles_held registers) + occurs h (waiting (lists_of rings outboxes)) ≡ in_slot (slice_get slots h)
stand_over slots registers rings outboxes is empty unsent none h =
    let held : occurs h (handles_held registers) ≡ 0 = ap (λ rs. occurs h (handles_held rs)) is in
    let waits : occurs h (waiting (lists_of rings outboxes)) ≡ 0 =
    ap (λ xs. occurs h (xs ++ joined (map entries_of outboxes))) (none_wait rings empty) ∙ ap (occurs h) (none_wait outboxes unsent) in
    omega (arith, held, waits, none h)

-- ---- and the other way round

unmapped : (f : ℕ → Packet) (xs : List ℕ) → map f xs ≡ [] → xs ≡ []
unmapped f [] e = refl
unmapped f (x ∷ xs) e = cc

none_joined : (slots : List (Option Packet)) (lists : List (List ℕ)) → AllByRecursion (λ (packets : List Packet). packets ≡ []) (packets_listed slots lists)
    → joined lists ≡ []
none_joined slots [] all = refl
none_joined slots (xs ∷ lists) all = ap (λ ys. ys ++ joined lists) (unmapped (packet_at slots) xs all.0) ∙ none_joined slots lists all.1

none_at : (slots : List (Option Packet)) (h : ℕ) → in_slot (slice_get slots h) ≡ 0 → slice_index_or slots h None ≡ None
none_at [] h e = refl
none_at (None ∷ slots) zero e = refl
none_at (Some k ∷ slots) zero e = absurd (omega (arith, e))
none_at (o ∷ slots) (suc h) e = none_at slots h e

pub has_none : (m : Inside) (core : Core) → core_of (parts_of m) ≡ core → OccurOnce (parts_of m) → AllByRecursion (λ o. o ≡ None) core.state.packets
    → AllByRecursion (λ (packets : List Packet). packets ≡ []) core.state.world.rings
    → AllByRecursion (λ (packets : List Packet). packets ≡ []) core.state.world.outboxes → HasNone m.mbufs.store
has_none m core is stand idle empty unsent h =
    let slots = m.mbufs.store.slots in
    let queued = none_joined slots (map entries_of m.queues.rings) (subst (λ (c : Core). AllByRecursion (λ (packets : List Packet). packets ≡ [])
    c.state.world.rings) (sym is) empty) in
    let sent = none_joined slots (map entries_of m.queues.outboxes) (subst (λ (c : Core). AllByRecursion (λ (packets : List Packet). packets ≡ [])
    c.state.world.outboxes) (sym is) unsent) in
    let waits : occurs h (waiting (lists_of m.queues.rings m.queues.outboxes)) ≡ 0 =
    ap (λ xs. occurs h (xs ++ joined (map entries_of m.queues.outboxes))) queued ∙ ap (occurs h) sent in
    let idle = idle_of is stand idle in
    none_at slots h (omega (arith, waits, idle.each h))
