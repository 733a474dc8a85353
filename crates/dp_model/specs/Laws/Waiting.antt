-- Internal: packets that wait in rings.
use Rattle.std.proofs.Common.{◌≡◌, ℕ, zero, suc, List, [], ◌∷◌, ◌++◌, Option, Some, None, refl, ◌∙◌, ap, subst, arith, sym, map}
use Rattle.std.specs.Prelude.{slice_get, slice_set, flat_map, option_map}
use Rattle.std.specs.List.{AllByRecursion, AllZip}
use Rattle.std.proofs.lemmas.Option.{same_Some}
use Rattle.dp_model.specs.declared.env.PoolSpec.{PoolSpec}
use Rattle.dp_model.specs.declared.env.RingSpec.{RingSpec}
use Rattle.dp_model.specs.Packets.{Segment, Packet, refs}
use Rattle.dp_model.specs.declared.row.Holding.{Holding}
use Rattle.dp_model.specs.Rows.{holding}
use Rattle.dp_model.specs.Machine.{live, segments_listed}
use Rattle.dp_model.specs.Meaning.{Meets, Describes, RingHolds}
use Rattle.dp_model.specs.Runs.{Waiting, beyond, first_waiting}
use Rattle.dp_model.specs.Laws.References.{refs-append, Keeps, share_kept}
use Rattle.dp_model.specs.Laws.Lists.{all_left, all_right, all_join}

module _ (pools : List PoolSpec) where
  -- a packet satisfies a fact as before if its buffers keep their one reference
  pub meets_kept : (live live' : List Segment) (h : Holding) (packet : Packet) → Keeps live live' packet → Meets pools live h packet
      → Meets pools live' h packet
  meets_kept live live' h packet keeps m =
      record {
        some = m.some;
        share = share_kept live live' h.share packet keeps m.share;
        head = m.head;
        tail = m.tail;
        first = m.first;
        last = m.last;
        segs = m.segs;
      }

  -- so does the packet of a register
  pub describes_kept : (live live' : List Segment) (h : Option Holding) (o : Option Packet) → ((packet : Packet) → o ≡ Some packet → Keeps live live' packet)
      → Describes pools live h o → Describes pools live' h o
  describes_kept live live' None None keeps d = tt
  describes_kept live live' (Some h) (Some packet) keeps d = meets_kept live live' h packet (keeps packet refl) d
  describes_kept live live' None (Some packet) keeps d = d
  describes_kept live live' (Some h) None keeps d = d

  ring_kept : (live live' : List Segment) (spec : RingSpec) (packets : List Packet) → Keeps live live' (flat_map (λ packet. packet) packets)
      → RingHolds pools live spec packets → RingHolds pools live' spec packets
  ring_kept live live' spec [] keeps h = tt
  ring_kept live live' spec (packet ∷ packets) keeps h = (
    describes_kept live live' (holding spec.fact) (Some packet)
        (λ j ej b one. keeps b
        (let e : refs packet b ≡ refs j b = ap (λ x. refs x b) (same_Some packet j ej) in
        omega (arith, e, refs-append packet (flat_map (λ packet. packet) packets) b)))
        h.0,
    ring_kept live live' spec packets (λ b one. keeps b (omega (arith, refs-append packet (flat_map (λ packet. packet) packets) b))) h.1,
  )

  -- so do all packets in rings
  pub rings_kept : (live live' : List Segment) (specs : List RingSpec) (rings : List (List Packet)) → Keeps live live' (segments_listed rings)
      → AllZip (RingHolds pools live) specs rings → AllZip (RingHolds pools live') specs rings
  rings_kept live live' [] [] keeps h = tt
  rings_kept live live' [] (r ∷ rings) keeps h = h
  rings_kept live live' (spec ∷ specs) [] keeps h = h
  rings_kept live live' (spec ∷ specs) (r ∷ rings) keeps h = (
    ring_kept live live' spec r (λ b one. keeps b (omega (arith, refs-append (flat_map (λ packet. packet) r) (segments_listed rings) b))) h.0,
    rings_kept live live' specs rings (λ b one. keeps b (omega (arith, refs-append (flat_map (λ packet. packet) r) (segments_listed rings) b))) h.1,
  )

-- the packet is the first of its ring, and is not in the rings that remain
abbrev pub IsTaken : List (List Packet) → Waiting Packet → Type 0
IsTaken rings next = (packets : List Packet) × (slice_get rings next.ring ≡ Some (next.packet ∷ packets)) × (next.rings ≡ slice_set rings next.ring packets)

-- the first packet that waits, and the rings without it
pub waits : (rings : List (List Packet)) (next : Waiting Packet) → first_waiting rings ≡ Some next → IsTaken rings next
waits [] next e = cc
waits ([] ∷ rings) next e = later (first_waiting rings) refl (waits rings)
  where
    later : (o : Option (Waiting Packet)) → first_waiting rings ≡ o
        → ((n : Waiting Packet) → first_waiting rings ≡ Some n → IsTaken rings n) → IsTaken ([] ∷ rings) next
    later None f rest = let no : None ≡ Some next = sym (ap (option_map (beyond [])) f) ∙ e in cc
    later (Some n) f rest =
        let same : beyond [] n ≡ next = same_Some (beyond [] n) next (sym (ap (option_map (beyond [])) f) ∙ e) in
        let (packets, there, are) = rest n f in
        subst (IsTaken ([] ∷ rings)) same (packets, there, ap (λ r. [] ∷ r) are)
waits ((k ∷ packets) ∷ rings) next e =
    subst (IsTaken ((k ∷ packets) ∷ rings)) (same_Some _ next e) (packets, refl, refl)

-- what holds of all segments in rings holds of the packet and of the rest
pub all_pop : (P : Segment → Type 0) (lists : List (List Packet)) (i : ℕ) (packet : Packet) (packets : List Packet)
    → slice_get lists i ≡ Some (packet ∷ packets)
    → AllByRecursion P (segments_listed lists) → AllByRecursion P packet × AllByRecursion P (segments_listed (slice_set lists i packets))
all_pop P [] i packet packets e all = cc
all_pop P (l ∷ lists) zero packet packets e all =
    let here : AllByRecursion P (packet ++ flat_map (λ packet. packet) packets) =
    subst (λ ks. AllByRecursion P (flat_map (λ packet. packet) ks)) (same_Some l (packet ∷ packets) e)
    (all_left P (flat_map (λ packet. packet) l) (segments_listed lists) all) in (
      all_left P packet (flat_map (λ packet. packet) packets) here,
      all_join P (flat_map (λ packet. packet) packets) (segments_listed lists)
          (all_right P packet (flat_map (λ packet. packet) packets) here) (all_right P (flat_map (λ packet. packet) l) (segments_listed lists) all),
    )
all_pop P (l ∷ lists) (suc i) packet packets e all =
    let rest = all_pop P lists i packet packets e (all_right P (flat_map (λ packet. packet) l) (segments_listed lists) all) in (
      rest.0,
      all_join P (flat_map (λ packet. packet) l) (segments_listed (slice_set lists i packets))
          (all_left P (flat_map (λ packet. packet) l) (segments_listed lists) all) rest.1,
    )

-- emptied lists have no segment
pub nothing_listed : (lists : List (List Packet)) → segments_listed (map (λ _. []) lists) ≡ []
nothing_listed [] = refl
nothing_listed (l ∷ lists) = nothing_listed lists
