-- A packet that is one object.
use Rattle.std.specs.Prelude.{◌≡◌, [], ◌∷◌}
use Rattle.dp_model.specs.Packets.{Packet, refs}
use Rattle.dp_model.specs.Stores.{Store, segments_of}

-- a packet of one segment, which lies in the buffer of its own mbuf and is the only reference to it
abbrev pub IsAlone : Store → Packet → Type 0
IsAlone v [] = ⊥
IsAlone v (s ∷ []) = (s.buffer ≡ s.mbuf) × (refs (segments_of v) s.buffer ≡ 1)
IsAlone v (s ∷ t ∷ rest) = ⊥
