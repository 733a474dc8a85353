-- Splitting programs into those of the ports and those of the rings.
use Rattle.std.proofs.Common.{◌≡◌, ℕ, zero, suc, ◌<◌, ◌≤◌, List, [], ◌∷◌, ◌++◌, length, take, drop, sym, ◌∙◌, ap, arith}
use Rattle.std.proofs.lemmas.List.{map-append, take-append-le, drop-append-le, take_all, drop_all, length-append}
use Rattle.dp_model.specs.Rules.{Question}
use Rattle.dp_engine.specs.Schemes.{programs_of}

-- a part shorter than n is all of it
all_taken : {X : Type 0} → (n : ℕ) (xs : List X) → length (take n xs) < n → length xs < n
all_taken zero xs few = absurd (omega (arith, few))
all_taken (suc n) [] few = omega arith
all_taken (suc n) (x ∷ xs) few = let rest = all_taken n xs (omega (arith, few)) in omega (arith, rest)

-- where the first part has n, the list has n
enough : {X : Type 0} → (n : ℕ) (xs : List X) → n ≤ length (take n xs) → n ≤ length xs
enough zero xs many = omega arith
enough (suc n) [] many = many
enough (suc n) (x ∷ xs) many = let rest = enough n xs (omega (arith, many)) in omega (arith, rest)

module _ (ports : ℕ) (nodes : List Question) (node : Question) where
  now : programs_of (nodes ++ node ∷ []) ≡ programs_of nodes ++ node.program ∷ []
  now = map-append (λ (q : Question). q.program) nodes (node ∷ [])

  -- one more for a port
  pub port_more : length (take ports (programs_of nodes)) < ports →
      (take ports (programs_of (nodes ++ node ∷ [])) ≡ take ports (programs_of nodes) ++ node.program ∷ [])
      × (drop ports (programs_of (nodes ++ node ∷ [])) ≡ drop ports (programs_of nodes))
  port_more few =
      let less = all_taken ports (programs_of nodes) few in
      let room : length (programs_of nodes ++ node.program ∷ []) ≤ ports = omega (arith, less, length-append (programs_of nodes) (node.program ∷ [])) in (
        ap (take ports) now ∙ (take_all ports (programs_of nodes ++ node.program ∷ []) room
            ∙ ap (λ ps. ps ++ node.program ∷ []) (sym (take_all ports (programs_of nodes) (omega (arith, less))))),
        ap (drop ports) now ∙ (drop_all ports (programs_of nodes ++ node.program ∷ []) room
            ∙ sym (drop_all ports (programs_of nodes) (omega (arith, less)))),
      )

  -- and for a ring, where all ports have theirs
  pub ring_more : ports ≤ length (take ports (programs_of nodes)) →
      (take ports (programs_of (nodes ++ node ∷ [])) ≡ take ports (programs_of nodes))
      × (drop ports (programs_of (nodes ++ node ∷ [])) ≡ drop ports (programs_of nodes) ++ node.program ∷ [])
  ring_more many =
      let more = enough ports (programs_of nodes) many in (
        ap (take ports) now ∙ take-append-le ports (programs_of nodes) (node.program ∷ []) more,
        ap (drop ports) now ∙ drop-append-le ports (programs_of nodes) (node.program ∷ []) more,
      )
