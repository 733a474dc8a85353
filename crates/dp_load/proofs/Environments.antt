-- What a file asks for, as its reader has it.
use Rattle.std.proofs.Common.{◌≡◌, ℕ, min, List, [], ◌∷◌, length, map, refl, ap}
use Rattle.std.proofs.lemmas.List.{length-map}
use Rattle.dp_model.specs.declared.env.PoolSpec.{PoolSpec}
use Rattle.dp_model.specs.declared.env.RingSpec.{RingSpec}
use Rattle.dp_model.specs.declared.env.PortSpec.{PortSpec}
use Rattle.dp_load.specs.declared.setup.Setup.{Setup}
use Rattle.dp_load.specs.Config.{environment_of}
use Rattle.dp_load.specs.Views.{setup, table_part}

pub map_twice : {A B C : Type 0} (f : A → B) (g : B → C) (xs : List A) → map g (map f xs) ≡ map (λ x. g (f x)) xs
map_twice f g [] = refl
map_twice {C = C} f g (x ∷ xs) = ap (λ (ys : List C). g (f x) ∷ ys) (map_twice f g xs)

pub same_environment : (s : Setup) (pools : List PoolSpec) (tables : ℕ) (rings : List RingSpec) (ports : List PortSpec)
    → pools ≡ s.pools.items → tables ≡ min (length s.tables.items) 255 → rings ≡ map (λ r. r.spec) s.rings.items → ports ≡ map (λ p. p.spec) s.ports.items
    → environment_of (setup s) ≡ record { pools = pools; tables = tables; rings = rings; ports = ports }
same_environment s pools tables rings ports same_pools count same_rings same_ports =
    rw (same_pools, count, same_rings, same_ports, length-map s.tables.items table_part, map_twice, map_twice) refl
