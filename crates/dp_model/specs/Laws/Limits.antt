-- Internal: environments without a fault have small numbers.
use Rattle.std.proofs.Common.{◌≡◌, ℕ, zero, suc, ◌+◌, ◌≤◌, Bool, true, false, not, cond, ◌&&◌, List, [], ◌∷◌, length, Option, Some, None, refl, sym, ◌∙◌, arith}
use Rattle.std.specs.Prelude.{nat_le, slice_get, option_map, position, if◌then◌else◌}
use Rattle.std.specs.List.{position_from}
use Rattle.std.specs.Option.{option_or}
use Rattle.std.proofs.lemmas.Bool.{leb-true, and_parts}
use Rattle.std.proofs.lemmas.Iterator.Adapters.{position_from-zero}
use Rattle.dp_model.specs.declared.env.PortSpec.{PortSpec}
use Rattle.dp_model.specs.declared.env.EnvError.TheVariants.{BadNumber, BadPort}
use Rattle.dp_model.specs.Limits.{max_segments, min_port_room}
use Rattle.dp_model.specs.Environments.{Environment, room_at, is_ring_count, port_fits, numbers_fit, fault_of}
use Rattle.dp_model.specs.Rows.{segs_at}

-- there are at most 8 pools, 8 rings and 8 ports
pub numbers_known : (e : Environment) → numbers_fit e ≡ true → (length e.pools ≤ 8) × (length e.rings ≤ 8) × (length e.ports ≤ 8)
numbers_known e h =
    let (h1, ports) = and_parts
    (nat_le 1 (length e.pools) && nat_le (length e.pools) 8 && nat_le e.tables 4 && nat_le (length e.rings) 8 && nat_le 1 (length e.ports))
    (nat_le (length e.ports) 8) h in
    let (h2, port) = and_parts (nat_le 1 (length e.pools) && nat_le (length e.pools) 8 && nat_le e.tables 4 && nat_le (length e.rings) 8)
    (nat_le 1 (length e.ports)) h1 in
    let (h3, rings) = and_parts (nat_le 1 (length e.pools) && nat_le (length e.pools) 8 && nat_le e.tables 4) (nat_le (length e.rings) 8) h2 in
    let (h4, tables) = and_parts (nat_le 1 (length e.pools) && nat_le (length e.pools) 8) (nat_le e.tables 4) h3 in
    let (h5, pools) = and_parts (nat_le 1 (length e.pools)) (nat_le (length e.pools) 8) h4 in
    (leb-true (length e.pools) 8 pools, leb-true (length e.rings) 8 rings, leb-true (length e.ports) 8 ports)

-- no fault if the test is true, and none after it
pub if_none : {X : Type 0} → (b : Bool) (a : Option X) (x : X) → (if b then a else Some x) ≡ None → (b ≡ true) × (a ≡ None)
if_none true a x h = (refl, h)
if_none false a x h = cc

-- no fault in the first part, and none in the second
pub or_none : {X : Type 0} → (a b : Option X) → option_or a b ≡ None → (a ≡ None) × (b ≡ None)
or_none None b h = (refl, h)
or_none (Some x) b h = cc

-- no fault of a kind if there is none
pub map_none : {X Y : Type 0} → (f : X → Y) (o : Option X) → option_map f o ≡ None → o ≡ None
map_none f None h = refl
map_none f (Some x) h = cc

-- what is not false is true
pub not_false : (b : Bool) → not b ≡ false → b ≡ true
not_false true h = refl
not_false false h = cc

pub step_none : (b : Bool) (i : ℕ) (r : Option ℕ) → cond b (Some i) r ≡ None → (b ≡ false) × (r ≡ None)
step_none true i r h = cc
step_none false i r h = (refl, h)

from_none : {X : Type 0} → (test : X → Bool) (xs : List X) (i k : ℕ) (x : X) → position_from test i xs ≡ None → slice_get xs k ≡ Some x → test x ≡ false
from_none test (y ∷ xs) i zero x h e = let here = (step_none (test y) i (position_from test (i + 1) xs) h).0 in cc
from_none test (y ∷ xs) i (suc k) x h e = from_none test xs (i + 1) k x (step_none (test y) i (position_from test (i + 1) xs) h).1 e
from_none test [] i k x h e = cc

-- if no element passes a test, a given one does not
pub none_at : {X : Type 0} → (test : X → Bool) (xs : List X) (k : ℕ) (x : X) → position test xs ≡ None → slice_get xs k ≡ Some x → test x ≡ false
none_at test xs k x h e = from_none test xs 0 k x (sym (position_from-zero test xs) ∙ h) e

ports_pass : (e : Environment) → fault_of e ≡ None → position (λ p. not (port_fits e.pools p)) e.ports ≡ None
ports_pass e h = map_none BadPort _ (or_none _ _ (or_none _ _ (or_none _ _ (if_none (numbers_fit e) _ BadNumber h).1).1).1).0

-- the numbers of an environment without a fault are in their ranges
pub numbers_pass : (e : Environment) → fault_of e ≡ None → numbers_fit e ≡ true
numbers_pass e h = (if_none (numbers_fit e) _ BadNumber h).0

-- a port takes packets of at most 64 segments
pub segs_small : (e : Environment) (k segs : ℕ) → fault_of e ≡ None → segs_at e.ports k ≡ Some segs → segs ≤ max_segments
segs_small e k segs h is = go (slice_get e.ports k) refl is
  where
    go : (o : Option PortSpec) → slice_get e.ports k ≡ o → option_map (λ p. p.segs) o ≡ Some segs → segs ≤ max_segments
    go None here is = absurd cc
    go (Some p) here is =
        let fits = not_false (port_fits e.pools p) (none_at (λ p. not (port_fits e.pools p)) e.ports k p (ports_pass e h) here) in
        let upper = (and_parts (nat_le 129 (room_at e.pools p.pool) && nat_le 1 p.segs && nat_le p.segs 64) (is_ring_count p.queue) fits).0 in
        let below = leb-true p.segs 64 (and_parts (nat_le 129 (room_at e.pools p.pool) && nat_le 1 p.segs) (nat_le p.segs 64) upper).1 in
        let same : p.segs ≡ segs = cc in
        omega (arith, below, same)

-- the pools of ports have buffers with room for bytes
abbrev pub HaveRoom : Environment → Type 0
HaveRoom env = (port : ℕ) (spec : PortSpec) → slice_get env.ports port ≡ Some spec → min_port_room ≤ room_at env.pools spec.pool

-- so they have
pub ports_have_room : (e : Environment) → fault_of e ≡ None → HaveRoom e
ports_have_room e h port spec there =
    let fits = not_false (port_fits e.pools spec) (none_at (λ p. not (port_fits e.pools p)) e.ports port spec (ports_pass e h) there) in
    let (h2, _) = and_parts (nat_le 129 (room_at e.pools spec.pool) && nat_le 1 spec.segs && nat_le spec.segs 64) (is_ring_count spec.queue) fits in
    let (h1, _) = and_parts (nat_le 129 (room_at e.pools spec.pool) && nat_le 1 spec.segs) (nat_le spec.segs 64) h2 in
    leb-true 129 (room_at e.pools spec.pool) (and_parts (nat_le 129 (room_at e.pools spec.pool)) (nat_le 1 spec.segs) h1).0
