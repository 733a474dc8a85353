-- Internal: the sizes of an environment that is accepted, and lists one after the other.
use Rattle.std.proofs.Common.{◌≡◌, ℕ, zero, suc, ◌+◌, ◌<◌, ◌≤◌, Bool, true, false, List, [], ◌∷◌, ◌++◌, length, Option, None, Some, refl, ap, ◌∙◌, arith}
use Rattle.std.proofs.Common.{zero-add}
use Rattle.std.specs.Prelude.{slice_get, nat_le, ◌&&◌, if◌then◌else◌}
use Rattle.std.proofs.lemmas.Bool.{and_parts, leb-true}
use Rattle.dp_model.specs.Environments.{Environment, fault_of, numbers_fit}
use Rattle.dp_model.specs.declared.env.EnvError.TheVariants.{BadNumber}

no_else : {X : Type 0} → (b : Bool) (a : Option X) (x : X) → (if b then a else Some x) ≡ None → b ≡ true
no_else true a x h = refl
no_else false a x h = absurd cc

-- the sizes of an environment that is accepted
pub few : (e : Environment) → fault_of e ≡ None → (length e.ports ≤ 8) × (length e.rings ≤ 8) × (e.tables ≤ 4)
few e h =
    let fits : numbers_fit e ≡ true = no_else (numbers_fit e) _ BadNumber h in
    let (h1, ports) = and_parts (nat_le 1 (length e.pools) && nat_le (length e.pools) 8 && nat_le e.tables 4 && nat_le (length e.rings) 8 && nat_le 1
    (length e.ports)) (nat_le (length e.ports) 8) fits in
    let (h2, port) = and_parts (nat_le 1 (length e.pools) && nat_le (length e.pools) 8 && nat_le e.tables 4 && nat_le (length e.rings) 8)
    (nat_le 1 (length e.ports)) h1 in
    let (h3, rings) = and_parts (nat_le 1 (length e.pools) && nat_le (length e.pools) 8 && nat_le e.tables 4) (nat_le (length e.rings) 8) h2 in
    let (h4, tables) = and_parts (nat_le 1 (length e.pools) && nat_le (length e.pools) 8) (nat_le e.tables 4) h3 in
    (leb-true (length e.ports) 8 ports, leb-true (length e.rings) 8 rings, leb-true e.tables 4 tables)

-- ---- lists one after the other

pub front_of : {A : Type 0} (xs ys : List A) (k : ℕ) → k < length xs → slice_get (xs ++ ys) k ≡ slice_get xs k
front_of [] ys k lt = absurd (omega arith)
front_of (x ∷ xs) ys zero lt = refl
front_of (x ∷ xs) ys (suc k) lt = front_of xs ys k (omega arith)

pub beyond : {A : Type 0} (xs ys : List A) (k : ℕ) → slice_get (xs ++ ys) (length xs + k) ≡ slice_get ys k
beyond [] ys k = rw zero-add refl
beyond (x ∷ xs) ys k =
    let next : length (x ∷ xs) + k ≡ suc (length xs + k) = omega arith in
    ap (slice_get (x ∷ (xs ++ ys))) next ∙ beyond xs ys k
