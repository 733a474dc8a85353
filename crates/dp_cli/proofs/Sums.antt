-- The parts add up to what an engine needs.
use Rattle.std.proofs.Common.{◌≡◌, ℕ, ◌+◌, List, [], ◌∷◌, map, refl, ap, ◌∙◌, sym}
use Rattle.dp_model.specs.Environments.{Environment}
use Rattle.dp_engine.specs.Needs.{ring_bytes, pool_bytes, total, ring_counts, bytes_needed}
use Rattle.dp_cli.specs.{declared.sizes.Sizes.Sizes, Sizes.AreSizes, Sizes.pool_size, Sizes.sum_of}

-- the sum over what a function makes of a list
total-map : {X Y : Type 0} (f : Y → ℕ) (h : X → Y) (xs : List X) → total f (map h xs) ≡ total (λ x. f (h x)) xs
total-map f h [] = refl
total-map f h (x ∷ xs) = ap (λ n. f (h x) + n) (total-map f h xs)

pub sizes_add_up : (e : Environment) (sizes : Sizes) → AreSizes e sizes → sum_of sizes ≡ bytes_needed e
sizes_add_up e sizes are =
    let pools = ap (total (λ p. p.buffers + p.queue)) are.pools ∙ total-map (λ p. p.buffers + p.queue) pool_size e.pools in
    let rings = ap (total (λ n. n)) are.rings ∙ total-map (λ n. n) (λ r. ring_bytes r.count) e.rings
    ∙ sym (total-map ring_bytes (λ r. r.count) e.rings) in
    let lists = ap (total (λ n. n)) are.lists ∙ total-map (λ n. n) (λ p. ring_bytes p.queue) e.ports
    ∙ sym (total-map ring_bytes (λ p. p.queue) e.ports) in
    ap (λ n. n + total (λ n. n) sizes.rings.items + total (λ n. n) sizes.lists.items) pools
    ∙ ap (λ n. total pool_bytes e.pools + n + total (λ n. n) sizes.lists.items) rings
    ∙ ap (λ n. total pool_bytes e.pools + total ring_bytes (ring_counts e) + n) lists
