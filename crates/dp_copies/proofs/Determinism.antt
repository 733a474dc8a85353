-- More steps allowed change no run of the copies, so there is one list of captures.
use Rattle.std.proofs.Common.{◌≡◌, ℕ, zero, suc, ◌+◌, ◌≤◌, Bool, false, List, [], ◌∷◌, length, map, Option, Some, None, refl, ◌∙◌, ap, arith, true, cond, sym}
use Rattle.std.proofs.Common.{replicate}
use Rattle.std.specs.Prelude.{slice_get, option_map, option_and_then, nat_lt}
use Rattle.std.proofs.lemmas.Option.{same_Some}
use Rattle.std.specs.Option.{option_map_or}
use Rattle.dp_model.specs.Environments.{room_at, Environment}
use Rattle.dp_model.specs.CopyMachine.{Copy, copy_received, CopyState, copy_start, copy_node_run, copy_receives, copy_arrives}
use Rattle.dp_model.specs.CopyMachine.{copy_serves, copy_turn, copy_records_at, copy_run, Captures}
use Rattle.dp_model.specs.Prefixes.{Route}
use Rattle.dp_model.specs.declared.env.PortSpec.{PortSpec}
use Rattle.dp_model.specs.declared.instr.Instr.{Instr}
use Rattle.dp_model.specs.Packets.{needed}
use Rattle.dp_model.specs.Runs.{Got, Oversize, Waiting, first_waiting, Nodes, Arrival, joined}
use Rattle.dp_copies.proofs.NodeRuns.{goes_more}

-- where the first has a value, the second has the same
abbrev Less : {R : Type 0} → Option R → Option R → Type 0
Less {R} o o' = (r : R) → o ≡ Some r → o' ≡ Some r

-- the parts of a run, from the smallest to the whole
then_less : {A B : Type 0} (f g : A → Option B) (o o' : Option A) → ((a : A) → Less (f a) (g a)) → Less o o' → Less (option_and_then f o) (option_and_then g o')
then_less f g None o' less from r e = cc
then_less f g (Some a) o' less from r e = ap (option_and_then g) (from a refl) ∙ less a r e

map_less : {A B : Type 0} (f : A → B) (o o' : Option A) → Less o o' → Less (option_map f o) (option_map f o')
map_less f None o' less r e = cc
map_less f (Some a) o' less r e = ap (option_map f) (less a refl) ∙ e

-- the packet that waits is served
abbrev serve : Environment → List (List Route) → List (List Instr) → ℕ → CopyState → ℕ → Option (Waiting Copy) → Option CopyState
serve env tables programs n x fuel o = option_map_or (λ next. option_and_then (copy_serves env tables fuel programs n)
    (option_and_then (λ program. copy_node_run env tables fuel program next.packet next.ring (record x { rings = next.rings }))
    (slice_get programs next.ring))) o (Some x)

module _ (env : Environment) (tables : List (List Route)) (fuel more : ℕ) (le : fuel ≤ more) where
  -- a node run
  node_less : (program : List Instr) (k : Copy) (number : ℕ) (x : CopyState) →
      Less (copy_node_run env tables fuel program k number x) (copy_node_run env tables more program k number x)
  node_less program k number x t e = goes_more env tables program fuel 0
      (record x { packets = Some k ∷ replicate 7 None; numbers = number ∷ replicate 7 0; jumps = 0 }) t e more le

  -- node runs on packets of rings
  serves_less : (programs : List (List Instr)) (n : ℕ) (x : CopyState) →
      Less (copy_serves env tables fuel programs n x) (copy_serves env tables more programs n x)
  serves_less programs zero x t e = e
  serves_less programs (suc n) x t e = go (first_waiting x.rings) (serves_less programs n) t e
    where
      go : (o : Option (Waiting Copy)) → ((x : CopyState) → Less (copy_serves env tables fuel programs n x) (copy_serves env tables more programs n x)) →
          Less (serve env tables programs n x fuel o) (serve env tables programs n x more o)
      go None rest t e = e
      go (Some next) rest t e = then_less (copy_serves env tables fuel programs n) (copy_serves env tables more programs n)
          (option_and_then (λ program. copy_node_run env tables fuel program next.packet next.ring (record x { rings = next.rings }))
          (slice_get programs next.ring))
          (option_and_then (λ program. copy_node_run env tables more program next.packet next.ring (record x { rings = next.rings }))
          (slice_get programs next.ring)) rest
          (then_less (λ program. copy_node_run env tables fuel program next.packet next.ring (record x { rings = next.rings }))
          (λ program. copy_node_run env tables more program next.packet next.ring (record x { rings = next.rings })) (slice_get programs next.ring)
          (slice_get programs next.ring) (λ program. node_less program next.packet next.ring (record x { rings = next.rings })) (λ r e. e)) t e

  -- a record that is small enough
  receives_less : (program : List Instr) (port : ℕ) (spec : PortSpec) (bytes : List ℕ) (x : CopyState) (answers : List Bool) →
      Less (copy_receives env tables fuel program port spec bytes x answers) (copy_receives env tables more program port spec bytes x answers)
  receives_less program port spec bytes x [] t e = cc
  receives_less program port spec bytes x (false ∷ later) t e = e
  receives_less program port spec bytes x (true ∷ later) t e =
      map_less (λ t. (Got, t))
      (copy_node_run env tables fuel program (copy_received (room_at env.pools spec.pool) (needed env.pools spec.pool (length bytes)) bytes) port
      (record x { to_answer = later }))
      (copy_node_run env tables more program (copy_received (room_at env.pools spec.pool) (needed env.pools spec.pool (length bytes)) bytes) port
      (record x { to_answer = later }))
      (node_less program (copy_received (room_at env.pools spec.pool) (needed env.pools spec.pool (length bytes)) bytes) port (record x { to_answer = later }))
      t e

  -- a choice
  either_less : {R : Type 0} (b : Bool) (o x y : Option R) → Less x y → Less (cond b o x) (cond b o y)
  either_less true o x y less r e = e
  either_less false o x y less r e = less r e

  -- a turn
  turn_less : (nodes : Nodes) (port : ℕ) (bytes : List ℕ) (x : CopyState) →
      Less (copy_turn env tables fuel nodes port bytes x) (copy_turn env tables more nodes port bytes x)
  turn_less nodes port bytes x = then_less _ _ (slice_get env.ports port) (slice_get env.ports port)
      (λ spec. then_less _ _ (slice_get nodes.ports port) (slice_get nodes.ports port)
      (λ program. then_less _ _ (copy_arrives env tables fuel program port spec bytes x) (copy_arrives env tables more program port spec bytes x)
      (λ m. map_less (λ t. (m.0, t)) (copy_serves env tables fuel nodes.rings 32 m.1) (copy_serves env tables more nodes.rings 32 m.1)
      (serves_less nodes.rings 32 m.1))
      (either_less (nat_lt spec.segs (needed env.pools spec.pool (length bytes))) (Some (Oversize, x))
      (copy_receives env tables fuel program port spec bytes x x.to_answer) (copy_receives env tables more program port spec bytes x x.to_answer)
      (receives_less program port spec bytes x x.to_answer)))
      (λ r e. e))
      (λ r e. e)

  -- a whole run
  run_less : {T : Type 0} (nodes : Nodes) (arrivals : List (Arrival T)) (x : CopyState) →
      Less (copy_run env tables fuel nodes arrivals x) (copy_run env tables more nodes arrivals x)
  run_less nodes [] x r e = e
  run_less {T} nodes (a ∷ arrivals) x r e = then_less _ _ (copy_turn env tables fuel nodes a.port a.bytes x) (copy_turn env tables more nodes a.port a.bytes x)
      (λ m. map_less {A = List (List (T × List ℕ)) × CopyState} {B = List (List (T × List ℕ))
      × CopyState} (λ rest. (joined (copy_records_at a.time m.1) rest.0, rest.1)) _ _
      (run_less nodes arrivals (record m.1 { outboxes = map (λ _. []) m.1.outboxes })))
      (turn_less nodes a.port a.bytes x) r e

-- there is one list of captures, and one number of cuts
pub captures_once : {T : Type 0} (env : Environment) (tables : List (List Route)) (nodes : Nodes) (arrivals : List (Arrival T)) (answers : List Bool)
    (captures captures' : List (List (T × List ℕ))) (cuts cuts' : ℕ) → Captures env tables nodes arrivals answers captures cuts →
    Captures env tables nodes arrivals answers captures' cuts' → (captures ≡ captures') × (cuts ≡ cuts')
captures_once {T} env tables nodes arrivals answers captures captures' cuts cuts' (fuel, x, e, _, is) (fuel', x', e', _, is') =
    let one = run_less env tables fuel (fuel + fuel') (omega arith) nodes arrivals (copy_start env answers) (captures, x) e in
    let other = run_less env tables fuel' (fuel + fuel') (omega arith) nodes arrivals (copy_start env answers) (captures', x') e' in
    let r : List (List (T × List ℕ)) × CopyState = (captures, x) in
    let r' : List (List (T × List ℕ)) × CopyState = (captures', x') in
    let same : r ≡ r' = same_Some r r' (sym one ∙ other) in
    (ap (λ (r : List (List (T × List ℕ)) × CopyState). r.0) same, sym is ∙ (ap (λ (r : List (List (T × List ℕ)) × CopyState). r.1.cuts) same ∙ is'))
