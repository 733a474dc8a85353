-- What the steps of the two machines share.
use Rattle.std.proofs.Common.{◌≡◌, ℕ, Bool, false, List, ◌++◌, Option, Some, None, refl, ◌∙◌, ap, subst, true, cond, sym}
use Rattle.std.specs.Prelude.{slice_set, option_map, option_and_then}
use Rattle.std.proofs.lemmas.Option.{slice_get-map}
use Rattle.std.specs.Option.{option_map_or}
use Rattle.std.proofs.lemmas.List.{map-set}
use Rattle.dp_model.specs.declared.env.PoolSpec.{PoolSpec}
use Rattle.dp_model.specs.Packets.{Packet}
use Rattle.dp_model.specs.Machine.{State, Holds, IsEmpty, Setting, Move}
use Rattle.dp_model.specs.CopyMachine.{Copy, CopyMove, with_held, copy_put, copy_step, with_empty, is_gone}
use Rattle.dp_model.specs.Copies.{copy_of}
use Rattle.dp_model.specs.declared.instr.Instr.{Instr}
use Rattle.dp_copies.proofs.States.{copied, same_lists}

-- the move is that of the copies
abbrev pub Does : Setting → ℕ → State → Instr → List Bool → Move → Type 0
Does c label s i later m = copy_step c.env c.tables label (copied c.env.pools s (m.answers ++ later)) i ≡ Some (m.next, copied c.env.pools m.state later)

-- a move that is equal
pub by : (c : Setting) (label : ℕ) (s : State) (i : Instr) (later : List Bool) (m m' : Move) → m ≡ m' → Does c label s i later m' → Does c label s i later m
by c label s i later m m' is h = subst (λ m. Does c label s i later m) (sym is) h

-- a choice of moves
pub either : (c : Setting) (label : ℕ) (s : State) (i : Instr) (later : List Bool) (b : Bool) (x y : Move) → (b ≡ true → Does c label s i later x) →
    (b ≡ false → Does c label s i later y) → Does c label s i later (cond b x y)
either c label s i later true x y f g = f refl
either c label s i later false x y f g = g refl

-- a register with a packet has its copy
pub held_step : (pools : List PoolSpec) (st : State) (answers : List Bool) (p : ℕ) (k : Packet) (go : Copy → Option CopyMove) → Holds st p k →
    with_held (copied pools st answers) p go ≡ go (copy_of pools st.world.buffers k)
held_step pools st answers p k go holds =
    ap (λ o. option_and_then go (option_and_then (λ u. u) o)) (slice_get-map (option_map (copy_of pools st.world.buffers)) st.packets p
    ∙ ap (option_map (option_map (copy_of pools st.world.buffers))) holds)

-- an empty register is empty
pub empty_step : (pools : List PoolSpec) (st : State) (answers : List Bool) (p : ℕ) (move : Option CopyMove) → IsEmpty st p →
    with_empty (copied pools st answers) p move ≡ move
empty_step pools st answers p move empty =
    ap (λ o. cond (option_map_or is_gone o false) move None) (slice_get-map (option_map (copy_of pools st.world.buffers)) st.packets p
    ∙ ap (option_map (option_map (copy_of pools st.world.buffers))) empty)

-- a register set
pub put_copies : (pools : List PoolSpec) (st : State) (p : ℕ) (o : Option Packet) (answers : List Bool) →
    copied pools (record st { packets = slice_set st.packets p o }) answers ≡ copy_put p (option_map (copy_of pools st.world.buffers) o)
    (copied pools st answers)
put_copies pools st p o answers =
    same_lists (copied pools (record st { packets = slice_set st.packets p o }) answers) (map-set (option_map (copy_of pools st.world.buffers)) st.packets p o)
    refl refl
