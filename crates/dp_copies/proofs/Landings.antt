-- What the copies do in a world, with enough steps allowed.
use Rattle.std.proofs.Common.{◌≡◌, ℕ, ◌≤◌, Bool, List, [], ◌∷◌, ◌++◌, map, Option, Some, None, refl, ◌∙◌, ap, subst, sym, replicate}
use Rattle.dp_model.specs.declared.env.PoolSpec.{PoolSpec}
use Rattle.dp_model.specs.Packets.{Packet, Lies}
use Rattle.dp_model.specs.Machine.{segments_held, segments_listed, Setting, World, Ended}
use Rattle.dp_model.specs.Copies.{copy_of}
use Rattle.dp_model.specs.declared.instr.Instr.{Instr}
use Rattle.dp_model.specs.CopyMachine.{CopyState, copy_node_run, copy_goes}
use Rattle.dp_model.specs.Runs.{first_state, NodeRun, between}
use Rattle.dp_model.specs.Laws.Within.{IsInside}
use Rattle.dp_model.specs.Laws.Lists.{all_right}
use Rattle.dp_copies.proofs.States.{copied}
use Rattle.dp_copies.proofs.Steps.{steps_copy}
use Rattle.dp_copies.proofs.NodeRuns.{goes_more, goes_copies, goes_within}

-- a state of the copies that shows a world, with these answers to come
pub record Shows (pools : List PoolSpec) (w : World) (answers : List Bool) (x : CopyState) : Type 0 where
  pub rings : x.rings ≡ map (map (copy_of pools w.buffers)) w.rings
  pub outboxes : x.outboxes ≡ map (map (copy_of pools w.buffers)) w.outboxes
  pub to_answer : x.to_answer ≡ answers
  pub cuts : x.cuts ≡ w.cuts

-- with enough steps the copies do this from a state that shows the world
pub record Lands {R : Type 0} (c : Setting) (w : World) (later : List Bool) (go : ℕ → Option R) (made : CopyState → R) : Type 0 where
  pub state : CopyState
  pub shows : Shows c.env.pools w later state
  pub enough : ℕ
  pub lands : (fuel : ℕ) → enough ≤ fuel → go fuel ≡ Some (made state)
  pub within : IsInside c (between w)

-- nothing happens
pub stays : {R : Type 0} (c : Setting) (w w' : World) (answers later : List Bool) (x : CopyState) (go : ℕ → Option R) (made : CopyState → R) →
    IsInside c (between w) → Shows c.env.pools w (answers ++ later) x → answers ≡ [] → w' ≡ w → ((fuel : ℕ) → go fuel ≡ Some (made x))
    → Lands c w' later go made
stays c w w' answers later x go made well shows none is e =
    subst (λ v. Lands c v later go made) (sym is) (record {
      state = x;
      shows = subst (λ ts. Shows c.env.pools w (ts ++ later) x) none shows;
      enough = 0;
      lands = λ fuel le. e fuel;
      within = well;
    })

-- a node run
pub node_lands : (c : Setting) (program : List Instr) (k : Packet) (number : ℕ) (w w' : World) (answers later : List Bool) (x : CopyState) →
    IsInside c (first_state k number w) → Shows c.env.pools w (answers ++ later) x → NodeRun c program k number w answers w' →
    Lands c w' later (λ fuel. copy_node_run c.env c.tables fuel program (copy_of c.env.pools w.buffers k) number x) (λ t. t)
node_lands c program k number w w' answers later x well shows (n, s, goes, is) =
    let pools = c.env.pools in
    let begins : record x { packets = Some (copy_of pools w.buffers k) ∷ replicate 7 None; numbers = number ∷ replicate 7 0; jumps = 0 }
    ≡ copied pools (first_state k number w) (answers ++ later) =
    λ i. record {
      packets = Some (copy_of pools w.buffers k) ∷ replicate 7 None;
      numbers = number ∷ replicate 7 0;
      jumps = 0;
      rings = shows.rings i;
      outboxes = shows.outboxes i;
      to_answer = shows.to_answer i;
      cuts = shows.cuts i;
    } in
    let inside = goes_within c program n 0 (first_state k number w) s answers Ended well goes in
    subst (λ w'. Lands c w' later (λ fuel. copy_node_run c.env c.tables fuel program (copy_of pools w.buffers k) number x) (λ t. t)) (sym is) (record {
      state = copied pools s later;
      shows = record { rings = refl; outboxes = refl; to_answer = refl; cuts = refl };
      enough = n;
      lands = λ fuel le. ap (copy_goes c.env c.tables program fuel 0) begins
          ∙ goes_more c.env c.tables program n 0 (copied pools (first_state k number w) (answers ++ later)) (copied pools s later)
          (goes_copies c (steps_copy c) program n 0 (first_state k number w) s answers later well goes) fuel le;
      within = record {
        rooms = inside.rooms;
        bytes = inside.bytes;
        lie = all_right (Lies pools) (segments_held s.packets) (segments_listed s.world.rings
            ++ segments_listed s.world.outboxes) inside.lie;
      };
    })
