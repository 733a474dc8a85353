-- A use in stretches has in each stretch the captures of the copies.
use Rattle.std.proofs.Common.{◌≡◌, ℕ, ◌+◌, ◌≤◌, Bool, List, [], ◌∷◌, ◌++◌, map, refl, ◌∙◌, ap, arith, sym, subst, None, append_assoc}
use Rattle.std.proofs.lemmas.List.{append-nil}
use Rattle.dp_model.specs.Environments.{fault_of}
use Rattle.dp_model.specs.CopyMachine.{CopyState, copy_start, copy_run}
use Rattle.dp_model.specs.Copies.{copy_of}
use Rattle.dp_model.specs.Machine.{Setting, World}
use Rattle.dp_model.specs.Runs.{Nodes, Observed, Run, between}
use Rattle.dp_model.specs.Starts.{IsStart}
use Rattle.dp_model.specs.Uses.{Stretch, Uses, answers_of, with_tables}
use Rattle.dp_model.specs.Laws.Limits.{HaveRoom, ports_have_room}
use Rattle.dp_model.specs.Laws.Within.{IsInside, start_inside}
use Rattle.dp_copies.specs.CopiedUses.{CopiesUse, Shown}
use Rattle.dp_copies.proofs.Lists.{no_lists}
use Rattle.dp_copies.proofs.Landings.{Shows, Lands}
use Rattle.dp_copies.proofs.WholeRuns.{run_lands}

-- with enough steps the copies do this use from a state that shows the world
record UseLands {T : Type 0} (c : Setting) (nodes : Nodes) (stretches : List (Stretch T)) (w' : World) (later : List Bool) (x : CopyState) : Type 0 where
  pub state : CopyState
  pub shows : Shows c.env.pools w' later state
  pub enough : ℕ
  pub lands : (fuel : ℕ) → enough ≤ fuel → CopiesUse c.env nodes fuel stretches x state
  pub within : IsInside c (between w')

use_lands : {T : Type 0} (c : Setting) (nodes : Nodes) (stretches : List (Stretch T)) (w w' : World) (later : List Bool) (x : CopyState) → HaveRoom c.env
    → IsInside c (between w) → Shows c.env.pools w (answers_of stretches ++ later) x → Uses c nodes stretches w w' → UseLands c nodes stretches w' later x
use_lands {T} c nodes [] w w' later x rooms inside shows is =
    subst (λ v. UseLands {T = T} c nodes [] v later x) (sym is)
    (record { state = x; shows = shows; enough = 0; lands = λ fuel le. refl; within = inside })
use_lands c nodes (s ∷ earlier) w w' later x rooms inside shows (mid, uses, run) =
    let before = use_lands c nodes earlier w mid (s.shown.answers ++ later) x rooms inside
    (record {
      rings = shows.rings;
      outboxes = shows.outboxes;
      to_answer = shows.to_answer ∙ append_assoc (answers_of earlier) s.shown.answers later;
      cuts = shows.cuts;
    }) uses in
    let d : Setting = with_tables s.tables c in
    let well : IsInside d (between mid) = record { rooms = before.within.rooms; bytes = before.within.bytes; lie = before.within.lie } in
    let now = run_lands d nodes s.arrivals mid w' later s.shown before.state rooms well before.shows run in
    record {
      state = now.state;
      shows = now.shows;
      enough = before.enough + now.enough;
      lands = λ fuel le. (before.state, before.lands fuel (omega (arith, le)), now.lands fuel (omega (arith, le)));
      within = record { rooms = now.within.rooms; bytes = now.within.bytes; lie = now.within.lie };
    }

-- a use from the start on
pub use_copies : {T : Type 0} (c : Setting) (nodes : Nodes) (stretches : List (Stretch T)) (w w' : World) → fault_of c.env ≡ None → IsStart c.env w
    → Uses c nodes stretches w w' → Shown c.env nodes stretches w'.cuts
use_copies c nodes stretches w w' accepted start uses =
    let copy = copy_of c.env.pools w.buffers in
    let lands = use_lands c nodes stretches w w' [] (copy_start c.env (answers_of stretches)) (ports_have_room c.env accepted) (start_inside c w start)
    (record {
      rings = no_lists copy c.env.rings ∙ ap (map (map copy)) (sym start.rings);
      outboxes = no_lists copy c.env.ports ∙ ap (map (map copy)) (sym start.outboxes);
      to_answer = sym (append-nil (answers_of stretches));
      cuts = sym start.cuts;
    }) uses in
    record {
      fuel = lands.enough;
      state = lands.state;
      copies = lands.lands lands.enough (omega arith);
      all_answered = lands.shows.to_answer;
      cuts_are = lands.shows.cuts;
    }
