-- A step of a node run: what is known at its label, and where its instruction led.
use Rattle.std.specs.Prelude.{is_some}
use Rattle.std.specs.List.{AllByRecursion}
use Rattle.std.proofs.Common.{rules, ◌≡◌, ℕ, ◌+◌, ◌-◌, List, Option, None, Some, refl, sym, ap, ◌∙◌, subst, arith}
use Rattle.dp_model.specs.Machine.{with_cut, without_packets}
use Rattle.dp_model.specs.Packets.{Segment}
use Rattle.dp_engine.specs.declared.run.Went.TheVariants.{There}
use Rattle.dp_engine.specs.declared.watch.Way.{Way}
use Rattle.dp_engine.specs.declared.watch.Way.TheVariants.{On, To, Out}
use Rattle.dp_engine.specs.Handles.{Core, moved}
use Rattle.dp_engine.specs.Midway.{StepResult, taken, went_by}
use Rattle.dp_engine.specs.Steps.{label_after, setting_in}
use Rattle.dp_engine.proofs.Midways.{stands_within, stands_at, controlled_at, led_forward, led_back, led_end, led_out}
use Rattle.dp_engine.proofs.Midways.{names_ran, names_to, seen_of, seen_to}
use Rattle.dp_engine.proofs.run.step.Goals as goal
use Rattle.dp_engine.proofs.run.step.Goals.{After-act, else-to-label-via-then-to-label+else-not-jump, else-to-label-via-else-to-label}

-- its instruction leaves pools and frames as they are
stay : (g : _) (c : After-act g) → (c.act.new.m.pools ≡ c.args.m.now.pools) × (c.act.new.m.frames ≡ c.args.m.now.frames)
stay g c =
    (c.act.ensures.pools ∙ ap (λ (x : Core). x.pools) c.count_step.ensures, c.act.ensures.frames ∙ ap (λ (x : Core). x.frames) c.count_step.ensures)

pub shown-here-requires : goal.shown-here-requires
shown-here-requires g c =
    let (P, m0, w0, a, h, here) = c.requires.midway in
    (stands_within h c.args.instr.now here).within

pub act-requires-clause-has : goal.act-requires-clause-has
act-requires-clause-has g c =
    let (P, m0, w0, a, h, here) = c.requires.midway in
    rw c.count_step.ensures (stands_at h c.args.instr.now here).has

pub act-requires-clause-firsts : goal.act-requires-clause-firsts
act-requires-clause-firsts g c =
    let (P, m0, w0, a, h, here) = c.requires.midway in
    rw c.count_step.ensures (stands_at h c.args.instr.now here).firsts

pub act-requires-clause-shifts : goal.act-requires-clause-shifts
act-requires-clause-shifts g c =
    let (P, m0, w0, a, h, here) = c.requires.midway in
    (stands_within h c.args.instr.now here).shifts

pub act-requires-clause-few : goal.act-requires-clause-few
act-requires-clause-few g c =
    let (P, m0, w0, a, h, here) = c.requires.midway in
    omega (arith, ap (λ (x : Core). x.state.world.calls) c.count_step.ensures, (stands_within h c.args.instr.now here).few_calls)

pub cut-requires-clause-few : goal.cut-requires-clause-few
cut-requires-clause-few g c =
    let (P, m0, w0, a, h, here) = c.requires.midway in
    let s = controlled_at h c.count_step.new.self c.act.new.m c.args.instr.now c.act.result (To c.from-to.result) here c.count_step.ensures
    (rw c.from-to.ensures c.in-To.is) c.act.ensures.acts in
    omega (arith, ap (λ (x : Core). x.state.world.cuts) (c.if-not-jump.ensures.over refl).1, s.cuts, h.few_cuts)

pub returns-in-Out : goal.returns-in-Out
returns-in-Out g c =
    record {
      led =
          λ P m0 w0 a h here.
          let m2 = c.act.new.m in
          let (pools, frames) = stay g (goal.at.returns-in-Out g c).After-act in
          led_end h m2 c.see.new.self (taken a c.args.label 0)
          (controlled_at h c.count_step.new.self m2 c.args.instr.now c.act.result Out here c.count_step.ensures c.in-Out.is c.act.ensures.acts) pools frames
          (c.act.ensures.idle (ap (λ (w : Way). is_some (label_after c.args.label w)) c.in-Out.is)) refl refl
          (seen_of g.W.Watch.sees c.shown-here.ensures.same c.of.ensures c.see.ensures);
    }

pub returns-in-On : goal.returns-in-On
returns-in-On g c =
    record {
      led =
          λ P m0 w0 a h here.
          let m2 = c.act.new.m in
          let s = controlled_at h c.count_step.new.self m2 c.args.instr.now c.act.result On here c.count_step.ensures c.in-On.is c.act.ensures.acts in
          let (pools, frames) = stay g (goal.at.returns-in-On g c).After-act in
          led_forward h m2 c.see-in-On.new.self a (c.args.label + 1) On s pools frames (omega arith) (omega arith) (refl, refl)
          (seen_of g.W.Watch.sees c.shown-here.ensures.same c.of-in-On.ensures c.see-in-On.ensures);
    }

pub returns-then-not-jump : goal.returns-then-not-jump
returns-then-not-jump g c =
    record {
      led =
          λ P m0 w0 a h here.
          let m2 = c.act.new.m in
          let s = controlled_at h c.count_step.new.self m2 c.args.instr.now c.act.result (To c.from-to.result) here c.count_step.ensures
          (rw c.from-to.ensures c.in-To.is) c.act.ensures.acts in
          let (pools, frames) = stay g (goal.at.returns-then-not-jump g c).After-act in
          let (over, same) = c.if-not-jump.ensures.over refl in
          let is = c.cut.ensures ∙ ap (λ (x : Core). moved (without_packets (with_cut x.state)) x) same in
          led_out h m2 c.cut.new.self c.see-then-not-jump.new.self c.from-to.result (taken a c.args.label 1) s pools frames c.if-to-label.true over is
          (subst (λ (x : Core). AllByRecursion (λ (o : Option (List Segment)). o ≡ None) x.state.packets) (sym is) (search rules))
          refl refl
          (seen_of g.W.Watch.sees c.shown-here.ensures.same (c.of-then-not-jump.ensures ∙ same) c.see-then-not-jump.ensures);
    }

pub returns-else-to-label : goal.returns-else-to-label
returns-else-to-label g c =
    let sees = g.W.Watch.sees in
    let S = setting_in c.args.setting.now in
    let m = c.args.m.now in
    let m2 = c.act.new.m in
    let label = c.args.label in
    let i = c.args.instr.now in
    let m3 = c.else-to-label.m in
    let v2 = c.see-in-To.new.self in
    let to = c.from-to.result in
    let (pools, frames) = stay g (goal.at.returns-else-to-label g c).After-act in
    record {
      led =
          λ P m0 w0 a h here.
          let ahead' = a + label + 1 - to in
          let is : c.act.result ≡ To to = rw c.from-to.ensures c.in-To.is in
          let s = controlled_at h c.count_step.new.self m2 i c.act.result (To to) here c.count_step.ensures is c.act.ensures.acts in
          let names = names_ran S P m0.state (a + label - 65536) label m.state (Some to) m2.state i to here
          (names_to i c.act.result (To to) is c.act.ensures.names) s in
          let more : ahead' + to ≡ a + label + 1 = omega (arith, h.keeps.some, s.ran.is_label, h.is.few) in
          subst (λ (l : ℕ). StepResult sees S P m0 w0 m label m3 v2 (went_by a label (To l))) c.from-to.ensures (elim c.else-to-label.branch [
            | else-to-label-via-then-to-label+else-not-jump w ↦
                let (room, same) = w.if-not-jump.ensures.taken refl in
                led_back h m2 m3 v2 ahead' to (To to) s pools frames w.if-to-label.true room (w.m-is ∙ same) more
                (refl, names, ap (λ (x : Core). x.state) (w.m-is ∙ same))
                (seen_to sees c.from-to.ensures c.shown-here.ensures.same c.of-in-To.ensures c.see-in-To.ensures)
            | else-to-label-via-else-to-label w ↦
                subst (λ (x : Core). StepResult sees S P m0 w0 m label x v2 (There to ahead')) (sym w.m-is)
                (led_forward h m2 v2 ahead' to (To to) s pools frames w.if-to-label.false more (refl, names, refl)
                (seen_to sees c.from-to.ensures c.shown-here.ensures.same (c.of-in-To.ensures ∙ w.m-is) c.see-in-To.ensures))
          ]);
    }
