-- The entries are read in two runs.
use Rattle.std.proofs.Common.{◌≡◌, ◌-◌, ◌≤◌, length, take, sym, ap, ◌∙◌, subst, arith}
use Rattle.dp_ring.specs.contracts.ring.Ring.{the_view}
use Rattle.dp_ring.proofs.Entries.{counted}
use Rattle.dp_ring.proofs.Turning.{entries_loaded}
use Rattle.dp_ring.proofs.ring.Ring.read_all.Goals as goal

pub load_run-requires-2 : goal.load_run-requires-2
load_run-requires-2 c =
    let (_, used, _, room) = c.self.invariant in
    let is = counted c.self.inside.zone.bytes c.self.inside.count c.self.inside.first c.self.inside.used in
    let all : length c.args.values.now ≤ length (the_view c.self.inside).entries =
    subst (λ r. length c.args.values.now ≤ length r.entries) (sym c.self.view_is) c.requires in
    omega (arith, is, all, c.split_at_mut-near.ensures.back_len, used, room)

pub returns : goal.returns
returns c =
    let inside = c.self.inside in
    let m = length c.args.values.now in
    let n = c.before_turn-number.result in
    let is = counted inside.zone.bytes inside.count inside.first inside.used in
    let all : m ≤ length (the_view inside).entries = subst (λ r. m ≤ length r.entries) (sym c.self.view_is) c.requires in
    let front : length c.load_run.new.numbers ≡ n = omega (arith, c.load_run.auto.numbers, c.split_at_mut-near.ensures.front_len) in
    let back : length c.load_run-2.new.numbers ≡ m - n = omega (arith, c.load_run-2.auto.numbers, c.split_at_mut-near.ensures.back_len) in
    entries_loaded inside.count inside.first inside.used m n inside.zone.bytes c.load_run.new.numbers c.load_run-2.new.numbers c.self.invariant.0
    c.self.invariant.1 (omega (arith, is, all))
    c.before_turn-number.ensures.most.0 c.before_turn-number.ensures.most.1 c.before_turn-number.ensures.cut front back c.load_run.ensures c.load_run-2.ensures
    ∙ ap (λ r. take m r.entries) c.self.view_is
