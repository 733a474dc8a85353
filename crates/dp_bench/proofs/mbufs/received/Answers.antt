use Rattle.std.proofs.Common.{rules, ◌≡◌, ◌∙◌, ◌≤◌, length, sym, ap, subst, arith}
use Rattle.dp_model.specs.Packets.{needed}
use Rattle.dp_bench.proofs.Packets.{receive_live, receive_back, needs_one}
use Rattle.dp_bench.proofs.mbufs.received.Goals as goal

pub receive-requires-clause-fits : goal.receive-requires-clause-fits
receive-requires-clause-fits c =
    let low : 1 ≤ 64 = omega arith in
    let long : length c.args.bytes.now ≡ 60 = search rules in
    subst (λ n. n ≤ 64) (sym (ap (needed c.args.m.now.store.pools 0) long ∙ needs_one c.args.m.now.store c.requires.room)) low

pub free-requires : goal.free-requires
free-requires c = receive_live c.args.m.now.store c.receive.new.self.store 0 c.in-Some.packet c.args.bytes.now c.in-Some.ensures.packets

pub returns-in-Some : goal.returns-in-Some
returns-in-Some c =
    let back = receive_back c.args.m.now.store c.receive.new.self.store 0 c.in-Some.packet c.args.bytes.now c.in-Some.ensures.packets c.free.new.self.store
    c.free.ensures.packets in
    (back.0, back.1, c.free.ensures.zones ∙ c.receive.ensures.zones)
