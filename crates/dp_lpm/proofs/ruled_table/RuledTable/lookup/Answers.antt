-- The entry is that of the deepest route.
use Rattle.std.proofs.Common.{sym, ◌∙◌}
use Rattle.dp_lpm.specs.Kept.{routes_in}
use Rattle.dp_lpm.proofs.HopFor.{hop_answered, none_answered}
use Rattle.dp_lpm.proofs.Looking.{looks_up, low_hop}
use Rattle.dp_lpm.proofs.ruled_table.RuledTable.lookup.Goals as goal

pub returns-in-Hop : goal.returns-in-Hop
returns-in-Hop c =
    let answer = hop_answered (routes_in c.args.self.now) c.args.ip c.in-Hop.hop c.in-Hop.depth (c.in-Hop.ensures ∙ c.requires.answers c.args.ip) in
    record {
      value = sym answer;
      deepest = rw answer at (looks_up (routes_in c.args.self.now) c.args.ip c.requires.rules.each);
      low = rw answer at (low_hop (routes_in c.args.self.now) c.args.ip c.requires.rules.each);
    }

pub returns-in_default : goal.returns-in_default
returns-in_default c =
    let answer = none_answered (routes_in c.args.self.now) c.args.ip c.entry_for.result c.in_default.not-Hop
    (c.entry_for.ensures ∙ c.requires.answers c.args.ip) in
    record {
      value = sym answer;
      deepest = rw answer at (looks_up (routes_in c.args.self.now) c.args.ip c.requires.rules.each);
      low = rw answer at (low_hop (routes_in c.args.self.now) c.args.ip c.requires.rules.each);
    }
