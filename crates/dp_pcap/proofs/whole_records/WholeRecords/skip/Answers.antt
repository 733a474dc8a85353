-- `skip`: the body ends here, or goes on.
use Rattle.std.proofs.Common.{rules, ◌≡◌, ◌≤◌, ◌-◌, length, take, subst, sym, ap, arith}
use Rattle.dp_pcap.specs.Counting.{Counted, IsAfter}
use Rattle.dp_pcap.proofs.Counting.{completes}
use Rattle.std.proofs.lemmas.Grind.{common_steps}
use Rattle.dp_pcap.proofs.whole_records.WholeRecords.skip.Goals as goal

pub returns-then-self-eq0 : goal.returns-then-self-eq0
returns-then-self-eq0 c = record {
  some = search rules;
  most = search rules;
  order = search rules;
  pieces = search rules;
  beyond = λ few before b.
      let same : c.self.inside.pieces ≡ c.args.self.now.pieces = ap (λ (v : Counted). v.pieces) c.self.view_is in
      let left : c.self.inside.left ≡ c.args.self.now.left = ap (λ (v : Counted). v.left) c.self.view_is in
      let none : c.self.inside.left - c.min-taken.result ≡ 0 = search rules in
      let within : c.min-taken.result ≤ length c.args.bytes.now = search rules in
      let most : c.min-taken.result ≤ c.self.inside.left = search rules in
      completes c.self.inside.order c.self.inside.pieces c.self.inside.left c.saturating_add-self-inside.result (c.self.inside.left - c.min-taken.result)
      c.min-taken.result
      (take c.self.inside.came c.self.inside.head) before c.args.bytes.now (omega (arith, c.saturating_add-self-inside.ensures, few, same)) none
      (omega (arith, none, most)) within (omega (arith, left, c.requires.left)) (subst (λ v. IsAfter v before) (sym c.self.view_is) b);
}

pub returns-else-self-eq0 : goal.returns-else-self-eq0
returns-else-self-eq0 c = grind (arith, common_steps)
