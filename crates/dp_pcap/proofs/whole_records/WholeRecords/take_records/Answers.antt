-- Whole records, or a part of a head.
use Rattle.std.proofs.Common.{rules, ◌≡◌, subst, sym, ◌∙◌, ap, arith}
use Rattle.dp_pcap.specs.Counting.{Counted, IsAfter}
use Rattle.dp_pcap.proofs.Counting.{fronts_passed}
use Rattle.dp_pcap.proofs.whole_records.WholeRecords.take_records.Goals as goal

pub returns : goal.returns
returns c = record {
  some = search rules;
  most = search rules;
  order = search rules;
  pieces = search rules;
  beyond = λ few before b.
      let inside = c.self.inside in
      let same : inside.pieces ≡ c.args.self.now.pieces = ap (λ (v : Counted). v.pieces) c.self.view_is in
      let none : inside.left ≡ 0 = ap (λ (v : Counted). v.left) c.self.view_is ∙ c.requires.none in
      let begins : inside.came ≡ 0 = omega (arith, c.if-self-gt0.false) in
      fronts_passed inside.order inside.pieces inside.left inside.came c.whole_at_front-count.result.0 c.saturating_add-self-inside.result
      c.whole_at_front-count.result.1 inside.head before c.args.bytes.now none begins
      (omega (arith, c.saturating_add-self-inside.ensures, c.whole_at_front-count.ensures.few, few, same))
      c.whole_at_front-count.ensures.beyond (subst (λ v. IsAfter v before) (sym c.self.view_is) b);
}
