-- `take_head`: the head is whole, and its record ends here or goes on.
use Rattle.std.proofs.Common.{rules, refl, ◌≡◌, ◌∙◌, ◌+◌, ◌-◌, subst, sym, ap, arith}
use Rattle.dp_pcap.specs.Capture.{number}
use Rattle.dp_pcap.specs.Counting.{Counted, IsAfter}
use Rattle.dp_pcap.proofs.Counting.{IsHead, head_ends, head_goes_on, head_grows}
use Rattle.dp_pcap.proofs.whole_records.WholeRecords.take_head.Goals as goal
use Rattle.dp_pcap.proofs.whole_records.WholeRecords.take_head.Goals.{After-body_length}

-- the head that is now whole
head : (c : After-body_length) → IsHead c.self.inside.order c.self.inside.came (c.self.inside.came + c.min-taken.result - c.self.inside.came)
    c.min-taken.result c.body_length.result c.self.inside.head c.copy_from_slice.new.self c.args.bytes.now
unfolding number
head c = record {
  full = search rules;
  within = search rules;
  there = omega (arith, c.self.invariant.0, c.self.invariant.1);
  long = search rules;
  written = search rules;
  is_long = c.body_length.ensures;
}

-- no byte was left before it
none : (c : After-body_length) → c.self.inside.left ≡ 0
none c = ap (λ (v : Counted). v.left) c.self.view_is ∙ c.requires.none

pub returns-then-self-eq0 : goal.returns-then-self-eq0
returns-then-self-eq0 c = record {
  some = search rules;
  most = search rules;
  order = search rules;
  pieces = search rules;
  beyond = λ few before b.
      let same : c.self.inside.pieces ≡ c.args.self.now.pieces = ap (λ (v : Counted). v.pieces) c.self.view_is in
      let opened = (goal.at.returns-then-self-eq0 c).After-body_length in
      head_ends before (none opened) refl (head opened) (subst (λ v. IsAfter v before) (sym c.self.view_is) b)
      (omega (arith, c.saturating_add-self-inside.ensures, few, same)) (search rules);
}

pub returns-else-self-eq0 : goal.returns-else-self-eq0
returns-else-self-eq0 c = record {
  some = search rules;
  most = search rules;
  order = search rules;
  pieces = search rules;
  beyond = λ few before b.
      let opened = (goal.at.returns-else-self-eq0 c).After-body_length in
      head_goes_on before (none opened) refl (head opened) (subst (λ v. IsAfter v before) (sym c.self.view_is) b) (search rules);
}

pub returns-else-self-eq-HEAD_SIZE : goal.returns-else-self-eq-HEAD_SIZE
returns-else-self-eq-HEAD_SIZE c = record {
  some = search rules;
  most = search rules;
  order = search rules;
  pieces = search rules;
  beyond = λ few before b.
      let none : c.self.inside.left ≡ 0 = ap (λ (v : Counted). v.left) c.self.view_is ∙ c.requires.none in
      head_grows _ _ _ c.self.inside.came _ c.min-taken.result c.self.inside.head _ before c.args.bytes.now none (search rules)
      (omega (arith, c.self.invariant.0, c.self.invariant.1)) (search rules) (search rules)
      (subst (λ v. IsAfter v before) (sym c.self.view_is) b);
}
