-- The rules before the index, and those after it moved down by one.
use Rattle.std.proofs.Common.{◌-◌, ◌<◌, length, ap, ◌∙◌, arith}
use Rattle.std.proofs.lemmas.List.{with_items_is}
use borrow.Rule.Slice.PartMut.{put_mid, same_len_mid}
use Rattle.dp_lpm.proofs.Removing.{left_out}
use Rattle.dp_lpm.proofs.rule.remove.Goals as goal

pub returns-clause-items : goal.returns-clause-items
returns-clause-items c =
    let was = c.deref_mut.result.now in
    let part = c.drop_first_rule.new.rules in
    let left = put_mid c.args.index (length was - c.args.index) was part in
    let there : c.args.index < length was = omega (arith, c.requires, ap length c.deref_mut.ensures.value) in
    let items = with_items_is c.args.rules.now left
    (same_len_mid c.args.index (length was - c.args.index) was part c.drop_first_rule.ensures.len ∙ c.deref_mut.ensures.len) in
    rw (c.pop.ensures.rest, items, ← c.deref_mut.ensures.len, ← c.deref_mut.ensures.value)
    (left_out c.args.index was part there c.drop_first_rule.ensures.len c.drop_first_rule.ensures.front)
