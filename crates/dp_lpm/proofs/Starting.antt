-- A table without rules.
use Rattle.std.proofs.Common.{◌≡◌, ℕ, zero, suc, ◌≤◌, [], replicate, None, refl, arith}
use Rattle.std.specs.Prelude.{vec_capacity}
use Rattle.dp_lpm.specs.declared.ruled_table.RuledTable.{RuledTable}
use Rattle.dp_lpm.specs.Routes.{deepest_within, groups_below}
use Rattle.dp_lpm.specs.Tables.{IsEmptyTable}
use Rattle.dp_lpm.specs.Kept.{used_count, IsKept}
use Rattle.dp_lpm.proofs.Within.{within_zero, within_suc}
use Rattle.dp_lpm.proofs.Counting.{groups_suc, groups_zero}

within_none : (n ip : ℕ) → deepest_within n [] ip ≡ None
within_none zero ip = within_zero [] ip
within_none (suc n) ip = rw (within_suc, within_none n ip)

groups_none : (n : ℕ) → groups_below n [] ≡ 0
groups_none zero = groups_zero []
groups_none (suc n) = rw (groups_suc, groups_none n)

used_none : (n : ℕ) → used_count (replicate n 0) ≡ 0
used_none zero = refl
used_none (suc n) = omega (arith, used_none n)

pub begun : (s : RuledTable) (groups : ℕ) → IsEmptyTable groups s.table → s.rules.items ≡ [] → s.max_rules ≤ 65536 →
    vec_capacity s.rules ≡ s.max_rules → IsKept s
begun s groups empty none most room = record {
  rules = simp none (record { order = tt; each = tt; few = omega arith; most = most; room = room });
  table = empty.table;
  answers = λ ip. rw (none, within_none) (empty.same ip);
  groups = record {
    grouped = λ i g named. let no = empty.plain i in cc;
    plain = λ i _. rw none;
    needed = rw (none, empty.counts, used_none, groups_none);
  };
}
