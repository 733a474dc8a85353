use Rattle.std.proofs.Common.{◌≡◌, ◌≤◌, length}
use Rattle.dp_host.specs.declared.packed.TheConstants.{MAX_FILES}
use Rattle.dp_host.proofs.Files.{AreNamed, Left, Taken}
use Rattle.dp_host.proofs.packed.files_in.Given as goal

abbrev pub invariant-loop-count : goal.invariant-loop-count
invariant-loop-count l = record {
  taken : Taken l.packed l.files.items l.rest;
  left : Left l.packed l.rest l._count;
  many : length l.files.items ≡ l._count;
  most : l._count ≤ MAX_FILES;
  names : AreNamed l.files.items;
}
