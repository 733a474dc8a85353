-- The table that is written back changes as its own call says.
use Rattle.std.proofs.Common.{◌≡◌, Some, None}
use Rattle.dp_lpm.specs.Routes.{Puts}
use Rattle.dp_lpm.specs.Faults.{added, add_fault}
use Rattle.dp_lpm.proofs.ChangedTables.{called}
use Rattle.dp_lpm.proofs.tables.Tables.add.Goals as goal

pub returns : goal.returns
returns c =
    called c.self.inside.ruled.items c.deref_mut.result.now c.args.self.now c.args.table c.from.result c.index-deref_mut-from.result c.add.new.self
    c.self.view_is c.deref_mut.ensures.value c.from.ensures c.requires
    c.add.result (λ was now. Puts was now (added c.args.ip c.args.depth c.args.hop) × (add_fault was c.args.ip c.args.depth c.args.hop ≡ None))
    (λ t e. add_fault t c.args.ip c.args.depth c.args.hop ≡ Some e) c.add.ensures.ok c.add.ensures.err c.self.invariant c.add.ensures.kept
