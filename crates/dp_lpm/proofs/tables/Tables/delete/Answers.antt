-- The table that is written back changes as its own call says.
use Rattle.std.proofs.Common.{◌≡◌, Some, None}
use Rattle.dp_lpm.specs.Routes.{Drops, prefix_of}
use Rattle.dp_lpm.specs.Faults.{delete_fault}
use Rattle.dp_lpm.proofs.ChangedTables.{called}
use Rattle.dp_lpm.proofs.tables.Tables.delete.Goals as goal

pub returns : goal.returns
returns c =
    called c.self.inside.ruled.items c.deref_mut.result.now c.args.self.now c.args.table c.from.result c.index-deref_mut-from.result c.delete.new.self
    c.self.view_is c.deref_mut.ensures.value c.from.ensures c.requires
    c.delete.result (λ was now. Drops was now (prefix_of c.args.ip c.args.depth) c.args.depth × (delete_fault was c.args.ip c.args.depth ≡ None))
    (λ t e. delete_fault t c.args.ip c.args.depth ≡ Some e) c.delete.ensures.ok c.delete.ensures.err c.self.invariant c.delete.ensures.kept
