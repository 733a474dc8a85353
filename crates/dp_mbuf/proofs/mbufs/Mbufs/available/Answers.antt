-- The pool has as many objects in as the store has free numbers there.
use Rattle.std.proofs.Common.{sym, ◌∙◌}
use Rattle.dp_mbuf.proofs.Live.{same_store}
use Rattle.dp_mbuf.proofs.Allocs.{free_in}
use Rattle.dp_mbuf.proofs.mbufs.Mbufs.available.Goals as goal

pub returns : goal.returns
returns c = c.available.ensures ∙ sym (free_in _ _ c.args.pool (same_store c.self.view_is) c.self.invariant c.requires)
