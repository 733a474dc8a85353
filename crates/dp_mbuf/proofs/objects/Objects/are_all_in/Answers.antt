-- All objects are in where each pool is whole.
use Rattle.dp_mbuf.proofs.Starting.{whole_iff}
use Rattle.dp_mbuf.proofs.objects.Objects.are_all_in.Goals as goal

pub returns : goal.returns
returns c = whole_iff _ _ _ c.self.view_is c.self.invariant.1 c.are_whole.ensures
