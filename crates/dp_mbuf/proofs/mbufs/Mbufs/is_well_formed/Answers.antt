-- What is known of the pools and the headers.
use Rattle.std.proofs.Common.{arith}
use Rattle.dp_mbuf.proofs.Live.{same_store}
use Rattle.dp_mbuf.proofs.Owned.{owned, within, few_refs, few_mbufs, one_to_64}
use Rattle.dp_mbuf.proofs.mbufs.Mbufs.is_well_formed.Goals as goal

pub returns : goal.returns
returns c =
    let same = same_store c.self.view_is in
    let few = few_refs _ _ same c.self.invariant in
    let mbufs = few_mbufs _ _ same c.are_few.ensures in
    record {
      world = record { within = within _ _ same c.self.invariant; owned = owned _ _ same c.self.invariant };
      few = few;
      mbufs = mbufs;
      counts = λ b. let below = few b in omega (arith, below, mbufs);
      sizes = one_to_64 _ _ same c.self.invariant;
    }
