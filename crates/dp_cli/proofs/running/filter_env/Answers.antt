-- `filter_env`: the room and the number of segments are in range, and no pipeline has both.
use Rattle.std.proofs.Common.{inr, refl, rules}
use Rattle.dp_cli.specs.Runs.{filter_port}
use Rattle.dp_cli.proofs.running.filter_env.Goals as goal

pub returns-in-Err-clause-wrong : goal.returns-in-Err-clause-wrong
returns-in-Err-clause-wrong g c = (
  c.wrong.ensures,
  inr (inr (
    filter_port c.in_ok-room.room c.in_ok-segs.segs,
    record { room = c.in_ok-room.room; room_is = search rules; segs = c.in_ok-segs.segs; segs_is = search rules; env_is = refl },
    _,
    c.in-Err.ensures.err,
  )),
)
