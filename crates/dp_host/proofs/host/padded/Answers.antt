-- The text is in front, and the zeros that the room had follow it.
use Rattle.dp_host.proofs.Explanations.{padded_is}
use Rattle.dp_host.proofs.host.padded.Goals as goal

pub returns : goal.returns
returns c = padded_is _ c.args.text.now _ _ c.min.ensures c.split_at.ensures.front c.split_at.ensures.front_len c.put_front.ensures
