-- `read_headers`: the headers so far, and that their readers are sound.
use Rattle.std.proofs.Common.{◌≡◌, ◌≤◌, vec_len}
use Rattle.std.specs.Vec.{vec_capacity}
use Rattle.dp_pipe.specs.Devices.{seen}
use Rattle.dp_pipe.proofs.Heading.{ReadFirst}
use Rattle.dp_pipe.proofs.running.read_headers.Given as goal

abbrev pub invariant-loop-port : goal.invariant-loop-port
invariant-loop-port g l = record {
  read : ReadFirst (seen g.R.Feed.remaining g.R.Feed.calls) g.R.Feed.failures g.R.Feed.is_broken l.port l.fn.ins l.ins l.inputs.items;
  len : vec_len l.inputs ≡ l.port;
  room : 8 ≤ vec_capacity l.inputs;
}
