-- What writers were given: a header and records, in one text.
use Rattle.std.proofs.Common.{◌≡◌, ℕ, List, length, arith}
use Rattle.std.proofs.lemmas.Option.{slice_get_within}
use Rattle.dp_pcap.specs.declared.time.Time.{Time}
use Rattle.dp_pcap.specs.declared.time.Unit.{Unit as TimeUnit}
use Rattle.dp_pcap.specs.Text.{header_text}
use Rattle.dp_pipe.specs.Forwarding.{AreWritten, capture_at, records_text}
use Rattle.dp_pipe.specs.Headline.{AreGiven, capture_text}
use Rattle.dp_pipe.specs.Running.{HeadersWritten}
use Rattle.dp_pipe.specs.Devices.{Device}
use Rattle.dp_pipe.proofs.Giving.{given_then}
use Rattle.dp_model.specs.Laws.Lists.{get_within}

-- headers first, and then all records
pub given_all : (unit : TimeUnit) (captures : List (List (Time × List ℕ))) (held mids holds : List Device) → length mids ≡ length held
    → HeadersWritten unit held mids → AreWritten unit mids holds (capture_at captures) → AreGiven held holds (capture_text unit captures)
given_all unit captures held mids holds many headers written port old new here there =
    let (mid, at) = get_within mids port (omega (arith, slice_get_within held port old here, many)) in
    given_then old mid new (header_text unit) (records_text unit (capture_at captures port)) (headers port old mid here at) (written port mid new at there)
