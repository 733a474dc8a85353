-- The count of the file that did not take everything.
use Rattle.std.proofs.Common.{◌∙◌, ap}
use Rattle.dp_pcap.specs.{declared.buffered.Buffered.Buffered, Buffers.writer_inner, Counting.records_in, OfStd.buffered_writer}
use Rattle.dp_captures.specs.declared.guarded.Guarded.{Guarded}
use Rattle.dp_captures.proofs.Took.{whole_counted}
use Rattle.dp_captures.proofs.outlet.OfBufWriterGuardedOutlet.close.Goals as goal

pub returns-clause-whole : goal.returns-clause-whole
returns-clause-whole g c = whole_counted (writer_inner (buffered_writer c.flush.new.self)).records _ _
    (c.records.ensures ∙ ap (λ (v : Guarded _). records_in v.records) (c.get_ref-file.ensures ∙ ap (λ (w : Buffered (Guarded _)). writer_inner w)
    c.get_ref.ensures)) (writer_inner (buffered_writer c.flush.new.self)).counted
