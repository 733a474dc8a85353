-- One more program.
use Rattle.std.proofs.Common.{refl}
use Rattle.std.proofs.lemmas.Option.{slice_get_read}
use Rattle.dp_counts.specs.Listings.{node_text}
use Rattle.dp_counts.proofs.Lines.{says_both, says_piece}
use Rattle.dp_counts.proofs.listing.say_programs.Goals as goal

pub loop-source-preserved : goal.loop-source-preserved
loop-source-preserved c =
    says_piece c.args.out.now c.loop-source.out c.say_lines.new.out (node_text c.args.counts.now) c.args.sources.now c.loop-source.source-index
    c.source-item.result (slice_get_read _ _ _ _ refl c.loop-source-test.true c.source-item.is) c.loop-source.invariant
    (says_both c.loop-source.out c.say.new.self c.say_lines.new.out _ _ c.say.ensures c.say_lines.ensures)
