-- Two words written one after the other are one write.
use Rattle.std.proofs.Common.{◌+◌, ◌∙◌, [], ap}
use Rattle.dp_model.specs.Buffers.{overwritten}
use Rattle.dp_mbuf.specs.Headers.{then_word}
use Rattle.dp_mbuf.proofs.HeaderFields.{words_written}
use Rattle.dp_mbuf.proofs.header.write_words.Goals as goal

pub returns : goal.returns
returns c =
    c.write_word-2.ensures
    ∙ (ap (λ o. overwritten o (c.args.at + 2) (then_word c.args.y [])) c.write_word.ensures
    ∙ words_written c.args.bytes.now c.args.at c.args.x c.args.y c.requires)
