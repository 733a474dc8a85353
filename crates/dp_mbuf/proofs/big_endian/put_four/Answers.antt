-- Two writes of two bytes are one write of four.
use Rattle.std.proofs.Common.{◌+◌, ◌∙◌, ◌∷◌, [], ap, arith}
use Rattle.dp_model.specs.Buffers.{overwritten}
use Rattle.dp_mbuf.proofs.Putting.{after_others}
use Rattle.dp_mbuf.proofs.big_endian.put_four.Goals as goal

pub returns : goal.returns
returns c =
    c.put_two-2.ensures
    ∙ (ap (λ o. overwritten o (c.args.at + 2) (c.args.c ∷ c.args.d ∷ [])) c.put_two.ensures
    ∙ after_others c.args.bytes.now (c.args.a ∷ c.args.b ∷ []) (c.args.c ∷ c.args.d ∷ []) c.args.at (c.args.at + 2) (omega arith) (omega (arith, c.requires)))
