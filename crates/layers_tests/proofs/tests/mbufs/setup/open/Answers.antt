-- `open`: the three pools are ready, in zones of one region.
use Rattle.std.proofs.Common.{◌∙◌, sym}
use Rattle.layers_tests.proofs.RowLemmas.{ready_three, new_over, new_in}
use Rattle.layers_tests.proofs.tests.mbufs.setup.open.Goals as goal

pub over-mbufs-requires : goal.over-mbufs-requires
over-mbufs-requires g c =
    ready_three c.make-one.result c.make-two.result c.make-three.result c.args.first.count c.args.second.count c.args.third.count c.args.first.room
    c.args.second.room c.args.third.room _ _ _ c.make-one.ensures.pool c.make-two.ensures.pool c.make-three.ensures.pool c.requires.few

pub returns-clause-over : goal.returns-clause-over
returns-clause-over g c =
    new_over c.make-one.result c.make-two.result c.make-three.result c.over-mbufs.result c.args.first.count c.args.second.count c.args.first.room
    c.args.second.room _ _ c.make-one.ensures.pool c.make-two.ensures.pool c.requires.first.1 c.requires.second.0 c.over-mbufs.ensures

pub returns-clause-home : goal.returns-clause-home
returns-clause-home g c =
    new_in c.make-one.result c.make-two.result c.make-three.result c.over-mbufs.result c.args.first.count c.args.second.count c.args.third.count
    c.args.first.room c.args.second.room c.args.third.room _ _ _ _ c.make-one.ensures.pool c.make-two.ensures.pool c.make-three.ensures.pool
    (sym (c.make-three.ensures.home ∙ (c.make-two.ensures.home ∙ c.make-one.ensures.home))) (sym (c.make-three.ensures.home ∙ c.make-two.ensures.home))
    (sym c.make-three.ensures.home) c.over-mbufs.ensures
