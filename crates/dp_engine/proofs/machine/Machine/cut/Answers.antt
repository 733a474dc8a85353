use Rattle.dp_engine.proofs.GivingUp.{cut_is}
use Rattle.dp_engine.proofs.machine.Machine.cut.Goals as goal

pub returns : goal.returns
returns c =
    cut_is c.args.self.now c.count_cut.new.self c.give_up.new.self c.give_up-2.new.self c.give_up-3.new.self c.give_up-4.new.self c.give_up-5.new.self
    c.give_up-6.new.self c.give_up-7.new.self c.give_up-8.new.self c.requires.eight c.count_cut.ensures
    (rw c.new.ensures at c.give_up.ensures) (rw c.new-2.ensures at c.give_up-2.ensures) (rw c.new-3.ensures at c.give_up-3.ensures)
    (rw c.new-4.ensures at c.give_up-4.ensures)
    (rw c.new-5.ensures at c.give_up-5.ensures) (rw c.new-6.ensures at c.give_up-6.ensures) (rw c.new-7.ensures at c.give_up-7.ensures)
    (rw c.new-8.ensures at c.give_up-8.ensures)
