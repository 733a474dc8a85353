-- What is taken is out, and the rest of the pool stays.
use Rattle.dp_pool.proofs.Bulk.{got_keeps, got_out}
use Rattle.dp_pool.proofs.pool.Pool.get_bulk.Goals as goal

pub returns-then-indexes-cached-clause-out : goal.returns-then-indexes-cached-clause-out
returns-then-indexes-cached-clause-out c = λ _. got_out c.take_cached.new.indexes c.args.self.now c.take_cached.new.self c.take_cached.ensures.got

pub returns-then-indexes-cached-clause-same : goal.returns-then-indexes-cached-clause-same
returns-then-indexes-cached-clause-same c = got_keeps c.take_cached.new.indexes c.args.self.now c.take_cached.new.self c.take_cached.ensures.got

pub returns-clause-out : goal.returns-clause-out
returns-clause-out c = λ _. got_out c.get_all.new.indexes c.args.self.now c.get_all.new.self c.get_all.ensures.got

pub returns-clause-same : goal.returns-clause-same
returns-clause-same c = got_keeps c.get_all.new.indexes c.args.self.now c.get_all.new.self c.get_all.ensures.got
