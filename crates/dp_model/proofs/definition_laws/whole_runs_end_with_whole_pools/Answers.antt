-- Each clause is a lemma.
use Rattle.dp_model.proofs.RunEnds.{ends_with_nothing, nothing_is_free, each_ring_counted, whole_counts, emptied_rest}
use Rattle.dp_model.proofs.definition_laws.whole_runs_end_with_whole_pools.Goals as goal

pub returns : goal.returns
returns g c = record { nothing = ends_with_nothing; free = nothing_is_free; rings = each_ring_counted; calls = whole_counts; rests = emptied_rest }
