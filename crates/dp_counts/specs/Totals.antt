-- The sums of the counts of a pipeline's programs, and the lines of tables, rings and pools.
use Rattle.std.specs.Prelude.{ℕ, zero, suc, ◌+◌, ◌-◌, ◌==◌, List, [], ◌∷◌, ◌++◌, codes, slice_index, min, sum_by, if◌then◌else◌, take}
use Rattle.std.specs.Option.{option_map_or}
use Rattle.std.specs.Fmt.{decimal}
use Rattle.dp_model.specs.Arithmetic.{wrapped}
use Rattle.dp_model.specs.Environments.{Environment}
use Rattle.dp_model.specs.declared.env.Entry.{Entry}
use Rattle.dp_model.specs.declared.env.PoolSpec.{PoolSpec}
use Rattle.dp_model.specs.declared.env.RingSpec.{RingSpec}
use Rattle.dp_counts.specs.declared.counts.StepCounts.{StepCounts}
use Rattle.dp_counts.specs.declared.levels.Levels.{Levels}
use Rattle.dp_counts.specs.declared.listing.Total.{Total}
use Rattle.dp_counts.specs.declared.listing.Total.TheVariants.{Hits, Misses, Full}
use Rattle.dp_counts.specs.declared.source.Role.{Role}
use Rattle.dp_counts.specs.declared.source.Role.TheVariants.{Lookup, Enqueue}
use Rattle.dp_counts.specs.declared.source.Step.{Step}
use Rattle.dp_counts.specs.declared.source.SourceLine.{SourceLine}
use Rattle.dp_counts.specs.declared.source.NodeSource.{NodeSource}
use Rattle.dp_counts.specs.Counting.{Tally, step_counts}
use Rattle.dp_counts.specs.Listings.{programs_text}

-- how often the jump of an instruction was not taken, and how often it was taken or cut
abbrev pub passed : StepCounts → ℕ
passed s = s.ran - s.taken - s.cut

abbrev pub refused : StepCounts → ℕ
refused s = wrapped (s.taken + s.cut)

-- what an instruction adds
abbrev pub share : Total → Role → StepCounts → ℕ
share (Hits table) (Lookup own) s = if own == table then passed s else 0
share (Misses table) (Lookup own) s = if own == table then refused s else 0
share (Full ring) (Enqueue own) s = if own == ring then refused s else 0
share total role s = 0

abbrev pub share_of_line : Tally → Total → Entry → SourceLine → ℕ
share_of_line t total node l = option_map_or (λ (s : Step). share total s.role (step_counts t node s.label)) l.step 0

abbrev pub share_of_node : Tally → Total → NodeSource → ℕ
share_of_node t total s = wrapped (sum_by (share_of_line t total s.node) s.lines.items)

-- the sum over all programs
abbrev pub total_of : Tally → Total → List NodeSource → ℕ
total_of t total sources = wrapped (sum_by (share_of_node t total) sources)

abbrev pub table_line : Tally → List NodeSource → ℕ → List ℕ
table_line t sources table = codes "table " ++ (decimal table ++ (codes " hits " ++ (decimal (total_of t (Hits table) sources)
    ++ (codes " misses " ++ (decimal (total_of t (Misses table) sources) ++ 10 ∷ [])))))

-- the most packets that waited in the ring, which takes one less than it has slots
abbrev pub ring_line : ℕ → ℕ → ℕ → ℕ → List ℕ
ring_line ring waited count full = codes "ring " ++ (decimal ring ++ (codes " waited " ++ (decimal waited
    ++ (codes " of " ++ (decimal (count - 1) ++ (codes " full " ++ (decimal full ++ 10 ∷ [])))))))

-- the lines of the first n
abbrev pub first_lines : (ℕ → List ℕ) → ℕ → List ℕ
first_lines line zero = []
first_lines line (suc n) = first_lines line n ++ line n

abbrev pub table_lines : Tally → List NodeSource → ℕ → List ℕ
table_lines t sources tables = first_lines (table_line t sources) tables

-- a line for each element, numbered from k on
abbrev pub lines_from : {A : Type 0} → (ℕ → A → List ℕ) → ℕ → List A → List ℕ
lines_from line k [] = []
lines_from line k (x ∷ xs) = line k x ++ lines_from line (suc k) xs

-- the line of a ring of this pipeline
abbrev pub line_of_ring : Tally → Levels → List NodeSource → ℕ → RingSpec → List ℕ
line_of_ring t levels sources k r = ring_line k (slice_index levels.waited k) r.count (total_of t (Full k) sources)

abbrev pub ring_lines : Tally → Levels → List NodeSource → List RingSpec → List ℕ
ring_lines t levels sources rings = lines_from (line_of_ring t levels sources) 0 rings

-- the least number of buffers of the pool that were free
abbrev pub pool_line : ℕ → ℕ → ℕ → List ℕ
pool_line pool free count = codes "pool " ++ (decimal pool ++ (codes " least " ++ (decimal (min free count) ++ (codes " of " ++ (decimal count ++ 10 ∷ [])))))

abbrev pub line_of_pool : Levels → ℕ → PoolSpec → List ℕ
line_of_pool levels k p = pool_line k (slice_index levels.free k) p.count

abbrev pub pool_lines : Levels → List PoolSpec → List ℕ
pool_lines levels pools = lines_from (line_of_pool levels) 0 pools

-- the programs, the sums for each table and each ring, and the least free buffers of each pool
abbrev pub counts_text : Tally → Levels → Environment → List NodeSource → List ℕ
counts_text t levels env sources = programs_text t sources ++ (table_lines t sources env.tables
    ++ (ring_lines t levels sources (take 8 env.rings) ++ pool_lines levels (take 8 env.pools)))
