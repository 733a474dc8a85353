-- The text of a report.
use Rattle.std.specs.Prelude.{ℕ, List, ◌∷◌, [], ◌++◌, nat_lt, codes, if◌then◌else◌}
use Rattle.std.specs.Fmt.{decimal}
use Rattle.dp_engine.specs.declared.report.InputState.{InputState}
use Rattle.dp_engine.specs.declared.report.InputState.TheVariants.{Open, Whole, Cut}
use Rattle.dp_engine.specs.declared.report.PortReport.{PortReport}
use Rattle.dp_engine.specs.declared.report.PoolReport.{PoolReport}
use Rattle.dp_engine.specs.declared.report.Report.{Report}
use Rattle.dp_counts.specs.Totals.{lines_from}

-- how far an input was read
abbrev pub state_text : InputState → List ℕ
state_text Whole = codes "whole"
state_text (Cut byte) = codes "cut " ++ decimal byte
state_text Open = codes "open"

-- the line of a port, a ring or a pool, by its number
abbrev pub port_line : ℕ → PortReport → List ℕ
port_line k p = ((codes "port " ++ (decimal k ++ (codes " received " ++ (decimal p.received ++ (codes " nobuf " ++ decimal p.nobuf)))))
    ++ (codes " oversize " ++ (decimal p.oversize ++ (codes " sent " ++ (decimal p.sent ++ codes " input "))))) ++ (state_text p.state ++ 10 ∷ [])

abbrev pub ring_line : ℕ → ℕ → List ℕ
ring_line k left = codes "ring " ++ (decimal k ++ (codes " left " ++ (decimal left ++ 10 ∷ [])))

abbrev pub pool_line : ℕ → PoolReport → List ℕ
pool_line k p = codes "pool " ++ (decimal k ++ (codes " free " ++ (decimal p.free ++ (codes " of " ++ (decimal p.count ++ 10 ∷ [])))))

-- the allocation calls
abbrev pub calls_line : ℕ → ℕ → List ℕ
calls_line calls refused = codes "calls " ++ (decimal calls ++ (codes " refused " ++ (decimal refused ++ 10 ∷ [])))

-- the node runs that were cut, if there are any
abbrev pub cut_line : ℕ → List ℕ
cut_line cut = if nat_lt 0 cut then codes "cut " ++ (decimal cut ++ 10 ∷ []) else []

-- a report
abbrev pub report_text : Report → List ℕ
report_text r = lines_from port_line 0 r.ports.items ++ (lines_from ring_line 0 r.rings.items ++ (lines_from pool_line 0 r.pools.items
    ++ (calls_line r.calls r.refused ++ cut_line r.cut)))
