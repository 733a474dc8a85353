-- The successors of an instruction as the code has them, and what a passed test shows.
use Rattle.std.specs.Prelude.{ℕ, max, List, [], ◌∷◌}
use Rattle.dp_model.specs.declared.row.Holding.{Holding}
use Rattle.dp_model.specs.declared.row.Lead.{Lead}
use Rattle.dp_check.specs.declared.transfer.Leads.{Leads}
use Rattle.dp_check.specs.declared.transfer.Leads.TheVariants.{Ends, One, Two}
use Rattle.dp_model.specs.declared.needs.Measure.{Measure}
use Rattle.dp_model.specs.declared.needs.Measure.TheVariants as measure

-- the greatest label of 16 bits: it has no next instruction
abbrev pub last_label : ℕ
last_label = 65535

-- the successors as a list
abbrev pub listed : Leads → List Lead
listed Ends = []
listed (One a) = a ∷ []
listed (Two a b) = a ∷ b ∷ []

-- a fact with a measure raised to at least this
abbrev pub raised : Measure → ℕ → Holding → Holding
raised measure.Headroom n h = record h { head = max h.head n }
raised measure.Tailroom n h = record h { tail = max h.tail n }
raised measure.First n h = record h { first = max h.first n }
raised measure.Last n h = record h { last = max h.last n }
