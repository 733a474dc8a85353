-- What is known at a label where control comes from several places.
use Rattle.std.specs.Prelude.{ℕ, ◌+◌, min, max, Bool, true, false, ◌&&◌, ◌==◌, nat_lt, if◌then◌else◌, List, [], ◌∷◌, length, map, replicate}
use Rattle.std.specs.Prelude.{Option, slice_get, slice_set}
use Rattle.std.specs.Option.{option_map_or}
use Rattle.dp_model.specs.declared.row.Fact.{Fact}
use Rattle.dp_model.specs.declared.row.Fact.TheVariants.{Empty, Held}
use Rattle.dp_model.specs.declared.row.Row.{Row}
use Rattle.dp_model.specs.declared.row.Lead.{Lead}
use Rattle.dp_model.specs.declared.instr.Instr.{Instr}
use Rattle.dp_model.specs.Environments.{Environment}
use Rattle.dp_model.specs.declared.env.Entry.{Entry}
use Rattle.dp_model.specs.Facts.{loose, head_sole, is_share}
use Rattle.dp_model.specs.Groups.{group_of, is_group, same_registers, reshared_fact}
use Rattle.dp_model.specs.Limits.{max_segments}
use Rattle.dp_model.specs.Rows.{owns_head, entry_row, leads}

-- the strongest share that both entail
abbrev pub joined_share : ℕ → ℕ → ℕ
joined_share a b = if (a == b) && is_share a then a else if owns_head a && owns_head b then head_sole else loose

-- What both facts say: the lesser of each measure, the greater number of segments, in the ranges of facts. If exactly one is empty the result has no
-- meaning.
abbrev pub joined_fact : Fact → Fact → Fact
joined_fact Empty other = Empty
joined_fact (Held share head tail first last segs) Empty = Empty
joined_fact (Held share head tail first last segs) (Held s h t f l n) =
    Held (joined_share share s) (min head h) (min tail t) (min first f) (min last l) (min max_segments (max 1 (max segs n)))

-- combines two lists index by index
abbrev pub paired : {A : Type 0} → (A → A → A) → List A → List A → List A
paired f [] ys = []
paired f (x ∷ xs) [] = []
paired f (x ∷ xs) (y ∷ ys) = f x y ∷ paired f xs ys

-- what both rows say of a register: loose if its group does not have the same registers in both
abbrev pub common_fact : List Fact → List Fact → Fact → Fact
common_fact facts others fact =
    option_map_or (λ g. if is_group facts g && same_registers facts others g then fact else reshared_fact g loose fact) (group_of fact) fact

-- what the facts of both rows say
abbrev pub joined_facts : List Fact → List Fact → List Fact
joined_facts facts others = map (common_fact facts others) (paired joined_fact facts others)

-- what both rows say
abbrev pub joined : Row → Row → Row
joined row other = record { live = true; facts = joined_facts row.facts other.facts; bounds = paired max row.bounds other.bounds }

-- the row of a label that control reaches with the second row, and perhaps reached before with the first
abbrev pub met : Row → Row → Row
met there row = if there.live then joined there row else joined row row

-- the rows after control goes from a label to a later one
abbrev pub reached : ℕ → List Row → Lead → List Row
reached label rows lead =
    if nat_lt label lead.to
    then option_map_or (λ there. slice_set rows lead.to (met there lead.row)) (slice_get rows lead.to) rows
    else rows

-- the rows after control goes from a label to its successors
abbrev pub passed_on : ℕ → List Row → List Lead → List Row
passed_on label rows [] = rows
passed_on label rows (lead ∷ leads) = passed_on label (reached label rows lead) leads

-- the row of a label that control never reaches
abbrev pub dead_row : Row
dead_row = record { live = false; facts = replicate 8 Empty; bounds = replicate 8 0 }

-- the rows of n labels at the start: what is known at the entry, if the entry exists, and nothing else
abbrev pub begun : Option Row → ℕ → List Row
begun entry n = option_map_or (λ row. slice_set (replicate n dead_row) 0 (joined row row)) entry (replicate n dead_row)

-- the rows after a label's row is passed on through its instruction
abbrev pub passed_from : Environment → ℕ → Instr → List Row → List Row
passed_from env label i rows =
    option_map_or (λ row. if row.live then passed_on label rows (leads env label row i) else rows) (slice_get rows label) rows

-- the rows after control passes through these instructions, the first of which has this label
unfoldable pub spread : Environment → List Instr → ℕ → List Row → List Row
spread env [] label rows = rows
spread env (i ∷ program) label rows = spread env program (label + 1) (passed_from env label i rows)

-- the strongest rows
abbrev pub found_rows : List Instr → Environment → Entry → List Row
found_rows program env entry = spread env program 0 (begun (entry_row env entry) (length program))
