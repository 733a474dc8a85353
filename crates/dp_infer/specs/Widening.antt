-- Internal: widening: rows of a program with loops are weakened, pass by pass, until they are stable; with which rows inference ends.
use Rattle.std.specs.Prelude.{◌≡◌, ◌⊎◌, ℕ, zero, suc, ◌+◌, ◌-◌, Bool, false, not, ◌&&◌, ◌||◌, nat_eq, nat_le, nat_lt, if◌then◌else◌, List, [], ◌∷◌}
use Rattle.std.specs.Prelude.{slice_get, slice_set}
use Rattle.std.specs.Option.{option_map_or}
use Rattle.std.specs.Cmp.Lexicographic.{pointwise}
use Rattle.std.proofs.Math.Bool.{beq}
use Rattle.dp_model.specs.declared.row.Fact.{Fact}
use Rattle.dp_model.specs.declared.row.Fact.TheVariants.{Empty, Held}
use Rattle.dp_model.specs.declared.row.Row.{Row}
use Rattle.dp_model.specs.declared.row.Lead.{Lead}
use Rattle.dp_model.specs.declared.env.Entry.{Entry}
use Rattle.dp_model.specs.declared.registers.Operand.TheVariants.{Constant}
use Rattle.dp_model.specs.declared.instr.Instr.{Instr}
use Rattle.dp_model.specs.declared.instr.Instr.TheVariants.{Prepend, Adj, Append, Trim, IfHead, IfTail, IfLen, IfLast, Set, And, Jeq, Jlt}
use Rattle.dp_model.specs.Arithmetic.{greatest}
use Rattle.dp_model.specs.Environments.{Environment}
use Rattle.dp_model.specs.Equality.{same_fact}
use Rattle.dp_model.specs.Limits.{max_segments}
use Rattle.dp_model.specs.Rows.{leads}
use Rattle.dp_model.specs.Rules.{IsAccepted}
use Rattle.dp_cert.specs.Spelling.{certificate_of}
use Rattle.dp_check.specs.Faults.{question, IsRefusedWith}
use Rattle.dp_infer.specs.Joins.{found_rows, paired, joined, met}
use Rattle.dp_infer.specs.declared.inferring.InferError.{InferError}
use Rattle.dp_infer.specs.declared.inferring.InferError.TheVariants.{Memory, NoCert}

-- the number of passes that go from constant to constant of the program
abbrev pub slow_passes : ℕ
slow_passes = 64

-- the maximum number of passes
abbrev pub max_passes : ℕ
max_passes = 4096

-- the bound that a constant of an instruction (set, test, mask) puts on a number, or 0
abbrev pub bound_in : Instr → ℕ
bound_in (Set r c) = c
bound_in (Jlt r c l) = c - 1
bound_in (And r (Constant c)) = c
bound_in (Jeq r (Constant c) l) = c
bound_in i = 0

-- the count of bytes in an instruction, or 0
abbrev pub count_in : Instr → ℕ
count_in (Prepend p n) = n
count_in (Adj p n) = n
count_in (Append p n) = n
count_in (Trim p n) = n
count_in (IfHead p n l) = n
count_in (IfTail p n l) = n
count_in (IfLen p n l) = n
count_in (IfLast p n l) = n
count_in i = 0

-- the least bound of the instructions that is at least n, if it is less than another
abbrev pub bound_from : ℕ → ℕ → List Instr → ℕ
bound_from least above [] = above
bound_from least above (i ∷ program) =
    bound_from least (if nat_le least (bound_in i) && nat_lt (bound_in i) above then bound_in i else above) program

-- the greatest count of the instructions that is at most n, if it is greater than another
abbrev pub count_from : ℕ → ℕ → List Instr → ℕ
count_from most below [] = below
count_from most below (i ∷ program) =
    count_from most (if nat_le (count_in i) most && nat_lt below (count_in i) then count_in i else below) program

-- widens a bound that may have grown
abbrev pub raised : List Instr → Bool → ℕ → ℕ → ℕ
raised program slow before now = if nat_le now before then now else if slow then bound_from now greatest program else greatest

-- widens a measure that may have become less
abbrev pub lowered : List Instr → Bool → ℕ → ℕ → ℕ
lowered program slow before now = if nat_le before now then now else if slow then count_from now 0 program else 0

-- widens a fact that may say less than before
abbrev pub lowered_fact : List Instr → Bool → Fact → Fact → Fact
lowered_fact program slow Empty now = now
lowered_fact program slow (Held share head tail first last segs) Empty = Empty
lowered_fact program slow (Held share head tail first last segs) (Held s h t f l n) =
    Held s (lowered program slow head h) (lowered program slow tail t) (lowered program slow first f) (lowered program slow last l)
    (if nat_le n segs then n else max_segments)

-- widens a row that may say less than before
abbrev pub lowered_row : List Instr → Bool → Row → Row → Row
lowered_row program slow before now = record now {
  facts = paired (lowered_fact program slow) before.facts now.facts;
  bounds = paired (raised program slow) before.bounds now.bounds;
}

-- the row of a label to which control returns with the second row
abbrev pub weakened : List Instr → Bool → Row → Row → Row
weakened program slow there row =
    if there.live then joined (lowered_row program slow there (met there row)) (met there row) else met there row

-- the row of a label that control reaches with the second row, from an earlier label, from a later one or from itself
abbrev pub known_after : List Instr → Bool → Bool → Row → Row → Row
known_after program back slow there row = if back then weakened program slow there row else met there row

-- whether two rows are equal
abbrev pub same_row : Row → Row → Bool
same_row a b = beq a.live b.live && pointwise same_fact a.facts b.facts && pointwise nat_eq a.bounds b.bounds

-- rows, and whether one of them changed
pub record Passed : Type 0 where
  pub rows : List Row
  pub changed : Bool

-- nothing changed
abbrev pub unchanged : List Row → Passed
unchanged rows = record { rows = rows; changed = false }

-- the first change, and then the second
abbrev pub and_then : Passed → (List Row → Passed) → Passed
and_then p next = record { rows = (next p.rows).rows; changed = p.changed || (next p.rows).changed }

-- the list with the row at a label replaced
abbrev pub replaced : List Row → ℕ → Row → Row → Passed
replaced rows to there row = record { rows = slice_set rows to row; changed = not (same_row row there) }

-- the rows after control goes from a label to another
abbrev pub reached_again : List Instr → ℕ → Bool → Lead → List Row → Passed
reached_again program label slow lead rows =
    option_map_or (λ there. replaced rows lead.to there (known_after program (nat_le lead.to label) slow there lead.row)) (slice_get rows lead.to)
    (unchanged rows)

-- the rows after control goes from a label to its successors
abbrev pub passed_on_again : List Instr → ℕ → Bool → List Lead → List Row → Passed
passed_on_again program label slow [] rows = unchanged rows
passed_on_again program label slow (lead ∷ leads) rows =
    and_then (reached_again program label slow lead rows) (passed_on_again program label slow leads)

-- the rows after a label's row is passed on through its instruction
abbrev pub passed_again : List Instr → Environment → Bool → ℕ → Instr → List Row → Passed
passed_again program env slow label i rows =
    option_map_or (λ row. if row.live then passed_on_again program label slow (leads env label row i) rows else unchanged rows) (slice_get rows label)
    (unchanged rows)

-- the rows after control passes through these instructions, the first of which has this label
unfoldable pub spread_again : List Instr → Environment → Bool → List Instr → ℕ → Passed → Passed
spread_again program env slow [] label p = p
spread_again program env slow (i ∷ rest) label p =
    spread_again program env slow rest (label + 1) (and_then p (passed_again program env slow label i))

-- one pass
abbrev pub weakened_once : List Instr → Environment → Bool → List Row → Passed
weakened_once program env slow rows = spread_again program env slow program 0 (unchanged rows)

-- at most n more passes after this many, until one changes nothing
unfoldable pub widened_from : List Instr → Environment → ℕ → ℕ → List Row → List Row
widened_from program env zero pass rows = rows
widened_from program env (suc n) pass rows =
    let p = weakened_once program env (nat_lt pass slow_passes) rows in
    if p.changed then widened_from program env n (pass + 1) p.rows else p.rows

-- the rows after the last pass
abbrev pub widened_to_end : List Instr → Environment → List Row → List Row
widened_to_end program env rows = widened_from program env max_passes 0 rows

-- whether the program is accepted with the rows of the first pass
abbrev pub IsEnough : List Instr → Environment → Entry → Type 0
IsEnough program env entry = IsAccepted (question program (certificate_of (found_rows program env entry)) env entry)

abbrev pub IsNotEnough : List Instr → Environment → Entry → Type 0
IsNotEnough program env entry = ¬ IsEnough program env entry

-- the rows with which inference ends: those of the first pass, if the program is accepted with them, else the widened ones
abbrev pub AreLast : List Instr → Environment → Entry → List Row → Type 0
AreLast program env entry rows =
    (IsEnough program env entry × (rows ≡ found_rows program env entry))
    ⊎ (IsNotEnough program env entry × (rows ≡ widened_to_end program env (found_rows program env entry)))

-- the program is refused at the label by the rule of this number, with the rows with which inference ends
abbrev pub IsOfLast : List Instr → Environment → Entry → InferError → Type 0
IsOfLast program env entry Memory = Unit {0}
IsOfLast program env entry (NoCert label rule) =
    (rows : List Row) × AreLast program env entry rows × IsRefusedWith (question program (certificate_of rows) env entry) label rule
