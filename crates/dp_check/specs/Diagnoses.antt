-- The diagnosis of a refused program: what is known, and what the rule wants.
use Rattle.std.specs.Prelude.{◌≡◌, ◌≢◌, ◌⊎◌, ℕ, ◌+◌, ◌<◌, ◌≤◌, Bool, true, false, not, ◌&&◌, if◌then◌else◌, ◌==◌, nat_lt, nat_le, List, [], ◌∷◌}
use Rattle.std.specs.Prelude.{length, replicate, Option, Some, None, MatchOption, slice_get}
use Rattle.std.specs.List.{find, position_from}
use Rattle.std.proofs.Math.Bool.{beq}
use Rattle.std.specs.Option.{option_and_then, option_map_or}
use Rattle.dp_model.specs.declared.row.Fact.{Fact}
use Rattle.dp_model.specs.declared.row.Fact.TheVariants.{Empty, Held}
use Rattle.dp_model.specs.declared.row.Row.{Row}
use Rattle.dp_model.specs.declared.row.Holding.{Holding}
use Rattle.dp_model.specs.declared.row.Lead.{Lead}
use Rattle.dp_model.specs.declared.registers.Operand.TheVariants.{Register}
use Rattle.dp_model.specs.declared.instr.Instr.{Instr}
use Rattle.dp_model.specs.declared.instr.Instr.TheVariants.{Chain, Exit}
use Rattle.dp_model.specs.Environments.{Environment}
use Rattle.dp_model.specs.Facts.{loose, head_sole, sole}
use Rattle.dp_model.specs.Groups.{group_of, is_in, keeps_groups, same_registers}
use Rattle.dp_model.specs.Limits.{max_segments}
use Rattle.dp_model.specs.Rows.{is_empty, holding, held, held_at, entails_fact, entails_option, entails_share, entry_row, fact_of_ring, bound, entails, leads}
use Rattle.dp_model.specs.Rules.{Question, is_held, is_empty_at, holds_with, uses, indices_exist, targets_fit, size_of, bytes_fit, share_fits, may_leave}
use Rattle.dp_model.specs.Rules.{row_passes, IsRefused}
use Rattle.dp_model.specs.declared.rule.Rule.{Rule}
use Rattle.dp_model.specs.declared.rule.Rule.TheVariants.{J1, J2, J3, J4, J5, J6, J7, J8, J9, J10, J11}
use Rattle.dp_model.specs.declared.needs.Measure.{Measure}
use Rattle.dp_model.specs.declared.needs.Written.{Written}
use Rattle.dp_model.specs.declared.needs.Written.TheVariants.{Head, Tail}
use Rattle.dp_check.specs.declared.reason.Gap.{Gap}
use Rattle.dp_check.specs.declared.reason.Gap.TheVariants as gap
use Rattle.dp_check.specs.declared.reason.Reason.{Reason}
use Rattle.dp_check.specs.declared.reason.Reason.TheVariants.{RowCount, NoEntry, EntryRow, NoPool, NoTable, NoRing, NoInstruction, NotHeld, NotEmpty}
use Rattle.dp_check.specs.declared.reason.Reason.TheVariants.{OneRegister, TooLittle, NotAlone, TooLong, NoPort, LessThanRing, LeftOver, Successor}
use Rattle.dp_check.specs.declared.diagnosis.Diagnosis.{Diagnosis}

-- ---- the rule of a reason

abbrev pub rule_of : Reason → Rule
rule_of (RowCount known wanted) = J1
rule_of NoEntry = J2
rule_of (EntryRow gap) = J2
rule_of (NoPool pool known) = J3
rule_of (NoTable table known) = J3
rule_of (NoRing ring known) = J3
rule_of (NoInstruction to known) = J3
rule_of (NotHeld p) = J4
rule_of (NotEmpty p known) = J5
rule_of (OneRegister p) = J5
rule_of (TooLittle p part known start count) = J6
rule_of (NotAlone p known wanted) = J7
rule_of (TooLong p q known more) = J8
rule_of (NoPort r known ports) = J9
rule_of (LessThanRing p ring known wanted) = J9
rule_of (LeftOver p known) = J10
rule_of (Successor to gap) = J11

-- ---- words

-- there is a value, and it satisfies this
abbrev pub Is : {A : Type 0} → Option A → (A → Type 0) → Type 0
Is o P = MatchOption o ⊥ P

-- the first index, counted from a number, at which the test of two lists fails
abbrev pub first_failing : {A : Type 0} → (A → A → Bool) → ℕ → List A → List A → Option ℕ
first_failing test k [] ys = None
first_failing test k (x ∷ xs) [] = None
first_failing test k (x ∷ xs) (y ∷ ys) = if test x y then first_failing test (k + 1) xs ys else Some k

-- the first register whose fact does not entail the second's
abbrev pub first_weaker : List Fact → List Fact → Option ℕ
first_weaker facts others = first_failing entails_fact 0 facts others

-- the first register that belongs to the group in one of the two only
abbrev pub first_outside : ℕ → List Fact → List Fact → Option ℕ
first_outside g facts others = first_failing (λ fact other. beq (is_in g fact) (is_in g other)) 0 facts others

-- whether a register's group, if it has one, has the same registers in the first facts
abbrev pub is_kept : List Fact → List Fact → Fact → Bool
is_kept facts others other = option_map_or (same_registers facts others) (group_of other) true

-- the group of the first register of the second facts whose group is not kept
abbrev pub first_regrouped : List Fact → List Fact → Option ℕ
first_regrouped facts others = option_and_then group_of (find (λ other. not (is_kept facts others other)) others)

-- the first number whose bound is greater than the second's
abbrev pub first_greater : List ℕ → List ℕ → Option ℕ
first_greater bounds others = first_failing nat_le 0 bounds others

-- the first register that holds a packet
abbrev pub first_held : List Fact → Option ℕ
first_held facts = position_from (λ fact. not (is_empty fact)) 0 facts

-- ---- two rows, if the first does not entail the second

-- the first row does not say all that the second does of a packet register
abbrev pub IsFactGap : List Fact → List Fact → ℕ → Fact → Fact → Type 0
IsFactGap facts others p known wanted =
    (first_weaker facts others ≡ Some p) × (slice_get facts p ≡ Some known) × (slice_get others p ≡ Some wanted) × (entails_fact known wanted ≡ false)

-- the first group of the second row that is not kept, and the first register that is in it in one of the rows only
abbrev pub IsGroupGap : List Fact → List Fact → ℕ → ℕ → Fact → Fact → Type 0
IsGroupGap facts others g p known wanted =
    (first_regrouped facts others ≡ Some g) × (first_outside g facts others ≡ Some p)
    × (slice_get facts p ≡ Some known) × (slice_get others p ≡ Some wanted) × (beq (is_in g known) (is_in g wanted) ≡ false)

-- the number can be greater in the first row than in the second
abbrev pub IsBoundGap : List ℕ → List ℕ → ℕ → ℕ → ℕ → Type 0
IsBoundGap bounds others r known wanted =
    (first_greater bounds others ≡ Some r) × (slice_get bounds r ≡ Some known) × (slice_get others r ≡ Some wanted) × (wanted < known)

-- what the first row lacks of the second: first of a packet register, then of a group, then of a number
abbrev pub IsGap : Row → Row → Gap → Type 0
IsGap a b gap.Dead = (a.live && b.live) ≡ false
IsGap a b (gap.Packet p known wanted) = ((a.live && b.live) ≡ true) × IsFactGap a.facts b.facts p known wanted
IsGap a b (gap.Group g p known wanted) =
    ((a.live && b.live) ≡ true) × (first_weaker a.facts b.facts ≡ None) × IsGroupGap a.facts b.facts g p known wanted
IsGap a b (gap.Number r known wanted) =
    ((a.live && b.live) ≡ true) × (first_weaker a.facts b.facts ≡ None) × (keeps_groups a.facts b.facts ≡ true) × IsBoundGap a.bounds b.bounds r known wanted

-- ---- words on facts

-- what a fact says of a measure
abbrev pub measured : Measure → Fact → ℕ
measured part Empty = 0
measured part (Held share head tail first last segs) =
    size_of part (record { share = share; head = head; tail = tail; first = first; last = last; segs = segs })

-- what a row says of a measure of the packet in a register
abbrev pub measured_at : Row → ℕ → Measure → ℕ
measured_at row p part = option_map_or (measured part) (slice_get row.facts p) 0

abbrev pub share_in : Fact → ℕ
share_in Empty = loose
share_in (Held share head tail first last segs) = share

abbrev pub segs_in : Fact → ℕ
segs_in Empty = 0
segs_in (Held share head tail first last segs) = segs

-- the greatest value of an index, if there is one
abbrev pub start_of : Row → Option ℕ → ℕ
start_of row None = 0
start_of row (Some r) = bound row (Register r)

-- the share that is wanted of a packet with at most this many segments, where this part is written
abbrev pub wanted_of : Written → ℕ → ℕ
wanted_of Head segs = head_sole
wanted_of Tail segs = if segs == 1 then head_sole else sole

-- ---- what a rule asks for at an instruction: it holds exactly if that is there

abbrev pub AsksPool : Instr → ℕ → Type 0
AsksPool i pool = (env : Environment) → indices_exist env i ≡ nat_lt pool (length env.pools)

abbrev pub AsksTable : Instr → ℕ → Type 0
AsksTable i table = (env : Environment) → indices_exist env i ≡ nat_lt table env.tables

abbrev pub AsksRing : Instr → ℕ → Type 0
AsksRing i ring = (env : Environment) → indices_exist env i ≡ nat_lt ring (length env.rings)

-- that a register is empty
abbrev pub AsksEmpty : Instr → ℕ → Type 0
AsksEmpty i p = (row : Row) → targets_fit row i ≡ is_empty_at row p

-- this many bytes of a packet, or this much room in it, if the numbers have these greatest values
abbrev pub AsksBytes : List ℕ → Instr → ℕ → Measure → ℕ → Type 0
AsksBytes bounds i p part n = (row : Row) → row.bounds ≡ bounds → bytes_fit row i ≡ holds_with row p (λ h. nat_le n (measured part (held h)))

-- a share, of a packet with at most this many segments
abbrev pub AsksShare : Instr → ℕ → ℕ → ℕ → Type 0
AsksShare i p segs wanted = (row : Row) (h : Holding) → held_at row p ≡ Some h → h.segs ≡ segs → share_fits row i ≡ entails_share h.share wanted

-- a port for each value of a register
abbrev pub AsksPort : Instr → ℕ → Type 0
AsksPort i r = (env : Environment) (row : Row) → may_leave env row i ≡ nat_lt (bound row (Register r)) (length env.ports)

-- what a ring declares
abbrev pub AsksAtRing : Instr → ℕ → ℕ → Type 0
AsksAtRing i p ring = (env : Environment) (row : Row) → may_leave env row i ≡ option_map_or (λ fact. entails_option (held_at row p) (holding fact))
    (fact_of_ring env.rings ring) false

-- ---- what a reason says

-- the first successor past the end of a program of that length
abbrev pub first_past : ℕ → List Lead → Option Lead
first_past count ways = find (λ lead. not (nat_lt lead.to count)) ways

-- the first successor whose row wants more than is known there
abbrev pub first_unmet : List Row → List Lead → Option Lead
first_unmet rows ways = find (λ lead. not (row_passes rows lead.to (entails lead.row))) ways

-- that successor has the label, and the gap is what its row wants in addition
abbrev pub IsUnmet : List Row → List Lead → ℕ → Gap → Type 0
IsUnmet rows ways to gap = Is (first_unmet rows ways) (λ lead. (lead.to ≡ to) × Is (slice_get rows to) (λ there. IsGap lead.row there gap))

-- a reason of the rules at an instruction with its row. Of bytes, `count` are asked for even if each number is 0
abbrev pub Says : Question → ℕ → Instr → Row → Reason → Type 0
Says question label i row (NoPool pool known) = AsksPool i pool × (known ≡ length question.env.pools) × (known ≤ pool)
Says question label i row (NoTable table known) = AsksTable i table × (known ≡ question.env.tables) × (known ≤ table)
Says question label i row (NoRing ring known) = AsksRing i ring × (known ≡ length question.env.rings) × (known ≤ ring)
Says question label i row (NoInstruction to known) =
    Is (first_past (length question.program) (leads question.env label row i)) (λ lead. lead.to ≡ to) × (known ≡ length question.program) × (known ≤ to)
Says question label i row (NotHeld p) = (find (λ used. not (is_held row used)) (uses i) ≡ Some p) × (is_held row p ≡ false)
Says question label i row (NotEmpty p known) = AsksEmpty i p × (slice_get row.facts p ≡ Some known) × (is_empty known ≡ false)
Says question label i row (OneRegister p) = i ≡ Chain p p
Says question label i row (TooLittle p part known start count) =
    AsksBytes row.bounds i p part (start + count) × AsksBytes (replicate 8 0) i p part count × (known ≡ measured_at row p part) × (known < start + count)
Says question label i row (NotAlone p known wanted) =
    (slice_get row.facts p ≡ Some known) × AsksShare i p (segs_in known) wanted × (entails_share (share_in known) wanted ≡ false)
Says question label i row (TooLong p r known more) =
    (i ≡ Chain p r) × Is (slice_get row.facts p) (λ fact. known ≡ segs_in fact) × Is (slice_get row.facts r) (λ fact. more ≡ segs_in fact)
    × (max_segments < known + more)
Says question label i row (NoPort r known ports) =
    AsksPort i r × (known ≡ bound row (Register r)) × (ports ≡ length question.env.ports) × (ports ≤ known)
Says question label i row (LessThanRing p ring known wanted) =
    AsksAtRing i p ring × (slice_get row.facts p ≡ Some known) × (fact_of_ring question.env.rings ring ≡ Some wanted)
    × (entails_fact known wanted ≡ false)
Says question label i row (LeftOver p known) = (i ≡ Exit) × (first_held row.facts ≡ Some p) × (slice_get row.facts p ≡ Some known) × (is_empty known ≡ false)
Says question label i row (Successor to gap) = IsUnmet question.rows (leads question.env label row i) to gap
Says question label i row _ = ⊥

-- a reason of the rules about the whole program
abbrev pub SaysOfWhole : Question → Reason → Type 0
SaysOfWhole q (RowCount known wanted) = (known ≡ length q.rows) × (wanted ≡ length q.program) × (known ≢ wanted)
SaysOfWhole q NoEntry = entry_row q.env q.entry ≡ None
SaysOfWhole q (EntryRow gap) = Is (entry_row q.env q.entry) (λ row. Is (slice_get q.rows 0) (λ there. IsGap row there gap))
SaysOfWhole q _ = ⊥

-- a reason at a label: what it says is known is known, what it says is wanted the rule wants, and the first is not enough
abbrev pub Explains : Question → ℕ → Reason → Type 0
Explains q label reason =
    SaysOfWhole q reason ⊎ Is (slice_get q.program label) (λ i. Is (slice_get q.rows label) (λ row. Says q label i row reason))

-- a diagnosis is of the first fault, and its reason explains it
pub record IsDiagnosis (question : Question) (d : Diagnosis) : Type 0 where
  pub refused : IsRefused question d.label (rule_of d.reason)
  pub explained : Explains question d.label d.reason
