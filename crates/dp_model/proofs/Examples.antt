-- Programs with known verdicts and runs, computed from the definitions.
use Rattle.std.proofs.Common.{◌≡◌, ◌<◌, ◌≤◌, ℕ, zero, suc, Bool, true, false, ◌&&◌, List, [], ◌∷◌, ◌++◌, length, map, replicate, Option, Some, None, refl}
use Rattle.std.proofs.Common.{arith, ⊎_elim}
use Rattle.std.specs.Prelude.{option_map, nat_le, nat_lt, slice_get}
use Rattle.std.specs.List.{AllByRecursion, list_all}
use Rattle.std.specs.Option.{is_none}
use Rattle.std.proofs.lemmas.Bool.{and_parts, leb-true, ltb-true, ltb-false, cases_eq}
use Rattle.std.proofs.lemmas.Option.{slice_get_past}
use Rattle.dp_model.specs.declared.row.Fact.{Fact}
use Rattle.dp_model.specs.declared.row.Fact.TheVariants.{Empty, Held}
use Rattle.dp_model.specs.declared.registers.Operand.TheVariants.{Constant}
use Rattle.dp_model.specs.declared.row.Row.{Row}
use Rattle.dp_model.specs.declared.registers.Width.TheVariants.{One, Four}
use Rattle.dp_model.specs.declared.env.Entry.{Entry}
use Rattle.dp_model.specs.declared.env.Entry.TheVariants.{Port, Ring}
use Rattle.dp_model.specs.declared.instr.Instr.{Instr}
use Rattle.dp_model.specs.declared.instr.Instr.TheVariants.{Alloc, Free, Clone, Adj, Append, Chain, IfLen, Store, Set, Add, Jmp, Jlt, Tx, Enq, Exit}
use Rattle.dp_model.specs.Arithmetic.{all_ones}
use Rattle.dp_model.specs.Environments.{Environment}
use Rattle.dp_model.specs.Rules.{Rule, J3, J5, J6, J10, J11, Question, fault_at, IsAccepted, IsRefused}
use Rattle.dp_model.specs.CopyMachine.{copy_run, copy_start, CopyState}
use Rattle.dp_model.specs.Laws.Cases.{by_cases}

-- ---- verdicts are computed

-- no rule fails at a label below n
passes_below : Question → ℕ → Bool
passes_below q zero = true
passes_below q (suc n) = passes_below q n && is_none (fault_at q n)

none_there : (o : Option Rule) → is_none o ≡ true → o ≡ None
none_there None e = refl
none_there (Some rule) e = cc

none_below : (q : Question) (n : ℕ) → passes_below q n ≡ true → (label : ℕ) → label < n → fault_at q label ≡ None
unfolding passes_below
none_below q zero all label less = absurd (omega arith)
none_below q (suc n) all label less =
    let (before, here) = and_parts (passes_below q n) (is_none (fault_at q n)) all in
    ⊎_elim (λ is. rw is (none_there (fault_at q n) here)) (λ ne. none_below q n before label (omega (arith, ne))) (cases_eq label n)

past_end : (q : Question) (label : ℕ) → slice_get q.program (suc label) ≡ None → fault_at q (suc label) ≡ None
past_end q label e = rw e refl

accepted : (q : Question) → 1 ≤ length q.program → passes_below q (length q.program) ≡ true → IsAccepted q
accepted q some all zero = none_below q (length q.program) all 0 (omega arith)
accepted q some all (suc label) = by_cases (nat_lt (suc label) (length q.program))
    (λ less. none_below q (length q.program) all (suc label) (ltb-true (suc label) (length q.program) less))
    (λ more. past_end q label (slice_get_past q.program (suc label) (ltb-false (suc label) (length q.program) more)))

-- all these questions pass
passes : Question → Bool
passes q = nat_le 1 (length q.program) && passes_below q (length q.program)

all_accepted : (qs : List Question) → list_all passes qs ≡ true → AllByRecursion IsAccepted qs
unfolding passes
all_accepted [] all = tt
all_accepted (q ∷ qs) all =
    let (here, later) = and_parts (passes q) (list_all passes qs) all in
    let (some, below) = and_parts (nat_le 1 (length q.program)) (passes_below q (length q.program)) here in
    (accepted q (leb-true 1 (length q.program) some) below, all_accepted qs later)

-- all these are refused at the label by the rule
all_refused : (xs : List (Question × ℕ × Rule)) → AllByRecursion (λ (q, label, rule). fault_at q label ≡ Some rule) xs →
    list_all (λ (q, label, rule). passes_below q label) xs ≡ true → AllByRecursion (λ (q, label, rule). IsRefused q label rule) xs
all_refused [] faults all = tt
all_refused ((q, label, rule) ∷ xs) faults all =
    let (here, later) = and_parts (passes_below q label) (list_all (λ (q, label, rule). passes_below q label) xs) all in
    ((faults.0, none_below q label here), all_refused xs faults.1 later)

-- ---- environments, rows and questions

-- one port over a pool of 64
abbrev one_port : Environment
one_port = record {
  pools = record { count = 64; cache = 0; room = 2176 } ∷ [];
  tables = 0;
  rings = [];
  ports = record { pool = 0; segs = 1; queue = 32 } ∷ [];
}

-- two ports, the second with a pool without data room
abbrev two_ports : Environment
two_ports = record {
  pools = record { count = 4; cache = 0; room = 2176 } ∷ record { count = 4; cache = 0; room = 0 } ∷ [];
  tables = 0;
  rings = [];
  ports = record { pool = 0; segs = 1; queue = 4 } ∷ record { pool = 0; segs = 1; queue = 4 } ∷ [];
}

-- one port and one ring of size 2, over a pool of 4
abbrev looped : Environment
looped = record {
  pools = record { count = 4; cache = 0; room = 2176 } ∷ [];
  tables = 0;
  rings = record { count = 2; fact = Held 0 0 0 0 0 64 } ∷ [];
  ports = record { pool = 0; segs = 1; queue = 4 } ∷ [];
}

-- a row with these facts first, and r1 and r2 at most these
abbrev row_with : ℕ → ℕ → List Fact → ℕ → Row
row_with r1 r2 facts n = record { live = true; facts = facts ++ replicate n Empty; bounds = 0 ∷ r1 ∷ r2 ∷ replicate 5 0 }

abbrev row_of : List Fact → ℕ → Row
row_of = row_with 0 0

-- the row of a port of segs 1, and one with a loose packet
abbrev begun : Row
begun = row_of (Held 2 128 0 0 0 1 ∷ []) 7

abbrev loose : Fact
loose = Held 0 128 0 0 0 1

abbrev none_held : Row
none_held = row_of [] 8

abbrev dead : Row
dead = record { live = false; facts = replicate 8 Empty; bounds = replicate 8 0 }

abbrev asked : Environment → Entry → List Instr → List Row → Question
asked env entry program rows = record { program = program; version = 1; rows = rows; env = env; entry = entry }

-- ---- accepted programs

abbrev strip : List Instr
strip = IfLen 0 14 4 ∷ Adj 0 14 ∷ Tx 0 0 4 ∷ Exit ∷ Free 0 ∷ Exit ∷ []

abbrev strip_rows : List Row
strip_rows = row_of (Held 2 128 0 14 0 1 ∷ []) 7 ∷ row_of (Held 2 142 0 0 0 1 ∷ []) 7 ∷ none_held ∷ begun ∷ none_held ∷ []

abbrev multicast : List Instr
multicast =
    Alloc 1 0 17 ∷ Append 1 4 ∷ Set 1 0x0a0b0c0d ∷ Store 1 0 Four 1 ∷ Clone 2 0 1 16 ∷ Clone 3 0 1 15 ∷ Free 0 ∷ Chain 1 2
    ∷ Set 2 1 ∷ Tx 1 2 12 ∷ Tx 3 0 13 ∷ Exit ∷ Free 1 ∷ Free 3 ∷ Exit ∷ Free 2 ∷ Free 1 ∷ Free 0 ∷ Exit ∷ []

abbrev multicast_rows : List Row
multicast_rows =
    row_with 0 0 (Held 2 128 0 0 0 1 ∷ []) 7
    ∷ row_with 0 0 (Held 2 128 0 0 0 1 ∷ Held 2 128 2048 0 0 1 ∷ []) 6
    ∷ row_with 0 0 (Held 2 128 0 0 0 1 ∷ Held 2 128 2044 4 4 1 ∷ []) 6
    ∷ row_with 168496141 0 (Held 2 128 0 0 0 1 ∷ Held 2 128 2044 4 4 1 ∷ []) 6
    ∷ row_with 168496141 0 (Held 2 128 0 0 0 1 ∷ Held 2 128 2044 4 4 1 ∷ []) 6
    ∷ row_with 168496141 0 (Held 0 128 0 0 0 1 ∷ Held 2 128 2044 4 4 1 ∷ Held 0 128 0 0 0 1 ∷ []) 5
    ∷ row_with 168496141 0 (Held 0 128 0 0 0 1 ∷ Held 2 128 2044 4 4 1 ∷ Held 0 128 0 0 0 1 ∷ Held 0 128 0 0 0 1 ∷ []) 4
    ∷ row_with 168496141 0 (Empty ∷ Held 2 128 2044 4 4 1 ∷ Held 0 128 0 0 0 1 ∷ Held 0 128 0 0 0 1 ∷ []) 4
    ∷ row_with 168496141 0 (Empty ∷ Held 1 128 0 4 0 2 ∷ Empty ∷ Held 0 128 0 0 0 1 ∷ []) 4
    ∷ row_with 168496141 1 (Empty ∷ Held 1 128 0 4 0 2 ∷ Empty ∷ Held 0 128 0 0 0 1 ∷ []) 4
    ∷ row_with 168496141 1 (Empty ∷ Empty ∷ Empty ∷ Held 0 128 0 0 0 1 ∷ []) 4
    ∷ row_with 168496141 1 [] 8
    ∷ row_with 168496141 1 (Empty ∷ Held 1 128 0 4 0 2 ∷ Empty ∷ Held 0 128 0 0 0 1 ∷ []) 4
    ∷ row_with 168496141 1 (Empty ∷ Empty ∷ Empty ∷ Held 0 128 0 0 0 1 ∷ []) 4
    ∷ row_with 168496141 1 [] 8
    ∷ row_with 168496141 0 (Held 0 128 0 0 0 1 ∷ Held 2 128 2044 4 4 1 ∷ Held 0 128 0 0 0 1 ∷ []) 5
    ∷ row_with 168496141 0 (Held 0 128 0 0 0 1 ∷ Held 2 128 2044 4 4 1 ∷ []) 6
    ∷ row_with 168496141 0 (Held 0 128 0 0 0 1 ∷ []) 7
    ∷ row_with 168496141 0 [] 8
    ∷ []

-- it goes to the ring again and again
abbrev loop : List Instr
loop = Enq 0 0 2 ∷ Exit ∷ Free 0 ∷ Exit ∷ []

abbrev loop_rows : List Row
loop_rows = row_of (Held 0 0 0 0 0 64 ∷ []) 7 ∷ none_held ∷ row_of (Held 0 0 0 0 0 64 ∷ []) 7 ∷ none_held ∷ []

-- counts to n, then sends its packet
abbrev count_to : ℕ → List Instr
count_to n = Set 1 0 ∷ Add 1 (Constant 1) ∷ Jlt 1 n 1 ∷ Tx 0 0 5 ∷ Exit ∷ Free 0 ∷ Exit ∷ []

-- the packet, or none, and r1 at most 257
abbrev counted : Row
counted = row_with 257 0 (Held 2 128 0 0 0 1 ∷ []) 7

abbrev sent : Row
sent = row_with 257 0 [] 8

abbrev count_rows : List Row
count_rows = begun ∷ row_with 256 0 (Held 2 128 0 0 0 1 ∷ []) 7 ∷ counted ∷ counted ∷ sent ∷ counted ∷ sent ∷ []

-- these, and a jump to its own label
abbrev accepted_programs : List Question
accepted_programs =
    asked one_port (Port 0) strip (begun ∷ strip_rows) ∷ asked two_ports (Port 0) multicast multicast_rows
    ∷ asked looped (Port 0) loop loop_rows ∷ asked looped (Ring 0) loop loop_rows
    ∷ asked one_port (Port 0) (count_to 257) count_rows ∷ asked one_port (Port 0) (Jmp 0 ∷ []) (begun ∷ []) ∷ []

examples_accepted : AllByRecursion IsAccepted accepted_programs
unfolding passes passes_below
examples_accepted = all_accepted accepted_programs refl

-- ---- programs refused at a label by a rule

-- a clone makes its source loose, so a row that has it sole is not entailed
abbrev twice_sole : Row
twice_sole = row_of (Held 2 128 0 0 0 1 ∷ loose ∷ []) 6

abbrev clone_then_store : Question
clone_then_store = asked one_port (Port 0) (Clone 1 0 0 3 ∷ Store 0 0 One 0 ∷ Free 1 ∷ Free 0 ∷ Exit ∷ [])
    (begun ∷ twice_sole ∷ twice_sole ∷ begun ∷ none_held ∷ [])

-- strip, with r7 at most 1 in its first row
abbrev strip_loose : Question
strip_loose = asked one_port (Port 0) strip
    (record { live = true; facts = Held 2 128 0 0 0 1 ∷ replicate 7 Empty; bounds = replicate 7 0 ++ 1 ∷ [] } ∷ strip_rows)

-- control may not leave the program
abbrev no_exit : Question
no_exit = asked one_port (Port 0) (Free 0 ∷ []) (begun ∷ [])

-- an exit with a clone still held
abbrev exit_held : Question
exit_held = asked one_port (Port 0) (Clone 1 0 0 3 ∷ Free 0 ∷ Exit ∷ Free 0 ∷ Exit ∷ [])
    (begun ∷ row_of (loose ∷ loose ∷ []) 6 ∷ row_of (Empty ∷ loose ∷ []) 6 ∷ begun ∷ none_held ∷ [])

-- a clone into a register that is held
abbrev clone_held : Question
clone_held = asked one_port (Port 0) (Clone 1 0 0 4 ∷ Clone 1 0 0 4 ∷ Free 0 ∷ Exit ∷ Free 0 ∷ Exit ∷ [])
    (begun ∷ row_of (loose ∷ loose ∷ []) 6 ∷ dead ∷ dead ∷ row_of (loose ∷ []) 7 ∷ none_held ∷ [])

-- no byte can be appended in a pool without data room
abbrev append_no_room : Question
append_no_room = asked two_ports (Port 0) (Alloc 1 1 2 ∷ Append 1 1 ∷ Free 0 ∷ Exit ∷ [])
    (begun ∷ row_of (Held 2 128 0 0 0 1 ∷ Held 2 0 0 0 0 1 ∷ []) 6 ∷ begun ∷ none_held ∷ [])

abbrev refused_programs : List (Question × ℕ × Rule)
refused_programs = (clone_then_store, 0, J11) ∷ (strip_loose, 0, J11) ∷ (no_exit, 0, J3) ∷ (exit_held, 2, J10) ∷ (clone_held, 1, J5)
    ∷ (append_no_room, 1, J6) ∷ []

examples_refused : AllByRecursion (λ (q, label, rule). IsRefused q label rule) refused_programs
unfolding passes_below
examples_refused = all_refused refused_programs (refl, (refl, (refl, (refl, (refl, (refl, tt)))))) refl

-- ---- runs

-- 20 bytes
abbrev sample : List ℕ
sample = 1 ∷ 2 ∷ 3 ∷ 4 ∷ 5 ∷ 6 ∷ 7 ∷ 8 ∷ 9 ∷ 10 ∷ 11 ∷ 12 ∷ 13 ∷ 14 ∷ 15 ∷ 16 ∷ 17 ∷ 18 ∷ 19 ∷ 20 ∷ []

-- the records that each port sends in node runs of at most this many steps, and the state afterwards
abbrev ran : Environment → ℕ → List (List Instr) → List (List Instr) → List (ℕ × List ℕ) → List Bool → Option (List (List (ℕ × List ℕ)) × CopyState)
ran env steps ports rings records answers =
    copy_run env [] steps (record { ports = ports; rings = rings }) (map (λ r. record { port = 0; time = r.0; bytes = r.1 }) records) (copy_start env answers)

abbrev captures_of : Option (List (List (ℕ × List ℕ)) × CopyState) → Option (List (List (ℕ × List ℕ)))
captures_of = option_map (λ r. r.0)

-- strip drops the first 14 bytes, and a packet of two
strip_runs : captures_of (ran one_port 6 (strip ∷ []) [] ((5, sample) ∷ (6, 1 ∷ 2 ∷ []) ∷ []) (true ∷ true ∷ []))
    ≡ Some (((5, 15 ∷ 16 ∷ 17 ∷ 18 ∷ 19 ∷ 20 ∷ []) ∷ []) ∷ [])
strip_runs = refl

-- records of 13 bytes and of none are too short for strip: nothing is sent
strip_short : captures_of (ran one_port 6 (strip ∷ []) [] ((5, replicate 13 7) ∷ (6, []) ∷ []) (true ∷ true ∷ [])) ≡ Some ([] ∷ [])
strip_short = refl

abbrev multicast_ran : List (ℕ × List ℕ) → List Bool → Option (List (List (ℕ × List ℕ)))
multicast_ran records answers = captures_of (ran two_ports 20 (multicast ∷ (Tx 0 0 2 ∷ Exit ∷ Free 0 ∷ Exit ∷ []) ∷ []) [] records answers)

-- the first port sends the record, and the second four bytes followed by the record
multicast_runs : multicast_ran ((5, sample) ∷ []) (true ∷ true ∷ true ∷ true ∷ [])
    ≡ Some (((5, sample) ∷ []) ∷ ((5, 10 ∷ 11 ∷ 12 ∷ 13 ∷ sample) ∷ []) ∷ [])
multicast_runs = refl

-- two records, and the third call refused: each port sends only the second record's packet
multicast_refused : multicast_ran ((5, 1 ∷ 2 ∷ []) ∷ (6, 3 ∷ 4 ∷ []) ∷ []) (true ∷ true ∷ false ∷ true ∷ true ∷ true ∷ true ∷ [])
    ≡ Some (((6, 3 ∷ 4 ∷ []) ∷ []) ∷ ((6, 10 ∷ 11 ∷ 12 ∷ 13 ∷ 3 ∷ 4 ∷ []) ∷ []) ∷ [])
multicast_refused = refl

-- nothing is sent, and after 32 more node runs the packet is left in the ring
abbrev left_in_rings : Option (List (List (ℕ × List ℕ)) × CopyState) → Option (List (List (ℕ × List ℕ)) × List ℕ)
left_in_rings = option_map (λ r. (r.0, map length r.1.rings))

loop_leaves_one : left_in_rings (ran looped 4 (loop ∷ []) (loop ∷ []) ((5, 9 ∷ []) ∷ []) (true ∷ []))
    ≡ Some ([] ∷ [], 1 ∷ [])
loop_leaves_one = refl

-- what the port sends for one record in at most n steps, and how many node runs are cut
abbrev sent_in : ℕ → List Instr → Option (List (List (ℕ × List ℕ)) × ℕ)
sent_in steps program = option_map (λ r. (r.0, r.1.cuts)) (ran one_port steps (program ∷ []) [] ((5, 1 ∷ 2 ∷ []) ∷ []) (true ∷ []))

-- a jump to itself is cut in step 257
spin_is_cut : sent_in 257 (Jmp 0 ∷ []) ≡ Some ([] ∷ [], 1)
spin_is_cut = refl

spin_is_not_cut_before : sent_in 256 (Jmp 0 ∷ []) ≡ None
spin_is_not_cut_before = refl

-- 256 backward jumps are taken, in 517 steps
count_is_sent : sent_in 517 (count_to 257) ≡ Some (((5, 1 ∷ 2 ∷ []) ∷ []) ∷ [], 0)
count_is_sent = refl

count_takes_its_steps : sent_in 516 (count_to 257) ≡ None
count_takes_its_steps = refl

-- one more is cut, in step 515
count_is_cut : sent_in 515 (count_to 258) ≡ Some ([] ∷ [], 1)
count_is_cut = refl

count_is_not_cut_before : sent_in 514 (count_to 258) ≡ None
count_is_not_cut_before = refl

-- ---- numbers

ones_at : all_ones 18446744073709551615 ≡ 18446744073709551615
ones_at = refl

ones_small : all_ones 300 ≡ 511
ones_small = refl
