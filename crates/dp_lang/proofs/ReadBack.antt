-- The printed text of a program reads as that program.
use Rattle.std.proofs.Common.{◌≡◌, ℕ, suc, ◌+◌, ◌^◌, ◌<◌, ◌≤◌, Bool, true, false, not, cond, List, [], ◌∷◌, ◌++◌, length, map, Some, Result, Ok, refl, sym}
use Rattle.std.proofs.Common.{ap, subst, ◌∙◌, append-nil, append_assoc, length-append, add-one, arith}
use Rattle.std.specs.Prelude.{nat_lt}
use Rattle.std.specs.List.{list_all, slice_split}
use Rattle.std.specs.FinMap.{insert}
use Rattle.std.proofs.lemmas.Bool.{ltb-true}
use Rattle.std.proofs.lemmas.List.{length-map, map_push}
use Rattle.dp_model.specs.declared.instr.Instr.{Instr}
use Rattle.dp_lang.specs.declared.cause.Fault.{Fault}
use Rattle.dp_lang.specs.Lines.{is_newline}
use Rattle.dp_lang.specs.Printing.{statement_text, is_named, label_name, line, printed_from, printed}
use Rattle.dp_lang.specs.Programs.{IsProgram, is_in_range, leads_below}
use Rattle.dp_lang.specs.Reading.{ProgramSource, line_of, lines_of, nothing, target_in, not_empty, program_of, Reads}
use Rattle.dp_lang.specs.Forms.{spelled}
use Rattle.dp_lang.proofs.Bytes.{Free, ink, inked, all_append, and_left, and_right}
use Rattle.dp_lang.proofs.LineCuts.{split_at}
use Rattle.dp_lang.proofs.LineTexts.{text_ink, line_statement, line_label, line_empty}
use Rattle.dp_lang.proofs.Operands.{is_small, plain_digits}
use Rattle.dp_lang.proofs.PrintedLabels.{ArePlaced, placed_none, placed_skip, placed_insert, is_new}
use Rattle.dp_lang.proofs.Ranges.{operands_small}
use Rattle.dp_lang.proofs.Resolving.{with_names, AllFind, statements_resolve, all_find}

-- ---- one line of a text

line_then : (n : ℕ) (source next : ProgramSource) (text rest : List ℕ) → Free is_newline text → line_of n source text ≡ Ok next
    → lines_of n source (slice_split is_newline (line text ++ rest)) ≡ lines_of (n + 1) next (slice_split is_newline rest)
line_then n source next text rest free read = rw (append_assoc text (10 ∷ []) rest, split_at is_newline text 10 rest free refl, read) refl

-- ---- the lines of an instruction

-- what the lines give after n instructions
record Agrees (program done : List Instr) (source : ProgramSource) : Type 0 where
  agree : map (λ s. s.1) source.statements ≡ map with_names done
  placed : ArePlaced program (length done) source.labels

statements_many : (done : List Instr) (source : ProgramSource) → map (λ s. s.1) source.statements ≡ map with_names done → length source.statements ≡ length done
statements_many done source agree = sym (length-map source.statements (λ s. s.1)) ∙ ap length agree ∙ length-map done with_names

-- reading from a line on reaches the end
record Reaches (program all : List Instr) (read : Result ProgramSource Fault) : Type 0 where
  last : ProgramSource
  is : read ≡ Ok last
  end : Agrees program all last

along : {program all : List Instr} (r s : Result ProgramSource Fault) → r ≡ s → Reaches program all s → Reaches program all r
along r s e reached = record { last = reached.last; is = e ∙ reached.is; end = reached.end }

free_label : (n : ℕ) → n < 2 ^ 64 → Free is_newline (label_name n ++ 58 ∷ [])
free_label n small = all_append (λ b. not (is_newline b)) (label_name n) (58 ∷ [])
    (inked (label_name n) (ink (label_name n) (plain_digits n small))).newline refl

free_statement : (i : Instr) → list_all is_small (spelled i).arguments ≡ true → Free is_newline (statement_text (spelled i))
free_statement i small = (inked (statement_text (spelled i)) (text_ink (spelled i).form (spelled i).arguments small)).newline

agree_more : (done : List Instr) (i : Instr) (n : ℕ) (source : ProgramSource) → map (λ s. s.1) source.statements ≡ map with_names done →
    map (λ s. s.1) (source.statements ++ (n, with_names i) ∷ []) ≡ map with_names (done ++ i ∷ [])
agree_more done i n source agree = map_push (λ s. s.1) source.statements (n, with_names i) ∙ ap (λ ss. ss ++ with_names i ∷ []) agree
    ∙ sym (map_push with_names done i)

-- ---- all lines

abbrev Goes : (program all : List Instr) (n : ℕ) (source : ProgramSource) → List ℕ → Type 0
Goes program all n source text = Reaches program all (lines_of n source (slice_split is_newline text))

abbrev From : (program all more : List Instr) → Type 0
From program all more = (done : List Instr) (n : ℕ) (source : ProgramSource) → done ++ more ≡ all → Agrees program done source →
    Goes program all n source (printed_from program (length done) more)

-- the statement of an instruction whose label is defined
statement_goes : (program all : List Instr) (i : Instr) (more : List Instr) → length all ≤ 1024 → is_in_range i ≡ true →
    list_all is_small (spelled i).arguments ≡ true → From program all more
    → (done : List Instr) (n : ℕ) (source : ProgramSource) → done ++ i ∷ more ≡ all → map (λ s. s.1) source.statements ≡ map with_names done →
    ArePlaced program (suc (length done)) source.labels
    → Goes program all n source (line (statement_text (spelled i)) ++ printed_from program (length done + 1) more)
statement_goes program all i more few fit small go done n source whole agree placed =
    let next : ProgramSource = record { labels = source.labels; statements = source.statements ++ (n, with_names i) ∷ [] } in
    let many : length (done ++ i ∷ []) ≡ length done + 1 = omega (arith, length-append done (i ∷ [])) in
    let room : length source.statements < 1024 = omega (arith, statements_many done source agree, ap length whole, length-append done (i ∷ more)) in
    let rest = printed_from program (length done + 1) more in
    along _ _ (line_then n source next (statement_text (spelled i)) rest (free_statement i small)
    (line_statement n source (spelled i).form (spelled i).arguments fit small room))
    (subst (λ m. Goes program all (n + 1) next (printed_from program m more)) many
    (go (done ++ i ∷ []) (n + 1) next (append_assoc done (i ∷ []) more ∙ whole)
    (record {
      agree = agree_more done i n source agree;
      placed = subst (λ m. ArePlaced program m source.labels) (sym (add-one (length done))
          ∙ sym many) placed;
    })))

-- before it the line of its label, where it is named
instr_goes : (program all : List Instr) (i : Instr) (more : List Instr) → length all ≤ 1024 → is_in_range i ≡ true → list_all is_small (spelled i).arguments
    ≡ true → From program all more
    → (done : List Instr) (n : ℕ) (source : ProgramSource) → done ++ i ∷ more ≡ all → Agrees program done source → (b : Bool) → is_named program (length done)
    ≡ b
    → Goes program all n source (cond b (line (label_name (length done) ++ 58 ∷ [])) []
    ++ (line (statement_text (spelled i)) ++ printed_from program (length done + 1) more))
instr_goes program all i more few fit small go done n source whole so_far true named =
    let k = length done in
    let short : k < 2 ^ 64 = omega (arith, ap length whole, length-append done (i ∷ more)) in
    let many : length source.statements ≡ k = statements_many done source so_far.agree in
    let next : ProgramSource = record { labels = insert source.labels (label_name k) (length source.statements); statements = source.statements } in
    let rest = line (statement_text (spelled i)) ++ printed_from program (k + 1) more in
    along _ _ (line_then n source next (label_name k ++ 58 ∷ []) rest (free_label k short)
    (line_label n source k short (is_new program k source.labels short so_far.placed)))
    (statement_goes program all i more few fit small go done (n + 1) next whole so_far.agree
    (subst (λ m. ArePlaced program (suc k) (insert source.labels (label_name k) m)) (sym many) (placed_insert program k source.labels short so_far.placed)))
instr_goes program all i more few fit small go done n source whole so_far false named =
    statement_goes program all i more few fit small go done n source whole so_far.agree (placed_skip program (length done) source.labels named so_far.placed)

all_go : (program all : List Instr) (count : ℕ) → count ≤ 1024 → length all ≤ 1024 → (more : List Instr) → list_all is_in_range more ≡ true →
    list_all (leads_below count) more ≡ true → From program all more
all_go program all count low few [] ranges leads done n source whole so_far =
    let same : done ≡ all = sym (append-nil done) ∙ whole in
    record { last = source; is = rw (line_empty n source) refl; end = subst (λ is. Agrees program is source) same so_far }
all_go program all count low few (i ∷ more) ranges leads done n source whole so_far =
    let fit : is_in_range i ≡ true = and_left (is_in_range i) (list_all is_in_range more) ranges in
    let lead : leads_below count i ≡ true = and_left (leads_below count i) (list_all (leads_below count) more) leads in
    instr_goes program all i more few fit (operands_small count low i fit lead)
    (all_go program all count low few more (and_right (is_in_range i) (list_all is_in_range more) ranges)
    (and_right (leads_below count i) (list_all (leads_below count) more) leads))
    done n source whole so_far (is_named program (length done)) refl

-- ---- the whole text

not_none : (is : List Instr) → 1 ≤ length is → not_empty (map spelled is) ≡ Ok (map spelled is)
not_none [] h = absurd (omega arith)
not_none (i ∷ is) h = refl

found : (program : List Instr) (source : ProgramSource) → Agrees program program source → (l : ℕ) → is_named program l ≡ true → nat_lt l (length program) ≡
    true →
    target_in source (label_name l) ≡ Some l
found program source so_far l named lt =
    let many : length source.statements ≡ length program = statements_many program source so_far.agree in
    rw (so_far.placed.earlier l (ltb-true l (length program) lt) named, many, lt) refl

pub reads_back : (program : List Instr) → IsProgram program → Reads (printed program) program
unfolding program_of
reads_back program p =
    let start : Agrees program [] nothing = record { agree = refl; placed = placed_none program } in
    let reached = all_go program program (length program) p.few p.few program p.in_range p.labels [] 1 nothing refl start in
    let found_all : AllFind (target_in reached.last) program = all_find (target_in reached.last) program (length program)
    (found program reached.last reached.end) program (λ l h. h) p.labels in
    rw (reached.is, statements_resolve (target_in reached.last) reached.last.statements program reached.end.agree found_all) (not_none program p.some)
