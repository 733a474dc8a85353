-- The rows that are found pass where some rows do.
use Rattle.std.proofs.Common.{◌≡◌, ℕ, zero, suc, ◌+◌, ◌<◌, ◌≤◌, Bool, true, false, not, ◌||◌, List, length, set, Option, Some, None, refl, sym, ap, ◌∙◌}
use Rattle.std.proofs.Common.{subst, inl, inr, arith}
use Rattle.std.specs.Prelude.{slice_get, replicate, IsTrue, ◌⊎◌, Result, Ok, Err, IfOk, IfErr, IfSome, IfNone}
use Rattle.std.specs.List.{list_all}
use Rattle.std.specs.Option.{option_map_or}
use Rattle.std.proofs.lemmas.Bool.{eq-eqb}
use Rattle.std.proofs.lemmas.Option.{slice_get_within}
use Rattle.std.proofs.lemmas.List.{length-set}
use Rattle.dp_model.specs.declared.row.Row.{Row}
use Rattle.dp_model.specs.declared.env.Entry.{Entry}
use Rattle.dp_model.specs.declared.instr.Instr.{Instr}
use Rattle.dp_model.specs.declared.rule.Rule.{Rule}
use Rattle.dp_model.specs.Environments.{Environment}
use Rattle.dp_model.specs.Jumps.{IsForward}
use Rattle.dp_model.specs.Rows.{entails, entry_row, is_well_formed_row}
use Rattle.dp_model.specs.Rules.{Question, row_passes, holds, holds_at, uses, later_rules, IsAccepted, IsRefused}
use Rattle.dp_model.specs.Laws.Lists.{all_at, get_set_same}
use Rattle.dp_cert.specs.Spelling.{Certificate, certificate_of}
use Rattle.dp_check.specs.Faults.{question, IsRefusedWith}
use Rattle.dp_infer.specs.Joins.{joined, dead_row, begun, found_rows}
use Rattle.dp_infer.specs.Inference.{Certifies, HasNone, SaysMost, IsWithout}
use Rattle.dp_infer.specs.Widening.{IsNotEnough, AreLast}
use Rattle.dp_infer.specs.declared.inferring.InferError.{InferError}
use Rattle.dp_infer.proofs.Changes.{AreWellFormed}
use Rattle.dp_infer.proofs.PacketTests.{all_held_keeps}
use Rattle.dp_infer.proofs.RowsAfter.{targets_keep, bytes_keep, share_keeps, segments_keep, leave_keeps, end_keeps}
use Rattle.dp_infer.proofs.JoinLaws.{rows_join, joined_well_formed}
use Rattle.dp_infer.proofs.RowLists.{all_set, passes_at, passes, fits_from}
use Rattle.dp_infer.proofs.Reach.{Fit, fit_set}
use Rattle.dp_infer.proofs.Passing.{spread_long}
use Rattle.dp_infer.proofs.Accepted.{second_rule, is_accepted, all_hold}
use Rattle.dp_infer.proofs.Spread.{Sound, live_rules, leads_well, spread_sound}

-- ---- the start

dead_at : (n k : ℕ) (row : Row) → slice_get (replicate n dead_row) k ≡ Some row → row.live ≡ false
dead_at zero k row e = absurd cc
dead_at (suc n) zero row e = let same : dead_row ≡ row = cc in sym (ap (λ (r : Row). r.live) same)
dead_at (suc n) (suc k) row e = dead_at n k row e

dead_fit : (q : Question) (n : ℕ) → Fit q (replicate n dead_row)
dead_fit q n = record { below = λ k row e live. absurd (cc (dead_at n k row e, live)) }

dead_well_formed : (n : ℕ) → list_all is_well_formed_row (replicate n dead_row) ≡ true
dead_well_formed zero = refl
dead_well_formed (suc n) = dead_well_formed n

dead_long : (n : ℕ) → length (replicate n dead_row) ≡ n
dead_long zero = refl
dead_long (suc n) = ap suc (dead_long n)

first_dead : (n : ℕ) → 0 < n → slice_get (replicate n dead_row) 0 ≡ Some dead_row
first_dead zero some = absurd (omega arith)
first_dead (suc n) some = refl

begun_go : (q : Question) (entry : Option Row) → list_all is_well_formed_row q.rows ≡ true → 0 < length q.program → entry_row q.env q.entry ≡ entry
    → option_map_or (λ row. row_passes q.rows 0 (entails row)) entry false ≡ true → Sound q (begun entry (length q.program)) 0
begun_go q None fits some is e = absurd cc
begun_go q (Some row) fits some is e =
    let n = length q.program in
    let (u, at_u, s) = passes_at q.rows 0 row e in
    let j = rows_join row row u s s (fits_from u (all_at is_well_formed_row q.rows 0 u fits at_u)) in
    let m = joined row row in
    let rows = set (replicate n dead_row) 0 m in
    let here : row_passes rows 0 (entails row) ≡ true = passes rows 0 row m (get_set_same (replicate n dead_row) 0 m dead_row (first_dead n some)) j.left in
    record {
      long = length-set (replicate n dead_row) 0 m ∙ dead_long n;
      well_formed = all_set is_well_formed_row (replicate n dead_row) 0 m (dead_well_formed n) (joined_well_formed row row);
      fit = fit_set q (replicate n dead_row) 0 m u (dead_fit q n) at_u j.least;
      begins = rw is here;
      done = λ k lt. absurd (omega arith);
    }

begun_sound : (q : Question) → IsAccepted q → list_all is_well_formed_row q.rows ≡ true → 0 < length q.program →
    Sound q (begun (entry_row q.env q.entry) (length q.program)) 0
begun_sound q accepted fits some = begun_go q (entry_row q.env q.entry) fits some refl (second_rule q accepted)

pub found_sound : (q : Question) → IsForward q.program → IsAccepted q → list_all is_well_formed_row q.rows ≡ true → 0 < length q.program →
    Sound q (found_rows q.program q.env q.entry) (length q.program)
found_sound q forward accepted fits some =
    let all = spread_sound q q.program 0 (begun (entry_row q.env q.entry) (length q.program)) forward accepted fits (λ k. let e : 0 + k ≡ k = omega arith in
    rw e refl) (begun_sound q accepted fits some) in
    let e : 0 + length q.program ≡ length q.program = omega arith in
    subst (λ (n : ℕ). Sound q (found_rows q.program q.env q.entry) n) e all

-- ---- the end

-- the rules hold of a live row
live_hold : (q : Question) (rows : List Row) (label : ℕ) (i : Instr) (row : Row) → IsAccepted q → list_all is_well_formed_row q.rows ≡ true →
    Sound q rows (length q.program) → slice_get q.program label ≡ Some i → slice_get rows label ≡ Some row → row.live ≡ true
    → list_all (holds_at (question q.program (certificate_of rows) q.env q.entry) label i row) later_rules ≡ true
live_hold q rows label i row accepted cert_fits so at_i at_row live =
    let (u, at_u, s) = passes_at q.rows label row (so.fit.below label row at_row live) in
    let fits : AreWellFormed row = fits_from row (all_at is_well_formed_row rows label row so.well_formed at_row) in
    let rules = live_rules q label i u accepted at_i at_u s.other_live in
    all_hold (question q.program (certificate_of rows) q.env q.entry) label i row (record {
      indices = rules.indices;
      within = (leads_well q label i row u s fits (fits_from u (all_at is_well_formed_row q.rows label u cert_fits at_u)) rules).within;
      held = all_held_keeps row u (uses i) s rules.held;
      targets = targets_keep row u i s rules.targets;
      bytes = bytes_keep row u i s fits rules.bytes;
      share = share_keeps row u i s fits rules.share;
      segments = segments_keep row u i s fits rules.segments;
      leaves = leave_keeps q.env row u i s rules.leaves;
      ends = end_keeps row u i s rules.ends;
      entailed = so.done label (slice_get_within q.program label i at_i) i row at_i at_row live;
    })

later_hold : (q : Question) (rows : List Row) (label : ℕ) → IsAccepted q → list_all is_well_formed_row q.rows ≡ true → Sound q rows (length q.program) →
    list_all (holds (question q.program (certificate_of rows) q.env q.entry) label) later_rules ≡ true
later_hold q rows label accepted cert_fits so = go (slice_get q.program label) (slice_get rows label) refl refl
  where
    r : Question
    r = question q.program (certificate_of rows) q.env q.entry

    at : (i : Instr) (row : Row) (b : Bool) → row.live ≡ b → slice_get q.program label ≡ Some i → slice_get rows label ≡ Some row →
        list_all (λ rule. not b || holds_at r label i row rule) later_rules ≡ true
    at i row false dead at_i at_row = refl
    at i row true live at_i at_row = live_hold q rows label i row accepted cert_fits so at_i at_row live

    go : (o : Option Instr) (p : Option Row) → slice_get q.program label ≡ o → slice_get rows label ≡ p → list_all (holds r label) later_rules ≡ true
    go None p e f = rw e refl
    go (Some i) None e f = rw (e, f) refl
    go (Some i) (Some row) e f = rw (e, f) (at i row row.live refl e f)

pub sound_accepted : (q : Question) (rows : List Row) → IsAccepted q → list_all is_well_formed_row q.rows ≡ true → Sound q rows (length q.program) →
    IsAccepted (question q.program (certificate_of rows) q.env q.entry)
sound_accepted q rows accepted cert_fits so =
    is_accepted (question q.program (certificate_of rows) q.env q.entry) (eq-eqb (length rows) (length q.program) so.long) so.begins
    (λ label. later_hold q rows label accepted cert_fits so)

-- ---- what an inferrer promises

pub says_most : (program : List Instr) (env : Environment) (entry : Entry) → 0 < length program → SaysMost program env entry (found_rows program env entry)
says_most program env entry some forward rows h label row at live =
    (found_sound (question program (certificate_of rows) env entry) forward h.1 h.0 some).fit.below label row at live

pub none_other : (program : List Instr) (env : Environment) (entry : Entry) (label : ℕ) (rule : Rule) → IsForward program → 0 < length program
    → IsRefused (question program (certificate_of (found_rows program env entry)) env entry) label rule → (rows : List Row) → ¬ Certifies program env entry rows
none_other program env entry label rule forward some refused rows h =
    let so = found_sound (question program (certificate_of rows) env entry) forward h.1 h.0 some in
    let accepted = sound_accepted (question program (certificate_of rows) env entry) (found_rows program env entry) h.1 h.0 so in
    cc (refused.0, accepted label)

pub most_of : (program : List Instr) (env : Environment) (entry : Entry) (found : List Row) → 1 ≤ length program → found ≡ found_rows program env entry →
    SaysMost program env entry found
most_of program env entry found some e = subst (λ (rows : List Row). SaysMost program env entry rows) (sym e) (says_most program env entry (omega arith))

pub none_of : (program : List Instr) (env : Environment) (entry : Entry) (cert : Certificate) (label : ℕ) (rule : Rule) → 1 ≤ length program →
    cert ≡ certificate_of (found_rows program env entry)
    → IsRefused (question program cert env entry) label rule → IsForward program → (rows : List Row) → ¬ Certifies program env entry rows
none_of program env entry cert label rule some e refused forward =
    none_other program env entry label rule forward (omega arith) (subst (λ (found : Certificate). IsRefused (question program found env entry) label rule) e
    refused)

pub begun_well_formed : (rows : List Row) (entry : Option Row) (n : ℕ) → rows ≡ begun entry n → IsTrue (list_all is_well_formed_row rows)
begun_well_formed rows None n e = rw e (dead_well_formed n)
begun_well_formed rows (Some row) n e = rw e (all_set is_well_formed_row (replicate n dead_row) 0 (joined row row) (dead_well_formed n)
    (joined_well_formed row row))

-- where a forward program is accepted with no rows, any rows say most
pub most_anyway : (program : List Instr) (env : Environment) (entry : Entry) (found : List Row) → HasNone program env entry → SaysMost program env entry found
most_anyway program env entry found never = λ forward rows h. absurd (never forward rows h)

-- holds in any case
pub if_any : {A : Type 0} {P : Type 0} → (o : Option A) → P → IfSome o (λ x. P)
if_any (Some x) is = is
if_any None is = tt

-- one thing holds where there is none, another where there is one
pub one_or_other : {A : Type 0} → (o : Option A) (P Q : Type 0) → IfNone o P → IfSome o (λ x. Q) → P ⊎ Q
one_or_other (Some x) P Q none some = inr some
one_or_other None P Q none some = inl none

-- where what is found is refused, a forward program is accepted with no rows
pub none_refused : (program : List Instr) (env : Environment) (entry : Entry) (cert : Certificate) (label number : ℕ) → 1 ≤ length program →
    cert ≡ certificate_of (found_rows program env entry) → IsRefusedWith (question program cert env entry) label number → HasNone program env entry
none_refused program env entry cert label number some e (rule, same, refused) = none_of program env entry cert label rule some e refused

-- where the rows of the first pass are refused, they are not enough
pub not_enough : (program : List Instr) (env : Environment) (entry : Entry) (cert : Certificate) (label number : ℕ)
    → cert ≡ certificate_of (found_rows program env entry) → IsRefusedWith (question program cert env entry) label number → IsNotEnough program env entry
not_enough program env entry cert label number e (rule, same, refused) accepted =
    let so : IsRefused (question program (certificate_of (found_rows program env entry)) env entry) label rule =
    subst (λ (found : Certificate). IsRefused (question program found env entry) label rule) e refused in
    cc (so.0, accepted label)

-- where they are accepted, they are the last
pub enough : (program : List Instr) (env : Environment) (entry : Entry) (cert : Certificate) (q : Question)
    → cert ≡ certificate_of (found_rows program env entry) → q ≡ question program cert env entry → IsAccepted q → AreLast program env entry q.rows
enough program env entry cert q e is accepted =
    let same : q ≡ question program (certificate_of (found_rows program env entry)) env entry =
    is ∙ ap (λ (found : Certificate). question program found env entry) e in
    inl (subst (λ (x : Question). IsAccepted x) same accepted, ap (λ (x : Question). x.rows) same)

-- a promise about an equal program is one about the program
pub without_back : (program back : List Instr) (env : Environment) (entry : Entry) (result : Result Question InferError) → back ≡ program →
    IfErr result (λ e. IsWithout back env entry e) → IfErr result (λ e. IsWithout program env entry e)
without_back program back env entry result same h = subst (λ (p : List Instr). IfErr result (λ e. IsWithout p env entry e)) same h

-- any certificate says most where a forward program has none
pub most_checked : (program : List Instr) (env : Environment) (entry : Entry) (result : Result Question InferError) → HasNone program env entry →
    IfOk result (λ q. SaysMost program env entry q.rows)
most_checked program env entry (Ok q) never = most_anyway program env entry q.rows never
most_checked program env entry (Err e) never = tt

begun_long : (entry : Option Row) (n : ℕ) → length (begun entry n) ≡ n
begun_long None n = dead_long n
begun_long (Some row) n = length-set (replicate n dead_row) 0 (joined row row) ∙ dead_long n

pub found_long : (program : List Instr) (env : Environment) (entry : Entry) (rows : List Row) → rows ≡ found_rows program env entry →
    length rows ≡ length program
found_long program env entry rows is =
    ap length is ∙ (spread_long env program 0 (begun (entry_row env entry) (length program)) ∙ begun_long (entry_row env entry) (length program))
