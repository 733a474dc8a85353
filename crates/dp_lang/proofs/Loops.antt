-- One more operand, label, line or statement in a loop.
use Rattle.std.proofs.Math.Seq.{drop-cons}
use Rattle.std.proofs.Common.{Bor, add-one, ◌≡◌, ℕ, ◌+◌, ◌<◌, ◌≤◌, true, List, [], ◌∷◌, ◌++◌, length, map, get_or, drop, take, ◌-◌, Option, Some, None}
use Rattle.std.proofs.Common.{Result, Ok, Err, refl, sym, ap, ◌∙◌, append_assoc, arith, inl, inr}
use Rattle.std.proofs.lemmas.Bool.{cases_lt, le-leb, lt-leb}
use Rattle.std.specs.List.{list_all}
use Rattle.std.proofs.lemmas.List.{length-map, get_or-map, take-map}
use Rattle.dp_lang.specs.declared.cause.Cause.{Cause}
use Rattle.dp_lang.specs.Causes.{number_of, least, or_less}
use Rattle.dp_lang.specs.declared.form.OperandKind.{OperandKind}
use Rattle.dp_lang.specs.Lines.{trim, trim_start, is_text, pieces, labels_in, instruction_in}
use Rattle.dp_lang.specs.Kinds.{argument_of}
use Rattle.dp_lang.specs.Forms.{Statement}
use Rattle.std.specs.FinMap.{insert}
use Rattle.dp_lang.specs.Reading.{Named, both, ◌>>=◌, onto, second, each_argument, Labels, label_test, labels_after, ProgramSource, statement_of}
use Rattle.dp_lang.specs.Reading.{with_statement}
use Rattle.dp_lang.specs.Reading.{line_of}

-- ---- the lesser of causes

least_low : (c d : Cause) → number_of c ≤ number_of d → least c d ≡ c
least_low c d h = rw (le-leb _ _ h) refl

least_high : (c d : Cause) → number_of d < number_of c → least c d ≡ d
least_high c d h = rw (lt-leb _ _ h) refl

pub least_assoc : (d c e : Cause) → least d (least c e) ≡ least (least d c) e
least_assoc d c e =
    elim (cases_lt (number_of e) (number_of c)) [
      | inl ec ↦ elim (cases_lt (number_of c) (number_of d)) [
        | inl cd ↦ rw (least_high c e ec, least_high d c cd, least_high c e ec) (least_high d e (omega arith))
        | inr dc ↦ rw (least_high c e ec, least_low d c dc) refl
      ]
      | inr ce ↦ elim (cases_lt (number_of c) (number_of d)) [
        | inl cd ↦ rw (least_low c e ce, least_high d c cd, least_low c e ce) refl
        | inr dc ↦ rw (least_low c e ce, least_low d c dc) (sym (least_low d e (omega arith)))
      ]
    ]

-- a result together with a fault that was found before
abbrev pub noting : {A : Type 0} → Option Cause → Result A Cause → Result A Cause
noting None read = read
noting (Some before) (Ok x) = Err before
noting (Some before) (Err c) = Err (least before c)

-- ---- operands

abbrev pub prepend : {A E : Type 0} → List A → Result (List A) E → Result (List A) E
prepend front read = read >>= λ xs. Ok (front ++ xs)

pub argument_more : (fault : Option Cause) (front : List Named) (o : Named) (rest total : Result (List Named) Cause)
    → noting fault (prepend front (both (Ok o) rest >>= onto)) ≡ total → noting fault (prepend (front ++ o ∷ []) rest) ≡ total
argument_more None front o (Ok xs) total h = ap (λ (ys : List Named). Ok ys) (append_assoc front (o ∷ []) xs) ∙ h
argument_more None front o (Err c) total h = h
argument_more (Some d) front o (Ok xs) total h = h
argument_more (Some d) front o (Err c) total h = h

pub fault_more : (fault : Option Cause) (front : List Named) (c : Cause) (rest total : Result (List Named) Cause)
    → noting fault (prepend front (both (Err c) rest >>= onto)) ≡ total → noting (Some (or_less fault c)) (prepend front rest) ≡ total
fault_more None front c (Ok xs) total h = h
fault_more None front c (Err e) total h = h
fault_more (Some d) front c (Ok xs) total h = h
fault_more (Some d) front c (Err e) total h = sym (ap (λ (x : Cause). Err x) (least_assoc d c e)) ∙ h

pub prepend_none : {A E : Type 0} (read : Result (List A) E) → prepend [] read ≡ read
prepend_none (Ok xs) = refl
prepend_none (Err e) = refl

-- ---- labels

-- whether a label can be defined, and then the others
abbrev pub then_labels : Result (Unit {0}) Cause → Result Labels Cause → Result Labels Cause
then_labels test rest = both test rest >>= second

pub label_more : (fault : Option Cause) (u : Unit {0}) (rest total : Result Labels Cause) → noting fault (then_labels (Ok u) rest) ≡ total →
    noting fault rest ≡ total
label_more None u (Ok ls) total h = h
label_more None u (Err c) total h = h
label_more (Some d) u (Ok ls) total h = h
label_more (Some d) u (Err c) total h = h

pub label_fault_more : (fault : Option Cause) (c : Cause) (rest total : Result Labels Cause)
    → noting fault (then_labels (Err c) rest) ≡ total → noting (Some (or_less fault c)) rest ≡ total
label_fault_more None c (Ok ls) total h = h
label_fault_more None c (Err e) total h = h
label_fault_more (Some d) c (Ok ls) total h = h
label_fault_more (Some d) c (Err e) total h = sym (ap (λ (x : Cause). Err x) (least_assoc d c e)) ∙ h

-- the step at index i of a loop over kinds and parts
each_step : (ks : List OperandKind) (ps : List (Bor (List ℕ))) (i : ℕ) (k : OperandKind) (p : Bor (List ℕ)) (r : Result Named Cause) → i < length ks → i <
    length ps
    → argument_of (get_or ks i k) (trim (get_or ps i p).now) ≡ r
    → each_argument (drop i ks) (map (λ part. part.now) (drop i ps)) ≡ both r (each_argument (drop (i + 1) ks) (map (λ part. part.now) (drop (i + 1) ps))) >>=
    onto
each_step ks ps i k p r lt lt2 g =
    let a : drop i ks ≡ get_or ks i k ∷ drop (i + 1) ks = rw add-one (drop-cons ks i k lt) in
    let b : drop i ps ≡ get_or ps i p ∷ drop (i + 1) ps = rw add-one (drop-cons ps i p lt2) in
    rw (a, b, g) refl

pub ok_goes_on : (ks : List OperandKind) (ps : List (Bor (List ℕ))) (i : ℕ) (k : OperandKind) (p : Bor (List ℕ)) (fault : Option Cause) (front : List Named)
    (o : Named)
    (total : Result (List Named) Cause)
    → i < length ks → i < length ps → argument_of (get_or ks i k) (trim (get_or ps i p).now) ≡ Ok o
    → noting fault (prepend front (each_argument (drop i ks) (map (λ part. part.now) (drop i ps)))) ≡ total
    → noting fault (prepend (front ++ o ∷ []) (each_argument (drop (i + 1) ks) (map (λ part. part.now) (drop (i + 1) ps)))) ≡ total
ok_goes_on ks ps i k p fault front o total lt lt2 g so_far =
    argument_more fault front o (each_argument (drop (i + 1) ks) (map (λ part. part.now) (drop (i + 1) ps))) total
    (ap (λ (r : Result (List Named) Cause). noting fault (prepend front r)) (sym (each_step ks ps i k p (Ok o) lt lt2 g)) ∙ so_far)

pub err_goes_on : (ks : List OperandKind) (ps : List (Bor (List ℕ))) (i : ℕ) (k : OperandKind) (p : Bor (List ℕ)) (fault : Option Cause) (front : List Named)
    (c : Cause)
    (total : Result (List Named) Cause)
    → i < length ks → i < length ps → argument_of (get_or ks i k) (trim (get_or ps i p).now) ≡ Err c
    → noting fault (prepend front (each_argument (drop i ks) (map (λ part. part.now) (drop i ps)))) ≡ total
    → noting (Some (or_less fault c)) (prepend front (each_argument (drop (i + 1) ks) (map (λ part. part.now) (drop (i + 1) ps)))) ≡ total
err_goes_on ks ps i k p fault front c total lt lt2 g so_far =
    fault_more fault front c (each_argument (drop (i + 1) ks) (map (λ part. part.now) (drop (i + 1) ps))) total
    (ap (λ (r : Result (List Named) Cause). noting fault (prepend front r)) (sym (each_step ks ps i k p (Err c) lt lt2 g)) ∙ so_far)

-- the step at index i of a loop over labels
abbrev trimmed : List (Bor (List ℕ)) → List (List ℕ)
trimmed ps = map (λ piece. trim_start piece.now) ps

labels_step : (n : ℕ) (ls : Labels) (ps : List (Bor (List ℕ))) (i : ℕ) (p : Bor (List ℕ)) (t : List ℕ) (r : Result (Unit {0}) Cause) → i < length ps →
    t ≡ trim_start (get_or ps i p).now
    → label_test ls t ≡ r → labels_after n ls (trimmed (drop i ps)) ≡ then_labels r (labels_after n (insert ls t n) (trimmed (drop (i + 1) ps)))
labels_step n ls ps i p t r lt e g =
    let a : drop i ps ≡ get_or ps i p ∷ drop (i + 1) ps = rw add-one (drop-cons ps i p lt) in
    rw (a, ← e, g) refl

pub label_goes_on : (n : ℕ) (ls : Labels) (ps : List (Bor (List ℕ))) (i : ℕ) (p : Bor (List ℕ)) (t : List ℕ) (fault : Option Cause) (u : Unit {0})
    (total : Result Labels Cause)
    → i < length ps → t ≡ trim_start (get_or ps i p).now → label_test ls t ≡ Ok u
    → noting fault (labels_after n ls (map (λ piece. trim_start piece.now) (drop i ps))) ≡ total
    → noting fault (labels_after n (insert ls t n) (map (λ piece. trim_start piece.now) (drop (i + 1) ps))) ≡ total
label_goes_on n ls ps i p t fault u total lt e g so_far =
    label_more fault u (labels_after n (insert ls t n) (trimmed (drop (i + 1) ps))) total
    (ap (λ (r : Result Labels Cause). noting fault r) (sym (labels_step n ls ps i p t (Ok u) lt e g)) ∙ so_far)

pub label_fault_goes_on : (n : ℕ) (ls : Labels) (ps : List (Bor (List ℕ))) (i : ℕ) (p : Bor (List ℕ)) (t : List ℕ) (fault : Option Cause) (c : Cause)
    (total : Result Labels Cause)
    → i < length ps → t ≡ trim_start (get_or ps i p).now → label_test ls t ≡ Err c
    → noting fault (labels_after n ls (map (λ piece. trim_start piece.now) (drop i ps))) ≡ total
    → noting (Some (or_less fault c)) (labels_after n (insert ls t n) (map (λ piece. trim_start piece.now) (drop (i + 1) ps))) ≡ total
label_fault_goes_on n ls ps i p t fault c total lt e g so_far =
    label_fault_more fault c (labels_after n (insert ls t n) (trimmed (drop (i + 1) ps))) total
    (ap (λ (r : Result Labels Cause). noting fault r) (sym (labels_step n ls ps i p t (Err c) lt e g)) ∙ so_far)

-- ---- lines

pub instruction_is : (ps : List (Bor (List ℕ))) (d : Bor (List ℕ)) → 0 < length ps → instruction_in (map (λ part. part.now) ps)
    ≡ trim_start (get_or ps (length ps - 1) d).now
instruction_is ps d some =
    let lt : length ps - 1 < length ps = omega arith in
    rw (length-map ps (λ (part : Bor (List ℕ)). part.now), get_or-map (λ (part : Bor (List ℕ)). part.now) ps (length ps - 1) d [] lt) refl

pub labels_are : (ps : List (Bor (List ℕ))) → labels_in (map (λ part. part.now) ps) ≡ map (λ piece. trim_start piece.now) (take (length ps - 1) ps)
labels_are ps = rw (length-map ps (λ (part : Bor (List ℕ)). part.now), take-map (λ (part : Bor (List ℕ)). part.now) (length ps - 1) ps)
    (map_map (take (length ps - 1) ps))
  where
    map_map : (qs : List (Bor (List ℕ))) → map trim_start (map (λ part. part.now) qs) ≡ map (λ piece. trim_start piece.now) qs
    map_map [] = refl
    map_map (q ∷ qs) = rw (map_map qs) refl

-- what a line has, by the pieces of its text
pub line_is : (line : ℕ) (source : ProgramSource) (text : List ℕ) (ps : List (Bor (List ℕ))) (d : Bor (List ℕ)) (s : Result (Option (Statement (List ℕ))) Cause)
    (ls : Result Labels Cause)
    → list_all is_text text ≡ true → map (λ part. part.now) ps ≡ pieces text → 0 < length ps
    → statement_of (trim_start (get_or ps (length ps - 1) d).now) ≡ s
    → labels_after (length source.statements) source.labels (map (λ piece. trim_start piece.now) (take (length ps - 1) ps)) ≡ ls
    → line_of line source text ≡ (both s ls >>= λ found. with_statement line source found.0 found.1)
unfolding line_of
line_is line source text ps d s ls good cut some e f = rw (good, ← cut, instruction_is ps d some, labels_are ps, e, f) refl
