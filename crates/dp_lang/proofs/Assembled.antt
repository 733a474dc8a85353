-- Resolved statements are a program.
use Rattle.std.proofs.Common.{◌≡◌, ℕ, suc, ◌≤◌, Bool, true, false, cond, List, [], ◌∷◌, length, map, Option, Some, None, Result, Ok, Err, refl, sym, ap}
use Rattle.std.proofs.Common.{subst, ◌∙◌, arith}
use Rattle.std.specs.Prelude.{IfSome, IfOk, ◌&&◌, nat_lt}
use Rattle.std.specs.List.{list_all}
use Rattle.std.specs.FinMap.{get}
use Rattle.std.proofs.lemmas.List.{length-map}
use Rattle.std.proofs.lemmas.Bool.{and_from}
use Rattle.dp_model.specs.declared.instr.Instr.{Instr}
use Rattle.dp_lang.specs.declared.cause.Fault.{Fault}
use Rattle.dp_lang.specs.declared.form.Form.{Form}
use Rattle.dp_lang.specs.declared.form.OperandKind.{OperandKind}
use Rattle.dp_lang.specs.declared.form.OperandKind.TheVariants as kinds
use Rattle.dp_lang.specs.declared.source.ProgramSource as sources
use Rattle.dp_lang.specs.declared.statement.Statement as statements
use Rattle.dp_lang.specs.Arguments.{Argument, packet, register, constant, label}
use Rattle.dp_lang.specs.Forms.{kinds_of, Statement, spelled}
use Rattle.dp_lang.specs.Kinds.{is_of, all_of}
use Rattle.dp_lang.specs.Programs.{IsProgram, is_in_range, leads_below}
use Rattle.dp_lang.specs.Reading.{below, target_in, as_label, resolved, onto_resolved, all_resolved, statement_with, all_statements, ◌>>=◌}
use Rattle.dp_lang.specs.Sources as view
use Rattle.dp_lang.specs.Views.{argument}
use Rattle.dp_lang.proofs.Bytes.{and_left, and_right}
use Rattle.dp_lang.proofs.InstrLabels.{is_below, operands_below}

abbrev fits : Statement ℕ → Bool
fits s = all_of (kinds_of s.form) s.arguments

abbrev is_placed : ℕ → Statement ℕ → Bool
is_placed count s = list_all (is_below count) s.arguments

-- ---- one operand

same_packet : (k : OperandKind) (p : ℕ) → is_of {L = List ℕ} k (packet p) ≡ is_of {L = ℕ} k (packet p)
same_packet kinds.Packet p = refl
same_packet _ p = refl

same_register : (k : OperandKind) (p : ℕ) → is_of {L = List ℕ} k (register p) ≡ is_of {L = ℕ} k (register p)
same_register kinds.Packet p = refl
same_register _ p = refl

same_constant : (k : OperandKind) (p : ℕ) → is_of {L = List ℕ} k (constant p) ≡ is_of {L = ℕ} k (constant p)
same_constant kinds.Packet p = refl
same_constant _ p = refl

same_label : (k : OperandKind) (name : List ℕ) (l : ℕ) → is_of {L = List ℕ} k (label name) ≡ is_of {L = ℕ} k (label l)
same_label kinds.Packet name l = refl
same_label _ name l = refl

abbrev Bound : (List ℕ → Option ℕ) → ℕ → Type 0
Bound target count = (name : List ℕ) (l : ℕ) → target name ≡ Some l → nat_lt l count ≡ true

abbrev Good : ℕ → OperandKind → Argument ℕ → Type 0
Good count k a = (is_of k a ≡ true) × (is_below count a ≡ true)

label_good : (count : ℕ) (k : OperandKind) (name : List ℕ) (o : Option ℕ) → ((l : ℕ) → o ≡ Some l → nat_lt l count ≡ true) → is_of k (label name) ≡ true →
    IfSome (as_label o) (Good count k)
label_good count k name None bound h = tt
label_good count k name (Some l) bound h = (sym (same_label k name l) ∙ h, bound l refl)

argument_good : (target : List ℕ → Option ℕ) (count : ℕ) → Bound target count → (k : OperandKind) (a : Argument (List ℕ)) → is_of k a ≡ true →
    IfSome (resolved target a) (Good count k)
argument_good target count bound k (packet p) h = (sym (same_packet k p) ∙ h, refl)
argument_good target count bound k (register r) h = (sym (same_register k r) ∙ h, refl)
argument_good target count bound k (constant n) h = (sym (same_constant k n) ∙ h, refl)
argument_good target count bound k (label name) h = label_good count k name (target name) (bound name) h

-- ---- the operands of a statement

abbrev AllGood : ℕ → List OperandKind → List (Argument ℕ) → Type 0
AllGood count ks as' = (all_of ks as' ≡ true) × (list_all (is_below count) as' ≡ true)

onto_good : (count : ℕ) (k : OperandKind) (ks : List OperandKind) (a : Option (Argument ℕ)) (as' : Option (List (Argument ℕ))) → IfSome a (Good count k) →
    IfSome as' (AllGood count ks) → IfSome (onto_resolved a as') (AllGood count (k ∷ ks))
onto_good count k ks (Some a) (Some as') h t = (
  and_from (is_of k a) (all_of ks as') h.0 t.0,
  and_from (is_below count a) (list_all (is_below count) as') h.1 t.1,
)
onto_good count k ks (Some a) None h t = tt
onto_good count k ks None as' h t = tt

arguments_good : (target : List ℕ → Option ℕ) (count : ℕ) → Bound target count → (ks : List OperandKind) (as' : List (Argument (List ℕ))) → all_of ks as' ≡
    true →
    IfSome (all_resolved target as') (AllGood count ks)
arguments_good target count bound [] [] h = (refl, refl)
arguments_good target count bound [] (a ∷ as') h = absurd cc
arguments_good target count bound (k ∷ ks) [] h = absurd cc
arguments_good target count bound (k ∷ ks) (a ∷ as') h =
    onto_good count k ks (resolved target a) (all_resolved target as') (argument_good target count bound k a (and_left (is_of k a) (all_of ks as') h))
    (arguments_good target count bound ks as' (and_right (is_of k a) (all_of ks as') h))

-- ---- statements

pub record AreGood (count : ℕ) (n : ℕ) (ss : List (Statement ℕ)) : Type 0 where
  pub fit : list_all fits ss ≡ true
  pub placed : list_all (is_placed count) ss ≡ true
  pub as_many : length ss ≡ n

statement_good : (count : ℕ) (line : ℕ) (form : Form) (as' : Option (List (Argument ℕ))) (n : ℕ) (rest : Result (List (Statement ℕ)) Fault) →
    IfSome as' (AllGood count (kinds_of form)) → IfOk rest (AreGood count n)
    → IfOk (statement_with line form as' >>= λ first. rest >>= λ others. Ok (first ∷ others)) (AreGood count (suc n))
statement_good count line form None n rest h t = tt
statement_good count line form (Some as') n (Err e) h t = tt
statement_good count line form (Some as') n (Ok ss) h t = record {
  fit = and_from (all_of (kinds_of form) as') (list_all fits ss) h.0 t.fit;
  placed = and_from (list_all (is_below count) as') (list_all (is_placed count) ss) h.1 t.placed;
  as_many = ap suc t.as_many;
}

statements_good : (target : List ℕ → Option ℕ) (count : ℕ) → Bound target count → (ss : List statements.Statement) →
    IfOk (all_statements target (map view.with_line ss)) (AreGood count (length ss))
statements_good target count bound [] = record { fit = refl; placed = refl; as_many = refl }
statements_good target count bound (s ∷ ss) =
    statement_good count s.line s.form (all_resolved target (map argument s.arguments.items)) (length ss) (all_statements target (map view.with_line ss))
    (arguments_good target count bound (kinds_of s.form) (map argument s.arguments.items) s.fits) (statements_good target count bound ss)

-- ---- instructions

below_bound : (b : Bool) (m l n : ℕ) → nat_lt m n ≡ b → cond b (Some m) None ≡ Some l → nat_lt l n ≡ true
below_bound true m l n e h = let same : m ≡ l = cc in subst (λ x. nat_lt x n ≡ true) same e
below_bound false m l n e h = absurd cc

target_bound : (n : ℕ) (o : Option ℕ) (l : ℕ) → below n o ≡ Some l → nat_lt l n ≡ true
target_bound n None l h = absurd cc
target_bound n (Some m) l h = below_bound (nat_lt m n) m l n refl h

all_lead : (count : ℕ) (is : List Instr) → list_all (is_placed count) (map spelled is) ≡ true → list_all (leads_below count) is ≡ true
all_lead count [] h = refl
all_lead count (i ∷ is) h = and_from (leads_below count i) (list_all (leads_below count) is)
    (sym (operands_below count i) ∙ and_left (is_placed count (spelled i)) (list_all (is_placed count) (map spelled is)) h)
    (all_lead count is (and_right (is_placed count (spelled i)) (list_all (is_placed count) (map spelled is)) h))

all_in_range : (is : List Instr) → list_all fits (map spelled is) ≡ list_all is_in_range is
all_in_range [] = refl
all_in_range (i ∷ is) = ap (λ b. is_in_range i && b) (all_in_range is)

pub is_program : (s : sources.ProgramSource) (is : List Instr) → all_statements (target_in (view.source s)) (map view.with_line s.statements.items)
    ≡ Ok (map spelled is) → 1 ≤ length is → IsProgram is
is_program s is read some =
    let n = length (map view.with_line s.statements.items) in
    let good : AreGood n (length s.statements.items) (map spelled is) =
    subst (λ (r : Result (List (Statement ℕ)) Fault). IfOk r (AreGood n (length s.statements.items))) read
    (statements_good (target_in (view.source s)) n (λ name l. target_bound n (get s.labels name) l) s.statements.items) in
    let as_many : length is ≡ n = sym (length-map is spelled) ∙ good.as_many ∙ sym (length-map s.statements.items view.with_line) in
    record {
      some = some;
      few = omega (arith, as_many, length-map s.statements.items view.with_line, s.few);
      in_range = sym (all_in_range is) ∙ good.fit;
      labels = subst (λ m. list_all (leads_below m) is ≡ true) (sym as_many) (all_lead n is good.placed);
    }
