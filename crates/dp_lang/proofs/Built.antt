-- The instruction built from a statement's operands spells them.
use Rattle.std.proofs.Common.{◌≡◌, ℕ, ◌<◌, ◌≤◌, Bool, true, false, List, [], ◌∷◌, map, Option, Some, None, refl, arith, inl, inr}
use Rattle.std.specs.Prelude.{◌&&◌, nat_le, option_map, slice_index_or}
use Rattle.std.proofs.lemmas.Bool.{leb-true, lt-ltb, le-ltb, cases_lt}
use Rattle.std.proofs.lemmas.Bool.Decides.{nat_tests}
use Rattle.dp_model.specs.Arithmetic.{bytes_in}
use Rattle.dp_lang.specs.Arguments.{Argument, packet, register, constant, label}
use Rattle.dp_lang.specs.Fields.{less, packet_in, register_in, number_in, width_of, width_in, operand_in, none, label_in, fitted, fielded, all_fielded}
use Rattle.dp_lang.specs.Fields.{fielded_statement}
use Rattle.dp_lang.specs.declared.argument.Named.{Named}
use Rattle.dp_lang.specs.declared.argument.Named.TheVariants.{Packet, Register, Constant, Name}
use Rattle.dp_lang.specs.declared.form.OperandKind.{OperandKind}
use Rattle.dp_lang.specs.declared.form.OperandKind.TheVariants as kinds
use Rattle.dp_lang.specs.declared.form.Form.{Form}
use Rattle.dp_lang.specs.declared.form.Form.TheVariants as forms
use Rattle.dp_lang.specs.Forms.{kinds_of, either}
use Rattle.dp_lang.specs.Kinds.{is_of, is_width, all_of}
use Rattle.dp_lang.specs.Reading.{as_label, onto_resolved, all_resolved}
use Rattle.dp_lang.specs.Views.{argument}
use Rattle.dp_lang.proofs.Bytes.{and_left, and_right}

-- an operand whose label has this number
abbrev pub numbered : ℕ → Named → Argument ℕ
numbered l (Packet p) = packet p
numbered l (Register r) = register r
numbered l (Constant n) = constant n
numbered l (Name name) = label l

-- ---- an operand of its kind is the field that is read from it

less_same : (limit n : ℕ) → n < limit → less limit n ≡ n
less_same limit n h = rw (lt-ltb n limit h) refl

packet_back : (l : ℕ) (a : Named) → is_of kinds.Packet (argument a) ≡ true → packet (packet_in a) ≡ numbered l a
packet_back l (Packet p) h = rw (less_same 8 p (let small : p ≤ 7 = leb-true p 7 h in omega arith)) refl
packet_back l _ h = absurd cc

register_back : (l : ℕ) (a : Named) → is_of kinds.Register (argument a) ≡ true → register (register_in a) ≡ numbered l a
register_back l (Register r) h = rw (less_same 8 r (let small : r ≤ 7 = leb-true r 7 h in omega arith)) refl
register_back l _ h = absurd cc

fitted_same : (most n : ℕ) → n ≤ most → fitted most n ≡ n
fitted_same most n h = elim (cases_lt most 256) [
  | inl low ↦ rw (lt-ltb most 256 low, less_same 256 n (omega arith)) refl
  | inr above ↦ elim (cases_lt most 65536) [
    | inl low ↦ rw (le-ltb _ _ above, lt-ltb most 65536 low, less_same 65536 n (omega arith)) refl
    | inr high ↦ rw (le-ltb _ _ above, le-ltb _ _ high) refl
  ]
]

number_back : (least most l : ℕ) (a : Named) → is_of (kinds.Number least most) (argument a) ≡ true → constant (fitted most (number_in a)) ≡ numbered l a
number_back least most l (Constant n) h =
    rw (fitted_same most n (leb-true n most (and_right (nat_le least n) (nat_le n most) h))) refl
number_back least most l _ h = absurd cc

width_read : (n : ℕ) → is_width n ≡ true → bytes_in (width_of n) ≡ n
width_read n h = grind (arith, nat_tests)

width_back : (l : ℕ) (a : Named) → is_of kinds.Width (argument a) ≡ true → constant (bytes_in (width_in a)) ≡ numbered l a
width_back l (Constant n) h = rw (width_read n h) refl
width_back l _ h = absurd cc

operand_back : (l : ℕ) (a : Named) → is_of kinds.RegisterOrConstant (argument a) ≡ true → either (operand_in a) ≡ numbered l a
operand_back l (Register r) h = rw (less_same 8 r (let small : r ≤ 7 = leb-true r 7 h in omega arith)) refl
operand_back l (Constant n) h = refl
operand_back l _ h = absurd cc

label_back : (l : ℕ) (a : Named) → is_of kinds.Label (argument a) ≡ true → label l ≡ numbered l a
label_back l (Name name) h = refl
label_back l _ h = absurd cc

-- ---- the label comes last

abbrev is_plain : OperandKind → Bool
is_plain kinds.Label = false
is_plain k = true

abbrev label_last : List OperandKind → Bool
label_last [] = true
label_last (k ∷ []) = true
label_last (k ∷ j ∷ ks) = is_plain k && label_last (j ∷ ks)

pub kinds_end : (f : Form) → label_last (kinds_of f) ≡ true
kinds_end forms.Alloc = refl
kinds_end _ = refl

by_label : (o : Option ℕ) → onto_resolved (as_label o) (Some []) ≡ option_map (λ l. label l ∷ []) o
by_label None = refl
by_label (Some l) = refl

onto_each : (x : Argument ℕ) (f : ℕ → List (Argument ℕ)) (o : Option ℕ) → onto_resolved (Some x) (option_map f o) ≡ option_map (λ l. x ∷ f l) o
onto_each x f None = refl
onto_each x f (Some l) = refl

no_label : (k : OperandKind) (name : List ℕ) → is_plain k ≡ true → is_of k (label name) ≡ false
no_label kinds.Label name h = absurd cc
no_label _ name h = refl

pub labels_resolved : (target : List ℕ → Option ℕ) (ks : List OperandKind) (as' : List Named) → all_of ks (map argument as') ≡ true → label_last ks ≡ true
    → all_resolved target (map argument as') ≡ option_map (λ l. map (numbered l) as') (label_in target as')
labels_resolved target [] [] h e = refl
labels_resolved target [] (a ∷ as') h e = absurd cc
labels_resolved target (k ∷ ks) [] h e = absurd cc
labels_resolved target (k ∷ []) (a ∷ b ∷ as') h e =
    let none : all_of [] (map argument (b ∷ as')) ≡ true = and_right (is_of k (argument a)) (all_of [] (map argument (b ∷ as'))) h in
    absurd cc
labels_resolved target (k ∷ []) (Packet p ∷ []) h e = refl
labels_resolved target (k ∷ []) (Register r ∷ []) h e = refl
labels_resolved target (k ∷ []) (Constant n ∷ []) h e = refl
labels_resolved target (k ∷ []) (Name name ∷ []) h e = by_label (target name.now)
labels_resolved target (k ∷ j ∷ ks) (Packet p ∷ as') h e =
    rw (labels_resolved target (j ∷ ks) as' (and_right (is_of k (argument (Packet p))) (all_of (j ∷ ks) (map argument as')) h)
    (and_right (is_plain k) (label_last (j ∷ ks)) e))
    (onto_each (packet p) (λ l. map (numbered l) as') (label_in target as'))
labels_resolved target (k ∷ j ∷ ks) (Register r ∷ as') h e =
    rw (labels_resolved target (j ∷ ks) as' (and_right (is_of k (argument (Register r))) (all_of (j ∷ ks) (map argument as')) h)
    (and_right (is_plain k) (label_last (j ∷ ks)) e))
    (onto_each (register r) (λ l. map (numbered l) as') (label_in target as'))
labels_resolved target (k ∷ j ∷ ks) (Constant n ∷ as') h e =
    rw (labels_resolved target (j ∷ ks) as' (and_right (is_of k (argument (Constant n))) (all_of (j ∷ ks) (map argument as')) h)
    (and_right (is_plain k) (label_last (j ∷ ks)) e))
    (onto_each (constant n) (λ l. map (numbered l) as') (label_in target as'))
labels_resolved target (k ∷ j ∷ ks) (Name name ∷ as') h e =
    let not : is_of k (argument (Name name)) ≡ false = no_label k name.now (and_left (is_plain k) (label_last (j ∷ ks)) e) in
    let is : is_of k (argument (Name name)) ≡ true = and_left (is_of k (argument (Name name))) (all_of (j ∷ ks) (map argument as')) h in
    absurd cc

-- ---- all operands of a form

abbrev at : List Named → ℕ → Named
at as' n = slice_index_or as' n none

operand_back_of : (l : ℕ) (k : OperandKind) (a : Named) → is_of k (argument a) ≡ true → fielded l k a ≡ numbered l a
operand_back_of l kinds.Packet a h = packet_back l a h
operand_back_of l kinds.Register a h = register_back l a h
operand_back_of l (kinds.Number least most) a h = number_back least most l a h
operand_back_of l kinds.Width a h = width_back l a h
operand_back_of l kinds.RegisterOrConstant a h = operand_back l a h
operand_back_of l kinds.Label a h = label_back l a h

all_back : (l : ℕ) (ks : List OperandKind) (as' : List Named) → all_of ks (map argument as') ≡ true → all_fielded l ks (at as') ≡ map (numbered l) as'
all_back l [] [] h = refl
all_back l [] (a ∷ as') h = absurd cc
all_back l (k ∷ ks) [] h = absurd cc
all_back l (k ∷ ks) (a ∷ as') h =
    rw (
      operand_back_of l k a (and_left (is_of k (argument a)) (all_of ks (map argument as')) h),
      all_back l ks as' (and_right (is_of k (argument a)) (all_of ks (map argument as')) h),
    ) refl

-- where the operands are of the form's kinds, the instruction spells them
pub spells : (form : Form) (l : ℕ) (as' : List Named) → all_of (kinds_of form) (map argument as') ≡ true
    → fielded_statement form as' l ≡ record { form = form; arguments = map (numbered l) as' }
spells form l as' h = rw (all_back l (kinds_of form) as' h) refl
