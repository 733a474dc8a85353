-- No two instructions are spelled alike, so no two programs are.
use Rattle.std.proofs.Common.{◌≡◌, ℕ, zero, suc, ◌<◌, List, [], ◌∷◌, map, length, Option, Some, Result, Ok, refl, sym, ap, ap₂, ◌∙◌, arith}
use Rattle.std.specs.Prelude.{slice_get, slice_index_or}
use Rattle.std.proofs.lemmas.Option.{same_Some}
use Rattle.dp_model.specs.Arithmetic.{bytes_in}
use Rattle.dp_model.specs.declared.instr.Instr.{Instr}
use Rattle.dp_model.specs.declared.instr.Instr.TheVariants as instr
use Rattle.dp_model.specs.declared.registers.Operand.{Operand}
use Rattle.dp_model.specs.declared.registers.Operand.TheVariants as operand
use Rattle.dp_model.specs.declared.registers.Width.{Width}
use Rattle.dp_model.specs.declared.registers.Width.TheVariants.{One, Two, Four, Eight}
use Rattle.dp_lang.specs.declared.cause.Fault.{Fault}
use Rattle.dp_lang.specs.declared.form.Form.{Form}
use Rattle.dp_lang.specs.declared.form.Form.TheVariants as form
use Rattle.dp_lang.specs.declared.argument.Numbered.{Numbered}
use Rattle.dp_lang.specs.Arguments.{Argument, packet, register, constant, label}
use Rattle.dp_lang.specs.Fields.{width_of}
use Rattle.dp_lang.specs.Reading.{Reads}
use Rattle.dp_lang.specs.Forms.{spelled, either}
use Rattle.dp_lang.specs.Views.{numbered}

-- the register or constant of an operand
abbrev operand_in : Argument ℕ → Operand
operand_in (register r) = operand.Register r
operand_in (constant c) = operand.Constant c
operand_in _ = operand.Constant 0

-- the instruction of a form with these operands
abbrev instr_of : Form → List (Argument ℕ) → Instr
instr_of form.Alloc (packet p ∷ constant pool ∷ label l ∷ []) = instr.Alloc p pool l
instr_of form.Free (packet p ∷ []) = instr.Free p
instr_of form.Clone (packet p ∷ packet q ∷ constant pool ∷ label l ∷ []) = instr.Clone p q pool l
instr_of form.Prepend (packet p ∷ constant n ∷ []) = instr.Prepend p n
instr_of form.Adj (packet p ∷ constant n ∷ []) = instr.Adj p n
instr_of form.Append (packet p ∷ constant n ∷ []) = instr.Append p n
instr_of form.Trim (packet p ∷ constant n ∷ []) = instr.Trim p n
instr_of form.Chain (packet p ∷ packet q ∷ []) = instr.Chain p q
instr_of form.IfHead (packet p ∷ constant n ∷ label l ∷ []) = instr.IfHead p n l
instr_of form.IfTail (packet p ∷ constant n ∷ label l ∷ []) = instr.IfTail p n l
instr_of form.IfLen (packet p ∷ constant n ∷ label l ∷ []) = instr.IfLen p n l
instr_of form.IfLast (packet p ∷ constant n ∷ label l ∷ []) = instr.IfLast p n l
instr_of form.Load (register r ∷ packet p ∷ constant off ∷ constant w ∷ []) = instr.Load r p off (width_of w)
instr_of form.Store (packet p ∷ constant off ∷ constant w ∷ register r ∷ []) = instr.Store p off (width_of w) r
instr_of form.LoadX (register r ∷ packet p ∷ register s ∷ constant off ∷ constant w ∷ []) = instr.LoadX r p s off (width_of w)
instr_of form.StoreX (packet p ∷ register s ∷ constant off ∷ constant w ∷ register r ∷ []) = instr.StoreX p s off (width_of w) r
instr_of form.Set (register r ∷ constant c ∷ []) = instr.Set r c
instr_of form.Mov (register r ∷ register s ∷ []) = instr.Mov r s
instr_of form.Add (register r ∷ x ∷ []) = instr.Add r (operand_in x)
instr_of form.Sub (register r ∷ x ∷ []) = instr.Sub r (operand_in x)
instr_of form.And (register r ∷ x ∷ []) = instr.And r (operand_in x)
instr_of form.Or (register r ∷ x ∷ []) = instr.Or r (operand_in x)
instr_of form.Xor (register r ∷ x ∷ []) = instr.Xor r (operand_in x)
instr_of form.Shl (register r ∷ constant c ∷ []) = instr.Shl r c
instr_of form.Shr (register r ∷ constant c ∷ []) = instr.Shr r c
instr_of form.Jmp (label l ∷ []) = instr.Jmp l
instr_of form.Jeq (register r ∷ x ∷ label l ∷ []) = instr.Jeq r (operand_in x) l
instr_of form.Jlt (register r ∷ constant c ∷ label l ∷ []) = instr.Jlt r c l
instr_of form.Lookup (register r ∷ constant table ∷ register s ∷ label l ∷ []) = instr.Lookup r table s l
instr_of form.Tx (packet p ∷ register r ∷ label l ∷ []) = instr.Tx p r l
instr_of form.Enq (packet p ∷ constant ring ∷ label l ∷ []) = instr.Enq p ring l
instr_of _ _ = instr.Exit

operand_back : (x : Operand) → operand_in (either x) ≡ x
operand_back (operand.Register r) = refl
operand_back (operand.Constant c) = refl

width_back : (w : Width) → width_of (bytes_in w) ≡ w
width_back One = refl
width_back Two = refl
width_back Four = refl
width_back Eight = refl

instr_back : (i : Instr) → instr_of (spelled i).form (spelled i).arguments ≡ i
instr_back (instr.Load r p off w) = ap (instr.Load r p off) (width_back w)
instr_back (instr.Store p off w r) = ap (λ v. instr.Store p off v r) (width_back w)
instr_back (instr.LoadX r p s off w) = ap (instr.LoadX r p s off) (width_back w)
instr_back (instr.StoreX p s off w r) = ap (λ v. instr.StoreX p s off v r) (width_back w)
instr_back (instr.Add r x) = ap (instr.Add r) (operand_back x)
instr_back (instr.Sub r x) = ap (instr.Sub r) (operand_back x)
instr_back (instr.And r x) = ap (instr.And r) (operand_back x)
instr_back (instr.Or r x) = ap (instr.Or r) (operand_back x)
instr_back (instr.Xor r x) = ap (instr.Xor r) (operand_back x)
instr_back (instr.Jeq r x l) = ap (λ y. instr.Jeq r y l) (operand_back x)
instr_back _ = refl

-- form and operands determine the instruction
pub spelled_same : (i j : Instr) → (spelled i).form ≡ (spelled j).form → (spelled i).arguments ≡ (spelled j).arguments → i ≡ j
spelled_same i j f h = sym (instr_back i) ∙ (ap₂ instr_of f h ∙ instr_back j)

all_same : (is js : List Instr) → map spelled is ≡ map spelled js → is ≡ js
all_same [] [] h = refl
all_same [] (j ∷ js) h = absurd cc
all_same (i ∷ is) [] h = absurd cc
all_same (i ∷ is) (j ∷ js) h =
    let first : spelled i ≡ spelled j = cc in
    let others : map spelled is ≡ map spelled js = cc in
    rw (spelled_same i j (ap (λ s. s.form) first) (ap (λ s. s.arguments) first), all_same is js others) refl

same_ok : {A E : Type 0} (x y : A) → ◌≡◌ {A = Result A E} (Ok x) (Ok y) → x ≡ y
same_ok x y h = cc

pub one_program : (text : List ℕ) (p q : List Instr) → Reads text p → Reads text q → p ≡ q
one_program text p q h k = all_same p q (same_ok {E = Fault} (map spelled p) (map spelled q) (sym h ∙ k))

-- ---- operands one by one

-- the operand at a place
abbrev pub shown_at : List Numbered → ℕ → Option (Argument ℕ)
shown_at arguments k = slice_get (map numbered arguments) k

pub shown_read : (xs : List Numbered) (k : ℕ) (d : Numbered) → k < length xs → shown_at xs k ≡ Some (numbered (slice_index_or xs k d))
shown_read [] k d less = absurd (omega arith)
shown_read (x ∷ xs) zero d less = refl
shown_read (x ∷ xs) (suc k) d less = shown_read xs k d (omega (arith, less))

pub same_shown : (xs ys : List Numbered) → length xs ≡ length ys → ((k : ℕ) → k < length ys → shown_at xs k ≡ shown_at ys k) → map numbered xs ≡ map numbered ys
same_shown [] [] long each = refl
same_shown [] (y ∷ ys) long each = absurd (omega arith)
same_shown (x ∷ xs) [] long each = absurd (omega arith)
same_shown (x ∷ xs) (y ∷ ys) long each =
    let head = same_Some (numbered x) (numbered y) (each 0 (omega arith)) in
    let tail = same_shown xs ys (omega (arith, long)) (λ k less. each (suc k) (omega (arith, less))) in
    cc
