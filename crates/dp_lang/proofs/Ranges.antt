-- The operands of a program's instructions are within 64 bits.
use Rattle.std.proofs.Common.{◌≡◌, ℕ, ◌≤◌, Bool, true, List, [], ◌∷◌, refl, ◌∙◌, arith}
use Rattle.std.specs.Prelude.{nat_le, nat_lt}
use Rattle.std.specs.List.{list_all}
use Rattle.std.proofs.lemmas.Bool.{leb-true, le-leb, ltb-true, and_from}
use Rattle.std.proofs.lemmas.Bool.Decides.{nat_tests}
use Rattle.dp_model.specs.declared.instr.Instr.{Instr}
use Rattle.dp_lang.specs.declared.form.Form.{Form}
use Rattle.dp_lang.specs.declared.form.Form.TheVariants.{Alloc}
use Rattle.dp_lang.specs.declared.form.OperandKind.{OperandKind}
use Rattle.dp_lang.specs.declared.form.OperandKind.TheVariants as kinds
use Rattle.dp_lang.specs.Arguments.{Argument, packet, register, constant, label}
use Rattle.dp_lang.specs.Forms.{kinds_of, spelled}
use Rattle.dp_lang.specs.Kinds.{is_of, all_of, is_width}
use Rattle.dp_lang.specs.Programs.{is_in_range, leads_below}
use Rattle.dp_lang.proofs.Bytes.{and_left, and_right}
use Rattle.dp_lang.proofs.InstrLabels.{is_below, operands_below}
use Rattle.dp_lang.proofs.Operands.{is_small}

is_short : OperandKind → Bool
is_short (kinds.Number least most) = nat_le most 18446744073709551615
is_short _ = true

kinds_short : (f : Form) → list_all is_short (kinds_of f) ≡ true
unfolding is_short
kinds_short Alloc = refl
kinds_short _ = refl

up_to : (n most limit : ℕ) → nat_le n most ≡ true → nat_le most limit ≡ true → nat_le n limit ≡ true
up_to n most limit h k = le-leb n limit (omega (arith, leb-true n most h, leb-true most limit k))

width_short : (n : ℕ) → is_width n ≡ true → nat_le n 18446744073709551615 ≡ true
width_short n h = grind (arith, nat_tests)

label_short : (l count : ℕ) → count ≤ 1024 → nat_lt l count ≡ true → nat_le l 18446744073709551615 ≡ true
label_short l count few h = le-leb l 18446744073709551615 (omega (arith, ltb-true l count h))

argument_small : (count : ℕ) → count ≤ 1024 → (k : OperandKind) (a : Argument ℕ) → is_of k a ≡ true → is_short k ≡ true → is_below count a ≡ true → is_small a
    ≡ true
unfolding is_short
argument_small count few kinds.Packet (packet p) h s b = h
argument_small count few kinds.Register (register r) h s b = h
argument_small count few kinds.RegisterOrConstant (register r) h s b = h
argument_small count few (kinds.Number least most) (constant n) h s b = up_to n most 18446744073709551615 (and_right (nat_le least n) (nat_le n most) h) s
argument_small count few kinds.Width (constant n) h s b = width_short n h
argument_small count few kinds.RegisterOrConstant (constant n) h s b = and_right (nat_le 0 n) (nat_le n 18446744073709551615) h
argument_small count few kinds.Label (label l) h s b = label_short l count few b
argument_small count few _ _ h s b = absurd cc

all_small : (count : ℕ) → count ≤ 1024 → (ks : List OperandKind) (as' : List (Argument ℕ)) → all_of ks as' ≡ true → list_all is_short ks ≡ true →
    list_all (is_below count) as' ≡ true → list_all is_small as' ≡ true
all_small count few [] [] h s b = refl
all_small count few [] (a ∷ as') h s b = absurd cc
all_small count few (k ∷ ks) [] h s b = absurd cc
all_small count few (k ∷ ks) (a ∷ as') h s b =
    and_from (is_small a) (list_all is_small as')
    (argument_small count few k a (and_left (is_of k a) (all_of ks as') h) (and_left (is_short k) (list_all is_short ks) s)
    (and_left (is_below count a) (list_all (is_below count) as') b))
    (all_small count few ks as' (and_right (is_of k a) (all_of ks as') h) (and_right (is_short k) (list_all is_short ks) s)
    (and_right (is_below count a) (list_all (is_below count) as') b))

pub operands_small : (count : ℕ) → count ≤ 1024 → (i : Instr) → is_in_range i ≡ true → leads_below count i ≡ true → list_all is_small (spelled i).arguments
    ≡ true
operands_small count few i h b = all_small count few (kinds_of (spelled i).form) (spelled i).arguments h (kinds_short (spelled i).form)
    (operands_below count i ∙ b)
