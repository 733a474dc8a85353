-- Which labels are named, as far as a program is printed.
use Rattle.std.proofs.Common.{◌≡◌, ℕ, suc, ◌+◌, ◌<◌, Bool, false, cond, List, [], ◌∷◌, ◌++◌, length, get_or, take, drop, add-one, append_assoc, sym, ap, ◌∙◌}
use Rattle.std.proofs.Math.Seq.{drop-cons}
use Rattle.dp_model.specs.declared.instr.Instr.{Instr}
use Rattle.dp_lang.specs.Forms.{spelled}
use Rattle.dp_lang.specs.Printing.{is_named, label_name, line, label_line, statement_text, printed_from}

-- the labels that the first i instructions name
pub record AreNamed (program : List Instr) (i : ℕ) (named : List Bool) : Type 0 where
  pub as_many : length named ≡ length program
  pub so_far : (n : ℕ) → n < length program → get_or named n false ≡ is_named (take i program) n

-- one instruction more is printed
pub printed_step : (program instrs : List Instr) (i : ℕ) (x : Instr) (out mid out' total : List ℕ) (b : Bool) → i < length instrs → x ≡ get_or instrs i x →
    b ≡ is_named program i
    → mid ≡ out ++ cond b (line (label_name i ++ 58 ∷ [])) [] → out' ≡ mid ++ line (statement_text (spelled x))
    → out ++ printed_from program i (drop i instrs) ≡ total → out' ++ printed_from program (i + 1) (drop (i + 1) instrs) ≡ total
printed_step program instrs i x out mid out' total b lt at is_b is_mid is_out so_far =
    let label = label_line program i in
    let text = line (statement_text (spelled x)) in
    let rest = printed_from program (i + 1) (drop (i + 1) instrs) in
    let cut : drop i instrs ≡ x ∷ drop (i + 1) instrs = rw add-one (drop-cons instrs i x lt ∙ ap (λ y. y ∷ drop (suc i) instrs) (sym at)) in
    let whole : out' ≡ (out ++ label) ++ text = is_out ∙ ap (λ m. m ++ text) (is_mid ∙ ap (λ c. out ++ cond c (line (label_name i ++ 58 ∷ [])) []) is_b) in
    ap (λ t. t ++ rest) whole ∙ append_assoc (out ++ label) text rest ∙ append_assoc out label (text ++ rest)
    ∙ ap (λ is. out ++ printed_from program i is) (sym cut) ∙ so_far
