-- The names of printed labels resolve to their numbers.
use Rattle.std.proofs.Common.{◌≡◌, ℕ, true, false, List, [], ◌∷◌, map, Option, Some, None, Ok, refl, sym, ap, subst, ◌∙◌, eq-eqb}
use Rattle.std.specs.Prelude.{◌==◌, nat_lt}
use Rattle.std.specs.List.{list_all, list_any}
use Rattle.std.specs.Option.{option_map_or}
use Rattle.std.proofs.lemmas.Bool.{or_left, or_right}
use Rattle.dp_model.specs.declared.instr.Instr.{Instr}
use Rattle.dp_model.specs.Needs.{label_of}
use Rattle.dp_lang.specs.Arguments.{Argument, packet, register, constant, label}
use Rattle.dp_lang.specs.Programs.{leads_below}
use Rattle.dp_lang.specs.Printing.{names, is_named, label_name}
use Rattle.dp_lang.specs.Reading.{all_resolved, all_statements}
use Rattle.dp_lang.specs.Forms.{Statement, spelled}
use Rattle.dp_lang.proofs.Bytes.{and_left, and_right}
use Rattle.dp_lang.proofs.InstrLabels.{labels, if_any, own_label}
use Rattle.dp_lang.proofs.Operands.{named}

-- an instruction with the printed names of its labels
abbrev pub with_names : Instr → Statement (List ℕ)
with_names i = record { form = (spelled i).form; arguments = map named (spelled i).arguments }

-- the label of an instruction is found
abbrev pub Finds : (List ℕ → Option ℕ) → Instr → Type 0
Finds target i = (l : ℕ) → label_of i ≡ Some l → target (label_name l) ≡ Some l

-- each of these labels is found
abbrev AreFound : (List ℕ → Option ℕ) → List ℕ → Type 0
AreFound target [] = Unit {0}
AreFound target (l ∷ ls) = target (label_name l) ≡ Some l × AreFound target ls

operands_resolve : (target : List ℕ → Option ℕ) (as' : List (Argument ℕ)) → AreFound target (labels as') → all_resolved target (map named as') ≡ Some as'
operands_resolve target [] h = refl
operands_resolve target (packet p ∷ as') h = rw (operands_resolve target as' h) refl
operands_resolve target (register r ∷ as') h = rw (operands_resolve target as' h) refl
operands_resolve target (constant n ∷ as') h = rw (operands_resolve target as' h) refl
operands_resolve target (label l ∷ as') h = rw (h.0, operands_resolve target as' h.1) refl

one_found : (target : List ℕ → Option ℕ) (o : Option ℕ) → ((l : ℕ) → o ≡ Some l → target (label_name l) ≡ Some l) → AreFound target (if_any o)
one_found target None h = tt
one_found target (Some l) h = (h l refl, tt)

resolves : (target : List ℕ → Option ℕ) (i : Instr) → Finds target i → all_resolved target (map named (spelled i).arguments) ≡ Some (spelled i).arguments
resolves target i h =
    operands_resolve target (spelled i).arguments (subst (AreFound target) (sym (own_label i)) (one_found target (label_of i) h))

-- ---- all instructions

abbrev pub AllFind : (List ℕ → Option ℕ) → List Instr → Type 0
AllFind target [] = Unit {0}
AllFind target (i ∷ is) = Finds target i × AllFind target is

pub statements_resolve : (target : List ℕ → Option ℕ) (ss : List (ℕ × Statement (List ℕ))) (is : List Instr) → map (λ s. s.1) ss ≡ map with_names is →
    AllFind target is → all_statements target ss ≡ Ok (map spelled is)
statements_resolve target [] [] e h = refl
statements_resolve target [] (i ∷ is) e h = absurd cc
statements_resolve target (s ∷ ss) [] e h = absurd cc
statements_resolve target (s ∷ ss) (i ∷ is) e h =
    let first : s.1 ≡ with_names i = cc in
    let others : map (λ s. s.1) ss ≡ map with_names is = cc in
    rw (first, resolves target i h.0, statements_resolve target ss is others h.1) refl

-- each label that some instruction names is found
pub all_find : (target : List ℕ → Option ℕ) (program : List Instr) (count : ℕ) →
    ((l : ℕ) → is_named program l ≡ true → nat_lt l count ≡ true → target (label_name l) ≡ Some l)
    → (is : List Instr) → ((l : ℕ) → list_any (names l) is ≡ true → is_named program l ≡ true) → list_all (leads_below count) is ≡ true → AllFind target is
all_find target program count found [] within b = tt
all_find target program count found (i ∷ is) within b = (
  (λ l e. found l
      (within l (or_left (names l i) (list_any (names l) is) (ap (λ o. option_map_or (λ k. k == l) o false) e ∙ eq-eqb l l refl)))
      (sym (ap (λ o. option_map_or (λ to. nat_lt to count) o true) e) ∙ and_left (leads_below count i) (list_all (leads_below count) is) b)),
  all_find target program count found is (λ l h. within l (or_right (names l i) (list_any (names l) is) h))
      (and_right (leads_below count i) (list_all (leads_below count) is) b),
)
