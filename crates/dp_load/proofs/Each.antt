-- One more table of an array, in a loop that reads them.
use Rattle.std.proofs.Common.{◌≡◌, ℕ, ◌+◌, ◌<◌, ◌≤◌, List, [], ◌∷◌, ◌++◌, length, get_or, drop, Option, Some, Result, Ok, Err, refl, sym, ap, ◌∙◌}
use Rattle.std.proofs.Common.{append_assoc, arith}
use Rattle.std.specs.Option.{option_and_then}
use Rattle.std.proofs.lemmas.List.{append-nil, drop_more, length-drop}
use Rattle.toml.specs.Data.{Members, as_table}
use Rattle.toml.specs.View.{view}
use Rattle.toml.specs.declared.value.Value.{Value}
use Rattle.dp_load.specs.declared.error.Part.{Part}
use Rattle.dp_load.specs.Setup.{Bad, and_then, each}
use Rattle.dp_load.specs.Views.{values}

-- what was read so far, before what is still to be read
abbrev pub prepend : {A E : Type 0} → List A → Result (List A) E → Result (List A) E
prepend front (Ok xs) = Ok (front ++ xs)
prepend front (Err e) = Err e

regroup : {A E : Type 0} (front : List A) (x : A) (read : Result (List A) E) → prepend front (and_then read (λ xs. Ok (x ∷ xs)))
    ≡ prepend (front ++ x ∷ []) read
regroup {A = A} front x (Ok xs) = ap (λ (ys : List A). Ok ys) (sym (append_assoc front (x ∷ []) xs))
regroup front x (Err e) = refl

pub goes_on : {A : Type 0} (kind : Part) (read : Members → Option A) (vs : List Value) (i : ℕ) (v : Value) (front : List A) (x : A)
    (total : Result (List A) Bad)
    → i < length vs → get_or vs i v ≡ v → option_and_then read (as_table (view v)) ≡ Some x
    → prepend front (each kind read i (values (drop i vs))) ≡ total → prepend (front ++ x ∷ []) (each kind read (i + 1) (values (drop (i + 1) vs))) ≡ total
goes_on kind read vs i v front x total lt here e so_far =
    let one : prepend front (each kind read i (values (drop i vs))) ≡ prepend (front ++ x ∷ []) (each kind read (i + 1) (values (drop (i + 1) vs))) =
    rw (drop_more vs i v lt, here, e) (regroup front x (each kind read (i + 1) (values (drop (i + 1) vs)))) in
    sym one ∙ so_far

all_over : {A : Type 0} (kind : Part) (read : Members → Option A) (vs : List Value) (i : ℕ) (front : List A) → length vs ≡ 0 →
    prepend front (each kind read i (values vs)) ≡ Ok front
all_over {A = A} kind read [] i front none = ap (λ (ys : List A). Ok ys) (append-nil front)
all_over kind read (v ∷ vs) i front none = absurd (omega arith)

pub ends : {A : Type 0} (kind : Part) (read : Members → Option A) (vs : List Value) (i : ℕ) (front : List A) (total : Result (List A) Bad)
    → length vs ≤ i → prepend front (each kind read i (values (drop i vs))) ≡ total → total ≡ Ok front
ends kind read vs i front total over so_far = sym so_far ∙ all_over kind read (drop i vs) i front (omega (arith, length-drop i vs))
