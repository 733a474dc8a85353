-- Operands one after another, each after a separator.
use Rattle.std.proofs.Common.{◌≡◌, ℕ, List, [], ◌∷◌, ◌++◌, map, refl, ap, sym, append-nil}
use Rattle.std.specs.List.{join_with_byte}
use Rattle.dp_lang.specs.Arguments.{Argument}
use Rattle.dp_lang.specs.Printing.{argument_text, arguments_text}

-- the first after this separator, the others after a comma
abbrev pub beyond : List ℕ → List (Argument ℕ) → List ℕ
beyond before [] = []
beyond before (a ∷ as') = before ++ (argument_text a ++ beyond (44 ∷ []) as')

pub joined : (a : Argument ℕ) (as' : List (Argument ℕ)) → join_with_byte 44 (map argument_text (a ∷ as')) ≡ argument_text a ++ beyond (44 ∷ []) as'
joined a [] = sym (append-nil (argument_text a))
joined a (b ∷ bs) = ap (λ t. argument_text a ++ (44 ∷ t)) (joined b bs)

pub arguments_text-beyond : (as' : List (Argument ℕ)) → arguments_text as' ≡ beyond (32 ∷ []) as'
arguments_text-beyond [] = refl
arguments_text-beyond (a ∷ as') = ap (λ t. 32 ∷ t) (joined a as')
