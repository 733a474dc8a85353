-- A printed instruction reads as that instruction.
use Rattle.std.proofs.Common.{◌≡◌, ℕ, suc, ◌<◌, Bool, true, false, not, List, [], ◌∷◌, ◌++◌, length, map, Some, Ok, refl, sym, ap, ◌∙◌, eq-eqb, append-nil}
use Rattle.std.proofs.Common.{length-append, arith}
use Rattle.std.specs.Prelude.{◌&&◌}
use Rattle.std.specs.List.{list_all, slice_split, after_first}
use Rattle.std.proofs.lemmas.List.{length-map}
use Rattle.std.proofs.lemmas.Fmt.{decimal_nonempty}
use Rattle.dp_lang.specs.declared.form.Form.{Form}
use Rattle.dp_lang.specs.declared.form.Form.TheVariants.{Alloc}
use Rattle.dp_lang.specs.declared.form.OperandKind.{OperandKind}
use Rattle.dp_lang.specs.Arguments.{Argument, packet, register, constant, label}
use Rattle.dp_lang.specs.Forms.{word_of, kinds_of, form_of, Statement}
use Rattle.dp_lang.specs.Kinds.{is_of, all_of}
use Rattle.dp_lang.specs.Lines.{is_blank, is_comma, trim, word_in, operands_in}
use Rattle.dp_lang.specs.Printing.{argument_text, arguments_text}
use Rattle.dp_lang.specs.Reading.{each_argument, arguments_of, with_form, statement_of}
use Rattle.dp_lang.proofs.Bytes.{Free, is_plain, plain_blank, plain_comma, all_implies, and_left, and_right}
use Rattle.dp_lang.proofs.LineCuts.{split_at, split_none, before_at, before_none, after_at, after_none, begins, free_begins, free_ends, trim_none}
use Rattle.dp_lang.proofs.Joins.{beyond, arguments_text-beyond}
use Rattle.dp_lang.proofs.Operands.{named, is_small, fits_64, argument_plain, argument_read}

-- ---- words

pub word_plain : (f : Form) → list_all is_plain (word_of f) ≡ true
word_plain Alloc = refl
word_plain _ = refl

pub word_some : (f : Form) → 0 < length (word_of f)
word_some Alloc = omega arith
word_some _ = omega arith

pub form_of_word : (f : Form) → form_of (word_of f) ≡ Some f
unfolding form_of
form_of_word Alloc = refl
form_of_word _ = refl

-- ---- operands

pub argument_some : (a : Argument ℕ) → is_small a ≡ true → 0 < length (argument_text a)
argument_some (packet p) h = omega arith
argument_some (register r) h = omega arith
argument_some (constant n) h = decimal_nonempty n (fits_64 n h)
argument_some (label l) h = omega arith

pub free_blank : (a : Argument ℕ) → is_small a ≡ true → Free is_blank (argument_text a)
free_blank a h = all_implies is_plain (λ b. not (is_blank b)) plain_blank (argument_text a) (argument_plain a h)

free_comma : (a : Argument ℕ) → is_small a ≡ true → Free is_comma (argument_text a)
free_comma a h = all_implies is_plain (λ b. not (is_comma b)) plain_comma (argument_text a) (argument_plain a h)

trimmed : (a : Argument ℕ) → is_small a ≡ true → trim (argument_text a) ≡ argument_text a
trimmed a h = trim_none (argument_text a) (free_begins (argument_text a) (argument_some a h) (free_blank a h))
    (free_ends (argument_text a) (argument_some a h) (free_blank a h))

as_many : (ks : List OperandKind) (as' : List (Argument ℕ)) → all_of ks as' ≡ true → length ks ≡ length as'
as_many [] [] h = refl
as_many [] (a ∷ as') h = absurd cc
as_many (k ∷ ks) [] h = absurd cc
as_many (k ∷ ks) (a ∷ as') h = ap suc (as_many ks as' (and_right (is_of k a) (all_of ks as') h))

each_read : (ks : List OperandKind) (as' : List (Argument ℕ)) → all_of ks as' ≡ true → list_all is_small as' ≡ true → each_argument ks (map argument_text as')
    ≡ Ok (map named as')
each_read [] [] h s = refl
each_read [] (a ∷ as') h s = absurd cc
each_read (k ∷ ks) [] h s = absurd cc
each_read (k ∷ ks) (a ∷ as') h s =
    let small : is_small a ≡ true = and_left (is_small a) (list_all is_small as') s in
    rw (
      trimmed a small,
      argument_read k a (and_left (is_of k a) (all_of ks as') h) small,
      each_read ks as' (and_right (is_of k a) (all_of ks as') h) (and_right (is_small a) (list_all is_small as') s),
    ) refl

arguments_read : (ks : List OperandKind) (as' : List (Argument ℕ)) → all_of ks as' ≡ true → list_all is_small as' ≡ true → arguments_of ks
    (map argument_text as')
    ≡ Ok (map named as')
arguments_read ks as' h s = rw (eq-eqb (length ks) (length (map argument_text as')) (as_many ks as' h ∙ sym (length-map as' argument_text)))
    (each_read ks as' h s)

-- operands after commas are split at these
parts : (a : Argument ℕ) (as' : List (Argument ℕ)) → list_all is_small (a ∷ as') ≡ true → slice_split is_comma (argument_text a ++ beyond (44 ∷ []) as')
    ≡ map argument_text (a ∷ as')
parts a [] s = ap (slice_split is_comma) (append-nil (argument_text a)) ∙ split_none is_comma (argument_text a) (free_comma a (and_left (is_small a) true s))
parts a (b ∷ bs) s =
    split_at is_comma (argument_text a) 44 (argument_text b ++ beyond (44 ∷ []) bs) (free_comma a (and_left (is_small a) (list_all is_small (b ∷ bs)) s)) refl
    ∙ ap (λ ps. argument_text a ∷ ps) (parts b bs (and_right (is_small a) (list_all is_small (b ∷ bs)) s))

not_blank : (s t : List ℕ) → begins s ≡ true → list_all is_blank (s ++ t) ≡ false
not_blank [] t h = absurd cc
not_blank (b ∷ s) t h = blank_first (is_blank b) (list_all is_blank (s ++ t)) h
  where
    blank_first : (b c : Bool) → not b ≡ true → (b && c) ≡ false
    blank_first true c h = absurd cc
    blank_first false c h = refl

operands_read : (a : Argument ℕ) (as' : List (Argument ℕ)) → list_all is_small (a ∷ as') ≡ true → operands_in (argument_text a ++ beyond (44 ∷ []) as')
    ≡ map argument_text (a ∷ as')
operands_read a as' s =
    let small : is_small a ≡ true = and_left (is_small a) (list_all is_small as') s in
    rw (not_blank (argument_text a) (beyond (44 ∷ []) as') (free_begins (argument_text a) (argument_some a small) (free_blank a small))) (parts a as' s)

-- ---- instructions

pub named_statement : Form → List (Argument ℕ) → Statement (List ℕ)
named_statement f as' = record { form = f; arguments = map named as' }

statement_cons : (t : List ℕ) → 0 < length t → statement_of t ≡ with_form (operands_in (after_first is_blank t)) (form_of (word_in t))
unfolding statement_of
statement_cons [] l = absurd (omega arith)
statement_cons (b ∷ t) l = refl

form_read : (f : Form) (as' : List (Argument ℕ)) (ps : List (List ℕ)) (w : List ℕ) → all_of (kinds_of f) as' ≡ true → list_all is_small as' ≡ true →
    ps ≡ map argument_text as' → w ≡ word_of f
    → with_form ps (form_of w) ≡ Ok (Some (record { form = f; arguments = map named as' }))
form_read f as' ps w h s e k = rw (e, k, form_of_word f, arguments_read (kinds_of f) as' h s) refl

pub free_word : (f : Form) → Free is_blank (word_of f)
free_word f = all_implies is_plain (λ b. not (is_blank b)) plain_blank (word_of f) (word_plain f)

pub statement_read : (f : Form) (as' : List (Argument ℕ)) → all_of (kinds_of f) as' ≡ true → list_all is_small as' ≡ true
    → statement_of (word_of f ++ arguments_text as') ≡ Ok (Some (record { form = f; arguments = map named as' }))
statement_read f [] h s =
    ap statement_of (append-nil (word_of f))
    ∙ statement_cons (word_of f) (word_some f)
    ∙ form_read f [] (operands_in (after_first is_blank (word_of f))) (word_in (word_of f)) h s
    (ap operands_in (after_none is_blank (word_of f) (free_word f))) (before_none is_blank (word_of f) (free_word f))
statement_read f (a ∷ as') h s =
    let rest = argument_text a ++ beyond (44 ∷ []) as' in
    let t = word_of f ++ 32 ∷ rest in
    ap (λ r. statement_of (word_of f ++ r)) (arguments_text-beyond (a ∷ as'))
    ∙ statement_cons t (omega (arith, length-append (word_of f) (32 ∷ rest)))
    ∙ form_read f (a ∷ as') (operands_in (after_first is_blank t)) (word_in t) h s
    (ap operands_in (after_at is_blank (word_of f) 32 rest (free_word f) refl) ∙ operands_read a as' s)
    (before_at is_blank (word_of f) 32 rest (free_word f) refl)
