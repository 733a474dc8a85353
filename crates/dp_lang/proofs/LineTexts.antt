-- The printed lines read as what was printed.
use Rattle.std.proofs.Common.{◌≡◌, ℕ, ◌^◌, ◌<◌, true, false, not, List, [], ◌∷◌, ◌++◌, length, map, Ok, refl, ap, ◌∙◌, append-nil}
use Rattle.std.specs.List.{list_all, slice_split}
use Rattle.std.specs.FinMap.{insert, contains_key}
use Rattle.std.proofs.lemmas.Bool.{lt-ltb}
use Rattle.dp_lang.specs.declared.form.Form.{Form}
use Rattle.dp_lang.specs.Arguments.{Argument}
use Rattle.dp_lang.specs.Forms.{word_of, kinds_of}
use Rattle.dp_lang.specs.Kinds.{all_of}
use Rattle.dp_lang.specs.Lines.{is_text, is_hash, is_colon, trim, pieces}
use Rattle.dp_lang.specs.Printing.{argument_text, arguments_text, label_name}
use Rattle.dp_lang.specs.Reading.{ProgramSource, statement_of, line_of}
use Rattle.dp_lang.proofs.Bytes.{Free, is_ink, ink, inked, all_append, and_left, and_right}
use Rattle.dp_lang.proofs.LineCuts.{split_at, split_none, before_none, begins, ends, free_begins, free_ends, ends_append, trim_none, trim_start_none}
use Rattle.dp_lang.proofs.Joins.{beyond, arguments_text-beyond}
use Rattle.dp_lang.proofs.Operands.{named, is_small, argument_plain, name_label, plain_digits}
use Rattle.dp_lang.proofs.StatementTexts.{word_plain, word_some, argument_some, free_blank, free_word, statement_read}

begins_append : (s t : List ℕ) → begins s ≡ true → begins (s ++ t) ≡ true
begins_append [] t h = absurd cc
begins_append (b ∷ s) t h = h

-- ---- the bytes of an instruction's line

after_ink : (before : List ℕ) (as' : List (Argument ℕ)) → list_all is_ink before ≡ true → list_all is_small as' ≡ true → list_all is_ink (beyond before as')
    ≡ true
after_ink before [] h s = refl
after_ink before (a ∷ as') h s =
    all_append is_ink before (argument_text a ++ beyond (44 ∷ []) as') h
    (all_append is_ink (argument_text a) (beyond (44 ∷ []) as') (ink (argument_text a) (argument_plain a (and_left (is_small a) (list_all is_small as') s)))
    (after_ink (44 ∷ []) as' refl (and_right (is_small a) (list_all is_small as') s)))

after_ends : (before : List ℕ) (a : Argument ℕ) (as' : List (Argument ℕ)) → list_all is_small (a ∷ as') ≡ true → ends (beyond before (a ∷ as')) ≡ true
after_ends before a [] s =
    let small : is_small a ≡ true = and_left (is_small a) true s in
    ends_append before (argument_text a ++ []) (ap ends (append-nil (argument_text a))
    ∙ free_ends (argument_text a) (argument_some a small) (free_blank a small))
after_ends before a (b ∷ bs) s =
    ends_append before (argument_text a ++ beyond (44 ∷ []) (b ∷ bs)) (ends_append (argument_text a) (beyond (44 ∷ []) (b ∷ bs))
    (after_ends (44 ∷ []) b bs (and_right (is_small a) (list_all is_small (b ∷ bs)) s)))

arguments_ink : (as' : List (Argument ℕ)) → list_all is_small as' ≡ true → list_all is_ink (arguments_text as') ≡ true
arguments_ink as' s = ap (list_all is_ink) (arguments_text-beyond as') ∙ after_ink (32 ∷ []) as' refl s

pub text_ink : (f : Form) (as' : List (Argument ℕ)) → list_all is_small as' ≡ true → list_all is_ink (word_of f ++ arguments_text as') ≡ true
text_ink f as' s = all_append is_ink (word_of f) (arguments_text as') (ink (word_of f) (word_plain f)) (arguments_ink as' s)

text_begins : (f : Form) (t : List ℕ) → begins (word_of f ++ t) ≡ true
text_begins f t = begins_append (word_of f) t (free_begins (word_of f) (word_some f) (free_word f))

text_ends : (f : Form) (as' : List (Argument ℕ)) → list_all is_small as' ≡ true → ends (word_of f ++ arguments_text as') ≡ true
text_ends f [] s = ap ends (append-nil (word_of f)) ∙ free_ends (word_of f) (word_some f) (free_word f)
text_ends f (a ∷ as') s = ap (λ r. ends (word_of f ++ r)) (arguments_text-beyond (a ∷ as'))
    ∙ ends_append (word_of f) (beyond (32 ∷ []) (a ∷ as')) (after_ends (32 ∷ []) a as' s)

-- a text without comments and without blanks around it is cut only at its colons
one_piece : (t : List ℕ) → Free is_hash t → begins t ≡ true → ends t ≡ true → pieces t ≡ slice_split is_colon t
one_piece t h b e = ap (λ r. slice_split is_colon (trim r)) (before_none is_hash t h) ∙ ap (slice_split is_colon) (trim_none t b e)

-- ---- an instruction's line

pub line_statement : (line : ℕ) (source : ProgramSource) (f : Form) (as' : List (Argument ℕ)) → all_of (kinds_of f) as' ≡ true → list_all is_small as' ≡ true →
    length source.statements < 1024
    → line_of line source (word_of f ++ arguments_text as') ≡ Ok (record {
      labels = source.labels;
      statements = source.statements
          ++ (line, record { form = f; arguments = map named as' }) ∷ [];
    })
unfolding line_of
line_statement line source f as' h s few =
    let t = word_of f ++ arguments_text as' in
    let bytes = inked t (text_ink f as' s) in
    let begun : begins t ≡ true = text_begins f (arguments_text as') in
    let cut : pieces t ≡ t ∷ [] =
    one_piece t bytes.hash begun (text_ends f as' s) ∙ split_none is_colon t bytes.colon in
    rw (bytes.text, cut, trim_start_none t begun, statement_read f as' h s, lt-ltb (length source.statements) 1024 few) refl

-- ---- a label's line

pub line_label : (line : ℕ) (source : ProgramSource) (n : ℕ) → n < 2 ^ 64 → contains_key source.labels (label_name n) ≡ false
    → line_of line source (label_name n ++ 58 ∷ []) ≡ Ok (record {
      labels = insert source.labels (label_name n) (length source.statements);
      statements = source.statements;
    })
unfolding line_of statement_of
line_label line source n small new =
    let name = label_name n in
    let t = name ++ 58 ∷ [] in
    let bytes = inked name (ink name (plain_digits n small)) in
    let cut : pieces t ≡ name ∷ [] ∷ [] =
    one_piece t (all_append (λ b. not (is_hash b)) name (58 ∷ []) bytes.hash refl) refl (ends_append name (58 ∷ []) refl)
    ∙ split_at is_colon name 58 [] bytes.colon refl in
    rw (all_append is_text name (58 ∷ []) bytes.text refl, cut, name_label n small, new) refl

-- ---- an empty line

pub line_empty : (line : ℕ) (source : ProgramSource) → line_of line source [] ≡ Ok source
unfolding line_of statement_of
line_empty line source = refl
