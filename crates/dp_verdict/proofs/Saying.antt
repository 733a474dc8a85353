-- Findings are said one after another, and nodes are listed so.
use Rattle.std.proofs.Common.{◌≡◌, ℕ, ◌+◌, List, [], ◌∷◌, ◌++◌, take, Option, Some, None}
use Rattle.std.proofs.Common.{sym, ◌∙◌, ap, append_assoc, append-nil, add-one, map, slice_get, subst}
use Rattle.std.proofs.KnownBytes.{Appends-trans}
use Rattle.std.specs.Io.KnownBytes.{Appends}
use Rattle.std.specs.List.{flat_map}
use Rattle.std.specs.Prelude.{IfSome}
use Rattle.dp_model.specs.Laws.Lists.{take_more}
use Rattle.std.proofs.lemmas.List.{flat_map_more, map-append}
use Rattle.dp_console.specs.{declared.reply.Text.Text, Replies.Says}
use Rattle.dp_verdict.specs.Reports.{join}

both : (o m n : List ℕ) (a b : Option (List ℕ)) → IfSome a (λ w. m ≡ o ++ w) → IfSome b (λ w. n ≡ m ++ w) → IfSome (join a b) (λ w. n ≡ o ++ w)
both o m n None b x y = tt
both o m n (Some a) None x y = tt
both o m n (Some a) (Some b) x y = y ∙ (ap (λ (l : List ℕ). l ++ b) x ∙ append_assoc o a b)

pub says_nothing : (text : Text) → Says text text (Some [])
says_nothing text whole = (whole, sym (append-nil text.bytes.items))

pub says_both : (old mid new : Text) (a b : Option (List ℕ)) → Says old mid a → Says mid new b → Says old new (join a b)
says_both old mid new a b first second whole =
    let s = second whole in
    let f = first s.0 in
    (f.0, both old.bytes.items mid.bytes.items new.bytes.items a b f.1 s.1)

-- one element more
pub map_next : {A B : Type 0} (f : A → B) (xs : List A) (i : ℕ) (x : A) (old new : List B) (y : B) → slice_get xs i ≡ Some x
    → old ≡ map f (take i xs) → new ≡ old ++ y ∷ [] → y ≡ f x → new ≡ map f (take (i + 1) xs)
map_next {A} {B} f xs i x old new y here before more is =
    more ∙ ap (λ (l : List B). l ++ y ∷ []) before ∙ ap (λ (z : B). map f (take i xs) ++ z ∷ []) is
    ∙ sym (map-append f (take i xs) (x ∷ [])) ∙ ap (λ (l : List A). map f l) (sym (take_more xs i x here))
    ∙ ap (λ (n : ℕ). map f (take n xs)) (sym (add-one i))

-- one line more is written
pub line_next : {A : Type 0} (f : A → List ℕ) (xs : List A) (i : ℕ) (x : A) (a b d : Option (List ℕ)) → slice_get xs i ≡ Some x
    → Appends a b (flat_map f (take i xs)) → Appends b d (f x) → Appends a d (flat_map f (take (i + 1) xs))
line_next {A} f xs i x a b d here before now =
    subst (λ (n : ℕ). Appends a d (flat_map f (take n xs))) (sym (add-one i)) (subst (λ (l : List A). Appends a d (flat_map f l)) (sym (take_more xs i x here))
    (subst (Appends a d) (flat_map_more f [] (take i xs) x) (Appends-trans a b d _ _ before now)))
