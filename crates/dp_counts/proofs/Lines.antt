-- One more element of a list that is said.
use Rattle.std.proofs.Common.{◌≡◌, ℕ, zero, suc, ◌+◌, ◌<◌, List, [], ◌∷◌, ◌++◌, length, take, Some, sym, ◌∙◌, ap, subst, arith}
use Rattle.std.proofs.Common.{append_assoc, append-nil, add-one, get_or}
use Rattle.std.specs.Prelude.{slice_get}
use Rattle.std.specs.List.{flat_map}
use Rattle.std.proofs.lemmas.Option.{same_Some, slice_get-get_or}
use Rattle.dp_console.specs.{declared.reply.Text.Text, Replies.Says}
use Rattle.dp_counts.specs.Totals.{lines_from}

pub says_nothing : (text : Text) → Says text text (Some [])
says_nothing text whole = (whole, sym (append-nil text.bytes.items))

-- one text after the other
pub says_both : (old mid new : Text) (a b : List ℕ) → Says old mid (Some a) → Says mid new (Some b) → Says old new (Some (a ++ b))
says_both old mid new a b first second whole =
    let s = second whole in
    let f = first s.0 in
    (f.0, s.1 ∙ (ap (λ (l : List ℕ). l ++ b) f.1 ∙ append_assoc old.bytes.items a b))

flat_more : {A B : Type 0} (f : A → List B) (xs : List A) (i : ℕ) (x : A) → slice_get xs i ≡ Some x
    → flat_map f (take (suc i) xs) ≡ flat_map f (take i xs) ++ f x
flat_more f [] i x e = cc
flat_more f (y ∷ xs) zero x e = append-nil (f y) ∙ ap f (same_Some y x e)
flat_more f (y ∷ xs) (suc i) x e = ap (λ l. f y ++ l) (flat_more f xs i x e) ∙ sym (append_assoc (f y) (flat_map f (take i xs)) (f x))

-- one more piece
pub says_piece : {A : Type 0} (a b d : Text) (line : A → List ℕ) (xs : List A) (i : ℕ) (x : A) → slice_get xs i ≡ Some x
    → Says a b (Some (flat_map line (take i xs))) → Says b d (Some (line x)) → Says a d (Some (flat_map line (take (i + 1) xs)))
says_piece a b d line xs i x here before now =
    subst (λ (w : List ℕ). Says a d (Some w)) (sym (flat_more line xs i x here) ∙ ap (λ n. flat_map line (take n xs)) (sym (add-one i)))
    (says_both a b d (flat_map line (take i xs)) (line x) before now)

lines_more : {A : Type 0} (line : ℕ → A → List ℕ) (k : ℕ) (xs : List A) (i : ℕ) (x : A) → slice_get xs i ≡ Some x
    → lines_from line k (take (suc i) xs) ≡ lines_from line k (take i xs) ++ line (k + i) x
lines_more line k [] i x e = cc
lines_more line k (y ∷ xs) zero x e =
    let here : k ≡ k + 0 = omega arith in
    append-nil (line k y) ∙ ap (line k) (same_Some y x e) ∙ ap (λ n. line n x) here
lines_more line k (y ∷ xs) (suc i) x e =
    let here : suc k + i ≡ k + suc i = omega arith in
    ap (λ l. line k y ++ l) (lines_more line (suc k) xs i x e) ∙ sym (append_assoc (line k y) (lines_from line (suc k) (take i xs)) (line (suc k + i) x))
    ∙ ap (λ n. (line k y ++ lines_from line (suc k) (take i xs)) ++ line n x) here

-- one more numbered line
pub says_line : {A : Type 0} (a b d : Text) (line : ℕ → A → List ℕ) (xs : List A) (i : ℕ) (other : A) → i < length xs
    → Says a b (Some (lines_from line 0 (take i xs))) → Says b d (Some (line i (get_or xs i other)))
    → Says a d (Some (lines_from line 0 (take (i + 1) xs)))
says_line a b d line xs i other lt before now =
    let x = get_or xs i other in
    let own : i ≡ 0 + i = omega arith in
    subst (λ (w : List ℕ). Says a d (Some w))
    (ap (λ n. lines_from line 0 (take i xs) ++ line n x) own ∙ sym (lines_more line 0 xs i x (slice_get-get_or xs i other lt))
    ∙ ap (λ n. lines_from line 0 (take n xs)) (sym (add-one i)))
    (says_both a b d (lines_from line 0 (take i xs)) (line i x) before now)
